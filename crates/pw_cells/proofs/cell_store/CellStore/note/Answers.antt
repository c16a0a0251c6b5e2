use Rattle.std.proofs.Common.{◌<◌, inr, sym, subst}
use Rattle.pw_facts.specs.declared.fact.Fact.{Fact}
use Rattle.pw_cells.specs.Cells.{Store}
use Rattle.pw_cells.specs.inside.Lately.{Notes, most_past}
use Rattle.pw_cells.proofs.Continuing.{noted}
use Rattle.pw_cells.proofs.cell_store.CellStore.note.Goals as goal

pub note_narrow-requires : goal.note_narrow-requires
note_narrow-requires g c = c.requires

pub forget-requires : goal.forget-requires
forget-requires g c = subst (λ (s : Store). s.arrivals.past < most_past) (sym {A = Store} c.self.view_is) c.requires

pub invariant_of-self : goal.invariant_of-self
invariant_of-self g c = c.self.invariant

pub returns-in-Some : goal.returns-in-Some
returns-in-Some g c =
    subst (λ (fact : Fact). Notes c.args.cell fact c.args.self.now c.note_narrow.new.self)
    (λ j. record { info = c.args.fact.now.info; support = c.in-Some.ensures.some j }) c.note_narrow.ensures

pub returns-in-None : goal.returns-in-None
returns-in-None g c = noted c.args.cell c.args.fact.now _ c.args.self.now c.forget.new.self c.self.view_is (inr c.forget.ensures)
