use Rattle.std.proofs.Common.{◌≡◌, ◌⊎◌, ◌<◌, sym, subst}
use Rattle.pw_facts.specs.declared.fact.Fact.{Fact}
use Rattle.pw_cells.specs.Cells.{Store, fact_on}
use Rattle.pw_cells.specs.inside.Lately.{IsAfterArrival, IsForgotten, most_past}
use Rattle.pw_cells.proofs.Continuing.{noted}
use Rattle.pw_cells.proofs.cell_store.CellStore.note_narrow.Goals as goal

pub note-requires : goal.note-requires
note-requires g c = subst (λ (s : Store). s.arrivals.past < most_past) (sym {A = Store} c.self.view_is) c.requires

pub invariant_of-self : goal.invariant_of-self
invariant_of-self g c = c.self.invariant

pub returns : goal.returns
returns g c =
    let same : c.on.result ≡ fact_on c.args.info.now c.args.support = λ j. record { info = c.on.ensures.info j; support = c.on.ensures.support j } in
    noted c.args.cell (fact_on c.args.info.now c.args.support) _ c.args.self.now c.note.new.self c.self.view_is
    (subst (λ (fact : Fact). IsAfterArrival (record { cell = c.args.cell; fact = fact }) c.self.inside.arrivals c.note.new.self ⊎ IsForgotten c.self.inside.arrivals c.note.new.self) same
    c.note.ensures)
