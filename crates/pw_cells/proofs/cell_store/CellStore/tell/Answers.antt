use Rattle.std.proofs.Common.{List, inr, sym, ◌∙◌, ap, subst}
use Rattle.pw_cells.specs.Cells.{Cell, Store, told_at, told_in}
use Rattle.pw_cells.specs.Changes.{GainsFact}
use Rattle.pw_cells.proofs.Continuing.{Gains, assimilates_noted, continues_noted, continues_same, gains_noted, remembers_noted, remembers_same, still_counts, told_gained}
use Rattle.pw_cells.proofs.cell_store.CellStore.tell.Given as given
use Rattle.pw_cells.proofs.cell_store.CellStore.tell.Goals as goal

-- what the store gains before the fact is noted
gains : (g : given.Over) (c : goal.After-note g) → Gains c.args.cell c.args.fact c.args.self.now c.take_told.new.self
gains g c = record {
  there = c.requires.there;
  kind = c.requires.kind;
  kept = c.in_ok-take_told.ensures.kept;
  told = told_gained c.args.cell c.args.fact c.args.self.now c.take_told.new.self c.in_ok-take_told.ensures.told;
  others = c.take_told.ensures.others;
  kinds = c.take_told.ensures.kinds;
}

-- and after it is noted
gains_still : (g : given.Over) (c : goal.After-note g) → Gains c.args.cell c.args.fact c.args.self.now c.note.new.self
gains_still g c = gains_noted c.args.cell c.args.fact c.args.self.now c.take_told.new.self c.note.new.self c.note.ensures (gains g c)

pub returns-clause-remembers : goal.returns-clause-remembers
returns-clause-remembers g c =
    remembers_noted c.args.cell c.args.fact c.args.self.now c.take_told.new.self c.note.new.self c.take_told.ensures.arrivals c.note.ensures

pub returns-clause-continues : goal.returns-clause-continues
returns-clause-continues g c =
    continues_noted c.args.cell c.args.fact c.args.self.now c.take_told.new.self c.note.new.self c.take_told.ensures.arrivals c.note.ensures (gains g c)

pub returns-in_err-take_told-clause-others : goal.returns-in_err-take_told-clause-others
returns-in_err-take_told-clause-others g c = c.take_told.ensures.others

pub returns-in_err-take_told-clause-kinds : goal.returns-in_err-take_told-clause-kinds
returns-in_err-take_told-clause-kinds g c = c.take_told.ensures.kinds

pub returns-in_err-take_told-clause-room : goal.returns-in_err-take_told-clause-room
returns-in_err-take_told-clause-room g c = c.take_told.ensures.room

pub returns-in_err-take_told-clause-remembers : goal.returns-in_err-take_told-clause-remembers
returns-in_err-take_told-clause-remembers g c = remembers_same c.args.cell c.args.fact c.args.self.now c.take_told.new.self c.take_told.ensures.arrivals

pub returns-in_err-take_told-clause-continues : goal.returns-in_err-take_told-clause-continues
returns-in_err-take_told-clause-continues g c =
    continues_same c.args.self.now c.take_told.new.self (ap (λ (s : Store). s.cells) c.in_err-take_told.ensures.err) c.take_told.ensures.arrivals

pub returns-clause-told : goal.returns-clause-told
returns-clause-told g c =
    subst (λ (l : List Cell). GainsFact c.args.fact (told_in c.args.self.now c.args.cell) (told_at l c.args.cell)) (sym {A = List Cell} c.note.ensures.cells)
    c.in_ok-take_told.ensures.told

pub returns-clause-kept : goal.returns-clause-kept
returns-clause-kept g c = (gains_still g c).kept

pub returns-clause-assimilates : goal.returns-clause-assimilates
returns-clause-assimilates g c =
    assimilates_noted c.args.cell c.args.fact c.args.self.now c.take_told.new.self c.note.new.self c.note.ensures c.in_ok-take_told.ensures.assimilates

pub returns-clause-others : goal.returns-clause-others
returns-clause-others g c = (gains_still g c).others

pub returns-clause-kinds : goal.returns-clause-kinds
returns-clause-kinds g c = (gains_still g c).kinds

pub returns-clause-room : goal.returns-clause-room
returns-clause-room g c = c.note.ensures.room ∙ c.take_told.ensures.room

pub note-requires : goal.note-requires
note-requires g c =
    still_counts _ c.args.self.now c.take_told.new.self c.self.view_is c.take_told.ensures.arrivals (c.can_count.ensures c.if-not-can_count.false)

pub returns-then-not-can_count-clause-remembers : goal.returns-then-not-can_count-clause-remembers
returns-then-not-can_count-clause-remembers g c = λ a has. inr has

pub returns-then-not-can_count-clause-continues : goal.returns-then-not-can_count-clause-continues
returns-then-not-can_count-clause-continues g c = λ mark w count known was. was

pub take_told-requires-clause-there : goal.take_told-requires-clause-there
take_told-requires-clause-there g c = c.requires.there

pub take_told-requires-clause-kind : goal.take_told-requires-clause-kind
take_told-requires-clause-kind g c = c.requires.kind
