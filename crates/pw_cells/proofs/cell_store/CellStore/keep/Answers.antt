use Rattle.std.proofs.Common.{◌≡◌, List, inr, sym, ◌∙◌, ap, subst}
use Rattle.pw_kinds.proofs.Order.{not_both}
use Rattle.pw_cells.specs.Cells.{Cell, Store, told_at, told_in}
use Rattle.pw_cells.proofs.Continuing.{Gains, assimilates_noted, continues_noted, continues_same, gains_noted, remembers_noted, remembers_same, still_counts, told_unchanged}
use Rattle.pw_cells.proofs.cell_store.CellStore.keep.Given as given
use Rattle.pw_cells.proofs.cell_store.CellStore.keep.Goals as goal

-- what the store gains before the fact is noted
gains : (g : given.Over) (c : goal.After-note g) → Gains c.args.cell c.args.fact c.args.self.now c.take_in.new.self
gains g c = record {
  there = c.requires.there;
  kind = c.requires.kind;
  kept = c.in_ok-is_news.ensures.kept;
  told = told_unchanged c.args.cell c.args.fact c.args.self.now c.take_in.new.self c.requires.kind c.take_in.ensures.told;
  others = c.take_in.ensures.others;
  kinds = c.take_in.ensures.kinds;
}

-- and after it is noted
gains_still : (g : given.Over) (c : goal.After-note g) → Gains c.args.cell c.args.fact c.args.self.now c.note.new.self
gains_still g c = gains_noted c.args.cell c.args.fact c.args.self.now c.take_in.new.self c.note.new.self c.note.ensures (gains g c)

pub returns-then-is_news-clause-answer : goal.returns-then-is_news-clause-answer
returns-then-is_news-clause-answer g c = c.in_ok-is_news.ensures.answer

pub returns-then-is_news-clause-known : goal.returns-then-is_news-clause-known
returns-then-is_news-clause-known g c = λ old. absurd (not_both _ c.if-is_news.true old)

pub returns-then-is_news-clause-told : goal.returns-then-is_news-clause-told
returns-then-is_news-clause-told g c = λ w.
    subst (λ (l : List Cell). told_at l c.args.cell w ≡ told_in c.args.self.now c.args.cell w) (sym {A = List Cell} c.note.ensures.cells)
    (c.take_in.ensures.told w)

pub returns-then-is_news-clause-kept : goal.returns-then-is_news-clause-kept
returns-then-is_news-clause-kept g c = (gains_still g c).kept

pub returns-then-is_news-clause-others : goal.returns-then-is_news-clause-others
returns-then-is_news-clause-others g c = (gains_still g c).others

pub returns-then-is_news-clause-kinds : goal.returns-then-is_news-clause-kinds
returns-then-is_news-clause-kinds g c = (gains_still g c).kinds

pub returns-then-is_news-clause-room : goal.returns-then-is_news-clause-room
returns-then-is_news-clause-room g c = c.note.ensures.room ∙ c.take_in.ensures.room

pub returns-then-is_news-clause-remembers : goal.returns-then-is_news-clause-remembers
returns-then-is_news-clause-remembers g c =
    remembers_noted c.args.cell c.args.fact c.args.self.now c.take_in.new.self c.note.new.self c.take_in.ensures.arrivals c.note.ensures

pub returns-then-is_news-clause-continues : goal.returns-then-is_news-clause-continues
returns-then-is_news-clause-continues g c =
    continues_noted c.args.cell c.args.fact c.args.self.now c.take_in.new.self c.note.new.self c.take_in.ensures.arrivals c.note.ensures (gains g c)

pub returns-else-is_news-clause-answer : goal.returns-else-is_news-clause-answer
returns-else-is_news-clause-answer g c = c.in_ok-is_news.ensures.answer

pub returns-else-is_news-clause-known : goal.returns-else-is_news-clause-known
returns-else-is_news-clause-known g c = c.in_ok-is_news.ensures.known

pub returns-else-is_news-clause-kept : goal.returns-else-is_news-clause-kept
returns-else-is_news-clause-kept g c = c.in_ok-is_news.ensures.kept

pub returns-else-is_news-clause-assimilates : goal.returns-else-is_news-clause-assimilates
returns-else-is_news-clause-assimilates g c = c.in_ok-is_news.ensures.assimilates

pub returns-else-is_news-clause-told : goal.returns-else-is_news-clause-told
returns-else-is_news-clause-told g c = c.take_in.ensures.told

pub returns-else-is_news-clause-others : goal.returns-else-is_news-clause-others
returns-else-is_news-clause-others g c = c.take_in.ensures.others

pub returns-else-is_news-clause-kinds : goal.returns-else-is_news-clause-kinds
returns-else-is_news-clause-kinds g c = c.take_in.ensures.kinds

pub returns-else-is_news-clause-room : goal.returns-else-is_news-clause-room
returns-else-is_news-clause-room g c = c.take_in.ensures.room

pub returns-else-is_news-clause-remembers : goal.returns-else-is_news-clause-remembers
returns-else-is_news-clause-remembers g c = remembers_same c.args.cell c.args.fact c.args.self.now c.take_in.new.self c.take_in.ensures.arrivals

pub returns-else-is_news-clause-continues : goal.returns-else-is_news-clause-continues
returns-else-is_news-clause-continues g c =
    let same : c.take_in.new.self ≡ c.args.self.now = c.in_ok-is_news.ensures.known c.if-is_news.false in
    continues_same c.args.self.now c.take_in.new.self (ap (λ (s : Store). s.cells) same) c.take_in.ensures.arrivals

pub returns-in_err-is_news-clause-others : goal.returns-in_err-is_news-clause-others
returns-in_err-is_news-clause-others g c = c.take_in.ensures.others

pub returns-in_err-is_news-clause-kinds : goal.returns-in_err-is_news-clause-kinds
returns-in_err-is_news-clause-kinds g c = c.take_in.ensures.kinds

pub returns-in_err-is_news-clause-room : goal.returns-in_err-is_news-clause-room
returns-in_err-is_news-clause-room g c = c.take_in.ensures.room

pub returns-in_err-is_news-clause-remembers : goal.returns-in_err-is_news-clause-remembers
returns-in_err-is_news-clause-remembers g c = remembers_same c.args.cell c.args.fact c.args.self.now c.take_in.new.self c.take_in.ensures.arrivals

pub returns-in_err-is_news-clause-continues : goal.returns-in_err-is_news-clause-continues
returns-in_err-is_news-clause-continues g c =
    continues_same c.args.self.now c.take_in.new.self (ap (λ (s : Store). s.cells) c.in_err-is_news.ensures.err) c.take_in.ensures.arrivals

pub returns-then-is_news-clause-assimilates : goal.returns-then-is_news-clause-assimilates
returns-then-is_news-clause-assimilates g c =
    assimilates_noted c.args.cell c.args.fact c.args.self.now c.take_in.new.self c.note.new.self c.note.ensures c.in_ok-is_news.ensures.assimilates

pub returns-in_err-is_news-clause-told : goal.returns-in_err-is_news-clause-told
returns-in_err-is_news-clause-told g c = c.take_in.ensures.told

pub note-requires : goal.note-requires
note-requires g c =
    still_counts _ c.args.self.now c.take_in.new.self c.self.view_is c.take_in.ensures.arrivals (c.can_count.ensures c.if-not-can_count.false)

pub returns-then-not-can_count-clause-remembers : goal.returns-then-not-can_count-clause-remembers
returns-then-not-can_count-clause-remembers g c = λ a has. inr has

pub returns-then-not-can_count-clause-continues : goal.returns-then-not-can_count-clause-continues
returns-then-not-can_count-clause-continues g c = λ mark w count known was. was

pub take_in-requires-clause-there : goal.take_in-requires-clause-there
take_in-requires-clause-there g c = c.requires.there

pub take_in-requires-clause-kind : goal.take_in-requires-clause-kind
take_in-requires-clause-kind g c = c.requires.kind
