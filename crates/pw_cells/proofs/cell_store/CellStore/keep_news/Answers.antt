use Rattle.std.proofs.Common.{◌≡◌, List, inr, sym, ◌∙◌, ap, subst}
use Rattle.pw_cells.specs.Cells.{Cell, Store, fact_on, told_at, told_in}
use Rattle.pw_cells.proofs.Continuing.{Gains, assimilates_noted, continues_noted, continues_same, gains_noted, remembers_noted, remembers_same, still_counts, told_unchanged}
use Rattle.pw_cells.proofs.cell_store.CellStore.keep_news.Given as given
use Rattle.pw_cells.proofs.cell_store.CellStore.keep_news.Goals as goal

-- what the store gains before the fact is noted
gains : (g : given.Over) (c : goal.After-note_narrow g) → Gains c.args.cell (fact_on c.args.info.now c.args.support) c.args.self.now c.take_in_news.new.self
gains g c = record {
  there = c.requires.there;
  kind = c.requires.kind;
  kept = c.in_ok-take_in_news.ensures.kept;
  told = told_unchanged c.args.cell (fact_on c.args.info.now c.args.support) c.args.self.now c.take_in_news.new.self c.requires.kind c.take_in_news.ensures.told;
  others = c.take_in_news.ensures.others;
  kinds = c.take_in_news.ensures.kinds;
}

-- and after it is noted
gains_still : (g : given.Over) (c : goal.After-note_narrow g) → Gains c.args.cell (fact_on c.args.info.now c.args.support) c.args.self.now c.note_narrow.new.self
gains_still g c =
    gains_noted c.args.cell (fact_on c.args.info.now c.args.support) c.args.self.now c.take_in_news.new.self c.note_narrow.new.self c.note_narrow.ensures
    (gains g c)

pub returns-clause-told : goal.returns-clause-told
returns-clause-told g c = λ w.
    subst (λ (l : List Cell). told_at l c.args.cell w ≡ told_in c.args.self.now c.args.cell w) (sym {A = List Cell} c.note_narrow.ensures.cells)
    (c.take_in_news.ensures.told w)

pub returns-clause-kept : goal.returns-clause-kept
returns-clause-kept g c = (gains_still g c).kept

pub returns-clause-others : goal.returns-clause-others
returns-clause-others g c = (gains_still g c).others

pub returns-clause-remembers : goal.returns-clause-remembers
returns-clause-remembers g c =
    remembers_noted c.args.cell (fact_on c.args.info.now c.args.support) c.args.self.now c.take_in_news.new.self c.note_narrow.new.self c.take_in_news.ensures.arrivals
    c.note_narrow.ensures

pub returns-clause-continues : goal.returns-clause-continues
returns-clause-continues g c =
    continues_noted c.args.cell (fact_on c.args.info.now c.args.support) c.args.self.now c.take_in_news.new.self c.note_narrow.new.self c.take_in_news.ensures.arrivals
    c.note_narrow.ensures (gains g c)

pub returns-in_err-take_in_news-clause-others : goal.returns-in_err-take_in_news-clause-others
returns-in_err-take_in_news-clause-others g c = c.take_in_news.ensures.others

pub returns-in_err-take_in_news-clause-kinds : goal.returns-in_err-take_in_news-clause-kinds
returns-in_err-take_in_news-clause-kinds g c = c.take_in_news.ensures.kinds

pub returns-in_err-take_in_news-clause-room : goal.returns-in_err-take_in_news-clause-room
returns-in_err-take_in_news-clause-room g c = c.take_in_news.ensures.room

pub returns-in_err-take_in_news-clause-remembers : goal.returns-in_err-take_in_news-clause-remembers
returns-in_err-take_in_news-clause-remembers g c = remembers_same c.args.cell (fact_on c.args.info.now c.args.support) c.args.self.now c.take_in_news.new.self c.take_in_news.ensures.arrivals

pub returns-in_err-take_in_news-clause-continues : goal.returns-in_err-take_in_news-clause-continues
returns-in_err-take_in_news-clause-continues g c =
    continues_same c.args.self.now c.take_in_news.new.self (ap (λ (s : Store). s.cells) c.in_err-take_in_news.ensures.err) c.take_in_news.ensures.arrivals

pub returns-in_err-take_in_news-clause-told : goal.returns-in_err-take_in_news-clause-told
returns-in_err-take_in_news-clause-told g c = c.take_in_news.ensures.told

pub returns-clause-assimilates : goal.returns-clause-assimilates
returns-clause-assimilates g c =
    assimilates_noted c.args.cell (fact_on c.args.info.now c.args.support) c.args.self.now c.take_in_news.new.self c.note_narrow.new.self c.note_narrow.ensures
    c.in_ok-take_in_news.ensures.assimilates

pub returns-clause-kinds : goal.returns-clause-kinds
returns-clause-kinds g c = (gains_still g c).kinds

pub returns-clause-room : goal.returns-clause-room
returns-clause-room g c = c.note_narrow.ensures.room ∙ c.take_in_news.ensures.room

pub note_narrow-requires : goal.note_narrow-requires
note_narrow-requires g c =
    still_counts _ c.args.self.now c.take_in_news.new.self c.self.view_is c.take_in_news.ensures.arrivals (c.can_count.ensures c.if-not-can_count.false)

pub returns-then-not-can_count-clause-remembers : goal.returns-then-not-can_count-clause-remembers
returns-then-not-can_count-clause-remembers g c = λ a has. inr has

pub returns-then-not-can_count-clause-continues : goal.returns-then-not-can_count-clause-continues
returns-then-not-can_count-clause-continues g c = λ mark w count known was. was

pub take_in_news-requires-clause-there : goal.take_in_news-requires-clause-there
take_in_news-requires-clause-there g c = c.requires.there

pub take_in_news-requires-clause-kind : goal.take_in_news-requires-clause-kind
take_in_news-requires-clause-kind g c = c.requires.kind

pub take_in_news-requires-clause-news : goal.take_in_news-requires-clause-news
take_in_news-requires-clause-news g c = c.requires.news
