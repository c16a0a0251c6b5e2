use Rattle.std.proofs.Common.{◌≡◌, List, [], ◌∷◌, refl, sym, ◌∙◌, ap, subst, rules}
use Rattle.pw_facts.specs.declared.fact.Fact.{Fact}
use Rattle.pw_info.specs.declared.kind.Kind.TheVariants as kinds
use Rattle.pw_cells.specs.Cells.{Cell, fact_on, new_cell}
use Rattle.pw_cells.specs.inside.CellChanges.{KeepsFact}
use Rattle.pw_cells.specs.inside.OneCell.{cell_keeping}
use Rattle.pw_cells.specs.inside.Widths.{cell_of}
use Rattle.pw_cells.proofs.CellChanges.{is_news_so, keeps_so, keeps_then, still_then}
use Rattle.pw_cells.proofs.One.{first_kept}
use Rattle.pw_cells.proofs.Stores.{OnErr_always}
use Rattle.pw_cells.proofs.cell_facts.CellFacts.keep_few_news.Goals as goal

pub held-fact-requires : goal.held-fact-requires
held-fact-requires g c =
    let same : c.in-One.one ≡ c.args.self.now = ap cell_of (sym c.in-One.is) ∙ c.self.view_is in
    c.requires.kind ∙ sym (ap (λ (x : Cell). x.kind) same)

pub held-requires : goal.held-requires
held-requires g c =
    let same : c.in-FewIntervals.few ≡ c.args.self.now = ap cell_of (sym c.in-FewIntervals.is) ∙ c.self.view_is in
    c.requires.kind ∙ sym (ap (λ (x : Cell). x.kind) same)

pub held-requires-then-has_room : goal.held-requires-then-has_room
held-requires-then-has_room g c =
    let same : c.in-FewIntervals.few ≡ c.args.self.now = ap cell_of (sym c.in-FewIntervals.is) ∙ c.self.view_is in
    c.requires.kind ∙ sym (ap (λ (x : Cell). x.kind) same)

pub held-requires-then-has_room-2 : goal.held-requires-then-has_room-2
held-requires-then-has_room-2 g c =
    let same : c.in-Few.few ≡ c.args.self.now = ap cell_of (sym c.in-Few.is) ∙ c.self.view_is in
    c.requires.kind ∙ sym (ap (λ (x : Cell). x.kind) same)

pub listed_with-requires : goal.listed_with-requires
listed_with-requires g c =
    let fact = fact_on c.args.info.now c.args.support in
    let same : c.in-One.one ≡ c.args.self.now = ap cell_of (sym c.in-One.is) ∙ c.self.view_is in
    is_news_so fact c.held-fact.result _ _ same c.held-fact.ensures c.requires

pub keep_news-requires : goal.keep_news-requires
keep_news-requires g c =
    let fact = fact_on c.args.info.now c.args.support in
    let same : c.in-FewIntervals.few ≡ c.args.self.now = ap cell_of (sym c.in-FewIntervals.is) ∙ c.self.view_is in
    is_news_so fact c.held-then-has_room.result _ _ same c.held-then-has_room.ensures c.requires

pub keep_news-requires-then-has_room-2 : goal.keep_news-requires-then-has_room-2
keep_news-requires-then-has_room-2 g c =
    let fact = fact_on c.args.info.now c.args.support in
    let same : c.in-Few.few ≡ c.args.self.now = ap cell_of (sym c.in-Few.is) ∙ c.self.view_is in
    is_news_so fact c.held-then-has_room-2.result _ _ same c.held-then-has_room-2.ensures c.requires

pub keep_news-requires-in-Many : goal.keep_news-requires-in-Many
keep_news-requires-in-Many g c =
    let fact = fact_on c.args.info.now c.args.support in
    let same : c.deref_mut.result.now ≡ c.args.self.now = c.deref_mut.ensures.value ∙ ap cell_of (sym c.in-Many.is) ∙ c.self.view_is in
    is_news_so fact fact _ _ same refl c.requires

pub with_news-requires : goal.with_news-requires
with_news-requires g c =
    let fact = fact_on c.args.info.now c.args.support in
    let same : c.in_ok-boxed_intervals-in-FewIntervals.field-0.value ≡ c.args.self.now =
    c.in_ok-boxed_intervals-in-FewIntervals.ensures ∙ ap cell_of (sym c.in-FewIntervals.is) ∙ c.self.view_is in
    is_news_so fact fact _ _ same refl c.requires

pub with_news-requires-in-Few : goal.with_news-requires-in-Few
with_news-requires-in-Few g c =
    let fact = fact_on c.args.info.now c.args.support in
    let same : c.in_ok-boxed-in-Few.field-0.value ≡ c.args.self.now = c.in_ok-boxed-in-Few.ensures ∙ ap cell_of (sym c.in-Few.is) ∙ c.self.view_is in
    is_news_so fact fact _ _ same refl c.requires

pub returns-in_ok-listed_with-in-One-clause-kept : goal.returns-in_ok-listed_with-in-One-clause-kept
returns-in_ok-listed_with-in-One-clause-kept g c =
    let fact = fact_on c.args.info.now c.args.support in
    let same : c.in-One.one ≡ c.args.self.now = ap cell_of (sym c.in-One.is) ∙ c.self.view_is in
    keeps_so fact c.held-fact.result _ _ c.in_ok-listed_with-in-One.field-0 same c.held-fact.ensures c.in_ok-listed_with-in-One.ensures

pub returns-then-is_empty-clause-kept : goal.returns-then-is_empty-clause-kept
returns-then-is_empty-clause-kept g c =
    let fact = fact_on c.args.info.now c.args.support in
    let same : c.in-FewIntervals.few ≡ c.args.self.now = ap cell_of (sym c.in-FewIntervals.is) ∙ c.self.view_is in
    let told : [] ≡ c.args.self.now.told = search rules in
    let kind : kinds.Interval ≡ c.args.self.now.kind = search rules in
    let none : [] ≡ c.args.self.now.kept = sym {A = List Fact} (c.is_empty.ensures c.if-is_empty.true) ∙ ap (λ (x : Cell). x.kept) same in
    let old : new_cell kinds.Interval ≡ c.args.self.now = λ i. record { kind = kind i; told = told i; kept = none i } in
    let new : cell_keeping kinds.Interval (fact ∷ []) ≡ c.new.result = ap (λ (x : Fact). cell_keeping kinds.Interval (x ∷ [])) (sym {A = Fact} c.held.ensures) ∙ sym {A = Cell} c.new.ensures in
    subst (λ (x : Cell). KeepsFact fact x c.new.result) old
    (subst (KeepsFact fact (new_cell kinds.Interval)) new (first_kept kinds.Interval fact (c.requires.kind ∙ sym kind)))

pub returns-then-has_room-clause-kept : goal.returns-then-has_room-clause-kept
returns-then-has_room-clause-kept g c =
    let fact = fact_on c.args.info.now c.args.support in
    let same : c.in-FewIntervals.few ≡ c.args.self.now = ap cell_of (sym c.in-FewIntervals.is) ∙ c.self.view_is in
    keeps_then c.keep_news.result fact c.held-then-has_room.result _ _ c.keep_news.new.self same c.held-then-has_room.ensures c.keep_news.ensures.kept

pub returns-then-has_room-clause-err : goal.returns-then-has_room-clause-err
returns-then-has_room-clause-err g c =
    let same : c.in-FewIntervals.few ≡ c.args.self.now = ap cell_of (sym c.in-FewIntervals.is) ∙ c.self.view_is in
    still_then c.keep_news.result _ _ c.keep_news.new.self same c.keep_news.ensures.err

pub returns-then-has_room-2-clause-kept : goal.returns-then-has_room-2-clause-kept
returns-then-has_room-2-clause-kept g c =
    let fact = fact_on c.args.info.now c.args.support in
    let same : c.in-Few.few ≡ c.args.self.now = ap cell_of (sym c.in-Few.is) ∙ c.self.view_is in
    keeps_then c.keep_news-then-has_room-2.result fact c.held-then-has_room-2.result _ _ c.keep_news-then-has_room-2.new.self same c.held-then-has_room-2.ensures c.keep_news-then-has_room-2.ensures.kept

pub returns-then-has_room-2-clause-err : goal.returns-then-has_room-2-clause-err
returns-then-has_room-2-clause-err g c =
    let same : c.in-Few.few ≡ c.args.self.now = ap cell_of (sym c.in-Few.is) ∙ c.self.view_is in
    still_then c.keep_news-then-has_room-2.result _ _ c.keep_news-then-has_room-2.new.self same c.keep_news-then-has_room-2.ensures.err

pub returns-in-Many-clause-kept : goal.returns-in-Many-clause-kept
returns-in-Many-clause-kept g c =
    let fact = fact_on c.args.info.now c.args.support in
    let same : c.deref_mut.result.now ≡ c.args.self.now = c.deref_mut.ensures.value ∙ ap cell_of (sym c.in-Many.is) ∙ c.self.view_is in
    keeps_then c.keep_news-in-Many.result fact fact _ _ c.keep_news-in-Many.new.self same refl c.keep_news-in-Many.ensures.kept

pub returns-in-Many-clause-err : goal.returns-in-Many-clause-err
returns-in-Many-clause-err g c =
    let same : c.deref_mut.result.now ≡ c.args.self.now = c.deref_mut.ensures.value ∙ ap cell_of (sym c.in-Many.is) ∙ c.self.view_is in
    still_then c.keep_news-in-Many.result _ _ c.keep_news-in-Many.new.self same c.keep_news-in-Many.ensures.err

pub returns-in_ok-with_news-in-FewIntervals-clause-kept : goal.returns-in_ok-with_news-in-FewIntervals-clause-kept
returns-in_ok-with_news-in-FewIntervals-clause-kept g c =
    let fact = fact_on c.args.info.now c.args.support in
    let same : c.in_ok-boxed_intervals-in-FewIntervals.field-0.value ≡ c.args.self.now =
    c.in_ok-boxed_intervals-in-FewIntervals.ensures ∙ ap cell_of (sym c.in-FewIntervals.is) ∙ c.self.view_is in
    keeps_so fact fact _ _ c.in_ok-with_news-in-FewIntervals.field-0.value same refl c.in_ok-with_news-in-FewIntervals.ensures

pub returns-in_ok-with_news-in-Few-clause-kept : goal.returns-in_ok-with_news-in-Few-clause-kept
returns-in_ok-with_news-in-Few-clause-kept g c =
    let fact = fact_on c.args.info.now c.args.support in
    let same : c.in_ok-boxed-in-Few.field-0.value ≡ c.args.self.now = c.in_ok-boxed-in-Few.ensures ∙ ap cell_of (sym c.in-Few.is) ∙ c.self.view_is in
    keeps_so fact fact _ _ c.in_ok-with_news-in-Few.field-0.value same refl c.in_ok-with_news-in-Few.ensures

pub returns-in_err-listed_with-in-One-clause-err : goal.returns-in_err-listed_with-in-One-clause-err
returns-in_err-listed_with-in-One-clause-err g c =
    let same : c.in-One.one ≡ c.args.self.now = ap cell_of (sym c.in-One.is) ∙ c.self.view_is in
    OnErr_always c.from_residual.result same

pub returns-in_err-boxed_intervals-in-FewIntervals-clause-err : goal.returns-in_err-boxed_intervals-in-FewIntervals-clause-err
returns-in_err-boxed_intervals-in-FewIntervals-clause-err g c =
    let same : c.in-FewIntervals.few ≡ c.args.self.now = ap cell_of (sym c.in-FewIntervals.is) ∙ c.self.view_is in
    OnErr_always c.from_residual-in_err-boxed_intervals-in-FewIntervals.result same

pub returns-in_err-with_news-in-FewIntervals-clause-err : goal.returns-in_err-with_news-in-FewIntervals-clause-err
returns-in_err-with_news-in-FewIntervals-clause-err g c =
    let same : c.in-FewIntervals.few ≡ c.args.self.now = ap cell_of (sym c.in-FewIntervals.is) ∙ c.self.view_is in
    OnErr_always c.from_residual-in_err-with_news-in-FewIntervals.result same

pub returns-in_err-boxed-in-Few-clause-err : goal.returns-in_err-boxed-in-Few-clause-err
returns-in_err-boxed-in-Few-clause-err g c =
    let same : c.in-Few.few ≡ c.args.self.now = ap cell_of (sym c.in-Few.is) ∙ c.self.view_is in
    OnErr_always c.from_residual-in_err-boxed-in-Few.result same

pub returns-in_err-with_news-in-Few-clause-err : goal.returns-in_err-with_news-in-Few-clause-err
returns-in_err-with_news-in-Few-clause-err g c =
    let same : c.in-Few.few ≡ c.args.self.now = ap cell_of (sym c.in-Few.is) ∙ c.self.view_is in
    OnErr_always c.from_residual-in_err-with_news-in-Few.result same
