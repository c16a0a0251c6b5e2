use Rattle.std.proofs.Common.{◌≡◌, false, refl, sym, ◌∙◌, ap, subst}
use Rattle.std.specs.Prelude.{IfOk}
use Rattle.pw_cells.specs.Cells.{Cell}
use Rattle.pw_cells.specs.Changes.{TellsNews}
use Rattle.pw_cells.specs.inside.Widths.{cell_of}
use Rattle.pw_cells.proofs.CellChanges.{keeps_so, keeps_then, still_then}
use Rattle.pw_cells.proofs.Stores.{OnErr_always}
use Rattle.pw_cells.proofs.cell_facts.CellFacts.keep.Given.{Over}
use Rattle.pw_cells.proofs.cell_facts.CellFacts.keep.Goals as goal
use Rattle.pw_cells.proofs.cell_facts.CellFacts.keep.Goals.{in-One+in_ok-listed-in-One+in_ok-many-in-One, in-FewIntervals+in_ok-many-in-FewIntervals, in-Few+in_ok-many-in-Few}

-- the facts in the box are the same cell
boxed_same : (g : Over) (c : goal.Joined-self-2 g) → c.match-self.many.value ≡ c.args.self.now
boxed_same g c = elim c.match-self.branch [
  | in-One+in_ok-listed-in-One+in_ok-many-in-One w ↦
      (λ j. (w.many-is j).value) ∙ w.in_ok-many-in-One.ensures ∙ w.in_ok-listed-in-One.ensures ∙ ap cell_of (sym w.in-One.is) ∙ c.self.view_is
  | in-FewIntervals+in_ok-many-in-FewIntervals w ↦
      (λ j. (w.many-is j).value) ∙ w.in_ok-many-in-FewIntervals.ensures ∙ ap cell_of (sym w.in-FewIntervals.is) ∙ c.self.view_is
  | in-Few+in_ok-many-in-Few w ↦
      (λ j. (w.many-is j).value) ∙ w.in_ok-many-in-Few.ensures ∙ ap cell_of (sym w.in-Few.is) ∙ c.self.view_is
]

-- they are so before they keep the fact too
boxed_before : (g : Over) (c : goal.After-deref_mut-2 g) → c.match-self.many.value ≡ c.args.self.now
boxed_before g c = elim c.match-self.branch [
  | in-One+in_ok-listed-in-One+in_ok-many-in-One w ↦
      (λ j. (w.many-is j).value) ∙ w.in_ok-many-in-One.ensures ∙ w.in_ok-listed-in-One.ensures ∙ ap cell_of (sym w.in-One.is) ∙ c.self.view_is
  | in-FewIntervals+in_ok-many-in-FewIntervals w ↦
      (λ j. (w.many-is j).value) ∙ w.in_ok-many-in-FewIntervals.ensures ∙ ap cell_of (sym w.in-FewIntervals.is) ∙ c.self.view_is
  | in-Few+in_ok-many-in-Few w ↦
      (λ j. (w.many-is j).value) ∙ w.in_ok-many-in-Few.ensures ∙ ap cell_of (sym w.in-Few.is) ∙ c.self.view_is
]

many_same : (g : Over) (c : goal.Joined-self-2 g) → c.deref_mut-2.result.now ≡ c.args.self.now
many_same g c = c.deref_mut-2.ensures.value ∙ boxed_same g c

pub returns-clause-answer : goal.returns-clause-answer
returns-clause-answer g c =
    subst (λ (cell : Cell). TellsNews cell.kept c.args.fact.now c.in_ok-news.news) (many_same g c) c.in_ok-news.ensures.answer

pub returns-clause-known : goal.returns-clause-known
returns-clause-known g c = λ old. c.in_ok-news.ensures.known old ∙ many_same g c

pub returns-clause-kept : goal.returns-clause-kept
returns-clause-kept g c = keeps_so c.args.fact.now c.args.fact.now _ _ c.keep-2.new.self (many_same g c) refl c.in_ok-news.ensures.kept

pub keep-requires : goal.keep-requires
keep-requires g c =
    let same : c.deref_mut.result.now ≡ c.args.self.now = c.deref_mut.ensures.value ∙ ap cell_of (sym c.in-Many.is) ∙ c.self.view_is in
    c.requires ∙ sym (ap (λ (x : Cell). x.kind) same)

pub keep-requires-2 : goal.keep-requires-2
keep-requires-2 g c =
    let same : c.deref_mut-2.result.now ≡ c.args.self.now = c.deref_mut-2.ensures.value ∙ boxed_before g c in
    c.requires ∙ sym (ap (λ (x : Cell). x.kind) same)

pub returns-in-Many-clause-answer : goal.returns-in-Many-clause-answer
returns-in-Many-clause-answer g c =
    let same : c.deref_mut.result.now ≡ c.args.self.now = c.deref_mut.ensures.value ∙ ap cell_of (sym c.in-Many.is) ∙ c.self.view_is in
    subst (λ (x : Cell). IfOk c.keep.result (TellsNews x.kept c.args.fact.now)) same c.keep.ensures.answer

pub returns-in-Many-clause-known : goal.returns-in-Many-clause-known
returns-in-Many-clause-known g c =
    let same : c.deref_mut.result.now ≡ c.args.self.now = c.deref_mut.ensures.value ∙ ap cell_of (sym c.in-Many.is) ∙ c.self.view_is in
    subst (λ (x : Cell). IfOk c.keep.result (λ news. news ≡ false → c.keep.new.self ≡ x)) same c.keep.ensures.known

pub returns-in-Many-clause-kept : goal.returns-in-Many-clause-kept
returns-in-Many-clause-kept g c =
    let same : c.deref_mut.result.now ≡ c.args.self.now = c.deref_mut.ensures.value ∙ ap cell_of (sym c.in-Many.is) ∙ c.self.view_is in
    keeps_then c.keep.result c.args.fact.now c.args.fact.now _ _ c.keep.new.self same refl c.keep.ensures.kept

pub returns-in-Many-clause-err : goal.returns-in-Many-clause-err
returns-in-Many-clause-err g c =
    let same : c.deref_mut.result.now ≡ c.args.self.now = c.deref_mut.ensures.value ∙ ap cell_of (sym c.in-Many.is) ∙ c.self.view_is in
    still_then c.keep.result _ _ c.keep.new.self same c.keep.ensures.err

pub returns-in_err-listed-in-One-clause-err : goal.returns-in_err-listed-in-One-clause-err
returns-in_err-listed-in-One-clause-err g c =
    let same : c.in-One.one ≡ c.args.self.now = ap cell_of (sym c.in-One.is) ∙ c.self.view_is in
    OnErr_always c.from_residual.result same

pub returns-in_err-many-in-One-clause-err : goal.returns-in_err-many-in-One-clause-err
returns-in_err-many-in-One-clause-err g c =
    let same : c.in-One.one ≡ c.args.self.now = ap cell_of (sym c.in-One.is) ∙ c.self.view_is in
    OnErr_always c.from_residual-in_err-many-in-One.result same

pub returns-in_err-many-in-FewIntervals-clause-err : goal.returns-in_err-many-in-FewIntervals-clause-err
returns-in_err-many-in-FewIntervals-clause-err g c =
    let same : c.in-FewIntervals.few ≡ c.args.self.now = ap cell_of (sym c.in-FewIntervals.is) ∙ c.self.view_is in
    OnErr_always c.from_residual-in_err-many-in-FewIntervals.result same

pub returns-in_err-many-in-Few-clause-err : goal.returns-in_err-many-in-Few-clause-err
returns-in_err-many-in-Few-clause-err g c =
    let same : c.in-Few.few ≡ c.args.self.now = ap cell_of (sym c.in-Few.is) ∙ c.self.view_is in
    OnErr_always c.from_residual-in_err-many-in-Few.result same
