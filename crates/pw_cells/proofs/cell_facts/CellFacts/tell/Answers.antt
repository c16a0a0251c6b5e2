use Rattle.std.proofs.Common.{◌≡◌, refl, sym, ◌∙◌, ap}
use Rattle.pw_cells.specs.Cells.{Cell}
use Rattle.pw_cells.specs.inside.Widths.{cell_of}
use Rattle.pw_cells.proofs.CellChanges.{tells_so, tells_then, still_then}
use Rattle.pw_cells.proofs.Stores.{OnErr_always}
use Rattle.pw_cells.proofs.cell_facts.CellFacts.tell.Given.{Over}
use Rattle.pw_cells.proofs.cell_facts.CellFacts.tell.Goals as goal
use Rattle.pw_cells.proofs.cell_facts.CellFacts.tell.Goals.{in-One+in_ok-listed-in-One+in_ok-many-in-One, in-FewIntervals+in_ok-many-in-FewIntervals, in-Few+in_ok-many-in-Few}

-- the facts in the box are the same cell
boxed_same : (g : Over) (c : goal.Joined-self-2 g) → c.match-self.many.value ≡ c.args.self.now
boxed_same g c = elim c.match-self.branch [
  | in-One+in_ok-listed-in-One+in_ok-many-in-One w ↦
      (λ j. (w.many-is j).value) ∙ w.in_ok-many-in-One.ensures ∙ w.in_ok-listed-in-One.ensures ∙ ap cell_of (sym w.in-One.is) ∙ c.self.view_is
  | in-FewIntervals+in_ok-many-in-FewIntervals w ↦
      (λ j. (w.many-is j).value) ∙ w.in_ok-many-in-FewIntervals.ensures ∙ ap cell_of (sym w.in-FewIntervals.is) ∙ c.self.view_is
  | in-Few+in_ok-many-in-Few w ↦
      (λ j. (w.many-is j).value) ∙ w.in_ok-many-in-Few.ensures ∙ ap cell_of (sym w.in-Few.is) ∙ c.self.view_is
]

-- the cell in the box is unchanged until the fact is told
boxed_before : (g : Over) (c : goal.After-deref_mut-2 g) → c.match-self.many.value ≡ c.args.self.now
boxed_before g c = elim c.match-self.branch [
  | in-One+in_ok-listed-in-One+in_ok-many-in-One w ↦
      (λ j. (w.many-is j).value) ∙ w.in_ok-many-in-One.ensures ∙ w.in_ok-listed-in-One.ensures ∙ ap cell_of (sym w.in-One.is) ∙ c.self.view_is
  | in-FewIntervals+in_ok-many-in-FewIntervals w ↦
      (λ j. (w.many-is j).value) ∙ w.in_ok-many-in-FewIntervals.ensures ∙ ap cell_of (sym w.in-FewIntervals.is) ∙ c.self.view_is
  | in-Few+in_ok-many-in-Few w ↦
      (λ j. (w.many-is j).value) ∙ w.in_ok-many-in-Few.ensures ∙ ap cell_of (sym w.in-Few.is) ∙ c.self.view_is
]

many_same : (g : Over) (c : goal.Joined-self-2 g) → c.deref_mut-2.result.now ≡ c.args.self.now
many_same g c = c.deref_mut-2.ensures.value ∙ boxed_same g c

pub returns-clause-told : goal.returns-clause-told
returns-clause-told g c = tells_so c.args.fact.now c.args.fact.now _ _ c.tell-2.new.self (many_same g c) refl c.in_ok-tell.ensures.told

pub tell-requires : goal.tell-requires
tell-requires g c =
    let same : c.deref_mut.result.now ≡ c.args.self.now = c.deref_mut.ensures.value ∙ ap cell_of (sym c.in-Many.is) ∙ c.self.view_is in
    c.requires ∙ sym (ap (λ (x : Cell). x.kind) same)

pub tell-requires-2 : goal.tell-requires-2
tell-requires-2 g c =
    let same : c.deref_mut-2.result.now ≡ c.args.self.now = c.deref_mut-2.ensures.value ∙ boxed_before g c in
    c.requires ∙ sym (ap (λ (x : Cell). x.kind) same)

pub returns-in-Many-clause-told : goal.returns-in-Many-clause-told
returns-in-Many-clause-told g c =
    let same : c.deref_mut.result.now ≡ c.args.self.now = c.deref_mut.ensures.value ∙ ap cell_of (sym c.in-Many.is) ∙ c.self.view_is in
    tells_then c.tell.result c.args.fact.now c.args.fact.now _ _ c.tell.new.self same refl c.tell.ensures.told

pub returns-in-Many-clause-err : goal.returns-in-Many-clause-err
returns-in-Many-clause-err g c =
    let same : c.deref_mut.result.now ≡ c.args.self.now = c.deref_mut.ensures.value ∙ ap cell_of (sym c.in-Many.is) ∙ c.self.view_is in
    still_then c.tell.result _ _ c.tell.new.self same c.tell.ensures.err

pub returns-in_err-listed-in-One-clause-err : goal.returns-in_err-listed-in-One-clause-err
returns-in_err-listed-in-One-clause-err g c =
    let same : c.in-One.one ≡ c.args.self.now = ap cell_of (sym c.in-One.is) ∙ c.self.view_is in
    OnErr_always c.from_residual.result same

pub returns-in_err-many-in-One-clause-err : goal.returns-in_err-many-in-One-clause-err
returns-in_err-many-in-One-clause-err g c =
    let same : c.in-One.one ≡ c.args.self.now = ap cell_of (sym c.in-One.is) ∙ c.self.view_is in
    OnErr_always c.from_residual-in_err-many-in-One.result same

pub returns-in_err-many-in-FewIntervals-clause-err : goal.returns-in_err-many-in-FewIntervals-clause-err
returns-in_err-many-in-FewIntervals-clause-err g c =
    let same : c.in-FewIntervals.few ≡ c.args.self.now = ap cell_of (sym c.in-FewIntervals.is) ∙ c.self.view_is in
    OnErr_always c.from_residual-in_err-many-in-FewIntervals.result same

pub returns-in_err-many-in-Few-clause-err : goal.returns-in_err-many-in-Few-clause-err
returns-in_err-many-in-Few-clause-err g c =
    let same : c.in-Few.few ≡ c.args.self.now = ap cell_of (sym c.in-Few.is) ∙ c.self.view_is in
    OnErr_always c.from_residual-in_err-many-in-Few.result same
