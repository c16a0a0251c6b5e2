use Rattle.std.proofs.Common.{List, inl, inr, refl, sym, ◌∙◌, ap, subst}
use Rattle.pw_kinds.proofs.Order.{not_both}
use Rattle.pw_info.specs.Information.{kind_of, Implies}
use Rattle.pw_facts.specs.declared.fact.Fact.{Fact}
use Rattle.pw_cells.specs.Cells.{IsSubsumedBy}
use Rattle.pw_cells.proofs.Bounds.{kinds_newer, kinds_older, subsumed_first, subsumed_last, subsumed_apart, none_older}
use Rattle.pw_cells.proofs.assimilating.is_subsumed.Goals as goal

pub returns-then-is_subsumed_by : goal.returns-then-is_subsumed_by
returns-then-is_subsumed_by g c = (
  λ _. subsumed_last c.args.bound.now.count c.args.kept.now c.args.fact.now
      (subst (λ (l : List Fact). IsSubsumedBy l c.args.fact.now) c.split_at.ensures.back (c.is_subsumed_by.ensures.0 c.if-is_subsumed_by.true)),
  λ _. refl,
)

pub returns-then-implies : goal.returns-then-implies
returns-then-implies g c =
    let n = c.args.bound.now.count in
    let kept = c.args.kept.now in
    let f = c.args.fact.now in (
      λ yes. subsumed_first n kept f (subst (λ (l : List Fact). IsSubsumedBy l f) c.split_at.ensures.front (c.is_subsumed_by-then-implies.ensures.0 yes)),
      λ held. elim (subsumed_apart n kept f held) [
        | inl older ↦ c.is_subsumed_by-then-implies.ensures.1 (subst (λ (l : List Fact). IsSubsumedBy l f) (sym {A = List Fact} c.split_at.ensures.front) older)
        | inr newer ↦
            absurd (not_both _ (c.is_subsumed_by.ensures.1 (subst (λ (l : List Fact). IsSubsumedBy l f) (sym {A = List Fact} c.split_at.ensures.back) newer)) c.if-is_subsumed_by.false)
      ],
    )

pub returns-else-implies : goal.returns-else-implies
returns-else-implies g c =
    let n = c.args.bound.now.count in
    let kept = c.args.kept.now in
    let f = c.args.fact.now in (
      λ yes. absurd (not_both _ yes c.if-implies.false),
      λ held. elim (subsumed_apart n kept f held) [
        | inl older ↦
            absurd (none_older (kind_of f.info) kept c.args.bound.now f c.requires.bounds (λ more. not_both _ (c.implies.ensures.1 (subst (Implies c.args.bound.now.info) (sym c.info.ensures) more)) c.if-implies.false) older)
        | inr newer ↦
            absurd (not_both _ (c.is_subsumed_by.ensures.1 (subst (λ (l : List Fact). IsSubsumedBy l f) (sym {A = List Fact} c.split_at.ensures.back) newer)) c.if-is_subsumed_by.false)
      ],
    )

pub split_at-requires : goal.split_at-requires
split_at-requires g c = c.requires.bounds.within

pub is_subsumed_by-requires : goal.is_subsumed_by-requires
is_subsumed_by-requires g c = kinds_newer _ _ _ _ c.requires.kinds c.split_at.ensures.back

pub implies-requires : goal.implies-requires
implies-requires g c = c.requires.bounds.of_kind ∙ sym (ap kind_of c.info.ensures)

pub is_subsumed_by-requires-then-implies : goal.is_subsumed_by-requires-then-implies
is_subsumed_by-requires-then-implies g c = kinds_older _ _ _ _ c.requires.kinds c.split_at.ensures.front
