-- Kept facts stay apart when one more is kept.
use Rattle.std.proofs.Common.{List, [], ◌∷◌, ◌++◌, inl, inr, sym, ◌∙◌, subst}
use Rattle.std.specs.Prelude.{Contains}
use Rattle.std.proofs.lemmas.List.Elements.{All-contains, Contains-push_cases}
use Rattle.pw_facts.specs.declared.fact.Fact.{Fact}
use Rattle.pw_facts.specs.Facts.{Subsumes}
use Rattle.pw_cells.specs.Cells.{IsSubsumedBy}
use Rattle.pw_cells.specs.inside.OneCell.{AreApart, IsRest}

-- the remaining facts with the new fact stay apart, if none of the old ones subsumes it
pub apart_rest : (f : Fact) (facts rest : List Fact) → AreApart facts → (IsSubsumedBy facts f → ⊥) → IsRest f facts rest → AreApart (rest ++ f ∷ [])
apart_rest f facts rest apart news left x y has_x has_y subsumes = elim (Contains-push_cases rest f x has_x) [
  | inl in_x ↦ elim (Contains-push_cases rest f y has_y) [
    | inl in_y ↦ apart x y (was x in_x) (was y in_y) subsumes
    | inr is_y ↦ absurd (news (x, was x in_x, subst (Subsumes x) (sym is_y) subsumes))
  ]
  | inr is_x ↦ elim (Contains-push_cases rest f y has_y) [
    | inl in_y ↦ absurd (All-contains (λ z. Subsumes f z → ⊥) rest y left.gone in_y (subst (λ (z : Fact). Subsumes z y) (sym is_x) subsumes))
    | inr is_y ↦ sym is_x ∙ is_y
  ]
] where
  was : (z : Fact) → Contains rest z → Contains facts z
  was z held = All-contains (Contains facts) rest z left.within held
