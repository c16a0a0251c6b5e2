-- How kept facts change when one more fact is assimilated.
use Rattle.std.proofs.Common.{◌≡◌, ◌⊎◌, List, [], ◌∷◌, ◌++◌, inl, inr, sym, subst}
use Rattle.std.specs.Prelude.{Contains}
use Rattle.std.proofs.lemmas.List.Elements.{All-contains, Contains-push, Contains-push_cases, Contains-append_left}
use Rattle.pw_info.specs.Information.{kind_of}
use Rattle.pw_facts.specs.declared.fact.Fact.{Fact}
use Rattle.pw_facts.specs.Facts.{Subsumes}
use Rattle.pw_facts.proofs.Shown.{subsumes_refl, subsumes_trans, subsumes_antisym}
use Rattle.pw_cells.specs.Cells.{IsSubsumedBy}
use Rattle.pw_cells.specs.Changes.{Assimilates}
use Rattle.pw_cells.specs.inside.OneCell.{AreOfKind, AreApart, IsRest}

-- what is left of them and the fact
pub assimilates_news : (fact : Fact) (old rest : List Fact) → IsRest fact old rest → Assimilates fact old (rest ++ fact ∷ [])
assimilates_news fact old rest is = record {
  held = (fact, Contains-push rest fact, subsumes_refl fact);
  within = λ f in_new. elim (Contains-push_cases rest fact f in_new) [
    | inl left ↦ inr (All-contains (Contains old) rest f is.within left)
    | inr same ↦ inl (sym same)
  ];
  stays = λ f in_old. elim (All-contains (λ (x : Fact). Contains rest x ⊎ Subsumes fact x) old f is.stays in_old) [
    | inl left ↦ inl (Contains-append_left rest (fact ∷ []) f left)
    | inr subsumed ↦ inr subsumed
  ];
  gone = λ f in_new subsumed. elim (Contains-push_cases rest fact f in_new) [
    | inl left ↦ absurd (All-contains (λ (x : Fact). Subsumes fact x → ⊥) rest f is.gone left subsumed)
    | inr same ↦ sym same
  ];
}

-- a fact that one of them subsumes changes nothing: what it subsumes that one subsumes, and they
-- are apart
pub assimilates_known : (fact : Fact) (kept : List Fact) → AreOfKind (kind_of fact.info) kept → AreApart kept → IsSubsumedBy kept fact → Assimilates fact kept kept
assimilates_known fact kept kinds apart known = record {
  held = known;
  within = λ f in_kept. inr in_kept;
  stays = λ f in_kept. inl in_kept;
  gone = λ f in_kept subsumed.
      let same : known.0 ≡ f = apart known.0 f known.1 in_kept (subsumes_trans known.0 fact f known.2 subsumed) in
      let back : Subsumes f fact = subst (λ (x : Fact). Subsumes x fact) same known.2 in
      subsumes_antisym f fact (All-contains (λ (x : Fact). kind_of x.info ≡ kind_of fact.info) kept f kinds in_kept) back subsumed;
}
