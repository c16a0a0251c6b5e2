-- What is reported for the line of a set kind.
use Rattle.std.proofs.Common.{◌≡◌, ℕ, ◌<◌, ◌≤◌, Bool, false, List, length, refl, sym, ap, ◌∙◌, arith, inl, inr}
use Rattle.std.specs.Prelude.{is_some, IsSome, ◌⊎◌}
use Rattle.std.specs.List.{IsDistinct}
use Rattle.std.specs.Str.{bytes_eq}
use Rattle.std.proofs.lemmas.Bool.{false≢true}
use Rattle.pw_kinds.specs.Places.{fewest_members}
use Rattle.pw_procs.specs.Registering.{place_of_name}
use Rattle.pw_decl.specs.Declaration.{Declared, Outside, Set, kind_names}
use Rattle.pw_decl.specs.Faults.{HasDuplicate, Duplicate, Wrong, TooMany}
use Rattle.pw_decl.specs.Limits.{most_sets}
use Rattle.pw_decl.specs.Versions.{most_members_under}
use Rattle.pw_decl.specs.declared.decl_fault.DeclFaultKind.TheVariants.{DuplicateName, WrongArguments, Limit}
use Rattle.pw_decl.specs.inside.SentenceFaults.{IsFaultless, IsToldOf}

not_either : {P Q : Type 0} → (P → ⊥) → (Q → ⊥) → P ⊎ Q → ⊥
not_either p q (inl holds) = p holds
not_either p q (inr holds) = q holds

not_duplicate : (d : Declared) (name : List ℕ) (members : List (List ℕ)) → is_some (place_of_name (kind_names d) name) ≡ false → IsDistinct bytes_eq members →
    HasDuplicate (Outside d) (Set name members) → ⊥
not_duplicate d name members fresh differ = not_either (λ there. false≢true (sym fresh ∙ there)) (λ equal. equal differ)

-- whether the name is there, by what a call found
pub kind_found : (d : Declared) (word name : List ℕ) (r b : Bool) → r ≡ is_some (place_of_name (kind_names d) word) → word ≡ name → r ≡ b →
    is_some (place_of_name (kind_names d) name) ≡ b
kind_found d word name r b is same found = sym (ap (λ (w : List ℕ). is_some (place_of_name (kind_names d) w)) same) ∙ sym is ∙ found

pub faultless_set : (d : Declared) (name : List ℕ) (members : List (List ℕ)) → is_some (place_of_name (kind_names d) name) ≡ false → IsDistinct bytes_eq members →
    fewest_members ≤ length members → length d.sets < most_sets → length members ≤ most_members_under d.version → IsFaultless (Outside d) (Set name members)
faultless_set d name members fresh differ some room few = (
  not_duplicate d name members fresh differ,
  (λ none. none, ((λ less. omega arith), (not_either (λ full. omega arith) (λ many. omega arith), tt))),
)

pub set_duplicate : (d : Declared) (name : List ℕ) (members : List (List ℕ)) →
    IsSome (place_of_name (kind_names d) name) ⊎ (IsDistinct bytes_eq members → ⊥) → IsToldOf (Outside d) (Set name members) DuplicateName
set_duplicate d name members there = inr (Duplicate, inl (refl, there), refl)

pub set_wrong : (d : Declared) (name : List ℕ) (members : List (List ℕ)) → is_some (place_of_name (kind_names d) name) ≡ false → IsDistinct bytes_eq members →
    length members < fewest_members → IsToldOf (Outside d) (Set name members) WrongArguments
set_wrong d name members fresh differ less =
    inr (Wrong, inr (not_duplicate d name members fresh differ, inr ((λ none. none), inl (refl, less))), refl)

pub set_limit : (d : Declared) (name : List ℕ) (members : List (List ℕ)) → is_some (place_of_name (kind_names d) name) ≡ false → IsDistinct bytes_eq members →
    fewest_members ≤ length members → (most_sets ≤ length d.sets) ⊎ (most_members_under d.version < length members) → IsToldOf (Outside d) (Set name members) Limit
set_limit d name members fresh differ some large =
    inr (TooMany, inr (not_duplicate d name members fresh differ, inr ((λ none. none), inr ((λ less. omega arith), inl (refl, large)))), refl)
