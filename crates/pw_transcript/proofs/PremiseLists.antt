-- The set of the premises that words name, one word after another.
use Rattle.std.proofs.Common.{◌≡◌, ℕ, Bool, true, false, ◌||◌, ◌&&◌, List, ◌∷◌, Some, refl, sym, ap, ◌∙◌}
use Rattle.std.specs.List.{list_all}
use Rattle.std.specs.Ordering.{nat_cmp, eq_by_cmp}
use Rattle.std.specs.Cmp.{nat_cmp_total}
use Rattle.std.specs.FinSet.{empty, insert, contains, union, same_set, contains-empty, contains-insert, contains-union, nat_cmp-IsAntisymmetric}
use Rattle.pw_procs.specs.Registering.{place_of_name}
use Rattle.pw_decl.specs.Declaration.{Declared}
use Rattle.pw_premises.specs.Premises.{Premises}
use Rattle.pw_transcript.specs.Reading.{premises_of}

by_members : (s t : Premises) → ((q : ℕ) → contains s q ≡ contains t q) → s ≡ t
by_members s t same = same_set nat_cmp_total nat_cmp-IsAntisymmetric s t same

or_false : (b : Bool) → (b || false) ≡ b
or_false true = refl
or_false false = refl

or_swap : (a b c : Bool) → (a || (b || c)) ≡ ((b || a) || c)
or_swap true true c = refl
or_swap true false c = refl
or_swap false true c = refl
or_swap false false c = refl

pub union_empty_left : (s : Premises) → union empty s ≡ s
union_empty_left s = by_members _ _ (λ q. contains-union nat_cmp_total empty s q ∙ ap (λ b. b || contains s q) (contains-empty nat_cmp q))

pub union_empty_right : (s : Premises) → union s empty ≡ s
union_empty_right s = by_members _ _ (λ q. contains-union nat_cmp_total s empty q ∙ ap (λ b. contains s q || b) (contains-empty nat_cmp q) ∙ or_false (contains s q))

pub union_insert : (s t : Premises) (n : ℕ) → union s (insert t n) ≡ union (insert s n) t
union_insert s t n = by_members _ _ (λ q.
    contains-union nat_cmp_total s (insert t n) q
    ∙ ap (λ b. contains s q || b) (contains-insert nat_cmp_total t n q)
    ∙ or_swap (contains s q) (eq_by_cmp nat_cmp q n) (contains t q)
    ∙ ap (λ b. b || contains t q) (sym (contains-insert nat_cmp_total s n q))
    ∙ sym (contains-union nat_cmp_total (insert s n) t q))

pub premises_of-more : (d : Declared) (word : List ℕ) (words : List (List ℕ)) (n : ℕ) → place_of_name d.premises word ≡ Some n → premises_of d (word ∷ words) ≡ insert (premises_of d words) n
premises_of-more d word words n e = rw e refl

-- the set so far, with what a further word names
pub premises_step : (d : Declared) (word : List ℕ) (words all : List (List ℕ)) (n : ℕ) (s t : Premises) → place_of_name d.premises word ≡ Some n
    → premises_of d all ≡ union s (premises_of d (word ∷ words)) → t ≡ insert s n → premises_of d all ≡ union t (premises_of d words)
premises_step d word words all n s t e so_far more =
    so_far ∙ ap (λ (x : Premises). union s x) (premises_of-more d word words n e) ∙ union_insert s (premises_of d words) n
    ∙ sym (ap (λ (x : Premises). union x (premises_of d words)) more)

and_assoc : (a b c : Bool) → (a && (b && c)) ≡ ((a && b) && c)
and_assoc true b c = refl
and_assoc false b c = refl

-- what holds of all words so far and of the remaining ones, with one more word
pub one_more_word : (test : List ℕ → Bool) (all words rest : List (List ℕ)) (word : List ℕ) (so_far here : Bool) → list_all test all ≡ (so_far && list_all test words)
    → words ≡ word ∷ rest → here ≡ test word → list_all test all ≡ ((so_far && here) && list_all test rest)
one_more_word test all words rest word so_far here before parts is =
    before ∙ ap (λ (l : List (List ℕ)). so_far && list_all test l) parts
    ∙ ap (λ b. so_far && (b && list_all test rest)) (sym is) ∙ and_assoc so_far here (list_all test rest)
