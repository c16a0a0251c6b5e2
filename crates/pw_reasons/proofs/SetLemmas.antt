-- Sets made of lists of premises.
use Rattle.std.proofs.Common.{◌≡◌, ℕ, ◌+◌, ◌<◌, ◌||◌, nat_eq, List, [], ◌++◌, length, take, sym, ap, ◌∙◌}
use Rattle.std.specs.Prelude.{slice_index_or}
use Rattle.std.specs.Cmp.{nat_cmp_total}
use Rattle.std.specs.Ordering.{nat_cmp}
use Rattle.std.specs.FinSet.{contains-from_list_nat, contains-union, from_list, from_list_push, insert, nat_cmp-IsAntisymmetric, same_set, union}
use Rattle.std.proofs.lemmas.List.{take_more}
use Rattle.std.proofs.lemmas.List.Folds.{list_any-append}
use Rattle.pw_premises.specs.Premises.{Premises}
use Rattle.pw_reasons.specs.Groups.{all_of}
use Rattle.pw_reasons.proofs.GroupLemmas.{all_of_more}

-- one more premise of the list
pub one_inserted : (set next : Premises) (xs : List ℕ) (i : ℕ) → i < length xs → set ≡ from_list (take i xs) →
    next ≡ insert set (slice_index_or xs i 0) → next ≡ from_list (take (i + 1) xs)
one_inserted set next xs i within is more =
    more ∙ ap (λ s. insert s (slice_index_or xs i 0)) is
    ∙ sym (from_list_push nat_cmp_total nat_cmp-IsAntisymmetric (take i xs) (slice_index_or xs i 0))
    ∙ ap from_list (sym (take_more xs i 0 within))

-- lists behind one another
pub from_both : (xs ys : List ℕ) → from_list {R = nat_cmp} (xs ++ ys) ≡ union (from_list xs) (from_list ys)
from_both xs ys = same_set nat_cmp_total nat_cmp-IsAntisymmetric _ _ (λ q.
    contains-from_list_nat (xs ++ ys) q ∙ list_any-append (λ n. nat_eq n q) xs ys
    ∙ sym (contains-union nat_cmp_total (from_list xs) (from_list ys) q
    ∙ (λ i. contains-from_list_nat xs q i || contains-from_list_nat ys q i)))

-- one more group
pub one_joined : (set next more : Premises) (groups : List (List ℕ)) (i : ℕ) (group : List ℕ) → i < length groups → group ≡ slice_index_or groups i [] →
    set ≡ from_list (all_of (take i groups)) → more ≡ from_list group → next ≡ union set more → next ≡ from_list (all_of (take (i + 1) groups))
one_joined set next more groups i group within at is new both =
    both ∙ (λ t. union (is t) ((new ∙ ap from_list at) t)) ∙ sym (from_both (all_of (take i groups)) (slice_index_or groups i []))
    ∙ ap from_list (sym (all_of_more (take i groups) (slice_index_or groups i [])) ∙ ap all_of (sym (take_more groups i [] within)))
