-- The premises that instances rest on, before and after an attachment.
use Rattle.std.proofs.Common.{◌≡◌, ℕ, ◌-◌, ◌<◌, List, [], ◌∷◌, ◌++◌, length, map, true, refl, sym, ap, subst, ◌∙◌, arith, length-append, append-nil}
use Rattle.std.specs.Prelude.{All}
use Rattle.std.specs.FinSet.{empty, is_subset, union}
use Rattle.std.proofs.lemmas.List.{get_or_append_left, get_or-append_right, length-map, map-append}
use Rattle.std.proofs.lemmas.List.Elements.{All-append, All-nil, All-weaker}
use Rattle.pw_premises.specs.Premises.{Premises}
use Rattle.pw_premises.specs.PremiseSubsets.{empty_is_subset, is_subset_trans, is_subset_union_left, is_subset_union_right, union_is_subset}
use Rattle.pw_network.specs.declared.instance.Instance.{Instance as InstanceType}
use Rattle.pw_network.specs.inside.Held.{ArePremisesOf, attachment}
use Rattle.pw_network.specs.Network.{Attached}
use Rattle.pw_network.proofs.LineLemmas.{IsOf}

-- ---- instances as contracts see them

-- the instance is visible in the worldview: it rests only on premises of it
abbrev IsVisible : Premises → Attached → Type 0
IsVisible worldview a = is_subset a.support worldview ≡ true

-- no instances rest on no premises
pub no_premises : (premises : Premises) → premises ≡ empty → ArePremisesOf [] premises
no_premises premises none worldview = (
  λ has. All-nil (IsVisible worldview),
  λ all. ap (λ s. is_subset s worldview) none ∙ empty_is_subset worldview,
)

module _ (premises support : Premises) (line : ℕ) (old new : List Attached) (are : ArePremisesOf old premises) (own : All (IsOf line support) new) where
  -- in a worldview that has the union, all instances are visible
  all_visible : (worldview : Premises) → is_subset (union premises support) worldview ≡ true → All (IsVisible worldview) (old ++ new)
  all_visible worldview has =
      let first = is_subset_trans premises (union premises support) worldview (is_subset_union_left premises support) has in
      let second = is_subset_trans support (union premises support) worldview (is_subset_union_right premises support) has in
      All-append (IsVisible worldview) old new ((are worldview).0 first)
      (All-weaker (IsOf line support) (IsVisible worldview) (λ a of. ap (λ s. is_subset s worldview) of.1 ∙ second) new own)

  -- a worldview in which all are visible has the union, if there is a new one
  has_union : (worldview : Premises) → Attached → 0 < length new → All (IsVisible worldview) (old ++ new) → is_subset (union premises support) worldview ≡ true
  has_union worldview x some all =
      let long = length-append old new in
      let first = (are worldview).1 (λ k d within. subst (IsVisible worldview) (get_or_append_left old new d k within) (all k d (omega arith))) in
      let here = get_or-append_right old new (length old) (length old) x refl (omega arith) in
      let one = ap (λ a. is_subset a.support worldview) (sym here) ∙ all (length old) x (omega arith) in
      let same = (own (length old - length old) x (omega arith)).1 in
      union_is_subset premises support worldview first (ap (λ s. is_subset s worldview) (sym same) ∙ one)

  -- so with new instances of one support, the premises are the union
  premises_more : Attached → 0 < length new → ArePremisesOf (old ++ new) (union premises support)
  premises_more x some worldview = (all_visible worldview, has_union worldview x some)

-- ---- instances as the code stores them

module _ (premises support joined : Premises) (line : ℕ) (instances room made after : List InstanceType)
    (same : room ≡ instances) (appended : after ≡ room ++ made) (own : All (IsOf line support) (map attachment made))
    (are : ArePremisesOf (map attachment instances) premises) where
  all_instances : map attachment after ≡ map attachment instances ++ map attachment made
  all_instances = ap (map attachment) appended ∙ map-append attachment room made ∙ ap (λ l. map attachment l ++ map attachment made) same

  -- the premises are joined where instances of one support are appended
  pub premises_joined : Attached → 0 < length made → joined ≡ union premises support → ArePremisesOf (map attachment after) joined
  premises_joined x some is =
      let long = length-map made attachment in
      subst (ArePremisesOf (map attachment after)) (sym is) (subst (λ l. ArePremisesOf l (union premises support)) (sym all_instances)
      (premises_more premises support line (map attachment instances) (map attachment made) are own x (omega arith)))

  -- and they stay where no instance is
  premises_kept : made ≡ [] → joined ≡ premises → ArePremisesOf (map attachment after) joined
  premises_kept none is =
      let stay = all_instances ∙ ap (λ l. map attachment instances ++ map attachment l) none ∙ append-nil (map attachment instances) in
      subst (ArePremisesOf (map attachment after)) (sym is) (subst (λ l. ArePremisesOf l premises) (sym stay) are)

-- so they are right for any number of instances
pub premises_after : (premises support joined : Premises) (line : ℕ) (instances room made after : List InstanceType) →
    room ≡ instances → after ≡ room ++ made → All (IsOf line support) (map attachment made) → ArePremisesOf (map attachment instances) premises →
    (many : ℕ) → length made ≡ many → (many ≡ 0 → joined ≡ premises) → (0 < many → joined ≡ union premises support) →
    ArePremisesOf (map attachment after) joined
premises_after premises support joined line instances room [] after same appended own are many long none some =
    premises_kept premises support joined line instances room [] after same appended own are refl (none (omega arith))
premises_after premises support joined line instances room (x ∷ made) after same appended own are many long none some =
    premises_joined premises support joined line instances room (x ∷ made) after same appended own are (attachment x) (omega arith) (some (omega arith))
