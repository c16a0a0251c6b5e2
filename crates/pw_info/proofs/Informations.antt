-- Laws of informations, over what they leave possible.
use Rattle.std.proofs.Common.{◌≡◌, ℕ, ℤ, pos, negsuc, ◌≤ℤ◌, ◌<◌, Bool, true, false, ◌&&◌, refl, sym, ◌∙◌, ap, subst}
use Rattle.std.proofs.Props.{props}
use mathlib.Core.HLevel.{is_prop→PathP}
use Rattle.pw_kinds.specs.Ranges.{interval_lowest, interval_highest}
use Rattle.pw_kinds.specs.Places.{IsSize, is_place}
use Rattle.pw_kinds.specs.declared.members.Members.{Members}
use Rattle.pw_kinds.specs.Interval as interval
use Rattle.pw_kinds.specs.Exact as exact
use Rattle.pw_kinds.specs.Members as members
use Rattle.pw_kinds.specs.Members.{size_of, IsFull}
use Rattle.pw_kinds.proofs.Order.{both_true, true_both, same_test, is_false, not_both, true_between}
use Rattle.pw_kinds.proofs.Intervals as intervals
use Rattle.pw_kinds.proofs.MemberSets as sets
use Rattle.pw_kinds.proofs.Exacts as exacts
use Rattle.pw_info.specs.declared.kind.SetKind.{SetKind}
use Rattle.pw_info.specs.declared.kind.Kind.{Kind}
use Rattle.pw_info.specs.declared.kind.Kind.TheVariants as kinds
use Rattle.pw_info.specs.declared.info.Info.{Info}
use Rattle.pw_info.specs.declared.info.Info.TheVariants as info
use Rattle.pw_info.specs.Information.{set_kind, kind_of, is_value, allows, meet, nothing, contradiction, closest, IsNothing, IsContradiction, Implies, PassesMore}

-- ---- kinds of sets

-- any two proofs that a set may have this many members are equal
size_prop : (size : ℕ) → IsProp (IsSize size)
size_prop size = hlevel props

-- set kinds of one number and one size are one kind
pub same_set : (s t : SetKind) → s.number ≡ t.number → s.size ≡ t.size → kinds.Members s ≡ kinds.Members t
same_set s t p q = λ k. kinds.Members (record { number = p k; size = q k; sized = is_prop→PathP (λ k. IsSize (q k)) (λ k. size_prop (q k)) s.sized t.sized k })

-- the number and the size of a set kind, of another kind 0
abbrev number_of_kind : Kind → ℕ
number_of_kind (kinds.Members set) = set.number
number_of_kind _ = 0

abbrev size_of_kind : Kind → ℕ
size_of_kind (kinds.Members set) = set.size
size_of_kind _ = 0

-- members of one kind are of one number and one size
pub same_number : (m n : ℕ) (one another : Members) → set_kind m one ≡ set_kind n another → m ≡ n
same_number m n one another k = ap number_of_kind k

pub same_size : (m n : ℕ) (one another : Members) → set_kind m one ≡ set_kind n another → size_of one ≡ size_of another
same_size m n one another k = ap size_of_kind k

-- members of one number that are equal are one information
pub same_members : (m n : ℕ) (one another : Members) → m ≡ n → one ≡ another → info.Members m one ≡ info.Members n another
same_members m n one another p q = λ k. info.Members (p k) (q k)

-- ---- what is possible

-- informations of one kind that leave the same values possible are equal
pub same_values : (a b : Info) → kind_of a ≡ kind_of b → ((v : ℤ) → allows a v ≡ allows b v) → a ≡ b
same_values (info.Interval i) (info.Interval j) k same = ap info.Interval (intervals.same_values i j same)
same_values (info.Members m one) (info.Members n another) k same =
    same_members m n one another (same_number m n one another k) (sets.same_values one another (same_size m n one another k) same)
same_values (info.Exact e) (info.Exact f) k same = ap info.Exact (exacts.same_values e f same)
same_values a b k same = absurd (cc)

-- what is possible is a value of the kind
pub allows_value : (a : Info) (v : ℤ) → allows a v ≡ true → is_value (kind_of a) v ≡ true
allows_value (info.Interval i) v e = let range : (interval_lowest ≤ℤ v) × (v ≤ℤ interval_highest) = intervals.allows_in_range i v e in true_between interval_lowest v interval_highest range.0 range.1
allows_value (info.Members n part) v e = sets.allows_in_size part v e
allows_value (info.Exact f) v e = exacts.allows_in_range f v e

-- the closest of a kind is of that kind, and so is a merge of two of it
pub kind-closest : (k : Kind) (p : ℤ → Bool) → kind_of (closest k p) ≡ k
kind-closest kinds.Interval p = refl
kind-closest (kinds.Members set) p = same_set _ set refl (sets.size_of-closest set.size p set.sized)
kind-closest kinds.Exact p = refl

pub kind-meet : (a b : Info) → kind_of (meet a b) ≡ kind_of a
kind-meet a b = kind-closest (kind_of a) (λ v. allows a v && allows b v)

-- the information of a kind that leaves possible exactly what passes is the closest
pub closest_is : (p : ℤ → Bool) (a : Info) → ((v : ℤ) → is_value (kind_of a) v ≡ true → allows a v ≡ p v) → a ≡ closest (kind_of a) p
closest_is p (info.Interval i) same = ap info.Interval (intervals.closest_is p i (λ v l h. same v (true_between interval_lowest v interval_highest l h)))
closest_is p (info.Members n part) same =
    ap (info.Members n) (sets.closest_is (size_of part) p part refl (λ k l. same (pos k) (sets.place_true (size_of part) k l)))
closest_is p (info.Exact e) same = ap info.Exact (exacts.closest_is p e same)

-- what nothing, a contradiction and a merge leave possible
pub allows-nothing : (k : Kind) (v : ℤ) → allows (nothing k) v ≡ is_value k v
allows-nothing kinds.Interval v = intervals.allows-whole v
allows-nothing (kinds.Members set) v = sets.allows-full set.size set.sized v
allows-nothing kinds.Exact v = exacts.allows-any v

-- the closest interval to no number is the empty one
pub empty_closest : interval.empty ≡ interval.closest (λ v. false)
empty_closest = intervals.closest_is (λ v. false) interval.empty (λ v l h. intervals.empty_none v)

pub allows-contradiction : (k : Kind) (v : ℤ) → allows (contradiction k) v ≡ false
allows-contradiction kinds.Interval v = ap (λ i. interval.allows i v) (sym empty_closest) ∙ intervals.empty_none v
allows-contradiction (kinds.Members set) v = sets.allows-empty set.size set.sized v
allows-contradiction kinds.Exact v = exacts.allows-empty v

pub allows-meet : (a b : Info) → kind_of a ≡ kind_of b → (v : ℤ) → allows (meet a b) v ≡ (allows a v && allows b v)
allows-meet (info.Interval i) (info.Interval j) k v = intervals.allows-meet i j v
allows-meet (info.Members m one) (info.Members n another) k v = sets.allows-meet one another v
allows-meet (info.Exact e) (info.Exact f) k v = exacts.allows-meet e f v
allows-meet a b k v = absurd (cc)

-- what leaves every value possible is nothing, and what leaves none is the contradiction
pub is_nothing-nothing : (k : Kind) → IsNothing (nothing k)
is_nothing-nothing k v e = allows-nothing k v ∙ subst (λ (x : Kind). is_value x v ≡ true) (kind-closest k (λ w. true)) e

pub nothing_is : (a : Info) → IsNothing a → a ≡ nothing (kind_of a)
nothing_is a every = closest_is (λ v. true) a every

pub contradiction_is : (a : Info) → IsContradiction a → a ≡ contradiction (kind_of a)
contradiction_is a none = closest_is (λ v. false) a (λ v e. none v)

-- ---- merge

and_comm : (a b : Bool) → (a && b) ≡ (b && a)
and_comm true true = refl
and_comm true false = refl
and_comm false true = refl
and_comm false false = refl

pub and_assoc : (a b c : Bool) → ((a && b) && c) ≡ (a && (b && c))
and_assoc true b c = refl
and_assoc false b c = refl

and_self : (a : Bool) → (a && a) ≡ a
and_self true = refl
and_self false = refl

pub meet_comm : (a b : Info) → kind_of a ≡ kind_of b → meet a b ≡ meet b a
meet_comm a b k = same_values (meet a b) (meet b a) (kind-meet a b ∙ k ∙ sym (kind-meet b a))
    (λ v. allows-meet a b k v ∙ and_comm (allows a v) (allows b v) ∙ sym (allows-meet b a (sym k) v))

pub meet_assoc : (a b c : Info) → kind_of a ≡ kind_of b → kind_of b ≡ kind_of c → meet (meet a b) c ≡ meet a (meet b c)
meet_assoc a b c k l =
    let ab : kind_of (meet a b) ≡ kind_of c = kind-meet a b ∙ k ∙ l in
    let bc : kind_of a ≡ kind_of (meet b c) = k ∙ sym (kind-meet b c) in
    same_values (meet (meet a b) c) (meet a (meet b c)) (kind-meet (meet a b) c ∙ kind-meet a b ∙ sym (kind-meet a (meet b c))) (λ v.
    allows-meet (meet a b) c ab v ∙ ap (λ x. x && allows c v) (allows-meet a b k v)
    ∙ and_assoc (allows a v) (allows b v) (allows c v)
    ∙ sym (allows-meet a (meet b c) bc v ∙ ap (λ x. allows a v && x) (allows-meet b c l v)))

pub meet_self : (a : Info) → meet a a ≡ a
meet_self a = same_values (meet a a) a (kind-meet a a) (λ v. allows-meet a a refl v ∙ and_self (allows a v))

pub meet_nothing : (a : Info) → meet a (nothing (kind_of a)) ≡ a
meet_nothing a = same_values _ a (kind-meet a (nothing (kind_of a))) (λ v.
    allows-meet a (nothing (kind_of a)) (sym (kind-closest (kind_of a) (λ w. true))) v
    ∙ same_test _ _ (λ e. (true_both _ _ e).0) (λ e. both_true _ _ e (allows-nothing (kind_of a) v ∙ allows_value a v e)))

pub meet_contradiction : (a : Info) → meet a (contradiction (kind_of a)) ≡ contradiction (kind_of a)
meet_contradiction a =
    let none : (v : ℤ) → allows (contradiction (kind_of a)) v ≡ false = allows-contradiction (kind_of a) in
    same_values (meet a (contradiction (kind_of a))) (contradiction (kind_of a)) (kind-meet a (contradiction (kind_of a)) ∙ sym (kind-closest (kind_of a) (λ w. false))) (λ v.
    allows-meet a (contradiction (kind_of a)) (sym (kind-closest (kind_of a) (λ w. false))) v
    ∙ is_false _ (λ e. not_both _ (true_both _ _ e).1 (none v)) ∙ sym (none v))

-- ---- implication

-- two of a kind that imply each other are equal
pub Implies-antisym : (a b : Info) → kind_of a ≡ kind_of b → Implies a b → Implies b a → a ≡ b
Implies-antisym a b k p q = same_values a b k (λ v. same_test _ _ (p v) (q v))

-- every information implies nothing of its kind
pub implies_nothing : (a : Info) (k : Kind) → kind_of a ≡ k → Implies a (nothing k)
implies_nothing a k kind v e = allows-nothing k v ∙ subst (λ (l : Kind). is_value l v ≡ true) kind (allows_value a v e)

members_mono : (size : ℕ) → IsSize size → (p q : ℤ → Bool) → ((v : ℤ) → is_place size v ≡ true → p v ≡ true → q v ≡ true)
    → members.IsWithin (members.closest size p) (members.closest size q)
members_mono size h p q more (pos k) e =
    let below : k < size = subst (λ (s : ℕ). k < s) (sets.size_of-closest size p h) (sets.allows_below (members.closest size p) k e) in
    sets.allows-closest size q h k below ∙ more (pos k) (sets.place_true size k below) (sym (sets.allows-closest size p h k below) ∙ e)
members_mono size h p q more (negsuc k) e = absurd (not_both _ e refl)

-- the closest of a kind grows with the test
pub closest_mono : (k : Kind) (p q : ℤ → Bool) → PassesMore k p q → Implies (closest k p) (closest k q)
closest_mono kinds.Interval p q more =
    (intervals.closest_closest p).smallest (interval.closest q) (λ v r e. (intervals.closest_closest q).holds v r (more v r e))
closest_mono (kinds.Members set) p q more = members_mono set.size set.sized p q more
closest_mono kinds.Exact p q more =
    (exacts.closest_closest p).smallest (exact.closest q) (λ v r e. (exacts.closest_closest q).holds v r (more v r e))

-- the first of two implies the second exactly if it is their merge
pub meet_implied : (a b : Info) → kind_of a ≡ kind_of b → Implies a b → meet a b ≡ a
meet_implied a b k p = same_values (meet a b) a (kind-meet a b) (λ v.
    allows-meet a b k v ∙ same_test _ _ (λ e. (true_both _ _ e).0) (λ e. both_true _ _ e (p v e)))

pub implied_from_meet : (a b : Info) → kind_of a ≡ kind_of b → meet a b ≡ a → Implies a b
implied_from_meet a b k m v e = (true_both (allows a v) (allows b v) (sym (allows-meet a b k v) ∙ ap (λ (i : Info). allows i v) m ∙ e)).1

-- ---- the meaning of the code's cases and tests

-- members that informations of one kind are have one size
pub sizes_agree : (a b : Info) (m n : ℕ) (one another : Members) → kind_of a ≡ kind_of b → a ≡ info.Members m one → b ≡ info.Members n another → size_of one ≡ size_of another
sizes_agree a b m n one another k p q = same_size m n one another (sym (ap kind_of p) ∙ k ∙ ap kind_of q)

-- every member is possible exactly if every value of the kind is
pub full_nothing : (number : ℕ) (part : Members) → IsFull part → IsNothing (info.Members number part)
full_nothing number part full (pos k) e = full k (sets.true_place (size_of part) k e)
full_nothing number part full (negsuc k) e = absurd (not_both _ e (sets.place_negative (size_of part) k))

pub nothing_full : (number : ℕ) (part : Members) → IsNothing (info.Members number part) → IsFull part
nothing_full number part every k l = every (pos k) (sets.place_true (size_of part) k l)
