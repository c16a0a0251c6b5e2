-- The test whether two informations are equal is exact, and so is that of a contradiction.
use Rattle.std.proofs.Common.{◌≡◌, true, Decides, refl, ap, subst, ◌∙◌}
use Rattle.std.specs.Prelude.{nat_eq}
use Rattle.std.specs.Ordering.{int_eq}
use Rattle.std.proofs.lemmas.Bool.{and_from, and_parts}
use Rattle.pw_kinds.specs.declared.exact.Exact.{Exact}
use Rattle.pw_kinds.specs.declared.exact.Exact.TheVariants.{Any, One, Empty}
use Rattle.pw_kinds.specs.declared.interval.Interval.{Interval}
use Rattle.pw_kinds.specs.declared.members.Members.{Members}
use Rattle.pw_kinds.specs.Members.{mask_in}
use Rattle.pw_kinds.proofs.Exacts.{same_number, eq_true, self_eq}
use Rattle.pw_kinds.proofs.Intervals.{same_ends}
use Rattle.pw_kinds.proofs.MemberSets.{same_mask}
use Rattle.pw_info.specs.declared.info.Info.{Info}
use Rattle.pw_info.specs.declared.info.Info.TheVariants as info
use Rattle.pw_info.specs.Information.{kind_of, contradiction, allows, IsContradiction}
use Rattle.pw_info.proofs.Informations as informations
use Rattle.pw_settle.specs.Values.{nat_eq_decides}
use Rattle.pw_reasons.specs.SameInfo.{same_interval, same_members, same_exact, same_info, is_contradiction}

-- ---- what passes the test is one

intervals_are : (i j : Interval) → same_interval i j ≡ true → i ≡ j
intervals_are i j e =
    let both = and_parts (int_eq i.lo j.lo) (int_eq i.hi j.hi) e in
    same_ends i j (eq_true i.lo j.lo both.0) (eq_true i.hi j.hi both.1)

members_are : (m n : Members) → same_members m n ≡ true → m ≡ n
members_are m n e =
    let both = and_parts (nat_eq m.size n.size) (nat_eq (mask_in m) (mask_in n)) e in
    same_mask m n ((nat_eq_decides m.size n.size).0 both.0) ((nat_eq_decides (mask_in m) (mask_in n)).0 both.1)

exacts_are : (e f : Exact) → same_exact e f ≡ true → e ≡ f
exacts_are Any Any passes = refl
exacts_are (One m) (One n) passes = same_number m n (eq_true m.value n.value passes)
exacts_are Empty Empty passes = refl
exacts_are e f passes = absurd (cc)

infos_are : (a b : Info) → same_info a b ≡ true → a ≡ b
infos_are (info.Interval i) (info.Interval j) e = ap info.Interval (intervals_are i j e)
infos_are (info.Members number m) (info.Members other n) e =
    let both = and_parts (nat_eq number other) (same_members m n) e in
    informations.same_members number other m n ((nat_eq_decides number other).0 both.0) (members_are m n both.1)
infos_are (info.Exact e) (info.Exact f) passes = ap info.Exact (exacts_are e f passes)
infos_are a b e = absurd (cc)

-- ---- each passes it with itself

self_interval : (i : Interval) → same_interval i i ≡ true
self_interval i = and_from (int_eq i.lo i.lo) (int_eq i.hi i.hi) (self_eq i.lo) (self_eq i.hi)

self_members : (m : Members) → same_members m m ≡ true
self_members m =
    and_from (nat_eq m.size m.size) (nat_eq (mask_in m) (mask_in m)) ((nat_eq_decides m.size m.size).1 refl) ((nat_eq_decides (mask_in m) (mask_in m)).1 refl)

self_exact : (e : Exact) → same_exact e e ≡ true
self_exact Any = refl
self_exact (One n) = self_eq n.value
self_exact Empty = refl

pub self_info : (a : Info) → same_info a a ≡ true
self_info (info.Interval i) = self_interval i
self_info (info.Members number m) =
    and_from (nat_eq number number) (same_members m m) ((nat_eq_decides number number).1 refl) (self_members m)
self_info (info.Exact e) = self_exact e

-- ---- the tests are exact

-- the test decides whether two informations are equal
pub same_info_is : (a b : Info) → Decides (same_info a b) (a ≡ b)
same_info_is a b = (infos_are a b, λ e. subst (λ (c : Info). same_info a c ≡ true) e (self_info a))

-- the test of a contradiction decides whether no value is possible
pub contradiction_is : (a : Info) → Decides (is_contradiction a) (IsContradiction a)
contradiction_is a = (
  λ e v. ap (λ (b : Info). allows b v) ((same_info_is a (contradiction (kind_of a))).0 e) ∙ informations.allows-contradiction (kind_of a) v,
  λ none. (same_info_is a (contradiction (kind_of a))).1 (informations.contradiction_is a none),
)
