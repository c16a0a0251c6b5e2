-- A search that passes the premises of a group one after the other: what refutes them is noted, or waits.
use Rattle.std.proofs.Common.{◌≡◌, ℕ, ◌+◌, ◌<◌, ◌≤◌, Bool, true, false, not, ◌||◌, ◌⊎◌, inl, inr, Option, None, Some, Result, Ok, List, [], ◌∷◌, ◌++◌, Contains, length, take, drop, refl, sym, ap, ◌∙◌, subst, arith, length-append}
use Rattle.std.specs.Prelude.{IfSome, slice_index_or}
use Rattle.std.specs.List.{flat_map}
use Rattle.std.specs.Cmp.{nat_cmp_total}
use Rattle.std.specs.Ordering.{nat_cmp, eq_by_cmp}
use Rattle.std.specs.FinSet.{contains, contains-is_subset, contains-remove, insert, is_subset, is_subset-contains, remove}
use Rattle.std.proofs.lemmas.Bool.{false≢true}
use Rattle.std.proofs.lemmas.List.{take_all}
use Rattle.std.proofs.lemmas.List.Elements.{All-append, All-contains, All-nil, All-weaker, Contains-append_cases}
use Rattle.pw_premises.specs.Premises.{Premises}
use Rattle.pw_cells.specs.Cells.{Store, kinds_of}
use Rattle.pw_network.specs.Network.{Network, IsWellNetwork}
use Rattle.pw_settle.specs.Growth.{KeepsMore}
use Rattle.pw_settle.specs.Settled.{Settled}
use Rattle.pw_settle.specs.Values.{kinds_in}
use Rattle.pw_settle.proofs.Membership.{each_member}
use Rattle.pw_reasons.specs.Combinations.{picked_in}
use Rattle.pw_reasons.specs.Nogood.{AreNogoods, IsNogood, covers}
use Rattle.pw_reasons.specs.inside.Alike.{HasMore, MayHaveMore, beside, pending}
use Rattle.pw_reasons.specs.inside.Products.{worldviews_beside}
use Rattle.pw_reasons.specs.inside.Reasoning.{AreSettledLast}
use Rattle.pw_reasons.specs.inside.Searching.{AreCovered, IsFirstBeside, IsFoundBeside, LeavesSound, Refutes, ends_search, refuting}
use Rattle.pw_reasons.specs.declared.choosing.Found.{Found}
use Rattle.pw_reasons.specs.declared.choosing.Found.TheVariants.{Chosen, Nothing, Refuted}
use Rattle.pw_reasons.proofs.AlikeLemmas.{all_noted}
use Rattle.pw_reasons.proofs.ChoiceLemmas.{nogoods_then}
use Rattle.pw_reasons.proofs.FamilyLemmas.{and_parts, contains_inserted, covers_both, or_left, or_right}
use Rattle.pw_reasons.proofs.NogoodLemmas.{part_uncovered}
use Rattle.pw_reasons.proofs.ProductLemmas.{fixed_missing}
use Rattle.pw_reasons.proofs.SearchLemmas.{all_behind, all_covered, all_refuted, first_behind, first_now, front, more_behind, part_of_more, worldviews_in_pieces, worldviews_then}

neither_one : (a b : Bool) → (a || b) ≡ false → (a ≡ false) × (b ≡ false)
neither_one true b none = absurd (false≢true (sym none))
neither_one false b none = (refl, none)

none_of : (a b : Bool) → a ≡ false → b ≡ false → (a || b) ≡ false
none_of true b none other = none
none_of false b none other = other

-- the premise alone is not believed
pub rest_within : (nogood w : Premises) (p : ℕ) → is_subset nogood (insert w p) ≡ true → is_subset (remove nogood p) w ≡ true
rest_within nogood w p part = contains-is_subset nat_cmp_total (remove nogood p) w (λ q has.
    let both = and_parts (not (eq_by_cmp nat_cmp q p)) (contains nogood q) (sym (contains-remove nat_cmp_total nogood p q) ∙ has) in
    other_one (eq_by_cmp nat_cmp q p) (contains w q) both.0
    (sym (contains_inserted w p q) ∙ is_subset-contains nat_cmp_total nogood (insert w p) part q both.1))
  where
    other_one : (e c : Bool) → not e ≡ true → (e || c) ≡ true → c ≡ true
    other_one true c apart either = absurd (false≢true apart)
    other_one false c apart either = either

-- ---- the premises passed so far

-- noted sets and those that wait cover all behind each premise so far, and not what is believed; those
-- that wait are nogoods, and what is fixed in them is believed
pub record IsPassed (network : Network) (old : Store) (w : Premises) (rest : List (List ℕ)) (passed : List ℕ) (alike : Option Premises)
    (nogoods : List Premises) : Type 0 where
  pub uncovered : covers (pending alike rest passed ++ nogoods) w ≡ false
  pub done : AreCovered (pending alike rest passed ++ nogoods) (flat_map (beside w rest) passed)
  pub are : AreNogoods network old (pending alike rest passed)
  pub part : IfSome alike (λ fixed. is_subset fixed w ≡ true)

-- noting more leaves what is sound
pub leaves_noted : (network : Network) (old store : Store) (first before noted others : List Premises) (last : Option Settled) →
    LeavesSound network old first store before last → AreNogoods network old others → MayHaveMore before noted others →
    LeavesSound network old first store noted last
leaves_noted network old store first before noted others last leaves are more = record {
  are = each_member (IsNogood network old) noted (λ set there. elim (more.within set there) [
    | inl mine ↦ All-contains (IsNogood network old) others set are mine
    | inr was ↦ All-contains (IsNogood network old) before set leaves.are was
  ]);
  covers_more = λ w covered. more.covers_more w (leaves.covers_more w covered);
  last_are = leaves.last_are;
  grows = leaves.grows;
  upstream = leaves.upstream;
}

module _ (network : Network) (old : Store) (w : Premises) (rest : List (List ℕ)) (group : List ℕ) where
  -- none so far
  pub none_passed : (nogoods : List Premises) (alike : Option Premises) → alike ≡ None → covers nogoods w ≡ false →
      IsPassed network old w rest (take 0 group) alike nogoods
  none_passed nogoods alike none uncovered =
      subst (λ o. IsPassed network old w rest (take 0 group) o nogoods) (sym none)
      (record { uncovered = uncovered; done = All-nil (λ v. covers nogoods v ≡ true); are = All-nil (IsNogood network old); part = tt })

  -- one more that is covered, once what waits is noted
  pub one_covered : (i : ℕ) → i < length group → (alike now : Option Premises) (nogoods noted : List Premises) →
      IsPassed network old w rest (take i group) alike nogoods → now ≡ None → HasMore nogoods noted (pending alike rest (take i group)) →
      covers nogoods (insert w (slice_index_or group i 0)) ≡ true → IsPassed network old w rest (take (i + 1) group) now noted
  one_covered i within alike now nogoods noted passed none has covered =
      let all : HasMore (pending alike rest (take i group) ++ nogoods) noted [] = all_noted nogoods noted (pending alike rest (take i group)) has in
      subst (λ o. IsPassed network old w rest (take (i + 1) group) o noted) (sym none)
      (record {
        uncovered = all.covered w ∙ passed.uncovered;
        done = more_behind w rest (pending alike rest (take i group) ++ nogoods) noted group i within (λ v is. all.covered v ∙ is) passed.done
            (all_covered noted (insert w (slice_index_or group i 0)) rest (has.covered (insert w (slice_index_or group i 0)) ∙ or_right _ _ covered));
        are = All-nil (IsNogood network old);
        part = tt;
      })

  -- all of them: they are refuted alike
  pub all_alike : (i : ℕ) → length group ≤ i → (fixed : Premises) (nogoods : List Premises) → IsPassed network old w rest (take i group) (Some fixed) nogoods →
      (covers nogoods w ≡ false) × (is_subset fixed w ≡ true) × AreNogoods network old (worldviews_beside fixed (group ∷ rest))
  all_alike i past fixed nogoods passed = (
    (neither_one _ _ (sym (covers_both (pending (Some fixed) rest (take i group)) nogoods w) ∙ passed.uncovered)).1,
    passed.part,
    subst (AreNogoods network old) (ap (flat_map (beside fixed rest)) (take_all i group past) ∙ sym (worldviews_in_pieces fixed rest group)) passed.are,
  )

  -- or covered
  pub all_passed : (i : ℕ) → length group ≤ i → (nogoods : List Premises) → IsPassed network old w rest (take i group) None nogoods →
      (covers nogoods w ≡ false) × AreCovered nogoods (worldviews_beside w (group ∷ rest))
  all_passed i past nogoods passed = (passed.uncovered, all_behind w rest nogoods group i past passed.done)

-- ---- what was found behind one more premise

module _ (w more : Premises) (groups : List (List ℕ)) (picked with group : List ℕ) (i : ℕ)
    (left : drop (length picked) groups ≡ group ∷ drop (length picked + 1) groups) (within : i < length group)
    (believed : more ≡ insert w (slice_index_or group i 0)) (pushed : with ≡ picked ++ slice_index_or group i 0 ∷ [])
    (network : Network) (old store : Store) (grows : KeepsMore network old store) (alike : Option Premises) (before after : List Premises)
    (nogood : Premises) (place : ℕ) where
  -- the groups after this one, and what waits
  abbrev others_left : List (List ℕ)
  others_left = drop (length picked + 1) groups

  abbrev waiting : List Premises
  waiting = pending alike others_left (take i group)

  longer : length with ≡ length picked + 1
  longer = ap length pushed ∙ length-append picked (slice_index_or group i 0 ∷ [])

  after_uncovered : covers after more ≡ false → covers after w ≡ false
  after_uncovered = part_uncovered after w more (part_of_more w more groups picked with group i left within believed pushed)

  waiting_uncovered : IsPassed network old w others_left (take i group) alike before → covers waiting w ≡ false
  waiting_uncovered passed = (neither_one _ _ (sym (covers_both waiting before w) ∙ passed.uncovered)).0

  -- what ends the search there ends it here, once what waits is noted
  pub found_then : (found : Found) (noted : List Premises) → IsWellNetwork network → kinds_of old ≡ kinds_in network → AreNogoods network old before →
      IsPassed network old w others_left (take i group) alike before → HasMore after noted waiting → ends_search nogood w found ≡ true →
      IsFoundBeside network store after nogood place more groups with found → IsFoundBeside network old noted nogood place w groups picked found
  found_then (Chosen picks) noted well same are passed has ends first =
      subst (λ gs. IsFirstBeside network old w gs picked (picked_in picks)) (sym left)
      (first_behind network old w others_left group i within well same (waiting ++ before) (All-append (IsNogood network old) waiting before passed.are are)
      passed.done picked (picked_in picks) (first_now w more groups picked with group i left within believed pushed network old store grows (picked_in picks) first))
  found_then Refuted noted well same are passed has ends found = (
    has.covered w ∙ none_of _ _ (waiting_uncovered passed) (after_uncovered found.0),
    record {
      part = ends;
      past = omega (arith, longer, found.1.past);
      within = found.1.within;
      nogoods = nogoods_then network old store grows (worldviews_beside nogood (drop place groups)) found.1.nogoods;
    },
  )
  found_then Nothing noted well same are passed has ends found = absurd (false≢true ends)

  -- otherwise what refutes the premise is nogoods
  pub refuting_are : (found : Found) → IsFoundBeside network store after nogood place more groups with found →
      AreNogoods network old (refuting found nogood (drop place groups))
  refuting_are (Chosen picks) is = All-nil (IsNogood network old)
  refuting_are Refuted is = nogoods_then network old store grows (worldviews_beside nogood (drop place groups)) is.1.nogoods
  refuting_are Nothing is = All-nil (IsNogood network old)

  refuting_apart : (found : Found) → ends_search nogood w found ≡ false → covers (refuting found nogood (drop place groups)) w ≡ false
  refuting_apart (Chosen picks) goes = absurd (false≢true (sym goes))
  refuting_apart Refuted goes = fixed_missing nogood w (drop place groups) goes
  refuting_apart Nothing goes = refl

  found_uncovered : (found : Found) → ends_search nogood w found ≡ false → IsFoundBeside network store after nogood place more groups with found →
      covers after more ≡ false
  found_uncovered (Chosen picks) goes is = absurd (false≢true (sym goes))
  found_uncovered Refuted goes is = is.0
  found_uncovered Nothing goes is = is.0

  -- and covers all behind it, with what is noted
  behind_covered : (found : Found) → ends_search nogood w found ≡ false → IsFoundBeside network store after nogood place more groups with found →
      (now : List Premises) → HasMore (waiting ++ after) now (refuting found nogood (drop place groups)) →
      AreCovered now (worldviews_beside more (drop (length with) groups))
  behind_covered (Chosen picks) goes is now has = absurd (false≢true (sym goes))
  behind_covered Refuted goes is now has =
      All-weaker (λ v. covers (worldviews_beside nogood (drop place groups)) v ≡ true) (λ v. covers now v ≡ true)
      (λ v covered. has.covered v ∙ or_left _ _ covered) (worldviews_beside more (drop (length with) groups))
      (all_refuted nogood more groups (length with) place is.1.part is.1.past)
  behind_covered Nothing goes is now has =
      All-weaker (λ v. covers after v ≡ true) (λ v. covers now v ≡ true)
      (λ v covered. has.covered v ∙ (covers_both waiting after v ∙ or_right (covers waiting v) (covers after v) covered)) (worldviews_beside more (drop (length with) groups)) is.1

  part_then : (found : Found) (now : Option Premises) → IsFoundBeside network store after nogood place more groups with found →
      IfSome now (λ fixed. (found ≡ Refuted) × (fixed ≡ remove nogood (slice_index_or group i 0))) → IfSome now (λ fixed. is_subset fixed w ≡ true)
  part_then found None is alike = tt
  part_then found (Some fixed) is alike =
      let refuted : Refutes network store more groups with nogood place = (subst (λ f. IsFoundBeside network store after nogood place more groups with f) alike.0 is).1 in
      subst (λ s. is_subset s w ≡ true) (sym alike.1)
      (rest_within nogood w (slice_index_or group i 0) (subst (λ v. is_subset nogood v ≡ true) believed refuted.part))

  -- so one more premise is passed
  pub one_passed : (found : Found) (now : Option Premises) (noted : List Premises) → ends_search nogood w found ≡ false →
      IsFoundBeside network store after nogood place more groups with found → ((v : Premises) → covers before v ≡ true → covers after v ≡ true) →
      AreNogoods network old after → IsPassed network old w others_left (take i group) alike before →
      IfSome now (λ fixed. (found ≡ Refuted) × (fixed ≡ remove nogood (slice_index_or group i 0))) →
      HasMore (waiting ++ after) (pending now others_left (take (i + 1) group) ++ noted) (refuting found nogood (drop place groups)) →
      IsPassed network old w others_left (take (i + 1) group) now noted
  one_passed found now noted goes is more_covered are passed alike_now has = record {
    uncovered = has.covered w ∙ none_of _ _ (refuting_apart found goes)
        (covers_both waiting after w ∙ none_of _ _ (waiting_uncovered passed) (after_uncovered (found_uncovered found goes is)));
    done = more_behind w others_left (waiting ++ before) total group i within
        (λ v covered. has.covered v ∙ or_right _ _ (still v covered)) passed.done
        (subst (AreCovered total) (worldviews_then w more groups picked with group i left within believed pushed) (behind_covered found goes is total has));
    are = front (IsNogood network old) (pending now others_left (take (i + 1) group)) noted (each_member (IsNogood network old) total (λ set there.
        elim (has.within set there) [
          | inl mine ↦ All-contains (IsNogood network old) (refuting found nogood (drop place groups)) set (refuting_are found is) mine
          | inr before ↦ elim (Contains-append_cases waiting after set before) [
            | inl waits ↦ All-contains (IsNogood network old) waiting set passed.are waits
            | inr noted ↦ All-contains (IsNogood network old) after set are noted
          ]
        ]));
    part = part_then found now is alike_now;
  }
    where
      total : List Premises
      total = pending now others_left (take (i + 1) group) ++ noted

      still : (v : Premises) → covers (waiting ++ before) v ≡ true → covers (waiting ++ after) v ≡ true
      still v covered = covers_both waiting after v ∙ either (covers waiting v) (covers before v) (covers after v) (more_covered v)
          (sym (covers_both waiting before v) ∙ covered)
        where
          either : (a b c : Bool) → (b ≡ true → c ≡ true) → (a || b) ≡ true → (a || c) ≡ true
          either true b c then both = refl
          either false b c then both = then both

-- ---- as the code speaks of it

-- the place of the next group is the number of those picked
module _ (groups : List (List ℕ)) (picked seen group : List ℕ) (is : seen ≡ picked) (at : group ≡ slice_index_or groups (length seen) []) where
  pub waiting_is : (alike : Option Premises) (n : ℕ) →
      pending alike (drop (length seen + 1) groups) (take n (slice_index_or groups (length seen) [])) ≡ pending alike (drop (length picked + 1) groups) (take n group)
  waiting_is alike n = λ k. pending alike (drop (length (is k) + 1) groups) (take n (sym at k))

  pub more_is : (alike now : Option Premises) (i : ℕ) (before noted others : List Premises) →
      HasMore (pending alike (drop (length seen + 1) groups) (take i (slice_index_or groups (length seen) [])) ++ before)
      (pending now (drop (length seen + 1) groups) (take (i + 1) (slice_index_or groups (length seen) [])) ++ noted) others →
      HasMore (pending alike (drop (length picked + 1) groups) (take i group) ++ before) (pending now (drop (length picked + 1) groups) (take (i + 1) group) ++ noted) others
  more_is alike now i before noted others has =
      subst (λ (l : List Premises). HasMore (l ++ before) (pending now (drop (length picked + 1) groups) (take (i + 1) group) ++ noted) others) (waiting_is alike i)
      (subst (λ (l : List Premises). HasMore (pending alike (drop (length seen + 1) groups) (take i (slice_index_or groups (length seen) [])) ++ before) (l ++ noted) others)
      (waiting_is now (i + 1)) has)

  pub waits_is : (found : Found) (now : Option Premises) (nogood : Premises) (i : ℕ) →
      IfSome now (λ fixed. (found ≡ Refuted) × (fixed ≡ remove nogood (slice_index_or (slice_index_or groups (length seen) []) i 0))) →
      IfSome now (λ fixed. (found ≡ Refuted) × (fixed ≡ remove nogood (slice_index_or group i 0)))
  waits_is found now nogood i waits =
      subst (λ (l : List ℕ). IfSome now (λ fixed. (found ≡ Refuted) × (fixed ≡ remove nogood (slice_index_or l i 0)))) (sym at) waits

-- one or the other values are those of a worldview
pub either_settled : (network : Network) (store : Store) (r a b : Option Settled) → (r ≡ a) ⊎ (r ≡ b) → AreSettledLast network store a →
    AreSettledLast network store b → AreSettledLast network store r
either_settled network store r a b (inl is) one other = subst (AreSettledLast network store) (sym is) one
either_settled network store r a b (inr is) one other = subst (AreSettledLast network store) (sym is) other

-- ---- at the end

-- nothing found is nothing refuted
pub not_both : {E : Type 0} (result : Result Found E) (found one : Found) → result ≡ Ok Nothing → result ≡ Ok found → found ≡ one → Nothing ≡ one
not_both result found one nothing was is =
    let same : found ≡ Nothing = cc in
    sym same ∙ is

pub refuted_apart : Nothing ≡ Refuted → ⊥
refuted_apart same = false≢true (ap is_refuted same)
  where
    is_refuted : Found → Bool
    is_refuted (Chosen picks) = false
    is_refuted Refuted = true
    is_refuted Nothing = false

-- once what refutes all is noted, all are covered
pub refuted_covered : (network : Network) (store : Store) (w : Premises) (groups : List (List ℕ)) (picked : List ℕ) (nogood : Premises) (place : ℕ) →
    Refutes network store w groups picked nogood place → (old new : List Premises) →
    ((v : Premises) → covers new v ≡ (covers (worldviews_beside nogood (drop place groups)) v || covers old v)) →
    AreCovered new (worldviews_beside w (drop (length picked) groups))
refuted_covered network store w groups picked nogood place refuted old new more =
    All-weaker (λ v. covers (worldviews_beside nogood (drop place groups)) v ≡ true) (λ v. covers new v ≡ true)
    (λ v covered. more v ∙ or_left _ _ covered) (worldviews_beside w (drop (length picked) groups))
    (all_refuted nogood w groups (length picked) place refuted.part refuted.past)

-- by nogoods
pub refuted_nogoods : (network : Network) (store : Store) (old new others : List Premises) → AreNogoods network store old → AreNogoods network store others →
    ((set : Premises) → Contains new set → Contains others set ⊎ Contains old set) → AreNogoods network store new
refuted_nogoods network store old new others are refuted within = each_member (IsNogood network store) new (λ set there. elim (within set there) [
  | inl mine ↦ All-contains (IsNogood network store) others set refuted mine
  | inr before ↦ All-contains (IsNogood network store) old set are before
])
