-- Premises that contradict themselves: they do so if more is believed, told and attached; and which
-- sets are covered after one more is noted.
use Rattle.std.proofs.Common.{◌≡◌, ℕ, ◌<◌, Bool, true, false, ◌||◌, ◌⊎◌, List, Contains, length, refl, sym, ap, ◌∙◌, subst, arith, inl, inr, length-append}
use Rattle.std.specs.FinSet.{is_subset}
use Rattle.std.proofs.lemmas.Bool.{cases_Bool, false≢true}
use Rattle.std.proofs.lemmas.List.Elements.{All-contains, All-weaker}
use Rattle.std.proofs.lemmas.List.Folds.{Any-from_list_any, list_any-from_Any}
use Rattle.pw_info.specs.declared.info.Info.{Info}
use Rattle.pw_info.specs.Information.{allows, Implies, IsContradiction}
use Rattle.pw_premises.specs.Premises.{Premises}
use Rattle.pw_premises.specs.PremiseSubsets.{is_subset_refl, is_subset_trans}
use Rattle.pw_cells.specs.Cells.{Store, kinds_of, told_in}
use Rattle.pw_network.specs.Network.{Network, IsWellNetwork, cells_in}
use Rattle.pw_settle.specs.Values.{kinds_in, value_in}
use Rattle.pw_settle.specs.Growth.{IsWider}
use Rattle.pw_settle.proofs.Growing.{same_value}
use Rattle.pw_settle.proofs.Membership.{each_member}
use Rattle.pw_settle.proofs.SettledValues.{kinds_many}
use Rattle.pw_settle.proofs.ValueGrows.{value_grows}
use Rattle.pw_settle.proofs.WiderNetworks.{value_wider}
use Rattle.pw_reasons.specs.Nogood.{AreNogoods, IsNogood}
use Rattle.pw_reasons.specs.Nogood.{covers}

-- ---- nogoods stay nogoods

-- what says a contradiction is one
pub still_contradictory : (a b : Info) → Implies a b → IsContradiction b → IsContradiction a
still_contradictory a b implies none v =
    elim (cases_Bool (allows a v)) [
      | inl possible ↦ absurd (false≢true (sym (none v) ∙ implies v possible))
      | inr not_possible ↦ not_possible
    ]

-- a larger set is one
pub larger_nogood : (network : Network) (store : Store) → IsWellNetwork network → kinds_of store ≡ kinds_in network → (part premises : Premises) →
    is_subset part premises ≡ true → IsNogood network store part → IsNogood network store premises
larger_nogood network store well same part premises within is = record {
  cell = is.cell;
  here = is.here;
  contradictory = still_contradictory (value_in network store premises is.cell) (value_in network store part is.cell)
      (value_grows network store well same is.cell part premises within) is.contradictory;
}

-- and if more is attached and no less is told, each is still a nogood
pub wider_nogood : (network wider : Network) → IsWellNetwork network → IsWellNetwork wider → IsWider network wider → (old new : Store) →
    kinds_of old ≡ kinds_in network → kinds_of new ≡ kinds_in wider → (premises : Premises) →
    ((cell : ℕ) → cell < cells_in network → Implies (told_in new cell premises) (told_in old cell premises)) →
    IsNogood network old premises → IsNogood wider new premises
wider_nogood network wider well also wide old new same fits premises told is =
    let many = kinds_many network well in
    let more = kinds_many wider also in
    let longer = length-append (kinds_in network) wide.own in
    record {
      cell = is.cell;
      here = omega (arith, many, more, longer, ap length wide.kinds_are, is.here);
      contradictory = still_contradictory (value_in wider new premises is.cell) (value_in network old premises is.cell)
          (value_wider network wider wide well also old new same fits premises
          (λ cell below. told cell (omega (arith, many, below))) is.cell (omega (arith, many, is.here))) is.contradictory;
    }

-- if the same is told, all stay as they were
pub nogoods_same : (network : Network) (old new : Store) → ((cell : ℕ) (w : Premises) → told_in new cell w ≡ told_in old cell w) →
    (nogoods : List Premises) → AreNogoods network old nogoods → AreNogoods network new nogoods
nogoods_same network old new told =
    All-weaker (IsNogood network old) (IsNogood network new) (λ premises is. record {
      cell = is.cell;
      here = is.here;
      contradictory = subst IsContradiction (sym (same_value network old new told premises is.cell)) is.contradictory;
    })

-- ---- one more set

-- each set that is noted afterwards was noted before, or is this one
pub nogoods_more : (network : Network) (store : Store) (premises : Premises) (old new : List Premises) → AreNogoods network store old →
    IsNogood network store premises → ((noted : Premises) → Contains new noted → (noted ≡ premises) ⊎ Contains old noted) → AreNogoods network store new
nogoods_more network store premises old new are is within =
    each_member (IsNogood network store) new (λ noted there. elim (within noted there) [
      | inl same ↦ subst (IsNogood network store) (sym same) is
      | inr before ↦ All-contains (IsNogood network store) old noted are before
    ])

-- what covers a part covers the whole
pub covers_grows : (nogoods : List Premises) (part w : Premises) → is_subset part w ≡ true → covers nogoods part ≡ true → covers nogoods w ≡ true
covers_grows nogoods part w within covered =
    let some = Any-from_list_any (λ noted. is_subset noted part) nogoods covered in
    list_any-from_Any (λ noted. is_subset noted w) nogoods (some.0, some.1, some.2, some.3, is_subset_trans some.1 part w some.4 within)

-- a part of what is not covered is not
pub part_uncovered : (nogoods : List Premises) (part w : Premises) → is_subset part w ≡ true → covers nogoods w ≡ false → covers nogoods part ≡ false
part_uncovered nogoods part w within uncovered =
    elim (cases_Bool (covers nogoods part)) [
      | inl covered ↦ absurd (false≢true (sym uncovered ∙ covers_grows nogoods part w within covered))
      | inr not_covered ↦ not_covered
    ]

-- a noted set covers each that includes it
pub noted_covers : (nogoods : List Premises) (nogood : Premises) → Contains nogoods nogood → (w : Premises) → is_subset nogood w ≡ true → covers nogoods w ≡ true
noted_covers nogoods nogood there w within =
    list_any-from_Any (λ noted. is_subset noted w) nogoods (there.0, nogood, there.1, there.2, within)

-- ---- one more covered set

-- if these are covered, one more set of them covers nothing more
pub covers_already : (premises : Premises) (nogoods : List Premises) → covers nogoods premises ≡ true → (w : Premises) →
    covers nogoods w ≡ (is_subset premises w || covers nogoods w)
covers_already premises nogoods covered w = by_test (is_subset premises w) refl where
  by_test : (b : Bool) → is_subset premises w ≡ b → covers nogoods w ≡ (b || covers nogoods w)
  by_test true within = covers_grows nogoods premises w within covered
  by_test false apart = refl

-- once a set is noted, it is covered
pub covers_itself : (premises : Premises) (old new : List Premises) → ((w : Premises) → covers new w ≡ (is_subset premises w || covers old w)) →
    covers new premises ≡ true
covers_itself premises old new more = more premises ∙ ap (λ b. b || covers old premises) (is_subset_refl premises)
