-- What is left of a worldview after premises of it were tried: a part that gives the same value,
-- and that keeps exactly what is needed.
use Rattle.std.proofs.Common.{◌≡◌, ◌≢◌, ℕ, zero, suc, ◌+◌, ◌<◌, ◌≤◌, ◌↔◌, Bool, true, false, not, cond, ◌&&◌, ◌||◌, if◌then◌else◌, List, [], ◌∷◌, ◌++◌, filter, length, reverse, refl, sym, ap, subst, ◌∙◌, arith, inl, inr, Decides}
use Rattle.std.specs.Prelude.{nat_eq, nat_lt}
use Rattle.std.specs.Iterator.{YieldsLast}
use Rattle.std.specs.Iterator.Adapters.{rev_source, rev_steps}
use Rattle.std.specs.declared.iter.Rev.{Rev}
use Rattle.std.specs.List.{range_with_len}
use Rattle.std.specs.Cmp.{nat_cmp_total, unsigned_tied}
use Rattle.std.specs.FinSet.{contains, remove, retain, is_subset, same_set, contains-remove, contains-retain, contains-union, contains-is_subset, is_subset-contains, nat_cmp-IsAntisymmetric}
use Rattle.std.proofs.lemmas.Bool.{cases_eq, cases_order}
use Rattle.std.proofs.lemmas.Bool.Decides.{nat_tests}
use Rattle.std.proofs.lemmas.List.{length-reverse, reverse-append, reverse-reverse}
use Rattle.std.proofs.lemmas.Iterator.{YieldsList}
use Rattle.std.proofs.lemmas.Iterator.Consumers.{YieldsList-from_shown}
use Rattle.pw_info.specs.declared.info.Info.{Info}
use Rattle.pw_info.specs.Information.{allows, Implies}
use Rattle.pw_info.proofs.Informations.{Implies-antisym}
use Rattle.pw_premises.specs.Premises.{numbers_of}
use Rattle.pw_premises.specs.Premises.{Premises, most_premises}
use Rattle.pw_premises.specs.PremiseSubsets.{is_subset_refl, is_subset_trans, remove_is_subset}
use Rattle.pw_reasons.specs.Reason.{Grows, tried, left_of, reason_of, before_and_after}
use Rattle.pw_reasons.specs.SameInfo.{same_info}
use Rattle.pw_reasons.proofs.SameInfoLemmas.{same_info_is}

-- ---- what sets of premises contain

contains-without : (s : Premises) (n q : ℕ) → contains (remove s n) q ≡ (not (nat_eq q n) && contains s q)
contains-without s n q = contains-remove nat_cmp_total s n q ∙ ap (λ b. not b && contains s q) (unsigned_tied q n)

not_itself : (b : Bool) (n : ℕ) → (not (nat_eq n n) && b) ≡ false
not_itself b n = grind (arith, nat_tests)

not_same : (b : Bool) (q n : ℕ) → q ≢ n → (not (nat_eq q n) && b) ≡ b
not_same b q n other = grind (arith, nat_tests)

-- a set without a number does not contain it
without_itself : (s : Premises) (n : ℕ) → contains (remove s n) n ≡ false
without_itself s n = contains-without s n n ∙ not_itself (contains s n) n

-- and contains each other that the set does
without_others : (s : Premises) (n q : ℕ) → q ≢ n → contains (remove s n) q ≡ contains s q
without_others s n q other = contains-without s n q ∙ not_same (contains s q) q n other

-- a part of a set is a part of it without a number that the part lacks
pub part_without : (s t : Premises) (n : ℕ) → is_subset s t ≡ true → contains s n ≡ false → is_subset s (remove t n) ≡ true
part_without s t n within lacks =
    contains-is_subset nat_cmp_total s (remove t n) (λ q has. elim (cases_eq q n) [
      | inl same ↦ let wrong : false ≡ true = sym lacks ∙ ap (contains s) (sym same) ∙ has in absurd (cc)
      | inr other ↦ without_others t n q other ∙ is_subset-contains nat_cmp_total s t within q has
    ])

contains-part : (s : Premises) (p : ℕ → Bool) (q : ℕ) → contains (retain s p) q ≡ (contains s q && p q)
contains-part s p q = contains-retain s p q (λ x e. ap p (sym (nat_cmp-IsAntisymmetric q x e)))

contains-before_and_after : (earlier later : Premises) (n q : ℕ) →
    contains (before_and_after earlier later n) q ≡ ((contains earlier q && nat_lt q n) || (contains later q && nat_lt n q))
contains-before_and_after earlier later n q =
    contains-union nat_cmp_total _ _ q
    ∙ (λ i. contains-part earlier (λ k. nat_lt k n) q i || contains-part later (λ k. nat_lt n k) q i)

first_of_two : (a b : Bool) (n q : ℕ) → q < n → ((a && nat_lt q n) || (b && nat_lt n q)) ≡ a
first_of_two a b n q below = grind (arith, nat_tests)

none_of_two : (a b : Bool) (n : ℕ) → ((a && nat_lt n n) || (b && nat_lt n n)) ≡ false
none_of_two a b n = grind (arith, nat_tests)

second_of_two : (a b : Bool) (n q : ℕ) → n < q → ((a && nat_lt q n) || (b && nat_lt n q)) ≡ b
second_of_two a b n q above = grind (arith, nat_tests)

module _ (earlier later : Premises) (n : ℕ) where
  -- the premises of the one set before this one and of the other after it: what these contain
  -- before it, there, and after it
  contains-before : (q : ℕ) → q < n → contains (before_and_after earlier later n) q ≡ contains earlier q
  contains-before q below = contains-before_and_after earlier later n q ∙ first_of_two (contains earlier q) (contains later q) n q below

  contains-there : contains (before_and_after earlier later n) n ≡ false
  contains-there = contains-before_and_after earlier later n n ∙ none_of_two (contains earlier n) (contains later n) n

  contains-after : (q : ℕ) → n < q → contains (before_and_after earlier later n) q ≡ contains later q
  contains-after q above = contains-before_and_after earlier later n q ∙ second_of_two (contains earlier q) (contains later q) n q above

  -- and a set that contains exactly this is that
  is_before_and_after : (s : Premises) → ((q : ℕ) → q < n → contains s q ≡ contains earlier q) → contains s n ≡ false →
      ((q : ℕ) → n < q → contains s q ≡ contains later q) → s ≡ before_and_after earlier later n
  is_before_and_after s before there after =
      same_set nat_cmp_total nat_cmp-IsAntisymmetric s (before_and_after earlier later n) (λ q. elim (cases_order q n) [
        | inl same ↦ subst (λ (k : ℕ). contains s k ≡ contains (before_and_after earlier later n) k) (sym same) (there ∙ sym contains-there)
        | inr (inl below) ↦ before q below ∙ sym (contains-before q below)
        | inr (inr above) ↦ after q above ∙ sym (contains-after q above)
      ])

-- ---- one premise tried

module _ (value : Premises → Info) (worldview : Premises) where
  module _ (left : Premises) (n : ℕ) where
    -- what is left is a part of what was
    tried_part : is_subset (tried value worldview left n) left ≡ true
    tried_part = part (same_info (value (remove left n)) (value worldview)) where
      part : (b : Bool) → is_subset (if b then remove left n else left) left ≡ true
      part true = remove_is_subset left n
      part false = is_subset_refl left

    -- the value stays
    tried_same : value left ≡ value worldview → value (tried value worldview left n) ≡ value worldview
    tried_same so_far =
        stays (same_info (value (remove left n)) (value worldview)) (same_info_is (value (remove left n)) (value worldview))
      where
        stays : (b : Bool) → Decides b (value (remove left n) ≡ value worldview) → value (if b then remove left n else left) ≡ value worldview
        stays true decides = decides.0 refl
        stays false decides = so_far

    -- the other premises stay
    tried_others : (q : ℕ) → q ≢ n → contains (tried value worldview left n) q ≡ contains left q
    tried_others q other = stays (same_info (value (remove left n)) (value worldview)) where
      stays : (b : Bool) → contains (if b then remove left n else left) q ≡ contains left q
      stays true = without_others left n q other
      stays false = refl

    -- the premise stays exactly if the value without it is another
    tried_itself : contains left n ≡ true → (contains (tried value worldview left n) n ≡ true) ↔ (value (remove left n) ≢ value worldview)
    tried_itself here =
        decided (same_info (value (remove left n)) (value worldview)) (same_info_is (value (remove left n)) (value worldview))
      where
        decided : (b : Bool) → Decides b (value (remove left n) ≡ value worldview) →
            (contains (if b then remove left n else left) n ≡ true) ↔ (value (remove left n) ≢ value worldview)
        decided true decides = (
          λ e same. let wrong : false ≡ true = sym (without_itself left n) ∙ e in absurd (cc),
          λ other. absurd (other (decides.0 refl)),
        )
        decided false decides = (λ e same. let wrong : false ≡ true = decides.1 same in absurd (cc), λ other. here)

  -- ---- premises tried one after another

  -- what is left is a part of the worldview
  left_part : (premises : List ℕ) → is_subset (left_of value worldview premises) worldview ≡ true
  left_part [] = is_subset_refl worldview
  left_part (premise ∷ later) =
      is_subset_trans _ _ _ (tried_part (left_of value worldview later) premise) (left_part later)

  -- with the value of the worldview
  left_same : (premises : List ℕ) → value (left_of value worldview premises) ≡ value worldview
  left_same [] = refl
  left_same (premise ∷ later) = tried_same (left_of value worldview later) premise (left_same later)

  -- the premises of the worldview among `many` numbers from this one on
  abbrev row : ℕ → ℕ → List ℕ
  row from many = filter (contains worldview) (range_with_len from many)

  -- the remaining premises after a row like this: its first premise is tried last, if the worldview
  -- has it
  first_tried : (P : Premises → Type 0) (many from : ℕ) →
      (contains worldview from ≡ true → P (tried value worldview (left_of value worldview (row (from + 1) many)) from)) →
      (contains worldview from ≡ false → P (left_of value worldview (row (from + 1) many))) →
      P (left_of value worldview (row from (suc many)))
  first_tried P many from there passed = choose (contains worldview from) there passed where
    choose : (b : Bool) → (b ≡ true → P (tried value worldview (left_of value worldview (row (from + 1) many)) from)) →
        (b ≡ false → P (left_of value worldview (row (from + 1) many))) →
        P (left_of value worldview (cond b (from ∷ row (from + 1) many) (row (from + 1) many)))
    choose true there passed = there refl
    choose false there passed = passed refl

  -- the premises before those that were tried are unchanged
  untried : (many from q : ℕ) → q < from → contains (left_of value worldview (row from many)) q ≡ contains worldview q
  untried zero from q below = refl
  untried (suc many) from q below =
      let later = untried many (from + 1) q (omega arith) in
      first_tried (λ s. contains s q ≡ contains worldview q) many from
      (λ has. tried_others (left_of value worldview (row (from + 1) many)) from q (λ e. omega arith) ∙ later) (λ lacks. later)

  -- a premise is in this set exactly if it is needed: if the premises before it, with those of the
  -- set after it, give another value than the worldview
  abbrev IsKeptIfNeeded : ℕ → Premises → Type 0
  IsKeptIfNeeded n left = (contains left n ≡ true) ↔ (value (before_and_after worldview left n) ≢ value worldview)

  -- this becomes true of a premise that is tried, if the premises before it are unchanged
  kept_here : (left : Premises) (n : ℕ) → ((q : ℕ) → q ≤ n → contains left q ≡ contains worldview q) → contains worldview n ≡ true →
      IsKeptIfNeeded n (tried value worldview left n)
  kept_here left n earlier here =
      subst (λ (s : Premises). (contains (tried value worldview left n) n ≡ true) ↔ (value s ≢ value worldview)) same
      (tried_itself left n (earlier n (omega arith) ∙ here))
    where
      same : remove left n ≡ before_and_after worldview (tried value worldview left n) n
      same = is_before_and_after worldview (tried value worldview left n) n (remove left n)
          (λ q below. without_others left n q (λ e. omega arith) ∙ earlier q (omega arith))
          (without_itself left n)
          (λ q above. without_others left n q (λ e. omega arith) ∙ sym (tried_others left n q (λ e. omega arith)))

  -- and it stays so if a premise before it is tried
  kept_still : (left : Premises) (m n : ℕ) → m < n → IsKeptIfNeeded n left → IsKeptIfNeeded n (tried value worldview left m)
  kept_still left m n before so_far =
      subst (λ (b : Bool). (b ≡ true) ↔ (value (before_and_after worldview (tried value worldview left m) n) ≢ value worldview))
      (sym (tried_others left m n (λ e. omega arith)))
      (subst (λ (s : Premises). (contains left n ≡ true) ↔ (value s ≢ value worldview)) same so_far)
    where
      same : before_and_after worldview left n ≡ before_and_after worldview (tried value worldview left m) n
      same = is_before_and_after worldview (tried value worldview left m) n (before_and_after worldview left n)
          (contains-before worldview left n) (contains-there worldview left n)
          (λ q above. contains-after worldview left n q above ∙ sym (tried_others left m q (λ e. omega arith)))

  -- so what is left has exactly those of the premises tried that are needed
  kept : (many from n : ℕ) → from ≤ n → n < from + many → contains worldview n ≡ true →
      IsKeptIfNeeded n (left_of value worldview (row from many))
  kept zero from n low high here = absurd (omega arith)
  kept (suc many) from n low high here =
      let earlier = λ (q : ℕ) (within : q ≤ from). untried many (from + 1) q (omega arith) in
      let later = λ (above : from < n). kept many (from + 1) n (omega arith) (omega arith) here in
      let left = left_of value worldview (row (from + 1) many) in
      first_tried (IsKeptIfNeeded n) many from
      (λ has. elim (cases_eq from n) [
        | inl same ↦ subst (λ (k : ℕ). IsKeptIfNeeded k (tried value worldview left from)) same (kept_here left from earlier has)
        | inr other ↦ kept_still left from n (omega arith) (later (omega arith))
      ])
      (λ lacks. later (omega (arith, another lacks)))
    where
      another : contains worldview from ≡ false → from ≢ n
      another lacks same = let wrong : false ≡ true = sym lacks ∙ ap (contains worldview) same ∙ here in absurd (cc)

  -- if the value grows, a part of the worldview whose value implies the worldview's has the same
  -- value
  pub implied_same : Grows value → (part : Premises) → is_subset part worldview ≡ true → Implies (value part) (value worldview) →
      value part ≡ value worldview
  implied_same grows part within implied =
      Implies-antisym (value part) (value worldview) (grows.kinds part worldview) implied (grows.more part worldview within)

  module _ (left : Premises) (premise : ℕ) where
    -- a premise that is tried goes where the value without it says the worldview's
    pub tried_out : Grows value → is_subset left worldview ≡ true → Implies (value (remove left premise)) (value worldview) →
        tried value worldview left premise ≡ remove left premise
    tried_out grows part implied =
        ap (λ (b : Bool). if b then remove left premise else left)
        ((same_info_is (value (remove left premise)) (value worldview)).1
        (implied_same grows (remove left premise) (is_subset_trans _ _ _ (remove_is_subset left premise) part) implied))

    -- and else it stays
    pub tried_in : (Implies (value (remove left premise)) (value worldview) → ⊥) → tried value worldview left premise ≡ left
    tried_in not_implied =
        stays (same_info (value (remove left premise)) (value worldview)) (same_info_is (value (remove left premise)) (value worldview))
      where
        stays : (b : Bool) → Decides b (value (remove left premise) ≡ value worldview) → (if b then remove left premise else left) ≡ left
        stays true decides =
            absurd (not_implied (λ v possible. subst (λ (i : Info). allows i v ≡ true) (decides.0 refl) possible))
        stays false decides = refl

  -- ---- the reason

  -- it is a part of the worldview
  pub reason_part : is_subset (reason_of value worldview) worldview ≡ true
  unfolding reason_of
  reason_part = left_part (numbers_of worldview)

  -- it gives the value of the worldview
  pub reason_same : value (reason_of value worldview) ≡ value worldview
  unfolding reason_of
  reason_same = left_same (numbers_of worldview)

  -- it has exactly those premises of the worldview that are needed
  pub reason_keeps : (premise : ℕ) → premise < most_premises → contains worldview premise ≡ true →
      IsKeptIfNeeded premise (reason_of value worldview)
  unfolding reason_of numbers_of
  reason_keeps premise below here = kept most_premises 0 premise (omega arith) (omega arith) here

  -- if the value grows, it is another without any one of its premises: the rest of the reason is a
  -- part of the premises before this one with those of the reason after it, and these are a part of
  -- the worldview
  pub reason_needed : Grows value → (premise : ℕ) → premise < most_premises → contains (reason_of value worldview) premise ≡ true →
      value (remove (reason_of value worldview) premise) ≢ value worldview
  reason_needed grows premise below needed same =
      (reason_keeps premise below (in_worldview premise needed)).0 needed
      (implied_same grows middle middle_part (subst (Implies (value middle)) same (grows.more rest middle rest_part)))
    where
      reason : Premises
      reason = reason_of value worldview

      rest : Premises
      rest = remove reason premise

      middle : Premises
      middle = before_and_after worldview reason premise

      in_worldview : (q : ℕ) → contains reason q ≡ true → contains worldview q ≡ true
      in_worldview q has = is_subset-contains nat_cmp_total reason worldview reason_part q has

      in_reason : (q : ℕ) → contains rest q ≡ true → contains reason q ≡ true
      in_reason q has = is_subset-contains nat_cmp_total rest reason (remove_is_subset reason premise) q has

      rest_part : is_subset rest middle ≡ true
      rest_part = contains-is_subset nat_cmp_total rest middle (λ q has. elim (cases_order q premise) [
        | inl here ↦ let wrong : false ≡ true = sym (without_itself reason premise) ∙ ap (contains rest) (sym here) ∙ has in absurd (cc)
        | inr (inl before) ↦ contains-before worldview reason premise q before ∙ in_worldview q (in_reason q has)
        | inr (inr after) ↦ contains-after worldview reason premise q after ∙ in_reason q has
      ])

      middle_part : is_subset middle worldview ≡ true
      middle_part = contains-is_subset nat_cmp_total middle worldview (λ q has. elim (cases_order q premise) [
        | inl here ↦ let wrong : false ≡ true = sym (contains-there worldview reason premise) ∙ ap (contains middle) (sym here) ∙ has in absurd (cc)
        | inr (inl before) ↦ sym (contains-before worldview reason premise q before) ∙ has
        | inr (inr after) ↦ in_worldview q (sym (contains-after worldview reason premise q after) ∙ has)
      ])

-- ---- the trials, from the last premise to the first

-- premises that come from the last to the first are a list reversed
pub premises_fall : {s : Rev (List ℕ)} (premises : List ℕ) → rev_source s ≡ premises →
    YieldsList (rev_steps (YieldsLast (λ left. left))) (λ n. n) s (reverse premises)
premises_fall {s} premises is =
    subst (λ (l : List ℕ). YieldsList (rev_steps (YieldsLast (λ left. left))) (λ n. n) s (reverse l)) is
    (YieldsList-from_shown (rev_steps (YieldsLast (λ left. left))) (λ n. n) (λ t. reverse (rev_source t))
    (λ t u none. length-reverse (rev_source t) ∙ ap length none.0)
    (λ t n u last. ap reverse last ∙ reverse-append (rev_source u) (n ∷ [])) s)

module _ (value : Premises → Info) (worldview : Premises) where
  -- what is left after the premises that came so far, from the last on, were tried
  abbrev pub left_after : List ℕ → Premises
  left_after came = left_of value worldview (reverse came)

  -- the next premise is tried
  pub one_tried : (came : List ℕ) (premise : ℕ) → left_after (came ++ premise ∷ []) ≡ tried value worldview (left_after came) premise
  one_tried came premise = ap (left_of value worldview) (reverse-append came (premise ∷ []))

  -- it is a part of the worldview
  pub after_part : (came : List ℕ) → is_subset (left_after came) worldview ≡ true
  after_part came = left_part value worldview (reverse came)

  -- after all came, what is left is the reason
  pub all_tried : (left : Premises) (came : List ℕ) → left ≡ left_after came → came ≡ reverse (numbers_of worldview) →
      left ≡ reason_of value worldview
  unfolding reason_of
  all_tried left came is all = is ∙ ap (left_of value worldview) (ap reverse all ∙ reverse-reverse (numbers_of worldview))

-- values that agree on the parts of a worldview have one reason there
pub reason_of_subsets : (f g : Premises → Info) (w : Premises) → ((s : Premises) → is_subset s w ≡ true → f s ≡ g s) →
    reason_of f w ≡ reason_of g w
unfolding reason_of
reason_of_subsets f g w same = lefts (numbers_of w) where
  lefts : (premises : List ℕ) → left_of f w premises ≡ left_of g w premises
  lefts [] = refl
  lefts (premise ∷ later) =
      let less : Premises = remove (left_of f w later) premise in
      let here : f less ≡ g less = same less (is_subset_trans _ _ _ (remove_is_subset (left_of f w later) premise) (left_part f w later)) in
      ap (λ (b : Bool). if b then less else left_of f w later) (λ i. same_info (here i) (same w (is_subset_refl w) i))
      ∙ ap (λ (s : Premises). tried g w s premise) (lefts later)
