-- The agenda of a settling beside the store while the instances are looked at, one after another.
use Rattle.std.proofs.Common.{◌≡◌, ℕ, ◌+◌, ◌<◌, ◌≤◌, Bool, true, false, eqb, List, length, set, inl, inr, sym, ap, ◌∙◌, subst, arith}
use Rattle.std.proofs.lemmas.Bool.{cases_Bool, eqb-false, eqb-true, ltb-false, ltb-true}
use Rattle.std.proofs.lemmas.List.{get_or-replicate, get_or-set_other, get_or-set_same, get_or_past, length-replicate, length-set}
use Rattle.std.specs.Prelude.{nat_lt, replicate}
use Rattle.pw_info.specs.declared.info.Info.{Info}
use Rattle.pw_info.specs.Information.{Implies}
use Rattle.pw_network.specs.Network.{Attached, Network}
use Rattle.pw_settle.specs.Settled.{info_at}
use Rattle.pw_settle.specs.Values.{attached_no}
use Rattle.pw_settle.specs.inside.Aside.{AreOthersMet, StaysMet}
use Rattle.pw_settle.specs.Calls.{is_set}

-- an instance stays met if it was visible, and what is known now of its output implies what was
module _ (network : Network) (was : List Bool) (before now : List Info) (number : ℕ) (a : Attached) (is : (d : Attached) → attached_no network number d ≡ a)
    (info_now info_before : Info) (now_is : info_now ≡ info_at now a.instance.output) (before_is : info_before ≡ info_at before a.instance.output) where
  pub stays_met : is_set was number ≡ true → Implies info_now info_before → StaysMet network was before now number
  stays_met shown implies = record {
    visible = shown;
    output = λ d. subst (λ (b : Attached). Implies (info_at now b.instance.output) (info_at before b.instance.output)) (sym (is d))
        (subst (λ (i : Info). Implies i (info_at before a.instance.output)) now_is (subst (λ (i : Info). Implies info_now i) before_is implies));
  }

  -- and only then
  pub met_implies : StaysMet network was before now number → Implies info_now info_before
  met_implies met =
      subst (λ (i : Info). Implies info_now i) (sym before_is)
      (subst (λ (i : Info). Implies i (info_at before a.instance.output)) (sym now_is)
      (subst (λ (b : Attached). Implies (info_at now b.instance.output) (info_at before b.instance.output)) (is a) (met.output a)))

-- of flags that are all cleared none is set
pub none_set : (count i : ℕ) → is_set (replicate count false) i ≡ false
none_set count i =
    elim (cases_Bool (nat_lt i count)) [
      | inl is ↦ get_or-replicate count i false false (ltb-true i count is)
      | inr not ↦ get_or_past (replicate count false) i false (omega (arith, ltb-false i count not, length-replicate count false))
    ]

module _ (network : Network) (visible was : List Bool) (before now : List Info) where
  -- of the instances below this number, the visible ones are queued that do not stay met
  pub record AreMetTo (count : ℕ) (queued : List Bool) : Type 0 where
    pub many : length queued ≡ length visible
    pub seen : (i : ℕ) → is_set queued i ≡ true → is_set visible i ≡ true
    pub unmet : (i : ℕ) → is_set queued i ≡ true → StaysMet network was before now i → ⊥
    pub others : (i : ℕ) → i < count → is_set visible i ≡ true → is_set queued i ≡ false → StaysMet network was before now i

  -- at first none is queued
  pub met_none : (queued : List Bool) → queued ≡ replicate (length visible) false → AreMetTo 0 queued
  met_none queued none = record {
    many = ap length none ∙ length-replicate (length visible) false;
    seen = λ i flag. absurd (none_queued i flag);
    unmet = λ i flag met. none_queued i flag;
    others = λ i below shown free. absurd (omega (arith, below));
  } where
    none_queued : (i : ℕ) → is_set queued i ≡ true → ⊥
    none_queued i flag =
        let free : is_set queued i ≡ false = ap (λ (l : List Bool). is_set l i) none ∙ none_set (length visible) i in
        absurd (cc)

  module _ (count : ℕ) (queued : List Bool) (so_far : AreMetTo count queued) where
    -- the next is hidden, or stays met
    pub met_passed : (is_set visible count ≡ true → StaysMet network was before now count) → AreMetTo (count + 1) queued
    met_passed one = record {
      many = so_far.many;
      seen = so_far.seen;
      unmet = so_far.unmet;
      others = λ i below shown free. elim (cases_Bool (eqb i count)) [
        | inl is ↦
            let e : i ≡ count = eqb-true i count is in
            subst (StaysMet network was before now) (sym e) (one (sym (ap (is_set visible) e) ∙ shown))
        | inr other ↦ so_far.others i (omega (arith, below, eqb-false i count other)) shown free
      ];
    }

    -- the next is queued
    pub met_queued : count < length visible → is_set visible count ≡ true → (StaysMet network was before now count → ⊥) →
        AreMetTo (count + 1) (set queued count true)
    met_queued there shown_one not_met = record {
      many = length-set queued count true ∙ so_far.many;
      seen = λ i flag. elim (cases_Bool (eqb i count)) [
        | inl is ↦ ap (is_set visible) (eqb-true i count is) ∙ shown_one
        | inr other ↦ so_far.seen i (sym (get_or-set_other queued count i true false (eqb-false i count other)) ∙ flag)
      ];
      unmet = λ i flag met. elim (cases_Bool (eqb i count)) [
        | inl is ↦ not_met (subst (StaysMet network was before now) (eqb-true i count is) met)
        | inr other ↦ so_far.unmet i (sym (get_or-set_other queued count i true false (eqb-false i count other)) ∙ flag) met
      ];
      others = λ i below shown free. elim (cases_Bool (eqb i count)) [
        | inl is ↦
            let set_now = ap (is_set (set queued count true)) (eqb-true i count is) ∙ get_or-set_same queued count true false (omega (arith, there, so_far.many)) in
            absurd (cc)
        | inr other ↦
            so_far.others i (omega (arith, below, eqb-false i count other)) shown
            (sym (get_or-set_other queued count i true false (eqb-false i count other)) ∙ free)
      ];
    }

    -- when all were looked at, all others stay met
    pub all_met : length visible ≤ count → AreOthersMet network visible was before now queued
    all_met past = record {
      flags = so_far.many;
      seen = so_far.seen;
      unmet = so_far.unmet;
      others = λ i below shown free. so_far.others i (omega (arith, below, past)) shown free;
    }
