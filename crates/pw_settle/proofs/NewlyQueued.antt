-- The visible instances from a number on are queued, one after another.
use Rattle.std.proofs.Common.{◌≡◌, ℕ, ◌+◌, ◌<◌, ◌≤◌, Bool, true, false, eqb, List, length, map, set, refl, sym, ap, ◌∙◌, arith, inl, inr}
use Rattle.std.specs.Prelude.{◌&&◌, nat_lt, not}
use Rattle.std.proofs.lemmas.Bool.{cases_Bool, eqb-false, eqb-true, lt-ltb, ltb-false, ltb-true}
use Rattle.std.proofs.lemmas.List.{get_or_past, get_or-set_other, get_or-set_same, length-set}
use Rattle.pw_network.specs.Network.{Network}
use Rattle.pw_settle.specs.Calls.{is_instance_visible, is_set, visible_at}
use Rattle.pw_settle.specs.Settled.{Settled}
use Rattle.pw_settle.specs.Due.{is_new}
use Rattle.pw_settle.proofs.NewInstances.{not_below}

module _ (visible : List Bool) (first : ℕ) where
  abbrev pub is_later : ℕ → Bool
  is_later n = is_set visible n && not (nat_lt n first)

  -- of the instances below this number, just these are queued
  pub record AreLaterTo (count : ℕ) (queued : List Bool) : Type 0 where
    pub flags : length queued ≡ length visible
    pub least : first ≤ count
    pub looked_at : (n : ℕ) → n < count → is_set queued n ≡ is_later n
    pub left : (n : ℕ) → count ≤ n → is_set queued n ≡ false

  hidden_is : (n : ℕ) → is_set visible n ≡ false → false ≡ is_later n
  hidden_is n hidden = rw (hidden) refl

  earlier_is : (n : ℕ) → n < first → is_later n ≡ false
  earlier_is n before = rw (lt-ltb n first before) (neither (is_set visible n))
    where
      neither : (b : Bool) → (b && false) ≡ false
      neither true = refl
      neither false = refl

  later_is : (n : ℕ) → first ≤ n → is_set visible n ≡ true → true ≡ is_later n
  later_is n past seen = rw (seen, not_below n first past) refl

  -- at first none is
  pub later_none : (queued : List Bool) → length queued ≡ length visible → ((n : ℕ) → is_set queued n ≡ false) → AreLaterTo first queued
  later_none queued flags none = record {
    flags = flags;
    least = omega arith;
    looked_at = λ n before. none n ∙ sym (earlier_is n before);
    left = λ n past. none n;
  }

  module _ (count : ℕ) (queued : List Bool) (so_far : AreLaterTo count queued) where
    -- a hidden one is passed over
    pub later_hidden : is_set visible count ≡ false → AreLaterTo (count + 1) queued
    later_hidden hidden = record {
      flags = so_far.flags;
      least = omega (arith, so_far.least);
      looked_at = λ n below. elim (cases_Bool (eqb n count)) [
        | inl is ↦
            let e : n ≡ count = eqb-true n count is in
            so_far.left n (omega (arith, e)) ∙ hidden_is count hidden ∙ sym (ap is_later e)
        | inr other ↦ so_far.looked_at n (omega (arith, below, eqb-false n count other))
      ];
      left = λ n past. so_far.left n (omega (arith, past));
    }

    -- a visible one is queued
    pub later_queued : count < length visible → is_set visible count ≡ true → AreLaterTo (count + 1) (set queued count true)
    later_queued there seen = record {
      flags = length-set queued count true ∙ so_far.flags;
      least = omega (arith, so_far.least);
      looked_at = λ n below. elim (cases_Bool (eqb n count)) [
        | inl is ↦
            let e : n ≡ count = eqb-true n count is in
            ap (is_set (set queued count true)) e ∙ get_or-set_same queued count true false (omega (arith, there, so_far.flags))
            ∙ later_is count so_far.least seen ∙ sym (ap is_later e)
        | inr other ↦
            get_or-set_other queued count n true false (eqb-false n count other) ∙ so_far.looked_at n (omega (arith, below, eqb-false n count other))
      ];
      left = λ n past. get_or-set_other queued count n true false (λ e. absurd (omega (arith, e, past))) ∙ so_far.left n (omega (arith, past));
    }

    -- when all were looked at, just these are queued
    pub later_all : length visible ≤ count → (n : ℕ) → is_set queued n ≡ is_later n
    later_all past n =
        elim (cases_Bool (nat_lt n count)) [
          | inl is ↦ so_far.looked_at n (ltb-true n count is)
          | inr not_so ↦
              let beyond = ltb-false n count not_so in
              so_far.left n beyond ∙ hidden_is n (get_or_past visible n false (omega (arith, past, beyond)))
        ]

-- in the same worldview an instance is visible and new if it is visible and came since
pub later_new : (network : Network) (settled : Settled) (visible : List Bool) → visible ≡ map (is_instance_visible settled.worldview) network.attached →
    (n : ℕ) → is_later visible settled.instances n ≡ (is_set visible n && is_new network settled n)
later_new network settled visible seen n =
    same_tests (is_set visible n) (nat_lt n settled.instances) (visible_at network settled.worldview n) (ap (λ (l : List Bool). is_set l n) seen)
  where
    same_tests : (shown before there : Bool) → shown ≡ there → (shown && not before) ≡ (shown && not (before && there))
    same_tests true true true is = refl
    same_tests true true false is = ap (λ b. b && false) is ∙ sym is
    same_tests true false there is = refl
    same_tests false before there is = refl
