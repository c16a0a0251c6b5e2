use Rattle.std.proofs.Common.{◌≡◌, ℕ, ◌+◌, ◌<◌, ◌≤◌, Bool, true, false, eqb, List, length, set, sym, ap, ◌∙◌, subst, arith, inl, inr}
use Rattle.std.specs.Prelude.{◌&&◌, nat_lt}
use Rattle.std.proofs.lemmas.Bool.{cases_Bool, eqb-false, eqb-true, ltb-false, ltb-true}
use Rattle.std.proofs.lemmas.List.{get_or_past, get_or-set_other, get_or-set_same, length-replicate, length-set}
use Rattle.pw_network.specs.Wiring.{wiring}
use Rattle.pw_settle.specs.Due.{is_new}
use Rattle.pw_settle.specs.Calls.{is_set}
use Rattle.pw_settle.proofs.AsideAgendas.{none_set}
use Rattle.pw_settle.proofs.resettling.new_instances.Goals as goal
use Rattle.pw_settle.proofs.resettling.new_instances.Goals.{then-is_newly_visible, else-is_newly_visible}

-- of the instances below this number, those are queued of which a test holds
record AreQueuedTo (is_one : ℕ → Bool) (many count : ℕ) (queued : List Bool) : Type 0 where
  flags : length queued ≡ many
  looked_at : (n : ℕ) → n < count → is_set queued n ≡ is_one n
  left : (n : ℕ) → count ≤ n → is_set queued n ≡ false

module _ (is_one : ℕ → Bool) (many count : ℕ) (queued : List Bool) (so_far : AreQueuedTo is_one many count queued) where
  -- the next is none of them
  passed : is_one count ≡ false → AreQueuedTo is_one many (count + 1) queued
  passed not_one = record {
    flags = so_far.flags;
    looked_at = λ n below. elim (cases_Bool (eqb n count)) [
      | inl is ↦
          let e : n ≡ count = eqb-true n count is in
          so_far.left n (omega (arith, e)) ∙ sym not_one ∙ sym (ap is_one e)
      | inr other ↦ so_far.looked_at n (omega (arith, below, eqb-false n count other))
    ];
    left = λ n past. so_far.left n (omega (arith, past));
  }

  -- it is queued
  added : count < many → is_one count ≡ true → AreQueuedTo is_one many (count + 1) (set queued count true)
  added there one = record {
    flags = length-set queued count true ∙ so_far.flags;
    looked_at = λ n below. elim (cases_Bool (eqb n count)) [
      | inl is ↦
          let e : n ≡ count = eqb-true n count is in
          ap (is_set (set queued count true)) e ∙ get_or-set_same queued count true false (omega (arith, there, so_far.flags)) ∙ sym one ∙ sym (ap is_one e)
      | inr other ↦
          get_or-set_other queued count n true false (eqb-false n count other) ∙ so_far.looked_at n (omega (arith, below, eqb-false n count other))
    ];
    left = λ n past. get_or-set_other queued count n true false (λ e. absurd (omega (arith, e, past))) ∙ so_far.left n (omega (arith, past));
  }

pub loop-number-init : goal.loop-number-init
loop-number-init g c = record {
  many = ap length c.in_ok-agenda.ensures ∙ length-replicate (length c.args.visible.now) false;
  before = λ i below. absurd (omega (arith, below));
  after = λ i past. ap (λ (l : List Bool). is_set l i) c.in_ok-agenda.ensures ∙ none_set (length c.args.visible.now) i;
}

pub add-requires : goal.add-requires
add-requires g c = omega (arith, c.loop-number-test.true, c.loop-number.invariant.many)

pub loop-number-preserved : goal.loop-number-preserved
loop-number-preserved g c =
    let is_one : ℕ → Bool = λ n. is_set c.args.visible.now n && is_new (wiring c.args.network.now) c.args.before.now n in
    let many : ℕ = length c.args.visible.now in
    let i : ℕ = c.loop-number.number in
    let so_far : AreQueuedTo is_one many i c.loop-number.agenda =
    record { flags = c.loop-number.invariant.many; looked_at = c.loop-number.invariant.before; left = c.loop-number.invariant.after } in
    let next : AreQueuedTo is_one many (i + 1) c.if-is_newly_visible.agenda =
    elim c.if-is_newly_visible.branch [
      | then-is_newly_visible w ↦
          subst (AreQueuedTo is_one many (i + 1)) (sym (w.agenda-is ∙ w.add.ensures))
          (added is_one many i c.loop-number.agenda so_far c.loop-number-test.true (sym c.is_newly_visible.ensures ∙ w.if-is_newly_visible.true))
      | else-is_newly_visible w ↦
          subst (AreQueuedTo is_one many (i + 1)) (sym w.agenda-is)
          (passed is_one many i c.loop-number.agenda so_far (sym c.is_newly_visible.ensures ∙ w.if-is_newly_visible.false))
    ] in
    record { many = next.flags; before = next.looked_at; after = next.left }

pub returns-clause-flags : goal.returns-clause-flags
returns-clause-flags g c = c.loop-number.invariant.many

pub returns-clause-new : goal.returns-clause-new
returns-clause-new g c n = elim (cases_Bool (nat_lt n c.loop-number.number)) [
  | inl is ↦ c.loop-number.invariant.before n (ltb-true n c.loop-number.number is)
  | inr not_so ↦
      let beyond = ltb-false n c.loop-number.number not_so in
      c.loop-number.invariant.after n beyond
      ∙ ap (λ (b : Bool). b && is_new (wiring c.args.network.now) c.args.before.now n)
      (sym (get_or_past c.args.visible.now n false (omega (arith, c.loop-number-test.false, beyond))))
]
