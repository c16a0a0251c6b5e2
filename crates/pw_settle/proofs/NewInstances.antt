-- Instances that are new to settled values, and the agenda while readers of changed cells are
-- queued.
use Rattle.std.proofs.Common.{◌≡◌, ℕ, ◌+◌, ◌<◌, ◌≤◌, Bool, true, false, List, length, map, get_or, eqb, inl, inr, refl, sym, ap, ◌∙◌, subst, arith}
use Rattle.std.specs.Prelude.{◌&&◌, nat_lt, not, IfOk, Result, Ok, Err}
use Rattle.std.specs.FinSet.{is_subset}
use Rattle.std.proofs.Math.ListN.{get_or-map}
use Rattle.std.proofs.lemmas.Bool.{cases_Bool, eqb-false, eqb-true, lt-ltb, ltb-true}
use Rattle.pw_info.specs.declared.info.Info.{Info}
use Rattle.pw_network.specs.declared.instance.Instance.{Instance}
use Rattle.pw_network.specs.inside.Held.{attachment}
use Rattle.pw_network.specs.Network.{Attached, Network}
use Rattle.pw_settle.specs.Calls.{is_set}
use Rattle.pw_settle.specs.inside.Queueing.{HasChanged, QueuesReaders}
use Rattle.pw_settle.specs.Due.{is_new}
use Rattle.pw_settle.specs.Values.{attached_no}
use Rattle.pw_settle.specs.Settled.{Settled}
use Rattle.pw_settle.proofs.KeptProgress.{visible_no}

-- an instance that is stored is the one of its number
pub item_is : (items : List Instance) (attached : List Attached) → map attachment items ≡ attached → (n : ℕ) (item : Instance) →
    item ≡ get_or items n item → attachment item ≡ get_or attached n (attachment item)
item_is items attached same n item is =
    ap attachment is ∙ sym (get_or-map attachment items n item) ∙ ap (λ (l : List Attached). get_or l n (attachment item)) same

-- a number that is not below another
pub not_below : (n m : ℕ) → m ≤ n → nat_lt n m ≡ false
not_below n m past =
    elim (cases_Bool (nat_lt n m)) [
      | inl is ↦ absurd (omega (arith, past, ltb-true n m is))
      | inr not_so ↦ not_so
    ]

module _ (network : Network) (settled : Settled) (visible : List Bool) (n : ℕ) (seen : is_set visible n ≡ true) where
  -- one that was not there is new
  pub new_later : settled.instances ≤ n → true ≡ (is_set visible n && is_new network settled n)
  new_later late = rw (seen, not_below n settled.instances late) refl

  -- one that existed is new if it was not visible
  pub new_hidden : n < settled.instances → (d : Attached) → n < length network.attached → (b : Bool) →
      b ≡ is_subset (attached_no network n d).support settled.worldview → not b ≡ (is_set visible n && is_new network settled n)
  new_hidden there d below b is =
      ap not (is ∙ visible_no network settled.worldview n d below)
      ∙ (rw (seen, lt-ltb n settled.instances there) refl)

-- ---- the readers of changed cells

module _ (network : Network) (visible old : List Bool) (before after : List Info) where
  abbrev pub IsChangedBelow : ℕ → ℕ → Type 0
  IsChangedBelow count cell = (cell < count) × HasChanged before after cell

  -- where none of the first cells has changed, nothing is queued for them
  pub none_changed : (count : ℕ) → ((cell : ℕ) → cell < count → HasChanged before after cell → ⊥) → QueuesReaders network visible (IsChangedBelow count) old old
  none_changed count stay = record {
    flags = refl;
    stay = λ n flag. flag;
    readers = λ cell n one reader seen. absurd (stay cell one.0 one.1);
    others = λ n flag. inl flag;
  }

  -- at first no cell was looked at
  pub none_queued : QueuesReaders network visible (IsChangedBelow 0) old old
  none_queued = none_changed 0 (λ cell below has. absurd (omega (arith, below)))

  module _ (now : List Bool) (cell : ℕ) (so_far : QueuesReaders network visible (IsChangedBelow cell) old now) where
    -- a cell that has not changed is passed over
    pub passed : (HasChanged before after cell → ⊥) → QueuesReaders network visible (IsChangedBelow (cell + 1)) old now
    passed not_changed = record {
      flags = so_far.flags;
      stay = so_far.stay;
      readers = λ c n one reader seen. elim (cases_Bool (eqb c cell)) [
        | inl is ↦ absurd (not_changed (subst (HasChanged before after) (eqb-true c cell is) one.1))
        | inr other ↦ so_far.readers c n (omega (arith, one.0, eqb-false c cell other), one.1) reader seen
      ];
      others = λ n flag. elim (so_far.others n flag) [
        | inl was ↦ inl was
        | inr (seen, (c, one, reader)) ↦ inr (seen, (c, (omega (arith, one.0), one.1), reader))
      ];
    }

    -- the readers of one that has are queued
    pub queued : (new : List Bool) → HasChanged before after cell → QueuesReaders network visible (λ c. c ≡ cell) now new →
        QueuesReaders network visible (IsChangedBelow (cell + 1)) old new
    queued new has queues = record {
      flags = queues.flags ∙ so_far.flags;
      stay = λ n flag. queues.stay n (so_far.stay n flag);
      readers = λ c n one reader seen. elim (cases_Bool (eqb c cell)) [
        | inl is ↦ queues.readers c n (eqb-true c cell is) reader seen
        | inr other ↦ queues.stay n (so_far.readers c n (omega (arith, one.0, eqb-false c cell other), one.1) reader seen)
      ];
      others = λ n flag. elim (queues.others n flag) [
        | inl was ↦ elim (so_far.others n was) [
          | inl at_first ↦ inl at_first
          | inr (seen, (c, one, reader)) ↦ inr (seen, (c, (omega (arith, one.0), one.1), reader))
        ]
        | inr (seen, (c, is, reader)) ↦
            inr (seen, (c, (omega (arith, is), subst (HasChanged before after) (sym is) has), reader))
      ];
    }

    -- when all were looked at, the readers of all that have changed are queued
    pub all_looked_at : (count : ℕ) → cell ≤ count → count ≤ cell → QueuesReaders network visible (IsChangedBelow count) old now
    all_looked_at count most least =
        let same : cell ≡ count = omega (arith, most, least) in
        subst (λ (n : ℕ). QueuesReaders network visible (IsChangedBelow n) old now) same so_far

-- what two things of a result come to comes of both
pub both_ok : {T E : Type 0} (r : Result T E) (P Q R : T → Type 0) → ((t : T) → P t → Q t → R t) → IfOk r P → IfOk r Q → IfOk r R
both_ok (Ok t) P Q R step p q = step t p q
both_ok (Err e) P Q R step p q = q
