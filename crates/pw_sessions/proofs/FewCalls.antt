-- How few calls a settling makes where what is kept is the value already.
use Rattle.std.proofs.Common.{◌≡◌, ℕ, ◌-◌, ◌*◌, ◌≤◌, Bool, true, false, suc, List, [], ◌∷◌, length, map, cond, refl, sym, ap, ◌∙◌, subst, inl, inr, arith}
use Rattle.std.specs.Prelude.{◌&&◌, nat_lt, not}
use Rattle.std.proofs.lemmas.Bool.{both_ways, cases_Bool, ltb-false}
use Rattle.std.proofs.lemmas.List.{length-map}
use Rattle.std.proofs.lemmas.List.Sums.{sum_by-cons}
use Rattle.pw_info.specs.Rank.{rank_of}
use Rattle.pw_premises.specs.Premises.{Premises}
use Rattle.pw_cells.specs.Cells.{Store, kept_in}
use Rattle.pw_network.specs.Network.{Network}
use Rattle.pw_settle.specs.Calls.{is_set, tally}
use Rattle.pw_settle.specs.Calls.{gains, is_instance_visible, reader_count, visible_at, visible_count}
use Rattle.pw_settle.specs.Due.{AreDue, IsDue}
use Rattle.pw_settle.specs.Settled.{Settled}
use Rattle.pw_settle.specs.Values.{value_in}
use Rattle.pw_settle.proofs.SettledStores.{tally_visible}
use Rattle.pw_settle.proofs.SumsBelow.{sum_bound}
use Rattle.pw_sessions.specs.Snapshot.{IsCurrent, KeepsValues}

-- if the same is kept, nothing is gained
none_gained : (n reads : ℕ) → (n - n) * reads ≤ 0
none_gained n reads = let none : n - n ≡ 0 = omega arith in subst (λ k. k * reads ≤ 0) (sym none) (omega arith)

pub no_gains : (network : Network) (old new : Store) (w : Premises) → KeepsValues network old w →
    ((cell : ℕ) → kept_in new cell w ≡ value_in network old w cell) → gains network old new w ≤ 0
no_gains network old new w full kept =
    let bound = sum_bound (length old.cells) 0 (λ cell. (rank_of (kept_in old cell w) - rank_of (kept_in new cell w)) * reader_count network w cell)
    (λ cell below. subst (λ i. (rank_of (kept_in old cell w) - rank_of i) * reader_count network w cell ≤ 0) (full cell ∙ sym (kept cell))
    (none_gained (rank_of (kept_in old cell w)) (reader_count network w cell))) in
    omega (arith, bound)

-- ---- flags

-- a flag that is set here is set there, so no more are set
fewer_flags : (flags more : List Bool) → length flags ≡ length more → ((n : ℕ) → is_set flags n ≡ true → is_set more n ≡ true) → tally flags ≤ tally more
fewer_flags [] more many all = omega arith
fewer_flags (b ∷ flags) [] many all = absurd (omega (arith, many))
fewer_flags (b ∷ flags) (c ∷ more) many all =
    let rest = fewer_flags flags more (omega (arith, many)) (λ n. all (suc n)) in
    let first = each b c (all 0) in
    omega (arith, rest, first, sum_by-cons (λ x. cond x 1 0) b flags, sum_by-cons (λ x. cond x 1 0) c more)
  where
    each : (x y : Bool) → (x ≡ true → y ≡ true) → cond x 1 0 ≤ cond y 1 0
    each false y so = omega arith
    each true true so = omega arith
    each true false so = absurd (both_ways false refl (so refl))

-- if none is set, none is counted
pub no_flags : (flags : List Bool) → ((n : ℕ) → is_set flags n ≡ true → ⊥) → tally flags ≤ 0
no_flags [] none = omega arith
no_flags (true ∷ flags) none = absurd (none 0 refl)
no_flags (false ∷ flags) none =
    let rest = no_flags flags (λ n. none (suc n)) in
    omega (arith, rest, sum_by-cons (λ x. cond x 1 0) false flags)

-- of the visible instances at most each is due
pub due_most : (network : Network) (store : Store) (w : Premises) (settled : Settled) (due : List Bool) → AreDue network store w settled due →
    tally due ≤ visible_count network w
due_most network store w settled due are =
    let fewer = fewer_flags due (map (is_instance_visible w) network.attached) (are.many ∙ sym (length-map network.attached (is_instance_visible w)))
    (λ n flag. ((are.are n).0 flag).0) in
    omega (arith, fewer, tally_visible (is_instance_visible w) network.attached)

-- with current values of the same worldview none is due
pub none_due : (network : Network) (store : Store) (w : Premises) (settled : Settled) → settled.worldview ≡ w → IsCurrent network store settled →
    (n : ℕ) → IsDue network store w settled n → ⊥
none_due network store w settled same is n (seen, inl new) =
    elim (cases_Bool (nat_lt n settled.instances)) [
      | inl below ↦
          both_ways (not (nat_lt n settled.instances && visible_at network settled.worldview n))
          (ap (λ b. not (b && visible_at network settled.worldview n)) below ∙ ap not (ap (λ (u : Premises). visible_at network u n) same ∙ seen)) new
      | inr past ↦
          both_ways (visible_at network settled.worldview n) (is.none_newer n (ltb-false n settled.instances past))
          (ap (λ (u : Premises). visible_at network u n) same ∙ seen)
    ]
none_due network store w settled same is n (seen, inr (cell, reader, differs)) =
    differs (ap (kept_in store cell) (sym same) ∙ is.kept cell ∙ sym (is.said cell))

pub due_none : (network : Network) (store : Store) (w : Premises) (settled : Settled) (due : List Bool) → settled.worldview ≡ w →
    IsCurrent network store settled → AreDue network store w settled due → tally due ≤ 0
due_none network store w settled due same is are = no_flags due (λ n flag. none_due network store w settled same is n ((are.are n).0 flag))
