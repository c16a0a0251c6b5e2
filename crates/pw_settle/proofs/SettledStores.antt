-- What a store keeps in a worldview after every visible instance is satisfied, and how many calls
-- that took.
use Rattle.std.proofs.Common.{◌≡◌, ℕ, ◌+◌, ◌-◌, ◌*◌, ◌<◌, ◌≤◌, ◌^◌, Bool, true, false, List, [], ◌∷◌, All, length, map, cond, refl, sym, ap, ◌∙◌, subst, arith, mul-le-mul_right}
use Rattle.std.specs.Prelude.{slice_index_or}
use Rattle.std.specs.List.{count_by, range_with_len}
use Rattle.std.proofs.Math.Nat.{mul-le-mul}
use Rattle.std.proofs.lemmas.List.{length-map}
use Rattle.std.proofs.lemmas.List.Elements.{All-append, All-map, All-weaker}
use Rattle.std.proofs.lemmas.List.FromFn.{length-range_with_len}
use Rattle.std.proofs.lemmas.List.Sums.{count_by-le-length, length-filter, sum_by-cons}
use Rattle.pw_info.specs.declared.info.Info.{Info}
use Rattle.pw_info.specs.Information.{allows, Implies}
use Rattle.pw_info.specs.Rank.{rank_of}
use Rattle.pw_info.proofs.Informations.{Implies-antisym}
use Rattle.pw_info.proofs.Ranks.{rank_most_of_all}
use Rattle.pw_premises.specs.Premises.{Premises}
use Rattle.pw_premises.specs.PremiseSubsets.{is_subset_refl}
use Rattle.pw_cells.specs.Cells.{Cell, Store, kept_in, kinds_of, told_in}
use Rattle.pw_decl.proofs.FlatKept.{range_below}
use Rattle.pw_network.specs.Network.{Network, IsWellNetwork, cells_in}
use Rattle.pw_network.specs.Readers.{reads, readers_of}
use Rattle.pw_settle.specs.Calls.{is_set, tally}
use Rattle.pw_settle.specs.Calls.{gains, most_calls, reader_count, sum_below, visible_at}
use Rattle.pw_settle.specs.Growth.{KeepsMore}
use Rattle.pw_settle.specs.inside.Known.{AreKept, SaysTold}
use Rattle.pw_settle.specs.inside.Progress.{AreSatisfied, weight}
use Rattle.pw_settle.specs.Settled.{IsSettled, support_at}
use Rattle.pw_settle.specs.Sound.{IsSound}
use Rattle.pw_settle.specs.Sources.{IsImplied, Told}
use Rattle.pw_settle.specs.Values.{kinds_in, numbered, numbers_of_cells, propagators_of, sources_in, told_sources, value_in, visible_instances}
use Rattle.pw_settle.proofs.FixpointLemmas.{fixpoint_below}
use Rattle.pw_settle.proofs.Growing.{same_value}
use Rattle.pw_settle.proofs.KeptFacts.{kind-in_value, kind-kept, kind_there}
use Rattle.pw_settle.proofs.SettledValues.{all_placed, are_over, kinds_many}
use Rattle.pw_settle.proofs.SumsBelow.{sum_bound, sum_most}
use Rattle.pw_settle.proofs.ValueGrows.{all_seen, value_grows}

-- ---- the values

-- the told facts are still said after more is kept
pub told_still : (network : Network) (old new : Store) (w : Premises) → KeepsMore network old new → SaysTold old w → (cell : ℕ) → cell < length old.cells →
    Implies (kept_in new cell w) (told_in new cell w)
told_still network old new w grows told cell below v possible =
    subst (λ i. allows i v ≡ true) (sym (grows.told cell w)) (told cell below v (grows.more cell w v possible))

module _ (network : Network) (well : IsWellNetwork network) (old new : Store) (w : Premises) (same : kinds_of old ≡ kinds_in network)
    (grows : KeepsMore network old new) (told : SaysTold old w) (queued : List Bool)
    (satisfied : AreSatisfied network w (λ cell. kept_in new cell w) queued) (done : (n : ℕ) → is_set queued n ≡ false) (sound : IsSound network old) where
  still : kinds_of new ≡ kinds_in network
  still = grows.kinds ∙ same

  many : length (kinds_in network) ≡ length old.cells
  many = sym (ap length same) ∙ length-map old.cells (λ (x : Cell). x.kind)

  -- what is kept says what each source says
  kept_says : All (IsImplied (λ cell. kept_in new cell w)) (sources_in network new w)
  kept_says =
      All-append (IsImplied (λ cell. kept_in new cell w)) (told_sources new w (length (kinds_in network)))
      (propagators_of network.declared.procedures (visible_instances network.attached w))
      (All-map (IsImplied (λ cell. kept_in new cell w)) (λ c. Told c (told_in new c w)) (range_with_len 0 (length (kinds_in network)))
      (All-weaker (λ c. c < length (kinds_in network)) (λ c. IsImplied (λ cell. kept_in new cell w) (Told c (told_in new c w)))
      (λ c below. told_still network old new w grows told c (omega (arith, below, many)))
      (range_with_len 0 (length (kinds_in network))) (range_below (length (kinds_in network)) (length (kinds_in network)) (omega arith))))
      (all_seen network.declared.procedures (IsImplied (λ cell. kept_in new cell w)) w network.attached (λ i d below seen. satisfied i d below seen (done i)))

  -- so it is the value
  kept_value : (cell : ℕ) → kept_in new cell w ≡ value_in network new w cell
  kept_value cell =
      Implies-antisym (kept_in new cell w) (value_in network new w cell)
      (kind-kept new cell w ∙ sym (kind-in_value network new still w cell))
      (fixpoint_below (numbered (kinds_in network)) (numbers_of_cells (kinds_in network)) (sources_in network new w)
      (are_over network new w still (all_placed network well)).fit (λ c. kept_in new c w) (λ c. kind-kept new c w ∙ kind_there network new still c) kept_says cell)
      (grows.sound sound w cell)

  pub kept_settled : (cell : ℕ) → kept_in new cell w ≡ value_in network old w cell
  kept_settled cell = kept_value cell ∙ same_value network old new grows.told w cell

  -- with premises that are enough for it
  pub settled_known : (infos : List Info) (supports : List Premises) (instances calls mark : ℕ) → AreKept new w infos supports →
      IsSettled network old w (record { infos = infos; supports = supports; worldview = w; instances = instances; calls = calls; mark = mark })
  settled_known infos supports instances calls mark kept = record {
    worldview_is = refl;
    cells = kept.many ∙ as_many;
    values = λ cell below. kept.infos_are cell ∙ kept_settled cell;
    supports = kept.as_many ∙ as_many;
    within = kept.within;
    enough = λ cell below. enough_one cell;
  } where
    as_many : length new.cells ≡ cells_in network
    as_many = sym (length-map new.cells (λ (x : Cell). x.kind)) ∙ ap length still ∙ kinds_many network well

    enough_one : (cell : ℕ) → value_in network old (support_at supports cell) cell ≡ value_in network old w cell
    enough_one cell =
        Implies-antisym (value_in network old (support_at supports cell) cell) (value_in network old w cell)
        (kind-in_value network old same (support_at supports cell) cell ∙ sym (kind-in_value network old same w cell))
        (λ v possible. subst (λ i. allows i v ≡ true) (kept.infos_are cell ∙ kept_settled cell)
        (kept.enough cell (support_at supports cell) (is_subset_refl (support_at supports cell)) v
        (grows.sound sound (support_at supports cell) cell v
        (subst (λ i. allows i v ≡ true) (sym (same_value network old new grows.told (support_at supports cell) cell)) possible))))
        (value_grows network old well same cell (support_at supports cell) w (kept.within cell))

-- ---- the calls

-- as many flags are set as instances are visible
pub tally_visible : {X : Type 0} (f : X → Bool) (xs : List X) → tally (map f xs) ≡ count_by f xs
tally_visible f [] = refl
tally_visible f (x ∷ xs) =
    sum_by-cons (λ b. cond b 1 0) (f x) (map f xs) ∙ ap (λ n. cond (f x) 1 0 + n) (tally_visible f xs) ∙ sym (sum_by-cons (λ y. cond (f y) 1 0) x xs)

abbrev reads_at : Network → ℕ → ℕ → Bool
reads_at network cell number = slice_index_or (map (reads cell) network.attached) number false

-- no more visible instances read a cell than there are instances
pub readers_most : (network : Network) (w : Premises) (cell : ℕ) → reader_count network w cell ≤ length network.attached
readers_most network w cell =
    omega (
      arith,
      count_by-le-length (visible_at network w) (readers_of network cell),
      length-filter (reads_at network cell) (range_with_len 0 (length network.attached - 0)),
      count_by-le-length (reads_at network cell) (range_with_len 0 (length network.attached - 0)),
      length-range_with_len 0 (length network.attached - 0),
    )

-- what may be gained has a bound
pub weight_most : (network : Network) (store : Store) (w : Premises) → weight network store w ≤ length store.cells * (2000001 * length network.attached)
weight_most network store w =
    sum_bound (length store.cells) (2000001 * length network.attached) (λ c. rank_of (kept_in store c w) * reader_count network w c)
    (λ c below. mul-le-mul (rank_most_of_all (kept_in store c w)) (readers_most network w c))

-- so one more call can be counted
pub calls_fit : (calls tally_now weight_now start_tally start_weight cells count : ℕ) → calls + (tally_now + weight_now) ≤ start_tally + start_weight →
    start_tally ≤ count → start_weight ≤ cells * (2000001 * count) → cells ≤ 4294967295 → count < 2 ^ 64 → calls < most_calls
calls_fit calls tally_now weight_now start_tally start_weight cells count so_far few less cells_few count_few =
    let most : count ≤ 18446744073709551615 = omega (arith, count_few) in
    let each : 2000001 * count ≤ 2000001 * 18446744073709551615 = omega (arith, most) in
    let bound : cells * (2000001 * count) ≤ 4294967295 * (2000001 * 18446744073709551615) = mul-le-mul cells_few each in
    omega (arith, bound, so_far, few, less)

-- what a settling gained bounds its calls
pub calls_by_gains : (network : Network) (old new : Store) (w : Premises) (calls start : ℕ) → length new.cells ≡ length old.cells →
    calls + weight network new w ≤ start + weight network old w → calls ≤ start + gains network old new w
calls_by_gains network old new w calls start same most =
    let bound : weight network old w ≤ sum_below (length old.cells) (λ c. rank_of (kept_in new c w) * reader_count network w c) + gains network old new w =
    sum_most (length old.cells) (λ c. rank_of (kept_in old c w) * reader_count network w c) (λ c. rank_of (kept_in new c w) * reader_count network w c)
    (λ c. (rank_of (kept_in old c w) - rank_of (kept_in new c w)) * reader_count network w c)
    (λ c below. split (rank_of (kept_in old c w)) (rank_of (kept_in new c w)) (reader_count network w c)) in
    let moved : weight network new w ≡ sum_below (length old.cells) (λ c. rank_of (kept_in new c w) * reader_count network w c) =
    ap (λ n. sum_below n (λ c. rank_of (kept_in new c w) * reader_count network w c)) same in
    omega (arith, bound, moved, most)
  where
    split : (a b r : ℕ) → a * r ≤ b * r + (a - b) * r
    split a b r = let e : a ≤ b + (a - b) = omega arith in omega (arith, mul-le-mul_right r e)
