-- The values that a settling beside the store ends with, and which instances are satisfied at its
-- start.
use Rattle.std.proofs.Common.{◌≡◌, ℕ, zero, suc, ◌*◌, ◌<◌, ◌≤◌, Bool, true, false, List, [], ◌∷◌, All, Contains, length, map, refl, sym, ap, ◌∙◌, subst, arith, inl, inr}
use Rattle.std.specs.Prelude.{nat_eq}
use Rattle.std.specs.FinSet.{is_subset}
use Rattle.std.specs.List.{list_any, range_with_len}
use Rattle.std.proofs.Math.Nat.{mul-le-mul}
use Rattle.std.proofs.lemmas.Bool.{cases_Bool, or_cases, or_left, or_right}
use Rattle.std.proofs.lemmas.Bool.Decides.{nat_tests}
use Rattle.std.proofs.lemmas.List.{get_or_default, length-map}
use Rattle.std.proofs.lemmas.List.Elements.{All-append, All-cons, All-contains, All-head, All-map, All-nil, All-tail, All-weaker}
use Rattle.pw_info.specs.declared.kind.Kind.TheVariants as kinds
use Rattle.pw_info.specs.declared.info.Info.{Info}
use Rattle.pw_info.specs.Information.{allows, kind_of, nothing, Implies}
use Rattle.pw_info.specs.Rank.{rank_of}
use Rattle.pw_info.proofs.Informations.{Implies-antisym}
use Rattle.pw_info.proofs.Ranks.{rank_most_of_all}
use Rattle.pw_premises.specs.Premises.{Premises}
use Rattle.pw_premises.specs.PremiseSubsets.{is_subset_refl, is_subset_trans}
use Rattle.pw_procs.specs.Procedure.{Procedure}
use Rattle.pw_cells.specs.Cells.{Store, kinds_of, told_in}
use Rattle.pw_decl.proofs.FlatKept.{range_below}
use Rattle.pw_network.specs.Network.{Attached, IsWellNetwork, Network, cells_in}
use Rattle.pw_settle.specs.Calls.{is_instance_visible, is_set, reader_count}
use Rattle.pw_settle.specs.Settled.{IsSettled, Settled, info_at, support_at}
use Rattle.pw_settle.specs.Sound.{IsSound}
use Rattle.pw_settle.specs.Sources.{IsImplied, Told}
use Rattle.pw_settle.specs.Values.{attached_no, kinds_in, numbered, numbers_of_cells, propagators_of, sources_in, told_sources, value_in, visible_instances}
use Rattle.pw_settle.specs.inside.Aside.{AreAllSatisfied, AreFound, AreOthersMet, StaysMet, weight_of}
use Rattle.pw_settle.specs.inside.Queueing.{HasChanged, QueuesReaders, found_of}
use Rattle.pw_settle.specs.inside.Known.{IsPlaced}
use Rattle.pw_settle.specs.inside.Progress.{AreSatisfied}
use Rattle.pw_settle.proofs.AsideNews.{value_says, value_says_more}
use Rattle.pw_settle.proofs.AsideStarts.{value_kind}
use Rattle.pw_settle.proofs.FittingValues.{implies_stable}
use Rattle.pw_settle.proofs.FixpointLemmas.{fixpoint_below}
use Rattle.pw_settle.proofs.KeptProgress.{reader_listed, visible_no}
use Rattle.pw_settle.proofs.PlacedInstances.{accepted, all_sources}
use Rattle.pw_settle.proofs.SettledStores.{readers_most}
use Rattle.pw_settle.proofs.SettledValues.{all_placed, are_over, kinds_many}
use Rattle.pw_settle.proofs.SumsBelow.{sum_bound}
use Rattle.pw_settle.proofs.ValueGrows.{all_seen, value_grows}

-- ---- the values at the end

module _ (network : Network) (well : IsWellNetwork network) (store : Store) (same : kinds_of store ≡ kinds_in network) (w : Premises)
    (sound : IsSound network store) (infos : List Info) (supports : List Premises) (found : AreFound network store w infos supports) (satisfied : AreAllSatisfied network w (info_at infos)) where
  -- what is known says what each source says
  known_says : All (IsImplied (info_at infos)) (sources_in network store w)
  known_says =
      All-append (IsImplied (info_at infos)) (told_sources store w (length (kinds_in network)))
      (propagators_of network.declared.procedures (visible_instances network.attached w))
      (All-map (IsImplied (info_at infos)) (λ c. Told c (told_in store c w)) (range_with_len 0 (length (kinds_in network)))
      (All-weaker (λ c. c < length (kinds_in network)) (λ c. IsImplied (info_at infos) (Told c (told_in store c w)))
      (λ c below. (found.each c).told)
      (range_with_len 0 (length (kinds_in network))) (range_below (length (kinds_in network)) (length (kinds_in network)) (omega arith))))
      (all_seen network.declared.procedures (IsImplied (info_at infos)) w network.attached (λ i d below seen. satisfied i d below seen))

  -- so it is the value
  known_value : (cell : ℕ) → info_at infos cell ≡ value_in network store w cell
  known_value cell =
      Implies-antisym (info_at infos cell) (value_in network store w cell) ((found.each cell).kind ∙ sym (value_kind network store w cell))
      (fixpoint_below (numbered (kinds_in network)) (numbers_of_cells (kinds_in network)) (sources_in network store w)
      (are_over network store w same (all_placed network well)).fit (info_at infos) (λ c. (found.each c).kind) known_says cell)
      ((found.each cell).follows sound w (found.each cell).within)

  -- with premises that are enough for it
  pub found_settled : (instances calls mark : ℕ) →
      IsSettled network store w (record { infos = infos; supports = supports; worldview = w; instances = instances; calls = calls; mark = mark })
  found_settled instances calls mark = record {
    worldview_is = refl;
    cells = found.many ∙ kinds_many network well;
    values = λ cell below. known_value cell;
    supports = found.as_many ∙ found.many ∙ kinds_many network well;
    within = λ cell. (found.each cell).within;
    enough = λ cell below.
        Implies-antisym (value_in network store (support_at supports cell) cell) (value_in network store w cell)
        (value_kind network store (support_at supports cell) cell ∙ sym (value_kind network store w cell))
        (λ u possible. subst (λ (i : Info). allows i u ≡ true) (known_value cell)
        ((found.each cell).follows sound (support_at supports cell) (is_subset_refl (support_at supports cell)) u possible))
        (value_grows network store well same cell (support_at supports cell) w (found.each cell).within);
  }

-- what may be found out has a bound
pub weight_bound : (network : Network) (w : Premises) (infos : List Info) → weight_of network w infos ≤ length infos * (2000001 * length network.attached)
weight_bound network w infos =
    sum_bound (length infos) (2000001 * length network.attached) (λ c. rank_of (info_at infos c) * reader_count network w c)
    (λ c below. mul-le-mul (rank_most_of_all (info_at infos c)) (readers_most network w c))

-- ---- which instances are satisfied at the start

-- what holds of each cell that a list of inputs reads holds of all of them
each_read : (P : ℕ → Type 0) (inputs : List ℕ) → ((c : ℕ) → list_any (nat_eq c) inputs ≡ true → P c) → All P inputs
each_read P [] each = All-nil P
each_read P (c ∷ inputs) each =
    All-cons P c inputs (each c (or_left (nat_eq c c) (list_any (nat_eq c) inputs) (itself c)))
    (each_read P inputs (λ d among. each d (or_right (nat_eq d c) (list_any (nat_eq d) inputs) among)))
  where
    itself : (n : ℕ) → nat_eq n n ≡ true
    itself n = grind (arith, nat_tests)

-- what holds of all inputs holds of each cell that they read
read_here : (P : ℕ → Type 0) (c : ℕ) (inputs : List ℕ) → All P inputs → list_any (nat_eq c) inputs ≡ true → P c
read_here P c [] all reading = absurd (cc)
read_here P c (d ∷ inputs) all reading =
    elim (or_cases (nat_eq c d) (list_any (nat_eq c) inputs) reading) [
      | inl is ↦ subst P (same_number is) (All-head P d inputs all)
      | inr among ↦ read_here P c inputs (All-tail P d inputs all) among
    ]
  where
    same_number : nat_eq c d ≡ true → d ≡ c
    same_number is = grind (arith, nat_tests)

-- a flag that is set is set where no fewer are
raised : (f g : Attached → Bool) → ((a : Attached) → f a ≡ true → g a ≡ true) → (attached : List Attached) (n : ℕ) →
    is_set (map f attached) n ≡ true → is_set (map g attached) n ≡ true
raised f g more [] n shown = absurd (cc)
raised f g more (a ∷ attached) zero shown = more a shown
raised f g more (a ∷ attached) (suc n) shown = raised f g more attached n shown

module _ (network : Network) (well : IsWellNetwork network) (store : Store) (same : kinds_of store ≡ kinds_in network) (w : Premises)
    (before : Settled) (is : IsSettled network store before.worldview before)
    (infos : List Info) (supports : List Premises) (found : AreFound network store w infos supports) where
  -- what was found is an earlier value
  found_before : (cell : ℕ) → cell < length infos → found_of before.infos infos cell ≡ value_in network store before.worldview cell
  found_before cell below =
      get_or_default before.infos cell (nothing (kind_of (info_at infos cell))) (nothing kinds.Interval) (omega (arith, below, found.many, is.cells, kinds_many network well))
      ∙ is.values cell (omega (arith, below, found.many, kinds_many network well))

  pub found_before_kind : (cell : ℕ) → cell < length infos → kind_of (found_of before.infos infos cell) ≡ kind_of (info_at infos cell)
  found_before_kind cell below =
      ap kind_of (found_before cell below) ∙ value_kind network store before.worldview cell ∙ sym (found.each cell).kind

  module _ (visible was first queued : List Bool) (now_seen : visible ≡ map (is_instance_visible w) network.attached)
      (seen_before : was ≡ map (is_instance_visible before.worldview) network.attached)
      (met : AreOthersMet network visible was before.infos infos first)
      (queues : QueuesReaders network visible (λ cell. (cell < length infos) × HasChanged before.infos infos cell) first queued) where
    -- each visible instance that is not queued is satisfied
    pub start_satisfied : AreSatisfied network w (info_at infos) queued
    start_satisfied n d below seen free =
        all_sources network.declared.procedures (kinds_in network) a.instance placed (IsImplied (info_at infos))
        (λ u possible. value_says_more network store same w before.worldview infos supports found procedure a.instance.inputs inputs_more u
        (value_says network well store same before.worldview a there was_seen placed u
        (subst (λ (i : Info). allows i u ≡ true) (is.values a.instance.output output_low) (its.output d u possible))))
      where
        a : Attached
        a = attached_no network n d

        there : Contains network.attached a
        there = (n, below, get_or_default network.attached n a d below)

        placed : IsPlaced network.declared.procedures (kinds_in network) a.instance
        placed = All-contains (λ (b : Attached). IsPlaced network.declared.procedures (kinds_in network) b.instance) network.attached a (all_placed network well) there

        procedure : Procedure
        procedure = (accepted network.declared.procedures (kinds_in network) a.instance placed).0

        output_low : a.instance.output < cells_in network
        output_low = omega (arith, placed.0.1, kinds_many network well)

        flag_seen : is_set visible n ≡ true
        flag_seen = ap (λ (l : List Bool). is_set l n) now_seen ∙ sym (visible_no network w n d below) ∙ seen

        was_free : is_set first n ≡ false
        was_free =
            elim (cases_Bool (is_set first n)) [
              | inl set_before ↦ let set_now = queues.stay n set_before in absurd (cc)
              | inr not ↦ not
            ]

        its : StaysMet network was before.infos infos n
        its = met.others n (omega (arith, below, ap length now_seen, length-map network.attached (is_instance_visible w))) flag_seen was_free

        was_seen : is_instance_visible before.worldview a ≡ true
        was_seen = visible_no network before.worldview n d below ∙ sym (ap (λ (l : List Bool). is_set l n) seen_before) ∙ its.visible

        inputs_more : All (λ c. Implies (value_in network store before.worldview c) (info_at infos c)) a.instance.inputs
        inputs_more =
            each_read (λ c. Implies (value_in network store before.worldview c) (info_at infos c)) a.instance.inputs (λ c reading.
            let low : c < length infos = omega (arith, found.many, read_low c reading) in
            implies_stable (value_in network store before.worldview c) (info_at infos c) (λ not.
            let set_now = queues.readers c n (
              low,
              λ implies. not (subst (λ (i : Info). Implies i (info_at infos c)) (found_before c low) implies),
            ) (reader_listed network c n d below reading) flag_seen in
            absurd (cc)))
          where
            read_low : (c : ℕ) → list_any (nat_eq c) a.instance.inputs ≡ true → c < length (kinds_in network)
            read_low c reading = read_here (λ (k : ℕ). k < length (kinds_in network)) c a.instance.inputs placed.0.0 reading

  -- the same for what the lists are that were looked at
  module _ (earlier now : List Info) (is_earlier : earlier ≡ before.infos) (is_now : now ≡ infos) where
    pub kinds_looked_at : (cell : ℕ) → cell < length now → kind_of (found_of earlier now cell) ≡ kind_of (info_at now cell)
    kinds_looked_at =
        subst (λ (l : List Info). (cell : ℕ) → cell < length l → kind_of (found_of earlier l cell) ≡ kind_of (info_at l cell)) (sym is_now)
        (subst (λ (e : List Info). (cell : ℕ) → cell < length infos → kind_of (found_of e infos cell) ≡ kind_of (info_at infos cell)) (sym is_earlier) found_before_kind)

    pub satisfied_by : (visible was first queued : List Bool) → visible ≡ map (is_instance_visible w) network.attached →
        was ≡ map (is_instance_visible before.worldview) network.attached → AreOthersMet network visible was earlier now first →
        QueuesReaders network visible (λ cell. (cell < length now) × HasChanged earlier now cell) first queued →
        AreSatisfied network w (info_at infos) queued
    satisfied_by visible was first queued now_seen seen_before met queues =
        start_satisfied visible was first queued now_seen seen_before
        (subst (λ (e : List Info). AreOthersMet network visible was e infos first) is_earlier
        (subst (λ (l : List Info). AreOthersMet network visible was earlier l first) is_now met))
        (subst (λ (e : List Info). QueuesReaders network visible (λ cell. (cell < length infos) × HasChanged e infos cell) first queued) is_earlier
        (subst (λ (l : List Info). QueuesReaders network visible (λ cell. (cell < length l) × HasChanged earlier l cell) first queued) is_now queues))

  -- in a part of the earlier worldview no cell says more than before, and what is visible was
  module _ (sound : IsSound network store) (part : is_subset w before.worldview ≡ true) where
    unchanged : (cell : ℕ) → cell < length infos → Implies (found_of before.infos infos cell) (info_at infos cell)
    unchanged cell below u possible =
        (found.each cell).follows sound before.worldview (is_subset_trans (support_at supports cell) w before.worldview (found.each cell).within part) u
        (subst (λ (i : Info). allows i u ≡ true) (found_before cell below) possible)

    no_readers : (visible first : List Bool) →
        QueuesReaders network visible (λ cell. (cell < length infos) × HasChanged before.infos infos cell) first first
    no_readers visible first = record {
      flags = refl;
      stay = λ n flag. flag;
      readers = λ cell n one reading shown. absurd (one.1 (unchanged cell one.0));
      others = λ n flag. inl flag;
    }

    was_visible : (visible : List Bool) → visible ≡ map (is_instance_visible w) network.attached → (n : ℕ) → is_set visible n ≡ true →
        is_set (map (is_instance_visible before.worldview) network.attached) n ≡ true
    was_visible visible now_seen n shown =
        raised (is_instance_visible w) (is_instance_visible before.worldview) (λ a within. is_subset_trans a.support w before.worldview within part)
        network.attached n (sym (ap (λ (l : List Bool). is_set l n) now_seen) ∙ shown)

    pub satisfied_in_part : (earlier now : List Info) → earlier ≡ before.infos → now ≡ infos → (visible queued : List Bool) →
        visible ≡ map (is_instance_visible w) network.attached → AreOthersMet network visible visible earlier now queued →
        AreSatisfied network w (info_at infos) queued
    satisfied_in_part earlier now is_earlier is_now visible queued now_seen met =
        start_satisfied visible (map (is_instance_visible before.worldview) network.attached) queued queued now_seen refl
        (subst (λ (e : List Info). AreOthersMet network visible (map (is_instance_visible before.worldview) network.attached) e infos queued) is_earlier
        (subst (λ (l : List Info). AreOthersMet network visible (map (is_instance_visible before.worldview) network.attached) earlier l queued) is_now met_before))
        (no_readers visible queued)
      where
        met_before : AreOthersMet network visible (map (is_instance_visible before.worldview) network.attached) earlier now queued
        met_before = record {
          flags = met.flags;
          seen = met.seen;
          unmet = λ n flag stays. met.unmet n flag (record { visible = met.seen n flag; output = stays.output });
          others = λ n below shown free. record {
            visible = was_visible visible now_seen n shown;
            output = (met.others n below shown free).output;
          };
        }
