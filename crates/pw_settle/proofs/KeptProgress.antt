-- How far a settling has come after it kept a fact that an instance made, and queued the readers.
use Rattle.std.proofs.Common.{◌≡◌, ◌≢◌, ℕ, ◌+◌, ◌*◌, ◌<◌, ◌≤◌, Bool, true, false, eqb, List, [], ◌∷◌, All, Contains, length, map, refl, sym, ap, ◌∙◌, subst, arith, mul-le-mul_right, inl, inr}
use Rattle.std.specs.Prelude.{◌-◌, ◌||◌, nat_eq, nat_lt, slice_index_or}
use Rattle.std.specs.FinSet.{empty, is_subset, union}
use Rattle.std.specs.List.{list_any, range_with_len}
use Rattle.std.proofs.Math.ListN.{get_or-map}
use Rattle.std.proofs.Math.Path.{fun_ext}
use Rattle.std.proofs.lemmas.Bool.{cases_Bool, eqb-false, eqb-true, ltb-false, ltb-true}
use Rattle.std.proofs.lemmas.Bool.Decides.{nat_tests}
use Rattle.std.proofs.lemmas.List.{get_or_default, get_or_past, get_or-set_same, get_or-set_other, length-map, length-set, same_lists}
use Rattle.std.proofs.lemmas.List.Elements.{All-contains}
use Rattle.pw_info.specs.declared.kind.Kind.TheVariants as kinds
use Rattle.pw_info.specs.declared.info.Info.{Info}
use Rattle.pw_info.specs.Information.{allows, kind_of, meet, nothing, Implies}
use Rattle.pw_info.specs.Rank.{rank_of}
use Rattle.pw_info.proofs.Informations.{allows-meet, kind-meet, implied_from_meet}
use Rattle.pw_info.proofs.Ranks.{rank_gain}
use Rattle.pw_premises.specs.Premises.{Premises}
use Rattle.pw_premises.specs.PremiseSubsets.{is_subset_trans, union_is_subset}
use Rattle.pw_procs.specs.Procedure.{Procedure, value_by}
use Rattle.pw_facts.specs.declared.fact.Fact.{Fact}
use Rattle.pw_facts.specs.Facts.{shows}
use Rattle.pw_facts.proofs.Shown.{kind-shows, shows-supported}
use Rattle.pw_cells.specs.Arrivals.{Continues, Remembers}
use Rattle.pw_settle.proofs.SoundStores.{lately_with}
use Rattle.pw_cells.specs.Cells.{Cell, Store, kept_at, kept_in, kind_in_store, kinds_of, told_in}
use Rattle.pw_cells.specs.Changes.{AssimilatesAt, GainsKept, LeavesOthers}
use Rattle.pw_cells.proofs.Stores.{kind-listed}
use Rattle.pw_cells.proofs.Together.{meet_first, meet_keeps}
use Rattle.pw_network.specs.Network.{Attached, Network, IsWellNetwork}
use Rattle.pw_network.specs.Readers.{reads, readers_of}
use Rattle.pw_settle.specs.Calls.{is_set}
use Rattle.pw_settle.specs.Calls.{is_instance_visible, reader_count, sum_below, visible_at}
use Rattle.pw_settle.specs.Growth.{KeepsMore}
use Rattle.pw_settle.specs.inside.Known.{AreKept, AreUpstream, TakesIn}
use Rattle.pw_settle.specs.inside.Known.{IsPlaced}
use Rattle.pw_settle.specs.inside.Progress.{AreOthersSatisfied, AreSatisfied, IsNews, weight}
use Rattle.pw_settle.specs.Values.{IsSatisfied, attached_no}
use Rattle.pw_settle.specs.Settled.{info_at, support_at}
use Rattle.pw_settle.specs.Sound.{LiesUpstream}
use Rattle.pw_settle.specs.Sources.{IsImplied, said_by}
use Rattle.pw_settle.specs.Values.{kinds_in}
use Rattle.pw_settle.proofs.KeptFacts.{by_cell, also_implies, implies_also, implies_shown, keeps_fact, kept_elsewhere, kind-kept, kind_both}
use Rattle.pw_settle.proofs.KeptNews.{both_lie, follows, lies, within}
use Rattle.pw_settle.proofs.Membership.{contains_filter, each_member}
use Rattle.pw_settle.proofs.PlacedInstances.{accepted, all_sources, kind-info_at, the_source}
use Rattle.pw_settle.proofs.SettledValues.{all_placed, contains_number}
use Rattle.pw_settle.proofs.SumsBelow.{sum_falls}
use Rattle.pw_kinds.proofs.Order.{true_both}

-- ---- instances by their numbers

-- an instance where there may be none
pub no_instance : Attached
no_instance = record { instance = record { procedure = 0; inputs = []; output = 0 }; line = 0; support = empty }

-- a number whose instance is visible is one of the instances'
pub visible_below : (network : Network) (w : Premises) (number : ℕ) → visible_at network w number ≡ true → number < length network.attached
visible_below network w number visible =
    elim (cases_Bool (nat_lt number (length network.attached))) [
      | inl below ↦ ltb-true number (length network.attached) below
      | inr past ↦
          let none : visible_at network w number ≡ false =
          get_or_past (map (is_instance_visible w) network.attached) number false
          (omega (arith, ltb-false number (length network.attached) past, length-map network.attached (is_instance_visible w))) in
          absurd (cc)
    ]

-- and its instance is, read with any default
pub visible_no : (network : Network) (w : Premises) (number : ℕ) (d : Attached) → number < length network.attached →
    is_instance_visible w (attached_no network number d) ≡ visible_at network w number
visible_no network w number d below =
    sym (get_or-map (is_instance_visible w) network.attached number d)
    ∙ get_or_default (map (is_instance_visible w) network.attached) number (is_instance_visible w d) false (omega (arith, below, length-map network.attached (is_instance_visible w)))

-- an instance that reads a cell is among its readers
pub reader_listed : (network : Network) (cell number : ℕ) (d : Attached) → number < length network.attached →
    reads cell (attached_no network number d) ≡ true → Contains (readers_of network cell) number
reader_listed network cell number d below reading =
    contains_filter (λ n. slice_index_or (map (reads cell) network.attached) n false) (range_with_len 0 (length network.attached - 0)) number
    (get_or_default (map (reads cell) network.attached) number false (reads cell d) (omega (arith, below, length-map network.attached (reads cell)))
    ∙ get_or-map (reads cell) network.attached number d ∙ reading)
    (contains_number (length network.attached - 0) number (omega (arith, below)))

-- ---- what is at hand

-- the informations at hand are of the kinds of the cells
pub kinds_at_hand : (store : Store) (w : Premises) (infos : List Info) (supports : List Premises) → AreKept store w infos supports →
    map kind_of infos ≡ kinds_of store
kinds_at_hand store w infos supports kept =
    same_lists (map kind_of infos) (kinds_of store) many
    (λ cell d below.
    get_or_default (map kind_of infos) cell d kinds.Interval below ∙ sym (kind-info_at infos cell) ∙ ap kind_of (kept.infos_are cell) ∙ kind-kept store cell w
    ∙ kind-listed store.cells cell ∙ get_or_default (kinds_of store) cell kinds.Interval d (omega (arith, below, many)))
  where
    many : length (map kind_of infos) ≡ length (kinds_of store)
    many = length-map infos kind_of ∙ kept.many ∙ sym (length-map store.cells (λ (x : Cell). x.kind))

-- if what is at hand of the cells is informed as what is kept, an instance is satisfied by both
-- alike
pub satisfied_kept : (network : Network) (store : Store) (w : Premises) (infos : List Info) (supports : List Premises) → AreKept store w infos supports →
    (a : Attached) → IsSatisfied network (info_at infos) a → IsSatisfied network (λ c. kept_in store c w) a
satisfied_kept network store w infos supports kept a = subst (λ (known : ℕ → Info). IsSatisfied network known a) (fun_ext kept.infos_are)

-- all are satisfied, if all others were and the one is
pub satisfied_all : (network : Network) (w : Premises) (known : ℕ → Info) (queued : List Bool) (number : ℕ) →
    AreOthersSatisfied network w known queued number → ((d : Attached) → IsSatisfied network known (attached_no network number d)) →
    AreSatisfied network w known queued
satisfied_all network w known queued number others one n d below seen free =
    elim (cases_Bool (eqb n number)) [
      | inl is ↦ subst (λ (k : ℕ). IsSatisfied network known (attached_no network k d)) (sym (eqb-true n number is)) (one d)
      | inr other ↦ others n d below (eqb-false n number other) seen free
    ]

-- ---- instances that do not read what changed

-- if no input is the cell, the inputs are informed as before
pub unread : (before now : ℕ → Info) (cell : ℕ) → ((c : ℕ) → c ≢ cell → now c ≡ before c) → (inputs : List ℕ) → list_any (nat_eq cell) inputs ≡ false →
    map now inputs ≡ map before inputs
unread before now cell same [] none = refl
unread before now cell same (c ∷ inputs) none =
    let parts = or_false (nat_eq cell c) (list_any (nat_eq cell) inputs) none in
    let other : c ≢ cell = λ e. eqb_not c cell e parts.0 in
    λ i. same c other i ∷ unread before now cell same inputs parts.1 i
  where
    or_false : (m n : Bool) → (m || n) ≡ false → (m ≡ false) × (n ≡ false)
    or_false false n e = (refl, e)
    or_false true n e = ((cc), (cc))

    eqb_not : (c cell : ℕ) → c ≡ cell → nat_eq cell c ≡ false → ⊥
    eqb_not c cell e not = grind (arith, nat_tests)

-- a satisfied instance that does not read it stays satisfied
pub still_satisfied : (network : Network) (well : IsWellNetwork network) (a : Attached) → Contains network.attached a → (before now : ℕ → Info) (cell : ℕ) →
    ((c : ℕ) → c ≢ cell → now c ≡ before c) → ((c : ℕ) → Implies (now c) (before c)) → reads cell a ≡ false →
    IsSatisfied network before a → IsSatisfied network now a
still_satisfied network well a there before now cell same more not_read satisfied =
    all_sources network.declared.procedures (kinds_in network) a.instance placed (IsImplied now)
    (λ v possible. subst (λ (infos : List Info). allows (value_by procedure infos) v ≡ true) (sym (unread before now cell same a.instance.inputs not_read))
    (the_source network.declared.procedures (kinds_in network) a.instance placed (IsImplied before) satisfied v (more a.instance.output v possible)))
  where
    placed : IsPlaced network.declared.procedures (kinds_in network) a.instance
    placed = All-contains (λ (b : Attached). IsPlaced network.declared.procedures (kinds_in network) b.instance) network.attached a (all_placed network well) there

    procedure : Procedure
    procedure = (accepted network.declared.procedures (kinds_in network) a.instance placed).0

-- ---- one call that made news

-- what there is after it: more is kept, what is at hand is what is kept, all rests upstream, what
-- is not queued is satisfied, and less may still be gained
pub record IsAfterNews (network : Network) (old new : Store) (w : Premises) (new_infos : List Info) (supports new_supports : List Premises)
    (number cell : ℕ) : Type 0 where
  pub grows : KeepsMore network old new
  pub kept : AreKept new w new_infos new_supports
  pub upstream : (given : ℕ → ℕ → Bool) → AreUpstream network given old supports → AreUpstream network given new new_supports
  pub satisfied : (queued new_queued : List Bool) → AreOthersSatisfied network w (λ c. kept_in old c w) queued number →
      ((n : ℕ) → Contains (readers_of network cell) n → visible_at network w n ≡ true → is_set new_queued n ≡ true) →
      ((n : ℕ) → is_set queued n ≡ true → is_set new_queued n ≡ true) →
      AreSatisfied network w (λ c. kept_in new c w) new_queued
  pub weight_is : weight network new w + reader_count network w cell ≤ weight network old w

module _ (network : Network) (well : IsWellNetwork network) (old new : Store) (same : kinds_of old ≡ kinds_in network) (w : Premises)
    (infos : List Info) (supports : List Premises) (kept : AreKept old w infos supports)
    (number : ℕ) (visible : visible_at network w number ≡ true) (cell : ℕ) (fact : Fact)
    (is : IsNews network infos supports (attached_no network number no_instance) cell fact)
    (below : cell < length infos) (kind : kind_of fact.info ≡ kind_of (info_at infos cell))
    (told : (w : Premises) → told_in new cell w ≡ told_in old cell w) (gains : GainsKept cell fact old new)
    (assimilates : AssimilatesAt cell fact old new) (others : LeavesOthers cell old new) (kinds_stay : kinds_of new ≡ kinds_of old)
    (remembers : Remembers cell fact old new) (continues : Continues old new) where
  abbrev a : Attached
  a = attached_no network number no_instance

  low : number < length network.attached
  low = visible_below network w number visible

  there : Contains network.attached a
  there = (number, low, get_or_default network.attached number a no_instance low)

  seen : is_instance_visible w a ≡ true
  seen = visible_no network w number no_instance low ∙ visible

  abbrev before : Info
  before = info_at infos cell

  abbrev after : Info
  after = meet before fact.info

  abbrev its : Fact
  its = record { info = before; support = support_at supports cell }

  -- the fact is of the kind of the cell
  of_kind : kind_of fact.info ≡ kind_in_store old cell
  of_kind = kind ∙ ap kind_of (kept.infos_are cell) ∙ kind-kept old cell w

  inside : is_subset fact.support w ≡ true
  inside = within network well old same w infos supports kept a there seen cell fact is

  -- the store keeps more
  pub keeps_news : KeepsMore network old new
  keeps_news =
      keeps_fact network old new same cell fact of_kind told gains others kinds_stay continues
      (follows network well old same w infos supports kept a there seen cell fact is)

  -- in the worldview it keeps of the cell the merge
  kept_here : kept_in new cell w ≡ after
  kept_here =
      gains w ∙ ap (λ (i : Info). meet i (shows w fact)) (sym (kept.infos_are cell)) ∙ ap (meet before) (shows-supported w fact inside)

  elsewhere : (c : ℕ) → c ≢ cell → (s : Premises) → kept_in new c s ≡ kept_in old c s
  elsewhere = kept_elsewhere network old new same cell fact of_kind told gains others

  in_supports : cell < length supports
  in_supports = omega (arith, below, kept.many, kept.as_many)

  -- the fact's premises lie upstream, if all did
  its_fact : (given : ℕ → ℕ → Bool) → AreUpstream network given old supports → LiesUpstream network given cell fact.support
  its_fact given are = lies network infos supports a there cell fact is given are.known

  -- so what is kept rests upstream, also if the fact is not taken in
  pub keeps_upstream : (given : ℕ → ℕ → Bool) → AreUpstream network given old supports → AreUpstream network given new supports
  keeps_upstream given are = record {
    kept = record {
      kept = by_cell (λ c. All (λ f. LiesUpstream network given c f.support) (kept_at new c)) cell
          (each_member (λ (f : Fact). LiesUpstream network given cell f.support) (kept_at new cell)
          (λ f has. elim (assimilates.within f has) [
            | inl same_fact ↦ subst (λ (g : Fact). LiesUpstream network given cell g.support) (sym same_fact) (its_fact given are)
            | inr had ↦ All-contains (λ (g : Fact). LiesUpstream network given cell g.support) (kept_at old cell) f (are.kept.kept cell) had
          ]))
          (λ c other. subst (λ (l : List Fact). All (λ f. LiesUpstream network given c f.support) l) (sym (ap (λ (x : Cell). x.kept) (others c other))) (are.kept.kept c));
      lately = lately_with network given old new cell fact remembers (its_fact given are) are.kept.lately;
    };
    known = are.known;
  }

  -- what was satisfied still is, but for the readers, which are queued
  satisfied_news : (queued new_queued : List Bool) → AreOthersSatisfied network w (λ c. kept_in old c w) queued number →
      ((n : ℕ) → Contains (readers_of network cell) n → visible_at network w n ≡ true → is_set new_queued n ≡ true) →
      ((n : ℕ) → is_set queued n ≡ true → is_set new_queued n ≡ true) →
      AreSatisfied network w (λ c. kept_in new c w) new_queued
  satisfied_news queued new_queued others_are readers stay n d down seen_n free =
      elim (cases_Bool (eqb n number)) [
        | inl called ↦
            let e : n ≡ number = eqb-true n number called in
            still (subst (λ (k : ℕ). attached_no network k d ≡ a) (sym e) (get_or_default network.attached number d no_instance low))
        | inr other ↦
            still_satisfied network well (attached_no network n d) (n, down, get_or_default network.attached n (attached_no network n d) d down) (λ c. kept_in old c w) (λ c. kept_in new c w) cell
            (λ c ne. elsewhere c ne w) (λ c. keeps_news.more c w) not_read (others_are n d down (eqb-false n number other) seen_n was_free)
      ]
    where
      not_read : reads cell (attached_no network n d) ≡ false
      not_read =
          elim (cases_Bool (reads cell (attached_no network n d))) [
            | inl reading ↦
                let set_now = readers n (reader_listed network cell n d down reading) (sym (visible_no network w n d down) ∙ seen_n) in
                absurd (cc)
            | inr not ↦ not
          ]

      was_free : is_set queued n ≡ false
      was_free =
          elim (cases_Bool (is_set queued n)) [
            | inl set_before ↦ let set_now = stay n set_before in absurd (cc)
            | inr not ↦ not
          ]

      -- the called one says what is merged now
      still : attached_no network n d ≡ a → IsSatisfied network (λ c. kept_in new c w) (attached_no network n d)
      still e =
          subst (IsSatisfied network (λ c. kept_in new c w)) (sym e)
          (all_sources network.declared.procedures (kinds_in network) a.instance placed (IsImplied (λ c. kept_in new c w))
          (λ v possible. subst (λ (i : Info). allows i v ≡ true) (sym said_now)
          (merge_says v (subst (λ (i : Info). allows i v ≡ true) kept_here (subst (λ (c : ℕ). allows (kept_in new c w) v ≡ true) (sym is.output) possible)))))
        where
          placed : IsPlaced network.declared.procedures (kinds_in network) a.instance
          placed = All-contains (λ (b : Attached). IsPlaced network.declared.procedures (kinds_in network) b.instance) network.attached a (all_placed network well) there

          procedure : Procedure
          procedure = (accepted network.declared.procedures (kinds_in network) a.instance placed).0

          said_now : value_by procedure (map (λ c. kept_in new c w) a.instance.inputs) ≡ fact.info
          said_now =
              ap (value_by procedure) (unread (info_at infos) (λ c. kept_in new c w) cell (λ c ne. elsewhere c ne w ∙ sym (kept.infos_are c)) a.instance.inputs
              (subst (λ (b : Attached). reads cell b ≡ false) e not_read))
              ∙ the_source network.declared.procedures (kinds_in network) a.instance placed (λ source. said_by (info_at infos) source ≡ fact.info) is.says

          merge_says : Implies after fact.info
          merge_says v possible = (true_both (allows before v) (allows fact.info v) (sym (allows-meet before fact.info (sym kind) v) ∙ possible)).1

  -- what may still be gained is less, by the readers at least
  weight_falls : weight network new w + reader_count network w cell ≤ weight network old w
  weight_falls =
      subst (λ (n : ℕ). sum_below n (λ c. rank_of (kept_in new c w) * reader_count network w c) + reader_count network w cell ≤ weight network old w)
      (sym as_many_cells)
      (sum_falls (length old.cells) (λ c. rank_of (kept_in old c w) * reader_count network w c) (λ c. rank_of (kept_in new c w) * reader_count network w c)
      cell (reader_count network w cell) (omega (arith, below, kept.many)) here
      (λ c down other. ap (λ (i : Info). rank_of i * reader_count network w c) (elsewhere c other w)))
    where
      as_many_cells : length new.cells ≡ length old.cells
      as_many_cells = sym (length-map new.cells (λ (x : Cell). x.kind)) ∙ ap length kinds_stay ∙ length-map old.cells (λ (x : Cell). x.kind)

      fallen : rank_of after < rank_of before
      fallen = elim (rank_gain after before (kind-meet before fact.info) (meet_first before fact.info (sym kind))) [
        | inl stayed ↦ absurd (is.new (implied_from_meet before fact.info (sym kind) stayed))
        | inr less ↦ less
      ]

      here : rank_of (kept_in new cell w) * reader_count network w cell + reader_count network w cell ≤ rank_of (kept_in old cell w) * reader_count network w cell
      here =
          let now = ap rank_of kept_here in
          let was = ap rank_of (kept.infos_are cell) in
          let more : rank_of (kept_in new cell w) + 1 ≤ rank_of (kept_in old cell w) = omega (arith, fallen, now, was) in
          omega (arith, mul-le-mul_right (reader_count network w cell) more)

  -- the fact is taken in
  module _ (new_infos : List Info) (new_supports : List Premises) (takes : TakesIn cell fact infos new_infos supports new_supports) where
    -- the premises at hand for another cell are unchanged
    support_elsewhere : (c : ℕ) → c ≢ cell → support_at new_supports c ≡ support_at supports c
    support_elsewhere c other =
        ap (λ (l : List Premises). support_at l c) takes.supports_are
        ∙ get_or-set_other supports cell c (support_at new_supports cell) empty other

    -- what is enough for the merge
    enough_here : (s : Premises) → is_subset (support_at new_supports cell) s ≡ true → Implies (kept_in new cell s) after
    enough_here s has =
        let shown : Implies (kept_in old cell s) (shows s its) =
        implies_shown (kept_in old cell s) its s (kind-kept old cell s ∙ sym (kind-kept old cell w) ∙ sym (ap kind_of (kept.infos_are cell)))
        (λ supported. kept.enough cell s supported) in
        let one_kind : kind_of (shows s its) ≡ kind_of (shows s fact) = kind-shows s its ∙ sym kind ∙ sym (kind-shows s fact) in
        λ v possible. subst (λ (i : Info). allows i v ≡ true) (takes.together s has)
        (meet_keeps (kept_in old cell s) (shows s its) (shows s fact) (kind_both network old new same cell fact of_kind told gains others s) one_kind shown v
        (subst (λ (i : Info). allows i v ≡ true) (gains s) possible))

    -- what is at hand is what is kept
    kept_news : AreKept new w new_infos new_supports
    kept_news = record {
      many = ap length takes.infos_are ∙ length-set infos cell after ∙ kept.many ∙ sym as_many_cells;
      as_many = ap length takes.supports_are ∙ length-set supports cell (support_at new_supports cell) ∙ kept.as_many ∙ sym as_many_cells;
      infos_are = by_cell (λ c. info_at new_infos c ≡ kept_in new c w) cell (info_here ∙ sym kept_here)
          (λ c other. info_elsewhere c other ∙ kept.infos_are c ∙ sym (elsewhere c other w));
      within = by_cell (λ c. is_subset (support_at new_supports c) w ≡ true) cell
          (is_subset_trans (support_at new_supports cell) (union (support_at supports cell) fact.support) w takes.rests
          (union_is_subset (support_at supports cell) fact.support w (kept.within cell) inside))
          (λ c other. subst (λ (p : Premises). is_subset p w ≡ true) (sym (support_elsewhere c other)) (kept.within c));
      enough = λ c s. by_cell (λ c. is_subset (support_at new_supports c) s ≡ true → Implies (kept_in new c s) (info_at new_infos c)) cell
          (λ has. implies_also (kept_in new cell s) after (info_at new_infos cell) (sym info_here) (enough_here s has))
          (λ c other has. also_implies (info_at new_infos c) (kept_in old c s) (kept_in new c s) (sym (elsewhere c other s))
          (implies_also (kept_in old c s) (info_at infos c) (info_at new_infos c) (sym (info_elsewhere c other))
          (kept.enough c s (subst (λ (p : Premises). is_subset p s ≡ true) (support_elsewhere c other) has)))) c;
    } where
      as_many_cells : length new.cells ≡ length old.cells
      as_many_cells = sym (length-map new.cells (λ (x : Cell). x.kind)) ∙ ap length kinds_stay ∙ length-map old.cells (λ (x : Cell). x.kind)

      info_here : info_at new_infos cell ≡ after
      info_here = ap (λ (l : List Info). info_at l cell) takes.infos_are ∙ get_or-set_same infos cell after (nothing kinds.Interval) below

      info_elsewhere : (c : ℕ) → c ≢ cell → info_at new_infos c ≡ info_at infos c
      info_elsewhere c other = ap (λ (l : List Info). info_at l c) takes.infos_are ∙ get_or-set_other infos cell c after (nothing kinds.Interval) other

    -- all rests on premises upstream, if it did
    upstream_news : (given : ℕ → ℕ → Bool) → AreUpstream network given old supports → AreUpstream network given new new_supports
    upstream_news given are = record {
      kept = (keeps_upstream given are).kept;
      known = by_cell (λ c. LiesUpstream network given c (support_at new_supports c)) cell
          (both_lie network given cell (support_at supports cell) fact.support (support_at new_supports cell) (are.known cell) (its_fact given are) takes.rests)
          (λ c other. subst (LiesUpstream network given c) (sym (support_elsewhere c other)) (are.known c));
    }

    pub after_news : IsAfterNews network old new w new_infos supports new_supports number cell
    after_news = record { grows = keeps_news; kept = kept_news; upstream = upstream_news; satisfied = satisfied_news; weight_is = weight_falls }
