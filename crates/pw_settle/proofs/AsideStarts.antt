-- What is known about the cells at the start of a settling beside the store: it follows.
use Rattle.std.proofs.Common.{◌≡◌, ℕ, ◌+◌, ◌<◌, ◌≤◌, true, eqb, ◌≢◌, set, List, [], ◌∷◌, ◌++◌, length, map, sym, ap, ◌∙◌, subst, arith, inl, inr, length-append}
use Rattle.std.specs.Prelude.{nat_lt}
use Rattle.std.specs.FinSet.{empty, is_subset, union}
use Rattle.std.proofs.lemmas.Bool.{cases_Bool, eqb-false, eqb-true, ltb-true, ltb-false}
use Rattle.std.proofs.lemmas.List.{get_or_append_left, get_or_default, get_or_past, get_or_push, get_or-set_other, get_or-set_same, length-map, length-set, same_lists}
use Rattle.pw_info.specs.declared.kind.Kind.TheVariants as kinds
use Rattle.pw_info.specs.declared.info.Info.{Info}
use Rattle.pw_info.specs.Information.{allows, kind_of, meet, nothing, Implies}
use Rattle.pw_info.proofs.Informations.{implies_nothing, kind-closest, kind-meet}
use Rattle.pw_premises.specs.Premises.{Premises}
use Rattle.pw_premises.specs.PremiseSubsets.{empty_is_subset, is_subset_trans, union_is_subset}
use Rattle.pw_facts.specs.declared.fact.Fact.{Fact}
use Rattle.pw_facts.specs.Facts.{IsLeastAbove, IsMerge, ShowTogether, shows}
use Rattle.pw_facts.proofs.Shown.{kind-shows}
use Rattle.pw_cells.specs.Cells.{Cell, Store, cell_at, kept_in, kinds_of, new_cell, told_in, told_of}
use Rattle.pw_cells.proofs.Together.{larger_shown}
use Rattle.pw_network.specs.Network.{IsWellNetwork, Network}
use Rattle.pw_settle.specs.Settled.{IsSettled, Settled, info_at, support_at}
use Rattle.pw_settle.specs.Values.{kinds_in, numbered, numbers_of_cells, sources_in, value_in}
use Rattle.pw_settle.specs.inside.Aside.{AreFound, IsFound}
use Rattle.pw_settle.proofs.FixpointLemmas.{kind-fixpoint}
use Rattle.pw_settle.proofs.KeptFacts.{implies_also, implies_merge, implies_shown, kind-kept, kind_there}
use Rattle.pw_settle.proofs.PlacedInstances.{kind-info_at}
use Rattle.pw_settle.proofs.SettledValues.{kinds_many}
use Rattle.pw_settle.proofs.SoundStores.{meet_second}
use Rattle.pw_settle.proofs.ValueGrows.{value_grows}
use Rattle.pw_settle.proofs.WiderNetworks.{value_says_told}

-- ---- kinds

-- the value of a cell is of its kind
pub value_kind : (network : Network) (store : Store) (w : Premises) (cell : ℕ) →
    kind_of (value_in network store w cell) ≡ (numbered (kinds_in network)).kind cell
value_kind network store w cell =
    kind-fixpoint (numbered (kinds_in network)) (numbers_of_cells (kinds_in network)) (sources_in network store w) cell

-- informations that are of the kinds of the cells, one by one, are so as a list
pub kinds_from : (network : Network) (infos : List Info) → length infos ≡ length (kinds_in network) →
    ((cell : ℕ) → cell < length infos → kind_of (info_at infos cell) ≡ (numbered (kinds_in network)).kind cell) → map kind_of infos ≡ kinds_in network
kinds_from network infos many are =
    same_lists (map kind_of infos) (kinds_in network) as_many
    (λ cell d below.
    get_or_default (map kind_of infos) cell d kinds.Interval below ∙ sym (kind-info_at infos cell)
    ∙ are cell (omega (arith, below, length-map infos kind_of))
    ∙ get_or_default (kinds_in network) cell kinds.Interval d (omega (arith, below, as_many)))
  where
    as_many : length (map kind_of infos) ≡ length (kinds_in network)
    as_many = length-map infos kind_of ∙ many

-- what is known about the cells is of their kinds
pub found_kinds : (network : Network) (store : Store) (w : Premises) (infos : List Info) (supports : List Premises) →
    AreFound network store w infos supports → map kind_of infos ≡ kinds_in network
found_kinds network store w infos supports found = kinds_from network infos found.many (λ cell below. (found.each cell).kind)

-- so are earlier values
pub settled_kinds : (network : Network) → IsWellNetwork network → (store : Store) (settled : Settled) →
    IsSettled network store settled.worldview settled → map kind_of settled.infos ≡ kinds_in network
settled_kinds network well store settled is =
    kinds_from network settled.infos (is.cells ∙ sym (kinds_many network well))
    (λ cell below. ap kind_of (is.values cell (omega (arith, below, is.cells))) ∙ value_kind network store settled.worldview cell)

-- a cell of the store is one of the network
pub cell_there : (network : Network) (store : Store) (cell : ℕ) → kinds_of store ≡ kinds_in network → cell < length store.cells → cell < length (kinds_in network)
cell_there network store cell same below = omega (arith, below, length-map store.cells (λ (x : Cell). x.kind), ap length same)

-- ---- what follows

-- if two facts about a cell follow, so does what they show together
pub together_follows : (network : Network) (store : Store) (cell : ℕ) (a b merge : Fact) →
    kind_of a.info ≡ (numbered (kinds_in network)).kind cell → kind_of b.info ≡ (numbered (kinds_in network)).kind cell →
    IsLeastAbove a.support (λ v. value_in network store v cell) a.info → IsLeastAbove b.support (λ v. value_in network store v cell) b.info →
    ShowTogether a b merge → IsLeastAbove merge.support (λ v. value_in network store v cell) merge.info
together_follows network store cell a b merge kind_a kind_b follows_a follows_b together v inside =
    let value : Info = value_in network store v cell in
    let kind = value_kind network store v cell in
    implies_also value (meet (shows v a) (shows v b)) merge.info (together v inside)
    (implies_merge value (shows v a) (shows v b) (kind-shows v a ∙ kind_a ∙ sym kind_b ∙ sym (kind-shows v b))
    (implies_shown value a v (kind ∙ sym kind_a) (λ has. follows_a v has))
    (implies_shown value b v (kind ∙ sym kind_b) (λ has. follows_b v has)))

module _ (network : Network) (store : Store) (same : kinds_of store ≡ kinds_in network) (w : Premises) (cell : ℕ) where
  -- what is kept of a cell follows
  pub kept_found : (info : Info) (support : Premises) → info ≡ kept_in store cell w → is_subset support w ≡ true →
      IsLeastAbove support (kept_in store cell) info → Implies info (told_in store cell w) → IsFound network store w cell info support
  kept_found info support is within larger told = record {
    kind = ap kind_of is ∙ kind-kept store cell w ∙ kind_there network store same cell;
    within = within;
    follows = λ sound v inside u possible. larger v inside u (sound v cell u possible);
    told = told;
  }

  module _ (well : IsWellNetwork network) (before : Settled) (is : IsSettled network store before.worldview before)
      (there : cell < length (kinds_in network)) where
    abbrev info : Info
    info = info_at before.infos cell

    abbrev support : Premises
    support = support_at before.supports cell

    below : cell < length before.infos
    below = omega (arith, there, is.cells, kinds_many network well)

    -- an earlier value is of the kind of the cell, and follows
    pub earlier_kind : kind_of info ≡ (numbered (kinds_in network)).kind cell
    earlier_kind = ap kind_of (is.values cell (omega (arith, below, is.cells))) ∙ value_kind network store before.worldview cell

    pub earlier_follows : IsLeastAbove support (λ v. value_in network store v cell) info
    earlier_follows v inside u possible =
        subst (λ (i : Info). allows i u ≡ true) (is.enough cell (omega (arith, below, is.cells)) ∙ sym (is.values cell (omega (arith, below, is.cells))))
        (value_grows network store well same cell support v inside u possible)

    -- in a part of the earlier worldview it says what was told
    pub earlier_found : is_subset support w ≡ true → is_subset w before.worldview ≡ true → IsFound network store w cell info support
    earlier_found within part = record {
      kind = earlier_kind;
      within = within;
      follows = λ sound. earlier_follows;
      told = λ u possible.
          larger_shown (cell_at store cell).kind w before.worldview (cell_at store cell).told part u
          (value_says_told network store before.worldview well same cell there u
          (subst (λ (i : Info). allows i u ≡ true) (is.values cell (omega (arith, below, is.cells))) possible));
    }

    -- merged with what is kept, it does so in any worldview
    pub merged_found : (info : Info) (support : Premises) → info ≡ info_at before.infos cell → support ≡ support_at before.supports cell →
        is_subset support w ≡ true → (kept merge : Fact) → IsFound network store w cell kept.info kept.support →
        IsMerge (record { info = info; support = support }) kept merge → ShowTogether (record { info = info; support = support }) kept merge →
        is_subset merge.support (union support kept.support) ≡ true → IsFound network store w cell merge.info merge.support
    merged_found info support is_info is_support within kept merge found rule together rests = record {
      kind = ap kind_of rule.info ∙ kind-meet info kept.info ∙ of_kind;
      within = is_subset_trans merge.support (union support kept.support) w rests (union_is_subset support kept.support w within found.within);
      follows = λ sound. together_follows network store cell (record { info = info; support = support }) kept merge of_kind found.kind follows (found.follows sound) together;
      told = λ u possible. found.told u (meet_second info kept.info (of_kind ∙ sym found.kind) u (subst (λ (i : Info). allows i u ≡ true) rule.info possible));
    } where
      of_kind : kind_of info ≡ (numbered (kinds_in network)).kind cell
      of_kind = ap kind_of is_info ∙ earlier_kind

      follows : IsLeastAbove support (λ v. value_in network store v cell) info
      follows =
          subst (λ (s : Premises). IsLeastAbove s (λ v. value_in network store v cell) info) (sym is_support)
          (subst (λ (i : Info). IsLeastAbove (support_at before.supports cell) (λ v. value_in network store v cell) i) (sym is_info) earlier_follows)

-- ---- the cells one after another

-- so far it is known about the cells below this number
pub record IsFoundTo (network : Network) (store : Store) (w : Premises) (count : ℕ) (infos : List Info) (supports : List Premises) : Type 0 where
  pub many : length infos ≡ count
  pub as_many : length supports ≡ count
  pub found : (cell : ℕ) → cell < count → IsFound network store w cell (info_at infos cell) (support_at supports cell)

-- at first about none
pub found_none : (network : Network) (store : Store) (w : Premises) (infos : List Info) (supports : List Premises) → infos ≡ [] → supports ≡ [] →
    IsFoundTo network store w 0 infos supports
found_none network store w infos supports none also = record { many = ap length none; as_many = ap length also; found = λ cell below. absurd (omega (arith, below)) }

-- and about one more
pub found_more : (network : Network) (store : Store) (w : Premises) (count : ℕ) (infos : List Info) (supports : List Premises) (info : Info) (support : Premises) →
    IsFoundTo network store w count infos supports → IsFound network store w count info support →
    IsFoundTo network store w (count + 1) (infos ++ info ∷ []) (supports ++ support ∷ [])
found_more network store w count infos supports info support so_far one = record {
  many = omega (arith, length-append infos (info ∷ []), so_far.many);
  as_many = omega (arith, length-append supports (support ∷ []), so_far.as_many);
  found = λ cell below. elim (cases_Bool (eqb cell count)) [
    | inl is ↦
        let e : cell ≡ count = eqb-true cell count is in
        subst (λ (c : ℕ). IsFound network store w c (info_at (infos ++ info ∷ []) c) (support_at (supports ++ support ∷ []) c)) (sym e) last
    | inr other ↦
        let less : cell < count = omega (arith, below, eqb-false cell count other) in
        rw (
          get_or_append_left infos (info ∷ []) (nothing kinds.Interval) cell (omega (arith, less, so_far.many)),
          get_or_append_left supports (support ∷ []) empty cell (omega (arith, less, so_far.as_many)),
        ) (so_far.found cell less)
  ];
} where
  last : IsFound network store w count (info_at (infos ++ info ∷ []) count) (support_at (supports ++ support ∷ []) count)
  last = rw (get_or_push infos info (nothing kinds.Interval) count so_far.many, get_or_push supports support empty count so_far.as_many) one

-- ---- the cells in place, in a part of the earlier worldview

-- so far what is known about the cells below this number is found, and about the others it is as before
pub record IsPutTo (network : Network) (store : Store) (w : Premises) (before : Settled) (count : ℕ) (infos : List Info) (supports : List Premises) : Type 0 where
  pub many : length infos ≡ length store.cells
  pub as_many : length supports ≡ length store.cells
  pub found : (cell : ℕ) → cell < count → IsFound network store w cell (info_at infos cell) (support_at supports cell)
  pub infos_stay : (cell : ℕ) → count ≤ cell → info_at infos cell ≡ info_at before.infos cell
  pub supports_stay : (cell : ℕ) → count ≤ cell → support_at supports cell ≡ support_at before.supports cell

module _ (network : Network) (well : IsWellNetwork network) (store : Store) (same : kinds_of store ≡ kinds_in network) (w : Premises)
    (before : Settled) (is : IsSettled network store before.worldview before) where
  -- there are as many earlier values as cells
  pub earlier_many : length before.infos ≡ length store.cells
  earlier_many = omega (arith, is.cells, kinds_many network well, length-map store.cells (λ (x : Cell). x.kind), ap length same)

  pub earlier_supports : length before.supports ≡ length store.cells
  earlier_supports = omega (arith, is.supports, kinds_many network well, length-map store.cells (λ (x : Cell). x.kind), ap length same)

  -- at first all are as before
  pub put_none : (infos : List Info) (supports : List Premises) → infos ≡ before.infos → supports ≡ before.supports →
      IsPutTo network store w before 0 infos supports
  put_none infos supports are also = record {
    many = ap length are ∙ earlier_many;
    as_many = ap length also ∙ earlier_supports;
    found = λ cell below. absurd (omega (arith, below));
    infos_stay = λ cell past. ap (λ l. info_at l cell) are;
    supports_stay = λ cell past. ap (λ l. support_at l cell) also;
  }

  module _ (count : ℕ) (there : count < length store.cells) (infos : List Info) (supports : List Premises)
      (so_far : IsPutTo network store w before count infos supports) where
    -- a value stays that rests on premises of the worldview
    pub put_stays : is_subset (support_at supports count) w ≡ true → is_subset w before.worldview ≡ true →
        IsPutTo network store w before (count + 1) infos supports
    put_stays within part = record {
      many = so_far.many;
      as_many = so_far.as_many;
      found = λ cell below. elim (cases_Bool (eqb cell count)) [
        | inl e ↦ subst (λ (c : ℕ). IsFound network store w c (info_at infos c) (support_at supports c)) (sym (eqb-true cell count e)) here
        | inr other ↦ so_far.found cell (omega (arith, below, eqb-false cell count other))
      ];
      infos_stay = λ cell past. so_far.infos_stay cell (omega (arith, past));
      supports_stay = λ cell past. so_far.supports_stay cell (omega (arith, past));
    } where
      info_is : info_at infos count ≡ info_at before.infos count
      info_is = so_far.infos_stay count (omega arith)

      support_is : support_at supports count ≡ support_at before.supports count
      support_is = so_far.supports_stay count (omega arith)

      here : IsFound network store w count (info_at infos count) (support_at supports count)
      here = rw (info_is, support_is)
          (earlier_found network store same w count well before is (omega (arith, there, length-map store.cells (λ (x : Cell). x.kind), ap length same))
          (ap (λ (s : Premises). is_subset s w) (sym support_is) ∙ within) part)

    -- what is kept takes the place of another
    pub put_one : (info : Info) (support : Premises) (new_infos : List Info) (new_supports : List Premises) →
        new_infos ≡ set infos count info → new_supports ≡ set supports count support → IsFound network store w count info support →
        IsPutTo network store w before (count + 1) new_infos new_supports
    put_one info support new_infos new_supports infos_are supports_are one = record {
      many = ap length infos_are ∙ length-set infos count info ∙ so_far.many;
      as_many = ap length supports_are ∙ length-set supports count support ∙ so_far.as_many;
      found = λ cell below. elim (cases_Bool (eqb cell count)) [
        | inl e ↦ subst (λ (c : ℕ). IsFound network store w c (info_at new_infos c) (support_at new_supports c)) (sym (eqb-true cell count e)) here
        | inr other ↦ rw (elsewhere cell (eqb-false cell count other), elsewhere_also cell (eqb-false cell count other))
            (so_far.found cell (omega (arith, below, eqb-false cell count other)))
      ];
      infos_stay = λ cell past. elsewhere cell (λ e. absurd (omega (arith, e, past))) ∙ so_far.infos_stay cell (omega (arith, past));
      supports_stay = λ cell past. elsewhere_also cell (λ e. absurd (omega (arith, e, past))) ∙ so_far.supports_stay cell (omega (arith, past));
    } where
      elsewhere : (cell : ℕ) → cell ≢ count → info_at new_infos cell ≡ info_at infos cell
      elsewhere cell other = ap (λ l. info_at l cell) infos_are ∙ get_or-set_other infos count cell info (nothing kinds.Interval) other

      elsewhere_also : (cell : ℕ) → cell ≢ count → support_at new_supports cell ≡ support_at supports cell
      elsewhere_also cell other = ap (λ l. support_at l cell) supports_are ∙ get_or-set_other supports count cell support empty other

      here : IsFound network store w count (info_at new_infos count) (support_at new_supports count)
      here = rw (
        ap (λ l. info_at l count) infos_are ∙ get_or-set_same infos count info (nothing kinds.Interval) (omega (arith, there, so_far.many)),
        ap (λ l. support_at l count) supports_are ∙ get_or-set_same supports count support empty (omega (arith, there, so_far.as_many)),
      ) one

  -- in the end all are found
  pub put_all : (infos : List Info) (supports : List Premises) → IsPutTo network store w before (length store.cells) infos supports →
      IsFoundTo network store w (length store.cells) infos supports
  put_all infos supports to = record { many = to.many; as_many = to.as_many; found = to.found }

-- about no cell past the last anything is known
pub past_found : (network : Network) (store : Store) (same : kinds_of store ≡ kinds_in network) (w : Premises) (cell : ℕ) → length store.cells ≤ cell →
    IsFound network store w cell (nothing kinds.Interval) empty
past_found network store same w cell past = record {
  kind = kind-closest kinds.Interval (λ v. true) ∙ sym kind_past;
  within = empty_is_subset w;
  follows = λ sound v inside. implies_nothing (value_in network store v cell) kinds.Interval (value_kind network store v cell ∙ kind_past);
  told = implies_also (nothing kinds.Interval) (nothing kinds.Interval) (told_in store cell w)
      (sym (ap (λ (c : Cell). told_of c w) (get_or_past store.cells cell (new_cell kinds.Interval) past))) (λ u possible. possible);
} where
  kind_past : (numbered (kinds_in network)).kind cell ≡ kinds.Interval
  kind_past = get_or_past (kinds_in network) cell kinds.Interval (omega (arith, past, length-map store.cells (λ (x : Cell). x.kind), ap length same))

-- in the end about all
pub all_found : (network : Network) (store : Store) (same : kinds_of store ≡ kinds_in network) (w : Premises) (infos : List Info) (supports : List Premises) →
    IsFoundTo network store w (length store.cells) infos supports → AreFound network store w infos supports
all_found network store same w infos supports to = record {
  many = to.many ∙ sym (length-map store.cells (λ (x : Cell). x.kind)) ∙ ap length same;
  as_many = to.as_many ∙ sym to.many;
  each = λ cell. elim (cases_Bool (nat_lt cell (length store.cells))) [
    | inl is ↦ to.found cell (ltb-true cell (length store.cells) is)
    | inr not ↦
        let past = ltb-false cell (length store.cells) not in
        subst (λ (i : Info). IsFound network store w cell i (support_at supports cell)) (sym (get_or_past infos cell (nothing kinds.Interval) (omega (arith, past, to.many))))
        (subst (λ (s : Premises). IsFound network store w cell (nothing kinds.Interval) s) (sym (get_or_past supports cell empty (omega (arith, past, to.as_many))))
        (past_found network store same w cell past))
  ];
}
