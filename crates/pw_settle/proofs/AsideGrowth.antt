-- Earlier values that grow to those of a worldview with more premises.
use Rattle.std.proofs.Common.{◌≡◌, ◌≢◌, ℕ, ◌+◌, ◌<◌, ◌≤◌, Bool, true, false, eqb, List, All, Contains, length, map, set, refl, sym, ap, ◌∙◌, subst, arith, inl, inr}
use Rattle.std.specs.Prelude.{◌&&◌, nat_lt, not, replicate}
use Rattle.std.specs.FinSet.{empty, is_subset, union}
use Rattle.std.proofs.lemmas.Bool.{cases_Bool, eqb-false, eqb-true, ltb-false, ltb-true}
use Rattle.std.proofs.lemmas.List.{get_or_default, get_or_past, get_or-set_other, get_or-set_same, length-map, length-replicate, length-set}
use Rattle.std.proofs.lemmas.List.Elements.{All-contains, All-weaker}
use Rattle.pw_kinds.proofs.Order.{true_both}
use Rattle.pw_info.specs.declared.kind.Kind.TheVariants as kinds
use Rattle.pw_info.specs.declared.info.Info.{Info}
use Rattle.pw_info.specs.Information.{allows, kind_of, meet, nothing, Implies}
use Rattle.pw_info.proofs.Informations.{kind-meet}
use Rattle.pw_premises.specs.Premises.{Premises}
use Rattle.pw_premises.specs.PremiseSubsets.{is_subset_trans, union_is_subset}
use Rattle.pw_procs.specs.Procedure.{Procedure}
use Rattle.pw_facts.specs.declared.fact.Fact.{Fact}
use Rattle.pw_cells.specs.Cells.{Cell, Store, kept_in, kinds_of, told_in}
use Rattle.pw_cells.specs.Shown.{IsKeptIn}
use Rattle.pw_cells.proofs.Together.{meet_first}
use Rattle.pw_network.specs.Network.{Attached, IsWellNetwork, Network}
use Rattle.pw_network.specs.Readers.{reads}
use Rattle.pw_settle.specs.Calls.{is_instance_visible, is_set, visible_at}
use Rattle.pw_settle.specs.Settled.{IsSettled, Settled, info_at, support_at}
use Rattle.pw_settle.specs.Sound.{IsSound}
use Rattle.pw_settle.specs.Sources.{IsImplied}
use Rattle.pw_settle.specs.Values.{IsSatisfied, attached_no, kinds_in, value_in}
use Rattle.pw_settle.specs.inside.Aside.{AreFound, AreGrownTo, IsFound, IsGrown}
use Rattle.pw_settle.specs.inside.Queueing.{QueuesReaders}
use Rattle.pw_settle.specs.inside.Known.{IsPlaced, TakesIn, TakesInKept}
use Rattle.pw_settle.proofs.AsideAgendas.{none_set}
use Rattle.pw_settle.proofs.AsideNews.{value_says}
use Rattle.pw_settle.proofs.AsideStarts.{cell_there, earlier_follows, earlier_kind, kept_found, past_found, together_follows}
use Rattle.pw_settle.proofs.KeptFacts.{by_cell, kind-in_value, kind_there}
use Rattle.pw_settle.proofs.KeptNews.{kinds_mapped, value_more}
use Rattle.pw_settle.proofs.KeptProgress.{reader_listed, still_satisfied, visible_no}
use Rattle.pw_settle.proofs.PlacedInstances.{accepted, all_sources}
use Rattle.pw_settle.proofs.SettledValues.{all_placed, kinds_many}
use Rattle.pw_settle.proofs.SoundStores.{meet_second}

-- ---- what is newly visible

-- the test: visible now, and hidden before
shown_anew : (a b : Bool) → a ≡ true → b ≡ false → (a && not b) ≡ true
shown_anew a b is hidden = rw (is, hidden) refl

not_shown : (a b : Bool) → a ≡ false → (a && not b) ≡ false
not_shown a b hidden = rw (hidden) refl

not_anew : (a b : Bool) → b ≡ true → (a && not b) ≡ false
not_anew true b was = rw (was) refl
not_anew false b was = refl

module _ (network : Network) (earlier w : Premises) where
  abbrev is_newly : ℕ → Bool
  is_newly n = visible_at network w n && not (visible_at network earlier n)

  -- of the instances below this number, those are queued that are newly visible
  pub record AreNewTo (count : ℕ) (queued : List Bool) : Type 0 where
    pub flags : length queued ≡ length network.attached
    pub looked_at : (n : ℕ) → n < count → is_set queued n ≡ is_newly n
    pub left : (n : ℕ) → count ≤ n → is_set queued n ≡ false

  -- at first none is queued
  pub new_none : (queued : List Bool) (many : ℕ) → many ≡ length network.attached → queued ≡ replicate many false → AreNewTo 0 queued
  new_none queued many all none = record {
    flags = ap length none ∙ length-replicate many false ∙ all;
    looked_at = λ n below. absurd (omega (arith, below));
    left = λ n past. ap (λ (l : List Bool). is_set l n) none ∙ none_set many n;
  }

  module _ (count : ℕ) (queued : List Bool) (so_far : AreNewTo count queued) where
    -- the next is no news
    passed : is_newly count ≡ false → AreNewTo (count + 1) queued
    passed not_so = record {
      flags = so_far.flags;
      looked_at = λ n below. elim (cases_Bool (eqb n count)) [
        | inl is ↦
            let e : n ≡ count = eqb-true n count is in
            so_far.left n (omega (arith, e)) ∙ sym not_so ∙ sym (ap is_newly e)
        | inr other ↦ so_far.looked_at n (omega (arith, below, eqb-false n count other))
      ];
      left = λ n past. so_far.left n (omega (arith, past));
    }

    -- it is hidden, or was visible
    pub new_hidden : visible_at network w count ≡ false → AreNewTo (count + 1) queued
    new_hidden hidden = passed (not_shown (visible_at network w count) (visible_at network earlier count) hidden)

    pub new_before : visible_at network earlier count ≡ true → AreNewTo (count + 1) queued
    new_before was = passed (not_anew (visible_at network w count) (visible_at network earlier count) was)

    -- it is queued
    pub new_queued : count < length network.attached → visible_at network w count ≡ true → visible_at network earlier count ≡ false →
        AreNewTo (count + 1) (set queued count true)
    new_queued there shown hidden = record {
      flags = length-set queued count true ∙ so_far.flags;
      looked_at = λ n below. elim (cases_Bool (eqb n count)) [
        | inl is ↦
            let e : n ≡ count = eqb-true n count is in
            ap (is_set (set queued count true)) e ∙ get_or-set_same queued count true false (omega (arith, there, so_far.flags))
            ∙ sym (shown_anew (visible_at network w count) (visible_at network earlier count) shown hidden) ∙ sym (ap is_newly e)
        | inr other ↦
            get_or-set_other queued count n true false (eqb-false n count other) ∙ so_far.looked_at n (omega (arith, below, eqb-false n count other))
      ];
      left = λ n past. get_or-set_other queued count n true false (λ e. absurd (omega (arith, e, past))) ∙ so_far.left n (omega (arith, past));
    }

    -- when all were looked at, just those are queued
    pub all_new : length network.attached ≤ count → (n : ℕ) → is_set queued n ≡ is_newly n
    all_new past n =
        elim (cases_Bool (nat_lt n count)) [
          | inl is ↦ so_far.looked_at n (ltb-true n count is)
          | inr not_so ↦
              let beyond = ltb-false n count not_so in
              so_far.left n beyond
              ∙ sym (not_shown (visible_at network w n) (visible_at network earlier n)
              (get_or_past (map (is_instance_visible w) network.attached) n false
              (omega (arith, past, beyond, length-map network.attached (is_instance_visible w)))))
        ]

-- ---- the start

module _ (network : Network) (well : IsWellNetwork network) (store : Store) (same : kinds_of store ≡ kinds_in network) (w : Premises)
    (before : Settled) (is : IsSettled network store before.worldview before) (part : is_subset before.worldview w ≡ true) where
  many : length before.infos ≡ length (kinds_in network)
  many = is.cells ∙ sym (kinds_many network well)

  as_many : length before.supports ≡ length before.infos
  as_many = is.supports ∙ sym is.cells

  -- an earlier value is what it grows from
  earlier_value : (cell : ℕ) → cell < length (kinds_in network) → info_at before.infos cell ≡ value_in network store before.worldview cell
  earlier_value cell there = is.values cell (omega (arith, there, kinds_many network well))

  first_there : (cell : ℕ) → cell < length (kinds_in network) →
      IsGrown network store before.worldview w cell (info_at before.infos cell) (support_at before.supports cell)
  first_there cell there = record {
    kind = earlier_kind network store same w cell well before is there;
    within = is_subset_trans (support_at before.supports cell) before.worldview w (is.within cell) part;
    follows = λ sound. earlier_follows network store same w cell well before is there;
    more = λ below u possible. subst (λ (i : Info). allows i u ≡ true) (earlier_value cell below) possible;
  }

  first_past : (cell : ℕ) → length (kinds_in network) ≤ cell → IsGrown network store before.worldview w cell (nothing kinds.Interval) empty
  first_past cell past =
      let found = past_found network store same w cell (omega (arith, past, length-map store.cells (λ (x : Cell). x.kind), ap length same)) in
      record { kind = found.kind; within = found.within; follows = found.follows; more = λ below. absurd (omega (arith, below, past)) }

  first_each : (cell : ℕ) → IsGrown network store before.worldview w cell (info_at before.infos cell) (support_at before.supports cell)
  first_each cell =
      elim (cases_Bool (nat_lt cell (length (kinds_in network)))) [
        | inl below ↦ first_there cell (ltb-true cell (length (kinds_in network)) below)
        | inr not_so ↦
            let past = ltb-false cell (length (kinds_in network)) not_so in
            subst (λ (i : Info). IsGrown network store before.worldview w cell i (support_at before.supports cell))
            (sym (get_or_past before.infos cell (nothing kinds.Interval) (omega (arith, past, many))))
            (subst (λ (s : Premises). IsGrown network store before.worldview w cell (nothing kinds.Interval) s)
            (sym (get_or_past before.supports cell empty (omega (arith, past, many, as_many))))
            (first_past cell past))
      ]

  -- an instance that was visible is satisfied
  first_satisfied : (n : ℕ) (d : Attached) → n < length network.attached → visible_at network before.worldview n ≡ true →
      IsSatisfied network (info_at before.infos) (attached_no network n d)
  first_satisfied n d below shown =
      all_sources network.declared.procedures (kinds_in network) a.instance placed (IsImplied (info_at before.infos))
      (λ u possible. value_more procedure (λ c. value_in network store before.worldview c) (info_at before.infos) a.instance.inputs
      (kinds_mapped (λ c. value_in network store before.worldview c) store (kind-in_value network store same before.worldview) a.instance.inputs
      ∙ sym (kinds_mapped (info_at before.infos) store (λ c. (first_each c).kind ∙ sym (kind_there network store same c)) a.instance.inputs))
      inputs_more u
      (value_says network well store same before.worldview a there was_seen placed u
      (subst (λ (i : Info). allows i u ≡ true) (earlier_value a.instance.output placed.0.1) possible)))
    where
      a : Attached
      a = attached_no network n d

      there : Contains network.attached a
      there = (n, below, get_or_default network.attached n a d below)

      placed : IsPlaced network.declared.procedures (kinds_in network) a.instance
      placed = All-contains (λ (b : Attached). IsPlaced network.declared.procedures (kinds_in network) b.instance) network.attached a (all_placed network well) there

      procedure : Procedure
      procedure = (accepted network.declared.procedures (kinds_in network) a.instance placed).0

      was_seen : is_instance_visible before.worldview a ≡ true
      was_seen = visible_no network before.worldview n d below ∙ shown

      inputs_more : All (λ c. Implies (value_in network store before.worldview c) (info_at before.infos c)) a.instance.inputs
      inputs_more =
          All-weaker (λ c. c < length (kinds_in network)) (λ c. Implies (value_in network store before.worldview c) (info_at before.infos c))
          (λ c low u possible. subst (λ (i : Info). allows i u ≡ true) (sym (earlier_value c low)) possible) a.instance.inputs placed.0.0

  -- so earlier values have grown by no cell yet, if what is newly visible is queued
  pub grown_first : (queued : List Bool) → length queued ≡ length network.attached →
      ((n : ℕ) → is_set queued n ≡ is_newly network before.worldview w n) →
      AreGrownTo network store before.worldview w 0 before.infos before.supports queued
  grown_first queued flags new = record {
    many = many;
    as_many = as_many;
    each = first_each;
    told = λ cell below. absurd (omega (arith, below));
    flags = flags;
    seen = λ n flag. (true_both (visible_at network w n) (not (visible_at network before.worldview n)) (sym (new n) ∙ flag)).0;
    satisfied = λ n d below seen free. first_satisfied n d below (was n d below seen free);
  } where
    was : (n : ℕ) (d : Attached) → n < length network.attached → is_instance_visible w (attached_no network n d) ≡ true → is_set queued n ≡ false →
        visible_at network before.worldview n ≡ true
    was n d below seen free =
        elim (cases_Bool (visible_at network before.worldview n)) [
          | inl is_so ↦ is_so
          | inr hidden ↦
              let flag : is_set queued n ≡ true =
              new n ∙ shown_anew (visible_at network w n) (visible_at network before.worldview n) (sym (visible_no network w n d below) ∙ seen) hidden in
              absurd (cc)
        ]

-- ---- one cell more

module _ (network : Network) (well : IsWellNetwork network) (store : Store) (same : kinds_of store ≡ kinds_in network) (sound : IsSound network store)
    (earlier w : Premises) (cell : ℕ) (there : cell < length store.cells) (infos : List Info) (supports : List Premises) (queued : List Bool)
    (grown : AreGrownTo network store earlier w cell infos supports queued) where
  low : cell < length (kinds_in network)
  low = cell_there network store cell same there

  -- what is known says what was told
  next : Implies (info_at infos cell) (told_in store cell w) → AreGrownTo network store earlier w (cell + 1) infos supports queued
  next here = record {
    many = grown.many;
    as_many = grown.as_many;
    each = grown.each;
    told = λ c below. elim (cases_Bool (eqb c cell)) [
      | inl is ↦ subst (λ (k : ℕ). Implies (info_at infos k) (told_in store k w)) (sym (eqb-true c cell is)) here
      | inr other ↦ grown.told c (omega (arith, below, eqb-false c cell other))
    ];
    flags = grown.flags;
    seen = grown.seen;
    satisfied = grown.satisfied;
  }

  -- no more is kept of the cell than in the earlier worldview
  pub grown_unshown : Implies (kept_in store cell earlier) (kept_in store cell w) → Implies (kept_in store cell w) (told_in store cell w) →
      AreGrownTo network store earlier w (cell + 1) infos supports queued
  grown_unshown less told = next (λ u possible. told u (less u (sound earlier cell u ((grown.each cell).more low u possible))))

  -- what is kept is known
  grown_known : Implies (info_at infos cell) (kept_in store cell w) → Implies (kept_in store cell w) (told_in store cell w) →
      AreGrownTo network store earlier w (cell + 1) infos supports queued
  grown_known known told = next (λ u possible. told u (known u possible))

  -- what is kept is taken in
  module _ (fact : Fact) (kept : IsKeptIn store cell w fact) (new_infos : List Info) (new_supports : List Premises)
      (takes : TakesIn cell fact infos new_infos supports new_supports) where
    abbrev before : Info
    before = info_at infos cell

    abbrev after : Info
    after = meet before fact.info

    abbrev its : Fact
    its = record { info = before; support = support_at supports cell }

    found : IsFound network store w cell fact.info fact.support
    found = kept_found network store same w cell fact.info fact.support kept.info kept.within kept.larger kept.told

    -- the two are of one kind
    alike : kind_of before ≡ kind_of fact.info
    alike = (grown.each cell).kind ∙ sym found.kind

    info_here : info_at new_infos cell ≡ after
    info_here =
        ap (λ (l : List Info). info_at l cell) takes.infos_are ∙ get_or-set_same infos cell after (nothing kinds.Interval) (omega (arith, low, grown.many))

    info_elsewhere : (c : ℕ) → c ≢ cell → info_at new_infos c ≡ info_at infos c
    info_elsewhere c other = ap (λ (l : List Info). info_at l c) takes.infos_are ∙ get_or-set_other infos cell c after (nothing kinds.Interval) other

    support_elsewhere : (c : ℕ) → c ≢ cell → support_at new_supports c ≡ support_at supports c
    support_elsewhere c other =
        ap (λ (l : List Premises). support_at l c) takes.supports_are ∙ get_or-set_other supports cell c (support_at new_supports cell) empty other

    many_still : length new_infos ≡ length infos
    many_still = ap length takes.infos_are ∙ length-set infos cell after

    grown_here : IsGrown network store earlier w cell after (support_at new_supports cell)
    grown_here = record {
      kind = kind-meet before fact.info ∙ (grown.each cell).kind;
      within = is_subset_trans (support_at new_supports cell) (union (support_at supports cell) fact.support) w takes.rests
          (union_is_subset (support_at supports cell) fact.support w (grown.each cell).within found.within);
      follows = λ s. together_follows network store cell its fact (record { info = after; support = support_at new_supports cell })
          (grown.each cell).kind found.kind ((grown.each cell).follows s) (found.follows s) takes.together;
      more = λ below u possible. (grown.each cell).more below u (meet_first before fact.info alike u possible);
    }

    each_taken : (c : ℕ) → IsGrown network store earlier w c (info_at new_infos c) (support_at new_supports c)
    each_taken =
        by_cell (λ c. IsGrown network store earlier w c (info_at new_infos c) (support_at new_supports c)) cell
        (subst (λ (i : Info). IsGrown network store earlier w cell i (support_at new_supports cell)) (sym info_here) grown_here)
        (λ c other. subst (λ (i : Info). IsGrown network store earlier w c i (support_at new_supports c)) (sym (info_elsewhere c other))
        (subst (λ (p : Premises). IsGrown network store earlier w c (info_at infos c) p) (sym (support_elsewhere c other)) (grown.each c)))

    -- it says what was told
    told_taken : (c : ℕ) → c < cell + 1 → Implies (info_at new_infos c) (told_in store c w)
    told_taken c below =
        elim (cases_Bool (eqb c cell)) [
          | inl is ↦
              subst (λ (k : ℕ). Implies (info_at new_infos k) (told_in store k w)) (sym (eqb-true c cell is))
              (λ u possible. found.told u (meet_second before fact.info alike u (subst (λ (i : Info). allows i u ≡ true) info_here possible)))
          | inr other ↦
              λ u possible. grown.told c (omega (arith, below, eqb-false c cell other)) u
              (subst (λ (i : Info). allows i u ≡ true) (info_elsewhere c (eqb-false c cell other)) possible)
        ]

    -- no less is known
    more_known : (c : ℕ) → Implies (info_at new_infos c) (info_at infos c)
    more_known = by_cell (λ c. Implies (info_at new_infos c) (info_at infos c)) cell
        (λ u possible. meet_first before fact.info alike u (subst (λ (i : Info). allows i u ≡ true) info_here possible))
        (λ c other u possible. subst (λ (i : Info). allows i u ≡ true) (info_elsewhere c other) possible)

    -- and the readers are queued
    grown_taken : (visible new_queued : List Bool) → visible ≡ map (is_instance_visible w) network.attached →
        QueuesReaders network visible (λ c. c ≡ cell) queued new_queued →
        AreGrownTo network store earlier w (cell + 1) new_infos new_supports new_queued
    grown_taken visible new_queued now_seen queues = record {
      many = many_still ∙ grown.many;
      as_many = ap length takes.supports_are ∙ length-set supports cell (support_at new_supports cell) ∙ grown.as_many ∙ sym many_still;
      each = each_taken;
      told = told_taken;
      flags = queues.flags ∙ grown.flags;
      seen = λ n flag. elim (queues.others n flag) [
        | inl had ↦ grown.seen n had
        | inr one ↦ ap (λ (l : List Bool). is_set l n) (sym now_seen) ∙ one.0
      ];
      satisfied = λ n d down seen free.
          still_satisfied network well (attached_no network n d) (n, down, get_or_default network.attached n (attached_no network n d) d down)
          (info_at infos) (info_at new_infos) cell info_elsewhere more_known (not_read n d down seen free) (grown.satisfied n d down seen (was_free n free));
    } where
      was_free : (n : ℕ) → is_set new_queued n ≡ false → is_set queued n ≡ false
      was_free n free =
          elim (cases_Bool (is_set queued n)) [
            | inl set_before ↦ let set_now = queues.stay n set_before in absurd (cc)
            | inr not_so ↦ not_so
          ]

      not_read : (n : ℕ) (d : Attached) → n < length network.attached → is_instance_visible w (attached_no network n d) ≡ true → is_set new_queued n ≡ false →
          reads cell (attached_no network n d) ≡ false
      not_read n d down seen free =
          elim (cases_Bool (reads cell (attached_no network n d))) [
            | inl reading ↦
                let set_now = queues.readers cell n refl (reader_listed network cell n d down reading)
                (ap (λ (l : List Bool). is_set l n) now_seen ∙ sym (visible_no network w n d down) ∙ seen) in
                absurd (cc)
            | inr not_so ↦ not_so
          ]

  -- either way there is one cell more
  module _ (is_news : Bool) (new_infos : List Info) (new_supports : List Premises)
      (takes : TakesInKept store cell w is_news infos new_infos supports new_supports) where
    pub as_long : length new_infos ≡ length infos
    as_long =
        elim (cases_Bool is_news) [
          | inl is ↦
              let its = takes.news is in
              ap length its.2.infos_are ∙ length-set infos cell (meet (info_at infos cell) its.0.info)
          | inr not_so ↦ ap length (takes.none not_so).1
        ]

    pub grown_none : is_news ≡ false → Implies (kept_in store cell w) (told_in store cell w) →
        AreGrownTo network store earlier w (cell + 1) new_infos new_supports queued
    grown_none not_so told = let stays = takes.none not_so in rw (stays.1, stays.2) (grown_known stays.0 told)

    pub grown_news : is_news ≡ true → (visible new_queued : List Bool) → visible ≡ map (is_instance_visible w) network.attached →
        QueuesReaders network visible (λ c. c ≡ cell) queued new_queued →
        AreGrownTo network store earlier w (cell + 1) new_infos new_supports new_queued
    grown_news is visible new_queued now_seen queues =
        let its = takes.news is in grown_taken its.0 its.1 new_infos new_supports its.2 visible new_queued now_seen queues

-- ---- the end

-- when all cells were looked at, it is found
pub all_grown : (network : Network) (store : Store) (same : kinds_of store ≡ kinds_in network) (earlier w : Premises) (infos : List Info) (supports : List Premises)
    (queued : List Bool) → AreGrownTo network store earlier w (length store.cells) infos supports queued → AreFound network store w infos supports
all_grown network store same earlier w infos supports queued grown = record {
  many = grown.many;
  as_many = grown.as_many;
  each = λ cell. elim (cases_Bool (nat_lt cell (length store.cells))) [
    | inl is ↦
        let one = grown.each cell in
        record { kind = one.kind; within = one.within; follows = one.follows; told = grown.told cell (ltb-true cell (length store.cells) is) }
    | inr not_so ↦
        let past = ltb-false cell (length store.cells) not_so in
        let cells : length infos ≡ length store.cells = grown.many ∙ sym (ap length same) ∙ length-map store.cells (λ (x : Cell). x.kind) in
        subst (λ (i : Info). IsFound network store w cell i (support_at supports cell)) (sym (get_or_past infos cell (nothing kinds.Interval) (omega (arith, past, cells))))
        (subst (λ (s : Premises). IsFound network store w cell (nothing kinds.Interval) s)
        (sym (get_or_past supports cell empty (omega (arith, past, cells, grown.as_many))))
        (past_found network store same w cell past))
  ];
}
