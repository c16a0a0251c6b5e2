-- What is known beside the store after a fact that an instance made was taken in.
use Rattle.std.proofs.Common.{◌≡◌, ◌≢◌, ℕ, ◌+◌, ◌*◌, ◌<◌, ◌≤◌, Bool, true, false, eqb, List, All, Contains, length, map, refl, sym, ap, ◌∙◌, subst, arith, mul-le-mul_right, inl, inr}
use Rattle.std.specs.FinSet.{empty, is_subset, union}
use Rattle.std.proofs.lemmas.Bool.{cases_Bool, eqb-false, eqb-true}
use Rattle.std.proofs.lemmas.List.{get_or_default, get_or-set_same, get_or-set_other, length-set}
use Rattle.std.proofs.lemmas.List.Elements.{All-contains, All-weaker}
use Rattle.pw_kinds.proofs.Order.{true_both}
use Rattle.pw_info.specs.declared.kind.Kind.{Kind}
use Rattle.pw_info.specs.declared.kind.Kind.TheVariants as kinds
use Rattle.pw_info.specs.declared.info.Info.{Info}
use Rattle.pw_info.specs.Information.{allows, kind_of, meet, nothing, Implies}
use Rattle.pw_info.specs.Rank.{rank_of}
use Rattle.pw_info.proofs.Informations.{allows-meet, implied_from_meet, kind-meet}
use Rattle.pw_info.proofs.Ranks.{rank_gain}
use Rattle.pw_cells.proofs.Together.{meet_first}
use Rattle.pw_premises.specs.Premises.{Premises}
use Rattle.pw_premises.specs.PremiseSubsets.{is_subset_trans, union_is_subset}
use Rattle.pw_procs.specs.Procedure.{Procedure, value_by}
use Rattle.pw_facts.specs.declared.fact.Fact.{Fact}
use Rattle.pw_facts.specs.Facts.{IsLeastAbove}
use Rattle.pw_cells.specs.Cells.{Store, kinds_of}
use Rattle.pw_network.specs.Network.{Attached, IsWellNetwork, Network}
use Rattle.pw_network.specs.Readers.{reads, readers_of}
use Rattle.pw_settle.specs.Calls.{is_instance_visible, is_set, reader_count, visible_at}
use Rattle.pw_settle.specs.Settled.{info_at, support_at}
use Rattle.pw_settle.specs.Sources.{IsImplied, said_by}
use Rattle.pw_settle.specs.Values.{IsSatisfied, attached_no, kinds_in, numbered, propagators_of, told_sources, value_in, visible_instances}
use Rattle.pw_settle.specs.Growth.{RestOnUpstreamAfter}
use Rattle.pw_settle.specs.Sound.{IsSound, LiesUpstream}
use Rattle.pw_settle.specs.inside.Aside.{AreFound, IsFound, SaysMore, weight_of}
use Rattle.pw_settle.specs.inside.Known.{IsPlaced, TakesIn}
use Rattle.pw_settle.specs.inside.Progress.{AreOthersSatisfied, AreSatisfied, IsNews}
use Rattle.pw_settle.proofs.AsideStarts.{together_follows}
use Rattle.pw_settle.proofs.JoinedSupports.{joined_parts, joined_within}
use Rattle.pw_settle.proofs.KeptFacts.{by_cell, kind-in_value, kind_there}
use Rattle.pw_settle.proofs.KeptNews.{both_lie, kinds_mapped, lies, value_more}
use Rattle.pw_settle.proofs.KeptProgress.{no_instance, reader_listed, still_satisfied, unread, visible_below, visible_no}
use Rattle.pw_settle.proofs.PlacedInstances.{accepted, all_sources, kind-info_at, the_source}
use Rattle.pw_settle.proofs.SettledValues.{all_placed, says}
use Rattle.pw_settle.proofs.SourceLists.{all_after}
use Rattle.pw_settle.proofs.SumsBelow.{sum_falls}
use Rattle.pw_settle.proofs.ValueGrows.{seen_source}

-- the value of the output of a visible instance says what its procedure makes of the values of its
-- inputs
pub value_says : (network : Network) (well : IsWellNetwork network) (store : Store) → kinds_of store ≡ kinds_in network → (w : Premises) (a : Attached) →
    Contains network.attached a → is_instance_visible w a ≡ true → (placed : IsPlaced network.declared.procedures (kinds_in network) a.instance) →
    Implies (value_in network store w a.instance.output)
    (value_by (accepted network.declared.procedures (kinds_in network) a.instance placed).0 (map (λ c. value_in network store w c) a.instance.inputs))
value_says network well store same w a there seen placed =
    let value : ℕ → Info = λ c. value_in network store w c in
    the_source network.declared.procedures (kinds_in network) a.instance placed (IsImplied value)
    (seen_source network.declared.procedures (IsImplied value) w a network.attached
    (all_after (IsImplied value) (told_sources store w (length (kinds_in network)))
    (propagators_of network.declared.procedures (visible_instances network.attached w)) (says network store w same (all_placed network well)))
    there seen)

-- informations in two lists that are of the kinds of the cells are of one kind
pub output_kinds : (network : Network) (infos others : List Info) → map kind_of infos ≡ kinds_in network → map kind_of others ≡ kinds_in network → (cell : ℕ) →
    kind_of (info_at infos cell) ≡ kind_of (info_at others cell)
output_kinds network infos others same also cell =
    kind-info_at infos cell ∙ ap (λ (ks : List Kind). (numbered ks).kind cell) (same ∙ sym also) ∙ sym (kind-info_at others cell)

-- a procedure makes no less of values that say no less than what is known
pub value_says_more : (network : Network) (store : Store) (same : kinds_of store ≡ kinds_in network) (w v : Premises) (infos : List Info) (supports : List Premises) →
    AreFound network store w infos supports → (procedure : Procedure) (inputs : List ℕ) →
    All (λ c. Implies (value_in network store v c) (info_at infos c)) inputs →
    Implies (value_by procedure (map (λ c. value_in network store v c) inputs)) (value_by procedure (map (info_at infos) inputs))
value_says_more network store same w v infos supports found procedure inputs more =
    value_more procedure (λ c. value_in network store v c) (info_at infos) inputs
    (kinds_mapped (λ c. value_in network store v c) store (kind-in_value network store same v) inputs
    ∙ sym (kinds_mapped (info_at infos) store (λ c. (found.each c).kind ∙ sym (kind_there network store same c)) inputs)) more

-- what there is after a call that made news: it is found, no less is known, it rests on premises
-- upstream if that did, what is not queued is satisfied, and less may still be found out
pub record IsAfterAside (network : Network) (store : Store) (w : Premises) (infos new_infos : List Info) (supports new_supports : List Premises) (number cell : ℕ)
    : Type 0 where
  pub found : AreFound network store w new_infos new_supports
  pub more : SaysMore infos new_infos supports new_supports
  pub lie : RestOnUpstreamAfter network supports store new_supports
  pub satisfied : (queued new_queued : List Bool) → AreOthersSatisfied network w (info_at infos) queued number →
      ((n : ℕ) → Contains (readers_of network cell) n → visible_at network w n ≡ true → is_set new_queued n ≡ true) →
      ((n : ℕ) → is_set queued n ≡ true → is_set new_queued n ≡ true) →
      AreSatisfied network w (info_at new_infos) new_queued
  pub weight_is : weight_of network w new_infos + reader_count network w cell ≤ weight_of network w infos

module _ (network : Network) (well : IsWellNetwork network) (store : Store) (same : kinds_of store ≡ kinds_in network) (w : Premises)
    (infos : List Info) (supports : List Premises) (found : AreFound network store w infos supports)
    (number : ℕ) (visible : visible_at network w number ≡ true) (cell : ℕ) (fact : Fact)
    (is : IsNews network infos supports (attached_no network number no_instance) cell fact)
    (below : cell < length infos) (kind : kind_of fact.info ≡ kind_of (info_at infos cell))
    (new_infos : List Info) (new_supports : List Premises) (takes : TakesIn cell fact infos new_infos supports new_supports) where
  abbrev a : Attached
  a = attached_no network number no_instance

  low : number < length network.attached
  low = visible_below network w number visible

  there : Contains network.attached a
  there = (number, low, get_or_default network.attached number a no_instance low)

  seen : is_instance_visible w a ≡ true
  seen = visible_no network w number no_instance low ∙ visible

  abbrev before : Info
  before = info_at infos cell

  abbrev after : Info
  after = meet before fact.info

  abbrev procedures : List Procedure
  procedures = network.declared.procedures

  placed : IsPlaced procedures (kinds_in network) a.instance
  placed = All-contains (λ (b : Attached). IsPlaced procedures (kinds_in network) b.instance) network.attached a (all_placed network well) there

  abbrev procedure : Procedure
  procedure = (accepted procedures (kinds_in network) a.instance placed).0

  -- what its procedure says is the fact's information
  said : value_by procedure (map (info_at infos) a.instance.inputs) ≡ fact.info
  said = the_source procedures (kinds_in network) a.instance placed (λ source. said_by (info_at infos) source ≡ fact.info) is.says

  -- in a worldview that has the fact's premises the instance is visible, and the values of the
  -- inputs say what is known of them
  parts : (v : Premises) → is_subset fact.support v ≡ true →
      (is_subset a.support v ≡ true) × All (λ c. is_subset (support_at supports c) v ≡ true) a.instance.inputs
  parts v inside = joined_parts supports v a.support a.instance.inputs (subst (λ (p : Premises). is_subset p v ≡ true) is.rests inside)

  -- so the fact follows
  news_follows : IsSound network store → IsLeastAbove fact.support (λ v. value_in network store v cell) fact.info
  news_follows sound v inside u possible =
      let shown = parts v inside in
      let more : All (λ c. Implies (value_in network store v c) (info_at infos c)) a.instance.inputs =
      All-weaker (λ c. is_subset (support_at supports c) v ≡ true) (λ c. Implies (value_in network store v c) (info_at infos c))
      (λ c has. (found.each c).follows sound v has) a.instance.inputs shown.1 in
      subst (λ (i : Info). allows i u ≡ true) said
      (value_says_more network store same w v infos supports found procedure a.instance.inputs more u
      (value_says network well store same v a there shown.0 placed u
      (subst (λ (c : ℕ). allows (value_in network store v c) u ≡ true) is.output possible)))

  news_within : is_subset fact.support w ≡ true
  news_within =
      subst (λ (p : Premises). is_subset p w ≡ true) (sym is.rests)
      (joined_within supports w a.support a.instance.inputs seen (λ c. (found.each c).within))

  -- ---- what is known now

  info_here : info_at new_infos cell ≡ after
  info_here = ap (λ (l : List Info). info_at l cell) takes.infos_are ∙ get_or-set_same infos cell after (nothing kinds.Interval) below

  info_elsewhere : (c : ℕ) → c ≢ cell → info_at new_infos c ≡ info_at infos c
  info_elsewhere c other = ap (λ (l : List Info). info_at l c) takes.infos_are ∙ get_or-set_other infos cell c after (nothing kinds.Interval) other

  support_elsewhere : (c : ℕ) → c ≢ cell → support_at new_supports c ≡ support_at supports c
  support_elsewhere c other =
      ap (λ (l : List Premises). support_at l c) takes.supports_are
      ∙ get_or-set_other supports cell c (support_at new_supports cell) empty other

  many_still : length new_infos ≡ length infos
  many_still = ap length takes.infos_are ∙ length-set infos cell after

  abbrev its : Fact
  its = record { info = before; support = support_at supports cell }

  found_here : IsFound network store w cell after (support_at new_supports cell)
  found_here = record {
    kind = kind-meet before fact.info ∙ (found.each cell).kind;
    within = is_subset_trans (support_at new_supports cell) (union (support_at supports cell) fact.support) w takes.rests
        (union_is_subset (support_at supports cell) fact.support w (found.each cell).within news_within);
    follows = λ sound. together_follows network store cell its fact (record { info = after; support = support_at new_supports cell })
        (found.each cell).kind (kind ∙ (found.each cell).kind) ((found.each cell).follows sound) (news_follows sound) takes.together;
    told = λ u possible. (found.each cell).told u (meet_first before fact.info (sym kind) u possible);
  }

  pub found_news : AreFound network store w new_infos new_supports
  found_news = record {
    many = many_still ∙ found.many;
    as_many = ap length takes.supports_are ∙ length-set supports cell (support_at new_supports cell) ∙ found.as_many ∙ sym many_still;
    each = by_cell (λ c. IsFound network store w c (info_at new_infos c) (support_at new_supports c)) cell
        (subst (λ (i : Info). IsFound network store w cell i (support_at new_supports cell)) (sym info_here) found_here)
        (λ c other. subst (λ (i : Info). IsFound network store w c i (support_at new_supports c)) (sym (info_elsewhere c other))
        (subst (λ (p : Premises). IsFound network store w c (info_at infos c) p) (sym (support_elsewhere c other)) (found.each c)));
  }

  -- no less is known
  more_known : (c : ℕ) → Implies (info_at new_infos c) (info_at infos c)
  more_known = by_cell (λ c. Implies (info_at new_infos c) (info_at infos c)) cell
      (λ u possible. meet_first before fact.info (sym kind) u (subst (λ (i : Info). allows i u ≡ true) info_here possible))
      (λ c other u possible. subst (λ (i : Info). allows i u ≡ true) (info_elsewhere c other) possible)

  -- the merge says what the fact says
  merge_says : Implies after fact.info
  merge_says v possible = (true_both (allows before v) (allows fact.info v) (sym (allows-meet before fact.info (sym kind) v) ∙ possible)).1

  -- and of the cell more is known
  says_more : SaysMore infos new_infos supports new_supports
  says_more = record {
    more = more_known;
    same = by_cell (λ c. Implies (info_at infos c) (info_at new_infos c) → support_at new_supports c ≡ support_at supports c) cell
        (λ no_more. absurd (is.new (λ u possible. merge_says u (subst (λ (i : Info). allows i u ≡ true) info_here (no_more u possible)))))
        (λ c other no_more. support_elsewhere c other);
  }

  -- its premises lie upstream, if those at hand do
  lie_news : RestOnUpstreamAfter network supports store new_supports
  lie_news given rests lie =
      by_cell (λ c. LiesUpstream network given c (support_at new_supports c)) cell
      (both_lie network given cell (support_at supports cell) fact.support (support_at new_supports cell) (lie cell)
      (lies network infos supports a there cell fact is given lie) takes.rests)
      (λ c other. subst (LiesUpstream network given c) (sym (support_elsewhere c other)) (lie c))

  -- what was satisfied still is, but for the readers, which are queued
  pub satisfied_news : (queued new_queued : List Bool) → AreOthersSatisfied network w (info_at infos) queued number →
      ((n : ℕ) → Contains (readers_of network cell) n → visible_at network w n ≡ true → is_set new_queued n ≡ true) →
      ((n : ℕ) → is_set queued n ≡ true → is_set new_queued n ≡ true) →
      AreSatisfied network w (info_at new_infos) new_queued
  satisfied_news queued new_queued others_are readers stay n d down seen_n free =
      elim (cases_Bool (eqb n number)) [
        | inl called ↦
            let e : n ≡ number = eqb-true n number called in
            still (subst (λ (k : ℕ). attached_no network k d ≡ a) (sym e) (get_or_default network.attached number d no_instance low))
        | inr other ↦
            still_satisfied network well (attached_no network n d) (n, down, get_or_default network.attached n (attached_no network n d) d down)
            (info_at infos) (info_at new_infos) cell info_elsewhere more_known not_read (others_are n d down (eqb-false n number other) seen_n was_free)
      ]
    where
      not_read : reads cell (attached_no network n d) ≡ false
      not_read =
          elim (cases_Bool (reads cell (attached_no network n d))) [
            | inl reading ↦
                let set_now = readers n (reader_listed network cell n d down reading) (sym (visible_no network w n d down) ∙ seen_n) in
                absurd (cc)
            | inr not ↦ not
          ]

      was_free : is_set queued n ≡ false
      was_free =
          elim (cases_Bool (is_set queued n)) [
            | inl set_before ↦ let set_now = stay n set_before in absurd (cc)
            | inr not ↦ not
          ]

      -- the called one says what is merged now
      still : attached_no network n d ≡ a → IsSatisfied network (info_at new_infos) (attached_no network n d)
      still e =
          subst (IsSatisfied network (info_at new_infos)) (sym e)
          (all_sources procedures (kinds_in network) a.instance placed (IsImplied (info_at new_infos))
          (λ v possible. subst (λ (i : Info). allows i v ≡ true) (sym said_now)
          (merge_says v (subst (λ (i : Info). allows i v ≡ true) info_here (subst (λ (c : ℕ). allows (info_at new_infos c) v ≡ true) (sym is.output) possible)))))
        where
          said_now : value_by procedure (map (info_at new_infos) a.instance.inputs) ≡ fact.info
          said_now =
              ap (value_by procedure) (unread (info_at infos) (info_at new_infos) cell info_elsewhere a.instance.inputs
              (subst (λ (b : Attached). reads cell b ≡ false) e not_read)) ∙ said

  -- what may still be found out is less, by the readers at least
  pub weight_falls : weight_of network w new_infos + reader_count network w cell ≤ weight_of network w infos
  weight_falls =
      let fall = sum_falls (length infos) (λ c. rank_of (info_at infos c) * reader_count network w c) (λ c. rank_of (info_at new_infos c) * reader_count network w c)
      cell (reader_count network w cell) below here
      (λ c down other. ap (λ (i : Info). rank_of i * reader_count network w c) (info_elsewhere c other)) in
      rw many_still fall
    where
      fallen : rank_of after < rank_of before
      fallen = elim (rank_gain after before (kind-meet before fact.info) (meet_first before fact.info (sym kind))) [
        | inl stayed ↦ absurd (is.new (implied_from_meet before fact.info (sym kind) stayed))
        | inr less ↦ less
      ]

      here : rank_of (info_at new_infos cell) * reader_count network w cell + reader_count network w cell ≤ rank_of (info_at infos cell) * reader_count network w cell
      here =
          let now = ap rank_of info_here in
          let more : rank_of (info_at new_infos cell) + 1 ≤ rank_of (info_at infos cell) = omega (arith, fallen, now) in
          omega (arith, mul-le-mul_right (reader_count network w cell) more)

  pub after_aside : IsAfterAside network store w infos new_infos supports new_supports number cell
  after_aside = record { found = found_news; more = says_more; lie = lie_news; satisfied = satisfied_news; weight_is = weight_falls }

-- where nothing is taken in, no less is known
pub says_same : (infos : List Info) (supports : List Premises) → SaysMore infos infos supports supports
says_same infos supports = record { more = λ c u possible. possible; same = λ c no_more. refl }

-- and one step follows on another
pub says_then : (infos now then : List Info) (supports supports_now supports_then : List Premises) → SaysMore infos now supports supports_now →
    SaysMore now then supports_now supports_then → SaysMore infos then supports supports_then
says_then infos now then supports supports_now supports_then first second = record {
  more = λ c u possible. first.more c u (second.more c u possible);
  same = λ c no_more.
      second.same c (λ u possible. no_more u (first.more c u possible)) ∙ first.same c (λ u possible. second.more c u (no_more u possible));
}
