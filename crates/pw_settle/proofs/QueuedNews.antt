-- The agenda while what came since an earlier settling is taken in: the readers of the cells are queued
-- of which more is known than was found then.
use Rattle.std.proofs.Common.{◌≡◌, ◌≢◌, ◌⊎◌, ℕ, ◌+◌, ◌<◌, ◌≤◌, Bool, true, false, eqb, List, length, get_or, take, refl, sym, ap, ◌∙◌, subst, arith, inl, inr}
use Rattle.std.specs.Prelude.{◌↔◌, IsTrue, nat_lt, slice_index_or}
use Rattle.std.proofs.lemmas.Bool.{cases_Bool, eqb-false, eqb-true, ltb-false, ltb-true}
use Rattle.std.proofs.lemmas.List.{get_or-take, get_or_default, get_or_past}
use Rattle.pw_kinds.proofs.Order.{not_both}
use Rattle.pw_info.specs.declared.kind.Kind.{Kind}
use Rattle.pw_info.specs.declared.kind.Kind.TheVariants as kinds
use Rattle.pw_info.specs.declared.info.Info.{Info}
use Rattle.pw_info.specs.Information.{allows, kind_of, nothing, Implies, IsNothing}
use Rattle.pw_info.proofs.Informations.{Implies-antisym, implies_nothing, is_nothing-nothing, kind-closest, nothing_is}
use Rattle.pw_premises.specs.Premises.{Premises}
use Rattle.pw_facts.specs.declared.fact.Fact.{Fact}
use Rattle.pw_facts.proofs.Shown.{implies_same}
use Rattle.pw_cells.specs.declared.arrival.Arrival.{Arrival}
use Rattle.pw_cells.specs.Arrivals.{IsKept}
use Rattle.pw_cells.specs.Cells.{Store, IsUnsaid, kind_in_store}
use Rattle.pw_network.specs.Network.{Network}
use Rattle.pw_settle.specs.Settled.{Settled, info_at}
use Rattle.pw_settle.specs.inside.Queueing.{HasChanged, QueuesReaders, found_of}
use Rattle.pw_settle.specs.inside.Known.{TakesIn}
use Rattle.pw_settle.specs.Sound.{LiesUpstream, RestsUpstream}
use Rattle.pw_settle.specs.inside.Since.{IsKnown, IsNewHere, QueuesChanged}
use Rattle.pw_settle.proofs.CameSince.{AreTakenIn, taken_known, taken_new}
use Rattle.pw_settle.proofs.KnownParts.{AreParts}
use Rattle.pw_settle.proofs.NewInstances.{none_changed}
use Rattle.pw_settle.proofs.TakenNews.{info_elsewhere, more_known, news_known}

-- ---- cells that came since

module _ (before now : List Info) (cell : ℕ) where
  found_past : length before ≤ cell → found_of before now cell ≡ nothing (kind_of (info_at now cell))
  found_past past = get_or_past before cell (nothing (kind_of (info_at now cell))) past

  -- of one that came since, nothing is known
  pub nothing_unchanged : length before ≤ cell → info_at now cell ≡ nothing (kind_of (info_at now cell)) → HasChanged before now cell → ⊥
  nothing_unchanged past none has = has (implies_same (found_of before now cell) (info_at now cell) (found_past past ∙ sym none))

  -- or something is
  pub something_changed : length before ≤ cell → (info_at now cell ≡ nothing (kind_of (info_at now cell)) → ⊥) → HasChanged before now cell
  something_changed past some implies =
      some (Implies-antisym (info_at now cell) (nothing (kind_of (info_at now cell))) (sym (kind-closest (kind_of (info_at now cell)) (λ v. true)))
      (implies_nothing (info_at now cell) (kind_of (info_at now cell)) refl)
      (subst (λ (i : Info). Implies i (info_at now cell)) (found_past past) implies))

-- as the test says that is made of it
module _ (before now : List Info) (cell : ℕ) (item : Info) (is : item ≡ get_or now cell item) (there : cell < length now) (past : length before ≤ cell)
    (flag : Bool) (says : IsTrue flag ↔ IsNothing item) where
  item_read : item ≡ info_at now cell
  item_read = is ∙ get_or_default now cell item (nothing kinds.Interval) there

  pub flagged_unchanged : flag ≡ true → HasChanged before now cell → ⊥
  flagged_unchanged set = nothing_unchanged before now cell past (subst (λ (i : Info). i ≡ nothing (kind_of i)) item_read (nothing_is item (says.0 set)))

  pub unflagged_changed : flag ≡ false → HasChanged before now cell
  unflagged_changed clear =
      something_changed before now cell past
      (λ none. not_both flag (says.1 (subst IsNothing (sym (item_read ∙ none)) (is_nothing-nothing (kind_of (info_at now cell))))) clear)

-- of the first cells of a list, the list says the same
pub first_unchanged : (now : List Info) (first cell : ℕ) → first ≤ length now → cell < first → HasChanged (take first now) now cell → ⊥
first_unchanged now first cell within below has =
    has (implies_same (found_of (take first now) now cell) (info_at now cell)
    (get_or-take first now cell (nothing (kind_of (info_at now cell))) below
    ∙ get_or_default now cell (nothing (kind_of (info_at now cell))) (nothing kinds.Interval) (omega (arith, below, within))))

-- so at first, where what is known is what was found, no cell has changed
pub none_at_first : (network : Network) (visible : List Bool) (infos : List Info) (queued : List Bool) → QueuesChanged network visible infos infos queued queued
none_at_first network visible infos queued =
    none_changed network visible queued infos infos (length infos)
    (λ cell below has. has (implies_same (found_of infos infos cell) (info_at infos cell)
    (get_or_default infos cell (nothing (kind_of (info_at infos cell))) (nothing kinds.Interval) below)))

-- ---- one fact more

module _ (network : Network) (visible first queued new_queued : List Bool) (store : Store) (w : Premises) (found infos : List Info) (supports : List Premises)
    (parts : AreParts store w infos supports) (more : (c : ℕ) → c < length found → Implies (info_at infos c) (info_at found c))
    (cell : ℕ) (there : cell < length store.cells) (fact : Fact) (kind : kind_of fact.info ≡ kind_in_store store cell)
    (unsaid : IsUnsaid (info_at infos cell) fact.info)
    (new_infos : List Info) (new_supports : List Premises) (takes : TakesIn cell fact infos new_infos supports new_supports)
    (parts_now : AreParts store w new_infos new_supports) where
  listed : cell < length infos
  listed = omega (arith, there, parts.many)

  alike : kind_of (info_at infos cell) ≡ kind_of fact.info
  alike = (parts.each cell there).kind ∙ sym kind

  no_less : (c : ℕ) → Implies (info_at new_infos c) (info_at infos c)
  no_less = more_known cell fact infos new_infos supports new_supports takes listed alike

  -- what was found is of the kind of the cell then and now
  same_found : (c : ℕ) → c < length store.cells → found_of found new_infos c ≡ found_of found infos c
  same_found c below =
      ap (λ (k : Kind). slice_index_or found c (nothing k)) ((parts_now.each c below).kind ∙ sym (parts.each c below).kind)

  -- what had changed has
  still_changed : (c : ℕ) → c < length store.cells → HasChanged found infos c → HasChanged found new_infos c
  still_changed c below has implies =
      has (λ u possible. no_less c u (implies u (subst (λ (i : Info). allows i u ≡ true) (sym (same_found c below)) possible)))

  -- no other cell changes
  changed_elsewhere : (c : ℕ) → c ≢ cell → HasChanged found new_infos c → HasChanged found infos c
  changed_elsewhere c other has =
      subst (λ (i : Info). Implies (slice_index_or found c (nothing (kind_of i))) i → ⊥)
      (info_elsewhere cell fact infos new_infos supports new_supports takes c other) has

  -- what is known says what was found
  says_found : Implies (info_at infos cell) (found_of found infos cell)
  says_found =
      elim (cases_Bool (nat_lt cell (length found))) [
        | inl is_below ↦
            let below = ltb-true cell (length found) is_below in
            subst (Implies (info_at infos cell))
            (get_or_default found cell (nothing kinds.Interval) (nothing (kind_of (info_at infos cell))) below) (more cell below)
        | inr not ↦
            subst (Implies (info_at infos cell))
            (sym (get_or_past found cell (nothing (kind_of (info_at infos cell))) (ltb-false cell (length found) not)))
            (implies_nothing (info_at infos cell) (kind_of (info_at infos cell)) refl)
      ]

  -- this one has changed
  changed_here : HasChanged found new_infos cell
  changed_here implies =
      unsaid (λ u possible. news_known cell fact infos new_infos supports new_supports takes listed alike u
      (implies u (subst (λ (i : Info). allows i u ≡ true) (sym (same_found cell there)) (says_found u possible))))

  pub queued_more : QueuesChanged network visible found infos first queued → QueuesReaders network visible (λ c. c ≡ cell) queued new_queued →
      QueuesChanged network visible found new_infos first new_queued
  queued_more so_far queues = record {
    flags = queues.flags ∙ so_far.flags;
    stay = λ n flag. queues.stay n (so_far.stay n flag);
    readers = λ c n one reader seen. elim (cases_Bool (eqb c cell)) [
      | inl same ↦ queues.readers c n (eqb-true c cell same) reader seen
      | inr other ↦
          queues.stay n (so_far.readers c n (omega (arith, one.0, parts.many, parts_now.many), changed_elsewhere c (eqb-false c cell other) one.1) reader seen)
    ];
    others = λ n flag. elim (queues.others n flag) [
      | inl was ↦ elim (so_far.others n was) [
        | inl at_first ↦ inl at_first
        | inr (seen, (c, one, reader)) ↦
            inr (seen, (c, (omega (arith, one.0, parts.many, parts_now.many), still_changed c (omega (arith, one.0, parts.many)) one.1), reader))
      ]
      | inr (seen, (c, same, reader)) ↦
          inr (seen, (c, (omega (arith, same, there, parts_now.many), subst (HasChanged found new_infos) (sym same) changed_here), reader))
    ];
  }

-- one fact more was taken in, and what is known and queued is as before, or the fact is news
pub record OneTaken (network : Network) (visible : List Bool) (store : Store) (before : Settled) (list : List Arrival) (place : ℕ)
    (infos new_infos : List Info) (supports new_supports : List Premises) (queued new_queued : List Bool) : Type 0 where
  pub taken : AreTakenIn store before list place new_infos new_supports
  pub flags : length new_queued ≡ length queued
  pub queues : (first : List Bool) → QueuesChanged network visible before.infos infos first queued →
      QueuesChanged network visible before.infos new_infos first new_queued

pub one_taken : (network : Network) (visible : List Bool) (store : Store) (before : Settled) (list : List Arrival) (place : ℕ) (infos : List Info)
    (supports : List Premises) (taken : AreTakenIn store before list (place + 1) infos supports) (a : Arrival)
    (is : (d : Arrival) → get_or list place d ≡ a) (kept : IsKept store a)
    (upstream : (network : Network) (given : ℕ → ℕ → Bool) → RestsUpstream network given store → LiesUpstream network given a.cell a.fact.support)
    (new_infos : List Info) (new_supports : List Premises) (queued new_queued : List Bool) →
    (IsKnown a.cell a.fact before.worldview infos new_infos supports new_supports × (new_queued ≡ queued))
    ⊎ (IsNewHere a.cell a.fact before.worldview infos new_infos supports new_supports × QueuesReaders network visible (λ c. c ≡ a.cell) queued new_queued) →
    OneTaken network visible store before list place infos new_infos supports new_supports queued new_queued
one_taken network visible store before list place infos supports taken a is kept upstream new_infos new_supports queued new_queued (inl (known, same)) =
    record {
      taken = taken_known store before list place infos supports taken a is kept new_infos new_supports known;
      flags = ap length same;
      queues = λ first so_far. subst (QueuesChanged network visible before.infos new_infos first) (sym same)
          (subst (λ (l : List Info). QueuesChanged network visible before.infos l first queued) (sym known.infos_stay) so_far);
    }
one_taken network visible store before list place infos supports taken a is kept upstream new_infos new_supports queued new_queued (inr (news, readers)) =
    let now : AreTakenIn store before list place new_infos new_supports =
    taken_new store before list place infos supports taken a is kept upstream new_infos new_supports news in
    record {
      taken = now;
      flags = readers.flags;
      queues = λ first so_far. queued_more network visible first queued new_queued store before.worldview before.infos infos supports taken.parts taken.more
          a.cell kept.there a.fact kept.kind news.unsaid new_infos new_supports news.taken now.parts so_far readers;
    }
