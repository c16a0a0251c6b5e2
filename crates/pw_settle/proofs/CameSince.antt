-- What came since an earlier settling is taken in, one fact after another: what is known then is what
-- is kept.
use Rattle.std.proofs.Common.{◌≡◌, ℕ, ◌+◌, ◌<◌, ◌≤◌, Bool, true, false, eqb, List, All, Contains, length, get_or, sym, ap, ◌∙◌, subst, arith, inl, inr}
use Rattle.std.specs.Prelude.{nat_lt, Some, None, drop, if◌then◌else◌, ◌-◌, IfOk, Result, Ok, Err}
use Rattle.std.specs.FinSet.{contains, contains-empty, empty, is_subset}
use Rattle.std.specs.Ordering.{nat_cmp}
use Rattle.std.proofs.lemmas.Bool.{cases_Bool, eqb-false, eqb-true, ltb-false, ltb-true}
use Rattle.std.proofs.lemmas.List.{get_or_default, get_or_past}
use Rattle.std.proofs.lemmas.List.Elements.{All-contains, All-drop}
use Rattle.std.proofs.lemmas.Option.{none-some}
use Rattle.pw_decl.proofs.KeptLemmas.{some_is}
use Rattle.pw_info.specs.declared.kind.Kind.TheVariants as kinds
use Rattle.pw_info.specs.declared.info.Info.{Info}
use Rattle.pw_info.specs.Information.{allows, kind_of, nothing, Implies}
use Rattle.pw_premises.specs.Premises.{Premises}
use Rattle.pw_facts.specs.declared.fact.Fact.{Fact}
use Rattle.pw_facts.specs.Facts.{shows}
use Rattle.pw_facts.proofs.Shown.{implies_same, shows-supported}
use Rattle.pw_cells.specs.declared.arrival.Arrival.{Arrival}
use Rattle.pw_cells.specs.Arrivals.{IsKept, since}
use Rattle.pw_cells.specs.Cells.{Store, kept_at, kept_in, kind_in_store}
use Rattle.pw_network.specs.Network.{Network}
use Rattle.pw_settle.specs.Growth.{CanContinue, RestOnUpstreamAfter}
use Rattle.pw_settle.specs.Settled.{Settled, info_at, support_at}
use Rattle.pw_settle.specs.Sound.{LiesUpstream, RestsUpstream}
use Rattle.pw_settle.specs.inside.Known.{AreKept, SaysTold}
use Rattle.pw_settle.specs.inside.Since.{AreReadTo, IsKnown, IsNewHere}
use Rattle.pw_settle.proofs.KeptFacts.{implies_also, implies_shown}
use Rattle.pw_settle.proofs.KnownParts.{AreParts, IsPart, no_less, parts_kept, parts_taken, upstream_taken}
use Rattle.pw_settle.proofs.TakenNews.{news_known}

-- so far the facts of the list from this place on were taken in
pub record AreTakenIn (store : Store) (before : Settled) (list : List Arrival) (left : ℕ) (infos : List Info) (supports : List Premises) : Type 0 where
  pub parts : AreParts store before.worldview infos supports
  pub more : (cell : ℕ) → cell < length before.infos → Implies (info_at infos cell) (info_at before.infos cell)
  pub new : (cell : ℕ) → length before.infos ≤ cell → cell < length store.cells → Implies (info_at infos cell) (kept_in store cell before.worldview)
  pub came : (k : ℕ) (d : Arrival) → left ≤ k → k < length list →
      Implies (info_at infos (get_or list k d).cell) (shows before.worldview (get_or list k d).fact)
  pub upstream : (network : Network) → RestOnUpstreamAfter network before.supports store supports

-- ---- one fact

module _ (infos : List Info) (supports : List Premises) (w : Premises) (cell : ℕ) (fact : Fact)
    (kind : kind_of fact.info ≡ kind_of (info_at infos cell)) where
  -- the fact is not shown in the worldview
  pub known_hidden : is_subset fact.support w ≡ false → IsKnown cell fact w infos infos supports supports
  known_hidden hidden = record {
    says = implies_shown (info_at infos cell) fact w (sym kind) (λ shown. absurd (cc));
    infos_stay = λ _. infos;
    supports_stay = λ _. supports;
  }

  -- or what it says is known
  pub known_said : Implies (info_at infos cell) fact.info → IsKnown cell fact w infos infos supports supports
  known_said said = record {
    says = implies_shown (info_at infos cell) fact w (sym kind) (λ shown. said);
    infos_stay = λ _. infos;
    supports_stay = λ _. supports;
  }

-- what is read of a cell
pub read_is : (infos : List Info) (cell place : ℕ) (read : Info) → place ≡ cell → cell < length infos → read ≡ get_or infos place read → read ≡ info_at infos cell
read_is infos cell place read at below is =
    is ∙ ap (λ (n : ℕ). get_or infos n read) at ∙ get_or_default infos cell read (nothing kinds.Interval) below

-- ---- the start

module _ (store : Store) (before : Settled) (continues : CanContinue store before)
    (kinds_are : (cell : ℕ) → cell < length before.infos → kind_of (info_at before.infos cell) ≡ kind_in_store store cell)
    (infos : List Info) (supports : List Premises)
    (read : AreReadTo store before.worldview (length store.cells) before.infos infos before.supports supports) where
  abbrev w : Premises
  w = before.worldview

  first_each : (cell : ℕ) → cell < length store.cells → IsPart store w cell (info_at infos cell) (support_at supports cell)
  first_each cell there =
      elim (cases_Bool (nat_lt cell (length before.infos))) [
        | inl is ↦
            let below = ltb-true cell (length before.infos) is in
            subst (λ (i : Info). IsPart store w cell i (support_at supports cell)) (sym (read.infos_stay cell below))
            (subst (λ (s : Premises). IsPart store w cell (info_at before.infos cell) s) (sym (read.supports_stay cell below))
            (record { kind = kinds_are cell below; within = continues.within cell; enough = continues.enough cell below }))
        | inr not ↦
            let kept = read.read cell (ltb-false cell (length before.infos) not) there in
            record { kind = kept.kind; within = kept.within; enough = kept.larger }
      ]

  first_upstream : (network : Network) → RestOnUpstreamAfter network before.supports store supports
  first_upstream network given rests lie cell =
      elim (cases_Bool (nat_lt cell (length before.infos))) [
        | inl is ↦
            subst (λ (s : Premises). LiesUpstream network given cell s) (sym (read.supports_stay cell (ltb-true cell (length before.infos) is))) (lie cell)
        | inr not ↦ elim (cases_Bool (nat_lt cell (length store.cells))) [
          | inl is ↦
              λ cells upstream has p one.
              let fact = (read.read cell (ltb-false cell (length before.infos) not) (ltb-true cell (length store.cells) is)).rests p one in
              All-contains (λ (f : Fact). LiesUpstream network given cell f.support) (kept_at store cell) fact.0 (rests.kept cell) fact.1 cells upstream has p fact.2
          | inr past ↦
              λ cells upstream has p one.
              let out : support_at supports cell ≡ empty =
              get_or_past supports cell empty (omega (arith, ltb-false cell (length store.cells) past, read.as_many)) in
              let none : contains (support_at supports cell) p ≡ false = ap (λ (s : Premises). contains s p) out ∙ contains-empty nat_cmp p in
              absurd (cc)
        ]
      ]

  -- at first none of the facts was
  pub taken_none : (list : List Arrival) → AreTakenIn store before list (length list) infos supports
  taken_none list = record {
    parts = record { many = read.many; as_many = read.as_many ∙ sym read.many; each = first_each };
    more = λ cell below. implies_same (info_at infos cell) (info_at before.infos cell) (read.infos_stay cell below);
    new = λ cell past there. implies_same (info_at infos cell) (kept_in store cell w) (read.read cell past there).info;
    came = λ k d least within. absurd (omega (arith, least, within));
    upstream = first_upstream;
  }

  -- what is kept says at least what was told
  pub told_since : SaysTold store w
  told_since cell there =
      elim (cases_Bool (nat_lt cell (length before.infos))) [
        | inl is ↦ continues.accounted.told cell (ltb-true cell (length before.infos) is)
        | inr not ↦
            let kept = read.read cell (ltb-false cell (length before.infos) not) there in
            λ v possible. kept.told v (subst (λ (i : Info). allows i v ≡ true) (sym kept.info) possible)
      ]

-- ---- one fact more

module _ (store : Store) (before : Settled) (list : List Arrival) (place : ℕ) (infos : List Info) (supports : List Premises)
    (taken : AreTakenIn store before list (place + 1) infos supports) (a : Arrival)
    (is : (d : Arrival) → get_or list place d ≡ a) (kept : IsKept store a) where
  pub cell_known : a.cell < length infos
  cell_known = omega (arith, kept.there, taken.parts.many)

  pub kind_known : kind_of a.fact.info ≡ kind_of (info_at infos a.cell)
  kind_known = kept.kind ∙ sym (taken.parts.each a.cell kept.there).kind

  -- what is known says what this fact shows
  came_more : (new_infos : List Info) → ((c : ℕ) → Implies (info_at new_infos c) (info_at infos c)) → Implies (info_at new_infos a.cell) (shows before.worldview a.fact) →
      (k : ℕ) (d : Arrival) → place ≤ k → k < length list →
      Implies (info_at new_infos (get_or list k d).cell) (shows before.worldview (get_or list k d).fact)
  came_more new_infos no_less says k d least within =
      elim (cases_Bool (eqb k place)) [
        | inl same ↦
            subst (λ (x : Arrival). Implies (info_at new_infos x.cell) (shows before.worldview x.fact)) (sym (ap (λ (n : ℕ). get_or list n d) (eqb-true k place same) ∙ is d)) says
        | inr other ↦
            λ u possible. taken.came k d (omega (arith, least, eqb-false k place other)) within u (no_less (get_or list k d).cell u possible)
      ]

  pub taken_known : (new_infos : List Info) (new_supports : List Premises) → IsKnown a.cell a.fact before.worldview infos new_infos supports new_supports →
      AreTakenIn store before list place new_infos new_supports
  taken_known new_infos new_supports known = rw (known.infos_stay, known.supports_stay) (record {
    parts = taken.parts;
    more = taken.more;
    new = taken.new;
    came = came_more infos (λ c u possible. possible) known.says;
    upstream = taken.upstream;
  })

  module _ (upstream : (network : Network) (given : ℕ → ℕ → Bool) → RestsUpstream network given store → LiesUpstream network given a.cell a.fact.support)
      (new_infos : List Info) (new_supports : List Premises) (news : IsNewHere a.cell a.fact before.worldview infos new_infos supports new_supports) where
    still : (c : ℕ) → Implies (info_at new_infos c) (info_at infos c)
    still = no_less store before.worldview infos supports taken.parts a.cell kept.there a.fact kept.kind news.within kept.says new_infos new_supports news.taken

    pub taken_new : AreTakenIn store before list place new_infos new_supports
    taken_new = record {
      parts = parts_taken store before.worldview infos supports taken.parts a.cell kept.there a.fact kept.kind news.within kept.says new_infos new_supports news.taken;
      more = λ cell below u possible. taken.more cell below u (still cell u possible);
      new = λ cell past there u possible. taken.new cell past there u (still cell u possible);
      came = came_more new_infos still
          (implies_also (info_at new_infos a.cell) a.fact.info (shows before.worldview a.fact) (sym (shows-supported before.worldview a.fact news.within))
          (news_known a.cell a.fact infos new_infos supports new_supports news.taken cell_known (sym kind_known)));
      upstream = λ network. upstream_taken store before.worldview infos supports taken.parts a.cell kept.there a.fact kept.kind news.within kept.says
          new_infos new_supports news.taken network before.supports (upstream network) (taken.upstream network);
    }

-- ---- the end

module _ (store : Store) (before : Settled) (continues : CanContinue store before) (list : List Arrival) (is : since store before.mark ≡ Some list)
    (infos : List Info) (supports : List Premises) (taken : AreTakenIn store before list 0 infos supports) where
  -- what is known says all that is kept
  says_kept : (cell : ℕ) → cell < length store.cells → Implies (info_at infos cell) (kept_in store cell before.worldview)
  says_kept cell there =
      elim (cases_Bool (nat_lt cell (length before.infos))) [
        | inl below ↦
            continues.accounted.all list is cell (ltb-true cell (length before.infos) below) (info_at infos cell) (taken.parts.each cell there).kind
            (taken.more cell (ltb-true cell (length before.infos) below))
            (λ k d within same. subst (λ (c : ℕ). Implies (info_at infos c) (shows before.worldview (get_or list k d).fact)) same
            (taken.came k d (omega arith) within))
        | inr not ↦ taken.new cell (ltb-false cell (length before.infos) not) there
      ]

  -- so it is that
  pub taken_kept : AreKept store before.worldview infos supports
  taken_kept = parts_kept store before.worldview infos supports taken.parts says_kept

-- ---- what came

module _ (store : Store) (mark : ℕ) (list : List Arrival) (is : since store mark ≡ Some list) where
  -- what came since a mark is among what is remembered
  since_is : list ≡ drop (mark - store.arrivals.past) store.arrivals.list
  since_is =
      elim (cases_Bool (nat_lt mark store.arrivals.past)) [
        | inl before ↦
            absurd (none-some list (sym (ap (λ (b : Bool). if b then None else Some (drop (mark - store.arrivals.past) store.arrivals.list)) before) ∙ is))
        | inr not ↦
            some_is list (drop (mark - store.arrivals.past) store.arrivals.list)
            (sym is ∙ ap (λ (b : Bool). if b then None else Some (drop (mark - store.arrivals.past) store.arrivals.list)) not)
      ]

  pub came_upstream : (network : Network) (given : ℕ → ℕ → Bool) → RestsUpstream network given store → (a : Arrival) → Contains list a →
      LiesUpstream network given a.cell a.fact.support
  came_upstream network given rests a among =
      All-contains (λ (b : Arrival). LiesUpstream network given b.cell b.fact.support) list a
      (subst (All (λ (b : Arrival). LiesUpstream network given b.cell b.fact.support)) (sym since_is)
      (All-drop (λ (b : Arrival). LiesUpstream network given b.cell b.fact.support) (mark - store.arrivals.past) store.arrivals.list rests.lately)) among

-- what a thing of a result comes to comes of the result
pub ok_also : {T E : Type 0} (r : Result T E) (P Q : T → Type 0) → ((t : T) → P t → Q t) → IfOk r P → IfOk r Q
ok_also (Ok t) P Q step p = step t p
ok_also (Err e) P Q step p = p
