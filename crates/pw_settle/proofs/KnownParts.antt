-- What is known about each cell, as a part of what is kept of it: facts that are kept are merged into
-- it, until it is all that is kept.
use Rattle.std.proofs.Common.{◌≡◌, ℕ, ◌<◌, ◌≤◌, Bool, true, false, eqb, List, length, get_or, sym, ap, ◌∙◌, subst, arith, inl, inr}
use Rattle.std.specs.Prelude.{◌↔◌, IsTrue, nat_lt}
use Rattle.std.specs.FinSet.{empty, is_subset, union}
use Rattle.std.proofs.lemmas.Bool.{cases_Bool, eqb-false, eqb-true, ltb-false, ltb-true}
use Rattle.std.proofs.lemmas.List.{get_or_default, get_or_past}
use Rattle.pw_kinds.proofs.Order.{not_both}
use Rattle.pw_info.specs.declared.kind.Kind.TheVariants as kinds
use Rattle.pw_info.specs.declared.info.Info.{Info}
use Rattle.pw_info.specs.Information.{kind_of, meet, nothing, Implies}
use Rattle.pw_info.proofs.Informations.{Implies-antisym, implies_nothing, kind-meet}
use Rattle.pw_premises.specs.Premises.{Premises}
use Rattle.pw_premises.specs.PremiseSubsets.{empty_is_subset, is_subset_trans, union_is_subset}
use Rattle.pw_facts.specs.declared.fact.Fact.{Fact}
use Rattle.pw_facts.specs.Facts.{IsLeastAbove, shows}
use Rattle.pw_facts.proofs.Shown.{kind-shows}
use Rattle.pw_cells.specs.Arrivals.{IsAccounted}
use Rattle.pw_cells.specs.Cells.{Cell, Store, IsUnsaid, kept_in, kept_of, kind_in_store, new_cell}
use Rattle.pw_network.specs.Network.{Network}
use Rattle.pw_settle.specs.Growth.{RestOnUpstreamAfter}
use Rattle.pw_settle.specs.Settled.{info_at, support_at}
use Rattle.pw_settle.specs.Sound.{LiesUpstream, RestsUpstream}
use Rattle.pw_settle.specs.inside.Known.{AreKept, TakesIn}
use Rattle.pw_settle.specs.inside.Since.{IsAtHand}
use Rattle.pw_settle.proofs.KeptFacts.{implies_also, implies_merge, implies_shown, kind-kept}
use Rattle.pw_settle.proofs.TakenNews.{as_many_infos, as_many_supports, both_upstream, info_elsewhere, info_here, more_known, support_elsewhere}

-- what is known about a cell rests on premises of the worldview under which as much is kept
pub record IsPart (store : Store) (w : Premises) (cell : ℕ) (info : Info) (support : Premises) : Type 0 where
  pub kind : kind_of info ≡ kind_in_store store cell
  pub within : is_subset support w ≡ true
  pub enough : IsLeastAbove support (kept_in store cell) info

-- so does what is known about each cell
pub record AreParts (store : Store) (w : Premises) (infos : List Info) (supports : List Premises) : Type 0 where
  pub many : length infos ≡ length store.cells
  pub as_many : length supports ≡ length infos
  pub each : (cell : ℕ) → cell < length store.cells → IsPart store w cell (info_at infos cell) (support_at supports cell)

-- ---- one fact more

module _ (store : Store) (w : Premises) (infos : List Info) (supports : List Premises) (parts : AreParts store w infos supports)
    (cell : ℕ) (there : cell < length store.cells) (fact : Fact) (kind : kind_of fact.info ≡ kind_in_store store cell)
    (inside : is_subset fact.support w ≡ true) (says : (v : Premises) → Implies (kept_in store cell v) (shows v fact))
    (new_infos : List Info) (new_supports : List Premises) (takes : TakesIn cell fact infos new_infos supports new_supports) where
  pub alike : kind_of (info_at infos cell) ≡ kind_of fact.info
  alike = (parts.each cell there).kind ∙ sym kind

  pub listed : cell < length infos
  listed = omega (arith, there, parts.many)

  pub no_less : (c : ℕ) → Implies (info_at new_infos c) (info_at infos c)
  no_less = more_known cell fact infos new_infos supports new_supports takes listed alike

  abbrev known : Fact
  known = record { info = info_at infos cell; support = support_at supports cell }

  abbrev after : Info
  after = meet (info_at infos cell) fact.info

  part_here : IsPart store w cell after (support_at new_supports cell)
  part_here =
      let part = parts.each cell there in
      record {
        kind = kind-meet (info_at infos cell) fact.info ∙ part.kind;
        within = is_subset_trans (support_at new_supports cell) (union (support_at supports cell) fact.support) w takes.rests
            (union_is_subset (support_at supports cell) fact.support w part.within inside);
        enough = λ v above.
            implies_also (kept_in store cell v) (meet (shows v known) (shows v fact)) after (takes.together v above)
            (implies_merge (kept_in store cell v) (shows v known) (shows v fact) (kind-shows v known ∙ alike ∙ sym (kind-shows v fact))
            (implies_shown (kept_in store cell v) known v (kind-kept store cell v ∙ sym part.kind) (λ has. part.enough v has))
            (says v));
      }

  each_taken : (c : ℕ) → c < length store.cells → IsPart store w c (info_at new_infos c) (support_at new_supports c)
  each_taken c below =
      elim (cases_Bool (eqb c cell)) [
        | inl same ↦
            subst (λ (n : ℕ). IsPart store w n (info_at new_infos n) (support_at new_supports n)) (sym (eqb-true c cell same))
            (subst (λ (i : Info). IsPart store w cell i (support_at new_supports cell))
            (sym (info_here cell fact infos new_infos supports new_supports takes listed alike)) part_here)
        | inr other ↦
            subst (λ (i : Info). IsPart store w c i (support_at new_supports c))
            (sym (info_elsewhere cell fact infos new_infos supports new_supports takes c (eqb-false c cell other)))
            (subst (λ (s : Premises). IsPart store w c (info_at infos c) s)
            (sym (support_elsewhere cell fact infos new_infos supports new_supports takes c (eqb-false c cell other))) (parts.each c below))
      ]

  pub parts_taken : AreParts store w new_infos new_supports
  parts_taken = record {
    many = as_many_infos cell fact infos new_infos supports new_supports takes ∙ parts.many;
    as_many = as_many_supports cell fact infos new_infos supports new_supports takes ∙ parts.as_many
        ∙ sym (as_many_infos cell fact infos new_infos supports new_supports takes);
    each = each_taken;
  }

  -- where its premises lie upstream, all do
  pub upstream_taken : (network : Network) (first : List Premises) →
      ((given : ℕ → ℕ → Bool) → RestsUpstream network given store → LiesUpstream network given cell fact.support) →
      RestOnUpstreamAfter network first store supports → RestOnUpstreamAfter network first store new_supports
  upstream_taken network first upstream so_far given rests lie c =
      elim (cases_Bool (eqb c cell)) [
        | inl same ↦
            subst (λ (n : ℕ). LiesUpstream network given n (support_at new_supports n)) (sym (eqb-true c cell same))
            (both_upstream network given cell (support_at supports cell) fact.support (support_at new_supports cell) takes.rests
            (so_far given rests lie cell) (upstream given rests))
        | inr other ↦
            subst (λ (s : Premises). LiesUpstream network given c s)
            (sym (support_elsewhere cell fact infos new_infos supports new_supports takes c (eqb-false c cell other)))
            (so_far given rests lie c)
      ]

-- ---- the end

module _ (store : Store) (w : Premises) (infos : List Info) (supports : List Premises) (parts : AreParts store w infos supports) where
  -- what holds of a cell that exists and of one past the last holds of all
  of_each : (P : ℕ → Type 0) → ((cell : ℕ) → cell < length store.cells → P cell) → ((cell : ℕ) → length store.cells ≤ cell → P cell) → (cell : ℕ) → P cell
  of_each P there past cell =
      elim (cases_Bool (nat_lt cell (length store.cells))) [
        | inl below ↦ there cell (ltb-true cell (length store.cells) below)
        | inr not ↦ past cell (ltb-false cell (length store.cells) not)
      ]

  past_info : (cell : ℕ) → length store.cells ≤ cell → info_at infos cell ≡ nothing kinds.Interval
  past_info cell past = get_or_past infos cell (nothing kinds.Interval) (omega (arith, past, parts.many))

  -- no more is known than is kept
  pub keeps_known : (cell : ℕ) → cell < length store.cells → Implies (kept_in store cell w) (info_at infos cell)
  keeps_known cell there = (parts.each cell there).enough w (parts.each cell there).within

  all_within : (cell : ℕ) → is_subset (support_at supports cell) w ≡ true
  all_within = of_each (λ cell. is_subset (support_at supports cell) w ≡ true) (λ cell there. (parts.each cell there).within)
      (λ cell past. subst (λ (p : Premises). is_subset p w ≡ true)
      (sym (get_or_past supports cell empty (omega (arith, past, parts.many, parts.as_many)))) (empty_is_subset w))

  -- and if all that is kept is known, that is what is known
  pub parts_kept : ((cell : ℕ) → cell < length store.cells → Implies (info_at infos cell) (kept_in store cell w)) → AreKept store w infos supports
  parts_kept says = record {
    many = parts.many;
    as_many = parts.as_many ∙ parts.many;
    infos_are = of_each (λ cell. info_at infos cell ≡ kept_in store cell w)
        (λ cell there. Implies-antisym (info_at infos cell) (kept_in store cell w) ((parts.each cell there).kind ∙ sym (kind-kept store cell w))
        (says cell there) (keeps_known cell there))
        (λ cell past. past_info cell past ∙ sym (ap (λ (c : Cell). kept_of c w) (get_or_past store.cells cell (new_cell kinds.Interval) past)));
    within = all_within;
    enough = of_each (λ cell. IsLeastAbove (support_at supports cell) (kept_in store cell) (info_at infos cell)) (λ cell there. (parts.each cell there).enough)
        (λ cell past s inside. subst (Implies (kept_in store cell s)) (sym (past_info cell past))
        (implies_nothing (kept_in store cell s) kinds.Interval
        (kind-kept store cell s ∙ ap (λ (c : Cell). c.kind) (get_or_past store.cells cell (new_cell kinds.Interval) past))));
  }

  -- what is known is at hand, if it says no less than what was
  pub still_at_hand : (mark : ℕ) (first : List Info) (first_supports : List Premises) → IsAtHand store w mark first first_supports →
      ((cell : ℕ) → cell < length store.cells → Implies (info_at infos cell) (info_at first cell)) → IsAtHand store w mark infos supports
  still_at_hand mark first first_supports was more =
      let accounted : IsAccounted store mark w (length first) (info_at first) = was.continues.accounted in
      record {
        many = parts.many;
        kinds = λ cell below. (parts.each cell (omega (arith, below, parts.many))).kind;
        continues = record {
          as_many = parts.as_many;
          within = all_within;
          enough = λ cell below. (parts.each cell (omega (arith, below, parts.many))).enough;
          accounted = record {
            marked = accounted.marked;
            there = omega (arith, parts.many);
            told = λ cell below. accounted.told cell (omega (arith, below, parts.many, was.many));
            kept = λ cell below. keeps_known cell (omega (arith, below, parts.many));
            came = accounted.came;
            all = λ list is cell below info kind says came.
                accounted.all list is cell (omega (arith, below, parts.many, was.many)) info kind
                (λ u possible. more cell (omega (arith, below, parts.many)) u (says u possible)) came;
          };
        };
      }

-- what is at hand is such a part
pub hand_parts : (store : Store) (w : Premises) (mark : ℕ) (infos : List Info) (supports : List Premises) → IsAtHand store w mark infos supports →
    AreParts store w infos supports
hand_parts store w mark infos supports hand = record {
  many = hand.many;
  as_many = hand.continues.as_many;
  each = λ cell there. record {
    kind = hand.kinds cell (omega (arith, there, hand.many));
    within = hand.continues.within cell;
    enough = hand.continues.enough cell (omega (arith, there, hand.many));
  };
}

-- a test of what is known about a cell found that it does not say this
pub tested_unsaid : (infos : List Info) (cell : ℕ) (read said kept : Info) (test : Bool) → cell < length infos → said ≡ kept →
    IsTrue test ↔ Implies (get_or infos cell read) said → test ≡ false → IsUnsaid (info_at infos cell) kept
tested_unsaid infos cell read said kept test there same tells found implies =
    not_both test (tells.1 (subst (Implies (get_or infos cell read)) (sym same)
    (subst (λ (i : Info). Implies i kept) (sym (get_or_default infos cell read (nothing kinds.Interval) there)) implies))) found
