-- How a fact is merged into what is at hand for a cell.
use Rattle.std.specs.Result.{OnErr, OnOk}
use Rattle.std.specs.declared.result.Result.{Result}
use Rattle.std.specs.declared.result.Result.TheVariants.{Ok, Err}
use Rattle.std.proofs.Common.{◌≡◌, ℕ, ◌<◌, true, List, length, set, sym, refl, ap, subst, ◌∙◌}
use Rattle.std.specs.FinSet.{empty, is_subset, union}
use Rattle.std.proofs.lemmas.List.{get_or-set_same}
use Rattle.pw_info.specs.declared.info.Info.{Info}
use Rattle.pw_info.specs.Information.{kind_of, meet, Implies}
use Rattle.pw_info.proofs.Informations.{meet_comm, meet_implied}
use Rattle.pw_premises.specs.Premises.{Premises}
use Rattle.pw_facts.specs.declared.fact.Fact.{Fact}
use Rattle.pw_facts.specs.Facts.{IsMerge}
use Rattle.pw_facts.proofs.Merges.{merge_both, merge_rests, merge_second, merge_shows}
use Rattle.pw_cells.specs.Cells.{IsUnsaid, fact_on}
use Rattle.pw_settle.specs.inside.Known.{TakesIn}
use Rattle.pw_settle.specs.Settled.{info_at, support_at}

module _ (infos : List Info) (supports : List Premises) (cell : ℕ) (info : Info) (support : Premises)
    (below : cell < length supports) (kind : kind_of info ≡ kind_of (info_at infos cell))
    (unsaid : IsUnsaid (info_at infos cell) info) where
  abbrev known : Fact
  known = fact_on (info_at infos cell) (support_at supports cell)

  abbrev merge : Premises → Fact
  merge now = fact_on (meet (info_at infos cell) info) now

  -- the informations are merged, on premises of a merge
  pub takes_merge : (now : Premises) → IsMerge known (fact_on info support) (merge now) →
      TakesIn cell (fact_on info support) infos (set infos cell (meet (info_at infos cell) info)) supports (set supports cell now)
  takes_merge now is =
      let here : support_at (set supports cell now) cell ≡ now = get_or-set_same supports cell now empty below in
      record {
        infos_are = refl;
        supports_are = ap (set supports cell) (sym here);
        rests = subst (λ (p : Premises). is_subset p (union (support_at supports cell) support) ≡ true) (sym here)
            (merge_rests known (fact_on info support) (merge now) is);
        together = λ w within.
            merge_shows known (fact_on info support) (merge now) w (sym kind) is (subst (λ (p : Premises). is_subset p w ≡ true) here within);
      }

  -- news that say all that was known
  pub takes_second : Implies info (info_at infos cell) →
      TakesIn cell (fact_on info support) infos (set infos cell info) supports (set supports cell support)
  takes_second more =
      let is : meet (info_at infos cell) info ≡ info = meet_comm (info_at infos cell) info (sym kind) ∙ meet_implied info (info_at infos cell) kind more in
      subst (λ (i : Info). TakesIn cell (fact_on info support) infos (set infos cell i) supports (set supports cell support)) is
      (takes_merge support (merge_second known (fact_on info support) (sym kind) more (λ said. absurd (unsaid said))))

  -- news that say only a part of it
  pub takes_both : (Implies info (info_at infos cell) → ⊥) →
      TakesIn cell (fact_on info support) infos (set infos cell (meet (info_at infos cell) info)) supports
      (set supports cell (union (support_at supports cell) support))
  takes_both part =
      takes_merge (union (support_at supports cell) support) (merge_both known (fact_on info support) (sym kind) unsaid part)

-- what holds anyway holds on a value
pub OnOk_always : {T E : Type 0} (r : Result T E) {P : Type 0} → P → OnOk r P
OnOk_always (Ok x) p = p
OnOk_always (Err e) p = tt

-- and what follows from what holds where one succeeded, or failed, holds there too
pub OnOk_more : {T E : Type 0} (r : Result T E) {P Q : Type 0} → (P → Q) → OnOk r P → OnOk r Q
OnOk_more (Ok x) f p = f p
OnOk_more (Err e) f p = tt

pub OnErr_more : {T E : Type 0} (r : Result T E) {P Q : Type 0} → (P → Q) → OnErr r P → OnErr r Q
OnErr_more (Ok x) f p = tt
OnErr_more (Err e) f p = f p
