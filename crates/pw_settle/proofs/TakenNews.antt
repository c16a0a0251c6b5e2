-- What is known about each cell after news was merged into what was known about one.
use Rattle.std.proofs.Common.{◌≡◌, ◌≢◌, ℕ, ◌<◌, Bool, true, List, length, sym, ap, ◌∙◌, inl, inr}
use Rattle.std.specs.Cmp.{nat_cmp_total}
use Rattle.std.specs.FinSet.{contains, contains-union, empty, is_subset, is_subset-contains, union}
use Rattle.std.proofs.lemmas.Bool.{or_cases}
use Rattle.std.proofs.lemmas.List.{get_or-set_other, get_or-set_same, length-set}
use Rattle.pw_info.specs.declared.kind.Kind.TheVariants as kinds
use Rattle.pw_info.specs.declared.info.Info.{Info}
use Rattle.pw_info.specs.Information.{kind_of, meet, nothing, Implies}
use Rattle.pw_premises.specs.Premises.{Premises}
use Rattle.pw_facts.specs.declared.fact.Fact.{Fact}
use Rattle.pw_cells.proofs.Together.{meet_first}
use Rattle.pw_network.specs.Network.{Network}
use Rattle.pw_settle.specs.Settled.{info_at, support_at}
use Rattle.pw_settle.specs.Sound.{LiesUpstream}
use Rattle.pw_settle.specs.inside.Known.{TakesIn}
use Rattle.pw_settle.proofs.KeptFacts.{also_implies, by_cell}
use Rattle.pw_settle.proofs.SoundStores.{meet_second}

-- premises that are among two sets that lie upstream of a cell lie upstream of it
pub both_upstream : (network : Network) (given : ℕ → ℕ → Bool) (cell : ℕ) (a b all : Premises) → is_subset all (union a b) ≡ true →
    LiesUpstream network given cell a → LiesUpstream network given cell b → LiesUpstream network given cell all
both_upstream network given cell a b all among first second cells upstream has p one =
    elim (or_cases (contains a p) (contains b p)
    (sym (contains-union nat_cmp_total a b p) ∙ is_subset-contains nat_cmp_total all (union a b) among p one)) [
      | inl is ↦ first cells upstream has p is
      | inr is ↦ second cells upstream has p is
    ]

module _ (cell : ℕ) (fact : Fact) (infos new_infos : List Info) (supports new_supports : List Premises)
    (takes : TakesIn cell fact infos new_infos supports new_supports) where
  abbrev after : Info
  after = meet (info_at infos cell) fact.info

  pub as_many_infos : length new_infos ≡ length infos
  as_many_infos = ap length takes.infos_are ∙ length-set infos cell after

  pub as_many_supports : length new_supports ≡ length supports
  as_many_supports = ap length takes.supports_are ∙ length-set supports cell (support_at new_supports cell)

  pub support_elsewhere : (c : ℕ) → c ≢ cell → support_at new_supports c ≡ support_at supports c
  support_elsewhere c other =
      ap (λ (l : List Premises). support_at l c) takes.supports_are ∙ get_or-set_other supports cell c (support_at new_supports cell) empty other

  pub info_elsewhere : (c : ℕ) → c ≢ cell → info_at new_infos c ≡ info_at infos c
  info_elsewhere c other = ap (λ (l : List Info). info_at l c) takes.infos_are ∙ get_or-set_other infos cell c after (nothing kinds.Interval) other

  module _ (there : cell < length infos) (alike : kind_of (info_at infos cell) ≡ kind_of fact.info) where
    pub info_here : info_at new_infos cell ≡ after
    info_here = ap (λ (l : List Info). info_at l cell) takes.infos_are ∙ get_or-set_same infos cell after (nothing kinds.Interval) there

    -- no less is known
    pub more_known : (c : ℕ) → Implies (info_at new_infos c) (info_at infos c)
    more_known = by_cell (λ c. Implies (info_at new_infos c) (info_at infos c)) cell
        (also_implies (info_at infos cell) after (info_at new_infos cell) (sym info_here) (meet_first (info_at infos cell) fact.info alike))
        (λ c other. also_implies (info_at infos c) (info_at infos c) (info_at new_infos c) (sym (info_elsewhere c other)) (λ u possible. possible))

    -- and what the fact says
    pub news_known : Implies (info_at new_infos cell) fact.info
    news_known = also_implies fact.info after (info_at new_infos cell) (sym info_here) (meet_second (info_at infos cell) fact.info alike)
