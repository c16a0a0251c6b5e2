-- What is kept of a cell, as one fact.
use Rattle.std.proofs.Common.{◌≡◌, List, [], sym, ap, subst, ◌∙◌}
use Rattle.pw_info.specs.declared.info.Info.{Info}
use Rattle.pw_info.specs.Information.{kind_of, Implies}
use Rattle.pw_info.proofs.Informations.{implies_nothing}
use Rattle.pw_premises.specs.Premises.{Premises}
use Rattle.pw_facts.specs.declared.fact.Fact.{Fact}
use Rattle.pw_cells.specs.Cells.{Cell, fact_on, kept_of, shown_by, told_of}
use Rattle.pw_cells.specs.Shown.{IsKeptOf}
use Rattle.pw_cells.specs.inside.OneCell.{StandsFor}
use Rattle.pw_cells.proofs.Together.{kind-shown_by, larger_shown}

-- what stands for the kept facts, and says at least what was told
pub is_kept : (cell : Cell) (w : Premises) (held : Fact) → StandsFor cell.kind w cell.kept held → Implies held.info (told_of cell w) → IsKeptOf cell w held
is_kept cell w held stands told = record {
  info = stands.info;
  kind = ap kind_of stands.info ∙ kind-shown_by cell.kind w cell.kept;
  within = stands.within;
  same = stands.same;
  rests = stands.rests;
  told = told;
  larger = λ v sub. subst (λ (i : Info). Implies (kept_of cell v) i) stands.same (larger_shown cell.kind held.support v cell.kept sub);
  smaller = λ v sub. subst (λ (i : Info). Implies i (kept_of cell v)) (sym {A = Info} stands.info) (larger_shown cell.kind v w cell.kept sub);
}

-- where nothing was told
pub is_kept_alone : (cell : Cell) (w : Premises) (held : Fact) → cell.told ≡ [] → StandsFor cell.kind w cell.kept held → IsKeptOf cell w held
is_kept_alone cell w held none stands =
    is_kept cell w held stands
    (subst (λ (l : List Fact). Implies held.info (shown_by cell.kind w l)) (sym {A = List Fact} none)
    (implies_nothing held.info cell.kind (ap kind_of stands.info ∙ kind-shown_by cell.kind w cell.kept)))

-- the same of the same fact, of the same cell
pub is_kept_as : (cell now : Cell) (w : Premises) (held fact : Fact) → cell ≡ now → fact ≡ held → IsKeptOf cell w held → IsKeptOf now w fact
is_kept_as cell now w held fact same fact_is kept = subst (λ (c : Cell). IsKeptOf c w fact) same (subst (IsKeptOf cell w) (sym {A = Fact} fact_is) kept)

pub is_kept_so : (cell now : Cell) (w : Premises) (held : Fact) (info : Info) (support : Premises) → cell ≡ now → info ≡ held.info → support ≡ held.support
    → IsKeptOf cell w held → IsKeptOf now w (fact_on info support)
is_kept_so cell now w held info support same info_is support_is =
    is_kept_as cell now w held (fact_on info support) same (λ j. record { info = info_is j; support = support_is j })
