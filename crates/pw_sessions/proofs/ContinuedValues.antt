-- A settling can still continue from earlier values: as more is kept, and as cells are added.
use Rattle.std.proofs.Common.{◌≡◌, ℕ, ◌<◌, List, ◌++◌, length, map, sym, ap, arith}
use Rattle.pw_info.specs.declared.kind.Kind.{Kind}
use Rattle.pw_info.specs.Information.{Implies}
use Rattle.pw_premises.specs.Premises.{Premises}
use Rattle.pw_cells.specs.Arrivals.{Continues}
use Rattle.pw_cells.specs.Cells.{Cell, Store, kept_in, kept_of, new_cell}
use Rattle.pw_settle.specs.Growth.{CanContinue}
use Rattle.pw_settle.specs.Settled.{Settled, info_at}
use Rattle.pw_settle.proofs.KeptFacts.{also_implies}
use Rattle.pw_settle.proofs.SoundStores.{cell_stays}

-- if no less is kept of the cells, and what accounted for what was kept still does
pub continues_more : (old new : Store) (settled : Settled) →
    ((cell : ℕ) (w : Premises) → cell < length settled.infos → Implies (kept_in new cell w) (kept_in old cell w)) → Continues old new →
    CanContinue old settled → CanContinue new settled
continues_more old new settled more continues can = record {
  as_many = can.as_many;
  within = can.within;
  enough = λ cell below w has v possible. can.enough cell below w has v (more cell w below v possible);
  accounted = continues settled.mark settled.worldview (length settled.infos) (info_at settled.infos) can.accounted;
}

-- if cells are added
pub continues_added : (old new : Store) (own : List Kind) (settled : Settled) → new.cells ≡ old.cells ++ map new_cell own → Continues old new →
    CanContinue old settled → CanContinue new settled
continues_added old new own settled are continues can =
    continues_more old new settled (λ cell w below. also_implies (kept_in old cell w) (kept_in old cell w) (kept_in new cell w)
    (sym (ap (λ (x : Cell). kept_of x w) (cell_stays old new own are cell (omega (arith, below, can.accounted.there))))) (λ v possible. possible)) continues can
