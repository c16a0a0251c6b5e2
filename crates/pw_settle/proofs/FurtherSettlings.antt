-- How the steps of a settling follow on one another.
use Rattle.std.proofs.Common.{Bool, List, Result, Ok, Err, IsErr}
use Rattle.pw_info.specs.declared.info.Info.{Info}
use Rattle.pw_premises.specs.Premises.{Premises}
use Rattle.pw_cells.specs.Cells.{Store}
use Rattle.pw_network.specs.Network.{Network}
use Rattle.pw_settle.specs.Growth.{KeepsMore}
use Rattle.pw_settle.specs.inside.Known.{AreKept, StayUpstream, WereKept}
use Rattle.pw_settle.specs.inside.Progress.{IsFurther}
use Rattle.pw_settle.proofs.Growing.{keeps_more_same, keeps_more_then}

-- what is kept at first is kept at some point
pub were_kept : (network : Network) (old new : Store) (w : Premises) (infos : List Info) (supports : List Premises) → AreKept old w infos supports →
    KeepsMore network old new → WereKept network old new w infos supports
were_kept network old new w infos supports kept grows = record { between = old; before = keeps_more_same network old; kept = kept; after = grows }

-- and what is after some steps is
pub were_then : (network : Network) (old now new : Store) (w : Premises) (infos : List Info) (supports : List Premises) → KeepsMore network old now →
    WereKept network now new w infos supports → WereKept network old new w infos supports
were_then network old now new w infos supports grows were = record {
  between = were.between;
  before = keeps_more_then network old now were.between grows were.before;
  kept = were.kept;
  after = were.after;
}

-- a settling that was refused has come further
pub refused_further : {A E : Type 0} (r : Result A E) → IsErr r → (network : Network) (w : Premises) (old : Store) (supports : List Premises) (new : Store)
    (infos : List Info) (new_supports : List Premises) (queued : List Bool) → KeepsMore network old new → StayUpstream network old supports new new_supports →
    WereKept network old new w infos new_supports → IsFurther r network w old supports new infos new_supports queued
refused_further (Ok x) failed network w old supports new infos new_supports queued grows upstream were = absurd (cc)
refused_further (Err e) failed network w old supports new infos new_supports queued grows upstream were =
    record { grows = grows; upstream = upstream; underway = tt; between = were }
