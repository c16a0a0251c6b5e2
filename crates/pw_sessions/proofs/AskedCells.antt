-- The answer to an ask: what settles in the network, which is what follows from the visible
-- entries.
use Rattle.std.proofs.Common.{◌≡◌, ℕ, ◌<◌, List, false, length, ap, subst, ◌∙◌, inl}
use Rattle.pw_info.specs.declared.info.Info.{Info}
use Rattle.pw_cells.specs.Cells.{told_in}
use Rattle.pw_decl.specs.Declaration.{Declared}
use Rattle.pw_decl.specs.WellDeclared.{IsWellDeclared}
use Rattle.pw_network.specs.Network.{IsWellNetwork}
use Rattle.pw_sessions.specs.Reply as reply
use Rattle.pw_sessions.specs.Entries.{entries_before}
use Rattle.pw_sessions.specs.Reply.{LineReading}
use Rattle.pw_sessions.specs.inside.Steps.{AnswersAsk, is_written}
use Rattle.pw_sessions.specs.Workbench.{Workbench, IsLeftBy, beliefs_in}
use Rattle.pw_sessions.proofs.EntriesRise.{rise_before}
use Rattle.pw_sessions.proofs.WrittenCells.{unwritten_is}

-- what the network is over is well declared
pub well_left : (d : Declared) (readings : List LineReading) (bench : Workbench) → IsWellNetwork bench.network → IsLeftBy d readings bench → IsWellDeclared d
well_left d readings bench well left = subst IsWellDeclared left.set_up.declared well.declared

-- if no visible instance writes the cell, what the store is told is what settles
pub told_answers : (d : Declared) (readings : List LineReading) (bench : Workbench) (user cell : ℕ) (info : Info) → IsWellNetwork bench.network →
    IsLeftBy d readings bench → cell < length bench.network.declared.cells → is_written bench.network.attached cell (beliefs_in bench user) ≡ false →
    info ≡ told_in bench.store cell (beliefs_in bench user) → AnswersAsk bench user cell (reply.Value info)
told_answers d readings bench user cell info well left here unwritten told =
    inl (ap (λ (i : Info). reply.Value i)
    (told
    ∙ unwritten_is d (entries_before readings) bench.network bench.store (beliefs_in bench user) cell
    (well_left d readings bench well left) left.fit (rise_before readings) left.network left.told (subst (λ (e : Declared). cell < length e.cells) left.set_up.declared here) unwritten))
