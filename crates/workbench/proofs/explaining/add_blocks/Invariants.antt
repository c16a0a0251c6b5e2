use Rattle.std.proofs.Common.{length}
use Rattle.pw_procs.specs.Registry.{procedures_in}
use Rattle.pw_decl.specs.Faults.{IsReported}
use Rattle.workbench.specs.FaultBlocks.{AreBlocks, text_left}
use Rattle.workbench.proofs.explaining.add_blocks.Given as goal

-- the blocks so far are those of the first faults, and this is the next one
abbrev pub invariant-loop-unread : goal.invariant-loop-unread
invariant-loop-unread g l =
    AreBlocks (procedures_in l.registry) l.text l.blocks.items l.unread × IsReported (procedures_in l.registry) (text_left l.unread) l.fault

abbrev pub decreases-loop-unread : goal.decreases-loop-unread
decreases-loop-unread g l = length (text_left l.unread)
