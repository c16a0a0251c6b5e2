use Rattle.std.proofs.Common.{map, take}
use Rattle.std.specs.List.{flat_map}
use Rattle.pw_info.specs.Passing.{IsPassed}
use Rattle.pw_info.specs.SetNames.{name_at}
use Rattle.pw_decl.specs.inside.Fields.{declared}
use Rattle.pw_transcript.specs.ReplyText.{after_space}
use Rattle.pw_transcript.proofs.reply_text.write_premise_names.Given as goal

-- the names of the premises so far are written
abbrev pub invariant-loop-premise : goal.invariant-loop-premise
invariant-loop-premise g l =
    IsPassed g.O.Output.passes g.O.Output.has_failed l.fn.output l.output
    (flat_map after_space (map (name_at (declared l.declaration).premises) (take l.premise-index l.premises)))
