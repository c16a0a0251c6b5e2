use Rattle.std.proofs.Common.{◌++◌, codes, map, take}
use Rattle.std.specs.Fmt.{decimal}
use Rattle.std.specs.List.{flat_map}
use Rattle.pw_info.specs.Passing.{IsPassed}
use Rattle.pw_transcript.specs.ReplyText.{after_space}
use Rattle.pw_transcript.proofs.reply_text.write_lines.Given as goal

-- the names of the lines so far are written
abbrev pub invariant-loop-line : goal.invariant-loop-line
invariant-loop-line g l =
    IsPassed g.O.Output.passes g.O.Output.has_failed l.fn.output l.output
    (flat_map after_space (map (λ line. codes "line " ++ decimal line) (take l.line-index l.lines)))
