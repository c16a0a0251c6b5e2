use Rattle.std.proofs.Common.{◌≡◌}
use Rattle.std.specs.List.{flat_map}
use Rattle.pw_info.specs.Passing.{IsPassed}
use Rattle.pw_decl.specs.inside.Fields.{declared}
use Rattle.pw_transcript.specs.ReplyText.{after_space}
use Rattle.pw_transcript.specs.inside.Gathering.{has_some, names_below}
use Rattle.pw_transcript.proofs.reply_text.write_premises.Given as goal

-- the names of the premises so far are written
abbrev pub invariant-loop-premise : goal.invariant-loop-premise
invariant-loop-premise g l = record {
  written : IsPassed g.O.Output.passes g.O.Output.has_failed l.fn.output l.output
      (flat_map after_space (names_below (declared l.declaration) l.premises l.premise));
  any : l.any ≡ has_some (names_below (declared l.declaration) l.premises l.premise);
}
