use Rattle.std.proofs.Common.{◌≡◌}
use Rattle.pw_info.specs.inside.Scanning.{mark_after, opened, places_below}
use Rattle.pw_info.specs.Passing.{IsPassed}
use Rattle.pw_info.proofs.member_text.write_set.Given as goal

-- the members at the possible places so far are named
abbrev pub invariant-loop-place : goal.invariant-loop-place
invariant-loop-place g l = record {
  written : IsPassed g.O.Output.passes g.O.Output.has_failed l.fn.output l.output
      (opened (g.N.KindNames.members l.names l.set) (places_below l.part l.place));
  mark : l.mark ≡ mark_after (places_below l.part l.place);
}
