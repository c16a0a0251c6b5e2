use Rattle.std.proofs.Common.{◌≡◌, ◌&&◌, length}
use Rattle.std.specs.List.{list_all}
use Rattle.std.specs.FinSet.{union}
use Rattle.pw_decl.specs.inside.Fields.{declared}
use Rattle.pw_transcript.specs.Reading.{is_known, may_use, premises_of}
use Rattle.pw_transcript.proofs.command_text.support_of.Given as goal

-- the premises so far and those of the remaining words are those of all, and so is what the user
-- may do
abbrev pub invariant-loop-word : goal.invariant-loop-word
invariant-loop-word g l = record {
  known : list_all (is_known (declared l.declaration)) l.fn.words ≡ list_all (is_known (declared l.declaration)) l.words;
  set : premises_of (declared l.declaration) l.fn.words ≡ union l.set (premises_of (declared l.declaration) l.words);
  own : list_all (may_use (declared l.declaration) l.user) l.fn.words ≡ (l.may_use_all && list_all (may_use (declared l.declaration) l.user) l.words);
}

abbrev pub decreases-loop-word : goal.decreases-loop-word
decreases-loop-word g l = length l.words
