use Rattle.std.proofs.Common.{◌≡◌, length}
use Rattle.std.specs.List.{list_all}
use Rattle.std.specs.FinSet.{union}
use Rattle.pw_decl.specs.inside.Fields.{declared}
use Rattle.pw_transcript.specs.Reading.{is_known, premises_of}
use Rattle.pw_transcript.proofs.command_text.premise_set.Given as goal

-- the premises so far and those of the remaining words are those of all
abbrev pub invariant-loop-word : goal.invariant-loop-word
invariant-loop-word g l = record {
  known : list_all (is_known (declared l.declaration)) l.fn.words ≡ list_all (is_known (declared l.declaration)) l.words;
  set : premises_of (declared l.declaration) l.fn.words ≡ union l.set (premises_of (declared l.declaration) l.words);
}

abbrev pub decreases-loop-word : goal.decreases-loop-word
decreases-loop-word g l = length l.words
