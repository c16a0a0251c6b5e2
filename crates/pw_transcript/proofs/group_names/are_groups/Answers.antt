use Rattle.std.proofs.Common.{sym, ap, ◌∙◌}
use Rattle.std.proofs.lemmas.Bool.{false≢true}
use Rattle.pw_transcript.specs.inside.Grouping.{are_few}
use Rattle.pw_transcript.proofs.GroupWords.{groups_few, groups_found, groups_some}
use Rattle.pw_transcript.proofs.group_names.are_groups.Goals.{then-is_empty-via-then-is_empty, then-is_empty-via-else-is_empty+then-not-words_are_few}
use Rattle.pw_transcript.proofs.group_names.are_groups.Goals as goal

pub returns-then-is_empty : goal.returns-then-is_empty
returns-then-is_empty c = (
  λ never. absurd (false≢true never),
  λ are. elim c.then-is_empty.branch [
    | then-is_empty-via-then-is_empty w ↦ sym (groups_some c.args.words are) ∙ sym c.is_empty.ensures ∙ w.if-is_empty.true
    | then-is_empty-via-else-is_empty+then-not-words_are_few w ↦
        sym w.if-not-words_are_few.true ∙ w.words_are_few.ensures ∙ ap are_few w.again.ensures ∙ groups_few c.args.words are
  ],
)

pub returns : goal.returns
returns c =
    groups_found c.args.words c.names_stand_once.result (sym c.is_empty.ensures ∙ c.if-is_empty.false)
    (sym (ap are_few c.again.ensures) ∙ sym c.words_are_few.ensures ∙ c.if-not-words_are_few.false) c.names_stand_once.ensures
