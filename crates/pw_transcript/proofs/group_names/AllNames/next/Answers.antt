use Rattle.std.proofs.Common.{sym}
use Rattle.pw_transcript.proofs.GroupTexts.{next_word}
use Rattle.pw_transcript.proofs.group_names.AllNames.next.Goals as goal

pub returns : goal.returns
returns c =
    next_word c.args.self.now c.self.inside.names c.new-self-inside.result c.next-3.new.self c.self.inside.words c.next-2.new.self c.in_ok-word.word.now c.next-3.result
    (sym c.self.view_is) c.in_default.ensures.0 c.in_ok-word.ensures c.new-self-inside.ensures c.next-3.ensures
