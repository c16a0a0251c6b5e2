use Rattle.pw_decl.specs.inside.Fields.{declared}
use Rattle.pw_transcript.specs.Sentence.{Why}
use Rattle.pw_transcript.specs.inside.Forms.{cell_form}
use Rattle.pw_transcript.proofs.SpokenLemmas.{spoken_known}
use Rattle.pw_transcript.proofs.spoken.read_why.Goals as goal

pub returns-in-Some-user : goal.returns-in-Some-user
returns-in-Some-user g c =
    spoken_known (declared c.args.declaration.now) c.args.user.now (cell_form Why c.args.rest) (Why c.in-Some.cell.now) c.in-Some-user.user c.resolve_why.result
    (c.in-Some.ensures Why) c.in-Some-user.ensures.number c.resolve_why.ensures
