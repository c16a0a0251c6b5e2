use Rattle.pw_decl.specs.inside.Fields.{declared}
use Rattle.pw_transcript.specs.inside.Forms.{tell_form, told_in}
use Rattle.pw_transcript.proofs.SpokenLemmas.{spoken_known}
use Rattle.pw_transcript.proofs.spoken.read_tell.Goals as goal

pub returns-in-Some-user : goal.returns-in-Some-user
returns-in-Some-user g c =
    spoken_known (declared c.args.declaration.now) c.args.user.now (tell_form c.args.rest) (told_in c.in-Some.words) c.in-Some-user.user c.resolve_tell.result
    c.in-Some.ensures c.in-Some-user.ensures.number c.resolve_tell.ensures
