use Rattle.std.proofs.Common.{codes, refl}
use Rattle.pw_info.proofs.PassingFacts.{first_fails, second_writes}
use Rattle.pw_decl.specs.inside.Fields.{declared}
use Rattle.pw_transcript.specs.ReplyText.{conflict_names, text_of_names}
use Rattle.pw_transcript.proofs.reply_text.write_conflicts.Goals as goal

pub returns-in_err-put_all : goal.returns-in_err-put_all
returns-in_err-put_all g c =
    first_fails g.O.Output.passes g.O.Output.has_failed _ _ c.from_residual.result _ (codes "conflicts")
    (text_of_names (conflict_names (declared c.args.declaration.now) c.args.conflicts.now))
    c.from_residual.ensures.0 c.in_err-put_all.ensures refl

pub returns : goal.returns
returns g c =
    second_writes g.O.Output.passes g.O.Output.has_failed g.met.O.Output.joins _ _ _ c.write_conflict_names.result _ (codes "conflicts")
    (text_of_names (conflict_names (declared c.args.declaration.now) c.args.conflicts.now))
    c.in_ok-put_all.ensures c.write_conflict_names.ensures refl
