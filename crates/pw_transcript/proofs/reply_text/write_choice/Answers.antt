use Rattle.std.proofs.Common.{codes, option_map, refl}
use Rattle.pw_info.proofs.PassingFacts.{first_fails, second_writes}
use Rattle.pw_decl.specs.inside.Fields.{declared}
use Rattle.pw_reasons.specs.Combinations.{picked_in}
use Rattle.pw_transcript.specs.ReplyText.{text_of_chosen}
use Rattle.pw_transcript.proofs.reply_text.write_choice.Goals as goal

pub returns-in_err-put_all : goal.returns-in_err-put_all
returns-in_err-put_all g c =
    first_fails g.O.Output.passes g.O.Output.has_failed _ _ c.from_residual.result _ (codes "chose")
    (text_of_chosen (declared c.args.declaration.now) (option_map picked_in c.args.chosen))
    c.from_residual.ensures.0 c.in_err-put_all.ensures refl

pub returns : goal.returns
returns g c =
    second_writes g.O.Output.passes g.O.Output.has_failed g.met.O.Output.joins _ _ _ c.write_chosen.result _ (codes "chose")
    (text_of_chosen (declared c.args.declaration.now) (option_map picked_in c.args.chosen))
    c.in_ok-put_all.ensures c.write_chosen.ensures refl
