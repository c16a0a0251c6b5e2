use Rattle.pw_info.specs.declared.info.Info.{Info}
use Rattle.pw_info.specs.declared.info.Info.TheVariants as info
use Rattle.pw_info.specs.Information.{kind_of}
use Rattle.pw_info.specs.SetNames.{SetNames}
use Rattle.pw_info.specs.Spelling.{SpellsInfo}
use Rattle.pw_info.specs.Text.{text_of_info}
use Rattle.pw_info.proofs.MemberTexts.{members_spelled}
use Rattle.pw_info.proofs.Writings.{exact_spelled, interval_spelled}
use Rattle.pw_info.proofs.laws.text_is_a_spelling.Goals as goal

text_spelled : (sets : SetNames) (of : Info) → SpellsInfo sets (text_of_info sets of) (kind_of of) of
text_spelled sets (info.Interval part) = interval_spelled sets part
text_spelled sets (info.Members number part) = members_spelled sets number part
text_spelled sets (info.Exact part) = exact_spelled sets part

pub returns : goal.returns
returns c = text_spelled
