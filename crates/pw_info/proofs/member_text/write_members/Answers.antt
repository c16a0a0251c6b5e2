use Rattle.std.proofs.Common.{refl}
use Rattle.pw_info.proofs.MemberTexts.{text_of_all_members, text_of_no_members, text_of_some_members}
use Rattle.pw_info.proofs.PassingFacts.{writes_same}
use Rattle.pw_info.proofs.member_text.write_members.Goals as goal

pub returns-then-is_empty : goal.returns-then-is_empty
returns-then-is_empty g c =
    writes_same g.O.Output.passes g.O.Output.has_failed _ _ c.put_all.result _ _
    (text_of_no_members (g.N.KindNames.members c.args.names.now c.args.set) c.args.part (c.if-is_empty.ensures.0 refl)) c.put_all.ensures

pub returns-then-is_full : goal.returns-then-is_full
returns-then-is_full g c =
    writes_same g.O.Output.passes g.O.Output.has_failed _ _ c.put_all-then-is_full.result _ _
    (text_of_all_members (g.N.KindNames.members c.args.names.now c.args.set) c.args.part c.if-is_empty.ensures.1 (c.if-is_full.ensures.0 refl))
    c.put_all-then-is_full.ensures

pub returns : goal.returns
returns g c =
    writes_same g.O.Output.passes g.O.Output.has_failed _ _ c.write_set.result _ _
    (text_of_some_members (g.N.KindNames.members c.args.names.now c.args.set) c.args.part c.if-is_empty.ensures.1 c.if-is_full.ensures.1)
    c.write_set.ensures
