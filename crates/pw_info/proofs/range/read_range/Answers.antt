use Rattle.std.proofs.Common.{refl}
use Rattle.pw_info.proofs.Dots.{none_from_cut, none_from_uncut, IfNone_then}
use Rattle.pw_info.proofs.range.read_range.Goals as goal

pub returns-in-Some-clause-none : goal.returns-in-Some-clause-none
returns-in-Some-clause-none c =
    IfNone_then c.read_ends.result _ refl c.read_ends.ensures.none
    (none_from_cut c.args.word.now c.in-Some.front.now c.in-Some.rest.now c.args.most c.in-Some.ensures.some c.in-Some.ensures.first)

pub returns-in-None-clause-none : goal.returns-in-None-clause-none
returns-in-None-clause-none c =
    IfNone_then c.read_number.result _ c.map.ensures.variant c.read_number.ensures.none
    (none_from_uncut c.args.word.now c.args.most c.in-None.ensures.none)
