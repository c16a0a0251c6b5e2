use Rattle.std.proofs.Common.{◌-◌, length, ◌∙◌}
use Rattle.pw_info.proofs.WordLemmas.{without_spaces, without_few_spaces}
use Rattle.pw_info.proofs.words.without_last_spaces.Goals as goal

pub loop-shorter-preserved : goal.loop-shorter-preserved
loop-shorter-preserved c =
    let front = c.loop-shorter.front.now in
    without_spaces front c.in-Some.shorter.now (length front - 8) c.in-Some.ensures.cases.0 c.in-Some.ensures.cases.1 ∙ c.loop-shorter.invariant

pub returns-in-Some-strip_suffix : goal.returns-in-Some-strip_suffix
returns-in-Some-strip_suffix c =
    let front = c.loop-shorter.front.now in
    let fits = c.in-Some-strip_suffix.ensures.cases in
    without_few_spaces front c.in-Some-strip_suffix.shorter.now (length front - 4) fits.0 fits.1 ∙ c.loop-shorter.invariant
