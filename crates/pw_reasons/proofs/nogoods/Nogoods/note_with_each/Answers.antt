use Rattle.std.proofs.Common.{◌≤◌, ℕ, List, arith, drop, length}
use Rattle.std.proofs.lemmas.Result.{on_ok_weaker}
use Rattle.pw_reasons.specs.Combinations.{groups_of}
use Rattle.pw_reasons.specs.inside.Families.{sets_of}
use Rattle.pw_reasons.specs.inside.Products.{worldviews_beside}
use Rattle.pw_reasons.proofs.ProductLemmas.{noted_last, one_set_covers, one_set_there}
use Rattle.pw_reasons.proofs.nogoods.Nogoods.note_with_each.Goals as goal

pub returns-then-place-len-clause-covered : goal.returns-then-place-len-clause-covered
returns-then-place-len-clause-covered g c =
    let groups : List (List ℕ) = groups_of c.args.groups.now in
    let past : length groups ≤ c.args.place = omega (arith, c.len.ensures.len, c.if-place-len.true) in
    on_ok_weaker c.note_new.result (one_set_covers c.args.fixed.now groups c.args.place past c.args.self.now c.note_new.new.self) c.note_new.ensures.covered

pub returns-then-place-len-clause-within : goal.returns-then-place-len-clause-within
returns-then-place-len-clause-within g c noted there =
    let groups : List (List ℕ) = groups_of c.args.groups.now in
    let past : length groups ≤ c.args.place = omega (arith, c.len.ensures.len, c.if-place-len.true) in
    one_set_there c.args.fixed.now groups c.args.place past c.args.self.now noted (c.note_new.ensures.within noted there)

pub returns-clause-within : goal.returns-clause-within
returns-clause-within g c =
    noted_last c.add.result c.self.inside.pairs (sets_of c.self.inside.family) c.self.inside.products c.add.new.self
    (worldviews_beside c.args.fixed.now (drop c.args.place (groups_of c.args.groups.now))) c.args.self.now c.self.view_is c.add.ensures.more c.add.ensures.err
