use Rattle.std.proofs.Common.{◌++◌}
use Rattle.pw_reasons.specs.inside.Families.{sets_of}
use Rattle.pw_reasons.proofs.FamilyLemmas.{noted_between, noted_left}
use Rattle.pw_reasons.proofs.nogoods.Nogoods.note_new.Goals as goal

pub returns-in-Some-clause-within : goal.returns-in-Some-clause-within
returns-in-Some-clause-within g c =
    noted_left c.add.result c.args.premises.now c.self.inside.pairs c.add.new.self (sets_of c.self.inside.family ++ c.self.inside.products) c.args.self.now
    c.self.view_is (rw c.in-Some.ensures.same at c.add.ensures.more) c.add.ensures.err

pub returns-in-None-clause-within : goal.returns-in-None-clause-within
returns-in-None-clause-within g c =
    noted_between c.add-in-None.result c.args.premises.now c.self.inside.pairs c.self.inside.family c.add-in-None.new.self c.self.inside.products
    c.args.self.now c.self.view_is c.add-in-None.ensures.more c.add-in-None.ensures.err
