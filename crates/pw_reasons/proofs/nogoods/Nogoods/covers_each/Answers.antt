use Rattle.std.proofs.Common.{◌≡◌, true, drop}
use Rattle.std.proofs.lemmas.List.Elements.{All-weaker}
use Rattle.pw_reasons.specs.Combinations.{groups_of}
use Rattle.pw_reasons.specs.Nogood.{covers}
use Rattle.pw_reasons.specs.inside.Families.{sets_of}
use Rattle.pw_reasons.specs.inside.Products.{worldviews_beside}
use Rattle.pw_reasons.proofs.ProductLemmas.{covers_last}
use Rattle.pw_reasons.proofs.nogoods.Nogoods.covers_each.Goals as goal

pub returns : goal.returns
returns g c = λ is.
    All-weaker (λ w. covers c.self.inside.products w ≡ true) (λ w. covers c.args.self.now w ≡ true)
    (covers_last c.self.inside.pairs (sets_of c.self.inside.family) c.self.inside.products c.args.self.now c.self.view_is)
    (worldviews_beside c.args.believed.now (drop c.args.place (groups_of c.args.groups.now))) (c.covers_each.ensures is)
