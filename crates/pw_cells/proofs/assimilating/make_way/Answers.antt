use Rattle.std.proofs.Common.{◌≡◌, ◌-◌, length, refl, sym, subst, arith}
use Rattle.pw_info.specs.Information.{kind_of}
use Rattle.pw_cells.specs.Cells.{unsubsumed}
use Rattle.pw_cells.specs.inside.OneCell.{LeavesOutOne}
use Rattle.pw_cells.proofs.Current.{MakesWay, way_of_few, way_of_many}
use Rattle.pw_cells.proofs.assimilating.make_way.Given as given
use Rattle.pw_cells.proofs.assimilating.make_way.Goals as goal
use Rattle.pw_cells.proofs.assimilating.make_way.Goals.{After-lower, then-before-le-FEW, else-before-le-FEW}

-- what is left, whether there are few or many
way : (g : given.Over) (c : After-lower g) → MakesWay (kind_of c.args.fact.now.info) c.args.fact.now c.args.kept.now.items c.lower.new.self c.if-before-le-FEW.kept.items
way g c =
    let fact = c.args.fact.now in
    let old = c.args.kept.now.items in
    let count : c.lower.new.self.count ≡ c.args.bound.now.count - (length old - length c.if-before-le-FEW.kept.items) =
    omega (arith, c.lower.ensures.count, c.len-before.ensures, c.len.ensures, c.args.kept.now.ok, c.if-before-le-FEW.kept.ok) in
    elim c.if-before-le-FEW.branch [
      | then-before-le-FEW w ↦
          way_of_few (kind_of fact.info) fact old c.if-before-le-FEW.kept.items c.args.bound.now c.lower.new.self refl c.requires.kinds c.requires.bounds
          c.requires.news count c.lower.ensures.info
          (subst (λ v. v.items ≡ unsubsumed fact old) (sym w.kept-is) w.drop_subsumed.ensures.rest)
      | else-before-le-FEW w ↦
          way_of_many (kind_of fact.info) fact old c.if-before-le-FEW.kept.items c.args.bound.now c.lower.new.self refl c.requires.kinds c.requires.bounds
          c.requires.news count c.lower.ensures.info
          (subst (λ v. LeavesOutOne fact old v.items) (sym w.kept-is) w.drop_last_alike.ensures.left)
    ]

pub returns-clause-current : goal.returns-clause-current
returns-clause-current g c = (way g (goal.at.returns-clause-current g c).After-lower).leaves

pub returns-clause-kinds : goal.returns-clause-kinds
returns-clause-kinds g c = (way g (goal.at.returns-clause-kinds g c).After-lower).kinds

pub returns-clause-bounds : goal.returns-clause-bounds
returns-clause-bounds g c = (way g (goal.at.returns-clause-bounds g c).After-lower).bounds
