use Rattle.std.proofs.Common.{drop, reverse, take, sym, ◌∙◌, ap, subst}
use Rattle.pw_info.specs.declared.kind.Kind.{Kind}
use Rattle.pw_info.specs.Information.{kind_of, Implies}
use Rattle.pw_facts.specs.Facts.{MergesTo, nothing_known, visible_facts}
use Rattle.pw_cells.specs.inside.OneCell.{AreOfKind}
use Rattle.pw_cells.proofs.Bounds.{kinds_newer, kinds_older}
use Rattle.pw_cells.proofs.CurrentMerges.{merged_current, merged_later_current}
use Rattle.pw_cells.proofs.merged_facts.merged.Given as given
use Rattle.pw_cells.proofs.merged_facts.merged.Goals as goal
use Rattle.pw_cells.proofs.merged_facts.merged.Goals.{After-merge_all_in}

-- the newer facts are merged first
newer : (g : given.Over) (c : After-merge_all_in g) →
    MergesTo (nothing_known c.args.kind) (visible_facts c.args.worldview.now (reverse (drop c.args.bound.now.count c.args.facts.now))) c.merge_all_in.new.merge
newer g c = rw (c.nothing-merge.ensures.exact, c.split_at.ensures.back) at c.merge_all_in.ensures.merges

-- else they are merged into it
older : (g : given.Over) (c : goal.After-merge_all_in-2 g) →
    MergesTo c.merge_all_in.new.merge (visible_facts c.args.worldview.now (reverse (take c.args.bound.now.count c.args.facts.now))) c.merge_all_in-2.new.merge
older g c = rw c.split_at.ensures.front at c.merge_all_in-2.ensures.merges

pub returns-then-implies : goal.returns-then-implies
returns-then-implies g c =
    merged_later_current _ _ _ _ _ c.requires.kinds c.requires.bounds (newer g (goal.at.returns-then-implies g c).After-merge_all_in)
    (subst (λ i. Implies i c.args.bound.now.info) c.info.ensures (c.implies.ensures.0 c.if-implies.true))

pub returns : goal.returns
returns g c =
    merged_current _ _ _ _ _ _ c.requires.kinds (newer g (goal.at.returns g c).After-merge_all_in) (older g c)

pub split_at-requires : goal.split_at-requires
split_at-requires g c = c.requires.bounds.within

pub nothing-merge-requires : goal.nothing-merge-requires
nothing-merge-requires g c = c.requires.fits

pub merge_all_in-requires : goal.merge_all_in-requires
merge_all_in-requires g c =
    subst (λ (k : Kind). AreOfKind k c.split_at.result.1.now) (sym {A = Kind} c.nothing-merge.ensures.kind)
    (kinds_newer _ _ _ _ c.requires.kinds c.split_at.ensures.back)

pub implies-requires : goal.implies-requires
implies-requires g c =
    ap kind_of c.info.ensures ∙ c.merge_all_in.ensures.kind ∙ c.nothing-merge.ensures.kind ∙ sym c.requires.bounds.of_kind

pub merge_all_in-requires-2 : goal.merge_all_in-requires-2
merge_all_in-requires-2 g c =
    subst (λ (k : Kind). AreOfKind k c.split_at.result.0.now) (sym {A = Kind} (c.merge_all_in.ensures.kind ∙ c.nothing-merge.ensures.kind))
    (kinds_older _ _ _ _ c.requires.kinds c.split_at.ensures.front)
