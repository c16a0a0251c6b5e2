use Rattle.std.proofs.Common.{sym, ◌∙◌}
use Rattle.pw_facts.proofs.Merges.{merge_both, merge_is_first, merge_is_second}
use Rattle.pw_cells.specs.Cells.{fact_on}
use Rattle.pw_settle.proofs.settling_aside.merged_narrow.Goals as goal
use Rattle.pw_settle.proofs.settling_aside.merged_narrow.Goals.{else-is_subset-via-then-is_subset+else-implies-2, else-is_subset-via-else-is_subset}

pub returns-then-implies-2 : goal.returns-then-implies-2
returns-then-implies-2 c =
    merge_is_second (fact_on c.args.a.info c.args.a.support) (fact_on c.args.b.info c.args.b.support) c.requires
    (c.implies-then-is_subset.ensures.0 c.if-implies-2.true) (λ _. sym c.is_subset.ensures.subset ∙ c.if-is_subset.true)

pub returns-then-implies : goal.returns-then-implies
returns-then-implies c =
    merge_is_first (fact_on c.args.a.info c.args.a.support) (fact_on c.args.b.info c.args.b.support) c.requires (c.implies.ensures.0 c.if-implies.true)
    (λ implied. elim c.else-is_subset.branch [
      | else-is_subset-via-then-is_subset+else-implies-2 w ↦
          let wrong = w.implies-then-is_subset.ensures.1 implied in let not = w.if-implies-2.false in absurd (cc)
      | else-is_subset-via-else-is_subset w ↦ sym c.is_subset.ensures.subset ∙ w.if-is_subset.false
    ])

pub returns-then-implies-3 : goal.returns-then-implies-3
returns-then-implies-3 c =
    merge_is_second (fact_on c.args.a.info c.args.a.support) (fact_on c.args.b.info c.args.b.support) c.requires (c.implies-2.ensures.0 c.if-implies-3.true)
    (λ implied. let wrong = c.implies.ensures.1 implied in let not = c.if-implies.false in absurd (cc))

pub returns : goal.returns
returns c =
    rw (c.meet.ensures.exact, c.join.ensures.union)
    (merge_both (fact_on c.args.a.info c.args.a.support) (fact_on c.args.b.info c.args.b.support) c.requires
    (λ implied. let wrong = c.implies.ensures.1 implied in let not = c.if-implies.false in absurd (cc))
    (λ implied. let wrong = c.implies-2.ensures.1 implied in let not = c.if-implies-3.false in absurd (cc)))
