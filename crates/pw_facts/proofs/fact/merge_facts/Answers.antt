use Rattle.std.proofs.Common.{sym, ◌∙◌}
use Rattle.pw_facts.proofs.Merges.{merge_both, merge_is_first, merge_is_second, merge_shows, merge_rests}
use Rattle.pw_facts.proofs.fact.merge_facts.Goals as goal
use Rattle.pw_facts.proofs.fact.merge_facts.Goals.{else-is_subset-via-then-is_subset+else-implies-2, else-is_subset-via-else-is_subset}

pub returns-then-implies-2-clause-rule : goal.returns-then-implies-2-clause-rule
returns-then-implies-2-clause-rule c =
    merge_is_second c.args.a.now c.args.b.now c.requires (c.implies-then-is_subset.ensures.0 c.if-implies-2.true)
    (λ _. sym c.is_subset.ensures.subset ∙ c.if-is_subset.true)

pub returns-then-implies-2-clause-shows : goal.returns-then-implies-2-clause-shows
returns-then-implies-2-clause-shows c = λ w e. merge_shows c.args.a.now c.args.b.now _ w c.requires (returns-then-implies-2-clause-rule c) e

pub returns-then-implies-2-clause-rests : goal.returns-then-implies-2-clause-rests
returns-then-implies-2-clause-rests c = merge_rests c.args.a.now c.args.b.now _ (returns-then-implies-2-clause-rule c)

pub returns-then-implies-clause-rule : goal.returns-then-implies-clause-rule
returns-then-implies-clause-rule c =
    merge_is_first c.args.a.now c.args.b.now c.requires (c.implies.ensures.0 c.if-implies.true)
    (λ implied. elim c.else-is_subset.branch [
      | else-is_subset-via-then-is_subset+else-implies-2 w ↦
          let wrong = w.implies-then-is_subset.ensures.1 implied in let not = w.if-implies-2.false in absurd (cc)
      | else-is_subset-via-else-is_subset w ↦ sym c.is_subset.ensures.subset ∙ w.if-is_subset.false
    ])

pub returns-then-implies-clause-shows : goal.returns-then-implies-clause-shows
returns-then-implies-clause-shows c = λ w e. merge_shows c.args.a.now c.args.b.now _ w c.requires (returns-then-implies-clause-rule c) e

pub returns-then-implies-clause-rests : goal.returns-then-implies-clause-rests
returns-then-implies-clause-rests c = merge_rests c.args.a.now c.args.b.now _ (returns-then-implies-clause-rule c)

pub returns-then-implies-3-clause-rule : goal.returns-then-implies-3-clause-rule
returns-then-implies-3-clause-rule c =
    merge_is_second c.args.a.now c.args.b.now c.requires (c.implies-2.ensures.0 c.if-implies-3.true)
    (λ implied. let wrong = c.implies.ensures.1 implied in let not = c.if-implies.false in absurd (cc))

pub returns-then-implies-3-clause-shows : goal.returns-then-implies-3-clause-shows
returns-then-implies-3-clause-shows c = λ w e. merge_shows c.args.a.now c.args.b.now _ w c.requires (returns-then-implies-3-clause-rule c) e

pub returns-then-implies-3-clause-rests : goal.returns-then-implies-3-clause-rests
returns-then-implies-3-clause-rests c = merge_rests c.args.a.now c.args.b.now _ (returns-then-implies-3-clause-rule c)

pub returns-clause-rule : goal.returns-clause-rule
returns-clause-rule c =
    rw (c.meet.ensures.exact, c.join.ensures.union)
    (merge_both c.args.a.now c.args.b.now c.requires
    (λ implied. let wrong = c.implies.ensures.1 implied in let not = c.if-implies.false in absurd (cc))
    (λ implied. let wrong = c.implies-2.ensures.1 implied in let not = c.if-implies-3.false in absurd (cc)))

pub returns-clause-shows : goal.returns-clause-shows
returns-clause-shows c = λ w e. merge_shows c.args.a.now c.args.b.now _ w c.requires (returns-clause-rule c) e

pub returns-clause-rests : goal.returns-clause-rests
returns-clause-rests c = merge_rests c.args.a.now c.args.b.now _ (returns-clause-rule c)
