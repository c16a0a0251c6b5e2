use Rattle.std.proofs.Common.{sym, ◌∙◌, subst}
use Rattle.pw_kinds.proofs.Order.{not_both}
use Rattle.pw_info.proofs.Informations.{Implies-antisym}
use Rattle.pw_facts.specs.declared.fact.Fact.{Fact}
use Rattle.pw_facts.specs.Facts.{IsMerge}
use Rattle.pw_facts.proofs.Shown.{implies_same}
use Rattle.pw_facts.proofs.Merges.{merge_is_first, merge_is_second, merge_both}
use Rattle.pw_cells.proofs.merged_facts.merge_in.Goals as goal
use Rattle.pw_cells.proofs.merged_facts.merge_in.Goals.{else-says_same-via-then-says_same+else-rests_within, else-says_same-via-else-says_same}

pub returns-then-implies : goal.returns-then-implies
returns-then-implies g c =
    let merge = c.args.merge.now in
    let held = c.args.held.now in
    merge_is_second merge held c.requires (c.implies-then-not-implies.ensures.0 c.if-implies.true) (λ implied. absurd (not_both _ (c.implies.ensures.1 implied) c.if-not-implies.true))

pub returns-else-implies : goal.returns-else-implies
returns-else-implies g c =
    let merge = c.args.merge.now in
    let held = c.args.held.now in
    subst (IsMerge merge held) (sym {A = Fact} (λ j. record { info = c.joined.ensures.info j; support = c.joined.ensures.support j }))
    (merge_both merge held c.requires (λ implied. not_both _ (c.implies.ensures.1 implied) c.if-not-implies.true) (λ implied. not_both _ (c.implies-then-not-implies.ensures.1 implied) c.if-implies.false))

pub returns-then-rests_within : goal.returns-then-rests_within
returns-then-rests_within g c =
    let merge = c.args.merge.now in
    let held = c.args.held.now in
    merge_is_second merge held c.requires (implies_same held.info merge.info (c.says_same.ensures.0 c.if-says_same.true)) (λ _. sym c.rests_within.ensures ∙ c.if-rests_within.true)

pub returns-else-says_same : goal.returns-else-says_same
returns-else-says_same g c =
    let merge = c.args.merge.now in
    let held = c.args.held.now in
    let says = c.implies.ensures.0 c.if-not-implies.false in
    merge_is_first merge held c.requires says
    (λ implied. elim c.else-says_same.branch [
      | else-says_same-via-then-says_same+else-rests_within w ↦ sym w.rests_within.ensures ∙ w.if-rests_within.false
      | else-says_same-via-else-says_same w ↦
          absurd (not_both _ (c.says_same.ensures.1 (Implies-antisym held.info merge.info (sym c.requires) implied says)) w.if-says_same.false)
    ])
