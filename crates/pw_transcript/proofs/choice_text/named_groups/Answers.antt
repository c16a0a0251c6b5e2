use Rattle.std.proofs.Common.{List, ℕ, sym, ap, ◌∙◌}
use Rattle.pw_info.proofs.Spellings.{IfNone_holds}
use Rattle.pw_info.specs.GroupNames.{names_in}
use Rattle.pw_decl.specs.inside.Fields.{declared}
use Rattle.pw_transcript.specs.Reading.{all_known}
use Rattle.pw_transcript.specs.inside.Grouping.{all_names, held_groups}
use Rattle.pw_transcript.proofs.GroupPremises.{groups_step, known_parts, none_from_first}
use Rattle.pw_transcript.proofs.choice_text.named_groups.Goals as goal

pub returns-in_err-more-clause-none : goal.returns-in_err-more-clause-none
returns-in_err-more-clause-none g c =
    IfNone_holds c.from_residual.result
    (none_from_first (declared c.args.declaration.now) _ (held_groups c.loop-word.groups) c.loop-word.words c.next.new.self c.in-Some.word.now
    c.loop-word.invariant.named c.in-Some.ensures c.in_err-more.ensures.none)

pub loop-word-preserved : goal.loop-word-preserved
loop-word-preserved g c =
    let inv = c.loop-word.invariant in
    let d = declared c.args.declaration.now in
    record {
      named = groups_step d _ (held_groups c.loop-word.groups) _ c.loop-word.words c.next.new.self c.in-Some.word.now
          inv.named c.in-Some.ensures c.in_ok-more.ensures.some;
      known = (known_parts d (names_in c.in-Some.word.now) (all_names c.next.new.self)
          (ap (λ (l : List (List ℕ)). all_known d (all_names l)) (sym c.in-Some.ensures) ∙ inv.known)).1;
    }
