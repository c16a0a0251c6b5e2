use Rattle.std.proofs.Common.{refl, sym, ◌∙◌}
use Rattle.pw_decl.specs.inside.Fields.{declared}
use Rattle.pw_transcript.proofs.GroupPremises.{choice_free, premises_are_groups, unknown_refused}
use Rattle.pw_transcript.proofs.GroupsInFull.{groups_full}
use Rattle.pw_transcript.proofs.choice_text.resolve_choose.Goals as goal

pub returns-then-not-are_premises : goal.returns-then-not-are_premises
returns-then-not-are_premises g c =
    record {
      ok = tt;
      none = tt;
      err = unknown_refused (declared c.args.declaration.now) c.args.user c.args.words c.again.result c.again-2.result c.new.result
          c.again.ensures c.again-2.ensures c.new.ensures (c.if-not-are_groups.ensures.0 refl) (sym c.are_premises.ensures ∙ c.if-not-are_premises.true);
    }

pub returns-in_default : goal.returns-in_default
returns-in_default g c =
    absurd (c.in_default.ensures.none
    (premises_are_groups (declared c.args.declaration.now) c.args.words c.again.result c.again-2.result c.new.result
    c.again.ensures c.again-2.ensures c.new.ensures (c.if-not-are_groups.ensures.0 refl) (sym c.if-not-are_premises.ensures)))

pub returns : goal.returns
returns g c =
    let typed = rw c.in-Some.is at c.named_groups.type_inv in
    let (whole, (is, ((fields, (struct_is, ((vals, ((array_is, long), own)), rest))), end))) = typed.1.1 in
    record {
      ok = (c.in-Some.groups, (c.in-Some.ensures.some, long, groups_full c.in-Some.groups.held vals own), refl);
      none = choice_free (declared c.args.declaration.now) c.args.user c.args.words c.again.result c.again-2.result c.new.result
          c.again.ensures c.again-2.ensures c.new.ensures (c.if-not-are_groups.ensures.0 refl) (sym c.if-not-are_premises.ensures);
      err = tt;
    }
