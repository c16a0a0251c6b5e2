use Rattle.std.proofs.Common.{length, length-set, sym, ap, ◌∙◌, arith, length-take-le}
use Rattle.pw_info.specs.GroupNames.{names_in}
use Rattle.pw_decl.specs.inside.Fields.{declared}
use Rattle.pw_transcript.specs.inside.Grouping.{held_groups}
use Rattle.pw_transcript.proofs.GroupPremises.{known_rest, named_step, too_many_named}
use Rattle.pw_transcript.proofs.choice_text.with_group.Goals as goal

pub loop-name-smaller : goal.loop-name-smaller
loop-name-smaller g c = omega (arith, ap length c.in-Some.ensures)

pub slice_bounds-with-end : goal.slice_bounds-with-end
slice_bounds-with-end g c =
    let inv = c.loop-name.invariant in
    sym (length-take-le c.loop-name.count c.loop-name.premises (omega (arith, inv.room, inv.most)))

pub slice_bounds-one-end : goal.slice_bounds-one-end
slice_bounds-one-end g c =
    let inv = c.loop-name.invariant in
    sym (length-take-le c.loop-name.count c.loop-name.premises (omega (arith, inv.room, inv.most)))

pub loop-name-preserved : goal.loop-name-preserved
loop-name-preserved g c =
    let inv = c.loop-name.invariant in
    let d = declared c.args.declaration.now in
    record {
      room = length-set c.loop-name.premises c.loop-name.count c.in-Some-premise.premise ∙ inv.room;
      most = omega arith;
      counted = omega (arith, inv.counted, ap length c.in-Some.ensures);
      named = named_step d _ c.loop-name.premises c.loop-name.names c.next.new.self c.in-Some.name.now c.loop-name.count c.in-Some-premise.premise
          inv.named c.in-Some.ensures c.in-Some-premise.ensures.number (omega (arith, inv.room));
      known = known_rest d c.loop-name.names c.next.new.self c.in-Some.name.now c.in-Some.ensures inv.known;
    }

-- there are more names than a group has
pub returns-then-count-ge-MOST_PREMISES-clause-none : goal.returns-then-count-ge-MOST_PREMISES-clause-none
returns-then-count-ge-MOST_PREMISES-clause-none g c =
    too_many_named (declared c.args.declaration.now) (held_groups c.args.groups) (names_in c.args.word.now) c.requires.known
    (omega (arith, c.loop-name.invariant.counted, ap length c.in-Some.ensures))
