use Rattle.std.proofs.Common.{◌≡◌, ◌+◌, ◌≤◌, ◌++◌, ◌∷◌, [], drop, length, take, refl, ap, ◌∙◌, arith}
use Rattle.std.proofs.lemmas.List.{drop-append-le, take-append-le, take_all}
use Rattle.std.proofs.lemmas.List.Elements.{All-push, All-same}
use Rattle.pw_decl.specs.Expansion.{at_place}
use Rattle.pw_network.specs.declared.instance.Instance.{Instance as InstanceType}
use Rattle.pw_network.specs.inside.Held.{attached_on, attachment, cells_placed}
use Rattle.pw_network.proofs.AttachedCells.{instances_more}
use Rattle.pw_network.proofs.attaching.push_calls.Goals as goal

pub loop-call-preserved : goal.loop-call-preserved
loop-call-preserved g c =
    let name = at_place c.args.cells.now (λ j. c.args.first + j) in
    let i = c.loop-call.call-index in
    let n = length c.args.instances.now.items in
    let before = c.loop-call.instances.items in
    let after = c.push_reserved.new.self.items in
    let x = c.in_ok-instance.instance in
    let placed = cells_placed c.args.cells.now c.args.first c.call-item.result in
    let pushed : after ≡ before ++ x ∷ [] = c.push_reserved.ensures.items in
    let many : n ≤ length before = omega (arith, c.args.instances.now.ok.0, c.loop-call.instances.ok.0, c.loop-call.invariant.len) in
    let more : drop n after ≡ drop n before ++ x ∷ [] = ap (drop n) pushed ∙ drop-append-le n before (x ∷ []) many in
    record {
      first = ap (take n) pushed ∙ take-append-le n before (x ∷ []) many ∙ c.loop-call.invariant.first;
      made = instances_more c.args.attached.now.value.line c.args.attached.now.value.support name [] (drop n before) (drop n after) c.args.calls.now i c.call-item.result placed x
          c.loop-call-test.true c.call-item.is more refl c.in_ok-instance.ensures.instance
          c.in_ok-instance.ensures.line c.in_ok-instance.ensures.support c.loop-call.invariant.made;
      len = omega (arith, c.push_reserved.ensures.len, c.loop-call.invariant.len);
      room = omega (arith, c.loop-call.invariant.room, c.push_reserved.ensures.capacity);
      few = All-same (λ (y : InstanceType). length (attachment y).instance.inputs ≤ 8) (drop n after) (drop n before ++ x ∷ []) more
          (All-push (λ (y : InstanceType). length (attachment y).instance.inputs ≤ 8) (drop n before) x c.loop-call.invariant.few c.in_ok-instance.ensures.few);
    }

pub returns-clause-appended : goal.returns-clause-appended
returns-clause-appended g c =
    record {
      before = c.loop-call.invariant.first;
      made = c.loop-call.invariant.made
          ∙ ap (λ l. attached_on c.args.attached.now.value.line c.args.attached.now.value.support c.args.cells.now c.args.first l)
          (take_all c.loop-call.call-index c.args.calls.now c.loop-call-test.false);
      few = c.loop-call.invariant.few;
    }
