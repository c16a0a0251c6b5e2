use Rattle.std.proofs.Common.{◌≡◌, ◌+◌, ◌-◌, ◌≤◌, drop, length, map, take, refl, sym, ap, subst, ◌∙◌, arith, vec_capacity}
use Rattle.pw_decl.specs.declared.flat_call.FlatCall.{FlatCall}
use Rattle.pw_procs.specs.Registry.{cells_of}
use Rattle.pw_network.specs.Readers.{reads}
use Rattle.pw_network.specs.Writers.{writes}
use Rattle.pw_network.specs.inside.Lists.{listed_by, numbers_for}
use Rattle.pw_network.proofs.CompoundListLemmas.{calls_kept, calls_read, calls_written, count_more}
use Rattle.pw_network.proofs.LinkLemmas.{none_past}
use Rattle.pw_network.proofs.compound_lists.list_calls.Goals as goal

pub loop-number-init : goal.loop-number-init
loop-number-init g c =
    let old = c.args.lists.now in
    let now = c.add.new.self in
    let reserved = c.reserve.new.self in
    let same : now.links.items ≡ old.links.items = ap (λ l. l.items) c.add.ensures.links ∙ c.reserve.ensures.links in
    let len : now.links.len ≡ reserved.links.len = ap (λ l. l.len) c.add.ensures.links in
    let capacity : vec_capacity now.links ≡ vec_capacity reserved.links = ap (λ l. vec_capacity l) c.add.ensures.links in
    let long : length reserved.links.items ≡ length old.links.items = ap length c.reserve.ensures.links in
    let count : reserved.links.len ≡ old.links.len = omega (arith, long, reserved.links.ok.0, old.links.ok.0) in
    record {
      kept = λ list below. ap (λ l. numbers_for list (map listed_by l)) same;
      read = λ place below. ap (λ l. numbers_for (c.len-first.result + place) (map listed_by l)) same
          ∙ none_past (map listed_by old.links.items) (length old.ends.items) (c.len-first.result + place) old.linked.here
          (omega (arith, c.len-first.ensures, c.reserve.ensures.lists, old.ends.ok.0));
      written = λ place below. ap (λ l. numbers_for (c.len-first.result + c.args.places + place) (map listed_by l)) same
          ∙ none_past (map listed_by old.links.items) (length old.ends.items) (c.len-first.result + c.args.places + place) old.linked.here
          (omega (arith, c.len-first.ensures, c.reserve.ensures.lists, old.ends.ok.0));
      count = refl;
      first = c.len-first.ensures ∙ c.reserve.ensures.lists;
      lists = omega (arith, c.add.ensures.lists, c.len-first.ensures);
      few = omega (arith, count, c.in_ok-reserve.ensures.few_links);
      links = omega (arith, len, count);
      room = omega (arith, count, capacity, c.in_ok-reserve.ensures.room_for_links);
    }

pub loop-number-preserved : goal.loop-number-preserved
loop-number-preserved g c =
    let number = c.loop-number.number in
    let calls = c.args.calls.now in
    let call = c.index-calls-number.result in
    let cells = c.cells-cells.result.now in
    let inputs = c.split_at.result.0.now in
    let output = c.split_at.result.1.now in
    let before = map listed_by c.loop-number.lists.links.items in
    let between = map listed_by c.append.new.self.links.items in
    let after = map listed_by c.append-in-loop-number.new.self.links.items in
    let first = c.len-first.result in
    let read : cells ≡ cells_of call.places = c.cells-cells.ensures.cells ∙ ap (λ (k : FlatCall). cells_of k.places) (sym c.index-calls-number.is) in
    let some : 1 ≤ length (cells_of call.places) = subst (λ l. 1 ≤ length l) read c.cells-cells.ensures.some in
    record {
      kept = λ list below. c.append-in-loop-number.ensures.added.before list (omega (arith, below, c.loop-number.invariant.first))
          ∙ c.append.ensures.added.before list (omega (arith, below, c.loop-number.invariant.first)) ∙ c.loop-number.invariant.kept list below;
      read = calls_kept reads first c.args.places (take (number + 1) calls) between after
          (λ place there. c.append-in-loop-number.ensures.added.before (first + place) (omega (arith, there)))
          (calls_read calls number call c.loop-number-test.true c.index-calls-number.is some first c.args.places inputs before between
          (c.split_at.ensures.front ∙ (λ i. take (length (read i) - 1) (read i))) c.loop-number.invariant.count c.append.ensures.added c.loop-number.invariant.read);
      written = calls_written calls number call c.loop-number-test.true c.index-calls-number.is some (first + c.args.places) c.args.places output between after
          (c.split_at.ensures.back ∙ (λ i. drop (length (read i) - 1) (read i))) c.loop-number.invariant.count c.append-in-loop-number.ensures.added
          (calls_kept writes (first + c.args.places) c.args.places (take number calls) before between
          (λ place there. c.append.ensures.added.after (first + c.args.places + place) (omega arith)) c.loop-number.invariant.written);
      count = count_more calls number call c.loop-number-test.true c.index-calls-number.is some c.loop-number.invariant.count;
      first = c.loop-number.invariant.first;
      lists = c.append-in-loop-number.ensures.lists ∙ c.append.ensures.lists ∙ c.loop-number.invariant.lists;
      few = c.loop-number.invariant.few;
      links =
          omega (arith, c.split_at.ensures.front_len, c.split_at.ensures.back_len, c.append.ensures.links, c.append-in-loop-number.ensures.links, c.loop-number.invariant.links, c.cells-cells.ensures.most, c.cells-cells.ensures.some);
      room = omega (arith, c.append-in-loop-number.ensures.room, c.append.ensures.room, c.loop-number.invariant.room);
    }
