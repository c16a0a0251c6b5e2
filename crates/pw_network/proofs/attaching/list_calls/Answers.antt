use Rattle.std.proofs.Common.{◌≡◌, suc, ◌+◌, ◌++◌, ◌∷◌, [], length, map, get_or, append-nil, append_assoc, ap, refl, subst, sym, ◌∙◌, arith}
use Rattle.std.proofs.lemmas.List.{take_all}
use Rattle.pw_network.specs.inside.Batches.{AddsCalls, calls_from, least_calls}
use Rattle.pw_network.specs.inside.Lists.{listed_by, numbers_for}
use Rattle.pw_network.proofs.BatchLemmas.{calls_more, calls_push}
use Rattle.pw_network.proofs.attaching.list_calls.Goals as goal

pub loop-place-init : goal.loop-place-init
loop-place-init g c = record {
  calls = sym (append-nil c.args.calls.now.items);
  len = omega arith;
  capacity = refl;
  added = λ list below. sym (append-nil (numbers_for list (map listed_by c.args.lists.now.links.items)));
  lists = refl;
  links = omega arith;
  room = omega arith;
}

pub loop-place-preserved : goal.loop-place-preserved
loop-place-preserved g c =
    let place = c.loop-place.place in
    let cells = c.args.cells.now in
    let first = c.args.first in
    let list = c.args.list in
    let next : suc place ≡ place + 1 = omega arith in
    record {
      calls = c.push_reserved.ensures.items
          ∙ ap (λ l. l ++ record { first = first; list = list + place } ∷ []) c.loop-place.invariant.calls
          ∙ append_assoc c.args.calls.now.items (calls_from first list place) (record { first = first; list = list + place } ∷ [])
          ∙ ap (λ l. c.args.calls.now.items ++ l) (sym (calls_push first list place (list + place) refl) ∙ ap (calls_from first list) next);
      len = omega (arith, c.push_reserved.ensures.len, c.loop-place.invariant.len);
      capacity = c.push_reserved.ensures.capacity ∙ c.loop-place.invariant.capacity;
      added = calls_more c.args.lists.now.ends.len (least_calls + c.args.calls.now.len) cells place (get_or cells place 0) (least_calls + c.len.result)
          (map listed_by c.args.lists.now.links.items) (map listed_by c.loop-place.lists.links.items) (map listed_by c.append_to.new.self.links.items)
          c.loop-place-test.true refl (omega (arith, c.len.ensures, c.loop-place.invariant.len))
          (λ other below. c.append_to.ensures.added other (omega (arith, below, c.loop-place.invariant.lists))) c.loop-place.invariant.added;
      lists = c.append_to.ensures.lists ∙ c.loop-place.invariant.lists;
      links = omega (arith, c.append_to.ensures.links, c.loop-place.invariant.links);
      room = omega (arith, c.append_to.ensures.room, c.loop-place.invariant.room);
    }

pub returns-clause-calls : goal.returns-clause-calls
returns-clause-calls g c =
    let all : c.loop-place.place ≡ length c.args.cells.now = omega (arith, c.loop-place-test.false, c.loop-place.auto.place-end) in
    c.loop-place.invariant.calls ∙ ap (λ n. c.args.calls.now.items ++ calls_from c.args.first c.args.list n) all

pub returns-clause-added : goal.returns-clause-added
returns-clause-added g c =
    subst (λ l. AddsCalls c.args.lists.now.ends.len (least_calls + c.args.calls.now.len) l (map listed_by c.args.lists.now.links.items) (map listed_by c.loop-place.lists.links.items))
    (take_all c.loop-place.place c.args.cells.now c.loop-place-test.false) c.loop-place.invariant.added

pub returns-clause-count : goal.returns-clause-count
returns-clause-count g c = omega (arith, c.loop-place.invariant.len, c.loop-place-test.false, c.loop-place.auto.place-end)
