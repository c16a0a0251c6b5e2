use Rattle.std.proofs.Common.{◌≡◌, ◌+◌, ◌≤◌, ◌++◌, ◌∷◌, [], cond, length, map, nat_eq, ap, refl, subst, ◌∙◌, arith}
use Rattle.std.specs.List.{list_any}
use Rattle.std.proofs.lemmas.List.{take_all}
use Rattle.pw_network.specs.declared.instance.Instance.{Instance as InstanceType}
use Rattle.pw_network.specs.inside.Held.{attachment}
use Rattle.pw_network.specs.inside.Batches.{AddsInstances}
use Rattle.pw_network.specs.inside.Lists.{listed_by, numbers_for}
use Rattle.pw_network.specs.Readers.{reads}
use Rattle.pw_network.specs.Writers.{writes}
use Rattle.pw_network.proofs.ReaderLemmas.{adds_none, adds_one, holds_from}
use Rattle.pw_network.proofs.attaching.list_instances.Goals as goal

pub append-requires-clause-room : goal.append-requires-clause-room
append-requires-clause-room g c =
    let few = holds_from (λ (y : InstanceType). length (attachment y).instance.inputs ≤ 8) c.args.instances.now c.args.first c.loop-number.number c.index-instances-number.result
    c.loop-number.auto.number c.loop-number-test.true c.index-instances-number.is c.requires.few in
    let same = ap length c.inputs.ensures in
    omega (arith, few, same, c.loop-number.auto.number, c.loop-number-test.true, c.requires.room.to_read, c.loop-number.invariant.reader_links, c.loop-number.invariant.reader_room)

pub append_to-requires-clause-room : goal.append_to-requires-clause-room
append_to-requires-clause-room g c =
    omega (arith, c.loop-number.auto.number, c.loop-number-test.true, c.requires.room.to_write, c.loop-number.invariant.writer_links, c.loop-number.invariant.writer_room)

pub append_to-requires-clause-few : goal.append_to-requires-clause-few
append_to-requires-clause-few g c =
    omega (arith, c.loop-number.auto.number, c.loop-number-test.true, c.requires.room.places_written, c.loop-number.invariant.writer_links)

pub append-requires-clause-few : goal.append-requires-clause-few
append-requires-clause-few g c =
    let few = holds_from (λ (y : InstanceType). length (attachment y).instance.inputs ≤ 8) c.args.instances.now c.args.first c.loop-number.number c.index-instances-number.result
    c.loop-number.auto.number c.loop-number-test.true c.index-instances-number.is c.requires.few in
    let same = ap length c.inputs.ensures in
    omega (arith, few, same, c.loop-number.auto.number, c.loop-number-test.true, c.requires.room.places_read, c.loop-number.invariant.reader_links)

pub loop-number-init : goal.loop-number-init
loop-number-init g c = record {
  readers = adds_none reads c.args.writers.now.ends.len c.args.instances.now c.args.first (map listed_by c.args.readers.now.links.items)
      (map listed_by c.args.readers.now.links.items) c.requires.there refl;
  writers = adds_none writes c.args.writers.now.ends.len c.args.instances.now c.args.first (map listed_by c.args.writers.now.links.items)
      (map listed_by c.args.writers.now.links.items) c.requires.there refl;
  kept = λ list from below. refl;
  lists = refl;
  writer_lists = refl;
  reader_links = omega arith;
  reader_room = omega arith;
  writer_links = omega arith;
  writer_room = omega arith;
}

pub loop-number-preserved : goal.loop-number-preserved
loop-number-preserved g c =
    let number = c.loop-number.number in
    let instances = c.args.instances.now in
    let x = c.index-instances-number.result in
    let few = holds_from (λ (y : InstanceType). length (attachment y).instance.inputs ≤ 8) instances c.args.first number x
    c.loop-number.auto.number c.loop-number-test.true c.index-instances-number.is c.requires.few in
    let same = ap length c.inputs.ensures in
    record {
      readers = adds_one reads c.args.writers.now.ends.len instances c.args.first number x (map listed_by c.args.readers.now.links.items)
          (map listed_by c.loop-number.readers.links.items) (map listed_by c.append.new.self.links.items)
          c.loop-number.auto.number c.loop-number-test.true c.index-instances-number.is
          (λ cell below. let at : 0 + cell ≡ cell = omega arith in
          subst (λ n. numbers_for n (map listed_by c.append.new.self.links.items) ≡ numbers_for n (map listed_by c.loop-number.readers.links.items)
          ++ cond (reads cell (attachment x)) (number ∷ []) []) at
          (c.append.ensures.added.own cell (omega (arith, below, c.len.ensures, c.loop-number.invariant.writer_lists))
          ∙ ap (λ l. numbers_for (0 + cell) (map listed_by c.loop-number.readers.links.items) ++ cond (list_any (nat_eq cell) l) (number ∷ []) []) c.inputs.ensures))
          c.loop-number.invariant.readers;
      writers = adds_one writes c.args.writers.now.ends.len instances c.args.first number x (map listed_by c.args.writers.now.links.items)
          (map listed_by c.loop-number.writers.links.items) (map listed_by c.append_to.new.self.links.items)
          c.loop-number.auto.number c.loop-number-test.true c.index-instances-number.is
          (λ cell below. c.append_to.ensures.added cell (omega (arith, below, c.loop-number.invariant.writer_lists))) c.loop-number.invariant.writers;
      kept = λ list from below. c.append.ensures.added.after list (omega (arith, from, c.len.ensures, c.loop-number.invariant.writer_lists)) ∙ c.loop-number.invariant.kept list from below;
      lists = omega (arith, c.append.ensures.lists, c.loop-number.invariant.lists);
      writer_lists = omega (arith, c.append_to.ensures.lists, c.loop-number.invariant.writer_lists);
      reader_links = omega (arith, few, same, c.loop-number.auto.number, c.append.ensures.links, c.loop-number.invariant.reader_links);
      reader_room = omega (arith, c.append.ensures.room, c.loop-number.invariant.reader_room);
      writer_links = omega (arith, c.loop-number.auto.number, c.append_to.ensures.links, c.loop-number.invariant.writer_links);
      writer_room = omega (arith, c.append_to.ensures.room, c.loop-number.invariant.writer_room);
    }

pub returns-clause-readers : goal.returns-clause-readers
returns-clause-readers g c =
    subst (λ l. AddsInstances reads c.args.writers.now.ends.len l c.args.first (map listed_by c.args.readers.now.links.items) (map listed_by c.loop-number.readers.links.items))
    (take_all c.loop-number.number c.args.instances.now c.loop-number-test.false) c.loop-number.invariant.readers

pub returns-clause-writers : goal.returns-clause-writers
returns-clause-writers g c =
    subst (λ l. AddsInstances writes c.args.writers.now.ends.len l c.args.first (map listed_by c.args.writers.now.links.items) (map listed_by c.loop-number.writers.links.items))
    (take_all c.loop-number.number c.args.instances.now c.loop-number-test.false) c.loop-number.invariant.writers
