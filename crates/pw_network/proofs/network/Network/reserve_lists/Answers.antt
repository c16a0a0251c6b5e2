use Rattle.std.proofs.Common.{map, refl, arith, vec_len}
use Rattle.std.specs.Prelude.{Result, Ok, Err, OnOk}
use Rattle.pw_decl.specs.inside.Fields.{declared}
use Rattle.pw_network.specs.inside.Held.{attachment}
use Rattle.pw_network.proofs.AllListed.{all_in_room}
use Rattle.pw_network.proofs.CompoundListLemmas.{inner_in_room, own_in_room}
use Rattle.pw_network.proofs.network.Network.reserve_lists.Goals as goal

pub invariant_of-self : goal.invariant_of-self
invariant_of-self g c =
    let old = c.args.self.now in
    let least = vec_len old.writers.ends in
    let count = vec_len old.readers.ends in
    let more = vec_len c.reserve.new.self.ends in
    let links = old.readers.links.items in
    let now = c.reserve.new.self.links.items in
    let attached = map attachment old.instances.items in
    record {
      well = old.well;
      read_cells = omega (arith, old.read_cells, c.reserve.ensures.lists);
      declared_cells = old.declared_cells;
      listed = all_in_room old.calls.items old.readers old.writers c.reserve.new.self old.writers c.reserve.ensures.lists refl attached c.reserve.ensures.links refl old.listed;
      own = own_in_room least least count more links now refl c.reserve.ensures.lists c.reserve.ensures.links (declared old.declaration.now).compounds old.compounds old.own;
      inner_read = inner_in_room least least count more links now refl c.reserve.ensures.lists c.reserve.ensures.links attached old.inner.items old.inner_read;
      visible = old.visible;
    }

pub invariant_of-self-2 : goal.invariant_of-self-2
invariant_of-self-2 g c =
    let old = c.args.self.now in
    let least = vec_len old.writers.ends in
    let now_least = vec_len c.reserve-2.new.self.ends in
    let count = vec_len old.readers.ends in
    let more = vec_len c.reserve.new.self.ends in
    let links = old.readers.links.items in
    let now = c.reserve.new.self.links.items in
    let attached = map attachment old.instances.items in
    record {
      well = old.well;
      read_cells = omega (arith, old.read_cells, c.reserve.ensures.lists);
      declared_cells = omega (arith, old.declared_cells, c.reserve-2.ensures.lists);
      listed = all_in_room old.calls.items old.readers old.writers c.reserve.new.self c.reserve-2.new.self c.reserve.ensures.lists c.reserve-2.ensures.lists attached
          c.reserve.ensures.links c.reserve-2.ensures.links old.listed;
      own = own_in_room least now_least count more links now c.reserve-2.ensures.lists c.reserve.ensures.lists c.reserve.ensures.links
          (declared old.declaration.now).compounds old.compounds old.own;
      inner_read = inner_in_room least now_least count more links now c.reserve-2.ensures.lists c.reserve.ensures.lists c.reserve.ensures.links attached old.inner.items old.inner_read;
      visible = old.visible;
    }

both : {T E : Type 0} (r : Result T E) {P Q R : Type 0} → (P → Q → R) → OnOk r P → OnOk r Q → OnOk r R
both (Ok x) f p q = f p q
both (Err e) f p q = p

pub returns-clause-room : goal.returns-clause-room
returns-clause-room g c =
    both c.reserve-2.result
    (λ to_write few. record {
      to_read = omega (arith, c.in_ok-reserve.ensures.room_for_links);
      places_read = omega (arith, c.in_ok-reserve.ensures.few_links);
      to_write = to_write;
      places_written = few;
    })
    c.reserve-2.ensures.room_for_links c.reserve-2.ensures.few_links
