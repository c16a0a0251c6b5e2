use Rattle.std.proofs.Common.{◌≡◌, ◌<◌, ◌∷◌, ◌++◌, [], refl, false, true, drop, length, vec_capacity, sym, ap, ◌∙◌, arith, length-append}
use Rattle.std.proofs.lemmas.List.{get_or_default, length-set}
use Rattle.pw_settle.specs.Calls.{is_set}
use Rattle.pw_settle.proofs.AgendaLemmas.{queue_listed, tally_room}
use Rattle.pw_settle.proofs.agenda.Agenda.add.Goals as goal

pub make_room-requires-clause-room : goal.make_room-requires-clause-room
make_room-requires-clause-room g c =
    let queued = c.self.inside.queued.items in
    let below : c.args.number < length queued = omega (arith, c.requires, ap length c.self.view_is) in
    let free : is_set queued c.args.number ≡ false =
    get_or_default queued c.args.number false c.index.result.now below ∙ sym c.index.ensures ∙ c.if-not-index.true in
    omega (arith, c.self.invariant.0.count, tally_room queued c.args.number below free, c.self.invariant.0.room)

pub invariant_of-self : goal.invariant_of-self
invariant_of-self g c =
    let queued = c.self.inside.queued.items in
    let waiting = drop c.self.inside.taken c.self.inside.listed.items in
    let below : c.args.number < length queued = omega (arith, c.requires, ap length c.self.view_is) in
    let free : is_set queued c.args.number ≡ false =
    get_or_default queued c.args.number false c.index.result.now below ∙ sym c.index.ensures ∙ c.if-not-index.true in
    let items = c.push_reserved.ensures.items in
    rw items (
      queue_listed queued waiting c.make_room.new.listed.items (c.make_room.new.listed.items ++ c.args.number ∷ []) c.make_room.new.taken (vec_capacity c.self.inside.listed)
          (vec_capacity c.push_reserved.new.self) c.args.number below free
          (omega (arith, c.push_reserved.ensures.capacity, c.make_room.ensures.capacity)) c.make_room.ensures.waiting c.make_room.ensures.place refl c.self.invariant.0,
      omega (arith, length-set queued c.args.number true, c.self.invariant.1),
      omega (arith, c.make_room.ensures.place, length-append c.make_room.new.listed.items (c.args.number ∷ [])),
    )
