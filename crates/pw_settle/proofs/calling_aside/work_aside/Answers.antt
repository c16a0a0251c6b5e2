use Rattle.std.proofs.Common.{◌≡◌, ◌+◌, Bool, false, List, length, ap, ◌∙◌, arith}
use Rattle.std.proofs.lemmas.List.{length-map, length-set}
use Rattle.std.proofs.lemmas.List.Sums.{count_by-le-length}
use Rattle.pw_cells.specs.Cells.{Cell}
use Rattle.pw_network.specs.Wiring.{wiring}
use Rattle.pw_settle.specs.Calls.{is_instance_visible, is_set, tally}
use Rattle.pw_settle.specs.inside.Aside.{weight_of}
use Rattle.pw_settle.proofs.AsideEnds.{weight_bound}
use Rattle.pw_settle.proofs.AsideNews.{says_same, says_then}
use Rattle.pw_settle.proofs.SettledStores.{calls_fit}
use Rattle.pw_settle.proofs.TakenFlags.{taken_less, taken_others, taken_were, tally_none}
use Rattle.pw_settle.proofs.calling_aside.work_aside.Given as given
use Rattle.pw_settle.proofs.calling_aside.work_aside.Goals as goal

pub call_aside-requires-clause-room : goal.call_aside-requires-clause-room
call_aside-requires-clause-room g c =
    calls_fit c.loop-number.calls (tally c.loop-number.agenda) (weight_of (wiring c.args.network.now) c.args.worldview.now c.loop-number.known.infos.items)
    (tally c.args.agenda.now) (weight_of (wiring c.args.network.now) c.args.worldview.now c.args.known.now.infos.items)
    (length c.args.known.now.infos.items) (length (wiring c.args.network.now).attached) c.loop-number.invariant.most
    (omega (
      arith,
      count_by-le-length (λ (flag : Bool). flag) c.args.agenda.now,
      c.requires.underway.flags,
    ))
    (weight_bound (wiring c.args.network.now) c.args.worldview.now c.args.known.now.infos.items)
    (omega (
      arith,
      c.cells-cells.ensures,
      c.requires.underway.found.many,
      ap length c.requires.underway.kinds,
      length-map c.args.store.now.cells (λ (x : Cell). x.kind),
    )) (omega (
      arith,
      ap length c.requires.visible,
      length-map (wiring c.args.network.now).attached (is_instance_visible c.args.worldview.now),
    ))

pub call_aside-requires-clause-others : goal.call_aside-requires-clause-others
call_aside-requires-clause-others g c n d below other seen free =
    c.loop-number.invariant.further.underway.satisfied n d below seen
    (taken_others c.loop-number.agenda c.take.new.self c.in-Some.number n c.in-Some.ensures.some.1 other free)

-- the one that was taken is one less
less : (g : given.Over) (c : goal.In_ok-call_aside g) → tally c.take.new.self + 1 ≡ tally c.loop-number.agenda
less g c = taken_less c.loop-number.agenda c.take.new.self c.in-Some.number c.in-Some.ensures.some.1 c.in-Some.ensures.some.0

pub loop-number-smaller : goal.loop-number-smaller
loop-number-smaller g c = omega (arith, c.in_ok-call_aside.ensures.most, less g c)

pub loop-number-init : goal.loop-number-init
loop-number-init g c = record {
  further = record {
    underway = c.requires.underway;
    more = says_same c.args.known.now.infos.items c.args.known.now.supports;
    lie = λ given rests lie. lie;
  };
  least = omega arith;
  most = omega arith;
}

pub loop-number-preserved : goal.loop-number-preserved
loop-number-preserved g c =
    let before = c.loop-number.invariant.further in
    let then = c.in_ok-call_aside.ensures.further in
    record {
      further = record {
        underway = then.underway;
        more = says_then c.args.known.now.infos.items c.loop-number.known.infos.items c.call_aside.new.known.infos.items c.args.known.now.supports
            c.loop-number.known.supports c.call_aside.new.known.supports before.more then.more;
        lie = λ given rests lie. then.lie given rests (before.lie given rests lie);
      };
      least = omega (arith, c.loop-number.invariant.least, c.call_aside.ensures.least, c.call_aside.ensures.counted, less g c);
      most = omega (arith, c.loop-number.invariant.most, c.in_ok-call_aside.ensures.most, c.call_aside.ensures.counted, less g c);
    }

pub call_aside-requires-clause-kinds : goal.call_aside-requires-clause-kinds
call_aside-requires-clause-kinds g c = c.requires.underway.kinds

pub call_aside-requires-clause-found : goal.call_aside-requires-clause-found
call_aside-requires-clause-found g c = c.loop-number.invariant.further.underway.found

pub call_aside-requires-clause-flags : goal.call_aside-requires-clause-flags
call_aside-requires-clause-flags g c =
    ap length c.in-Some.ensures.some.1 ∙ length-set c.loop-number.agenda c.in-Some.number false ∙ c.loop-number.invariant.further.underway.flags

pub call_aside-requires-clause-seen : goal.call_aside-requires-clause-seen
call_aside-requires-clause-seen g c n flag =
    c.loop-number.invariant.further.underway.seen n
    (taken_were c.loop-number.agenda c.take.new.self c.in-Some.number n c.in-Some.ensures.some.1 c.in-Some.ensures.some.0 flag)

pub call_aside-requires-clause-number : goal.call_aside-requires-clause-number
call_aside-requires-clause-number g c = c.loop-number.invariant.further.underway.seen c.in-Some.number c.in-Some.ensures.some.0

pub returns-clause-further : goal.returns-clause-further
returns-clause-further g c = rw (c.in_default.ensures.left) c.loop-number.invariant.further

pub returns-clause-done : goal.returns-clause-done
returns-clause-done g c n = ap (λ (l : List Bool). is_set l n) c.in_default.ensures.left ∙ c.in_default.ensures.none n

pub returns-clause-least : goal.returns-clause-least
returns-clause-least g c = omega (arith, c.loop-number.invariant.least, tally_none c.loop-number.agenda c.in_default.ensures.none)
