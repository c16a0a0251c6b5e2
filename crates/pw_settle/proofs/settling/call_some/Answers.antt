use Rattle.std.proofs.Common.{◌≡◌, ◌+◌, Bool, false, List, length, ap, ◌∙◌, arith}
use Rattle.std.proofs.lemmas.List.{length-map, length-set}
use Rattle.std.proofs.lemmas.List.Sums.{count_by-le-length}
use Rattle.pw_cells.proofs.Stores.{OnErr_always}
use Rattle.pw_network.specs.Wiring.{wiring}
use Rattle.pw_network.specs.inside.Held.{attachment}
use Rattle.pw_settle.specs.Calls.{is_set, tally}
use Rattle.pw_settle.specs.inside.Progress.{weight}
use Rattle.pw_settle.proofs.FurtherSettlings.{refused_further, were_then}
use Rattle.pw_settle.proofs.Growing.{keeps_more_same, keeps_more_then}
use Rattle.pw_settle.proofs.SettledStores.{calls_fit, weight_most}
use Rattle.pw_settle.proofs.TakenFlags.{taken_less, taken_others, taken_were, tally_none}
use Rattle.pw_settle.proofs.settling.call_some.Given as given
use Rattle.pw_settle.proofs.settling.call_some.Goals as goal
use Rattle.pw_settle.proofs.settling.call_some.Goals.{In_ok-are_many}

pub call-requires-clause-room : goal.call-requires-clause-room
call-requires-clause-room g c =
    calls_fit c.loop-number.calls (tally c.loop-number.agenda) (weight (wiring c.args.network.now) c.loop-number.store c.args.worldview.now)
    (tally c.args.agenda.now) (weight (wiring c.args.network.now) c.args.store.now c.args.worldview.now)
    (length c.args.store.now.cells) (length (wiring c.args.network.now).attached) c.loop-number.invariant.most
    (omega (
      arith,
      count_by-le-length (λ (flag : Bool). flag) c.args.agenda.now,
      c.requires.flags,
    ))
    (weight_most (wiring c.args.network.now) c.args.store.now c.args.worldview.now)
    (omega (arith, c.cells-cells.ensures)) (omega (
      arith,
      ap length c.instances-instances.ensures.instances,
      length-map c.instances-instances.result.now attachment,
    ))

pub call-requires-clause-kinds : goal.call-requires-clause-kinds
call-requires-clause-kinds g c = c.loop-number.invariant.underway.kinds

pub call-requires-clause-kept : goal.call-requires-clause-kept
call-requires-clause-kept g c = c.loop-number.invariant.underway.kept

pub call-requires-clause-flags : goal.call-requires-clause-flags
call-requires-clause-flags g c =
    ap length c.in-Some.ensures.some.1 ∙ length-set c.loop-number.agenda c.in-Some.number false ∙ c.loop-number.invariant.underway.flags

pub call-requires-clause-seen : goal.call-requires-clause-seen
call-requires-clause-seen g c n flag =
    c.loop-number.invariant.underway.seen n
    (taken_were c.loop-number.agenda c.take.new.self c.in-Some.number n c.in-Some.ensures.some.1 c.in-Some.ensures.some.0 flag)

pub call-requires-clause-number : goal.call-requires-clause-number
call-requires-clause-number g c = c.loop-number.invariant.underway.seen c.in-Some.number c.in-Some.ensures.some.0

pub call-requires-clause-others : goal.call-requires-clause-others
call-requires-clause-others g c n d below other seen free =
    c.loop-number.invariant.underway.satisfied n d below seen
    (taken_others c.loop-number.agenda c.take.new.self c.in-Some.number n c.in-Some.ensures.some.1 other free)

-- the one that was taken is one less
less : (g : given.Over) (c : In_ok-are_many g) → tally c.take.new.self + 1 ≡ tally c.loop-number.agenda
less g c = taken_less c.loop-number.agenda c.take.new.self c.in-Some.number c.in-Some.ensures.some.1 c.in-Some.ensures.some.0

pub loop-number-init : goal.loop-number-init
loop-number-init g c = record {
  grows = keeps_more_same (wiring c.args.network.now) c.args.store.now;
  upstream = λ given are. are;
  underway = c.requires;
  idle = λ was. was;
  least = omega arith;
  most = omega arith;
}

pub loop-number-preserved : goal.loop-number-preserved
loop-number-preserved g c = record {
  grows = keeps_more_then (wiring c.args.network.now) c.args.store.now c.loop-number.store c.call.new.store c.loop-number.invariant.grows c.call.ensures.further.grows;
  upstream = λ given are. c.call.ensures.further.upstream given (c.loop-number.invariant.upstream given are);
  underway = c.in_ok-are_many.ensures.further.underway;
  idle = λ was. let flag = c.in-Some.ensures.some.0 in let none = c.loop-number.invariant.idle was c.in-Some.number in absurd (cc);
  least = omega (arith, c.loop-number.invariant.least, c.call.ensures.least, c.call.ensures.counted, less g (goal.at.loop-number-preserved g c).In_ok-are_many);
  most = omega (arith, c.loop-number.invariant.most, c.in_ok-are_many.ensures.most, c.call.ensures.counted, less g (goal.at.loop-number-preserved g c).In_ok-are_many);
}

pub returns-in_err-are_many-clause-further : goal.returns-in_err-are_many-clause-further
returns-in_err-are_many-clause-further g c =
    refused_further c.from_residual.result c.from_residual.ensures.0 (wiring c.args.network.now) c.args.worldview.now c.args.store.now c.args.known.now.supports
    c.call.new.store c.call.new.known.infos.items c.call.new.known.supports c.call.new.agenda
    (keeps_more_then (wiring c.args.network.now) c.args.store.now c.loop-number.store c.call.new.store c.loop-number.invariant.grows c.call.ensures.further.grows)
    (λ given are. c.call.ensures.further.upstream given (c.loop-number.invariant.upstream given are))
    (were_then (wiring c.args.network.now) c.args.store.now c.loop-number.store c.call.new.store c.args.worldview.now c.call.new.known.infos.items
    c.call.new.known.supports c.loop-number.invariant.grows c.in_err-are_many.ensures.further.between)

pub returns-in_err-are_many-clause-waited : goal.returns-in_err-are_many-clause-waited
returns-in_err-are_many-clause-waited g c = OnErr_always c.from_residual.result (λ was.
    let flag = c.in-Some.ensures.some.0 in let none = c.loop-number.invariant.idle was c.in-Some.number in absurd (cc))

pub returns-then-are_many-clause-further : goal.returns-then-are_many-clause-further
returns-then-are_many-clause-further g c = record {
  grows = keeps_more_then (wiring c.args.network.now) c.args.store.now c.loop-number.store c.call.new.store c.loop-number.invariant.grows c.call.ensures.further.grows;
  upstream = λ given are. c.call.ensures.further.upstream given (c.loop-number.invariant.upstream given are);
  underway = c.in_ok-are_many.ensures.further.underway;
  between = tt;
}

pub returns-then-are_many-clause-left : goal.returns-then-are_many-clause-left
returns-then-are_many-clause-left g c not was =
    let flag = c.in-Some.ensures.some.0 in let none = c.loop-number.invariant.idle was c.in-Some.number in absurd (cc)

pub returns-clause-further : goal.returns-clause-further
returns-clause-further g c = record {
  grows = c.loop-number.invariant.grows;
  upstream = c.loop-number.invariant.upstream;
  underway = rw (c.in_default.ensures.left) c.loop-number.invariant.underway;
  between = tt;
}

pub returns-clause-done : goal.returns-clause-done
returns-clause-done g c done n = ap (λ (l : List Bool). is_set l n) c.in_default.ensures.left ∙ c.in_default.ensures.none n

pub returns-clause-least : goal.returns-clause-least
returns-clause-least g c = omega (arith, c.loop-number.invariant.least, tally_none c.loop-number.agenda c.in_default.ensures.none)
