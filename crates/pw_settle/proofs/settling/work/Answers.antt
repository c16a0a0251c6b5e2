use Rattle.std.proofs.Common.{◌+◌, ◌<◌, ◌≤◌, ℕ, Bool, List, length, sym, ap, ◌∙◌, subst, arith}
use Rattle.std.proofs.lemmas.List.{length-map}
use Rattle.std.proofs.lemmas.List.Sums.{count_by-le-length}
use Rattle.pw_cells.specs.Cells.{Cell}
use Rattle.pw_cells.proofs.Stores.{OnErr_always}
use Rattle.pw_network.specs.Wiring.{wiring}
use Rattle.pw_network.specs.inside.Held.{attachment}
use Rattle.pw_settle.specs.Calls.{is_set, most_calls, tally}
use Rattle.pw_settle.specs.Growth.{KeepsMore}
use Rattle.pw_settle.specs.inside.Progress.{IsUnderway, weight}
use Rattle.pw_settle.proofs.FurtherSettlings.{refused_further, were_then}
use Rattle.pw_settle.proofs.Growing.{keeps_more_same, keeps_more_then}
use Rattle.pw_settle.proofs.SettledStores.{calls_fit, told_still, weight_most}
use Rattle.pw_settle.proofs.TakenFlags.{tally_none}
use Rattle.pw_settle.proofs.settling.work.Given as given
use Rattle.pw_settle.proofs.settling.work.Goals as goal
use Rattle.pw_settle.proofs.settling.work.Goals.{In_ok-more}

pub loop-more-init : goal.loop-more-init
loop-more-init g c = record {
  grows = keeps_more_same (wiring c.args.network.now) c.args.store.now;
  upstream = λ given are. are;
  underway = c.requires.underway;
  idle = λ was. was;
  least = omega arith;
  most = omega arith;
}

pub call_some-requires : goal.call_some-requires
call_some-requires g c =
    subst (IsUnderway (wiring c.args.network.now) c.loop-more.store c.args.worldview.now c.loop-more.known.infos.items c.loop-more.known.supports)
    (sym {A = List Bool} c.count_anew.ensures) c.loop-more.invariant.underway

-- no less is kept after some were called
grows_more : (g : given.Over) (c : In_ok-more g) → KeepsMore (wiring c.args.network.now) c.args.store.now c.call_some.new.store
grows_more g c =
    keeps_more_then (wiring c.args.network.now) c.args.store.now c.loop-more.store c.call_some.new.store c.loop-more.invariant.grows c.call_some.ensures.further.grows

-- what waits and may be gained bounds the calls so far
most_more : (g : given.Over) (c : In_ok-more g) →
    (c.loop-more.calls + c.in_ok-more.more) + (tally c.call_some.new.agenda + weight (wiring c.args.network.now) c.call_some.new.store c.args.worldview.now)
    ≤ tally c.args.agenda.now + weight (wiring c.args.network.now) c.args.store.now c.args.worldview.now
most_more g c = omega (arith, c.loop-more.invariant.most, c.in_ok-more.ensures.most, ap tally c.count_anew.ensures)

least_more : (g : given.Over) (c : In_ok-more g) → tally c.args.agenda.now ≤ (c.loop-more.calls + c.in_ok-more.more) + tally c.call_some.new.agenda
least_more g c = omega (arith, c.loop-more.invariant.least, c.in_ok-more.ensures.least, ap tally c.count_anew.ensures)

-- so they can be counted
fits : (g : given.Over) (c : In_ok-more g) (calls waits left : ℕ) →
    calls + (waits + left) ≤ tally c.args.agenda.now + weight (wiring c.args.network.now) c.args.store.now c.args.worldview.now → calls < most_calls
fits g c calls waits left most =
    calls_fit calls waits left (tally c.args.agenda.now) (weight (wiring c.args.network.now) c.args.store.now c.args.worldview.now)
    (length c.args.store.now.cells) (length (wiring c.args.network.now).attached) most
    (omega (
      arith,
      count_by-le-length (λ (flag : Bool). flag) c.args.agenda.now,
      c.requires.underway.flags,
    ))
    (weight_most (wiring c.args.network.now) c.args.store.now c.args.worldview.now)
    (omega (arith, c.cells-cells.ensures)) (omega (
      arith,
      ap length c.instances-instances.ensures.instances,
      length-map c.instances-instances.result.now attachment,
    ))

pub overflow_add-calls : goal.overflow_add-calls
overflow_add-calls g c =
    omega (
      arith,
      fits g c (c.loop-more.calls + c.in_ok-more.more) (tally c.call_some.new.agenda) (weight (wiring c.args.network.now) c.call_some.new.store c.args.worldview.now)
          (most_more g c),
    )

pub returns-in_err-more-clause-further : goal.returns-in_err-more-clause-further
returns-in_err-more-clause-further g c =
    refused_further c.from_residual.result c.from_residual.ensures.0 (wiring c.args.network.now) c.args.worldview.now c.args.store.now c.args.known.now.supports
    c.call_some.new.store c.call_some.new.known.infos.items c.call_some.new.known.supports c.call_some.new.agenda
    (keeps_more_then (wiring c.args.network.now) c.args.store.now c.loop-more.store c.call_some.new.store c.loop-more.invariant.grows c.call_some.ensures.further.grows)
    (λ given are. c.call_some.ensures.further.upstream given (c.loop-more.invariant.upstream given are))
    (were_then (wiring c.args.network.now) c.args.store.now c.loop-more.store c.call_some.new.store c.args.worldview.now c.call_some.new.known.infos.items
    c.call_some.new.known.supports c.loop-more.invariant.grows c.in_err-more.ensures.further.between)

pub returns-in_err-more-clause-waited : goal.returns-in_err-more-clause-waited
returns-in_err-more-clause-waited g c = OnErr_always c.from_residual.result (λ was.
    c.in_err-more.ensures.waited (λ n. ap (λ (l : List Bool). is_set l n) c.count_anew.ensures ∙ c.loop-more.invariant.idle was n))

pub returns-then-is_done-clause-further : goal.returns-then-is_done-clause-further
returns-then-is_done-clause-further g c = record {
  grows = grows_more g (goal.at.returns-then-is_done-clause-further g c).In_ok-more;
  upstream = λ given are. c.call_some.ensures.further.upstream given (c.loop-more.invariant.upstream given are);
  underway = c.in_ok-more.ensures.further.underway;
  between = tt;
}

pub returns-then-is_done-clause-least : goal.returns-then-is_done-clause-least
returns-then-is_done-clause-least g c =
    omega (
      arith,
      least_more g (goal.at.returns-then-is_done-clause-least g c).In_ok-more,
      tally_none c.call_some.new.agenda (c.in_ok-more.ensures.done c.if-is_done.true),
    )

pub returns-then-is_done-clause-most : goal.returns-then-is_done-clause-most
returns-then-is_done-clause-most g c = omega (arith, most_more g (goal.at.returns-then-is_done-clause-most g c).In_ok-more)

pub go_on_aside-requires-clause-told : goal.go_on_aside-requires-clause-told
go_on_aside-requires-clause-told g c cell below =
    let grows = grows_more g (goal.at.go_on_aside-requires-clause-told g c).In_ok-more in
    told_still (wiring c.args.network.now) c.args.store.now c.call_some.new.store c.args.worldview.now grows c.requires.told cell
    (omega (
      arith,
      below,
      length-map c.call_some.new.store.cells (λ (x : Cell). x.kind),
      ap length grows.kinds,
      length-map c.args.store.now.cells (λ (x : Cell). x.kind),
    ))

pub returns-in_err-rest-clause-further : goal.returns-in_err-rest-clause-further
returns-in_err-rest-clause-further g c =
    let grows = grows_more g (goal.at.returns-in_err-rest-clause-further g c).In_ok-more in
    refused_further c.from_residual-in_err-rest.result c.from_residual-in_err-rest.ensures.0 (wiring c.args.network.now) c.args.worldview.now c.args.store.now
    c.args.known.now.supports c.go_on_aside.new.store c.go_on_aside.new.known.infos.items c.go_on_aside.new.known.supports c.go_on_aside.new.agenda
    (keeps_more_then (wiring c.args.network.now) c.args.store.now c.call_some.new.store c.go_on_aside.new.store grows c.go_on_aside.ensures.further.grows)
    (λ given are. c.go_on_aside.ensures.further.upstream given (c.call_some.ensures.further.upstream given (c.loop-more.invariant.upstream given are)))
    (were_then (wiring c.args.network.now) c.args.store.now c.call_some.new.store c.go_on_aside.new.store c.args.worldview.now c.go_on_aside.new.known.infos.items
    c.go_on_aside.new.known.supports grows c.in_err-rest.ensures.further.between)

pub returns-in_err-rest-clause-waited : goal.returns-in_err-rest-clause-waited
returns-in_err-rest-clause-waited g c = OnErr_always c.from_residual-in_err-rest.result (λ was.
    c.in_ok-more.ensures.left c.if-is_done.false (λ n. ap (λ (l : List Bool). is_set l n) c.count_anew.ensures ∙ c.loop-more.invariant.idle was n))

-- the same in the end
most_rest : (g : given.Over) (c : goal.In_ok-rest g) →
    (c.loop-more.calls + c.in_ok-more.more + c.in_ok-rest.rest) + weight (wiring c.args.network.now) c.go_on_aside.new.store c.args.worldview.now
    ≤ tally c.args.agenda.now + weight (wiring c.args.network.now) c.args.store.now c.args.worldview.now
most_rest g c = omega (arith, most_more g (goal.at.overflow_add-result g c).In_ok-more, c.in_ok-rest.ensures.most)

pub overflow_add-result : goal.overflow_add-result
overflow_add-result g c =
    omega (
      arith,
      fits g (goal.at.overflow_add-result g c).In_ok-more (c.loop-more.calls + c.in_ok-more.more + c.in_ok-rest.rest) 0
          (weight (wiring c.args.network.now) c.go_on_aside.new.store c.args.worldview.now) (omega (arith, most_rest g c)),
    )

pub returns-in-Ok-clause-further : goal.returns-in-Ok-clause-further
returns-in-Ok-clause-further g c = record {
  grows = keeps_more_then (wiring c.args.network.now) c.args.store.now c.call_some.new.store c.go_on_aside.new.store
      (grows_more g (goal.at.returns-in-Ok-clause-further g c).In_ok-more) c.go_on_aside.ensures.further.grows;
  upstream = λ given are.
      c.go_on_aside.ensures.further.upstream given (c.call_some.ensures.further.upstream given (c.loop-more.invariant.upstream given are));
  underway = c.in_ok-rest.ensures.further.underway;
  between = tt;
}

pub returns-in-Ok-clause-least : goal.returns-in-Ok-clause-least
returns-in-Ok-clause-least g c = omega (arith, least_more g (goal.at.returns-in-Ok-clause-least g c).In_ok-more, c.in_ok-rest.ensures.least)

pub returns-in-Ok-clause-most : goal.returns-in-Ok-clause-most
returns-in-Ok-clause-most g c = omega (arith, most_more g (goal.at.returns-in-Ok-clause-most g c).In_ok-more, c.in_ok-rest.ensures.most)

pub loop-more-smaller : goal.loop-more-smaller
loop-more-smaller g c =
    omega (arith, c.in_ok-more.ensures.most, c.in_ok-more.ensures.called c.if-is_done.false, ap tally c.count_anew.ensures)

pub loop-more-preserved : goal.loop-more-preserved
loop-more-preserved g c =
    let d = (goal.at.loop-more-preserved g c).In_ok-more in
    record {
      grows = grows_more g d;
      upstream = λ given are. c.call_some.ensures.further.upstream given (c.loop-more.invariant.upstream given are);
      underway = c.in_ok-more.ensures.further.underway;
      idle = λ was. absurd (c.in_ok-more.ensures.left c.if-is_done.false
          (λ n. ap (λ (l : List Bool). is_set l n) c.count_anew.ensures ∙ c.loop-more.invariant.idle was n));
      least = least_more g d;
      most = most_more g d;
    }
