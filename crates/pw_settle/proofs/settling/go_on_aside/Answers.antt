use Rattle.std.proofs.Common.{ℕ, Bool, sym, ap, ◌∙◌, arith}
use Rattle.pw_network.specs.Wiring.{wiring}
use Rattle.pw_settle.specs.Sound.{LieUpstream}
use Rattle.pw_settle.specs.inside.Aside.{weight_of}
use Rattle.pw_settle.specs.inside.Known.{AreUpstream}
use Rattle.pw_settle.proofs.FurtherSettlings.{refused_further, were_kept}
use Rattle.pw_settle.proofs.Growing.{keeps_more_same}
use Rattle.pw_settle.proofs.KeptFound.{kept_all_found, known_met, met_known, weight_known}
use Rattle.pw_settle.proofs.settling.go_on_aside.Given as given
use Rattle.pw_settle.proofs.settling.go_on_aside.Goals as goal
use Rattle.pw_settle.proofs.settling.go_on_aside.Goals.{In_ok-calls}

pub work_aside-requires-clause-underway : goal.work_aside-requires-clause-underway
work_aside-requires-clause-underway g c =
    let before = c.requires.underway in
    rw (c.requires.infos, c.requires.supports) (
    record {
      kinds = before.kinds;
      found = kept_all_found (wiring c.args.network.now) c.args.store.now before.kinds c.args.worldview.now c.args.known.now.infos.items c.args.known.now.supports
          before.kept c.requires.told;
      flags = before.flags;
      seen = before.seen;
      satisfied = met_known (wiring c.args.network.now) c.args.store.now c.args.worldview.now c.args.known.now.infos.items c.args.known.now.supports before.kept
          c.args.agenda.now before.satisfied;
    })

pub keep_found-requires-clause-more : goal.keep_found-requires-clause-more
keep_found-requires-clause-more g c = rw (sym c.requires.infos, sym c.requires.supports) c.in_ok-calls.ensures.further.more

-- what was found rests on premises upstream, if what was known did
found_lie : (g : given.Over) (c : In_ok-calls g) → (given : ℕ → ℕ → Bool) → AreUpstream (wiring c.args.network.now) given c.args.store.now c.args.known.now.supports →
    LieUpstream (wiring c.args.network.now) given c.work_aside.new.known.supports
found_lie g c given are = c.in_ok-calls.ensures.further.lie given are.kept (rw (c.requires.supports) are.known)

pub returns-clause-most : goal.returns-clause-most
returns-clause-most g c =
    let before = weight_known (wiring c.args.network.now) c.args.store.now c.args.worldview.now c.args.known.now.infos.items c.args.known.now.supports c.requires.underway.kept in
    let after = weight_known (wiring c.args.network.now) c.keep_found.new.store c.args.worldview.now c.work_aside.new.known.infos.items c.work_aside.new.known.supports
    c.in_ok-keep_found.ensures.kept in
    let same = ap (weight_of (wiring c.args.network.now) c.args.worldview.now) c.requires.infos in
    omega (arith, c.in_ok-calls.ensures.most, same, before, after)

pub returns-in_err-calls-clause-further : goal.returns-in_err-calls-clause-further
returns-in_err-calls-clause-further g c =
    refused_further c.from_residual.result c.from_residual.ensures.0 (wiring c.args.network.now) c.args.worldview.now c.args.store.now c.args.known.now.supports
    c.args.store.now c.args.known.now.infos.items c.args.known.now.supports c.work_aside.new.agenda (keeps_more_same (wiring c.args.network.now) c.args.store.now)
    (λ given are. are)
    (were_kept (wiring c.args.network.now) c.args.store.now c.args.store.now c.args.worldview.now c.args.known.now.infos.items c.args.known.now.supports
    c.requires.underway.kept (keeps_more_same (wiring c.args.network.now) c.args.store.now))

pub returns-in_err-keep_found-clause-further : goal.returns-in_err-keep_found-clause-further
returns-in_err-keep_found-clause-further g c =
    refused_further c.from_residual-in_err-keep_found.result c.from_residual-in_err-keep_found.ensures.0 (wiring c.args.network.now) c.args.worldview.now
    c.args.store.now c.args.known.now.supports c.keep_found.new.store c.args.known.now.infos.items c.args.known.now.supports c.work_aside.new.agenda
    c.keep_found.ensures.grows
    (λ given are. record {
      kept = c.keep_found.ensures.upstream given are.kept (found_lie g (goal.at.returns-in_err-keep_found-clause-further g c).In_ok-calls given are);
      known = are.known;
    })
    (were_kept (wiring c.args.network.now) c.args.store.now c.keep_found.new.store c.args.worldview.now c.args.known.now.infos.items c.args.known.now.supports
    c.requires.underway.kept c.keep_found.ensures.grows)

pub returns-clause-further : goal.returns-clause-further
returns-clause-further g c =
    let lie = found_lie g (goal.at.returns-clause-further g c).In_ok-calls in
    record {
      grows = c.keep_found.ensures.grows;
      upstream = λ given are. record { kept = c.keep_found.ensures.upstream given are.kept (lie given are); known = lie given are };
      underway = record {
        kinds = c.keep_found.ensures.grows.kinds ∙ c.requires.underway.kinds;
        kept = c.in_ok-keep_found.ensures.kept;
        flags = c.in_ok-calls.ensures.further.underway.flags;
        seen = λ n flag. let none = c.in_ok-calls.ensures.done n in absurd (cc);
        satisfied = known_met (wiring c.args.network.now) c.keep_found.new.store c.args.worldview.now c.work_aside.new.known.infos.items
            c.work_aside.new.known.supports c.in_ok-keep_found.ensures.kept
            (λ n d below seen. c.in_ok-calls.ensures.further.underway.satisfied n d below seen (c.in_ok-calls.ensures.done n)) c.work_aside.new.agenda;
      };
      between = tt;
    }

pub keep_found-requires-clause-found : goal.keep_found-requires-clause-found
keep_found-requires-clause-found g c = c.in_ok-calls.ensures.further.underway.found
