use Rattle.std.proofs.Common.{Bool, List, drop, length, vec_capacity, vec_len, ap, subst, sym, arith}
use Rattle.pw_settle.specs.inside.Progress.{IsIdle}
use Rattle.pw_settle.proofs.AgendaLemmas.{idle_resized, queue_idle, resized_fits}
use Rattle.pw_settle.proofs.TakenIn.{OnOk_always}
use Rattle.pw_settle.proofs.agenda.Agenda.fit.Goals as goal

pub invariant_of-self-2 : goal.invariant_of-self-2
invariant_of-self-2 g c =
    let queued = c.self.inside.queued.items in
    let new = c.resize.new.self.items in
    let cleared : IsIdle queued = subst IsIdle (sym {A = List Bool} c.self.view_is) c.clear.ensures.idle in
    let fits = resized_fits (vec_len c.resize.new.self) (vec_len c.self.inside.queued) c.args.count in
    let low = fits 4294967295 _ c.resize.ensures.len (omega (arith, c.if-count.false)) (omega (arith, c.self.invariant.1)) in
    let listed = fits (vec_capacity c.reserve.new.self) _ c.resize.ensures.len (omega (arith, c.in_ok-reserve.ensures.ok))
    (omega (arith, c.self.invariant.0.room, c.reserve.ensures.capacity)) in (
      queue_idle queued new (drop c.self.inside.taken c.self.inside.listed.items) (drop c.self.inside.taken c.reserve.new.self.items)
          (vec_capacity c.self.inside.listed) (vec_capacity c.reserve.new.self) cleared c.self.invariant.0
          (ap (drop c.self.inside.taken) c.reserve.ensures.items) (idle_resized queued new c.args.count _ _ cleared c.resize.ensures.items)
          (omega (arith, listed)),
      omega (arith, low),
      omega (arith, c.self.invariant.2, ap length c.reserve.ensures.items),
    )

pub returns-clause-idle : goal.returns-clause-idle
returns-clause-idle g c =
    let cleared : IsIdle c.self.inside.queued.items = subst IsIdle (sym {A = List Bool} c.self.view_is) c.clear.ensures.idle in
    OnOk_always c.resize.result (idle_resized c.self.inside.queued.items c.resize.new.self.items c.args.count _ _ cleared c.resize.ensures.items)
