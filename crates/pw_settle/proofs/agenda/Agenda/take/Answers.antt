use Rattle.std.proofs.Common.{◌≡◌, ◌<◌, ◌+◌, Bool, List, true, drop, length, set, vec_capacity, ap, sym, subst, ◌∙◌, arith, false, get_or}
use Rattle.std.proofs.lemmas.Bool.{ltb-true}
use Rattle.std.proofs.lemmas.List.{length-set}
use Rattle.std.proofs.lemmas.List.Elements.{All-head}
use Rattle.pw_settle.specs.inside.Progress.{IsQueue}
use Rattle.pw_settle.specs.Calls.{is_set}
use Rattle.pw_settle.proofs.AgendaLemmas.{first_below, first_waits, queue_less}
use Rattle.pw_settle.proofs.agenda.Agenda.take.Goals as goal

pub index_mut-requires : goal.index_mut-requires
index_mut-requires g c =
    let listed = c.self.inside.listed.items in
    let taken = c.self.inside.taken in
    let number = c.in_ok-number.field-0.now in
    let found = c.in_ok-number.ensures.lookup in
    let listed_is = c.deref.ensures.value in
    let within : taken < length listed = omega (arith, ltb-true taken (length c.deref.result.now) (sym found.0), ap length listed_is) in
    let first = first_waits listed taken number within (found.1 ∙ ap (λ l. get_or l taken number) listed_is) in
    let below = first_below c.self.inside.queued.items (drop taken listed) (drop (taken + 1) listed) (vec_capacity c.self.inside.listed) number first
    c.self.invariant.0 in
    omega (arith, below)

pub invariant_of-self : goal.invariant_of-self
invariant_of-self g c =
    let listed = c.self.inside.listed.items in
    let taken = c.self.inside.taken in
    let number = c.in_ok-number.field-0.now in
    let found = c.in_ok-number.ensures.lookup in
    let listed_is = c.deref.ensures.value in
    let within : taken < length listed = omega (arith, ltb-true taken (length c.deref.result.now) (sym found.0), ap length listed_is) in
    let first = first_waits listed taken number within (found.1 ∙ ap (λ l. get_or l taken number) listed_is) in (
      queue_less c.self.inside.queued.items (drop taken listed) (drop (taken + 1) listed) (vec_capacity c.self.inside.listed) number
          first c.self.invariant.0,
      omega (arith, length-set c.self.inside.queued.items number false, c.self.invariant.1),
      omega (arith, within),
    )

pub returns-clause-some : goal.returns-clause-some
returns-clause-some g c =
    let flags = c.self.inside.queued.items in
    let listed = c.self.inside.listed.items in
    let taken = c.self.inside.taken in
    let number = c.in_ok-number.field-0.now in
    let found = c.in_ok-number.ensures.lookup in
    let listed_is = c.deref.ensures.value in
    let within : taken < length listed = omega (arith, ltb-true taken (length c.deref.result.now) (sym found.0), ap length listed_is) in
    let first = first_waits listed taken number within (found.1 ∙ ap (λ l. get_or l taken number) listed_is) in
    let queue = subst (λ (l : List _). IsQueue flags l (vec_capacity c.self.inside.listed)) first c.self.invariant.0 in (
      ap (λ (l : List Bool). is_set l number) (sym c.self.view_is) ∙ All-head (λ n. is_set flags n ≡ true) number (drop (taken + 1) listed) queue.flagged,
      ap (λ (l : List Bool). set l number _) c.self.view_is,
    )
