use Rattle.std.proofs.Common.{◌≡◌, ◌++◌, ℕ, List, drop, length, take, refl, sym, ap, ◌∙◌, subst, inl, inr, map}
use Rattle.pw_settle.specs.Calls.{is_instance_visible}
use Rattle.std.specs.FinSet.{is_subset}
use Rattle.pw_kinds.proofs.Order.{not_both}
use Rattle.pw_info.specs.declared.info.Info.{Info}
use Rattle.pw_info.specs.Information.{Implies}
use Rattle.pw_premises.specs.Premises.{Premises}
use Rattle.pw_cells.specs.Cells.{fact_on}
use Rattle.pw_settle.specs.Settled.{info_at}
use Rattle.pw_network.specs.Wiring.{wiring}
use Rattle.pw_settle.specs.inside.Queueing.{QueuesReaders}
use Rattle.pw_settle.specs.inside.Known.{TakesIn}
use Rattle.pw_settle.specs.inside.Since.{IsNewHere}
use Rattle.pw_settle.proofs.CameSince.{known_hidden, known_said, read_is}
use Rattle.pw_settle.proofs.SourceLists.{came_back}
use Rattle.pw_settle.proofs.TakenNews.{as_many_infos}
use Rattle.pw_settle.proofs.resettling_since.take_in_arrival.Goals as goal
use Rattle.pw_settle.proofs.resettling_since.take_in_arrival.Goals.{then-not-is_within-via-then-not-is_within, then-not-is_within-via-else-not-is_within+then-implies}

pub returns-then-not-is_within : goal.returns-then-not-is_within
returns-then-not-is_within g c = elim c.then-not-is_within.branch [
  | then-not-is_within-via-then-not-is_within w ↦
      inl (
        known_hidden c.args.known.now.infos.items c.args.known.now.supports c.args.worldview.now c.args.arrival.now.cell c.args.arrival.now.fact c.requires.kind
            (ap (λ (s : Premises). is_subset s c.args.worldview.now) (sym c.support.ensures) ∙ sym c.is_within.ensures.subset ∙ w.if-not-is_within.true),
        refl,
      )
  | then-not-is_within-via-else-not-is_within+then-implies w ↦
      inl (
        known_said c.args.known.now.infos.items c.args.known.now.supports c.args.worldview.now c.args.arrival.now.cell c.args.arrival.now.fact c.requires.kind
            (subst (Implies (info_at c.args.known.now.infos.items c.args.arrival.now.cell)) w.info.ensures
            (subst (λ (i : Info). Implies i w.info.result.now)
            (read_is c.args.known.now.infos.items c.args.arrival.now.cell c.cell-cell.result w.index.result.now c.cell-cell.ensures c.requires.there w.index.ensures)
            (w.implies.ensures.0 w.if-implies.true))),
        refl,
      )
]

pub returns : goal.returns
returns g c =
    let known : List Info = c.args.known.now.infos.items in
    let now : List Info = c.take_in_narrow.new.infos in
    let cell : ℕ = c.args.arrival.now.cell in
    let taken : TakesIn cell c.args.arrival.now.fact known now c.args.known.now.supports c.take_in_narrow.new.supports =
    subst (λ (s : Premises). TakesIn cell (fact_on c.args.arrival.now.fact.info s) known now c.args.known.now.supports c.take_in_narrow.new.supports)
    c.support-2.ensures
    (subst (λ (i : Info). TakesIn cell (fact_on i c.support-2.result) known now c.args.known.now.supports c.take_in_narrow.new.supports)
    c.info-2.ensures
    (subst (λ (l : List Info). TakesIn cell (fact_on c.info-2.result.now c.support-2.result) l now c.args.known.now.supports c.take_in_narrow.new.supports)
    c.deref_mut.ensures.value
    (subst (λ (n : ℕ). TakesIn n (fact_on c.info-2.result.now c.support-2.result) c.deref_mut.result.now now c.args.known.now.supports c.take_in_narrow.new.supports)
    c.cell-cell.ensures c.take_in_narrow.ensures))) in
    let back : take c.args.known.now.infos.len (now ++ drop (length now) known) ≡ now =
    came_back now known c.args.known.now.infos.len (sym c.deref_mut.ensures.len ∙ ap length c.deref_mut.ensures.value)
    (as_many_infos cell c.args.arrival.now.fact known now c.args.known.now.supports c.take_in_narrow.new.supports taken) in
    inr (
      subst (λ (l : List Info). IsNewHere cell c.args.arrival.now.fact c.args.worldview.now known l c.args.known.now.supports c.take_in_narrow.new.supports) (sym back)
          (record {
            within = ap (λ (s : Premises). is_subset s c.args.worldview.now) (sym c.support.ensures) ∙ sym c.is_within.ensures.subset ∙ c.if-not-is_within.false;
            unsaid = λ said. not_both _
                (c.implies.ensures.1 (subst (Implies c.index.result.now) (sym c.info.ensures)
                (subst (λ (i : Info). Implies i c.args.arrival.now.fact.info)
                (sym (read_is known cell c.cell-cell.result c.index.result.now c.cell-cell.ensures c.requires.there c.index.ensures)) said)))
                c.if-implies.false;
            taken = taken;
          }),
      subst (λ (n : ℕ). QueuesReaders (wiring c.args.network.now) (map (is_instance_visible c.args.worldview.now) (wiring c.args.network.now).attached) (λ k. k ≡ n) c.args.agenda.now c.queue_visible_readers.new.agenda)
          c.cell-cell.ensures c.queue_visible_readers.ensures.readers,
    )
