use Rattle.std.proofs.Common.{◌≡◌, sym, ap, ◌∙◌, subst}
use Rattle.std.proofs.lemmas.Bool.{false≢true}
use Rattle.pw_info.specs.declared.info.Info.{Info}
use Rattle.pw_info.specs.Information.{IsContradiction}
use Rattle.pw_premises.specs.Premises.{Premises}
use Rattle.pw_network.specs.Wiring.{wiring}
use Rattle.pw_cells.specs.Cells.{Store}
use Rattle.pw_settle.specs.Sound.{RestsUpstream}
use Rattle.pw_settle.specs.Values.{value_in}
use Rattle.pw_reasons.proofs.NogoodLemmas.{covers_itself, nogoods_more}
use Rattle.pw_reasons.proofs.ReasonLemmas.{reason_same}
use Rattle.pw_reasons.proofs.reasoning.reason.Goals as goal
use Rattle.pw_reasons.proofs.reasoning.reason.Goals.{then-is_contradiction+in_ok-note, else-is_contradiction}

pub returns-clause-covered : goal.returns-clause-covered
returns-clause-covered g c contradictory =
    let info : c.value.result.info ≡ value_in (wiring c.args.network.now) c.args.store.now c.args.settled.now.worldview c.args.cell =
    c.value.ensures.info ∙ c.requires.settled.values c.args.cell c.requires.cell in
    elim c.if-is_contradiction.branch [
      | then-is_contradiction+in_ok-note w ↦
          rw w.nogoods-is (covers_itself c.in_ok-left.left c.args.nogoods.now w.note.new.self w.in_ok-note.ensures.covered)
      | else-is_contradiction w ↦
          absurd (false≢true (sym w.if-is_contradiction.false ∙ c.is_contradiction.ensures.1 (subst IsContradiction (sym info) contradictory)))
    ]

pub returns-clause-nogoods : goal.returns-clause-nogoods
returns-clause-nogoods g c =
    let value : Premises → Info = λ w. value_in (wiring c.args.network.now) c.args.store.now w c.args.cell in
    let worldview : Premises = c.args.settled.now.worldview in
    let same : c.value.result.info ≡ value c.in_ok-left.left =
    c.value.ensures.info ∙ c.requires.settled.values c.args.cell c.requires.cell ∙ sym (reason_same value worldview)
    ∙ sym (ap value c.in_ok-left.ensures.reason) in
    elim c.if-is_contradiction.branch [
      | then-is_contradiction+in_ok-note w ↦
          rw w.nogoods-is (nogoods_more (wiring c.args.network.now) c.args.store.now c.in_ok-left.left c.args.nogoods.now w.note.new.self
          c.requires.nogoods
          (record {
            cell = c.args.cell;
            here = c.requires.cell;
            contradictory = subst IsContradiction same (c.is_contradiction.ensures.0 w.if-is_contradiction.true);
          })
          w.note.ensures.within)
      | else-is_contradiction w ↦ rw w.nogoods-is c.requires.nogoods
    ]

pub returns-in_err-left-clause-upstream : goal.returns-in_err-left-clause-upstream
returns-in_err-left-clause-upstream g c given rests =
    subst (RestsUpstream (wiring c.args.network.now) given) (sym {A = Store} c.try_premises.ensures.unchanged) rests

pub returns-in_err-note-clause-upstream : goal.returns-in_err-note-clause-upstream
returns-in_err-note-clause-upstream g c given rests =
    subst (RestsUpstream (wiring c.args.network.now) given) (sym {A = Store} c.try_premises.ensures.unchanged) rests

pub returns-clause-upstream : goal.returns-clause-upstream
returns-clause-upstream g c given rests =
    subst (RestsUpstream (wiring c.args.network.now) given) (sym {A = Store} c.try_premises.ensures.unchanged) rests
