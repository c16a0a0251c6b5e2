use Rattle.std.proofs.Common.{◌≡◌, ◌+◌, ◌<◌, true, length, get_or, take, drop, map, nat_eq, sym, ◌∙◌, ap, arith}
use Rattle.std.specs.Prelude.{◌↔◌, IsTrue}
use Rattle.std.specs.FinSet.{is_subset}
use Rattle.std.proofs.lemmas.Bool.{eq-eqb, ne_eqb}
use Rattle.std.proofs.lemmas.List.{get_or_default}
use Rattle.pw_info.specs.Information.{kind_of, meet, Implies}
use Rattle.pw_cells.specs.declared.recalled.Recalled.{Recalled}
use Rattle.pw_cells.specs.inside.OneCell.{after_tell}
use Rattle.pw_cells.proofs.Rests.{same_ahead}
use Rattle.pw_cells.proofs.RightAnswers.{made_next, left_next, taken_in, left_implied, left_unseen, left_elsewhere}
use Rattle.pw_cells.proofs.recalled.take_into_each.Goals as goal
use Rattle.pw_cells.proofs.recalled.take_into_each.Goals.{then-answer-cell+then-is_visible+then-not-implies, else-answer-cell, else-answer-cell-via-then-answer-cell+then-is_visible+else-not-implies, else-answer-cell-via-then-answer-cell+else-is_visible, else-answer-cell-via-else-answer-cell}

pub implies-requires : goal.implies-requires
implies-requires g c =
    let x = c.index-answers-place.result in
    let was : x ≡ get_or c.args.answers.now c.loop-place.place x =
    c.index-answers-place.is ∙ same_ahead c.loop-place.answers c.args.answers.now c.loop-place.place x c.loop-place.invariant.ahead in
    ap (λ (a : Recalled). kind_of a.info) was
    ∙ c.requires c.loop-place.place x c.loop-place-test.true (ap (λ (a : Recalled). a.cell) (sym was) ∙ c.if-answer-cell.true)
    ∙ ap kind_of (sym c.info_here.ensures)

pub meet-requires : goal.meet-requires
meet-requires g c =
    let x = c.index-answers-place.result in
    let was : x ≡ get_or c.args.answers.now c.loop-place.place x =
    c.index-answers-place.is ∙ same_ahead c.loop-place.answers c.args.answers.now c.loop-place.place x c.loop-place.invariant.ahead in
    ap (λ (a : Recalled). kind_of a.info) was
    ∙ c.requires c.loop-place.place x c.loop-place-test.true (ap (λ (a : Recalled). a.cell) (sym was) ∙ c.if-answer-cell.true)
    ∙ ap kind_of (sym c.info_here-then-not-implies.ensures)

pub loop-place-preserved : goal.loop-place-preserved
loop-place-preserved g c =
    let f = c.args.fact.now in
    let now = c.loop-place.answers in
    let old = c.args.answers.now in
    let i = c.loop-place.place in
    let x = c.index-answers-place.result in
    let read : x ≡ get_or now i x = c.index-answers-place.is in
    let was : x ≡ get_or old i x = read ∙ same_ahead now old i x c.loop-place.invariant.ahead in
    let within : i < length now = omega (arith, c.loop-place-test.true, c.loop-place.invariant.long) in
    let three : (take (i + 1) c.if-answer-cell.answers ≡ map (after_tell c.args.cell f) (take (i + 1) old)) × (drop (i + 1) c.if-answer-cell.answers ≡ drop (i + 1) old)
    × (length c.if-answer-cell.answers ≡ length old) =
    elim c.if-answer-cell.branch [
      | then-answer-cell+then-is_visible+then-not-implies w ↦
          let seen : is_subset f.support x.worldview ≡ true = sym w.is_visible.ensures ∙ w.if-is_visible.true in
          let here : nat_eq x.cell c.args.cell ≡ true = eq-eqb _ _ w.if-answer-cell.true in
          let again : get_or now i w.index-answers-place-then-not-implies.result ≡ x =
          get_or_default now i w.index-answers-place-then-not-implies.result x within ∙ sym read in
          made_next (after_tell c.args.cell f) old now c.if-answer-cell.answers i x
          (record {
            cell = (get_or now i w.index-answers-place-then-not-implies.result).cell;
            worldview = (get_or now i w.index-answers-place-then-not-implies.result).worldview;
            info = w.meet.result;
          })
          within c.loop-place.invariant.long c.loop-place.invariant.done c.loop-place.invariant.ahead read
          ((λ j. record { cell = (again j).cell; worldview = (again j).worldview; info = (w.meet.ensures.exact ∙ ap (meet x.info) w.info_here-then-not-implies.ensures) j }) ∙ taken_in c.args.cell f x here seen) w.answers-is
      | else-answer-cell w ↦
          left_next (after_tell c.args.cell f) old now c.if-answer-cell.answers i x within c.loop-place.invariant.long c.loop-place.invariant.done c.loop-place.invariant.ahead read
          (elim w.else-answer-cell.branch [
            | else-answer-cell-via-then-answer-cell+then-is_visible+else-not-implies v ↦
                let seen : is_subset f.support x.worldview ≡ true = sym v.is_visible.ensures ∙ v.if-is_visible.true in
                let alike : kind_of x.info ≡ kind_of f.info =
                ap (λ (a : Recalled). kind_of a.info) was
                ∙ c.requires i x c.loop-place-test.true (ap (λ (a : Recalled). a.cell) (sym was) ∙ v.if-answer-cell.true) in
                let implied : IsTrue v.implies.result ↔ Implies x.info f.info = rw v.info_here.ensures at v.implies.ensures in
                left_implied c.args.cell f x (eq-eqb _ _ v.if-answer-cell.true) seen alike (implied.0 v.if-not-implies.false)
            | else-answer-cell-via-then-answer-cell+else-is_visible v ↦ left_unseen c.args.cell f x (eq-eqb _ _ v.if-answer-cell.true) (sym v.is_visible.ensures ∙ v.if-is_visible.false)
            | else-answer-cell-via-else-answer-cell v ↦ left_elsewhere c.args.cell f x (ne_eqb _ _ v.if-answer-cell.false)
          ]) w.answers-is
    ] in
    record { done = three.0; ahead = three.1; long = three.2 }
