use Rattle.std.proofs.Common.{◌≡◌, ◌++◌, ◌∷◌, [], ℕ, ◌+◌, ◌-◌, List, Some, length, ap, subst, sym, ◌∙◌, arith, rules}
use Rattle.std.specs.Prelude.{slice_get}
use Rattle.std.proofs.lemmas.Bool.{false≢true}
use Rattle.pw_info.specs.declared.info.Info.{Info}
use Rattle.pw_decl.specs.Declaration.{Declared}
use Rattle.pw_network.specs.Wiring.{wiring}
use Rattle.pw_network.specs.Network.{Network, cells_in}
use Rattle.pw_reasons.specs.SameInfo.{is_contradiction}
use Rattle.pw_settle.specs.Settled.{info_at}
use Rattle.pw_reasons.proofs.ConflictLemmas.{AreLinesBelow, all_lines, among_lines, line_more, no_lines, same_lines, tested}
use Rattle.pw_reasons.proofs.listing.contradictory_lines.Goals as goal
use Rattle.pw_reasons.proofs.listing.contradictory_lines.Goals.{then-is_contradiction+in-Some+then-ne+in_ok-push, else-is_contradiction, else-is_contradiction-via-else-is_contradiction, else-is_contradiction-via-then-is_contradiction+in-None-1, else-is_contradiction-via-then-is_contradiction+in-Some+else-ne}

pub loop-cell-init : goal.loop-cell-init
loop-cell-init g c =
    let network : Network = wiring c.args.network.now in
    let value : ℕ → Info = info_at c.args.settled.now.infos in
    let first : c.cells-cell.result ≡ length network.declared.cells =
    c.cells-cell.ensures.count ∙ ap (λ (d : Declared). length d.cells) c.declaration.ensures in
    subst (AreLinesBelow network value c.cells-cell.result) (sym c.new-lines.ensures.items)
    (no_lines network value c.cells-cell.result (omega (arith, first)))

pub loop-cell-preserved : goal.loop-cell-preserved
loop-cell-preserved g c =
    let network : Network = wiring c.args.network.now in
    let value : ℕ → Info = info_at c.args.settled.now.infos in
    let cell : ℕ = c.loop-cell.cell in
    let lines : List ℕ = c.loop-cell.lines.items in
    let says : c.is_contradiction.result ≡ is_contradiction (value cell) =
    tested c.is_contradiction.result c.value.result.info (value cell) c.is_contradiction.ensures c.value.ensures.info in
    elim c.if-is_contradiction.branch [
      | then-is_contradiction+in-Some+then-ne+in_ok-push w ↦
          let other : slice_get lines (length lines - 1) ≡ Some w.in-Some.line → ⊥ = λ same. search rules in
          let after : List ℕ = c.if-is_contradiction.lines.items in
          let pushed : after ≡ lines ++ w.in-Some.line ∷ [] = rw w.lines-is w.in_ok-push.ensures.items in
          line_more network value w.inner.ensures.order cell lines after w.in-Some.line w.in-Some.field-0-1 c.loop-cell.invariant
          (sym w.in-Some.ensures.origin) (sym says ∙ w.if-is_contradiction.true) other pushed
      | else-is_contradiction w ↦
          subst (AreLinesBelow network value (cell + 1)) (ap (λ v. v.items) (sym w.lines-is))
          (same_lines network value cell lines c.loop-cell.invariant
          (elim w.else-is_contradiction.branch [
            | else-is_contradiction-via-else-is_contradiction v ↦
                λ line number origin contradictory. absurd (false≢true (sym v.if-is_contradiction.false ∙ says ∙ contradictory))
            | else-is_contradiction-via-then-is_contradiction+in-None-1 v ↦
                λ line number origin contradictory. absurd (cc)
            | else-is_contradiction-via-then-is_contradiction+in-Some+else-ne v ↦
                λ line number origin contradictory.
                let last : slice_get lines (length lines - 1) ≡ Some v.in-Some.line = search rules in
                among_lines network cell lines (length lines - 1) v.in-Some.line v.in-Some.field-0-1 line number last
                v.in-Some.ensures.origin origin
          ]))
    ]

pub returns-clause-lines : goal.returns-clause-lines
returns-clause-lines g c =
    let network : Network = wiring c.args.network.now in
    let value : ℕ → Info = info_at c.args.settled.now.infos in
    let lines : List ℕ = c.loop-cell.lines.items in
    let first : c.cells-cell.result ≡ length network.declared.cells =
    c.cells-cell.ensures.count ∙ ap (λ (d : Declared). length d.cells) c.declaration.ensures in
    let all : c.loop-cell.cell ≡ cells_in network =
    omega (arith, first, c.cells-cell-end.ensures.count, c.loop-cell.auto.cell-end, c.loop-cell-test.false) in
    all_lines network value lines (subst (λ (limit : ℕ). AreLinesBelow network value limit lines) all c.loop-cell.invariant)
