use Rattle.std.proofs.Common.{List, ℕ, Bool, ap, sym, ◌∙◌, ◌≡◌, ◌++◌, ◌∷◌, []}
use Rattle.pw_reasons.specs.SameInfo.{is_contradiction}
use Rattle.pw_settle.specs.Settled.{info_at}
use Rattle.pw_reasons.proofs.ConflictLemmas.{passing_left, passing_pushed, tested}
use Rattle.pw_reasons.proofs.listing.contradictory_cells.Goals as goal
use Rattle.pw_reasons.proofs.listing.contradictory_cells.Goals.{then-is_contradiction+in_ok-push, else-is_contradiction}

pub loop-cell-preserved : goal.loop-cell-preserved
loop-cell-preserved g c =
    let cell : ℕ = c.loop-cell.cell in
    let passes : ℕ → Bool = λ n. is_contradiction (info_at c.args.settled.now.infos n) in
    let says : c.is_contradiction.result ≡ passes cell =
    tested c.is_contradiction.result c.value.result.info (info_at c.args.settled.now.infos cell) c.is_contradiction.ensures
    c.value.ensures.info in
    let before : List ℕ = c.loop-cell.cells.items in
    let after : List ℕ = c.if-is_contradiction.cells.items in
    elim c.if-is_contradiction.branch [
      | then-is_contradiction+in_ok-push w ↦
          let pushed : after ≡ before ++ cell ∷ [] = rw w.cells-is w.in_ok-push.ensures.items in
          passing_pushed passes cell before after (sym says ∙ w.if-is_contradiction.true) c.loop-cell.invariant pushed
      | else-is_contradiction w ↦
          passing_left passes cell before after (sym says ∙ w.if-is_contradiction.false) c.loop-cell.invariant
          (ap (λ v. v.items) w.cells-is)
    ]
