use Rattle.std.proofs.Common.{ℕ, ◌+◌, ◌<◌, eqb, inl, inr, sym, ◌∙◌, subst, arith}
use Rattle.std.proofs.lemmas.Bool.{cases_Bool, eqb-false, eqb-true, false≢true}
use Rattle.pw_info.specs.Information.{IsContradiction}
use Rattle.pw_settle.specs.Settled.{info_at}
use Rattle.pw_reasons.proofs.trying.contradictory_cell.Goals as goal

-- none below the limit, and not the limit itself
none_with_last : (P : ℕ → Type 0) (limit : ℕ) → ((n : ℕ) → n < limit → P n → ⊥) → (P limit → ⊥) → (n : ℕ) → n < limit + 1 → P n → ⊥
none_with_last P limit below last n within is =
    elim (cases_Bool (eqb n limit)) [
      | inl same ↦ last (subst P (eqb-true n limit same) is)
      | inr other ↦ below n (omega (arith, within, eqb-false n limit other)) is
    ]

pub loop-cell-preserved : goal.loop-cell-preserved
loop-cell-preserved g c =
    none_with_last (λ cell. IsContradiction (info_at c.args.settled.now.infos cell)) c.loop-cell.cell c.loop-cell.invariant
    (λ contradictory. false≢true (sym c.if-is_contradiction.false ∙ c.is_contradiction.ensures.1 (subst IsContradiction (sym c.info.ensures) contradictory)))
