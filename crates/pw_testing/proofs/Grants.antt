-- `Growths::grants_next` and `Growths::take_back` at a call: what each gets, and what a caller gets back. Assumes `Logic`.
use Rattle.std.proofs.Common.{◌≡◌, ℕ, ◌<◌, ◌^◌, w64, Bool, List, [], ◌∷◌, refl, ap}
use seplogic.Ra.Ura.{Ura}
use mir.Val.{Val, vunit, vbool, vint, vptr}
use base.Logic.{SProp, ent, sep, ex, guard, id⊢}
use base.Fml.{Lft, Share, ftrue, fsep, flft}
use prog.Memory.{Memory}
use prog.Routine.{Routine}
use types.Logic.{Logic, sem}
use contract.Monad.{Fun}
use types.Kit.{‵, ◌⊛◌, some, later, ◌$◌, ◌∵◌, !, qed, move, keep, use1, split, join, pick, fjoin, feq_i, flt_i, feq_l, check, show, await, updating, now as at_once, done}
use denote.Memory.{hidden_shr}
use denote.Builtin.{bool, unit}
use denote.Steps.{nothing, only}
use denote.Triple.Statement.{Contract}
use denote.Triple.Spec.{triple_of}
use Rattle.pw_testing.specs.declared.Growths.{Growths}
use Rattle.pw_testing.specs.contracts.Growths.{the_row}
use Rattle.pw_testing.specs.contracts.Growths.grants_next as G
use Rattle.pw_testing.specs.contracts.Growths.take_back as B

module _ {M : Type 1} {𝓤 : Ura M} (𝓛 : Logic 𝓤) (at_mem : Memory → SProp 𝓤) (run : Routine → Fun 𝓤) where
  abbrev pub Grants : Contract 𝓤
  Grants = triple_of 𝓛 G.signature (G.spec 𝓛 at_mem run)

  abbrev pub Back : Contract 𝓤
  Back = triple_of 𝓛 B.signature (B.spec 𝓛 at_mem run)

  abbrev pub at_grants : Lft → Share → ℕ × ℕ → Growths → ℕ → Grants.Ghost
  at_grants κ q p x n = (((κ, tt), (q, tt), tt, (record { ref_ptr = p; now = x }, (n, tt)), (vptr p.0 p.1 ∷ [], (vint w64 n ∷ [], tt))), tt)

  abbrev pub at_back : Lft → Share → ℕ × ℕ → Growths → ℕ → Back.Ghost
  at_back κ q p x n = (((κ, tt), (q, tt), tt, (record { ref_ptr = p; now = x }, (n, tt)), (vptr p.0 p.1 ∷ [], (vint w64 n ∷ [], tt))), tt)

module _ {M : Type 1} {𝓤 : Ura M} (𝓛 : Logic 𝓤) where
  open 𝓛 use {A}

  abbrev pub Granted : Lft → Share → Val → SProp 𝓤
  Granted κ q v = ex 𝓤 (λ (b : Bool). guard 𝓤 (v ≡ vbool b) (A.lft κ q))

module _ {M : Type 1} {𝓤 : Ura M} (𝓛 : Logic 𝓤) (at_mem : Memory → SProp 𝓤) (run : Routine → Fun 𝓤) (κ : Lft) (q : Share) (p : ℕ × ℕ) (x : Growths) (n : ℕ) where
  open 𝓛 use {H, A}

  pub Grants-goes : n < 2 ^ 64 → ent 𝓤 (sep 𝓤 (sem 𝓛 (hidden_shr the_row κ x p.0 p.1)) (A.lft κ q)) ((Grants 𝓛 at_mem run).pre (at_grants 𝓛 at_mem run κ q p x n))
  Grants-goes fn =
      qed 𝓛 (‵ (hidden_shr the_row κ x p.0 p.1) ∷ ‵ (flft κ q) ∷ []) ∵ nothing ! $ flt_i ! n (2 ^ 64) fn $ feq_i ! (List Val) (vint w64 n ∷ []) (vint w64 n ∷ []) refl $ fjoin ! $ fjoin ! $
      move ! (1 ∷ []) $ feq_i ! (List Val) (vptr p.0 p.1 ∷ []) (vptr p.0 p.1 ∷ []) refl $ fjoin ! $ fjoin ! $
      nothing ! $ move ! (2 ∷ []) $ join ! $ join ! $ nothing ! $ move ! (1 ∷ []) $ join ! $ done !

  pub Grants-gives : (v : Val) → ent 𝓤 ((Grants 𝓛 at_mem run).post (at_grants 𝓛 at_mem run κ q p x n) v) (H.⇛ (Granted 𝓛 κ q v))
  Grants-gives v =
      qed 𝓛 (types.Kit.raw ((Grants 𝓛 at_mem run).post (at_grants 𝓛 at_mem run κ q p x n) v) ∷ []) ∵ updating ! $
      use1 𝓛 (later (some (λ (b : Bool). ((‵ (flft κ q) ⊛ ‵ ftrue) ⊛ ‵ (bool.own_val b (v ∷ []))) ⊛ some (λ (ws : Unit {0} × (Unit {0} × Unit {0})). ‵ (fsep ftrue (fsep ftrue ftrue)) ⊛ ‵ ftrue)))) (id⊢ 𝓤 _) $ await ! tt $ pick ! (λ b.
      split ! $ split ! $ move ! (1 ∷ []) $ feq_l ! (λ e. split ! $ at_once ! $ show ! (λ (c : Bool). guard 𝓤 (v ≡ vbool c) (A.lft κ q)) b $ check ! (ap only e) $ keep ! (0 ∷ []) $ done !))

  pub Back-goes : n < 2 ^ 64 → ent 𝓤 (sep 𝓤 (sem 𝓛 (hidden_shr the_row κ x p.0 p.1)) (A.lft κ q)) ((Back 𝓛 at_mem run).pre (at_back 𝓛 at_mem run κ q p x n))
  Back-goes fn =
      qed 𝓛 (‵ (hidden_shr the_row κ x p.0 p.1) ∷ ‵ (flft κ q) ∷ []) ∵ nothing ! $ flt_i ! n (2 ^ 64) fn $ feq_i ! (List Val) (vint w64 n ∷ []) (vint w64 n ∷ []) refl $ fjoin ! $ fjoin ! $
      move ! (1 ∷ []) $ feq_i ! (List Val) (vptr p.0 p.1 ∷ []) (vptr p.0 p.1 ∷ []) refl $ fjoin ! $ fjoin ! $
      nothing ! $ move ! (2 ∷ []) $ join ! $ join ! $ nothing ! $ move ! (1 ∷ []) $ join ! $ done !

  pub Back-gives : (v : Val) → ent 𝓤 ((Back 𝓛 at_mem run).post (at_back 𝓛 at_mem run κ q p x n) v) (H.⇛ (guard 𝓤 (v ≡ vunit) (A.lft κ q)))
  Back-gives v =
      qed 𝓛 (types.Kit.raw ((Back 𝓛 at_mem run).post (at_back 𝓛 at_mem run κ q p x n) v) ∷ []) ∵ updating ! $
      use1 𝓛 (later (some (λ (r : Unit {0}). ((‵ (flft κ q) ⊛ ‵ ftrue) ⊛ ‵ (unit.own_val r (v ∷ []))) ⊛ some (λ (ws : Unit {0} × (Unit {0} × Unit {0})). ‵ (fsep ftrue (fsep ftrue ftrue)) ⊛ ‵ ftrue)))) (id⊢ 𝓤 _) $ await ! tt $ pick ! (λ r.
      split ! $ split ! $ move ! (1 ∷ []) $ feq_l ! (λ e. split ! $ at_once ! $ check ! (ap only e) $ keep ! (0 ∷ []) $ done !))
