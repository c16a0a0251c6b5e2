-- Premises that are enough for an information of a cell: from what is kept, and from what settles.
use Rattle.std.proofs.Common.{◌≡◌, ℕ, ◌<◌, true, false, length, sym, ap, ◌∙◌, subst, arith}
use Rattle.std.specs.FinSet.{contains, is_subset, remove}
use Rattle.std.proofs.lemmas.List.{length-map}
use Rattle.pw_info.specs.declared.info.Info.{Info}
use Rattle.pw_info.specs.Information.{allows, Implies}
use Rattle.pw_premises.specs.Premises.{Premises}
use Rattle.pw_cells.specs.Cells.{Cell, Store, kept_in, kinds_of}
use Rattle.pw_network.specs.Network.{Network, IsWellNetwork, cells_in}
use Rattle.pw_settle.specs.Settled.{IsSettled, Settled, info_at, support_at}
use Rattle.pw_settle.specs.Sound.{IsSound}
use Rattle.pw_settle.specs.Values.{kinds_in, value_in}
use Rattle.pw_settle.proofs.KeptFacts.{also_implies, implies_also}
use Rattle.pw_settle.proofs.SettledValues.{kinds_many}
use Rattle.pw_reasons.specs.inside.Reasoning.{AreEnough}
use Rattle.pw_reasons.specs.Reason.{Grows, tried}
use Rattle.pw_reasons.proofs.ReasonLemmas.{part_without, tried_in, tried_out}

-- a store that has the cells of a network has those below their number
pub cell_there : (network : Network) (store : Store) → IsWellNetwork network → kinds_of store ≡ kinds_in network → (cell : ℕ) → cell < cells_in network →
    cell < length store.cells
cell_there network store well same cell below =
    omega (arith, kinds_many network well, length-map store.cells (λ (c : Cell). c.kind), ap length same, below)

module _ (network : Network) (store : Store) (cell : ℕ) where
  -- in a sound store, what is kept rests on premises that are enough for it
  pub kept_enough : IsSound network store → (info kept : Info) (w support : Premises) → is_subset support w ≡ true →
      kept_in store cell support ≡ kept → Implies kept info → AreEnough network store cell info w support
  kept_enough sound info kept w support within same says = record {
    within = within;
    enough = λ v possible. says v (subst (λ (i : Info). allows i v ≡ true) same (sound support cell v possible));
  }

  -- so do settled values
  pub settled_enough : (w : Premises) (settled : Settled) → IsSettled network store w settled → cell < cells_in network → (info : Info) →
      Implies (info_at settled.infos cell) info → AreEnough network store cell info w (support_at settled.supports cell)
  settled_enough w settled are below info says = record {
    within = are.within cell;
    enough = also_implies info (info_at settled.infos cell) (value_in network store (support_at settled.supports cell) cell)
        (are.values cell below ∙ sym (are.enough cell below)) says;
  }

  -- what is enough and lacks a premise is enough without it
  pub enough_without : (info : Info) (left support : Premises) (premise : ℕ) → AreEnough network store cell info left support →
      contains support premise ≡ false → (without : Premises) → without ≡ remove left premise → AreEnough network store cell info without support
  enough_without info left support premise are lacks without less = record {
    within = ap (is_subset support) less ∙ part_without support left premise are.within lacks;
    enough = are.enough;
  }

  -- a premise was tried without which these are left: if some premises are enough for the value
  -- without it, it goes
  pub goes : Grows (λ w. value_in network store w cell) → (w left without : Premises) (premise : ℕ) → without ≡ remove left premise →
      is_subset left w ≡ true → (info : Info) → info ≡ value_in network store w cell → (support : Premises) →
      AreEnough network store cell info without support → without ≡ tried (λ w. value_in network store w cell) w left premise
  goes grows w left without premise less part info is support are =
      less
      ∙ sym (tried_out (λ w. value_in network store w cell) w left premise grows part
      (implies_also (value_in network store (remove left premise) cell) info (value_in network store w cell) is
      (λ v possible. are.enough v (grows.more support (remove left premise)
      (subst (λ (s : Premises). is_subset support s ≡ true) less are.within) v possible))))

  -- and if the value does not follow without it, it stays
  pub remains : (w left without : Premises) (premise : ℕ) → without ≡ remove left premise → (info : Info) → info ≡ value_in network store w cell →
      (Implies (value_in network store without cell) info → ⊥) → left ≡ tried (λ w. value_in network store w cell) w left premise
  remains w left without premise less info is not_implied =
      sym (tried_in (λ w. value_in network store w cell) w left premise
      (λ implied. not_implied
      (subst (λ (s : Premises). Implies (value_in network store s cell) info) (sym less)
      (implies_also (value_in network store (remove left premise) cell) (value_in network store w cell) info (sym is) implied))))
