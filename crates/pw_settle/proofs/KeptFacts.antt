-- What a store is after a fact was kept of one of its cells.
use Rattle.std.proofs.Common.{◌≡◌, ◌≢◌, ℕ, true, eqb, List, sym, ap, ◌∙◌, subst, inl, inr}
use Rattle.std.specs.Prelude.{slice_index_or}
use Rattle.std.specs.FinSet.{is_subset}
use Rattle.std.proofs.lemmas.Bool.{cases_Bool, eqb-true, eqb-false}
use Rattle.pw_kinds.proofs.Order.{both_true}
use Rattle.pw_info.specs.declared.kind.Kind.{Kind}
use Rattle.pw_info.specs.declared.kind.Kind.TheVariants as kinds
use Rattle.pw_info.specs.declared.info.Info.{Info}
use Rattle.pw_info.specs.Information.{allows, kind_of, meet, nothing, Implies}
use Rattle.pw_info.proofs.Informations.{allows-meet, implies_nothing}
use Rattle.pw_premises.specs.Premises.{Premises}
use Rattle.pw_facts.specs.declared.fact.Fact.{Fact}
use Rattle.pw_facts.specs.Facts.{shows}
use Rattle.pw_facts.proofs.Shown.{kind-shows, shows-supported, shows-unsupported}
use Rattle.pw_cells.specs.Arrivals.{Continues}
use Rattle.pw_cells.specs.Cells.{Cell, Store, cell_at, kept_in, kept_of, kind_in_store, kinds_of, told_in, told_of}
use Rattle.pw_cells.specs.Changes.{GainsKept, LeavesOthers}
use Rattle.pw_cells.proofs.Stores.{kind-listed}
use Rattle.pw_cells.proofs.Together.{kind-shown_by, meet_first}
use Rattle.pw_network.specs.Network.{Network}
use Rattle.pw_settle.specs.Growth.{KeepsMore}
use Rattle.pw_settle.specs.Sound.{IsSound}
use Rattle.pw_settle.specs.Values.{kinds_in, numbered, numbers_of_cells, sources_in, value_in}
use Rattle.pw_settle.proofs.FixpointLemmas.{kind-fixpoint}
use Rattle.pw_settle.proofs.Growing.{same_value}

-- what holds of one cell and of each other holds of all
pub by_cell : (P : ℕ → Type 0) (one : ℕ) → P one → ((cell : ℕ) → cell ≢ one → P cell) → (cell : ℕ) → P cell
by_cell P one here there cell =
    elim (cases_Bool (eqb cell one)) [
      | inl is ↦ subst P (sym (eqb-true cell one is)) here
      | inr other ↦ there cell (eqb-false cell one other)
    ]

-- an information that implies the first of two equal ones implies the second
pub implies_also : (info a b : Info) → a ≡ b → Implies info a → Implies info b
implies_also info a b same implies v possible = subst (λ (i : Info). allows i v ≡ true) same (implies v possible)

-- and what is implied by the first is implied by the second
pub also_implies : (info a b : Info) → a ≡ b → Implies a info → Implies b info
also_implies info a b same implies v possible = implies v (subst (λ (i : Info). allows i v ≡ true) (sym same) possible)

-- what implies both of two informations implies their merge
pub implies_merge : (info a b : Info) → kind_of a ≡ kind_of b → Implies info a → Implies info b → Implies info (meet a b)
implies_merge info a b one_kind first second v possible = allows-meet a b one_kind v ∙ both_true _ _ (first v possible) (second v possible)

-- if an information says what a fact says in the worldviews that have its support, it says what the
-- fact shows
pub implies_shown : (info : Info) (fact : Fact) (w : Premises) → kind_of info ≡ kind_of fact.info →
    (is_subset fact.support w ≡ true → Implies info fact.info) → Implies info (shows w fact)
implies_shown info fact w one_kind says =
    elim (cases_Bool (is_subset fact.support w)) [
      | inl supported ↦ implies_also info fact.info (shows w fact) (sym (shows-supported w fact supported)) (says supported)
      | inr not ↦ implies_also info (nothing (kind_of fact.info)) (shows w fact) (sym (shows-unsupported w fact not))
          (implies_nothing info (kind_of fact.info) one_kind)
    ]

-- the kind of a cell of a store that has the cells of a network
pub kind_there : (network : Network) (store : Store) → kinds_of store ≡ kinds_in network → (cell : ℕ) →
    kind_in_store store cell ≡ (numbered (kinds_in network)).kind cell
kind_there network store same cell = kind-listed store.cells cell ∙ ap (λ (l : List Kind). slice_index_or l cell kinds.Interval) same

-- what is kept is of the kind of the cell
pub kind-kept : (store : Store) (cell : ℕ) (w : Premises) → kind_of (kept_in store cell w) ≡ kind_in_store store cell
kind-kept store cell w = kind-shown_by (cell_at store cell).kind w (cell_at store cell).kept

-- so is the value
pub kind-in_value : (network : Network) (store : Store) → kinds_of store ≡ kinds_in network → (w : Premises) (cell : ℕ) →
    kind_of (value_in network store w cell) ≡ kind_in_store store cell
kind-in_value network store same w cell =
    kind-fixpoint (numbered (kinds_in network)) (numbers_of_cells (kinds_in network)) (sources_in network store w) cell
    ∙ sym (kind_there network store same cell)

module _ (network : Network) (old new : Store) (same : kinds_of old ≡ kinds_in network) (cell : ℕ) (fact : Fact)
    (kind : kind_of fact.info ≡ kind_in_store old cell)
    (told : (w : Premises) → told_in new cell w ≡ told_in old cell w) (gains : GainsKept cell fact old new) (others : LeavesOthers cell old new) where
  told_stays : (c : ℕ) (w : Premises) → told_in new c w ≡ told_in old c w
  told_stays c w = by_cell (λ c. told_in new c w ≡ told_in old c w) cell (told w) (λ c other. ap (λ (x : Cell). told_of x w) (others c other)) c

  pub kept_elsewhere : (c : ℕ) → c ≢ cell → (w : Premises) → kept_in new c w ≡ kept_in old c w
  kept_elsewhere c other w = ap (λ (x : Cell). kept_of x w) (others c other)

  pub kind_both : (w : Premises) → kind_of (kept_in old cell w) ≡ kind_of (shows w fact)
  kind_both w = kind-kept old cell w ∙ sym kind ∙ sym (kind-shows w fact)

  pub more_kept : (c : ℕ) (w : Premises) → Implies (kept_in new c w) (kept_in old c w)
  more_kept c w =
      by_cell (λ c. Implies (kept_in new c w) (kept_in old c w)) cell
      (also_implies (kept_in old cell w) (meet (kept_in old cell w) (shows w fact)) (kept_in new cell w) (sym (gains w))
      (meet_first (kept_in old cell w) (shows w fact) (kind_both w)))
      (λ c other. also_implies (kept_in old c w) (kept_in old c w) (kept_in new c w) (sym (kept_elsewhere c other w)) (λ v possible. possible)) c

  -- if the value says what the fact says in the worldviews that have its support, the store stays
  -- sound
  pub stays_sound : IsSound network old → ((w : Premises) → is_subset fact.support w ≡ true → Implies (value_in network old w cell) fact.info) →
      IsSound network new
  stays_sound sound follows w c =
      also_implies (kept_in new c w) (value_in network old w c) (value_in network new w c) (sym (same_value network old new told_stays w c))
      (by_cell (λ c. Implies (value_in network old w c) (kept_in new c w)) cell
      (implies_also (value_in network old w cell) (meet (kept_in old cell w) (shows w fact)) (kept_in new cell w) (sym (gains w))
      (implies_merge (value_in network old w cell) (kept_in old cell w) (shows w fact) (kind_both w) (sound w cell)
      (implies_shown (value_in network old w cell) fact w (kind-in_value network old same w cell ∙ sym kind) (follows w))))
      (λ c other. implies_also (value_in network old w c) (kept_in old c w) (kept_in new c w) (sym (kept_elsewhere c other w)) (sound w c)) c)

  -- so it keeps more
  pub keeps_fact : kinds_of new ≡ kinds_of old → Continues old new →
      (IsSound network old → (w : Premises) → is_subset fact.support w ≡ true → Implies (value_in network old w cell) fact.info) →
      KeepsMore network old new
  keeps_fact kinds_stay continues follows = record {
    kinds = kinds_stay;
    told = told_stays;
    more = more_kept;
    sound = λ sound. stays_sound sound (follows sound);
    continues = continues;
  }
