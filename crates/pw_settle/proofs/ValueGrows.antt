-- The value of a cell grows with the beliefs: more is told, and more instances are visible.
use Rattle.std.proofs.Common.{◌≡◌, ℕ, Bool, true, false, cond, List, [], ◌∷◌, ◌++◌, length, map, filter, All, Contains, refl, sym, subst}
use Rattle.std.specs.List.{range_with_len}
use Rattle.std.specs.FinSet.{is_subset}
use Rattle.std.proofs.lemmas.List.Elements.{All-append, All-contains, All-cons, All-head, All-nil, All-tail, filter_map-append}
use Rattle.pw_info.specs.declared.info.Info.{Info}
use Rattle.pw_info.specs.Information.{kind_of}
use Rattle.pw_premises.specs.Premises.{Premises}
use Rattle.pw_premises.specs.PremiseSubsets.{is_subset_trans}
use Rattle.pw_procs.specs.Procedure.{Procedure}
use Rattle.pw_cells.specs.Cells.{Store, cell_at, kinds_of, told_in}
use Rattle.pw_cells.proofs.Together.{larger_shown}
use Rattle.pw_decl.specs.Expansion.{Instance}
use Rattle.pw_network.specs.Network.{Attached, Network, IsWellNetwork}
use Rattle.pw_settle.specs.Sources.{Cells, Source, Told, IsImplied}
use Rattle.pw_settle.specs.Fixpoint.{AreOver}
use Rattle.pw_settle.specs.Values.{numbered, numbers_of_cells, kinds_in, propagator_of, propagators_of, visible_instances, told_sources, sources_in, value_in}
use Rattle.pw_settle.proofs.FixpointLemmas.{fixpoint_above, kind-fixpoint}
use Rattle.pw_settle.proofs.SourceLists.{all_before, all_after}
use Rattle.pw_settle.proofs.SettledValues.{all_placed, are_over}
use Rattle.pw_facts.specs.Facts.{IsMonotone}

-- ---- what is visible

abbrev instance_in : Attached → Instance ℕ
instance_in a = a.instance

-- the sources of one more instance
one_more : (procedures : List Procedure) (instance : Instance ℕ) (others : List (Instance ℕ)) →
    propagators_of procedures (instance ∷ others) ≡ propagators_of procedures (instance ∷ []) ++ propagators_of procedures others
one_more procedures instance others = filter_map-append (propagator_of procedures) (instance ∷ []) others

module _ (procedures : List Procedure) (P : Source ℕ → Type 0) (a : Attached) where
  -- what holds of the sources of instances, of which the first is there if a test passes, holds of
  -- the first's if it passes, and of those of the others
  parted : (b : Bool) (others : List Attached) → All P (propagators_of procedures (map instance_in (cond b (a ∷ others) others))) →
      (b ≡ true → All P (propagators_of procedures (a.instance ∷ []))) × All P (propagators_of procedures (map instance_in others))
  parted true others all =
      let parts = subst (All P) (one_more procedures a.instance (map instance_in others)) all in (
        λ e. all_before P (propagators_of procedures (a.instance ∷ [])) (propagators_of procedures (map instance_in others)) parts,
        all_after P (propagators_of procedures (a.instance ∷ [])) (propagators_of procedures (map instance_in others)) parts,
      )
  parted false others all = (λ e. absurd (cc), all)

  -- and conversely
  joined : (b : Bool) (others : List Attached) → (b ≡ true → All P (propagators_of procedures (a.instance ∷ []))) →
      All P (propagators_of procedures (map instance_in others)) →
      All P (propagators_of procedures (map instance_in (cond b (a ∷ others) others)))
  joined true others first rest =
      subst (All P) (sym (one_more procedures a.instance (map instance_in others)))
      (All-append P (propagators_of procedures (a.instance ∷ [])) (propagators_of procedures (map instance_in others)) (first refl) rest)
  joined false others first rest = rest

-- what holds of the sources of all instances that are visible in a worldview holds of those that
-- are in a part of it
fewer_seen : (procedures : List Procedure) (P : Source ℕ → Type 0) (part w : Premises) → is_subset part w ≡ true →
    (attached : List Attached) → All P (propagators_of procedures (visible_instances attached w)) →
    All P (propagators_of procedures (visible_instances attached part))
fewer_seen procedures P part w within [] all = All-nil P
fewer_seen procedures P part w within (a ∷ attached) all =
    let parts = parted procedures P a (is_subset a.support w) (filter (λ (b : Attached). is_subset b.support w) attached) all in
    joined procedures P a (is_subset a.support part) (filter (λ (b : Attached). is_subset b.support part) attached)
    (λ seen. parts.0 (is_subset_trans a.support part w seen within)) (fewer_seen procedures P part w within attached parts.1)

-- what holds of the sources of all instances that are visible holds of those of each
pub seen_source : (procedures : List Procedure) (P : Source ℕ → Type 0) (w : Premises) (a : Attached) (attached : List Attached) →
    All P (propagators_of procedures (visible_instances attached w)) → Contains attached a → is_subset a.support w ≡ true →
    All P (propagators_of procedures (a.instance ∷ []))
seen_source procedures P w a attached all there seen =
    All-contains (λ (b : Attached). is_subset b.support w ≡ true → All P (propagators_of procedures (b.instance ∷ []))) attached a
    (each_seen attached all) there seen
  where
    each_seen : (l : List Attached) → All P (propagators_of procedures (visible_instances l w)) →
        All (λ (b : Attached). is_subset b.support w ≡ true → All P (propagators_of procedures (b.instance ∷ []))) l
    each_seen [] all = All-nil (λ (b : Attached). is_subset b.support w ≡ true → All P (propagators_of procedures (b.instance ∷ [])))
    each_seen (x ∷ l) all =
        let parts = parted procedures P x (is_subset x.support w) (filter (λ (b : Attached). is_subset b.support w) l) all in
        All-cons (λ (b : Attached). is_subset b.support w ≡ true → All P (propagators_of procedures (b.instance ∷ []))) x l parts.0 (each_seen l parts.1)

-- and conversely
pub all_seen : (procedures : List Procedure) (P : Source ℕ → Type 0) (w : Premises) (attached : List Attached) →
    All (λ (b : Attached). is_subset b.support w ≡ true → All P (propagators_of procedures (b.instance ∷ []))) attached →
    All P (propagators_of procedures (visible_instances attached w))
all_seen procedures P w [] each = All-nil P
all_seen procedures P w (x ∷ l) each =
    joined procedures P x (is_subset x.support w) (filter (λ (b : Attached). is_subset b.support w) l)
    (All-head (λ (b : Attached). is_subset b.support w ≡ true → All P (propagators_of procedures (b.instance ∷ []))) x l each)
    (all_seen procedures P w l (All-tail (λ (b : Attached). is_subset b.support w ≡ true → All P (propagators_of procedures (b.instance ∷ []))) x l each))

-- ---- the told facts

-- what implies the told information in a worldview implies the told information in a part of it
less_told : (store : Store) (known : ℕ → Info) (part w : Premises) → is_subset part w ≡ true → (cells : List ℕ) →
    All (IsImplied known) (map (λ cell. Told cell (told_in store cell w)) cells) →
    All (IsImplied known) (map (λ cell. Told cell (told_in store cell part)) cells)
less_told store known part w within [] all = All-nil (IsImplied known)
less_told store known part w within (cell ∷ cells) all =
    All-cons (IsImplied known) _ _
    (λ v possible. larger_shown (cell_at store cell).kind part w (cell_at store cell).told within v
    (All-head (IsImplied known) _ _ all v possible))
    (less_told store known part w within cells (All-tail (IsImplied known) _ _ all))

-- ---- the value

module _ (network : Network) (store : Store) (well : IsWellNetwork network) (same : kinds_of store ≡ kinds_in network) where
  abbrev cells : Cells ℕ
  cells = numbered (kinds_in network)

  abbrev over : List ℕ
  over = numbers_of_cells (kinds_in network)

  abbrev told : Premises → List (Source ℕ)
  told w = told_sources store w (length (kinds_in network))

  abbrev seen : Premises → List (Source ℕ)
  seen w = propagators_of network.declared.procedures (visible_instances network.attached w)

  are : (w : Premises) → AreOver cells over (sources_in network store w)
  are w = are_over network store w same (all_placed network well)

  -- anything that implies what is said in a worldview implies what is said in a part of it
  less_said : (known : ℕ → Info) (part w : Premises) → is_subset part w ≡ true → All (IsImplied known) (sources_in network store w) →
      All (IsImplied known) (sources_in network store part)
  less_said known part w within implied =
      All-append (IsImplied known) (told part) (seen part)
      (less_told store known part w within (range_with_len 0 (length (kinds_in network)))
      (all_before (IsImplied known) (told w) (seen w) implied))
      (fewer_seen network.declared.procedures (IsImplied known) part w within network.attached
      (all_after (IsImplied known) (told w) (seen w) implied))

  -- the value of a cell of a network grows with the worldview
  pub value_grows : (cell : ℕ) → IsMonotone (λ w. value_in network store w cell)
  value_grows cell part w within =
      fixpoint_above cells over over (sources_in network store part) (sources_in network store w) (are part).fit (are w)
      (λ known kinds implied. less_said known part w within implied) cell

  -- and is of the kind of the cell
  pub kind-value_in : (w : Premises) (cell : ℕ) → kind_of (value_in network store w cell) ≡ cells.kind cell
  kind-value_in w = kind-fixpoint cells over (sources_in network store w)
