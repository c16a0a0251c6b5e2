-- The value of a cell of a network in a worldview: what follows from what a store is told there and
-- from the procedures of the instances that are visible there.
use Rattle.std.specs.Prelude.{◌≡◌, ℕ, nat_eq, [], ◌∷◌, All, List, ◌++◌, Option, filter, length, map}
use Rattle.std.specs.Prelude.{slice_get, slice_index_or}
use Rattle.std.specs.Bool.{Decides}
use Rattle.std.proofs.Common.{arith}
use Rattle.std.proofs.lemmas.Bool.Decides.{nat_tests}
use Rattle.std.specs.List.{filter_map, range_with_len}
use Rattle.std.specs.FinSet.{is_subset}
use Rattle.std.specs.Option.{option_map}
use Rattle.pw_info.specs.declared.kind.Kind.{Kind}
use Rattle.pw_info.specs.declared.info.Info.{Info}
use Rattle.pw_premises.specs.Premises.{Premises}
use Rattle.pw_procs.specs.Procedure.{Procedure}
use Rattle.pw_cells.specs.Cells.{Store, told_in}
use Rattle.pw_decl.specs.Expansion.{Instance}
use Rattle.pw_network.specs.Network.{Attached, Network}
use Rattle.pw_settle.specs.Sources.{IsImplied, Cells, Source, Told, Propagator}
use Rattle.pw_settle.specs.Fixpoint.{fixpoint}
use Rattle.pw_info.specs.declared.kind.Kind.TheVariants as kinds

-- it decides whether they are equal
pub nat_eq_decides : (m n : ℕ) → Decides (nat_eq m n) (m ≡ n)
nat_eq_decides m n = (λ e. grind (arith, nat_tests), λ e. grind (arith, nat_tests))

-- cells by their numbers, of these kinds; past the last there are only interval cells
abbrev pub numbered : List Kind → Cells ℕ
numbered list = record {
  same = nat_eq;
  decides = nat_eq_decides;
  kind = λ cell.
      slice_index_or list cell kinds.Interval;
}

-- the numbers of cells of these kinds
abbrev pub numbers_of_cells : List Kind → List ℕ
numbers_of_cells list = range_with_len 0 (length list)

-- the kinds of the cells of a network, by number
abbrev pub kinds_in : Network → List Kind
kinds_in network = network.declared.kinds ++ map (λ inner. inner.kind) network.inner

-- an instance as a source, if there is a procedure of its number
abbrev pub propagator_of : {C : Type 0} → List Procedure → Instance C → Option (Source C)
propagator_of procedures instance =
    option_map (λ procedure. Propagator procedure instance.inputs instance.output)
    (slice_get procedures instance.procedure)

-- instances as sources, each where there is a procedure of its number
abbrev pub propagators_of : {C : Type 0} → List Procedure → List (Instance C) → List (Source C)
propagators_of procedures instances = filter_map (propagator_of procedures) instances

-- the instances that are visible in a worldview: all premises under which each was attached are in
-- it
abbrev pub visible_instances : List Attached → Premises → List (Instance ℕ)
visible_instances attached worldview =
    map (λ (a : Attached). a.instance) (filter (λ (a : Attached).
    is_subset a.support worldview) attached)

-- the cells below this number, with what the store is told about each in a worldview
abbrev pub told_sources : Store → Premises → ℕ → List (Source ℕ)
told_sources store worldview count = map (λ cell.
    Told cell (told_in store cell worldview)) (range_with_len 0 count)

-- what the store is told in a worldview, and the instances that are visible there
abbrev pub sources_in : Network → Store → Premises → List (Source ℕ)
sources_in network store worldview =
    told_sources store worldview (length (kinds_in network))
    ++ propagators_of network.declared.procedures (visible_instances network.attached worldview)

-- the value of a cell in a worldview
abbrev pub value_in : Network → Store → Premises → ℕ → Info
value_in network store worldview cell =
    fixpoint (numbered (kinds_in network)) (numbers_of_cells (kinds_in network))
    (sources_in network store worldview) cell

-- the output of an instance says what its procedure makes of what is known about its inputs
abbrev pub IsSatisfied : Network → (ℕ → Info) → Attached → Type 0
IsSatisfied network known a = All (IsImplied known)
    (propagators_of network.declared.procedures (a.instance ∷ []))

-- an instance of this number, if there is one
abbrev pub attached_no : Network → ℕ → Attached → Attached
attached_no network number d = slice_index_or network.attached number d
