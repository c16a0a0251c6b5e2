-- The laws of this crate that are longer than a line: each is the contract of a function in
-- `src/laws.rt`.
use Rattle.std.specs.Prelude.{◌≡◌, ◌≤◌, ◌++◌, ℕ, List, All, Contains, IsTrue, Bool, true, length}
use Rattle.std.specs.Prelude.{map}
use Rattle.pw_info.specs.declared.kind.Kind.{Kind}
use Rattle.pw_info.specs.declared.info.Info.{Info}
use Rattle.pw_info.specs.Information.{Implies}
use Rattle.pw_premises.specs.Premises.{Premises}
use Rattle.pw_cells.specs.Cells.{Store, kept_in, kinds_of, new_cell}
use Rattle.pw_decl.specs.declared.step.Callable.{Callable}
use Rattle.pw_network.specs.Network.{Network as Networks, IsWellNetwork, cells_in, with_attached}
use Rattle.pw_settle.specs.Calls.{gains}
use Rattle.pw_settle.specs.Growth.{IsFitting}
use Rattle.pw_settle.specs.Growth.{KeepsMore}
use Rattle.pw_settle.specs.Settled.{Settled}
use Rattle.pw_settle.specs.Growth.{IsWider}
use Rattle.pw_settle.specs.Sources.{Cells, Source, AreOfTheirKinds, Fits, IsImplied, Names, cell_of}
use Rattle.pw_settle.specs.Sources.{is_propagator, source_renamed}
use Rattle.pw_settle.specs.Fixpoint.{AreOver, AreNamesOf, fixpoint, round, told_in_one, told_alone}
use Rattle.pw_settle.specs.Values.{kinds_in, numbered, numbers_of_cells, sources_in}

-- a round leaves the fixpoint as it is
abbrev pub RoundLeavesTheFixpoint : Type 0 → Type 0
RoundLeavesTheFixpoint C =
    (cells : Cells C) (over : List C) (sources : List (Source C)) →
    AreOver cells over sources →
    (c : C) →
    round cells sources (fixpoint cells over sources) c ≡ fixpoint cells over sources c

-- the fixpoint has at each cell an information of its kind
abbrev pub FixpointIsOfItsKinds : Type 0 → Type 0
FixpointIsOfItsKinds C =
    (cells : Cells C) (over : List C) (sources : List (Source C)) →
    AreOfTheirKinds cells (fixpoint cells over sources)

-- what a round leaves as it is says at each cell at least what the fixpoint says
abbrev pub FixpointIsLeastInformed : Type 0 → Type 0
FixpointIsLeastInformed C =
    (cells : Cells C) (over : List C) (sources : List (Source C)) →
    All (Fits cells) sources →
    (known : C → Info) → AreOfTheirKinds cells known →
    ((c : C) → round cells sources known c ≡ known c) →
    (c : C) → Implies (known c) (fixpoint cells over sources c)

-- the fixpoint says of each cell what each source says of it
abbrev pub FixpointSaysWhatSourcesSay : Type 0 → Type 0
FixpointSaysWhatSourcesSay C =
    (cells : Cells C) (over : List C) (sources : List (Source C)) →
    AreOver cells over sources →
    All (IsImplied (fixpoint cells over sources)) sources

-- and what says all that sources say says at each cell at least what the fixpoint says
abbrev pub FixpointSaysNothingElse : Type 0 → Type 0
FixpointSaysNothingElse C =
    (cells : Cells C) (over : List C) (sources : List (Source C)) →
    All (Fits cells) sources →
    (known : C → Info) → AreOfTheirKinds cells known → All (IsImplied known) sources →
    (c : C) → Implies (known c) (fixpoint cells over sources c)

-- from more sources at least as much follows, at each cell
abbrev pub MoreSourcesSayMore : Type 0 → Type 0
MoreSourcesSayMore C =
    (cells : Cells C) (over wider : List C) (sources more : List (Source C)) →
    All (Fits cells) sources →
    AreOver cells wider more → All (Contains more) sources →
    (c : C) → Implies (fixpoint cells wider more c) (fixpoint cells over sources c)

-- over how many cells the sources are does not matter, where these are all that they inform
abbrev pub FurtherCellsChangeNothing : Type 0 → Type 0
FurtherCellsChangeNothing C =
    (cells : Cells C) (over wider : List C) (sources : List (Source C)) →
    AreOver cells over sources →
    AreOver cells wider sources → (c : C) →
    fixpoint cells over sources c ≡ fixpoint cells wider sources c

-- what follows over other names of the cells is what follows, by other names
abbrev pub NamesDoNotMatter : Type 0 → Type 0 → Type 0
NamesDoNotMatter C D =
    (cells : Cells C) (others : Cells D) (here : C → Bool) (name : C → D) (over : List C)
    (sources : List (Source C)) → AreNamesOf cells others (λ c. IsTrue (here c)) name →
    All (Names (λ c. IsTrue (here c))) sources → (c : C) → IsTrue (here c) →
    fixpoint others (map name over) (map (source_renamed name) sources) (name c)
    ≡ fixpoint cells over sources c

-- all that was told of a cell may be told of it at once
abbrev pub TellsMayBeMerged : Type 0 → Type 0
TellsMayBeMerged C =
    (cells : Cells C) (over : List C) (sources : List (Source C)) →
    AreOver cells over sources →
    (told : C → Info) → ((c : C) → Contains over c → told c ≡ told_alone cells sources c) →
    (c : C) →
    fixpoint cells over (told_in_one over told sources) c ≡ fixpoint cells over sources c

-- a cell that no propagator writes has what was told of it
abbrev pub UnwrittenCellsHaveWhatIsTold : Type 0 → Type 0
UnwrittenCellsHaveWhatIsTold C =
    (cells : Cells C) (over : List C) (sources : List (Source C)) →
    AreOver cells over sources →
    (c : C) → All (λ source. cell_of source ≡ c → is_propagator source ≡ true → ⊥) sources →
    fixpoint cells over sources c ≡ told_alone cells sources c

-- the sources in a network, under any premises, are over its cells
abbrev pub NetworksMeetTheLaws : Type 0
NetworksMeetTheLaws =
    (network : Networks) (store : Store) (w : Premises) → IsWellNetwork network →
    kinds_of store ≡ kinds_in network →
    AreOver (numbered (kinds_in network)) (numbers_of_cells (kinds_in network))
    (sources_in network store w)

-- a network in which something more is attached has all that it had
abbrev pub AttachingWidens : Type 0
AttachingWidens =
    (network : Networks) (line : ℕ) (callable : Callable) (cells : List ℕ) (support : Premises) →
    IsWider network (with_attached network line callable cells support)

-- from a store to a later one at least as much is gained as to one between
abbrev pub GainsGrow : Type 0
GainsGrow =
    (network : Networks) (old new newer : Store) (w : Premises) →
    KeepsMore network new newer → gains network old new w ≤ gains network old newer w

-- values that fit a network fit a wider one
abbrev pub FittingInWider : Type 0
FittingInWider =
    (network wider : Networks) (store : Store) (settled : Settled) → IsWellNetwork network →
    IsWider network wider → IsFitting network store settled → IsFitting wider store settled

-- and a store with new cells
abbrev pub FittingWithNewCells : Type 0
FittingWithNewCells =
    (network : Networks) (old new : Store) (settled : Settled) (own : List Kind) →
    new.cells ≡ old.cells ++ map new_cell own → cells_in network ≤ length old.cells →
    IsFitting network old settled → IsFitting network new settled

-- and a store that keeps more
abbrev pub FittingWhereMoreIsKept : Type 0
FittingWhereMoreIsKept =
    (network : Networks) (old new : Store) (settled : Settled) →
    ((cell : ℕ) (w : Premises) → Implies (kept_in new cell w) (kept_in old cell w)) →
    IsFitting network old settled → IsFitting network new settled
