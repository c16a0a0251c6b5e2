-- The cells of the network that entries make have the kinds that go with their names.
use Rattle.std.proofs.Common.{◌≡◌, ℕ, ◌+◌, ◌<◌, inl, inr, List, [], ◌∷◌, ◌++◌, fold, length, map, get_or, sym, ap, subst, ◌∙◌, arith, append-nil, length-append, All}
use Rattle.std.proofs.lemmas.List.{length-map, get_or_append_left, get_or-append-add}
use Rattle.std.proofs.lemmas.List.Elements.{All-head, All-tail}
use Rattle.pw_info.specs.declared.kind.Kind.{Kind}
use Rattle.pw_info.specs.declared.kind.Kind.TheVariants as kinds
use Rattle.pw_premises.specs.Premises.{Premises}
use Rattle.pw_decl.specs.declared.step.Callable.{Callable}
use Rattle.pw_decl.specs.Declaration.{Declared}
use Rattle.pw_decl.specs.Expansion.{inner_kinds_of}
use Rattle.pw_network.specs.Wiring.{name_in}
use Rattle.pw_network.specs.Network.{Network, InnerCell, bare, cells_in, kind_in, with_attached}
use Rattle.pw_network.proofs.NameLemmas.{declared_name, kept_name}
use Rattle.pw_settle.specs.Values.{kinds_in}
use Rattle.pw_settle.proofs.WiderNetworks.{kinds_with_attached}
use Rattle.pw_sessions.specs.CellNames.{kind_by_name}
use Rattle.pw_sessions.specs.Entries.{Entry, Told, Attached, RiseFrom}
use Rattle.pw_sessions.specs.Workbench.{network_after, with_entry}
use Rattle.pw_sessions.proofs.EntriesRise.{FindsKinds, finds_kinds}
use Rattle.pw_sessions.proofs.NetworkNames.{declared_after, name_of_new, which_cell}

-- if each declared cell has a kind, each cell of the network has one
length-kinds_in : (network : Network) → length network.declared.kinds ≡ length network.declared.cells →
    length (kinds_in network) ≡ cells_in network
length-kinds_in network many =
    let a = length-append network.declared.kinds (map (λ (inner : InnerCell). inner.kind) network.inner) in
    let b = length-map network.inner (λ inner. inner.kind) in
    omega arith

-- the kind of each cell goes with its name, where these entries were made
abbrev HasKinds : List Entry → Network → Type 0
HasKinds all network =
    (cell : ℕ) → cell < cells_in network → kind_in network cell ≡ kind_by_name network.declared all (name_in network cell)

module _ (network : Network) (line : ℕ) (callable : Callable) (cells : List ℕ) (support : Premises) where
  -- the kinds of the new cells, and the network with the attachment
  abbrev own : List Kind
  own = inner_kinds_of network.declared.compounds callable

  abbrev after : Network
  after = with_attached network line callable cells support

  module _ (many : length network.declared.kinds ≡ length network.declared.cells) where
    -- a cell that existed has the kind that it had
    old_kind : (cell : ℕ) → cell < cells_in network → kind_in after cell ≡ kind_in network cell
    old_kind cell here =
        let l = length-kinds_in network many in
        ap (λ (l : List Kind). get_or l cell kinds.Interval) (kinds_with_attached network line callable cells support)
        ∙ get_or_append_left (kinds_in network) own kinds.Interval cell (omega arith)

    -- and a new one its own
    new_kind : (j cell : ℕ) → cells_in network + j ≡ cell → kind_in after cell ≡ get_or own j kinds.Interval
    new_kind j cell is =
        let l = length-kinds_in network many in
        let at : cell ≡ length (kinds_in network) + j = omega arith in
        ap (λ (l : List Kind). get_or l cell kinds.Interval) (kinds_with_attached network line callable cells support)
        ∙ ap (λ (n : ℕ). get_or (kinds_in network ++ own) n kinds.Interval) at
        ∙ get_or-append-add (kinds_in network) own j kinds.Interval

    -- with an attachment, of which the line is found to have made its kinds
    kinds_attached : (all : List Entry) → FindsKinds network.declared all (Attached line callable cells support) → HasKinds all network →
        HasKinds all after
    kinds_attached all finds has cell within =
        elim (which_cell network line callable cells support cell within) [
          | inl old ↦ old_kind cell old ∙ has cell old
              ∙ ap (kind_by_name network.declared all) (sym (kept_name network line callable cells support cell old))
          | inr new ↦ new_kind new.0 cell new.2 ∙ ap (λ (l : List Kind). get_or l new.0 kinds.Interval) (sym finds)
              ∙ ap (kind_by_name network.declared all) (sym (name_of_new network line callable cells support new.0 cell new.1 new.2))
        ]

-- with further entries
kinds_from : (network : Network) (all entries : List Entry) → length network.declared.kinds ≡ length network.declared.cells →
    All (FindsKinds network.declared all) entries → HasKinds all network → HasKinds all (fold with_entry network entries)
kinds_from network all [] many finds has = has
kinds_from network all (Told line cell fact ∷ entries) many finds has =
    kinds_from network all entries many (All-tail (FindsKinds network.declared all) (Told line cell fact) entries finds) has
kinds_from network all (Attached line callable cells support ∷ entries) many finds has =
    let entry : Entry = Attached line callable cells support in
    kinds_from (with_attached network line callable cells support) all entries many
    (All-tail (FindsKinds network.declared all) entry entries finds)
    (kinds_attached network line callable cells support many all (All-head (FindsKinds network.declared all) entry entries finds) has)

-- the declared cells have the declared kinds
kinds_of_bare : (d : Declared) (all : List Entry) → HasKinds all (bare d)
kinds_of_bare d all cell within =
    ap (λ (l : List Kind). get_or l cell kinds.Interval) (append-nil d.kinds)
    ∙ ap (kind_by_name d all) (sym (declared_name (bare d) cell (omega (arith, within))))

-- each cell of the network that entries make has the kind that goes with its name
pub kinds_by_name : (d : Declared) (entries : List Entry) → length d.kinds ≡ length d.cells → RiseFrom 0 entries →
    (cell : ℕ) → cell < cells_in (network_after d entries) →
    kind_in (network_after d entries) cell ≡ kind_by_name d entries (name_in (network_after d entries) cell)
kinds_by_name d entries many rise =
    subst (λ (e : Declared). (cell : ℕ) → cell < cells_in (network_after d entries) →
    kind_in (network_after d entries) cell ≡ kind_by_name e entries (name_in (network_after d entries) cell))
    (declared_after (bare d) entries)
    (kinds_from (bare d) entries entries many (finds_kinds d 0 entries rise) (kinds_of_bare d entries))

-- and there are as many kinds as cells
pub kinds_many : (d : Declared) (entries : List Entry) → length d.kinds ≡ length d.cells →
    length (kinds_in (network_after d entries)) ≡ cells_in (network_after d entries)
kinds_many d entries many =
    length-kinds_in (network_after d entries)
    (subst (λ (e : Declared). length e.kinds ≡ length e.cells) (sym (declared_after (bare d) entries)) many)
