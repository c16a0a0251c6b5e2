-- The network that entries make, by the names of its cells: the facts that the other proofs need.
use Rattle.std.proofs.Common.{◌≡◌, ℕ, ◌<◌, List, filter, length, map, sym, subst, ◌∙◌, arith, All}
use Rattle.std.specs.List.{flat_map, range_with_len}
use Rattle.std.specs.FinSet.{is_subset}
use Rattle.std.proofs.lemmas.List.Elements.{All-filter, All-map}
use Rattle.pw_premises.specs.Premises.{Premises}
use Rattle.pw_decl.specs.Declaration.{Declared}
use Rattle.pw_decl.specs.Expansion.{SpeaksOf, renamed}
use Rattle.pw_decl.specs.WellDeclared.{IsWellDeclared}
use Rattle.pw_network.specs.Wiring.{DeclaredCell, name_in}
use Rattle.pw_network.specs.Network.{Attached as AttachedInstance, InstancesStay, Network, bare, cells_in, kind_in}
use Rattle.pw_settle.specs.Sources.{is_propagator, source_renamed}
use Rattle.pw_settle.specs.Values.{kinds_in, propagators_of, visible_instances}
use Rattle.pw_sessions.specs.Values.{sources_after, visible_in}
use Rattle.pw_sessions.specs.CellNames.{kind_by_name, names_after}
use Rattle.pw_sessions.specs.Entries.{Entry, FitsDeclared, RiseFrom}
use Rattle.pw_sessions.specs.Workbench.{network_after}
use Rattle.pw_settle.proofs.Propagators.{propagators_renamed}
use Rattle.pw_sessions.proofs.NamedSources.{propagators_after}
use Rattle.pw_sessions.proofs.NetworkInstances.{instances_of, instances_stay, visible_by_name}
use Rattle.pw_sessions.proofs.NetworkKinds.{kinds_by_name, kinds_many}
use Rattle.pw_sessions.proofs.NetworkNames.{declared_after, declared_name_after, names_apart, names_of_network}

-- the network is over the declaration; in the order of their numbers its cells have the names that
-- the entries make, all different, and the kinds that go with them; and by these names its visible
-- instances are those of the visible entries
pub record IsNamedAfter (d : Declared) (entries : List Entry) (network : Network) : Type 0 where
  pub declared : network.declared ≡ d
  pub names : map (name_in network) (range_with_len 0 (cells_in network)) ≡ names_after d entries
  pub apart : (b c : ℕ) → b < cells_in network → c < cells_in network → name_in network b ≡ name_in network c → b ≡ c
  pub kinds : (cell : ℕ) → cell < cells_in network → kind_in network cell ≡ kind_by_name d entries (name_in network cell)
  pub many : length (kinds_in network) ≡ cells_in network
  pub first : (cell : ℕ) → cell < length d.cells → name_in network cell ≡ DeclaredCell cell
  pub stay : InstancesStay network
  pub instances : (w : Premises) → map (renamed (name_in network)) (visible_instances network.attached w) ≡
      flat_map (instances_of d) (visible_in entries w)

-- so is the network that entries make which fit the declaration and rise
pub named_after : (d : Declared) (entries : List Entry) (network : Network) → IsWellDeclared d → All (FitsDeclared d) entries →
    RiseFrom 0 entries → network ≡ network_after d entries → IsNamedAfter d entries network
named_after d entries network well fit rise is =
    subst (IsNamedAfter d entries) (sym is) (record {
      declared = declared_after (bare d) entries;
      names = names_of_network d entries;
      apart = names_apart d entries rise;
      kinds = kinds_by_name d entries well.kinds rise;
      many = kinds_many d entries well.kinds;
      first = declared_name_after d entries;
      stay = instances_stay d entries fit;
      instances = λ w. visible_by_name d entries w fit;
    })

module _ (d : Declared) (entries : List Entry) (network : Network) (named : IsNamedAfter d entries network) where
  -- a declared cell is one of its cells
  pub declared_here : (cell : ℕ) → cell < length d.cells → cell < cells_in network
  declared_here cell here =
      let same : length network.declared.cells ≡ length d.cells = λ i. length (named.declared i).cells in
      omega (arith, same, here)

  -- the visible instances stay on its cells
  pub visible_stay : (w : Premises) → All (SpeaksOf (λ c. c < cells_in network)) (visible_instances network.attached w)
  visible_stay w =
      All-map (SpeaksOf (λ c. c < cells_in network)) (λ (a : AttachedInstance). a.instance)
      (filter (λ (a : AttachedInstance). is_subset a.support w) network.attached)
      (All-filter (λ (a : AttachedInstance). is_subset a.support w)
      (λ (a : AttachedInstance). SpeaksOf (λ c. c < cells_in network) a.instance) network.attached named.stay)

  -- by name, what the visible instances are as sources is the propagators of what the visible
  -- entries say
  pub visible_propagators : (w : Premises) →
      map (source_renamed (name_in network)) (propagators_of network.declared.procedures (visible_instances network.attached w)) ≡
      filter is_propagator (sources_after d (visible_in entries w))
  visible_propagators w =
      propagators_renamed (name_in network) network.declared.procedures (visible_instances network.attached w)
      ∙ (λ i. propagators_of (named.declared i).procedures (named.instances w i))
      ∙ sym (propagators_after d (visible_in entries w))
