-- Instances, inner cells and a network, by the fields that the code stores.
use Rattle.std.specs.Prelude.{◌≡◌, ◌+◌, ◌↔◌, ℕ, List, All, IsTrue, map, true}
use Rattle.std.specs.Coded.{Coded, coded_ℕ}
use Rattle.std.specs.FinSet.{code, is_subset}
use Rattle.pw_decl.specs.Declaration.{Declared}
use Rattle.pw_decl.specs.Expansion.{at_place}
use Rattle.pw_procs.specs.Registry.{cells_of}
use Rattle.pw_network.specs.declared.network.InnerCell.{InnerCell as InnerType}
use Rattle.pw_network.specs.declared.instance.Instance.{Instance as InstanceType}
use Rattle.pw_network.specs.inside.Reads.{inputs_held}
use Rattle.pw_network.specs.Network.{Attached, InnerCell, Network, attached_at}
use Rattle.pw_premises.specs.Premises.{Premises}
use Rattle.pw_decl.specs.declared.flat_call.FlatCall.{FlatCall}
use Rattle.pw_decl.specs.inside.Held.{instances_on}

-- an instance, with its line and its premises
abbrev pub attachment : InstanceType → Attached
attachment kept =
    record {
      instance = record {
        procedure = kept.procedure;
        inputs = inputs_held kept.count kept.cells kept.attached.value.inputs.items;
        output = kept.output;
      };
      line = kept.attached.value.line;
      support = kept.attached.value.support;
    }

-- an inner cell
abbrev pub inner_of : InnerType → InnerCell
inner_of kept = record { line = kept.line; number = kept.number; kind = kept.kind }

-- the network that the fields store
abbrev pub wiring_from : Declared → List InnerType → List InstanceType → ℕ → Network
wiring_from declared inner instances last_line =
    record {
      declared = declared;
      inner = map inner_of inner;
      attached = map attachment instances;
      last_line = last_line;
    }

-- two supports are equal in one way at most, since they have a code
pub support_code : Coded Premises
support_code = code coded_ℕ

-- the cells at the places of a call: first these cells, and then the inner cells from a number on
abbrev pub cells_placed : List ℕ → ℕ → FlatCall → List ℕ
cells_placed cells first call = map (at_place cells (λ j. first + j)) (cells_of call.places)

-- what calls over places are on these cells, attached in this line under these premises
abbrev pub attached_on : ℕ → Premises → List ℕ → ℕ → List FlatCall → List Attached
attached_on line support cells first calls = map (attached_at line support)
    (instances_on cells first calls)

-- a worldview has these premises exactly if each instance rests only on premises of it
abbrev pub ArePremisesOf : List Attached → Premises → Type 0
ArePremisesOf attached premises =
    (worldview : Premises) → IsTrue (is_subset premises worldview)
    ↔ All (λ a. is_subset a.support worldview ≡ true) attached
