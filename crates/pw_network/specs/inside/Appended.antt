-- The instances of calls over places, appended to others.
use Rattle.std.specs.Prelude.{◌≡◌, ℕ, ◌≤◌, List, All, drop, length, map, take}
use Rattle.pw_decl.specs.declared.flat_call.FlatCall.{FlatCall}
use Rattle.pw_network.specs.declared.instance.Instance.{Instance as InstanceType}
use Rattle.pw_network.specs.inside.Held.{attachment, attached_on}
use Rattle.pw_premises.specs.Premises.{Premises}

-- after these instances come those of calls on these cells, attached in this line under these premises
pub record AppendsCalls (line : ℕ) (support : Premises) (cells : List ℕ) (first : ℕ) (calls : List FlatCall)
    (old new : List InstanceType) : Type 0 where
  pub before : take (length old) new ≡ old
  pub made : map attachment (drop (length old) new) ≡ attached_on line support cells first calls
  -- an instance has at most eight inputs
  pub few : All (λ instance. length (attachment instance).instance.inputs ≤ 8) (drop (length old) new)
