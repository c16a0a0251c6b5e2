-- Flags of instances, where a support is tested once a line.
use Rattle.std.proofs.Common.{◌≡◌, ℕ, ◌<◌, ◌≤◌, Bool, List, All, length, map, get_or, sym, ap, ◌∙◌, subst, arith}
use Rattle.std.specs.FinSet.{is_subset}
use Rattle.std.proofs.lemmas.List.Elements.{All-weaker}
use Rattle.pw_premises.specs.Premises.{Premises}
use Rattle.pw_network.specs.declared.instance.Instance.{Instance}
use Rattle.pw_network.specs.inside.Held.{attachment}
use Rattle.pw_network.specs.Network.{Attached, HaveSupportsByLine, IsAttachedBy, IsWellNetwork, Network}
use Rattle.pw_settle.specs.Calls.{is_instance_visible}

-- an instance of this line is visible just as the flag says
abbrev pub IsFlagged : Premises → ℕ → Bool → Attached → Type 0
IsFlagged w line flag attached = line ≡ attached.line → is_instance_visible w attached ≡ flag

-- no instance is of line 0
pub none_flagged : (w : Premises) (flag : Bool) (attached : List Attached) → All (λ a. 1 ≤ a.line) attached → All (IsFlagged w 0 flag) attached
none_flagged w flag attached lines k d there same = let later = lines k d there in absurd (omega arith)

module _ (w : Premises) (attached : List Attached) (n : ℕ) (a : Attached) (below : n < length attached) (is : a ≡ get_or attached n a)
    (line : ℕ) (flag : Bool) (its : line ≡ a.line) where
  -- the flag of an instance is that of each instance of its line
  pub flag_of_line : HaveSupportsByLine attached → flag ≡ is_instance_visible w a → All (IsFlagged w line flag) attached
  flag_of_line supports found k d there same =
      let lines : (get_or attached n a).line ≡ (get_or attached k d).line = sym (ap (λ (x : Attached). x.line) is) ∙ sym its ∙ same in
      let alike : a.support ≡ (get_or attached k d).support = ap (λ (x : Attached). x.support) is ∙ supports n a below k d there lines in
      ap (λ (s : Premises). is_subset s w) (sym alike) ∙ sym found

  -- the flag of a line is that of an instance of the line
  pub flag_of_item : All (IsFlagged w line flag) attached → is_instance_visible w a ≡ flag
  flag_of_item flagged = ap (is_instance_visible w) is ∙ flagged n a below (its ∙ ap (λ (x : Attached). x.line) is)

-- what holds of the instances of a network holds of them as they are stored
module _ (network : Network) (well : IsWellNetwork network) (items : List Instance) (same : map attachment items ≡ network.attached) where
  pub lines_of_items : All (λ a. 1 ≤ a.line) (map attachment items)
  lines_of_items =
      subst (All (λ (a : Attached). 1 ≤ a.line)) (sym same)
      (All-weaker (IsAttachedBy network.last_line) (λ (a : Attached). 1 ≤ a.line) (λ a reached. reached.0) network.attached well.attached)

  pub supports_of_items : HaveSupportsByLine (map attachment items)
  supports_of_items = subst HaveSupportsByLine (sym same) well.supports
