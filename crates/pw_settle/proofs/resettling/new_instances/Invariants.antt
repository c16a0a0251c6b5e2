use Rattle.std.proofs.Common.{◌≡◌, ◌<◌, ◌≤◌, ℕ, false, length}
use Rattle.std.specs.Prelude.{◌&&◌}
use Rattle.pw_network.specs.Wiring.{wiring}
use Rattle.pw_settle.specs.Calls.{is_set}
use Rattle.pw_settle.specs.Due.{is_new}
use Rattle.pw_settle.proofs.resettling.new_instances.Given as goal

abbrev pub invariant-loop-number : goal.invariant-loop-number
invariant-loop-number g l = record {
  many : length l.agenda ≡ length l.visible;
  before : (i : ℕ) → i < l.number → is_set l.agenda i ≡ (is_set l.visible i && is_new (wiring l.network) l.before i);
  after : (i : ℕ) → l.number ≤ i → is_set l.agenda i ≡ false;
}
