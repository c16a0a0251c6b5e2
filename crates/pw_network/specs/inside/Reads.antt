-- The cells that an instance reads: at most two are in the instance, and more beside its line and premises.
use Rattle.std.specs.Prelude.{ℕ, List, cond, leb, take}

abbrev pub inputs_held : ℕ → List ℕ → List ℕ → List ℕ
inputs_held count cells beside = take count (cond (leb count 2) cells beside)
