-- What is left of a sum, from the text of a declaration: the answer, and the faults.
use Rattle.std.specs.Prelude.{◌≡◌, ℕ, List, Result, Ok, Err}
use Rattle.pw_kinds.specs.declared.interval.Interval.{Interval}
use Rattle.pw_info.specs.declared.info.Info.{Info}
use Rattle.pw_decl.specs.Declaration.{Declared}
use Rattle.pw_decl.specs.Faults.{SpellsDeclaration}
use Rattle.pw_sessions.specs.Values.{cell_value}
use Rattle.pw_standard.specs.Lending.{IsFaultOverStandard}
use Rattle.pw_standard.specs.Procedures.{AreStandard}
use Rattle.pw_uses.specs.declared.answer.HostFault.{HostFault}
use Rattle.pw_uses.specs.declared.answer.HostFault.TheVariants as faults
use Rattle.pw_uses.specs.declared.sum.Sum.{Sum}
use Rattle.pw_uses.specs.Sum.{IsSumIn, Lacks, entries_of}

-- in the declaration, this follows at the cell y from the sum attached to x, y and t, one interval
-- told of x, and one of t
pub record IsRest (x t : Interval) (d : Declared) (rest : Info) : Type 0 where
  pub sum : Sum
  pub in_it : IsSumIn d sum
  pub value : rest ≡ cell_value d (entries_of sum x t) sum.y

-- the answer of a host over the declaration: what follows; or the declaration lacks what the host
-- needs; or memory ran out
abbrev pub IsRestOrFault : Interval → Interval → Declared → Result Info HostFault → Type 0
IsRestOrFault x t d (Ok rest) = IsRest x t d rest
IsRestOrFault x t d (Err faults.Lacking) = Lacks d
IsRestOrFault x t d (Err faults.Memory) = Unit {0}
IsRestOrFault x t d (Err (faults.Declaration fault)) = ⊥

-- the text is no declaration, and this is its first fault; or what it spells lacks what the host
-- needs; or memory ran out
abbrev pub IsFaultOfText : List ℕ → HostFault → Type 0
IsFaultOfText text (faults.Declaration fault) = IsFaultOverStandard text fault
IsFaultOfText text faults.Lacking = (d : Declared) × AreStandard d.procedures
    × SpellsDeclaration d.procedures text d × Lacks d
IsFaultOfText text faults.Memory = Unit {0}
