-- The set of premises that a compact set holds, in one width or the other.
--
-- A word and eight words in a box are both seen as the set of their premises.
use Rattle.pw_premises.specs.Premises.{Premises}
use Rattle.pw_premises.specs.declared.compact_set.Width.{Width}
use Rattle.pw_premises.specs.declared.compact_set.Width.TheVariants.{Narrow, Wide}

abbrev pub set_in : Width → Premises
set_in (Narrow narrow) = narrow
set_in (Wide wide) = wide.value
