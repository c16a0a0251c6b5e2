-- The premises of the cells that a list holds, in one width or the other.
--
-- A support of one word and one of eight words are both seen as the set of their premises. So
-- turning a list wide changes nothing that a contract speaks of.
use Rattle.std.specs.Prelude.{List}
use Rattle.pw_premises.specs.Premises.{Premises}
use Rattle.pw_settle.specs.declared.support_list.Widths.{Widths}
use Rattle.pw_settle.specs.declared.support_list.Widths.TheVariants.{Narrow, Wide}

-- the supports that the list holds, cell by cell
abbrev pub supports_in : {A : _} → Widths A → List Premises
supports_in (Narrow list) = list.items
supports_in (Wide list) = list.items
