-- The cell that the facts of the code show, whether they are few or many, in one form of what they
-- say or the other, and in one width of supports or the other.
--
-- Contracts see a cell through its lists, and see the same cell in both forms and both widths: an
-- interval says what the information of that interval says, and a support of one word and a support
-- of eight words both stand for the set of their premises. So turning the lists wide changes nothing
-- that a contract speaks of.
use Rattle.pw_cells.specs.Cells.{Cell}
use Rattle.pw_cells.specs.declared.many_facts.Lists.{Lists}
use Rattle.pw_cells.specs.declared.many_facts.Lists.TheVariants.{Intervals, Narrow, Wide}
use Rattle.pw_cells.specs.declared.cell_facts.Facts.{Facts}
use Rattle.pw_cells.specs.declared.cell_facts.Facts.TheVariants.{One, FewIntervals, Few, Many}

abbrev pub cell_in : {A : _} → Lists A → Cell
cell_in (Intervals lists) = lists
cell_in (Narrow lists) = lists
cell_in (Wide lists) = lists

abbrev pub cell_of : {A : _} → Facts A → Cell
cell_of (One one) = one
cell_of (FewIntervals few) = few
cell_of (Few few) = few
cell_of (Many many) = many.value
