use Rattle.std.proofs.Common.{◌∙◌}
use Rattle.pw_procs.specs.inside.Shapes.{name_bytes}
use Rattle.pw_procs.proofs.PlaceLemmas.{place}
use Rattle.pw_procs.proofs.name_table.NameTable.find_by_hash.Goals as goal

pub returns-clause-number : goal.returns-clause-number
returns-clause-number g c = rw (← c.self.view_is) (c.get_index_of.ensures.index ∙ place name_bytes c.args.word.now c.self.inside.set.keys)
