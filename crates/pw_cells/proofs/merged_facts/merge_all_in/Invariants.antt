use Rattle.std.proofs.Common.{◌≡◌, take, reverse}
use Rattle.pw_info.specs.Information.{kind_of}
use Rattle.pw_facts.specs.Facts.{MergesTo, visible_facts}
use Rattle.pw_cells.proofs.merged_facts.merge_all_in.Given as goal

abbrev pub invariant-loop-back : goal.invariant-loop-back
invariant-loop-back g l = record {
  kind : kind_of l.merge.info ≡ kind_of l.fn.merge.info;
  merges : MergesTo l.fn.merge (visible_facts l.worldview (take l.back (reverse l.facts))) l.merge;
}
