use Rattle.std.proofs.Common.{reverse}
use Rattle.pw_facts.specs.Facts.{MergesTo, nothing_known, visible_facts}
use Rattle.pw_cells.proofs.Bounds.{all_merged_stand}
use Rattle.pw_cells.proofs.merged_facts.merged_few.Goals as goal

pub returns : goal.returns
returns g c =
    let merges : MergesTo (nothing_known c.args.kind) (visible_facts c.args.worldview.now (reverse c.args.facts.now)) c.merge_all_in.new.merge =
    rw c.nothing-merge.ensures.exact at c.merge_all_in.ensures.merges in
    all_merged_stand _ _ _ _ c.requires.kinds merges
