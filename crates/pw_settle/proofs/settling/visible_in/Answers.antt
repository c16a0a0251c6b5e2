use Rattle.std.proofs.Common.{map, ap, ◌∙◌}
use Rattle.std.proofs.lemmas.Result.{IfOk-weaker}
use Rattle.pw_network.specs.Wiring.{wiring}
use Rattle.pw_settle.specs.Calls.{is_instance_visible}
use Rattle.pw_settle.proofs.SeenInstances.{all_seen}
use Rattle.pw_settle.proofs.SeenLines.{lines_of_items, supports_of_items}
use Rattle.pw_settle.proofs.settling.visible_in.Goals as goal

pub seen-requires-clause-lines : goal.seen-requires-clause-lines
seen-requires-clause-lines g c =
    lines_of_items (wiring c.args.network.now) c.args.network.now.well c.instances-instances.result.now c.instances-instances.ensures.instances

pub seen-requires-clause-supports : goal.seen-requires-clause-supports
seen-requires-clause-supports g c =
    supports_of_items (wiring c.args.network.now) c.args.network.now.well c.instances-instances.result.now c.instances-instances.ensures.instances

pub returns-then-are_all_visible : goal.returns-then-are_all_visible
returns-then-are_all_visible g c =
    IfOk-weaker c.vec.result _ _ (λ visible same.
    same (λ flag is. is)
    ∙ all_seen (wiring c.args.network.now) c.instances-instances.result.now c.args.worldview.now c.instances-instances.ensures.instances
    (c.are_all_visible.ensures.0 c.if-are_all_visible.true))
    c.vec.ensures.items_if_clones_equal

pub returns : goal.returns
returns g c =
    IfOk-weaker c.seen.result _ _ (λ visible are. are ∙ ap (map (is_instance_visible c.args.worldview.now)) c.instances-instances.ensures.instances) c.seen.ensures
