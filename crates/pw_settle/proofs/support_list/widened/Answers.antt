use Rattle.std.proofs.Common.{◌++◌, List, ◌∷◌, [], take, sym, ap, ◌∙◌}
use Rattle.std.proofs.lemmas.List.{take_more}
use Rattle.pw_premises.specs.Premises.{Premises}
use Rattle.pw_settle.proofs.support_list.widened.Goals as goal

pub loop-support-preserved : goal.loop-support-preserved
loop-support-preserved g c =
    let list = c.args.list.now in
    let i = c.loop-support.support-index in
    c.in_ok-push.ensures.items
    ∙ ap (λ (l : List Premises). l ++ c.widen.result ∷ []) c.loop-support.invariant
    ∙ ap (λ (x : Premises). take i list ++ x ∷ []) (c.widen.ensures.same ∙ c.support-item.is)
    ∙ sym (take_more list i c.support-item.result c.loop-support-test.true)
