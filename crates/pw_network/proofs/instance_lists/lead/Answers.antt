use Rattle.std.proofs.Common.{ap, map, set, get_or, sym, ◌∙◌}
use Rattle.std.proofs.lemmas.List.{map-set, set-get_or}
use Rattle.pw_network.specs.inside.Lists.{next_of, listed_by}
use Rattle.pw_network.proofs.instance_lists.lead.Goals as goal

pub returns-then-place-len-clause-listed : goal.returns-then-place-len-clause-listed
returns-then-place-len-clause-listed g c =
    let links = c.args.links.now.items in
    let link = c.index-link.result.now in
    map-set listed_by links c.args.place (record link { next = c.args.next })
    ∙ ap (λ x. set (map listed_by links) c.args.place (listed_by x)) c.index-link.ensures
    ∙ sym (map-set listed_by links c.args.place (get_or links c.args.place link))
    ∙ ap (map listed_by) (set-get_or links c.args.place link)

pub returns-then-place-len-clause-nexts : goal.returns-then-place-len-clause-nexts
returns-then-place-len-clause-nexts g c =
    map-set next_of c.args.links.now.items c.args.place (record c.index-link.result.now { next = c.args.next })
