use Rattle.std.proofs.Common.{rules, ◌≡◌, ◌∙◌, List, nat_eq}
use borrow.Author.Tests.{tests}
use Rattle.std.specs.List.{list_any}
use Rattle.std.proofs.lemmas.Iterator.{YieldsList-from_slice}
use Rattle.std.proofs.lemmas.Iterator.Search.{any_from_yields_List}
use Rattle.pw_reasons.specs.declared.group.Group.{Group}
use Rattle.pw_reasons.specs.inside.GroupsHeld.{all_premises, premises_in}
use Rattle.pw_reasons.proofs.GroupLemmas.{found_exactly, found_in_all}
use Rattle.pw_reasons.proofs.groups.hold.Goals as goal

pub returns : goal.returns
returns c =
    let held : List Group = c.args.groups.now in
    let found : c.any.result ≡ list_any (λ group. list_any (λ n. nat_eq n c.args.premise) (premises_in group)) held =
    any_from_yields_List (λ group. list_any (λ n. nat_eq n c.args.premise) (premises_in group)) _ _ c.any.result c.any.ensures.ran (YieldsList-from_slice held cc) (λ x b q k. search (rules, tests)) in
    found_exactly (all_premises held) c.args.premise c.any.result (found ∙ found_in_all premises_in c.args.premise held)
