use Rattle.std.proofs.Common.{rules, ◌≡◌, ◌∙◌, ℕ, List, nat_eq, sym}
use borrow.Author.Tests.{tests}
use Rattle.std.specs.List.{list_all, list_any}
use Rattle.std.proofs.lemmas.Iterator.{YieldsList-from_slice}
use Rattle.std.proofs.lemmas.Iterator.Search.{all_from_yields_List}
use Rattle.pw_reasons.proofs.ProductLemmas.{all_found}
use Rattle.pw_reasons.proofs.product.is_part.Goals as goal

pub returns : goal.returns
returns c =
    let part : List ℕ = c.args.part.now in
    let group : List ℕ = c.args.group.now in
    let found : c.all.result ≡ list_all (λ p. list_any (λ n. nat_eq n p) group) part =
    all_from_yields_List (λ p. list_any (λ n. nat_eq n p) group) _ _ c.all.result c.all.ensures.ran (YieldsList-from_slice part cc) (λ x b q k. search (rules, tests)) in
    λ is. all_found part group (sym found ∙ is)
