use Rattle.std.proofs.Common.{◌≡◌, ℕ, ◌≤◌, List, [], length, sym, subst, arith}
use Rattle.std.proofs.lemmas.List.{drop_all}
use Rattle.std.proofs.lemmas.List.Elements.{All-cons, All-nil}
use Rattle.pw_network.specs.Wiring.{wiring}
use Rattle.pw_reasons.specs.Combinations.{groups_of, picked_in}
use Rattle.pw_reasons.specs.Nogood.{AreNogoods, IsNogood}
use Rattle.pw_reasons.specs.inside.Searching.{IsFirstBeside}
use Rattle.pw_reasons.proofs.ProductLemmas.{one_set}
use Rattle.pw_reasons.proofs.SearchLemmas.{first_of_none}
use Rattle.pw_reasons.proofs.choosing.try_combination.Goals as goal

pub returns-then-branch-clause-found : goal.returns-then-branch-clause-found
returns-then-branch-clause-found g c nogoods uncovered =
    let groups : List (List ℕ) = groups_of c.args.groups.now in
    let picked : List ℕ = picked_in c.args.picks.now in
    let all : c.len-tried.result ≡ length groups = c.len-tried.ensures.len in
    let found = c.in_ok-find_nogood.ensures.some c.if-branch.true in (
      uncovered,
      record {
        part = found.part;
        past = omega (arith, c.requires.all, all);
        within = omega (arith, all);
        nogoods = subst (AreNogoods (wiring c.args.network.now) c.args.store.now)
            (sym (one_set c.find_nogood.new.tried.nogood groups c.len-tried.result (omega (arith, all))))
            (All-cons (IsNogood (wiring c.args.network.now) c.args.store.now) c.find_nogood.new.tried.nogood [] found.contradicts
            (All-nil (IsNogood (wiring c.args.network.now) c.args.store.now)));
      },
    )

pub returns-clause-found : goal.returns-clause-found
returns-clause-found g c nogoods uncovered =
    let groups : List (List ℕ) = groups_of c.args.groups.now in
    let picked : List ℕ = picked_in c.args.picks.now in
    let past : length groups ≤ length picked = omega (arith, c.requires.all) in
    subst (λ (gs : List (List ℕ)). IsFirstBeside (wiring c.args.network.now) c.args.store.now c.args.worldview.now gs picked picked)
    (sym (drop_all (length picked) groups past))
    (first_of_none (wiring c.args.network.now) c.args.store.now c.args.worldview.now picked (c.in_ok-find_nogood.ensures.none c.if-branch.false))
