use Rattle.std.proofs.Common.{◌≡◌, ◌<◌, ◌≤◌, [], map, sym, ap, subst, arith}
use Rattle.std.proofs.lemmas.List.Elements.{All-nil}
use Rattle.pw_network.specs.Readers.{reads}
use Rattle.pw_network.specs.Writers.{writes}
use Rattle.pw_network.specs.declared.batch.Calls.{Calls}
use Rattle.pw_network.specs.inside.Batches.{HaveLists}
use Rattle.pw_network.specs.inside.Lists.{listed_by}
use Rattle.pw_network.proofs.AllListed.{none_listed}
use Rattle.pw_network.specs.inside.Held.{ArePremisesOf, attachment}
use Rattle.pw_network.proofs.SupportLemmas.{no_premises}
use Rattle.pw_network.proofs.network.Network.new.Goals as goal

pub invariant_of-result-clause-visible : goal.invariant_of-result-clause-visible
invariant_of-result-clause-visible g c =
    subst (λ l. ArePremisesOf l c.empty.result) (ap (map attachment) (sym c.new-2.ensures.items)) (no_premises c.empty.result c.empty.ensures.nothing)

pub invariant_of-result-clause-own : goal.invariant_of-result-clause-own
invariant_of-result-clause-own g c = λ number calls are there. absurd (omega (arith, there, c.new-4.ensures number))

pub invariant_of-result-clause-listed : goal.invariant_of-result-clause-listed
invariant_of-result-clause-listed g c =
    let cells = c.in_ok-new-2.field-0.ends.len in
    let calls = c.new-6.result.items in
    let none : calls ≡ [] = c.new-6.ensures.items in
    let links = c.in_ok-new.field-0.links.items in
    let bare = ap (map attachment) c.new-2.ensures.items in
    record {
      own = subst (HaveLists cells c.in_ok-new.field-0.ends.len) (sym none) (All-nil (λ (l : Calls). (cells ≤ l.list) × (l.list < c.in_ok-new.field-0.ends.len)));
      read = none_listed reads cells calls (map listed_by links) (map listed_by links) (map attachment c.new-2.result.items) (ap (map listed_by) c.in_ok-new.ensures.links) bare;
      written = none_listed writes cells calls (map listed_by links) (map listed_by c.in_ok-new-2.field-0.links.items) (map attachment c.new-2.result.items)
          (ap (map listed_by) c.in_ok-new-2.ensures.links) bare;
    }
