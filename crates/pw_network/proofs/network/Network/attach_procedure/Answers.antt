use Rattle.std.proofs.Common.{◌≡◌, ◌≤◌, ◌∙◌, ◌++◌, [], ◌∷◌, ap, drop, length, map, refl, take, subst, sym, vec_len, arith, rules}
use Rattle.std.proofs.lemmas.List.{drop_at, length-map, length_push, take-append-le, take_all}
use Rattle.std.proofs.lemmas.List.Elements.{All-cons, All-nil, All-same}
use Rattle.pw_procs.specs.Registry.{cells_of}
use Rattle.pw_decl.specs.declared.step.Callable.TheVariants as callables
use Rattle.pw_decl.specs.inside.Fields.{declared}
use Rattle.pw_network.specs.declared.instance.Instance.{Instance as InstanceType}
use Rattle.pw_network.specs.inside.Held.{attachment, inner_of, wiring_from}
use Rattle.pw_network.specs.inside.Lists.{listed_by}
use Rattle.pw_network.specs.Wiring.{wiring}
use Rattle.pw_network.specs.Network.{IsWellNetwork, MayAttach, Network, with_attached}
use Rattle.pw_network.specs.inside.Batches.{AreAllListed, least_calls}
use Rattle.pw_network.proofs.AllListed.{all_added}
use Rattle.pw_network.proofs.AttachedCalls.{procedure_attached}
use Rattle.pw_network.proofs.CompoundListLemmas.{all_read_later, own_later, read_as}
use Rattle.pw_network.proofs.LineLemmas.{IsOf}
use Rattle.pw_network.proofs.SupportLemmas.{premises_joined}
use Rattle.pw_network.proofs.WellNetworks.{well_with_attached}
use Rattle.pw_network.proofs.network.Network.attach_procedure.Goals as goal

pub list_instances-requires-clause-few : goal.list_instances-requires-clause-few
list_instances-requires-clause-few g c =
    let x = c.in_ok-instance.instance in
    let old = c.reserve.new.self.instances.items in
    let pushed : c.push_reserved.new.self.items ≡ old ++ x ∷ [] = search rules in
    let count : length old ≡ c.len-count.result = omega (arith, c.len-count.ensures, c.reserve.new.self.instances.ok.0) in
    let new : drop c.len-count.result c.deref.result.now ≡ x ∷ [] =
    ap (drop c.len-count.result) (c.deref.ensures.value ∙ pushed) ∙ drop_at old (x ∷ []) c.len-count.result count in
    let P : InstanceType → Type 0 = λ y. length (attachment y).instance.inputs ≤ 8 in
    All-same P (drop c.len-count.result c.deref.result.now) (x ∷ []) new (All-cons P x [] c.in_ok-instance.ensures.few (All-nil P))

pub invariant_of-self : goal.invariant_of-self
invariant_of-self g c =
    let old = c.reserve.new.self in
    let network = wiring old in
    let callable = callables.Stored c.args.procedure in
    let cells = cells_of c.args.cells in
    let x = c.in_ok-instance.instance in
    let instances = c.push_reserved.new.self.items in
    let later = map attachment instances in
    let least = vec_len old.writers.ends in
    let now = vec_len c.list_instances.new.writers.ends in
    let count = vec_len old.readers.ends in
    let more = vec_len c.list_instances.new.readers.ends in
    let before = map listed_by old.readers.links.items in
    let after = map listed_by c.list_instances.new.readers.links.items in
    let count_is : length old.instances.items ≡ c.len-count.result = omega (arith, c.len-count.ensures, old.instances.ok.0) in
    let all : c.deref.result.now ≡ old.instances.items ++ x ∷ [] = c.deref.ensures.value ∙ (let pushed : instances ≡ old.instances.items ++ x ∷ [] = search rules in pushed) in
    let long = ap length all ∙ length_push old.instances.items x in
    let there : c.len-count.result ≤ length c.deref.result.now = omega (arith, long, count_is) in
    let low : length c.deref.result.now ≤ least_calls = omega (arith, long, count_is, c.len-count.ensures, c.in_ok-reserve.ensures.few) in
    let taken : take c.len-count.result c.deref.result.now ≡ old.instances.items =
    ap (take c.len-count.result) all ∙ take-append-le c.len-count.result old.instances.items (x ∷ []) (omega (arith, count_is))
    ∙ take_all c.len-count.result old.instances.items (omega (arith, count_is)) in
    let lines = c.in_ok-instance.ensures.line ∙ c.in_ok-attached.ensures.line in
    let supports = c.in_ok-instance.ensures.support ∙ c.in_ok-attached.ensures.support in
    let pushed : instances ≡ old.instances.items ++ x ∷ [] = search rules in
    let attached : wiring_from (declared old.declaration.now) old.inner.items instances c.args.line ≡ with_attached network c.args.line callable cells c.args.support =
    procedure_attached (declared old.declaration.now) old.inner.items old.instances.items old.instances.items instances old.last_line c.args.line c.args.procedure cells c.args.support x
    refl pushed c.in_ok-instance.ensures.instance lines supports in
    let may = subst (λ n. MayAttach n c.args.line callable cells) (sym c.reserve.ensures.same) c.requires in
    record {
      well = subst IsWellNetwork (sym attached) (well_with_attached network c.args.line callable cells c.args.support old.well may (omega arith));
      read_cells = omega (arith, old.read_cells, c.list_instances.ensures.lists);
      declared_cells = omega (arith, old.declared_cells, c.list_instances.ensures.writer_lists);
      listed = subst (λ l. AreAllListed now old.calls.items c.list_instances.new.readers c.list_instances.new.writers (map attachment l)) c.deref.ensures.value
          (all_added old.calls.items old.readers old.writers c.list_instances.new.readers c.list_instances.new.writers c.list_instances.ensures.lists c.list_instances.ensures.writer_lists
          c.deref.result.now c.len-count.result there low c.list_instances.ensures.kept c.list_instances.ensures.readers c.list_instances.ensures.writers
          (subst (λ l. AreAllListed least old.calls.items old.readers old.writers (map attachment l)) (sym taken) old.listed));
      own = own_later network.declared.compounds least now count more old.compounds before after c.list_instances.ensures.writer_lists c.list_instances.ensures.lists
          c.list_instances.ensures.kept old.own;
      inner_read = read_as least now count more after later old.inner.items c.list_instances.ensures.writer_lists c.list_instances.ensures.lists
          (all_read_later network c.args.line callable cells c.args.support old.well may.here least count before after later old.inner.items old.declared_cells
          (sym (length-map old.inner.items inner_of)) (ap (λ (n : Network). n.attached) attached) c.list_instances.ensures.kept old.inner_read);
      visible = premises_joined old.premises c.args.support c.join-self.result c.args.line old.instances.items old.instances.items (x ∷ []) instances refl pushed
          (All-cons (IsOf c.args.line c.args.support) (attachment x) [] (lines, supports) (All-nil (IsOf c.args.line c.args.support)))
          old.visible (attachment x) (omega arith) c.join-self.ensures.union;
    }

pub returns-clause-ok : goal.returns-clause-ok
returns-clause-ok g c =
    let old = c.reserve.new.self in
    let callable = callables.Stored c.args.procedure in
    let cells = cells_of c.args.cells in
    let x = c.in_ok-instance.instance in
    let pushed : c.push_reserved.new.self.items ≡ old.instances.items ++ x ∷ [] = search rules in
    procedure_attached (declared old.declaration.now) old.inner.items old.instances.items old.instances.items c.push_reserved.new.self.items old.last_line c.args.line c.args.procedure cells c.args.support x
    refl pushed c.in_ok-instance.ensures.instance (c.in_ok-instance.ensures.line ∙ c.in_ok-attached.ensures.line) (c.in_ok-instance.ensures.support ∙ c.in_ok-attached.ensures.support)
    ∙ ap (λ n. with_attached n c.args.line callable cells c.args.support) c.reserve.ensures.same
