use Rattle.std.proofs.Common.{◌≡◌, ◌+◌, ◌<◌, ◌≤◌, ◌∙◌, length, drop, map, ap, refl, subst, sym, arith, vec_len}
use Rattle.std.specs.Prelude.{All}
use Rattle.std.proofs.lemmas.List.{length-drop, length-map}
use Rattle.std.proofs.lemmas.List.Elements.{All-weaker}
use Rattle.pw_procs.specs.Registry.{cells_of}
use Rattle.pw_decl.specs.declared.step.Callable.TheVariants as callables
use Rattle.pw_decl.specs.Expansion.{inner_kinds_of}
use Rattle.pw_decl.specs.Limits.{most_inner_cells}
use Rattle.pw_decl.specs.inside.Fields.{declared}
use Rattle.pw_decl.specs.inside.Held.{AreCallsOf, IsBelow, instances_on}
use Rattle.pw_network.specs.inside.CompoundLists.{HasLists}
use Rattle.pw_network.specs.inside.Held.{attachment, inner_of, wiring_from}
use Rattle.pw_network.specs.inside.Lists.{listed_by}
use Rattle.pw_network.specs.inside.Batches.{AreAllListed}
use Rattle.pw_network.specs.Wiring.{wiring}
use Rattle.pw_network.specs.Network.{IsWellNetwork, MayAttach, Network, cells_in, with_attached}
use Rattle.pw_network.proofs.AttachedCalls.{as_many, compound_attached}
use Rattle.pw_network.proofs.AttachedCells.{rejoined}
use Rattle.pw_network.proofs.CompoundListLemmas.{all_read_after, has_in_room, own_later, read_as}
use Rattle.pw_network.proofs.LineLemmas.{IsOf, attached_of}
use Rattle.pw_network.proofs.SupportLemmas.{premises_after}
use Rattle.pw_network.proofs.WellNetworks.{well_with_attached}
use Rattle.pw_network.proofs.network.Network.attach_compound.Goals as goal

pub list_calls-requires-clause-places : goal.list_calls-requires-clause-places
list_calls-requires-clause-places g c = λ are.
    let old = c.args.self.now in
    let cells = cells_of c.args.cells in
    let kinds = ap length c.requires.kinds in
    let few : length (inner_kinds_of (declared old.declaration.now).compounds (callables.Compound c.args.compound)) ≤ most_inner_cells = omega (arith, kinds, c.requires.few) in
    let many = as_many (wiring old) c.args.line c.args.compound c.args.calls.now cells c.args.support old.well are c.requires.may few in
    let same : length c.cells-cells.result.now ≡ length cells = ap length c.cells-cells.ensures.cells in
    omega (arith, many, same, kinds)

pub append_calls-requires-clause-numbers : goal.append_calls-requires-clause-numbers
append_calls-requires-clause-numbers g c =
    let old = c.args.self.now in
    let cells = cells_of c.args.cells in
    let first = c.cells-first.result in
    let kinds = ap length c.requires.kinds in
    let few : length (inner_kinds_of (declared old.declaration.now).compounds (callables.Compound c.args.compound)) ≤ most_inner_cells = omega (arith, kinds, c.requires.few) in
    let many = as_many (wiring old) c.args.line c.args.compound c.args.calls.now cells c.args.support old.well c.requires.calls c.requires.may few in
    let same : length c.cells-cells.result.now ≡ length cells = ap length c.cells-cells.ensures.cells in
    let places = length c.requires.calls.compound.parameters + length (inner_kinds_of (declared old.declaration.now).compounds (callables.Compound c.args.compound)) in
    let most : first + places ≤ 4294967295 = omega (arith, many, same, few, c.cells-cells.ensures.most, c.cells-first.ensures.most) in
    All-weaker (IsBelow places) (λ call. All (λ place. first + place ≤ 4294967295) (cells_of call.places))
    (λ call below. All-weaker (λ place. place < places) (λ place. first + place ≤ 4294967295) (λ place within. omega (arith, within, most)) (cells_of call.places) below)
    c.args.calls.now c.requires.calls.below

pub invariant_of-self-2 : goal.invariant_of-self-2
invariant_of-self-2 g c =
    let listed = c.list_calls.new.self in
    let old = c.reserve.new.self in
    let network = wiring old in
    let line = c.args.line in
    let compound = c.args.compound in
    let callable = callables.Compound compound in
    let cells = cells_of c.args.cells in
    let calls = c.args.calls.now in
    let kinds = c.args.kinds.now in
    let support = c.args.support in
    let instances = old.instances.items in
    let new = c.append_calls.new.instances.items in
    let own = drop (length instances) new in
    let inner = c.append_inner.new.inner.items in
    let later = map attachment new in
    let least = vec_len old.writers.ends in
    let now = vec_len c.list_attached.new.writers.ends in
    let count = vec_len old.readers.ends in
    let more = vec_len c.list_attached.new.readers.ends in
    let before = map listed_by old.readers.links.items in
    let after = map listed_by c.list_attached.new.readers.links.items in
    let list = c.in_ok-list.list in
    let first = c.len-count.result in
    let same : network ≡ wiring c.args.self.now = c.reserve.ensures.same ∙ c.list_calls.ensures.same in
    let are = subst (λ n. AreCallsOf n.declared.compounds compound calls) (sym same) c.requires.calls in
    let may = subst (λ n. MayAttach n line callable cells) (sym same) c.requires.may in
    let are_kinds = c.requires.kinds ∙ ap (λ n. inner_kinds_of n.declared.compounds callable) (sym same) in
    let all_kinds = ap length are_kinds in
    let many : length c.cells-cells.result.now ≡ length cells = ap length c.cells-cells.ensures.cells in
    let joined = rejoined instances new c.in_ok-append_calls.ensures.appended.before in
    let made = rw (c.cells-cells.ensures.cells, c.in_ok-shared.ensures.line, c.in_ok-shared.ensures.support) at c.in_ok-append_calls.ensures.appended.made in
    let attached : wiring_from (declared old.declaration.now) inner new line ≡ with_attached network line callable cells support =
    compound_attached (declared old.declaration.now) old.inner.items old.inner.items inner instances instances own new old.last_line line compound calls kinds cells support
    old.well are may are_kinds c.requires.few c.cells-first.result first (list + length c.cells-cells.result.now) (c.cells-first.ensures.count ∙ ap cells_in (sym same))
    refl c.append_inner.ensures refl joined made in
    let has = has_in_room (vec_len listed.writers.ends) least (vec_len listed.readers.ends) count listed.readers.links.items old.readers.links.items
    c.reserve.ensures.writer_lists c.reserve.ensures.reader_lists c.reserve.ensures.links (length c.cells-cells.result.now + length kinds) calls list c.in_ok-list.ensures.listed in
    record {
      well = subst IsWellNetwork (sym attached) (well_with_attached network line callable cells support old.well may (omega (arith, all_kinds, c.requires.few)));
      read_cells = omega (arith, old.read_cells, c.list_attached.ensures.lists);
      declared_cells = omega (arith, old.declared_cells, c.list_attached.ensures.writer_lists);
      listed = subst (λ l. AreAllListed now c.list_attached.new.calls.items c.list_attached.new.readers c.list_attached.new.writers (map attachment l)) c.deref.ensures.value
          c.list_attached.ensures.listed;
      own = own_later network.declared.compounds least now count more old.compounds before after c.list_attached.ensures.writer_lists c.list_attached.ensures.lists
          c.list_attached.ensures.kept old.own;
      inner_read = read_as least now count more after later inner c.list_attached.ensures.writer_lists c.list_attached.ensures.lists
          (all_read_after network line compound calls cells support kinds old.well are may are_kinds c.requires.few least count before after later old.inner.items inner
          first list (list + length c.cells-cells.result.now) old.declared_cells (sym (length-map old.inner.items inner_of)) (ap (λ (n : Network). n.attached) attached)
          (let held = length-map instances attachment in omega (arith, held, c.len-count.ensures, old.instances.ok.0)) c.list_attached.ensures.kept
          (subst (λ n. HasLists least (n + length kinds) calls list count before) many has) (omega (arith, many)) c.append_inner.ensures old.inner_read);
      visible =
          let of_line = subst (All (IsOf line support)) (sym made) (attached_of line support (instances_on cells c.cells-first.result calls)) in
          let long : length own ≡ length calls =
          omega (arith, length-drop (length instances) new, c.append_calls.new.instances.ok.0, old.instances.ok.0, c.in_ok-append_calls.ensures.len) in
          premises_after old.premises support c.with_support-self.result line instances instances own new refl joined of_line old.visible
          (length calls) long c.with_support-self.ensures.none c.with_support-self.ensures.some;
    }

pub returns-clause-ok : goal.returns-clause-ok
returns-clause-ok g c =
    let old = c.reserve.new.self in
    let network = wiring old in
    let line = c.args.line in
    let compound = c.args.compound in
    let callable = callables.Compound compound in
    let cells = cells_of c.args.cells in
    let instances = old.instances.items in
    let new = c.append_calls.new.instances.items in
    let same : network ≡ wiring c.args.self.now = c.reserve.ensures.same ∙ c.list_calls.ensures.same in
    compound_attached (declared old.declaration.now) old.inner.items old.inner.items c.append_inner.new.inner.items instances instances (drop (length instances) new) new old.last_line
    line compound c.args.calls.now c.args.kinds.now cells c.args.support old.well
    (subst (λ n. AreCallsOf n.declared.compounds compound c.args.calls.now) (sym same) c.requires.calls)
    (subst (λ n. MayAttach n line callable cells) (sym same) c.requires.may)
    (c.requires.kinds ∙ ap (λ n. inner_kinds_of n.declared.compounds callable) (sym same)) c.requires.few c.cells-first.result c.len-count.result
    (c.in_ok-list.list + length c.cells-cells.result.now) (c.cells-first.ensures.count ∙ ap cells_in (sym same))
    refl c.append_inner.ensures refl (rejoined instances new c.in_ok-append_calls.ensures.appended.before)
    (rw (c.cells-cells.ensures.cells, c.in_ok-shared.ensures.line, c.in_ok-shared.ensures.support) at c.in_ok-append_calls.ensures.appended.made)
    ∙ ap (λ n. with_attached n line callable cells c.args.support) same

pub list_attached-requires-clause-placed : goal.list_attached-requires-clause-placed
list_attached-requires-clause-placed g c =
    let old = c.reserve.new.self in
    let instances = old.instances.items in
    let new = c.append_calls.new.instances.items in
    let count : length instances ≡ c.len-count.result = omega (arith, c.len-count.ensures, old.instances.ok.0) in
    let made = rw (c.in_ok-shared.ensures.line, c.in_ok-shared.ensures.support) at c.in_ok-append_calls.ensures.appended.made in
    let same : wiring old ≡ wiring c.args.self.now = c.reserve.ensures.same ∙ c.list_calls.ensures.same in
    let cells = ap cells_in same in
    record {
      line = c.args.line;
      support = c.args.support;
      first = c.cells-first.result;
      from = omega (arith, c.cells-first.ensures.count, cells, old.declared_cells);
      are = (λ i. map attachment (drop (sym count i) (c.deref.ensures.value i))) ∙ made;
    }
