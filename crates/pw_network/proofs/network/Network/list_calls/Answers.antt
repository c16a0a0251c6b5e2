use Rattle.std.proofs.Common.{◌≤◌, map, refl, sym, subst, arith, vec_len}
use Rattle.pw_decl.specs.inside.Fields.{declared}
use Rattle.pw_network.specs.inside.CompoundLists.{HasLists, IsListedAs, first_list}
use Rattle.pw_network.specs.inside.Held.{attachment}
use Rattle.pw_network.specs.inside.Lists.{LeavesFrom, listed_by}
use Rattle.pw_network.specs.Readers.{reads}
use Rattle.pw_network.specs.Writers.{writes}
use Rattle.pw_network.proofs.BatchLemmas.{have_wider, still_listed}
use Rattle.pw_network.proofs.CompoundListLemmas.{all_still_read, listed_if_ok, own_after}
use Rattle.pw_network.proofs.network.Network.list_calls.Given.{Over}
use Rattle.pw_network.proofs.network.Network.list_calls.Goals as goal

-- the compound's own lists
own_lists : (g : Over) (c : goal.After-first g) → IsListedAs (vec_len c.args.self.now.writers.ends) c.args.places c.args.calls.now (first_list c.first.new.self c.args.compound)
    (vec_len c.first.new.lists.ends) (map listed_by c.first.new.lists.links.items)
own_lists g c =
    let old = c.args.self.now in
    let known = old.own c.args.compound c.args.calls.now c.requires.calls in
    c.first.ensures.listed (vec_len old.writers.ends) (omega (arith, old.declared_cells, old.read_cells))
    (subst (λ n. IsListedAs (vec_len old.writers.ends) n c.args.calls.now (first_list old.compounds c.args.compound) (vec_len old.readers.ends) (map listed_by old.readers.links.items))
    (sym (c.requires.places c.requires.calls)) known)

pub invariant_of-self : goal.invariant_of-self
invariant_of-self g c =
    let old = c.args.self.now in
    let least = vec_len old.writers.ends in
    let count = vec_len old.readers.ends in
    let more = vec_len c.first.new.lists.ends in
    let before = map listed_by old.readers.links.items in
    let after = map listed_by c.first.new.lists.links.items in
    let there : least ≤ count = omega (arith, old.declared_cells, old.read_cells) in
    let kept : LeavesFrom least count before after = λ list from below. c.first.ensures.kept list below in
    record {
      well = old.well;
      read_cells = omega (arith, old.read_cells, c.first.ensures.lists);
      declared_cells = old.declared_cells;
      listed = record {
        own = have_wider least count more old.calls.items c.first.ensures.lists old.listed.own;
        read = still_listed reads old.calls.items before after least count least before after (map attachment old.instances.items) old.listed.own kept
            (λ cell below. c.first.ensures.kept cell (omega (arith, below, there))) old.listed.read;
        written = still_listed writes old.calls.items before after least count least (map listed_by old.writers.links.items) (map listed_by old.writers.links.items)
            (map attachment old.instances.items) old.listed.own kept (λ cell below. refl) old.listed.written;
      };
      own = own_after (declared old.declaration.now).compounds least c.args.compound c.args.places c.args.calls.now c.requires.calls old.compounds c.first.new.self count more before after
          (c.requires.places c.requires.calls) c.first.ensures.others c.first.ensures.kept c.first.ensures.lists (own_lists g c) old.own;
      inner_read = all_still_read least count more before after (map attachment old.instances.items) old.inner.items c.first.ensures.lists
          (λ list from below. c.first.ensures.kept list below) old.inner_read;
      visible = old.visible;
    }

pub returns-clause-listed : goal.returns-clause-listed
returns-clause-listed g c =
    listed_if_ok c.first.result (first_list c.first.new.self c.args.compound)
    (λ first. HasLists (vec_len c.args.self.now.writers.ends) c.args.places c.args.calls.now first (vec_len c.first.new.lists.ends) (map listed_by c.first.new.lists.links.items))
    c.first.ensures.first c.first.ensures.there (own_lists g c.before)
