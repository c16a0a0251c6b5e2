use Rattle.std.proofs.Common.{◌≡◌, ◌+◌, ◌++◌, List, length, map, take, drop, ap, refl, subst, sym, ◌∙◌, arith}
use Rattle.std.specs.List.{AllPairs}
use Rattle.pw_network.specs.declared.batch.Calls.{Calls}
use Rattle.pw_network.specs.inside.Batches.{AreListed, HaveLists, call_numbers, calls_from, least_calls}
use Rattle.pw_network.specs.inside.Held.{attachment}
use Rattle.pw_network.specs.inside.Lists.{LeavesFrom, listed_by, numbers_for}
use Rattle.pw_network.specs.Readers.{reads}
use Rattle.pw_network.specs.Writers.{writes}
use Rattle.pw_network.proofs.AllListed.{all_added}
use Rattle.pw_network.proofs.BatchLemmas.{calls_kept, have_as, have_more, listed_as, listed_calls, listed_kept, placed_reads, placed_writes}
use Rattle.pw_network.proofs.attaching.list_attached.Goals as goal

pub returns-then-instances-first-lt-MANY_CALLS-clause-listed : goal.returns-then-instances-first-lt-MANY_CALLS-clause-listed
returns-then-instances-first-lt-MANY_CALLS-clause-listed g c =
    all_added c.args.calls.now.items c.args.readers.now c.args.writers.now c.list_instances.new.readers c.list_instances.new.writers c.list_instances.ensures.lists
    c.list_instances.ensures.writer_lists c.args.instances.now c.args.first c.requires.there c.requires.numbers c.list_instances.ensures.kept c.list_instances.ensures.readers
    c.list_instances.ensures.writers c.requires.listed

pub list_calls-requires-2-clause-room : goal.list_calls-requires-2-clause-room
list_calls-requires-2-clause-room g c = omega (arith, c.list_calls.ensures.count, c.list_calls.ensures.calls_room, c.requires.calls_room)

pub list_calls-requires-2-clause-few : goal.list_calls-requires-2-clause-few
list_calls-requires-2-clause-few g c = omega (arith, c.list_calls.ensures.count, c.requires.few_calls)

-- the calls of the places that are read, and then those of the places that are written
abbrev read_calls : (g : _) → goal.After-list_calls-2 g → List Calls
read_calls g c = calls_from c.args.first c.args.list (length c.args.cells.now)

abbrev written_calls : (g : _) → goal.After-list_calls-2 g → List Calls
written_calls g c = calls_from c.args.first (c.args.list + c.args.places) (length c.args.cells.now)

kept : (g : _) (c : goal.After-list_calls-2 g) → LeavesFrom c.args.writers.now.ends.len c.args.readers.now.ends.len
    (map listed_by c.args.readers.now.links.items) (map listed_by c.list_calls.new.lists.links.items)
kept g c = calls_kept c.args.writers.now.ends.len c.args.readers.now.ends.len (least_calls + c.args.calls.now.len) c.args.cells.now
    (map listed_by c.args.readers.now.links.items) (map listed_by c.list_calls.new.lists.links.items) c.requires.cells c.list_calls.ensures.added

all_calls : (g : _) (c : goal.After-list_calls-2 g) → c.list_calls-2.new.calls.items ≡ (c.args.calls.now.items ++ read_calls g c) ++ written_calls g c
all_calls g c = c.list_calls-2.ensures.calls ∙ ap (λ l. l ++ written_calls g c) c.list_calls.ensures.calls

have : (g : _) (c : goal.After-list_calls-2 g) → HaveLists c.args.writers.now.ends.len c.args.readers.now.ends.len (c.args.calls.now.items ++ read_calls g c)
have g c =
    let from = c.requires.has.from in
    let within = c.requires.has.within in
    have_more c.args.writers.now.ends.len c.args.readers.now.ends.len c.args.calls.now.items (read_calls g c) c.args.first c.args.list (length c.args.cells.now)
    from (omega (arith, within, c.requires.places)) refl c.requires.listed.own

has_own : (g : _) (c : goal.After-list_calls-2 g) → HaveLists c.args.writers.now.ends.len c.args.readers.now.ends.len c.list_calls-2.new.calls.items
has_own g c =
    let from = c.requires.has.from in
    let within = c.requires.has.within in
    subst (HaveLists c.args.writers.now.ends.len c.args.readers.now.ends.len) (sym (all_calls g c))
    (have_more c.args.writers.now.ends.len c.args.readers.now.ends.len (c.args.calls.now.items ++ read_calls g c) (written_calls g c)
    c.args.first (c.args.list + c.args.places) (length c.args.cells.now) (omega (arith, from)) (omega (arith, within, c.requires.places)) refl (have g c))

differ : (g : _) (c : goal.After-list_calls-2 g) → AllPairs (λ m n. m ≡ n → ⊥) c.args.cells.now
differ g c = c.are_distinct.ensures c.if-not-are_distinct.false

has_read : (g : _) (c : goal.After-list_calls-2 g) → AreListed reads c.args.writers.now.ends.len c.list_calls-2.new.calls.items (map listed_by c.list_calls.new.lists.links.items)
    (map listed_by c.list_calls.new.lists.links.items) (map attachment c.args.instances.now)
has_read g c =
    let least = c.args.writers.now.ends.len in
    let count = c.args.readers.now.ends.len in
    let old = c.args.calls.now.items in
    let cells = c.args.cells.now in
    let before = map listed_by c.args.readers.now.links.items in
    let after = map listed_by c.list_calls.new.lists.links.items in
    let instances = c.args.instances.now in
    let held : c.args.calls.now.len ≡ length old = c.args.calls.now.ok.0 in
    let from = c.requires.has.from in
    let within = c.requires.has.within in
    let listed =
    listed_calls reads least old (read_calls g c) before after before after least count instances c.args.first c.requires.there c.requires.listed.own (kept g c) c.requires.listed.read
    cells c.args.flat.now c.args.list (differ g c)
    (placed_reads least cells c.args.flat.now (map attachment (drop c.args.first instances)) c.requires.placed (differ g c) c.requires.cells)
    (λ p there. kept g c (c.args.list + p) (omega (arith, from)) (omega (arith, within, there, c.requires.places)) ∙ c.requires.has.read p (omega (arith, there, c.requires.places)))
    refl
    (λ cell below. c.list_calls.ensures.added cell (omega (arith, below, c.requires.lists)) ∙ ap (λ n. numbers_for cell before ++ call_numbers (least_calls + n) cells cell) held) in
    subst (λ l. AreListed reads least l after after (map attachment instances)) (sym (all_calls g c))
    (listed_kept (old ++ read_calls g c) (written_calls g c) after after least count (have g c) (λ list from below. refl) reads least after after (map attachment instances)
    (λ cell below. refl) listed)

has_written : (g : _) (c : goal.After-list_calls-2 g) → AreListed writes c.args.writers.now.ends.len c.list_calls-2.new.calls.items (map listed_by c.list_calls.new.lists.links.items)
    (map listed_by c.list_calls-2.new.lists.links.items) (map attachment c.args.instances.now)
has_written g c =
    let least = c.args.writers.now.ends.len in
    let count = c.args.readers.now.ends.len in
    let old = c.args.calls.now.items in
    let mid = old ++ read_calls g c in
    let cells = c.args.cells.now in
    let before = map listed_by c.args.readers.now.links.items in
    let after = map listed_by c.list_calls.new.lists.links.items in
    let writers = map listed_by c.args.writers.now.links.items in
    let written = map listed_by c.list_calls-2.new.lists.links.items in
    let instances = c.args.instances.now in
    let held : c.list_calls.new.calls.len ≡ length mid = c.list_calls.new.calls.ok.0 ∙ ap length c.list_calls.ensures.calls in
    let from = c.requires.has.from in
    let within = c.requires.has.within in
    subst (λ l. AreListed writes least l after written (map attachment instances)) (sym (all_calls g c))
    (listed_calls writes least mid (written_calls g c) after after writers written least count instances c.args.first c.requires.there (have g c) (λ list from below. refl)
    (listed_kept old (read_calls g c) before after least count c.requires.listed.own (kept g c) writes least writers writers (map attachment (take c.args.first instances))
    (λ cell below. refl) c.requires.listed.written)
    cells c.args.flat.now (c.args.list + c.args.places) (differ g c)
    (placed_writes least cells c.args.flat.now (map attachment (drop c.args.first instances)) c.requires.placed (differ g c) c.requires.cells)
    (λ p there. kept g c (c.args.list + c.args.places + p) (omega (arith, from)) (omega (arith, within, there, c.requires.places)) ∙ c.requires.has.written p (omega (arith, there, c.requires.places)))
    refl
    (λ cell below. c.list_calls-2.ensures.added cell below ∙ ap (λ n. numbers_for cell writers ++ call_numbers (least_calls + n) cells cell) held))

pub returns-clause-kept : goal.returns-clause-kept
returns-clause-kept g c = kept g c

pub returns-clause-listed : goal.returns-clause-listed
returns-clause-listed g c =
    let least = c.args.writers.now.ends.len in
    let now = c.list_calls-2.new.lists.ends.len in
    let calls = c.list_calls-2.new.calls.items in
    let after = map listed_by c.list_calls.new.lists.links.items in
    let attached = map attachment c.args.instances.now in
    record {
      own = have_as least now c.args.readers.now.ends.len c.list_calls.new.lists.ends.len calls c.list_calls-2.ensures.lists c.list_calls.ensures.lists (has_own g c);
      read = listed_as reads least now calls after after attached c.list_calls-2.ensures.lists (has_read g c);
      written = listed_as writes least now calls after (map listed_by c.list_calls-2.new.lists.links.items) attached c.list_calls-2.ensures.lists (has_written g c);
    }
