-- The lists of a network have all instances that are attached, before and after they grow.
use Rattle.std.proofs.Common.{◌≡◌, ℕ, ◌+◌, ◌<◌, ◌≤◌, Bool, List, [], length, map, refl, subst, sym, take, vec_len}
use Rattle.std.proofs.lemmas.List.Elements.{All-nil}
use Rattle.pw_network.specs.declared.batch.Calls.{Calls}
use Rattle.pw_network.specs.declared.instance.Instance.{Instance as InstanceType}
use Rattle.pw_network.specs.declared.instance_lists.InstanceLists.{InstanceLists}
use Rattle.pw_network.specs.Network.{Attached}
use Rattle.pw_network.specs.Readers.{reads}
use Rattle.pw_network.specs.Writers.{writes}
use Rattle.pw_network.specs.inside.Batches.{AddsInstances, AreAllListed, AreListed, least_calls}
use Rattle.pw_network.specs.inside.Held.{attachment}
use Rattle.pw_network.specs.inside.Lists.{LeavesFrom, Listed, listed_by}
use Rattle.pw_network.proofs.BatchLemmas.{have_as, listed_as, listed_in_room, listed_instances}

-- nothing is attached
pub none_listed : (test : ℕ → Attached → Bool) (cells : ℕ) (calls : List Calls) (lists listed : List Listed) (attached : List Attached) → listed ≡ [] → attached ≡ [] →
    AreListed test cells calls lists listed attached
none_listed test cells calls lists listed attached none bare =
    subst (λ l. AreListed test cells calls lists l attached) (sym none)
    (subst (λ l. AreListed test cells calls lists [] l) (sym bare)
    record { there = λ cell below. All-nil (λ number. number < least_calls + length calls); are = λ cell below. refl })

module _ {A : Type 0} (calls : List Calls) (readers writers after written : InstanceLists A)
    (long : vec_len after.ends ≡ vec_len readers.ends) (same : vec_len written.ends ≡ vec_len writers.ends) where
  -- more room changes nothing
  pub all_in_room : (attached : List Attached) → after.links.items ≡ readers.links.items → written.links.items ≡ writers.links.items →
      AreAllListed (vec_len writers.ends) calls readers writers attached → AreAllListed (vec_len written.ends) calls after written attached
  all_in_room attached same_read same_written all = record {
    own = have_as (vec_len writers.ends) (vec_len written.ends) (vec_len readers.ends) (vec_len after.ends) calls same long all.own;
    read = listed_in_room reads (vec_len writers.ends) (vec_len written.ends) calls readers.links.items readers.links.items after.links.items after.links.items attached
        same same_read same_read all.read;
    written = listed_in_room writes (vec_len writers.ends) (vec_len written.ends) calls readers.links.items writers.links.items after.links.items written.links.items attached
        same same_read same_written all.written;
  }

  -- instances are listed one by one
  pub all_added : (instances : List InstanceType) (first : ℕ) → first ≤ length instances → length instances ≤ least_calls →
      LeavesFrom (vec_len writers.ends) (vec_len readers.ends) (map listed_by readers.links.items) (map listed_by after.links.items) →
      AddsInstances reads (vec_len writers.ends) instances first (map listed_by readers.links.items) (map listed_by after.links.items) →
      AddsInstances writes (vec_len writers.ends) instances first (map listed_by writers.links.items) (map listed_by written.links.items) →
      AreAllListed (vec_len writers.ends) calls readers writers (map attachment (take first instances)) →
      AreAllListed (vec_len written.ends) calls after written (map attachment instances)
  all_added instances first there few kept adds_read adds_written all =
      let least = vec_len writers.ends in
      let before = map listed_by readers.links.items in
      let now = map listed_by after.links.items in
      record {
        own = have_as least (vec_len written.ends) (vec_len readers.ends) (vec_len after.ends) calls same long all.own;
        read = listed_as reads least (vec_len written.ends) calls now now (map attachment instances) same
            (listed_instances reads least calls before now before now least (vec_len readers.ends) instances first there all.own kept all.read few adds_read);
        written = listed_as writes least (vec_len written.ends) calls now (map listed_by written.links.items) (map attachment instances) same
            (listed_instances writes least calls before now (map listed_by writers.links.items) (map listed_by written.links.items) least (vec_len readers.ends)
            instances first there all.own kept all.written few adds_written);
      }
