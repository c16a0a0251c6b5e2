-- Which list has the calls of a compound that read one of its places, and which the readers of an inner cell.
use Rattle.std.specs.Prelude.{◌≡◌, ℕ, ◌+◌, ◌*◌, ◌<◌, ◌≤◌, Bool, List, [], ◌∷◌, length, map, slice_index_or, vec_len}
use Rattle.std.specs.FinSet as set
use Rattle.pw_info.specs.declared.kind.Kind.{Kind}
use Rattle.pw_decl.specs.Compound.{Compound}
use Rattle.pw_decl.specs.Expansion.{inner_kinds_of}
use Rattle.pw_decl.specs.declared.flat_call.FlatCall.{FlatCall}
use Rattle.pw_decl.specs.declared.step.Callable.TheVariants as callables
use Rattle.pw_decl.specs.inside.Held.{AreCallsOf, instances_of}
use Rattle.pw_network.specs.declared.compound_lists.CompoundLists.{CompoundLists}
use Rattle.pw_network.specs.declared.instance_lists.InstanceLists.{InstanceLists}
use Rattle.pw_network.specs.declared.network.InnerCell.{InnerCell as InnerType}
use Rattle.pw_network.specs.inside.Lists.{Listed, listed_by, no_place, numbers_for}
use Rattle.pw_network.specs.Network.{Attached, attached_at}
use Rattle.pw_network.specs.Readers.{numbers_from, reads, readers_from}
use Rattle.pw_network.specs.Writers.{writes}

-- the number of the list of the compound's first place; no list has it if the compound was not attached yet
abbrev pub first_list : {A : Type 0} → CompoundLists A → ℕ → ℕ
first_list held compound = slice_index_or held.firsts.items compound no_place

-- the calls, as instances between the places of their compound
abbrev pub attached_calls : List FlatCall → List Attached
attached_calls calls = map (attached_at 0 set.empty) (instances_of calls)

-- the lists from this number on, one for each place, have the calls that pass the place's test
abbrev pub ListsCalls : (ℕ → Attached → Bool) → List Listed → ℕ → ℕ → List FlatCall → Type 0
ListsCalls test listed first places calls =
    (place : ℕ) → place < places → numbers_for (first + place) listed ≡ numbers_from (test place) (attached_calls calls) 0

-- the lists from this number on have the calls that read each place, and after them those that write it. These lists are
-- not below `least`, and below `count`
pub record HasLists (least places : ℕ) (calls : List FlatCall) (first count : ℕ) (listed : List Listed) : Type 0 where
  pub from : least ≤ first
  pub within : first + 2 * places ≤ count
  pub read : ListsCalls reads listed first places calls
  pub written : ListsCalls writes listed (first + places) places calls

-- the same, if the compound was attached
abbrev pub IsListedAs : ℕ → ℕ → List FlatCall → ℕ → ℕ → List Listed → Type 0
IsListedAs least places calls first count listed = first < no_place → HasLists least places calls first count listed

-- the same for each compound, its places and its own calls
abbrev pub AreOwnLists : {A : Type 0} → List Compound → ℕ → CompoundLists A → ℕ → List Listed → Type 0
AreOwnLists compounds least held count listed =
    (number : ℕ) (calls : List FlatCall) (are : AreCallsOf compounds number calls)
    → IsListedAs least (length are.compound.parameters + length (inner_kinds_of compounds (callables.Compound number))) calls
    (first_list held number) count listed

-- the instances that read this cell are those that the list of the inner cell has, counted from the first instance of
-- its attachment. Its list is not below `least`, and below `count`
pub record IsReadAs (least count : ℕ) (listed : List Listed) (attached : List Attached) (cell : ℕ) (inner : InnerType) : Type 0 where
  pub from : least ≤ inner.list
  pub within : inner.list < count
  pub readers : readers_from attached cell 0 ≡ map (λ n. inner.first + n) (numbers_for inner.list listed)

-- so it is for all inner cells. The first of them has the number `least`
abbrev pub AreReadAs : ℕ → ℕ → List Listed → List Attached → List InnerType → Type 0
AreReadAs least count listed attached inner =
    (i : ℕ) (d : InnerType) → i < length inner → IsReadAs least count listed attached (least + i) (slice_index_or inner i d)

-- the same of lists as the code holds them
abbrev pub HaveOwnLists : {A B : Type 0} → List Compound → ℕ → CompoundLists A → InstanceLists B → Type 0
HaveOwnLists compounds least held lists = AreOwnLists compounds least held (vec_len lists.ends) (map listed_by lists.links.items)

abbrev pub HaveReaders : {A : Type 0} → ℕ → InstanceLists A → List Attached → List InnerType → Type 0
HaveReaders least lists attached inner = AreReadAs least (vec_len lists.ends) (map listed_by lists.links.items) attached inner

-- the inner cells of an attachment at this line, whose first instance has this number, from an inner number on. The
-- first of them has this list
abbrev pub inner_made : ℕ → ℕ → ℕ → ℕ → List Kind → List InnerType
inner_made line first list number [] = []
inner_made line first list number (kind ∷ kinds) =
    record {
      line = line;
      first = first;
      list = list + number;
      number = number;
      kind = kind;
    } ∷ inner_made line first list (number + 1) kinds
