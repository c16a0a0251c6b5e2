-- What a number in the list of a declared cell means: an instance, or calls of an attachment.
use Rattle.std.specs.Prelude.{◌≡◌, ℕ, zero, suc, ◌+◌, ◌-◌, ◌<◌, ◌≤◌, Bool, List, [], ◌∷◌, ◌++◌, All, cond, drop, length, map, nat_eq, nat_lt, slice_index_or, vec_len}
use Rattle.pw_network.specs.Batches.{numbers_in}
use Rattle.pw_network.specs.declared.instance.Instance.{Instance as InstanceType}
use Rattle.pw_decl.specs.declared.flat_call.FlatCall.{FlatCall}
use Rattle.pw_premises.specs.Premises.{Premises}
use Rattle.pw_network.specs.inside.Held.{attached_on, attachment}
use Rattle.pw_network.specs.Network.{Attached}
use Rattle.pw_network.specs.Readers.{numbers_from, reads}
use Rattle.pw_network.specs.Writers.{writes}
use Rattle.pw_network.specs.declared.batch.Batch.{Batch}
use Rattle.pw_network.specs.declared.batch.Batch.TheVariants as batches
use Rattle.pw_network.specs.declared.batch.Calls.{Calls}
use Rattle.pw_network.specs.declared.instance_lists.InstanceLists.{InstanceLists}
use Rattle.pw_network.specs.inside.Lists.{Listed, listed_by, numbers_for}

-- the numbers below this one are those of instances, and the others those of calls
abbrev pub least_calls : ℕ
least_calls = 2147483648

-- no calls
abbrev pub no_calls : Calls
no_calls = record { first = 0; list = 0 }

-- the numbers of the instances of these calls: their list has the calls, and they count from the first instance
abbrev pub numbers_called : List Listed → Calls → List ℕ
numbers_called listed calls = map (λ n. calls.first + n) (numbers_for calls.list listed)

-- the batch of the number
abbrev pub batch_of : List Calls → List Listed → ℕ → Batch
batch_of calls listed number =
    cond (nat_lt number least_calls) (batches.One number)
    (batches.Many (numbers_called listed (slice_index_or calls (number - least_calls) no_calls)))

-- each is the number of an instance, or of these calls
abbrev pub AreThere : List Calls → List ℕ → Type 0
AreThere calls numbers = All (λ number. number < least_calls + length calls) numbers

-- the lists of these calls are there: their numbers are not below the first one, and below the other
abbrev pub HaveLists : ℕ → ℕ → List Calls → Type 0
HaveLists least count calls = All (λ (c : Calls). (least ≤ c.list) × (c.list < count)) calls

-- the list of each of the first cells has the instances that pass the cell's test; calls are found in other lists
pub record AreListed (test : ℕ → Attached → Bool) (cells : ℕ) (calls : List Calls) (lists listed : List Listed)
    (attached : List Attached) : Type 0 where
  pub there : (cell : ℕ) → cell < cells → AreThere calls (numbers_for cell listed)
  pub are : (cell : ℕ) → cell < cells → numbers_in (map (batch_of calls lists) (numbers_for cell listed))
      ≡ numbers_from (test cell) attached 0

-- the lists of these calls are there, and the list of each of the first cells has the instances that read the cell, and
-- that of writers those that write it
pub record AreAllListed {A : Type 0} (cells : ℕ) (calls : List Calls) (readers writers : InstanceLists A) (attached : List Attached) : Type 0 where
  pub own : HaveLists cells (vec_len readers.ends) calls
  pub read : AreListed reads cells calls (map listed_by readers.links.items) (map listed_by readers.links.items) attached
  pub written : AreListed writes cells calls (map listed_by readers.links.items) (map listed_by writers.links.items) attached

-- the numbers of those of the instances from a number on that pass the test
abbrev pub numbers_past : (Attached → Bool) → List InstanceType → ℕ → List ℕ
numbers_past test instances first =
    map (λ n. first + n) (numbers_from test (map attachment (drop first instances)) 0)

-- the list of each of the first cells has the instances more that come from a number on and pass the cell's test
abbrev pub AddsInstances : (ℕ → Attached → Bool) → ℕ → List InstanceType → ℕ → List Listed → List Listed → Type 0
AddsInstances test cells instances first old new =
    (cell : ℕ) → cell < cells → numbers_for cell new ≡ numbers_for cell old ++ numbers_past (test cell) instances first

-- the calls of this many places, of an attachment whose first instance has this number. The first place has this list
abbrev pub calls_from : ℕ → ℕ → ℕ → List Calls
calls_from first list zero = []
calls_from first list (suc places) = record { first = first; list = list } ∷ calls_from first (list + 1) places

-- the numbers for a cell, where the calls of the first of these cells have this number, and those of the next the next one
abbrev pub call_numbers : ℕ → List ℕ → ℕ → List ℕ
call_numbers number [] cell = []
call_numbers number (c ∷ cells) cell = cond (nat_eq cell c) (number ∷ []) [] ++ call_numbers (number + 1) cells cell

-- the list of each of these cells has its calls more, and the other lists below the first number have none
abbrev pub AddsCalls : ℕ → ℕ → List ℕ → List Listed → List Listed → Type 0
AddsCalls lists number cells old new =
    (list : ℕ) → list < lists → numbers_for list new ≡ numbers_for list old ++ call_numbers number cells list

-- these are the instances of calls on these cells, and on inner ones from a number on; the inner ones are not declared
pub record ArePlaced (declared : ℕ) (cells : List ℕ) (calls : List FlatCall) (own : List Attached) : Type 0 where
  pub line : ℕ
  pub support : Premises
  pub first : ℕ
  pub from : declared ≤ first
  pub are : own ≡ attached_on line support cells first calls
