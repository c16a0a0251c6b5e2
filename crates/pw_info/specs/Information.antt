-- What an information says about a value: the set of the values of its kind that are still
-- possible, given by its test. A value of each kind is written as a whole number: a number as
-- itself, a member of a set as its place.
use Rattle.std.specs.Prelude.{◌≡◌, ℕ, ℤ, Bool, true, false, ◌&&◌}
use Rattle.pw_kinds.specs.Ranges.{is_in_interval_range, is_in_exact_range}
use Rattle.pw_kinds.specs.Places.{is_place}
use Rattle.pw_kinds.specs.declared.members.Members.{Members}
use Rattle.pw_kinds.specs.Interval as interval
use Rattle.pw_kinds.specs.Members as members
use Rattle.pw_kinds.specs.Exact as exact
use Rattle.pw_info.specs.declared.kind.Kind.{Kind}
use Rattle.pw_info.specs.declared.kind.Kind.TheVariants as kinds
use Rattle.pw_info.specs.declared.info.Info.{Info}
use Rattle.pw_info.specs.declared.info.Info.TheVariants as info

-- the kind of the members of a set of this number
abbrev pub set_kind : ℕ → Members → Kind
set_kind number part =
    kinds.Members (record {
      number = number;
      size = members.size_of part;
      sized =
          (part.places.fewest, part.places.most);
    })

-- the kind of an information
abbrev pub kind_of : Info → Kind
kind_of (info.Interval part) = kinds.Interval
kind_of (info.Members number part) =
    kinds.Members (record {
      number = number;
      size = members.size_of part;
      sized =
          (part.places.fewest, part.places.most);
    })
kind_of (info.Exact part) = kinds.Exact

-- the information is given by these members, of the set of some number
abbrev pub HasMembers : Info → Members → Type 0
HasMembers known part = (number : ℕ) × (known ≡ info.Members number part)

-- whether a number is a value of the kind
abbrev pub is_value : Kind → ℤ → Bool
is_value kinds.Interval v = is_in_interval_range v
is_value (kinds.Members set) v = is_place set.size v
is_value kinds.Exact v = is_in_exact_range v

-- whether a value is still possible
abbrev pub allows : Info → ℤ → Bool
allows (info.Interval part) v = interval.allows part v
allows (info.Members number part) v = members.allows part v
allows (info.Exact part) v = exact.allows part v

-- every value of the kind is possible
abbrev pub IsNothing : Info → Type 0
IsNothing info = (v : ℤ) → is_value (kind_of info) v ≡ true → allows info v ≡ true

-- no value is possible
abbrev pub IsContradiction : Info → Type 0
IsContradiction info = (v : ℤ) → allows info v ≡ false

-- they leave the same values possible
abbrev pub SameValues : Info → Info → Type 0
SameValues a b = (v : ℤ) → allows a v ≡ allows b v

-- the first is at least as informed: each value that it leaves possible, the second leaves possible
-- too
abbrev pub Implies : Info → Info → Type 0
Implies a b = (v : ℤ) → allows a v ≡ true → allows b v ≡ true

-- each value of the kind that passes the first test passes the second
abbrev pub PassesMore : Kind → (ℤ → Bool) → (ℤ → Bool) → Type 0
PassesMore k p q = (v : ℤ) → is_value k v ≡ true → p v ≡ true → q v ≡ true

-- the most informed of a kind in which every value that passes is possible
abbrev pub closest : Kind → (ℤ → Bool) → Info
closest kinds.Interval p = info.Interval (interval.closest p)
closest (kinds.Members set) p = info.Members set.number (members.closest set.size p)
closest kinds.Exact p = info.Exact (exact.closest p)

-- the information of a kind that leaves every value possible
abbrev pub nothing : Kind → Info
nothing kind = closest kind (λ v. true)

-- the information of a kind that leaves no value possible
abbrev pub contradiction : Kind → Info
contradiction kind = closest kind (λ v. false)

-- the merge of two informations of one kind: it leaves possible what both leave possible
abbrev pub meet : Info → Info → Info
meet a b = closest (kind_of a) (λ v. allows a v && allows b v)
