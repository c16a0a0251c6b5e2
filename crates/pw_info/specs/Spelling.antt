-- Which words spell an information of a kind.
use Rattle.std.specs.Prelude.{◌≡◌, ℕ, ℤ, pos, ◌&&◌, List, codes, ◌⊎◌}
use Rattle.std.specs.List.{list_any}
use Rattle.std.specs.Int.Signed.{le_z}
use Rattle.std.specs.Ordering.{int_eq}
use Rattle.pw_kinds.specs.Ranges.{IsInIntervalRange, IsInExactRange}
use Rattle.pw_info.specs.declared.kind.Kind.{Kind}
use Rattle.pw_info.specs.declared.kind.Kind.TheVariants as kinds
use Rattle.pw_info.specs.declared.info.Info.{Info}
use Rattle.pw_info.specs.Information.{kind_of, allows, IsNothing, IsContradiction}
use Rattle.pw_info.specs.Number.{SpellsNumber}
use Rattle.pw_info.specs.Number.{SpellsRange}
use Rattle.pw_info.specs.SetNames.{SetNames}
use Rattle.pw_info.specs.SetNames.{ArePlaces, text_of_set}

-- it holds for at most one: any two for which it holds are equal
abbrev pub AtMostOne : {X : Type 0} → (X → Type 0) → Type 0
AtMostOne {X} Holds = (x y : X) → Holds x → Holds y → x ≡ y

-- a word in the form of the kind itself: for an interval one number, or two in order, in range; for
-- an exact number that number, in range; for a set the names of some of its members, in any order,
-- none twice. The information allows just the numbers from one to the other, just that number, or
-- just those members
abbrev pub SpellsValues : SetNames → List ℕ → Kind → Info → Type 0
SpellsValues sets word kinds.Interval info =
    (lo : ℤ) × (hi : ℤ) × SpellsRange word lo hi × IsInIntervalRange lo × IsInIntervalRange hi
    × ((v : ℤ) → allows info v ≡ (le_z lo v && le_z v hi))
SpellsValues sets word (kinds.Members set) info =
    (places : List ℕ) × ArePlaces set.size places × (word ≡ text_of_set (sets set.number) places)
    × ((v : ℤ) → allows info v ≡ list_any (λ place. int_eq (pos place) v) places)
SpellsValues sets word kinds.Exact info =
    (n : ℤ) × SpellsNumber word n × IsInExactRange n × ((v : ℤ) → allows info v ≡ int_eq v n)

-- a word is in the form of the kind itself for no information
abbrev pub SpellsNoValues : SetNames → List ℕ → Kind → Type 0
SpellsNoValues sets word kind = (info : Info) → SpellsValues sets word kind info → ⊥

-- a word spells an information of a kind: `nothing`, `contradiction`, or in the kind's own form
abbrev pub SpellsInfo : SetNames → List ℕ → Kind → Info → Type 0
SpellsInfo sets word kind info = (kind_of info ≡ kind)
    × (((word ≡ codes "nothing") × IsNothing info)
    ⊎ (((word ≡ codes "contradiction") × IsContradiction info) ⊎ SpellsValues sets word kind info))

-- a word spells no information of a kind
abbrev pub SpellsNoInfo : SetNames → List ℕ → Kind → Type 0
SpellsNoInfo sets word kind = (info : Info) → SpellsInfo sets word kind info → ⊥
