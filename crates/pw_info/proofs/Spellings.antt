-- What spells an information.
use Rattle.std.proofs.Common.{rules, ◌≡◌, ℤ, pos, List, [], ◌∷◌, ◌++◌, ℕ, Bool, true, false, ◌&&◌, ◌||◌, codes, Option, Some, None, IfSome, IfNone, All, length, get_or, ◌<◌, inl, inr, refl, sym, ◌∙◌, subst, ap, arith}
use Rattle.std.proofs.lemmas.List.{append_cancel_right}
use Rattle.std.proofs.lemmas.Slice.Eq.{bytes_eq-Decides}
use Rattle.std.specs.Int.Signed.{le_z}
use Rattle.std.specs.Ordering.{int_eq}
use Rattle.std.specs.Str.{bytes_eq}
use Rattle.pw_kinds.specs.declared.interval.Interval.{Interval}
use Rattle.pw_kinds.specs.declared.members.Members.{Members}
use Rattle.pw_kinds.specs.Interval as interval
use Rattle.pw_kinds.specs.Interval.{IsFromTo}
use Rattle.pw_kinds.specs.Members as members
use Rattle.pw_kinds.specs.Members.{size_of, IsEmpty}
use Rattle.pw_info.specs.declared.kind.SetKind.{SetKind}
use Rattle.pw_info.specs.declared.kind.Kind.{Kind}
use Rattle.pw_info.specs.declared.kind.Kind.TheVariants as kinds
use Rattle.pw_info.specs.declared.info.Info.{Info}
use Rattle.pw_info.specs.Information.{set_kind, kind_of, allows, nothing, contradiction}
use Rattle.pw_info.specs.inside.Scanning.{NamesApart, AddsPlaces}
use Rattle.pw_info.specs.Number.{IsUpTo, SpellsNumber}
use Rattle.pw_info.specs.Number.{SpellsRange, SpellsNoRange}
use Rattle.pw_info.specs.SetNames.{SetNames, AreNames, IsNamed}
use Rattle.pw_info.specs.SetNames.{ArePlaces, is_one_of, row_of}
use Rattle.pw_info.specs.Spelling.{SpellsInfo, SpellsValues}
use Rattle.pw_info.proofs.Dots.{one_range_lem, uncut}
use Rattle.pw_info.proofs.Informations.{same_set, same_values, nothing_is, contradiction_is}
use Rattle.pw_info.proofs.NamesInARow.{one_row}
use Rattle.pw_info.proofs.Numbers.{one_number_lem}

-- what holds, holds if there is no value
pub IfNone_holds : {X P : Type 0} (o : Option X) → P → IfNone o P
IfNone_holds (Some x) holds = tt
IfNone_holds None holds = holds

-- what follows from two facts of the value in a `Some`
pub IfSome_both : {X : Type 0} (o : Option X) {P Q R : X → Type 0} → IfSome o P → IfSome o Q → ((x : X) → P x → Q x → R x) → IfSome o R
IfSome_both (Some x) p q follows = follows x p q
IfSome_both None p q follows = tt

-- ---- reading an interval

-- a range in order and in range spells the information that leaves its numbers possible
pub values_spelled : (sets : SetNames) (word : List ℕ) (lo hi : ℤ) (part : Interval) (info : Info)
    → SpellsRange word lo hi → IsUpTo 1000000 lo → IsUpTo 1000000 hi → IsFromTo part lo hi
    → ((v : ℤ) → allows info v ≡ interval.allows part v) → SpellsValues sets word kinds.Interval info
values_spelled sets word lo hi part info spelled low high values same = (lo, hi, spelled, low, high, λ v. same v ∙ values v)

-- the same numbers, given by ends that are equal
pub from_same_ends : (part : Interval) (lo hi from to : ℤ) → from ≡ lo → to ≡ hi → IsFromTo part from to → IsFromTo part lo hi
from_same_ends part lo hi from to same_lo same_hi values v =
    values v ∙ ap (λ (n : ℤ). le_z n v && le_z v to) same_lo ∙ ap (λ (n : ℤ). le_z lo v && le_z v n) same_hi

-- a word that spells no range within the bounds spells no values
pub no_values : (word : List ℕ) → ((lo hi : ℤ) → SpellsRange word lo hi → IsUpTo 1000000 lo → IsUpTo 1000000 hi → ⊥)
    → (sets : SetNames) (info : Info) → SpellsValues sets word kinds.Interval info → ⊥
no_values word none sets info (lo, hi, spelled, low, high, values) = none lo hi spelled low high

-- ---- reading members

-- a row in braces, read from none seen on, spells the information that leaves its members possible
pub set_spelled : (sets : SetNames) (word list : List ℕ) (set : SetKind) (start part : Members) (info : Info) → size_of start ≡ set.size → IsEmpty start
    → word ≡ 123 ∷ (list ++ (125 ∷ [])) → AddsPlaces (sets set.number) list start part → ((v : ℤ) → allows info v ≡ members.allows part v)
    → SpellsValues sets word (kinds.Members set) info
set_spelled sets word list set start part info size empty is adds same = (
  adds.places,
  subst (λ (s : ℕ). ArePlaces s adds.places) size adds.named.are_places,
  is ∙ ap (λ (l : List ℕ). 123 ∷ (l ++ (125 ∷ []))) adds.named.text_is,
  λ v. same v ∙ adds.values v ∙ ap (λ (b : Bool). b || is_one_of adds.places v) (empty v),
)

-- members of the size of a set kind are of that kind
pub set_kind_is : (set : SetKind) (part : Members) → size_of part ≡ set.size → set_kind set.number part ≡ kinds.Members set
set_kind_is set part size = same_set _ set refl size

-- if what is in the braces is not a row, the word spells no members
pub no_set : (sets : SetNames) (word list : List ℕ) (set : SetKind) (start : Members) → size_of start ≡ set.size → IsEmpty start
    → word ≡ 123 ∷ (list ++ (125 ∷ [])) → ((places : List ℕ) → NamesApart (sets set.number) list start places → ⊥)
    → (info : Info) → SpellsValues sets word (kinds.Members set) info → ⊥
no_set sets word list set start size empty is none info (places, are, spelled, values) =
    let whole : 123 ∷ (list ++ (125 ∷ [])) ≡ 123 ∷ (row_of (sets set.number) places ++ (125 ∷ [])) = sym is ∙ spelled in
    let same : list ≡ row_of (sets set.number) places = append_cancel_right list (row_of (sets set.number) places) (125 ∷ []) (cc) in
    none places (record { are_places = subst (λ (s : ℕ). ArePlaces s places) (sym size) are; text_is = same; apart = λ k d inside. empty (pos (get_or places k d)) })

-- ---- reading an information

-- what spells values of this kind spells an information of it
pub by_values : (sets : SetNames) (word : List ℕ) (kind this : Kind) (info : Info) → kind ≡ this → kind_of info ≡ this → SpellsValues sets word this info
    → SpellsInfo sets word kind info
by_values sets word kind this info is same spelled =
    (same ∙ sym is, inr (inr (subst (λ (k : Kind). SpellsValues sets word k info) (sym is) spelled)))

-- a word that the test tells from a name is not that name
pub not_named : (word given name : List ℕ) (same : Bool) → same ≡ bytes_eq word given → given ≡ name → same ≡ false → word ≡ name → ⊥
not_named word given name same tested is differs named =
    let apart : bytes_eq word given ≡ true = (bytes_eq-Decides word given).1 (named ∙ sym is) in cc

-- a word that is neither name, and spells no values of this kind, spells no information of it
pub no_info : (sets : SetNames) (word : List ℕ) (kind this : Kind) → kind ≡ this → (word ≡ codes "nothing" → ⊥) → (word ≡ codes "contradiction" → ⊥)
    → ((info : Info) → SpellsValues sets word this info → ⊥) → (info : Info) → SpellsInfo sets word kind info → ⊥
no_info sets word kind this is_this unnamed unnamed' none info (same, inl (is, every)) = unnamed is
no_info sets word kind this is_this unnamed unnamed' none info (same, inr (inl (is, none_is))) = unnamed' is
no_info sets word kind this is_this unnamed unnamed' none info (same, inr (inr spelled)) =
    none info (subst (λ (k : Kind). SpellsValues sets word k info) is_this spelled)

-- ---- one information for a word

nothing_no_number : (n : ℤ) → SpellsNumber (codes "nothing") n → ⊥
nothing_no_number = search rules

contradiction_no_number : (n : ℤ) → SpellsNumber (codes "contradiction") n → ⊥
contradiction_no_number = search rules

named_nothing : SpellsNoRange (codes "nothing")
named_nothing lo hi spelled = nothing_no_number lo (uncut (codes "nothing") lo hi (search rules) spelled).0

named_contradiction : SpellsNoRange (codes "contradiction")
named_contradiction lo hi spelled = contradiction_no_number lo (uncut (codes "contradiction") lo hi (search rules) spelled).0

-- a word spells no values if it spells no range and begins with no brace
no_named_values : (sets : SetNames) (word name : List ℕ) (kind : Kind) (info : Info) → word ≡ name → SpellsNoRange name → (get_or name 0 0 ≡ 123 → ⊥)
    → SpellsValues sets word kind info → ⊥
no_named_values sets word name kinds.Interval info is none braced (lo, hi, spelled, low, high, values) =
    none lo hi (subst (λ (w : List ℕ). SpellsRange w lo hi) is spelled)
no_named_values sets word name (kinds.Members set) info is none braced (places, are, spelled, values) =
    braced (ap (λ (w : List ℕ). get_or w 0 0) (sym is ∙ spelled))
no_named_values sets word name kinds.Exact info is none braced (n, spelled, low, values) =
    none n n (inl (subst (λ (w : List ℕ). SpellsNumber w n) is spelled, refl))

no_values_of_nothing : (sets : SetNames) (word : List ℕ) (kind : Kind) (info : Info) → word ≡ codes "nothing" → SpellsValues sets word kind info → ⊥
no_values_of_nothing sets word kind info is = no_named_values sets word (codes "nothing") kind info is named_nothing (λ e. omega (arith, e))

no_values_of_contradiction : (sets : SetNames) (word : List ℕ) (kind : Kind) (info : Info) → word ≡ codes "contradiction" → SpellsValues sets word kind info → ⊥
no_values_of_contradiction sets word kind info is = no_named_values sets word (codes "contradiction") kind info is named_contradiction (λ e. omega (arith, e))

names_differ : (word : List ℕ) → word ≡ codes "nothing" → word ≡ codes "contradiction" → ⊥
names_differ word is is' = let e = ap (λ (w : List ℕ). get_or w 0 0) (sym is ∙ is') in omega (arith, e)

-- places of a set of a size are places of its names
named_places : (sets : SetNames) (set : SetKind) (places : List ℕ) → length (sets set.number) ≡ set.size → ArePlaces set.size places
    → All (λ p. p < length (sets set.number)) places
named_places sets set places named are = subst (λ (s : ℕ). All (λ p. p < s) places) (sym named) are.there

-- a word spells values of at most one information of a kind
one_values : (sets : SetNames) (word : List ℕ) (kind : Kind) (a b : Info) → ((set : ℕ) → AreNames (sets set)) → IsNamed sets kind → kind_of a ≡ kind_of b
    → SpellsValues sets word kind a → SpellsValues sets word kind b → a ≡ b
one_values sets word kinds.Interval a b known named k (lo, hi, spelled, low, high, values) (least, greatest, spelled', low', high', values') =
    let (same_lo, same_hi) = one_range_lem word lo hi least greatest spelled spelled' in
    same_values a b k (λ v. values v ∙ ap (λ (n : ℤ). le_z n v && le_z v hi) same_lo ∙ ap (λ (n : ℤ). le_z least v && le_z v n) same_hi ∙ sym (values' v))
one_values sets word (kinds.Members set) a b known named k (places, are, spelled, values) (others, are', spelled', values') =
    let whole : 123 ∷ (row_of (sets set.number) places ++ (125 ∷ [])) ≡ 123 ∷ (row_of (sets set.number) others ++ (125 ∷ [])) = sym spelled ∙ spelled' in
    let row : row_of (sets set.number) places ≡ row_of (sets set.number) others =
    append_cancel_right (row_of (sets set.number) places) (row_of (sets set.number) others) (125 ∷ []) (cc) in
    let same : places ≡ others = one_row (sets set.number) places others (known set.number) (named_places sets set places named are) (named_places sets set others named are') are.some are'.some row in
    same_values a b k (λ v. values v ∙ ap (λ (ps : List ℕ). is_one_of ps v) same ∙ sym (values' v))
one_values sets word kinds.Exact a b known named k (n, spelled, within, values) (m, spelled', within', values') =
    let same : n ≡ m = one_number_lem word n m spelled spelled' in
    same_values a b k (λ v. values v ∙ ap (λ (x : ℤ). int_eq v x) same ∙ sym (values' v))

-- a word spells at most one information of a kind
pub one_info : (sets : SetNames) (word : List ℕ) (kind : Kind) (a b : Info) → ((set : ℕ) → AreNames (sets set)) → IsNamed sets kind
    → SpellsInfo sets word kind a → SpellsInfo sets word kind b → a ≡ b
one_info sets word kind a b known named (ka, inl (is, every)) (kb, inl (is', every')) = nothing_is a every ∙ ap nothing (ka ∙ sym kb) ∙ sym (nothing_is b every')
one_info sets word kind a b known named (ka, inl (is, every)) (kb, inr (inl (is', none_is'))) = absurd (names_differ word is is')
one_info sets word kind a b known named (ka, inl (is, every)) (kb, inr (inr spelled')) = absurd (no_values_of_nothing sets word kind b is spelled')
one_info sets word kind a b known named (ka, inr (inl (is, none_is))) (kb, inl (is', every')) = absurd (names_differ word is' is)
one_info sets word kind a b known named (ka, inr (inl (is, none_is))) (kb, inr (inl (is', none_is'))) = contradiction_is a none_is ∙ ap contradiction (ka ∙ sym kb) ∙ sym (contradiction_is b none_is')
one_info sets word kind a b known named (ka, inr (inl (is, none_is))) (kb, inr (inr spelled')) = absurd (no_values_of_contradiction sets word kind b is spelled')
one_info sets word kind a b known named (ka, inr (inr spelled)) (kb, inl (is', every')) = absurd (no_values_of_nothing sets word kind a is' spelled)
one_info sets word kind a b known named (ka, inr (inr spelled)) (kb, inr (inl (is', none_is'))) = absurd (no_values_of_contradiction sets word kind a is' spelled)
one_info sets word kind a b known named (ka, inr (inr spelled)) (kb, inr (inr spelled')) = one_values sets word kind a b known named (ka ∙ sym kb) spelled spelled'
