-- Ranges as words, cut at their first '.'.
use Rattle.std.proofs.Common.{rules, ◌≡◌, ℕ, zero, suc, ℤ, pos, negsuc, ◌≤ℤ◌, List, [], ◌∷◌, ◌++◌, refl, sym, ◌∙◌, subst, inl, inr, arith, Option, Some, None, IfNone, is_some, ◌-◌, ◌<◌, length, get_or, take, drop, take_all}
use Rattle.std.proofs.lemmas.Bool.{cases_Bool}
use Rattle.std.proofs.lemmas.Bool.Decides.{Decides-int_eq}
use Rattle.std.proofs.lemmas.Str.Parse.{digit_at}
use Rattle.std.specs.Fmt.{signed_decimal}
use Rattle.std.specs.Ordering.{int_eq}
use Rattle.std.specs.Str.Parse.{AllDigits}
use Rattle.pw_info.specs.Number.{IsUpTo, SpellsNumber, HoldsOfNoneUpTo}
use Rattle.pw_info.specs.inside.Scanning.{HasNoDot, SpellsCut}
use Rattle.pw_info.specs.Number.{SpellsRange, text_of_range}
use Rattle.pw_info.proofs.Cuts.{no_cut, one_cut}
use Rattle.pw_info.proofs.Numbers.{one_number_lem, signed_decimal_spells}

-- digits have no dot
digits_no_dot : (word : List ℕ) → AllDigits 10 word → HasNoDot word
digits_no_dot word digits k inside = let digit = digit_at word k digits inside in omega arith

-- a number has no dot
pub number_no_dot : (word : List ℕ) (n : ℤ) → SpellsNumber word n → HasNoDot word
number_no_dot word (pos zero) spelled k inside = digits_no_dot word (subst (AllDigits 10) (sym spelled) (search rules)) k inside
number_no_dot word (pos (suc n)) spelled k inside = digits_no_dot word spelled.digits k inside
number_no_dot [] (negsuc n) spelled k inside = absurd spelled
number_no_dot (c ∷ word) (negsuc n) (minus, spelled) zero inside = omega arith
number_no_dot (c ∷ word) (negsuc n) (minus, spelled) (suc k) inside = digits_no_dot word spelled.digits k (omega arith)

-- a word with no dot spells a range as one number
pub uncut : (word : List ℕ) (lo hi : ℤ) → HasNoDot word → SpellsRange word lo hi → SpellsNumber word lo × (lo ≡ hi)
uncut word lo hi clear (inl spelled) = spelled
uncut word lo hi clear (inr (front, back, is, low, high, order)) = absurd (no_cut 46 word front (46 ∷ back) clear is)

-- a word with a dot spells a range by what comes before the first one and what comes after it
pub cut : (word front rest : List ℕ) (lo hi : ℤ) → word ≡ front ++ (46 ∷ rest) → HasNoDot front → SpellsRange word lo hi
    → SpellsCut front rest lo hi
cut word front rest lo hi is clear (inl (spelled, same)) = absurd (no_cut 46 word front rest (number_no_dot word lo spelled) is)
cut word front rest lo hi is clear (inr (first, back, parts, least, greatest, order)) =
    let (same, left) = one_cut 46 front rest first (46 ∷ back) clear (number_no_dot first lo least) (sym is ∙ parts) in
    (back, left, subst (λ (w : List ℕ). SpellsNumber w lo) (sym same) least, greatest, order)

-- a word spells at most one range
pub one_range_lem : (word : List ℕ) (lo hi least greatest : ℤ) → SpellsRange word lo hi → SpellsRange word least greatest
    → (lo ≡ least) × (hi ≡ greatest)
one_range_lem word lo hi least greatest (inl (spelled, same)) other =
    let (spelled', same') = uncut word least greatest (number_no_dot word lo spelled) other in
    let one = one_number_lem word lo least spelled spelled' in (one, cc)
one_range_lem word lo hi least greatest (inr (front, back, is, low, high, order)) other =
    let (back', left, low', high', order') = cut word front (46 ∷ back) least greatest is (number_no_dot front lo low) other in
    let same : back' ≡ back = cc in
    (one_number_lem front lo least low low', one_number_lem back hi greatest high (subst (λ (w : List ℕ). SpellsNumber w greatest) same high'))

-- what is written for a range spells it
pub text_spells : (lo hi : ℤ) → lo ≤ℤ hi → IsUpTo 1000000000 lo → IsUpTo 1000000000 hi → SpellsRange (text_of_range lo hi) lo hi
text_spells lo hi order low high =
    let one = signed_decimal_spells lo low in
    let other = signed_decimal_spells hi high in
    elim (cases_Bool (int_eq lo hi)) [
      | inl equal ↦ let same = (Decides-int_eq lo hi).0 equal in
          rw equal (inl (one, same))
      | inr apart ↦ rw apart (inr (signed_decimal lo, signed_decimal hi, refl, one, other, order))
    ]

-- ---- the parts before and after the first dot, as LO..HI

-- the bytes behind a first one
pub behind_first : (byte : ℕ) (rest : List ℕ) → 0 < length rest → get_or rest 0 0 ≡ byte
    → rest ≡ byte ∷ take (length rest - 1) (drop 1 rest)
behind_first byte [] some first = absurd (omega arith)
behind_first byte (c ∷ rest) some first =
    let same : take (length (c ∷ rest) - 1) rest ≡ rest = take_all (length (c ∷ rest) - 1) rest (omega arith) in cc

-- numbers that are read spell it, in their order
pub ends_spell : (front rest back : List ℕ) (lo hi from to : ℤ) → rest ≡ 46 ∷ back → from ≡ lo → to ≡ hi
    → SpellsNumber front lo → SpellsNumber back hi → lo ≤ℤ hi → SpellsCut front rest from to
ends_spell front rest back lo hi from to is same_lo same_hi low high order =
    subst (λ (n : ℤ). SpellsCut front rest n to) (sym same_lo)
    (subst (λ (n : ℤ). SpellsCut front rest lo n) (sym same_hi) (back, is, low, high, order))

-- without a second dot there are no ends
pub none_without_dot : (front rest : List ℕ) (most : ℕ) → ((back : List ℕ) → rest ≡ 46 ∷ back → ⊥)
    → HoldsOfNoneUpTo most (SpellsCut front rest)
none_without_dot front rest most none lo hi (back, is, low, high, order) at_lo at_hi = none back is

-- a front that is no number is no end
pub none_of_front : (front rest : List ℕ) (most : ℕ) → ((n : ℤ) → SpellsNumber front n → IsUpTo most n → ⊥)
    → HoldsOfNoneUpTo most (SpellsCut front rest)
none_of_front front rest most none lo hi (back, is, low, high, order) at_lo at_hi = none lo low at_lo

-- nor is what comes after the dots, if it is no number
pub none_of_back : (front rest back : List ℕ) (most : ℕ) → rest ≡ 46 ∷ back
    → ((n : ℤ) → SpellsNumber back n → IsUpTo most n → ⊥) → HoldsOfNoneUpTo most (SpellsCut front rest)
none_of_back front rest back most parts none lo hi (other, is, low, high, order) at_lo at_hi =
    let same : other ≡ back = cc in
    none hi (subst (λ (w : List ℕ). SpellsNumber w hi) same high) at_hi

-- ends that are read in the wrong order are none
pub none_in_order : (front rest back : List ℕ) (most : ℕ) (lo hi : ℤ) → rest ≡ 46 ∷ back → SpellsNumber front lo
    → SpellsNumber back hi → (lo ≤ℤ hi → ⊥) → HoldsOfNoneUpTo most (SpellsCut front rest)
none_in_order front rest back most lo hi parts least greatest apart low high (other, is, spelled, spelled', order) at_lo at_hi =
    let same : other ≡ back = cc in
    let same_lo = one_number_lem front low lo spelled least in
    let same_hi = one_number_lem back high hi (subst (λ (w : List ℕ). SpellsNumber w high) same spelled') greatest in
    apart (subst (λ (n : ℤ). n ≤ℤ hi) same_lo (subst (λ (n : ℤ). low ≤ℤ n) same_hi order))

-- what a word that is cut at its first dot does not spell within most, as LO..HI, it spells in no
-- way
pub none_from_cut : (word front rest : List ℕ) (most : ℕ) → word ≡ front ++ (46 ∷ rest) → HasNoDot front
    → ((lo hi : ℤ) → SpellsCut front rest lo hi → IsUpTo most lo → IsUpTo most hi → ⊥)
    → (lo hi : ℤ) → SpellsRange word lo hi → IsUpTo most lo → IsUpTo most hi → ⊥
none_from_cut word front rest most is clear none lo hi spelled = none lo hi (cut word front rest lo hi is clear spelled)

-- what a word with no dot does not spell within most, as a number, it spells in no way
pub none_from_uncut : (word : List ℕ) (most : ℕ) → HasNoDot word
    → ((n : ℤ) → SpellsNumber word n → IsUpTo most n → ⊥)
    → (lo hi : ℤ) → SpellsRange word lo hi → IsUpTo most lo → IsUpTo most hi → ⊥
none_from_uncut word most clear none lo hi spelled low high = none lo (uncut word lo hi clear spelled).0 low

-- a fact at one answer's None, and what follows from it, at another answer's
pub IfNone_then : {X Y : Type 0} (one : Option X) (other : Option Y) {P Q : Type 0} → is_some other ≡ is_some one → IfNone one P
    → (P → Q) → IfNone other Q
IfNone_then one (Some y) same holds follows = tt
IfNone_then (Some x) None same holds follows = absurd (cc)
IfNone_then None None same holds follows = follows holds
