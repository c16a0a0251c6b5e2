-- Names of members in a row, with ',' between each two: one place is read of each name, and no
-- other row reads so.
use Rattle.std.proofs.Common.{◌≡◌, ℕ, zero, suc, ℤ, pos, ◌<◌, Bool, true, false, ◌||◌, ◌⊎◌, List, [], ◌∷◌, ◌++◌, length, All, Contains, Option, Some, None, IfSome, IfNone, Bor, slice_get, get_or, nat_eq, inl, inr, refl, sym, ◌∙◌, ap, subst, arith}
use Rattle.std.proofs.lemmas.Bool.{cases_order, or_parts}
use Rattle.std.proofs.lemmas.Bool.Decides.{Decides-int_eq, Decides-eqb, Decides-like, same_from_decides}
use Rattle.std.proofs.lemmas.List.Elements.{All-nil, All-cons, All-tail, All-from_recursion, recursion_from_All, Contains-get_or}
use Rattle.std.proofs.lemmas.Map.Keys.{apart_from_distinct, IsDistinct-head, IsDistinct-tail, IsDistinct-cons}
use Rattle.std.proofs.lemmas.Option.{get_or_from_slice_get, slice_get_within}
use Rattle.std.proofs.lemmas.Slice.Eq.{bytes_eq-Decides}
use Rattle.std.proofs.Math.Bool.{or_assoc, or-false}
use Rattle.std.specs.List.{list_all, IsDistinct}
use Rattle.std.specs.Ordering.{int_eq}
use Rattle.std.specs.Str.{bytes_eq}
use Rattle.pw_kinds.specs.declared.members.Members.{Members}
use Rattle.pw_kinds.specs.Members.{size_of, allows}
use Rattle.pw_kinds.proofs.Order.{true_both, not_both}
use Rattle.pw_info.specs.inside.Scanning.{HasNoComma}
use Rattle.pw_info.specs.inside.Scanning.{NamesApart, AddsPlaces}
use Rattle.pw_info.specs.Name.{is_name_byte}
use Rattle.pw_info.specs.SetNames.{AreNames, name_at}
use Rattle.pw_info.specs.SetNames.{ArePlaces, is_one_of, row_of}
use Rattle.pw_info.proofs.Cuts.{no_cut, one_cut}

-- ---- names

-- bytes of names are not commas
bytes_no_comma : (word : List ℕ) → list_all is_name_byte word ≡ true → HasNoComma word
bytes_no_comma [] all k inside is = absurd (omega arith)
bytes_no_comma (b ∷ word) all zero inside is =
    let comma : is_name_byte 44 ≡ true = subst (λ (n : ℕ). is_name_byte n ≡ true) is (true_both _ _ all).0 in cc
bytes_no_comma (b ∷ word) all (suc k) inside is = bytes_no_comma word (true_both _ _ all).1 k (omega arith) is

-- the name at a place has no comma
name_no_comma : (names : List (List ℕ)) (place : ℕ) → AreNames names → place < length names → HasNoComma (name_at names place)
name_no_comma names place known inside = bytes_no_comma (name_at names place) (known.each place [] inside).bytes

-- the names at two places differ
names_differ : (names : List (List ℕ)) (i j : ℕ) → AreNames names → i < j → j < length names → name_at names i ≡ name_at names j → ⊥
names_differ names i j known before inside same =
    not_both (bytes_eq (name_at names i) (name_at names j))
    ((bytes_eq-Decides (name_at names i) (name_at names j)).1 same)
    (apart_from_distinct bytes_eq names i j [] known.differ before inside)

-- a name is at one place
one_place : (names : List (List ℕ)) (i j : ℕ) → AreNames names → i < length names → j < length names → name_at names i ≡ name_at names j → i ≡ j
one_place names i j known inside inside' same = elim (cases_order i j) [
  | inl equal ↦ equal
  | inr (inl before) ↦ absurd (names_differ names i j known before inside' same)
  | inr (inr behind) ↦ absurd (names_differ names j i known behind inside (sym same))
]

-- ---- rows

-- a row tells its places
pub one_row : (names : List (List ℕ)) (places others : List ℕ) → AreNames names → All (λ p. p < length names) places → All (λ p. p < length names) others
    → 0 < length places → 0 < length others → row_of names places ≡ row_of names others → places ≡ others
one_row names [] others known there there' some some' same = absurd (omega arith)
one_row names places [] known there there' some some' same = absurd (omega arith)
one_row names (p ∷ []) (q ∷ []) known there there' some some' same =
    ap (λ (n : ℕ). n ∷ []) (one_place names p q known (there 0 0 (omega arith)) (there' 0 0 (omega arith)) same)
one_row names (p ∷ []) (q ∷ r ∷ others) known there there' some some' same =
    absurd (no_cut 44 (name_at names p) (name_at names q) (row_of names (r ∷ others)) (name_no_comma names p known (there 0 0 (omega arith))) same)
one_row names (p ∷ r ∷ places) (q ∷ []) known there there' some some' same =
    absurd (no_cut 44 (name_at names q) (name_at names p) (row_of names (r ∷ places)) (name_no_comma names q known (there' 0 0 (omega arith))) (sym same))
one_row names (p ∷ r ∷ places) (q ∷ s ∷ others) known there there' some some' same =
    let (first, rest) = one_cut 44 (name_at names p) (row_of names (r ∷ places)) (name_at names q) (row_of names (s ∷ others))
    (name_no_comma names p known (there 0 0 (omega arith))) (name_no_comma names q known (there' 0 0 (omega arith))) same in
    let head : p ≡ q = one_place names p q known (there 0 0 (omega arith)) (there' 0 0 (omega arith)) first in
    let tail : r ∷ places ≡ s ∷ others = one_row names (r ∷ places) (s ∷ others) known (All-tail (λ n. n < length names) p (r ∷ places) there) (All-tail (λ n. n < length names) q (s ∷ others) there') (omega arith) (omega arith) rest in
    cc

-- ---- the first name of a row

-- a text begins with a word without comma: it is the word, or goes on behind a comma
abbrev pub Begins : List ℕ → List ℕ → Type 0
Begins text word = HasNoComma word × ((text ≡ word) ⊎ ((rest : List ℕ) × (text ≡ word ++ (44 ∷ rest))))

pub begins_cut : (text word : List ℕ) (rest : Option (Bor (List ℕ))) → HasNoComma word → IfSome rest (λ r. text ≡ word ++ (44 ∷ r.now)) → IfNone rest (text ≡ word)
    → Begins text word
begins_cut text word (Some rest) clear some none = (clear, inr (rest.now, some))
begins_cut text word None clear some none = (clear, inl none)

-- what a row begins with is the name at its first place
first_name : (names : List (List ℕ)) (text word : List ℕ) (place : ℕ) (places : List ℕ) → AreNames names → place < length names
    → Begins text word → text ≡ row_of names (place ∷ places) → word ≡ name_at names place
first_name names text word p [] known inside (clear, inl is) row = sym is ∙ row
first_name names text word p [] known inside (clear, inr (rest, is)) row =
    absurd (no_cut 44 (name_at names p) word rest (name_no_comma names p known inside) (sym row ∙ is))
first_name names text word p (q ∷ places) known inside (clear, inl is) row =
    absurd (no_cut 44 word (name_at names p) (row_of names (q ∷ places)) clear (sym is ∙ row))
first_name names text word p (q ∷ places) known inside (clear, inr (rest, is)) row =
    (one_cut 44 word rest (name_at names p) (row_of names (q ∷ places)) clear (name_no_comma names p known inside) (sym is ∙ row)).0

-- the first place of a row has a name
first_inside : (names : List (List ℕ)) (text : List ℕ) (seen : Members) (place : ℕ) (places : List ℕ) → length names ≡ size_of seen
    → NamesApart names text seen (place ∷ places) → place < length names
first_inside names text seen place places size row = let below : place < size_of seen = row.are_places.there 0 0 (omega arith) in omega arith

-- a row of members that were not seen begins with the name of one of them
begins_with_one : (names : List (List ℕ)) (text word : List ℕ) (seen : Members) (places : List ℕ) → AreNames names → length names ≡ size_of seen
    → Begins text word → NamesApart names text seen places
    → (place : ℕ) × (place < length names) × (word ≡ name_at names place) × (allows seen (pos place) ≡ false)
begins_with_one names text word seen [] known size begins row = let some : 0 < 0 = row.are_places.some in absurd (omega arith)
begins_with_one names text word seen (p ∷ places) known size begins row =
    let inside : p < length names = first_inside names text seen p places size row in
    (p, inside, first_name names text word p places known inside begins row.text_is, row.apart 0 0 (omega arith))

-- what begins with no name of a member is not a row
pub no_member : (names : List (List ℕ)) (text word : List ℕ) (seen : Members) → AreNames names → length names ≡ size_of seen → Begins text word
    → (Contains names word → ⊥) → (places : List ℕ) → NamesApart names text seen places → ⊥
no_member names text word seen known size begins none places row =
    let (place, inside, is, new) = begins_with_one names text word seen places known size begins row in
    none (subst (Contains names) (sym is) (Contains-get_or names place [] inside))

-- what begins with the name of a member that was seen is not a row of others
pub seen_member : (names : List (List ℕ)) (text word : List ℕ) (seen : Members) (place : ℕ) → AreNames names → length names ≡ size_of seen → Begins text word
    → slice_get names place ≡ Some word → allows seen (pos place) ≡ true → (places : List ℕ) → NamesApart names text seen places → ⊥
seen_member names text word seen place known size begins found old places row =
    let (first, inside, is, new) = begins_with_one names text word seen places known size begins row in
    let here : name_at names place ≡ word = get_or_from_slice_get names place word [] found in
    let same : place ≡ first = one_place names place first known (slice_get_within names place word found) inside (here ∙ is) in
    not_both _ old (ap (λ (n : ℕ). allows seen (pos n)) same ∙ new)

-- ---- one name is read

-- the name of a member was read that was not seen: more are those that were seen, and this one
pub record IsRead (names : List (List ℕ)) (word : List ℕ) (place : ℕ) (seen more : Members) : Type 0 where
  pub known : AreNames names
  pub named : length names ≡ size_of seen
  pub found : slice_get names place ≡ Some word
  pub new : allows seen (pos place) ≡ false
  pub size : size_of more ≡ size_of seen
  pub values : (v : ℤ) → allows more v ≡ (allows seen v || int_eq (pos place) v)

pub is_read : (names : List (List ℕ)) (word : List ℕ) (place : ℕ) (seen more : Members) (old : Bool) → AreNames names → length names ≡ size_of seen
    → slice_get names place ≡ Some word → old ≡ allows seen (pos place) → old ≡ false → size_of more ≡ size_of seen
    → ((v : ℤ) → allows more v ≡ (allows seen v || int_eq (pos place) v)) → IsRead names word place seen more
is_read names word place seen more old known named found tested is size values =
    record { known = known; named = named; found = found; new = sym tested ∙ is; size = size; values = values }

-- a name that is found is at a place below the size
pub place_below : (names : List (List ℕ)) (word : List ℕ) (place : ℕ) (seen : Members) → length names ≡ size_of seen
    → slice_get names place ≡ Some word → place < size_of seen
place_below names word place seen named found = let inside : place < length names = slice_get_within names place word found in omega arith

read_below : (names : List (List ℕ)) (word : List ℕ) (place : ℕ) (seen more : Members) → IsRead names word place seen more → place < size_of seen
read_below names word place seen more read = place_below names word place seen read.named read.found

IsDistinct-nil : (e : ℕ → ℕ → Bool) → IsDistinct e []
unfolding IsDistinct
IsDistinct-nil e = tt

-- places are distinguished like numbers
same_as_number : (a b : ℕ) → int_eq (pos a) (pos b) ≡ nat_eq a b
same_as_number a b = same_from_decides (int_eq (pos a) (pos b)) (nat_eq a b) (Decides-like _ (λ e. cc) (λ e. ap pos e) (Decides-int_eq (pos a) (pos b))) (Decides-eqb a b)

-- what is not among more was not seen, and is another place
apart_from_more : (names : List (List ℕ)) (word : List ℕ) (place : ℕ) (seen more : Members) (other : ℕ) → IsRead names word place seen more
    → allows more (pos other) ≡ false → (allows seen (pos other) ≡ false) × (nat_eq place other ≡ false)
apart_from_more names word place seen more other read none =
    let (old, differs) = or_parts (allows seen (pos other)) (int_eq (pos place) (pos other)) (sym (read.values (pos other)) ∙ none) in
    (old, sym (same_as_number place other) ∙ differs)

-- another place that was not seen is not among more
more_from_apart : (names : List (List ℕ)) (word : List ℕ) (place : ℕ) (seen more : Members) (other : ℕ) → IsRead names word place seen more
    → allows seen (pos other) ≡ false → nat_eq place other ≡ false → allows more (pos other) ≡ false
more_from_apart names word place seen more other read old differs =
    read.values (pos other) ∙ ap (λ (b : Bool). b || int_eq (pos place) (pos other)) old ∙ same_as_number place other ∙ differs

-- one name is a row
pub one_name_adds : (names : List (List ℕ)) (word : List ℕ) (place : ℕ) (seen more : Members) → IsRead names word place seen more → AddsPlaces names word seen more
one_name_adds names word place seen more read = record {
  places = place ∷ [];
  named = record {
    are_places = record {
      some = omega arith;
      there = All-cons (λ p. p < size_of seen) place [] (read_below names word place seen more read) (All-nil (λ p. p < size_of seen));
      once = IsDistinct-cons nat_eq place [] tt (IsDistinct-nil nat_eq);
    };
    text_is = sym (get_or_from_slice_get names place word [] read.found);
    apart = All-cons (λ p. allows seen (pos p) ≡ false) place [] read.new (All-nil (λ p. allows seen (pos p) ≡ false));
  };
  size = read.size;
  values = λ v. read.values v ∙ ap (λ (b : Bool). allows seen v || b) (sym (or-false (int_eq (pos place) v)));
}

row_of_more : (names : List (List ℕ)) (place : ℕ) (places : List ℕ) → 0 < length places
    → row_of names (place ∷ places) ≡ name_at names place ++ (44 ∷ row_of names places)
row_of_more names place [] some = absurd (omega arith)
row_of_more names place (q ∷ places) some = refl

-- the place that was read, and those of a row of others, are places
places_of_more : (names : List (List ℕ)) (word rest : List ℕ) (place : ℕ) (seen more : Members) (others : List ℕ) → IsRead names word place seen more
    → NamesApart names rest more others → ArePlaces (size_of seen) (place ∷ others)
places_of_more names word rest place seen more others read row = record {
  some = omega arith;
  there = All-cons (λ p. p < size_of seen) place others (read_below names word place seen more read)
      (subst (λ (s : ℕ). All (λ p. p < s) others) read.size row.are_places.there);
  once = IsDistinct-cons nat_eq place others
      (recursion_from_All (λ p. nat_eq place p ≡ false) others (λ k d inside. (apart_from_more names word place seen more (get_or others k d) read (row.apart k d inside)).1))
      row.are_places.once;
}

-- a name, a comma and a row are a row
pub name_and_row_add : (names : List (List ℕ)) (text word rest : List ℕ) (place : ℕ) (seen more part : Members) → IsRead names word place seen more
    → text ≡ word ++ (44 ∷ rest) → AddsPlaces names rest more part → AddsPlaces names text seen part
name_and_row_add names text word rest place seen more part read is adds =
    let others : List ℕ = adds.places in
    let first : word ≡ name_at names place = sym (get_or_from_slice_get names place word [] read.found) in
    let row : row_of names (place ∷ others) ≡ name_at names place ++ (44 ∷ row_of names others) = row_of_more names place others adds.named.are_places.some in
    let behind : rest ≡ row_of names others = adds.named.text_is in
    record {
      places = place ∷ others;
      named = record {
        are_places = places_of_more names word rest place seen more others read adds.named;
        text_is = cc;
        apart = All-cons (λ p. allows seen (pos p) ≡ false) place others read.new
            (λ k d inside. (apart_from_more names word place seen more (get_or others k d) read (adds.named.apart k d inside)).0);
      };
      size = adds.size ∙ read.size;
      values = λ v. adds.values v ∙ ap (λ (b : Bool). b || is_one_of others v) (read.values v) ∙ or_assoc (allows seen v) (int_eq (pos place) v) (is_one_of others v);
    }

-- what comes after the first place of a row is a row of others
row_behind : (names : List (List ℕ)) (text word rest : List ℕ) (place : ℕ) (seen more : Members) (places : List ℕ) → IsRead names word place seen more
    → NamesApart names text seen (place ∷ places) → 0 < length places → rest ≡ row_of names places → NamesApart names rest more places
row_behind names text word rest place seen more places read row some is = record {
  are_places = record {
    some = some;
    there = subst (λ (s : ℕ). All (λ p. p < s) places) (sym read.size) (All-tail (λ p. p < size_of seen) place places row.are_places.there);
    once = IsDistinct-tail nat_eq place places row.are_places.once;
  };
  text_is = is;
  apart = λ k d inside. more_from_apart names word place seen more (get_or places k d) read
      (All-tail (λ p. allows seen (pos p) ≡ false) place places row.apart k d inside)
      (All-from_recursion (λ p. nat_eq place p ≡ false) places (IsDistinct-head nat_eq place places row.are_places.once) k d inside);
}

-- a row of members that were not seen, which goes on behind a name, goes on with a row of others
rest_is_row : (names : List (List ℕ)) (text word rest : List ℕ) (place : ℕ) (seen more : Members) (places : List ℕ) → IsRead names word place seen more
    → HasNoComma word → text ≡ word ++ (44 ∷ rest) → NamesApart names text seen places → (others : List ℕ) × NamesApart names rest more others
rest_is_row names text word rest place seen more [] read clear is row = let some : 0 < 0 = row.are_places.some in absurd (omega arith)
rest_is_row names text word rest place seen more (p ∷ []) read clear is row =
    absurd (no_cut 44 (name_at names p) word rest (name_no_comma names p read.known (first_inside names text seen p [] read.named row)) (sym row.text_is ∙ is))
rest_is_row names text word rest place seen more (p ∷ q ∷ places) read clear is row =
    let inside : p < length names = first_inside names text seen p (q ∷ places) read.named row in
    let (first, left) = one_cut 44 word rest (name_at names p) (row_of names (q ∷ places)) clear (name_no_comma names p read.known inside) (sym is ∙ row.text_is) in
    let same : p ≡ place = one_place names p place read.known inside (slice_get_within names place word read.found)
    (sym first ∙ sym (get_or_from_slice_get names place word [] read.found)) in (
      q ∷ places,
      row_behind names text word rest place seen more (q ∷ places) read
          (subst (λ (n : ℕ). NamesApart names text seen (n ∷ q ∷ places)) same row) (omega arith) left,
    )

-- if no row of others comes after a name, there is no row
pub no_row_behind : (names : List (List ℕ)) (text word rest : List ℕ) (place : ℕ) (seen more : Members) → IsRead names word place seen more
    → HasNoComma word → text ≡ word ++ (44 ∷ rest) → ((others : List ℕ) → NamesApart names rest more others → ⊥)
    → (places : List ℕ) → NamesApart names text seen places → ⊥
no_row_behind names text word rest place seen more read clear is none places row =
    let (others, left) = rest_is_row names text word rest place seen more places read clear is row in
    none others left
