-- The names in the words of groups, as functions.
use Rattle.std.specs.Prelude.{◌==◌, ℕ, Bool, true, not, ◌&&◌, nat_le, List, [], ◌∷◌, length}
use Rattle.std.specs.Prelude.{Option, None, Some}
use Rattle.std.specs.List.{flat_map, list_all, list_any}
use Rattle.std.specs.Str.{bytes_eq}
use Rattle.pw_info.specs.GroupNames.{names_in}
use Rattle.pw_reasons.specs.Combinations.{groups_of}
use Rattle.pw_reasons.specs.Groups.{most_groups, most_in_a_group}
use Rattle.pw_reasons.specs.declared.groups.Groups.{Groups}

-- the names in all of the words
abbrev pub all_names : List (List ℕ) → List (List ℕ)
all_names words = flat_map names_in words

-- there is a byte
abbrev pub has_bytes : List ℕ → Bool
has_bytes name = not (length name == 0)

-- no name in the word is empty
abbrev pub is_group_word : List ℕ → Bool
is_group_word word = list_all has_bytes (names_in word)

-- at most four names are in the word
abbrev pub has_few_names : List ℕ → Bool
has_few_names word = nat_le (length (names_in word)) most_in_a_group

-- at most six words, and at most four names in each
abbrev pub are_few : List (List ℕ) → Bool
are_few words = nat_le (length words) most_groups && list_all has_few_names words

-- none of the names is equal to one after it
abbrev pub stand_once : List (List ℕ) → Bool
stand_once [] = true
stand_once (name ∷ names) = not (list_any (bytes_eq name) names) && stand_once names

-- the groups that are held, if any are
abbrev pub held_groups : Option Groups → List (List ℕ)
held_groups None = []
held_groups (Some groups) = groups_of groups
