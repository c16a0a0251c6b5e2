-- Choosing among groups of premises: the first combination under which nothing is contradictory.
use Rattle.std.specs.Prelude.{ℕ, Bool, not, List, Option}
use Rattle.std.specs.List.{find, list_any}
use Rattle.pw_premises.specs.Premises.{Premises}
use Rattle.pw_decl.specs.Declaration.{Declared}
use Rattle.pw_reasons.specs.Combinations.{combinations_of, worldview_of}
use Rattle.pw_reasons.specs.SameInfo.{is_contradiction}
use Rattle.pw_sessions.specs.CellNames.{names_after}
use Rattle.pw_sessions.specs.Entries.{Entry}
use Rattle.pw_sessions.specs.Values.{value_by_name, visible_in}

-- if exactly these premises are believed, no declared cell is contradictory, and no inner cell of a
-- visible attachment
abbrev pub is_consistent : Declared → List Entry → Premises → Bool
is_consistent d entries believed =
    not (list_any (λ name. is_contradiction (value_by_name d (visible_in entries believed) name))
    (names_after d (visible_in entries believed)))

-- the first combination of the groups that is consistent, for a user with these beliefs
abbrev pub chosen_in : Declared → List Entry → Premises → List (List ℕ) → Option (List ℕ)
chosen_in d entries beliefs groups =
    find (λ taken. is_consistent d entries (worldview_of beliefs groups taken))
    (combinations_of groups)
