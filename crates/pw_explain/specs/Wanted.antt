-- Names of the sort that a line of a transcript wanted, and the nearest of them.
use Rattle.std.specs.Prelude.{◌≡◌, [], ◌∷◌, List, ℕ, Option, None, codes, drop}
use Rattle.std.specs.Borrow.{Bor}
use Rattle.pw_info.specs.GroupNames.{names_in}
use Rattle.pw_info.specs.Words.{words_of}
use Rattle.pw_decl.specs.Declaration.{Declared}
use Rattle.pw_sessions.specs.declared.reply.Refusal.{Refusal}
use Rattle.pw_sessions.specs.declared.reply.Refusal.TheVariants as refusal
use Rattle.pw_explain.specs.declared.spot.Spot.{Spot}
use Rattle.pw_explain.specs.declared.spot.Spot.TheVariants as spots
use Rattle.pw_explain.specs.Near.{IsNearest}

-- the name has this number among those of the group, from 0
pub record IsNameAt (word : List ℕ) (number : ℕ) (name : List ℕ) : Type 0 where
  pub after : List (List ℕ)
  pub is : drop number (names_in word) ≡ name ∷ after

-- the nearest of these names to the first of the words; none if there is no word
abbrev pub IsNearestToFirst : List (List ℕ) → List (List ℕ) → Option (Bor (List ℕ)) → Type 0
IsNearestToFirst names [] near = near ≡ None
IsNearestToFirst names (word ∷ words) near = IsNearest word names near

-- the nearest of these names to the one of this number in the group that is the first of the words
abbrev pub IsNearestInGroup :
    List (List ℕ) → List (List ℕ) → ℕ → Option (Bor (List ℕ)) → Type 0
IsNearestInGroup names [] number near = near ≡ None
IsNearestInGroup names (word ∷ words) number near =
    IsNearestToFirst names (drop number (names_in word)) near

-- the nearest of these names to what is at the spot of the line: a word, or a name in a group; none if
-- there is nothing, or the spot is the line as a whole
abbrev pub IsNearestAtSpot : List (List ℕ) → List ℕ → Spot → Option (Bor (List ℕ)) → Type 0
IsNearestAtSpot names line (spots.Word number) near =
    IsNearestToFirst names (drop number (words_of line)) near
IsNearestAtSpot names line (spots.Name number name) near =
    IsNearestInGroup names (drop number (words_of line)) name near
IsNearestAtSpot names line spots.Byte near = near ≡ None
IsNearestAtSpot names line spots.Line near = near ≡ None

-- the words that name commands
abbrev pub commands : List (List ℕ)
commands =
    codes "tell" ∷ codes "attach" ∷ codes "believe" ∷ codes "doubt" ∷ codes "beliefs" ∷ codes "ask"
    ∷ codes "why" ∷ codes "conflicts" ∷ codes "choose" ∷ []

-- in a line with an unknown user, the near name is the nearest of the users; and so for commands, cells
-- and premises
abbrev pub IsWanted : Declared → Refusal → List ℕ → Spot → Option (Bor (List ℕ)) → Type 0
IsWanted d refusal.UnknownUser line spot near = IsNearestAtSpot d.users line spot near
IsWanted d refusal.UnknownCommand line spot near = IsNearestAtSpot commands line spot near
IsWanted d refusal.UnknownCell line spot near = IsNearestAtSpot d.cells line spot near
IsWanted d refusal.UnknownPremise line spot near = IsNearestAtSpot d.premises line spot near
IsWanted d refusal line spot near = Unit {0}
