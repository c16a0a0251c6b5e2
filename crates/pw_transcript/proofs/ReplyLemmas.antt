-- Texts and readings of one more line, and the names that a line says.
use Rattle.std.proofs.Common.{◌≡◌, ℕ, suc, ◌+◌, ◌<◌, ◌≤◌, List, [], ◌∷◌, ◌++◌, length, Option, Some, None, Contains, refl, sym, ap, ◌∙◌, subst, inl, inr, append-nil, append_assoc, arith}
use Rattle.std.specs.List.{AllByRecursion}
use Rattle.std.proofs.lemmas.List.Elements.{All-from_recursion}
use Rattle.std.specs.Prelude.{All, if◌then◌else◌, is_some}
use Rattle.pw_sessions.specs.declared.command.Command.{Command}
use Rattle.pw_sessions.specs.Reply.{Reply}
use Rattle.pw_sessions.specs.declared.reply.Refusal.TheVariants as refusal
use Rattle.pw_decl.specs.Declaration.{Declared}
use Rattle.pw_transcript.specs.Sentence.{Said, Tell, Attach, Believe, Doubt, Beliefs, Ask, Why, Choose, Conflicts, Other}
use Rattle.pw_transcript.specs.Reading.{MeansFor, Reads, premise_groups}
use Rattle.pw_sessions.specs.Reply.{LineReading, Refused, Says}
use Rattle.pw_sessions.specs.Answer.{user_of, reply_to, replies_of}
use Rattle.pw_sessions.specs.Command.{NamesDeclared, IsDeclared}
use Rattle.pw_sessions.proofs.FurtherLines.{replies_of-snoc, length-replies_of}
use Rattle.pw_decl.proofs.CompoundLaws.{places_below}
use Rattle.pw_decl.proofs.Places.{place_of_name-lt}
use Rattle.pw_transcript.specs.ReplyText.{text_if_any, text_from, text_of_replies}
use Rattle.pw_transcript.specs.FromScratch.{ReadAs, ComesTo, FurtherLinesComeTo, LinesComeTo, count_of_replies}

-- ---- replies

text_from-snoc : (d : Declared) (number : ℕ) (replies : List (Option Reply)) (answer : Option Reply) →
    text_from d number (replies ++ answer ∷ []) ≡ text_from d number replies ++ text_if_any d (number + length replies) answer
text_from-snoc d number [] answer = append-nil (text_if_any d number answer) ∙ ap (λ n. text_if_any d n answer) (omega arith)
text_from-snoc d number (first ∷ replies) answer =
    ap (λ (bytes : List ℕ). text_if_any d number first ++ bytes) (text_from-snoc d (number + 1) replies answer)
    ∙ sym (append_assoc (text_if_any d number first) (text_from d (number + 1) replies) (text_if_any d (number + 1 + length replies) answer))
    ∙ ap (λ n. (text_if_any d number first ++ text_from d (number + 1) replies) ++ text_if_any d n answer) same
  where
    same : number + 1 + length replies ≡ number + length (first ∷ replies)
    same = omega arith

-- one more reply is written after those before it
pub text_of_replies-snoc : (d : Declared) (replies : List (Option Reply)) (answer : Option Reply) →
    text_of_replies d (replies ++ answer ∷ []) ≡ text_of_replies d replies ++ text_if_any d (length replies + 1) answer
text_of_replies-snoc d replies answer =
    text_from-snoc d 1 replies answer ∙ ap (λ n. text_of_replies d replies ++ text_if_any d n answer) (omega arith)

-- the text of the replies to one more line
pub text_of_replies_of-snoc : (d : Declared) (readings : List LineReading) (reading : LineReading) →
    text_of_replies d (replies_of d (readings ++ reading ∷ []))
    ≡ text_of_replies d (replies_of d readings) ++ text_if_any d (length readings + 1) (reply_to d readings reading)
text_of_replies_of-snoc d readings reading =
    ap (text_of_replies d) (replies_of-snoc d readings reading)
    ∙ text_of_replies-snoc d (replies_of d readings) (reply_to d readings reading)
    ∙ ap (λ n. text_of_replies d (replies_of d readings) ++ text_if_any d (n + 1) (reply_to d readings reading)) (length-replies_of d readings)

-- one more reply is counted, a line with none is not
pub count_of_replies-snoc : (replies : List (Option Reply)) (answer : Option Reply) →
    count_of_replies (replies ++ answer ∷ []) ≡ count_of_replies replies + (if is_some answer then 1 else 0)
count_of_replies-snoc [] None = refl
count_of_replies-snoc [] (Some answer) = refl
count_of_replies-snoc (None ∷ replies) answer = count_of_replies-snoc replies answer
count_of_replies-snoc (Some first ∷ replies) answer = let e = count_of_replies-snoc replies answer in omega arith

pub count_of_replies_of-snoc : (d : Declared) (readings : List LineReading) (reading : LineReading) →
    count_of_replies (replies_of d (readings ++ reading ∷ []))
    ≡ count_of_replies (replies_of d readings) + (if is_some (reply_to d readings reading) then 1 else 0)
count_of_replies_of-snoc d readings reading =
    ap count_of_replies (replies_of-snoc d readings reading) ∙ count_of_replies-snoc (replies_of d readings) (reply_to d readings reading)

-- there are at most as many replies as lines
count_le_length : (replies : List (Option Reply)) → count_of_replies replies ≤ length replies
count_le_length [] = omega arith
count_le_length (None ∷ replies) = let h = count_le_length replies in omega arith
count_le_length (Some first ∷ replies) = let h = count_le_length replies in omega arith

pub count_of_replies_of-le : (d : Declared) (readings : List LineReading) → count_of_replies (replies_of d readings) ≤ length readings
count_of_replies_of-le d readings = omega (arith, count_le_length (replies_of d readings), length-replies_of d readings)

-- ---- lines and readings

-- one more line and the reading that it gets
FurtherLinesComeTo-snoc : (d : Declared) (before : List LineReading) (lines : List (List ℕ)) (readings : List LineReading) (line : List ℕ) (reading : LineReading) →
    FurtherLinesComeTo d before lines readings → ComesTo d (before ++ readings) line reading → FurtherLinesComeTo d before (lines ++ line ∷ []) (readings ++ reading ∷ [])
FurtherLinesComeTo-snoc d before [] [] line reading all one = (subst (λ (rs : List LineReading). ComesTo d rs line reading) (append-nil before) one, tt)
FurtherLinesComeTo-snoc d before (other ∷ lines) (first ∷ readings) line reading all one = (
  all.0,
  FurtherLinesComeTo-snoc d (before ++ first ∷ []) lines readings line reading all.1
      (subst (λ (rs : List LineReading). ComesTo d rs line reading) (sym (append_assoc before (first ∷ []) readings)) one),
)
FurtherLinesComeTo-snoc d before [] (first ∷ readings) line reading all one = absurd all
FurtherLinesComeTo-snoc d before (other ∷ lines) [] line reading all one = absurd all

pub LinesComeTo-snoc : (d : Declared) (lines : List (List ℕ)) (readings : List LineReading) (line : List ℕ) (reading : LineReading) →
    LinesComeTo d lines readings → ComesTo d readings line reading → LinesComeTo d (lines ++ line ∷ []) (readings ++ reading ∷ [])
LinesComeTo-snoc d lines readings line reading all one = FurtherLinesComeTo-snoc d [] lines readings line reading all one

-- each line gets one reading
length-FurtherLinesComeTo : (d : Declared) (before : List LineReading) (lines : List (List ℕ)) (readings : List LineReading) →
    FurtherLinesComeTo d before lines readings → length lines ≡ length readings
length-FurtherLinesComeTo d before [] [] all = refl
length-FurtherLinesComeTo d before (line ∷ lines) (first ∷ readings) all = ap suc (length-FurtherLinesComeTo d (before ++ first ∷ []) lines readings all.1)
length-FurtherLinesComeTo d before [] (first ∷ readings) all = absurd all
length-FurtherLinesComeTo d before (line ∷ lines) [] all = absurd all

pub length-LinesComeTo : (d : Declared) (lines : List (List ℕ)) (readings : List LineReading) → LinesComeTo d lines readings → length lines ≡ length readings
length-LinesComeTo d lines readings all = length-FurtherLinesComeTo d [] lines readings all

-- a line gets its own reading, unless it is refused because memory ran out
Reads-from_ComesTo : (d : Declared) (before : List LineReading) (line : List ℕ) (reading : LineReading) → ComesTo d before line reading →
    (reading ≡ Refused refusal.Memory → ⊥) → Reads d line reading
Reads-from_ComesTo d before line reading (inl reads) plain = reads
Reads-from_ComesTo d before line reading (inr refused) plain = absurd (plain refused.0)

-- lines get their own readings, if none is refused because memory ran out
ReadAs-from_FurtherLinesComeTo : (d : Declared) (before : List LineReading) (lines : List (List ℕ)) (readings : List LineReading) →
    FurtherLinesComeTo d before lines readings → (Contains readings (Refused refusal.Memory) → ⊥) → ReadAs d lines readings
ReadAs-from_FurtherLinesComeTo d before [] [] all plain = tt
ReadAs-from_FurtherLinesComeTo d before (line ∷ lines) (first ∷ readings) all plain = (
  Reads-from_ComesTo d before line first all.0 (λ e. plain (0, omega arith, e)),
  ReadAs-from_FurtherLinesComeTo d (before ++ first ∷ []) lines readings all.1 (λ (k, within, e). plain (suc k, omega arith, e)),
)
ReadAs-from_FurtherLinesComeTo d before [] (first ∷ readings) all plain = absurd all
ReadAs-from_FurtherLinesComeTo d before (line ∷ lines) [] all plain = absurd all

pub ReadAs-from_ComeTo : (d : Declared) (lines : List (List ℕ)) (readings : List LineReading) → LinesComeTo d lines readings →
    (Contains readings (Refused refusal.Memory) → ⊥) → ReadAs d lines readings
ReadAs-from_ComeTo d lines readings all plain = ReadAs-from_FurtherLinesComeTo d [] lines readings all plain

-- ---- names that a line says

module _ (d : Declared) where
  -- the premises that names name are declared
  below_each : (groups : List (List (List ℕ))) → AllByRecursion (All (λ premise. premise < length d.premises)) (premise_groups d groups)
  below_each [] = tt
  below_each (names ∷ groups) = (places_below d.premises names, below_each groups)

  groups_below : (groups : List (List (List ℕ))) → All (All (λ premise. premise < length d.premises)) (premise_groups d groups)
  groups_below groups = All-from_recursion (All (λ premise. premise < length d.premises)) (premise_groups d groups) (below_each groups)

  -- what a user means by what is said is declared
  MeansFor-cell : (user : ℕ) (said : Said) (command : Command) → MeansFor d user said command → (user_of command ≡ user) × NamesDeclared d command
  MeansFor-cell user (Tell cell_word info_word words) command (cell, info, at_cell, spells, is) = rw is (refl, (place_of_name-lt d.cells cell_word cell at_cell, spells.0))
  MeansFor-cell user (Attach callable_word cell_words words) command (callable, cells, at, known, held, takes, is) =
      rw is (refl, (subst (All (λ cell. cell < length d.cells)) (sym held.0) (places_below d.cells cell_words), takes))
  MeansFor-cell user (Believe words) command is = rw is (refl, tt)
  MeansFor-cell user (Doubt words) command is = rw is (refl, tt)
  MeansFor-cell user Beliefs command is = rw is (refl, tt)
  MeansFor-cell user (Ask cell_word) command (cell, at_cell, is) = rw is (refl, place_of_name-lt d.cells cell_word cell at_cell)
  MeansFor-cell user (Why cell_word) command (cell, at_cell, is) = rw is (refl, place_of_name-lt d.cells cell_word cell at_cell)
  MeansFor-cell user Conflicts command is = rw is (refl, tt)
  MeansFor-cell user (Choose groups) command (held, in_held, is) =
      rw is (refl, subst (All (All (λ premise. premise < length d.premises))) (sym in_held.0) (groups_below groups))
  MeansFor-cell user Other command means = absurd means

  -- a line that says a command names what is declared
  pub IsDeclared-from_Reads : (line : List ℕ) (command : Command) → Reads d line (Says command) → IsDeclared d (Says command)
  IsDeclared-from_Reads line command (none, (sentence, says, (user, at_user, means))) =
      let named = MeansFor-cell user sentence.said command means in
      (subst (λ (u : ℕ). u < length d.users) (sym named.0) (place_of_name-lt d.users sentence.user user at_user), named.1)
