-- Refused lines leave what blank lines leave: nothing.
use Rattle.std.proofs.Common.{◌≡◌, ℕ, ◌+◌, List, [], ◌∷◌, ◌++◌, map, eqb, if◌then◌else◌, Some, refl, sym, ap, ◌∙◌}
use Rattle.std.proofs.lemmas.List.{map_push}
use Rattle.pw_sessions.specs.declared.reply.Refusal.{Refusal}
use Rattle.pw_decl.specs.Declaration.{Declared}
use Rattle.pw_premises.specs.Premises.{Premises}
use Rattle.pw_sessions.specs.Reply.{LineReading, Blank, Refused, Says}
use Rattle.pw_sessions.specs.Entries.{Entry, entries_of, entries_from, entries_before}
use Rattle.pw_sessions.specs.Beliefs.{after_choice, believed_after, beliefs_at, beliefs_from}
use Rattle.pw_sessions.specs.Choosing.{chosen_in}
use Rattle.pw_sessions.specs.declared.command.Command.TheVariants as commands
use Rattle.pw_reasons.specs.Combinations.{groups_of}
use Rattle.pw_sessions.specs.Answer.{answer_to, user_of, reply_to, replies_after}

-- a reading with a refusal taken for a blank line
abbrev pub unrefused : LineReading → LineReading
unrefused Blank = Blank
unrefused (Refused refusal) = Blank
unrefused (Says command) = Says command

-- a line like this leaves the same entries
entries_of-unrefused : (number : ℕ) (reading : LineReading) → entries_of number (unrefused reading) ≡ entries_of number reading
entries_of-unrefused number Blank = refl
entries_of-unrefused number (Refused refusal) = refl
entries_of-unrefused number (Says command) = refl

-- and so do lines
entries_from-unrefused : (number : ℕ) (readings : List LineReading) → entries_from number (map unrefused readings) ≡ entries_from number readings
entries_from-unrefused number [] = refl
entries_from-unrefused number (reading ∷ readings) =
    ap (λ (es : List Entry). es ++ entries_from (number + 1) (map unrefused readings)) (entries_of-unrefused number reading)
    ∙ ap (λ es. entries_of number reading ++ es) (entries_from-unrefused (number + 1) readings)

module _ (d : Declared) where
  -- a line like this leaves the same beliefs, after lines like this
  believed_after-unrefused : (user : ℕ) (before : List LineReading) (beliefs : Premises) (reading : LineReading) →
      believed_after d user (map unrefused before) beliefs (unrefused reading) ≡ believed_after d user before beliefs reading
  believed_after-unrefused user before beliefs Blank = refl
  believed_after-unrefused user before beliefs (Refused refusal) = refl
  believed_after-unrefused user before beliefs (Says (commands.Tell other cell fact)) = refl
  believed_after-unrefused user before beliefs (Says (commands.Attach other callable cells support)) = refl
  believed_after-unrefused user before beliefs (Says (commands.Believe other premises)) = refl
  believed_after-unrefused user before beliefs (Says (commands.Doubt other premises)) = refl
  believed_after-unrefused user before beliefs (Says (commands.Beliefs other)) = refl
  believed_after-unrefused user before beliefs (Says (commands.Ask other cell)) = refl
  believed_after-unrefused user before beliefs (Says (commands.Why other cell)) = refl
  believed_after-unrefused user before beliefs (Says (commands.Conflicts other)) = refl
  believed_after-unrefused user before beliefs (Says (commands.Choose other groups)) =
      ap (λ (es : List Entry). if eqb other user then after_choice beliefs (groups_of groups) (chosen_in d es beliefs (groups_of groups)) else beliefs)
      (entries_from-unrefused 1 before)

  -- and so do lines
  beliefs_from-unrefused : (user : ℕ) (before : List LineReading) (beliefs : Premises) (readings : List LineReading) →
      beliefs_from d user (map unrefused before) beliefs (map unrefused readings) ≡ beliefs_from d user before beliefs readings
  beliefs_from-unrefused user before beliefs [] = refl
  beliefs_from-unrefused user before beliefs (reading ∷ readings) =
      ap (λ (rs : List LineReading). beliefs_from d user rs (believed_after d user (map unrefused before) beliefs (unrefused reading)) (map unrefused readings))
      (sym (map_push unrefused before reading))
      ∙ ap (λ b. beliefs_from d user (map unrefused (before ++ reading ∷ [])) b (map unrefused readings)) (believed_after-unrefused user before beliefs reading)
      ∙ beliefs_from-unrefused user (before ++ reading ∷ []) (believed_after d user before beliefs reading) readings

  -- with earlier lines like this, a line keeps its reply
  reply_to-unrefused : (before : List LineReading) (reading : LineReading) → reply_to d (map unrefused before) reading ≡ reply_to d before reading
  reply_to-unrefused before Blank = refl
  reply_to-unrefused before (Refused refusal) = refl
  reply_to-unrefused before (Says command) =
      ap (λ es. Some (answer_to d es (beliefs_at d (user_of command) (map unrefused before)) command)) (entries_from-unrefused 1 before)
      ∙ ap (λ beliefs. Some (answer_to d (entries_before before) beliefs command)) (beliefs_from-unrefused (user_of command) [] _ before)

  -- readings before that differ in what was refused and what was blank make no difference to the
  -- replies after them
  replies_after-alike : (before other after : List LineReading) → map unrefused before ≡ map unrefused other → replies_after d before after ≡ replies_after d other after
  replies_after-alike before other [] e = refl
  replies_after-alike before other (reading ∷ after) e =
      ap (λ reply. reply ∷ replies_after d (before ++ reading ∷ []) after)
      (sym (reply_to-unrefused before reading) ∙ ap (λ (rs : List LineReading). reply_to d rs reading) e ∙ reply_to-unrefused other reading)
      ∙ ap (λ replies. reply_to d other reading ∷ replies)
      (replies_after-alike (before ++ reading ∷ []) (other ++ reading ∷ []) after
      (map_push unrefused before reading ∙ ap (λ (rs : List LineReading). rs ++ unrefused reading ∷ []) e ∙ sym (map_push unrefused other reading)))

  -- so a refused line counts as a blank one
  pub refused_is_blank : (before after : List LineReading) (refusal : Refusal) → replies_after d (before ++ Refused refusal ∷ []) after ≡ replies_after d (before ++ Blank ∷ []) after
  refused_is_blank before after refusal =
      replies_after-alike (before ++ Refused refusal ∷ []) (before ++ Blank ∷ []) after
      (map_push unrefused before (Refused refusal) ∙ sym (map_push unrefused before Blank))
