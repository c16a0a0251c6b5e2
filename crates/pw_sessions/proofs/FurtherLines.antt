-- Entries, beliefs and replies of one more line.
use Rattle.std.proofs.Common.{◌≡◌, ℕ, suc, ◌+◌, List, [], ◌∷◌, ◌++◌, length, Option, refl, sym, ap, ◌∙◌, append-nil, append_assoc, arith}
use Rattle.pw_decl.specs.Declaration.{Declared}
use Rattle.pw_sessions.specs.Reply.{Reply}
use Rattle.pw_sessions.specs.Reply.{LineReading}
use Rattle.pw_sessions.specs.Entries.{entries_of, entries_from, entries_before}
use Rattle.pw_premises.specs.Premises.{Premises}
use Rattle.pw_sessions.specs.Beliefs.{all_premises, believed_after, beliefs_at, beliefs_from}
use Rattle.pw_sessions.specs.Answer.{reply_to, replies_after, replies_of}

-- ---- entries

-- lines from a number on leave the same entries with one more line, and its own
entries_from-snoc : (number : ℕ) (readings : List LineReading) (reading : LineReading) →
    entries_from number (readings ++ reading ∷ []) ≡ entries_from number readings ++ entries_of (number + length readings) reading
entries_from-snoc number [] reading = append-nil (entries_of number reading) ∙ ap (λ n. entries_of n reading) (omega arith)
entries_from-snoc number (first ∷ readings) reading =
    ap (λ es. entries_of number first ++ es) (entries_from-snoc (number + 1) readings reading)
    ∙ sym (append_assoc (entries_of number first) (entries_from (number + 1) readings) (entries_of (number + 1 + length readings) reading))
    ∙ ap (λ n. (entries_of number first ++ entries_from (number + 1) readings) ++ entries_of n reading) same
  where
    same : number + 1 + length readings ≡ number + length (first ∷ readings)
    same = omega arith

-- one more line leaves the entries that the lines before it left, and its own
pub entries_before-snoc : (readings : List LineReading) (reading : LineReading) →
    entries_before (readings ++ reading ∷ []) ≡ entries_before readings ++ entries_of (length readings + 1) reading
entries_before-snoc readings reading = entries_from-snoc 1 readings reading ∙ ap (λ n. entries_before readings ++ entries_of n reading) (omega arith)

-- ---- beliefs

-- the same after further lines, from any beliefs
beliefs_from-snoc : (d : Declared) (user : ℕ) (before : List LineReading) (beliefs : Premises) (readings : List LineReading) (reading : LineReading) →
    beliefs_from d user before beliefs (readings ++ reading ∷ [])
    ≡ believed_after d user (before ++ readings) (beliefs_from d user before beliefs readings) reading
beliefs_from-snoc d user before beliefs [] reading =
    ap (λ (rs : List LineReading). believed_after d user rs beliefs reading) (sym (append-nil before))
beliefs_from-snoc d user before beliefs (first ∷ readings) reading =
    beliefs_from-snoc d user (before ++ first ∷ []) (believed_after d user before beliefs first) readings reading
    ∙ ap (λ (rs : List LineReading). believed_after d user rs
    (beliefs_from d user (before ++ first ∷ []) (believed_after d user before beliefs first) readings) reading) (append_assoc before (first ∷ []) readings)

-- what a user believes after one more line: what the user believed before it, and what the line
-- changes of that
pub beliefs_at-snoc : (d : Declared) (user : ℕ) (readings : List LineReading) (reading : LineReading) →
    beliefs_at d user (readings ++ reading ∷ []) ≡ believed_after d user readings (beliefs_at d user readings) reading
beliefs_at-snoc d user readings reading = beliefs_from-snoc d user [] (all_premises d) readings reading

-- ---- replies

-- so it is after lines before
replies_after-snoc : (d : Declared) (before readings : List LineReading) (reading : LineReading) →
    replies_after d before (readings ++ reading ∷ []) ≡ replies_after d before readings ++ reply_to d (before ++ readings) reading ∷ []
replies_after-snoc d before [] reading = ap (λ (rs : List LineReading). reply_to d rs reading ∷ []) (sym (append-nil before))
replies_after-snoc d before (first ∷ readings) reading =
    ap (λ (rs : List (Option Reply)). reply_to d before first ∷ rs)
    (replies_after-snoc d (before ++ first ∷ []) readings reading
    ∙ ap (λ (rs : List LineReading). replies_after d (before ++ first ∷ []) readings ++ reply_to d rs reading ∷ []) (append_assoc before (first ∷ []) readings))

-- one more line gets its reply after those of the lines before it
pub replies_of-snoc : (d : Declared) (readings : List LineReading) (reading : LineReading) →
    replies_of d (readings ++ reading ∷ []) ≡ replies_of d readings ++ reply_to d readings reading ∷ []
replies_of-snoc d readings reading = replies_after-snoc d [] readings reading

-- there is a reply, or none, for each line
length-replies_after : (d : Declared) (before readings : List LineReading) → length (replies_after d before readings) ≡ length readings
length-replies_after d before [] = refl
length-replies_after d before (first ∷ readings) = ap suc (length-replies_after d (before ++ first ∷ []) readings)

-- each line has its place among the replies
pub length-replies_of : (d : Declared) (readings : List LineReading) → length (replies_of d readings) ≡ length readings
length-replies_of d readings = length-replies_after d [] readings
