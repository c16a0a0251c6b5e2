-- What is read of the words of a line, by the form of the command and by the user.
use Rattle.std.proofs.Common.{◌≡◌, ℕ, List, [], ◌∷◌, Option, None, Some, true, false, ◌≤◌, length, refl, sym, ap, ◌∙◌, subst, inl}
use Rattle.std.specs.Prelude.{Result, Ok, Err, codes, option_map}
use Rattle.std.specs.Str.{bytes_eq}
use Rattle.std.proofs.lemmas.Slice.Eq.{bytes_eq-Decides}
use Rattle.pw_decl.specs.Declaration.{Declared}
use Rattle.pw_procs.specs.Registering.{place_of_name}
use Rattle.pw_sessions.specs.declared.command.Command.{Command}
use Rattle.pw_sessions.specs.declared.reply.Refusal.{Refusal}
use Rattle.pw_sessions.specs.declared.reply.Refusal.TheVariants as refusal
use Rattle.pw_transcript.specs.Sentence.{Said, Ask, Sentence}
use Rattle.std.specs.List.{list_all}
use Rattle.pw_info.specs.Words.{words_of, is_idle, is_allowed}
use Rattle.pw_sessions.specs.Reply.{Refused, Says}
use Rattle.pw_transcript.specs.Reading.{Reads}
use Rattle.pw_transcript.specs.inside.Forms.{cell_form, said_form, sentence_by, sentence_form, tell_form}
use Rattle.pw_transcript.specs.inside.Resolving.{IsReadFor, IsReadOf, IsReadAs, IsSpoken}
use Rattle.pw_transcript.specs.inside.Answering.{ReadsAs, ReadsHeld}
use Rattle.pw_transcript.proofs.ReadingLemmas.{first_of_line, first_of_sentence, free_sentence, no_form, says_found, says_of_line}

-- words that fit no form are bad syntax
pub spoken_none : (d : Declared) (user : List ℕ) (form : Option Said) → None ≡ form → IsReadAs d (option_map (sentence_by user) form) (Err refusal.Syntax)
spoken_none d user form none = subst (λ (f : Option Said). IsReadAs d (option_map (sentence_by user) f) (Err refusal.Syntax)) none refl

-- of words that fit one, an unknown user is the first refusal
pub spoken_unknown : (d : Declared) (user : List ℕ) (form : Option Said) (said : Said) → Some said ≡ form → None ≡ place_of_name d.users user →
    IsReadAs d (option_map (sentence_by user) form) (Err refusal.UnknownUser)
spoken_unknown d user form said is none =
    subst (λ (f : Option Said). IsReadAs d (option_map (sentence_by user) f) (Err refusal.UnknownUser)) is
    (record { ok = tt; none = tt; err = inl (refl, sym none) })

known : (d : Declared) (user : List ℕ) (said : Said) (u : ℕ) (read : Result Command Refusal) → Some u ≡ place_of_name d.users user →
    IsReadFor d u said read → IsReadOf d (sentence_by user said) read
known d user said u (Ok command) at own = record { ok = (u, sym at, own.ok); none = free_sentence d (sentence_by user said) u (sym at) own.none; err = tt }
known d user said u (Err r) at own = record { ok = tt; none = tt; err = first_of_sentence d (sentence_by user said) u (sym at) r own.err }

-- for a known user it is what the words of this user mean, or their first refusal
pub spoken_known : (d : Declared) (user : List ℕ) (form : Option Said) (said : Said) (u : ℕ) (read : Result Command Refusal) → Some said ≡ form →
    Some u ≡ place_of_name d.users user → IsReadFor d u said read → IsReadAs d (option_map (sentence_by user) form) read
spoken_known d user form said u read is at own =
    subst (λ (f : Option Said). IsReadAs d (option_map (sentence_by user) f) read) is (known d user said u read at own)

-- ---- from the words of a line to the line

-- a line whose words are read as a command says it
pub line_says : (d : Declared) (line : List ℕ) (form : Option Sentence) (command : Command) → length line ≤ 1024 → is_idle line ≡ false → list_all is_allowed line ≡ true →
    sentence_form (words_of line) ≡ form → IsReadAs d form (Ok command) → Reads d line (Says command)
line_says d line None command short spoken allowed is read = absurd (cc)
line_says d line (Some s) command short spoken allowed is read =
    says_of_line d line s short (says_found line s spoken allowed is) command read.none read.ok

-- and one whose words are refused is refused
pub line_refused : (d : Declared) (line : List ℕ) (form : Option Sentence) (r : Refusal) → length line ≤ 1024 → is_idle line ≡ false → list_all is_allowed line ≡ true →
    sentence_form (words_of line) ≡ form → IsReadAs d form (Err r) → Reads d line (Refused r)
line_refused d line None r short spoken allowed is read =
    let same : refusal.Syntax ≡ r = cc in
    subst (λ (x : Refusal). Reads d line (Refused x)) same (no_form d line short spoken is)
line_refused d line (Some s) r short spoken allowed is read =
    first_of_line d line s short (says_found line s spoken allowed is) r read.err

-- the same, of the words of a line that says something
pub spoken_says : (d : Declared) (line : List ℕ) (words : List (List ℕ)) (command : Command) → IsSpoken line words → IsReadAs d (sentence_form words) (Ok command) → Reads d line (Says command)
spoken_says d line words command spoken read =
    line_says d line (sentence_form words) command spoken.short spoken.spoken spoken.allowed (ap sentence_form (sym spoken.words_are)) read

pub spoken_refused : (d : Declared) (line : List ℕ) (words : List (List ℕ)) (r : Refusal) → IsSpoken line words → IsReadAs d (sentence_form words) (Err r) → Reads d line (Refused r)
spoken_refused d line words r spoken read =
    line_refused d line (sentence_form words) r spoken.short spoken.spoken spoken.allowed (ap sentence_form (sym spoken.words_are)) read

-- so a line that is held reads as this is read of its words
pub held_reads : (d : Declared) (line : List ℕ) (words : List (List ℕ)) → IsSpoken line words → ReadsAs d (sentence_form words) (Some line)
held_reads d line words spoken (Ok command) read = spoken_says d line words command spoken read
held_reads d line words spoken (Err r) read = spoken_refused d line words r spoken read

-- ---- from the words of a line to those of its command

-- no word, and a single one, are bad syntax
pub no_words : (d : Declared) (words : List (List ℕ)) (held : Option (List ℕ)) → words ≡ [] → ReadsAs d (sentence_form words) held → ReadsHeld d held (Refused refusal.Syntax)
no_words d words held none reads = reads (Err refusal.Syntax) (subst (λ (l : List (List ℕ)). IsReadAs d (sentence_form l) (Err refusal.Syntax)) (sym none) refl)

pub one_word : (d : Declared) (words rest : List (List ℕ)) (user : List ℕ) (held : Option (List ℕ)) → words ≡ user ∷ rest → rest ≡ [] → ReadsAs d (sentence_form words) held →
    ReadsHeld d held (Refused refusal.Syntax)
one_word d words rest user held is none reads =
    let one : words ≡ user ∷ [] = is ∙ ap (λ (l : List (List ℕ)). user ∷ l) none in
    reads (Err refusal.Syntax) (subst (λ (l : List (List ℕ)). IsReadAs d (sentence_form l) (Err refusal.Syntax)) (sym one) refl)

-- of two or more the first is the user, and the second names the command
pub named_words : (d : Declared) (words rest after : List (List ℕ)) (user name : List ℕ) (held : Option (List ℕ)) → words ≡ user ∷ rest → rest ≡ name ∷ after →
    ReadsAs d (sentence_form words) held → ReadsAs d (option_map (sentence_by user) (said_form name after)) held
named_words d words rest after user name held is then reads =
    let all : words ≡ user ∷ name ∷ after = is ∙ ap (λ (l : List (List ℕ)). user ∷ l) then in
    subst (λ (l : List (List ℕ)). ReadsAs d (sentence_form l) held) all reads

-- the word `tell`, and the word `ask`, before these words
pub told_words : (d : Declared) (user name : List ℕ) (rest : List (List ℕ)) (held : Option (List ℕ)) → bytes_eq name (codes "tell") ≡ true →
    ReadsAs d (option_map (sentence_by user) (said_form name rest)) held → ReadsAs d (option_map (sentence_by user) (tell_form rest)) held
told_words d user name rest held is reads =
    subst (λ (n : List ℕ). ReadsAs d (option_map (sentence_by user) (said_form n rest)) held) ((bytes_eq-Decides name (codes "tell")).0 is) reads

pub asked_words : (d : Declared) (user name : List ℕ) (rest : List (List ℕ)) (held : Option (List ℕ)) → bytes_eq name (codes "ask") ≡ true →
    ReadsAs d (option_map (sentence_by user) (said_form name rest)) held → ReadsAs d (option_map (sentence_by user) (cell_form Ask rest)) held
asked_words d user name rest held is reads =
    subst (λ (n : List ℕ). ReadsAs d (option_map (sentence_by user) (said_form n rest)) held) ((bytes_eq-Decides name (codes "ask")).0 is) reads
