-- A line has at most one reading.
use Rattle.std.proofs.Common.{◌≡◌, ℕ, ◌<◌, ◌≤◌, true, false, List, [], ◌∷◌, length, Option, Some, None, inl, inr, refl, sym, ap, ◌∙◌, subst, arith}
use Rattle.std.specs.List.{list_all}
use Rattle.pw_info.specs.declared.info.Info.{Info}
use Rattle.pw_info.specs.declared.kind.Kind.TheVariants as kinds
use Rattle.pw_info.specs.SetNames.{IsNamed}
use Rattle.pw_info.specs.Spelling.{SpellsInfo}
use Rattle.pw_info.proofs.Spellings.{one_info}
use Rattle.pw_procs.specs.Registering.{place_of_name}
use Rattle.pw_sessions.specs.declared.command.Command.{Command}
use Rattle.pw_sessions.specs.declared.command.Command.TheVariants as commands
use Rattle.pw_facts.specs.declared.fact.Fact.{Fact}
use Rattle.pw_sessions.specs.declared.reply.Refusal.{Refusal}
use Rattle.pw_sessions.specs.declared.reply.Refusal.TheVariants as refusal
use Rattle.pw_info.specs.Lines.{IsFirstIn, HoldsOfNone}
use Rattle.pw_decl.specs.declared.step.Callable.{Callable}
use Rattle.pw_decl.specs.Declaration.{Declared, kind_at, members_of}
use Rattle.pw_decl.specs.WellDeclared.{IsWellDeclared}
use Rattle.pw_transcript.specs.Sentence.{Said, Tell, Attach, Believe, Doubt, Beliefs, Ask, Why, Choose, Conflicts, Other, Sentence}
use Rattle.pw_transcript.specs.inside.Forms.{sentence_form}
use Rattle.pw_info.specs.Words.{words_of, is_idle, is_allowed}
use Rattle.pw_transcript.specs.Reading.{IsUnrefused, premises_of, premise_groups, cells_named, MeansFor, Means, HasAnothersPremise, RefusalAppliesTo, IsRefusedWith, sentence_refusals, SaysSentence, RefusalAppliesToLine, RefusalApplies, line_refusals, Reads}
use Rattle.pw_sessions.specs.Reply.{LineReading, Blank, Refused, Says}
use Rattle.pw_info.proofs.FirstLemmas.{one_first, none_is_first, IsFirstIn-from, HoldsOfNone-from}
use Rattle.pw_decl.proofs.Places.{place_of_name-lt}
use Rattle.pw_transcript.specs.inside.Resolving.{IsFree, RefusalAppliesToSaid, said_refusals, IsRefusedFor}
use Rattle.pw_transcript.proofs.CellLists.{same_arguments}
use Rattle.pw_transcript.proofs.HeldGroups.{same_groups}
use Rattle.pw_transcript.proofs.SentenceLemmas.{one_sentence, given, found}

-- a place is one number
one_place : (o : Option ℕ) (m n : ℕ) → o ≡ Some m → o ≡ Some n → m ≡ n
one_place o m n p q = cc

-- a callable is one callable
one_callable : (o : Option Callable) (f g : Callable) → o ≡ Some f → o ≡ Some g → f ≡ g
one_callable o f g p q = cc

-- the kind of a cell that a word names has its names
pub named_cell : (d : Declared) (word : List ℕ) (cell : ℕ) → IsWellDeclared d → place_of_name d.cells word ≡ Some cell → IsNamed (members_of d) (kind_at d cell)
named_cell d word cell limits at =
    let below : cell < length d.cells = place_of_name-lt d.cells word cell at in
    limits.known cell kinds.Interval (omega (arith, limits.kinds))

-- what a user says means one command
one_meaning_for : (d : Declared) (user : ℕ) (said : Said) (a b : Command) → IsWellDeclared d → MeansFor d user said a → MeansFor d user said b → a ≡ b
one_meaning_for d user (Tell cell info premises) a b limits (c, i, at_c, spelled, e) (c', i', at_c', spelled', e') =
    let same_cell : c ≡ c' = one_place _ c c' at_c at_c' in
    let same_info : i ≡ i' = one_info (members_of d) info (kind_at d c) i i' limits.named (named_cell d cell c limits at_c) spelled (subst (λ (x : ℕ). SpellsInfo (members_of d) info (kind_at d x) i') (sym same_cell) spelled') in
    let fact : Info → Fact = λ x. record { info = x; support = premises_of d premises } in
    e ∙ ap (λ x. commands.Tell user x (fact i)) same_cell ∙ ap (λ x. commands.Tell user c' (fact x)) same_info ∙ sym e'
one_meaning_for d user (Attach callable cells premises) a b limits (f, x, at_f, known, held, takes, e) (f', x', at_f', known', held', takes', e') =
    let same_callable : f ≡ f' = one_callable _ f f' at_f at_f' in
    let same_cells : x ≡ x' = same_arguments x x' (cells_named d cells) held held' in
    e ∙ ap (λ c. commands.Attach user c x (premises_of d premises)) same_callable ∙ ap (λ c. commands.Attach user f' c (premises_of d premises)) same_cells ∙ sym e'
one_meaning_for d user (Believe premises) a b limits e e' = e ∙ sym e'
one_meaning_for d user (Doubt premises) a b limits e e' = e ∙ sym e'
one_meaning_for d user Beliefs a b limits e e' = e ∙ sym e'
one_meaning_for d user (Ask cell) a b limits (c, at_c, e) (c', at_c', e') = e ∙ ap (λ x. commands.Ask user x) (one_place _ c c' at_c at_c') ∙ sym e'
one_meaning_for d user (Why cell) a b limits (c, at_c, e) (c', at_c', e') = e ∙ ap (λ x. commands.Why user x) (one_place _ c c' at_c at_c') ∙ sym e'
one_meaning_for d user Conflicts a b limits e e' = e ∙ sym e'
one_meaning_for d user (Choose groups) a b limits (held, in_held, e) (held', in_held', e') =
    e ∙ ap (λ x. commands.Choose user x) (same_groups held held' (premise_groups d groups) in_held in_held') ∙ sym e'
one_meaning_for d user Other a b limits p q = absurd p

-- a sentence means one command
pub one_meaning : (d : Declared) (s : Sentence) (a b : Command) → IsWellDeclared d → Means d s a → Means d s b → a ≡ b
one_meaning d s a b limits (u, at_u, means) (u', at_u', means') =
    let same : u' ≡ u = one_place _ u' u at_u' at_u in
    one_meaning_for d u s.said a b limits means (subst (λ (x : ℕ). MeansFor d x s.said b) same means')

one_sentence_said : (line : List ℕ) (s t : Sentence) → SaysSentence line s → SaysSentence line t → s ≡ t
one_sentence_said line s t p q = one_sentence (words_of line) s t p.2 q.2

idle_says_none : (line : List ℕ) (s : Sentence) → is_idle line ≡ true → SaysSentence line s → ⊥
idle_says_none line s idle says = let spoken : is_idle line ≡ false = says.0 in cc

-- what holds of nothing holds of none of a list
none_holds : {A : Type 0} (P : A → Type 0) → ((x : A) → P x → ⊥) → (xs : List A) → HoldsOfNone P xs
none_holds P none [] = tt
none_holds P none (x ∷ xs) = (none x, none_holds P none xs)

-- no refusal applies to a blank line that is short enough
pub blank_none : (d : Declared) (line : List ℕ) → length line ≤ 1024 → is_idle line ≡ true → HoldsOfNone (RefusalApplies d line) line_refusals
blank_none d line short idle =
    let none : HoldsOfNone (RefusalAppliesToLine d line) sentence_refusals =
    none_holds (RefusalAppliesToLine d line) (λ r h. idle_says_none line h.0 idle h.1) sentence_refusals in
    (λ long. absurd (omega arith), ((λ h. let spoken : is_idle line ≡ false = h.0 in cc), none))

pub one_reading : (d : Declared) (line : List ℕ) (a b : LineReading) → IsWellDeclared d → Reads d line a → Reads d line b → a ≡ b
one_reading d line Blank Blank limits p q = refl
one_reading d line Blank (Refused r) limits p q = absurd (none_is_first (RefusalApplies d line) line_refusals r (blank_none d line p.0 p.1) q)
one_reading d line Blank (Says c) limits p (none, (s, says, means)) = absurd (idle_says_none line s p.1 says)
one_reading d line (Refused r) Blank limits p q = absurd (none_is_first (RefusalApplies d line) line_refusals r (blank_none d line q.0 q.1) p)
one_reading d line (Refused r) (Refused t) limits p q = ap Refused (one_first (RefusalApplies d line) line_refusals r t p q)
one_reading d line (Refused r) (Says c) limits p q = absurd (none_is_first (RefusalApplies d line) line_refusals r q.0 p)
one_reading d line (Says c) Blank limits (none, (s, says, means)) q = absurd (idle_says_none line s q.1 says)
one_reading d line (Says c) (Refused r) limits p q = absurd (none_is_first (RefusalApplies d line) line_refusals r p.0 q)
one_reading d line (Says c) (Says e) limits (none, (s, says, means)) (none', (t, says', means')) =
    let same : t ≡ s = one_sentence_said line t s says' says in
    ap Says (one_meaning d s c e limits means (subst (λ (x : Sentence). Means d x e) same means'))

-- ---- from what applies to what a user says to what applies to the sentence
module _ (d : Declared) (s : Sentence) (user : ℕ) (at : place_of_name d.users s.user ≡ Some user) where
  -- the user is known
  known_user : place_of_name d.users s.user ≡ None → ⊥
  known_user none = let e : None ≡ Some user = sym none ∙ at in cc

  -- a refusal that applies to what the user says applies to the sentence
  to_sentence : (r : Refusal) → RefusalAppliesToSaid d user s.said r → RefusalAppliesTo d s r
  to_sentence refusal.Syntax h = h
  to_sentence refusal.UnknownUser h = absurd h
  to_sentence refusal.UnknownCommand h = h
  to_sentence refusal.UnknownCell h = h
  to_sentence refusal.UnknownProcedure h = h
  to_sentence refusal.WrongArguments h = h
  to_sentence refusal.UnknownPremise h = h
  to_sentence refusal.NotYourPremise h = (user, at, h)
  to_sentence refusal.WrongInformation h = h
  to_sentence refusal.LineTooLong h = h
  to_sentence refusal.Memory h = h

  -- and one that applies to the sentence, if its user is known, applies to what is said
  from_sentence : (r : Refusal) → RefusalAppliesTo d s r → RefusalAppliesToSaid d user s.said r
  from_sentence refusal.Syntax h = h
  from_sentence refusal.UnknownUser h = absurd (known_user h)
  from_sentence refusal.UnknownCommand h = h
  from_sentence refusal.UnknownCell h = h
  from_sentence refusal.UnknownProcedure h = h
  from_sentence refusal.WrongArguments h = h
  from_sentence refusal.UnknownPremise h = h
  from_sentence refusal.NotYourPremise (other, at_other, h) =
      subst (λ (u : ℕ). HasAnothersPremise d u s.said) (one_place _ other user at_other at) h
  from_sentence refusal.WrongInformation h = h
  from_sentence refusal.LineTooLong h = h
  from_sentence refusal.Memory h = h

  -- the first refusal of what is said is that of the sentence
  pub first_of_sentence : (r : Refusal) → IsRefusedFor d user s.said r → IsRefusedWith d s r
  first_of_sentence r first =
      inr (known_user, IsFirstIn-from (RefusalAppliesToSaid d user s.said) (RefusalAppliesTo d s) to_sentence from_sentence said_refusals r first)

  -- what no refusal applies to is a sentence that none applies to
  pub free_sentence : IsFree d user s.said → IsUnrefused d s
  free_sentence free = (known_user, HoldsOfNone-from (RefusalAppliesToSaid d user s.said) (RefusalAppliesTo d s) from_sentence said_refusals free)

-- ---- from what applies to a sentence to what applies to the line that says it
module _ (d : Declared) (line : List ℕ) (s : Sentence) (short : length line ≤ 1024) (says : SaysSentence line s) where
  to_line : (r : Refusal) → RefusalAppliesTo d s r → RefusalAppliesToLine d line r
  to_line r h = (s, says, h)

  from_line : (r : Refusal) → RefusalAppliesToLine d line r → RefusalAppliesTo d s r
  from_line r (t, said, h) = let same : t ≡ s = one_sentence_said line t s said says in subst (λ (x : Sentence). RefusalAppliesTo d x r) same h

  not_long : 1024 < length line → ⊥
  not_long long = omega arith

  has_form : (is_idle line ≡ false) × ((sentence : Sentence) → SaysSentence line sentence → ⊥) → ⊥
  has_form h = h.1 s says

  pub none_of_line : HoldsOfNone (RefusalAppliesTo d s) sentence_refusals → HoldsOfNone (RefusalApplies d line) line_refusals
  none_of_line none = let rest : HoldsOfNone (RefusalAppliesToLine d line) sentence_refusals = HoldsOfNone-from (RefusalAppliesTo d s) (RefusalAppliesToLine d line) from_line sentence_refusals none in (not_long, (has_form, rest))

  pub first_of_line : (r : Refusal) → IsFirstIn (RefusalAppliesTo d s) sentence_refusals r → Reads d line (Refused r)
  first_of_line r first = let rest : IsFirstIn (RefusalAppliesToLine d line) sentence_refusals r = IsFirstIn-from (RefusalAppliesTo d s) (RefusalAppliesToLine d line) to_line from_line sentence_refusals r first in inr (not_long, inr (has_form, rest))

  pub says_of_line : (c : Command) → HoldsOfNone (RefusalAppliesTo d s) sentence_refusals → Means d s c → Reads d line (Says c)
  says_of_line c none means = (none_of_line none, (s, says, means))

pub not_none : (o : Option ℕ) (n : ℕ) → Some n ≡ o → o ≡ None → ⊥
not_none o n p q = let e : Some n ≡ None = p ∙ q in (cc)

-- a line that has no form
pub no_form : (d : Declared) (line : List ℕ) → length line ≤ 1024 → is_idle line ≡ false → sentence_form (words_of line) ≡ None → Reads d line (Refused refusal.Syntax)
no_form d line short spoken none = inr (λ long. absurd (omega arith), inl (refl, (spoken, λ s says. let e : sentence_form (words_of line) ≡ Some s = given (words_of line) s says.2 in cc)))

pub says_found : (line : List ℕ) (s : Sentence) → is_idle line ≡ false → list_all is_allowed line ≡ true → sentence_form (words_of line) ≡ Some s → SaysSentence line s
says_found line s spoken allowed e = (spoken, allowed, found (words_of line) s e)
