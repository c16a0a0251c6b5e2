-- The result of a line that is held, or too long to be held.
use Rattle.std.proofs.Common.{◌≡◌, ℕ, ◌+◌, ◌<◌, ◌≤◌, nat_le, Bool, true, false, List, [], ◌∷◌, ◌++◌, length, Option, Result, Some, None, Ok, Err, refl, sym, ap, ◌∙◌, subst, inl, inr, append-nil, length-append, arith}
use Rattle.std.specs.Prelude.{All, IfSome, filter, is_some}
use Rattle.std.specs.List.{AllByRecursion, find, range_with_len}
use Rattle.std.proofs.lemmas.Bool.{cases_Bool, leb-false}
use Rattle.std.proofs.lemmas.List.Elements.{All-filter, recursion_from_All}
use Rattle.std.proofs.lemmas.List.FromFn.{get_or-range_with_len, length-range_with_len}
use Rattle.pw_info.specs.declared.kind.Kind.TheVariants as kinds
use Rattle.pw_info.specs.Information.{kind_of}
use Rattle.pw_info.specs.SetNames.{IsNamed}
use Rattle.pw_decl.specs.Declaration.{Declared, members_of}
use Rattle.pw_decl.specs.WellDeclared.{IsWellDeclared}
use Rattle.pw_sessions.specs.declared.command.Command.{Command}
use Rattle.pw_sessions.specs.declared.command.Command.TheVariants as commands
use Rattle.pw_sessions.specs.Reply.{Reply}
use Rattle.pw_sessions.specs.Reply as reply
use Rattle.pw_sessions.specs.declared.reply.Refusal.{Refusal}
use Rattle.pw_sessions.specs.declared.reply.Refusal.TheVariants as refusal
use Rattle.pw_reasons.specs.Combinations.{combinations_of, groups_of, worldview_of}
use Rattle.pw_sessions.proofs.TakenPremises.{taken_from}
use Rattle.pw_sessions.specs.Choosing.{is_consistent}
use Rattle.pw_reasons.specs.SameInfo.{is_contradiction}
use Rattle.pw_sessions.specs.Answer.{answer_to, reply_to, user_of}
use Rattle.pw_sessions.specs.Values.{sources_after, cell_value, visible_in}
use Rattle.pw_sessions.specs.Beliefs.{beliefs_at}
use Rattle.pw_sessions.specs.Carrying.{CanBeCarriedOut, CarriesOut}
use Rattle.pw_premises.specs.Premises.{Premises}
use Rattle.pw_network.specs.Wiring.{DeclaredCell}
use Rattle.pw_sessions.specs.CellNames.{named_cells, names_after}
use Rattle.pw_sessions.specs.Entries.{Entry, entries_before}
use Rattle.pw_sessions.specs.Reply.{LineReading, Blank, Refused, Says}
use Rattle.pw_sessions.specs.Command.{IsDeclared}
use Rattle.pw_sessions.specs.Command.{MayBecome}
use Rattle.pw_sessions.specs.Workbench.{Workbench, IsLeftBy, IsCarriedOut}
use Rattle.pw_settle.proofs.FixpointLemmas.{kind-fixpoint}
use Rattle.pw_sessions.proofs.WorkbenchLemmas.{left_same}
use Rattle.pw_transcript.specs.FromScratch.{ComesTo}
use Rattle.pw_transcript.specs.Limits.{most_lines}
use Rattle.pw_transcript.specs.Reading.{Reads}
use Rattle.pw_info.specs.declared.output.Failed.{Failed}
use Rattle.pw_info.specs.Passing.{IsBrokenOff, IsPassed, PassesPart}
use Rattle.pw_transcript.specs.ReplyText.{IsReplyNamed, text_of_reply, text_if_any}
use Rattle.pw_transcript.specs.inside.Answering.{AnswersLine, held_line, IsLeft, IsNextLine, IsReplied, ReadsHeld, RepliesToLine, PassesReply, FailsInReply}
use Rattle.pw_transcript.proofs.ReplyLemmas.{IsDeclared-from_Reads}

pub held_none : (line : List ℕ) → None ≡ held_line line → 1024 < length line
held_none line e = elim (cases_Bool (nat_le (length line) 1024)) [
  | inl short ↦ let none : None ≡ Some line = rw short at e in absurd (cc)
  | inr long ↦ leb-false (length line) 1024 long
]

pub held_some : (held line : List ℕ) → Some held ≡ held_line line → held ≡ line
held_some held line e = elim (cases_Bool (nat_le (length line) 1024)) [
  | inl short ↦ let some : Some held ≡ Some line = rw short at e in cc
  | inr long ↦ let some : Some held ≡ None = rw long at e in absurd (cc)
]

-- numbers that are listed below another are below it
listed_below : (keeps : ℕ → Bool) (most : ℕ) → All (λ n. n < most) (filter keeps (range_with_len 0 most))
listed_below keeps most =
    All-filter keeps (λ n. n < most) (range_with_len 0 most)
    (λ k d within.
    let below : k < most = omega (arith, within, length-range_with_len 0 most) in
    omega (arith, below, get_or-range_with_len 0 most k d below))

-- what is found is one of the list
found_holds : (P : List ℕ → Type 0) (test : List ℕ → Bool) (xs : List (List ℕ)) → AllByRecursion P xs → IfSome (find test xs) P
found_holds P test [] all = tt
found_holds P test (x ∷ xs) all = elim (cases_Bool (test x)) [
  | inl here ↦ rw here all.0
  | inr past ↦ rw past (found_holds P test xs all.1)
]

-- with one more line the next number is the next line's
one_more : (before : List LineReading) (reading : LineReading) (number : ℕ) → length before + 1 ≡ number → length (before ++ reading ∷ []) + 1 ≡ number + 1
one_more before reading number next = omega (arith, length-append before (reading ∷ []), next)

-- a command that is carried out at the next line, with no blank line before it
at_once : (d : Declared) (before : List LineReading) (old : Workbench) (line : ℕ) (command : Command) (new : Workbench) (answer : Reply) →
    CarriesOut old line command new answer → IsLeftBy d before old → length before + 1 ≡ line → IsDeclared d (Says command) →
    IsCarriedOut d before command new answer
at_once d before old line command new answer done left next named =
    subst (λ (l : List LineReading). IsCarriedOut d l command new answer) (append-nil before) (done d before 0 left (omega (arith, next)) named)

-- ---- the result of a line

module _ (d : Declared) (well : IsWellDeclared d) where
  -- a reading that is blank or refused leaves what was there
  left_blank : (before : List LineReading) (old : Workbench) → IsLeftBy d before old → IsLeftBy d (before ++ Blank ∷ []) old
  left_blank before old left = left_same d well.kinds before Blank old left (λ n. refl) (λ user beliefs. refl)

  left_refused : (before : List LineReading) (old : Workbench) (r : Refusal) → IsLeftBy d before old → IsLeftBy d (before ++ Refused r ∷ []) old
  left_refused before old r left = left_same d well.kinds before (Refused r) old left (λ n. refl) (λ user beliefs. refl)

  module _ (line : List ℕ) (before : List LineReading) (old : Workbench) (left : IsLeftBy d before old) where
    refused_long : None ≡ held_line line → RepliesToLine d before line old (Some (reply.Refused refusal.LineTooLong))
    refused_long e = record {
      reading = Refused refusal.LineTooLong;
      comes = inl (inl (refl, held_none line e));
      left = left_refused before old refusal.LineTooLong left;
      answer_is = refl;
    }

    refused : (held : List ℕ) (r : Refusal) → Reads d held (Refused r) → Some held ≡ held_line line → RepliesToLine d before line old (Some (reply.Refused r))
    refused held r reads e = record {
      reading = Refused r;
      comes = inl (subst (λ (x : List ℕ). Reads d x (Refused r)) (held_some held line e) reads);
      left = left_refused before old r left;
      answer_is = refl;
    }

    blank : (held : List ℕ) → Reads d held Blank → Some held ≡ held_line line → RepliesToLine d before line old None
    blank held reads e = record {
      reading = Blank;
      comes = inl (subst (λ (x : List ℕ). Reads d x Blank) (held_some held line e) reads);
      left = left_blank before old left;
      answer_is = refl;
    }

    came_to : (command : Command) (reading : LineReading) → Reads d line (Says command) → MayBecome d before command reading → ComesTo d before line reading
    came_to command reading reads (inl same) = inl (subst (Reads d line) (sym same) reads)
    came_to command reading reads (inr (refused, takes)) = inr (refused, command, takes, reads)

    carried : (number : ℕ) (held : List ℕ) (new : Workbench) (command : Command) (answer : Reply) → length before + 1 ≡ number →
        Reads d held (Says command) → CarriesOut old number command new answer → Some held ≡ held_line line → RepliesToLine d before line new (Some answer)
    carried number held new command answer next reads done e =
        let here : Reads d line (Says command) = subst (λ (x : List ℕ). Reads d x (Says command)) (held_some held line e) reads in
        let out = at_once d before old number command new answer done left next (IsDeclared-from_Reads d line command here) in
        record { reading = out.reading; comes = came_to command out.reading here out.became; left = out.left; answer_is = out.replied }

  -- what the lines before left is left after a line that gets no reply, or is refused
  pub still_left : (number : ℕ) (old : Workbench) → IsLeft d number old → IsLeft d (number + 1) old
  still_left number old left = (left.0 ++ Blank ∷ [], one_more left.0 Blank number left.1, left_blank left.0 old left.2)

  -- ---- a command that a line says, after some lines

  module _ (line : List ℕ) (number : ℕ) (old : Workbench) (left : IsLeft d number old) where
    -- the command of a line among those that a run answers
    pub can_be_carried_out : (command : Command) → number ≤ most_lines → Reads d line (Says command) → CanBeCarriedOut old number command
    can_be_carried_out command most reads =
        record {
          declared = d;
          before = left.0;
          left = left.2;
          next = omega (arith, left.1);
          most = most;
          names = IsDeclared-from_Reads d line command reads;
        }

    -- the value of a declared cell has its names
    named_value : (entries : List Entry) (cell : ℕ) → cell < length d.cells → IsNamed (members_of d) (kind_of (cell_value d entries cell))
    named_value entries cell below =
        subst (IsNamed (members_of d))
        (sym (kind-fixpoint (named_cells d entries) (names_after d entries) (sources_after d entries) (DeclaredCell cell)))
        (well.known cell kinds.Interval (omega (arith, below, well.kinds)))

    -- the answer to the command has its names
    named_answer : (entries : List Entry) (beliefs : Premises) (command : Command) → IsDeclared d (Says command) →
        IsReplyNamed d (answer_to d entries beliefs command)
    named_answer entries beliefs (commands.Ask user cell) named = named_value (visible_in entries beliefs) cell named.1
    named_answer entries beliefs (commands.Why user cell) named = named_value (visible_in entries beliefs) cell named.1
    named_answer entries beliefs (commands.Conflicts user) named = listed_below (λ cell. is_contradiction (cell_value d (visible_in entries beliefs) cell)) (length d.cells)
    named_answer entries beliefs (commands.Tell user cell fact) named = tt
    named_answer entries beliefs (commands.Attach user callable cells support) named = tt
    named_answer entries beliefs (commands.Believe user premises) named = tt
    named_answer entries beliefs (commands.Doubt user premises) named = tt
    named_answer entries beliefs (commands.Beliefs user) named = tt
    named_answer entries beliefs (commands.Choose user groups) named =
        found_holds (All (λ premise. premise < length d.premises)) (λ taken. is_consistent d entries (worldview_of beliefs (groups_of groups) taken))
        (combinations_of (groups_of groups))
        (recursion_from_All (All (λ premise. premise < length d.premises)) (combinations_of (groups_of groups))
        (taken_from (λ premise. premise < length d.premises) (groups_of groups) named.1))

    named_outcome : (before : List LineReading) (command : Command) (reading : LineReading) (answer : Reply) → IsDeclared d (Says command) →
        MayBecome d before command reading → reply_to d before reading ≡ Some answer → IsReplyNamed d answer
    named_outcome before command reading answer named (inl same) replied =
        let e : Some (answer_to d (entries_before before) (beliefs_at d (user_of command) before) command) ≡ Some answer = ap (reply_to d before) (sym same) ∙ replied in
        let is : answer_to d (entries_before before) (beliefs_at d (user_of command) before) command ≡ answer = cc in
        subst (IsReplyNamed d) is (named_answer (entries_before before) (beliefs_at d (user_of command) before) command named)
    named_outcome before command reading answer named (inr (refused, takes)) replied =
        let e : Some (reply.Refused refusal.Memory) ≡ Some answer = ap (reply_to d before) (sym refused) ∙ replied in
        let is : reply.Refused refusal.Memory ≡ answer = cc in
        subst (IsReplyNamed d) is tt

    named_reply : (new : Workbench) (command : Command) (answer : Reply) → Reads d line (Says command) → CarriesOut old number command new answer → IsReplyNamed d answer
    named_reply new command answer reads done =
        let named = IsDeclared-from_Reads d line command reads in
        let out = at_once d left.0 old number command new answer done left.2 left.1 named in
        named_outcome left.0 command out.reading answer named out.became out.replied

    -- and the lines so far left what is there after it
    pub carried_left : (new : Workbench) (command : Command) (answer : Reply) → Reads d line (Says command) → CarriesOut old number command new answer →
        IsLeft d (number + 1) new
    carried_left new command answer reads done =
        let out = at_once d left.0 old number command new answer done left.2 left.1 (IsDeclared-from_Reads d line command reads) in
        (left.0 ++ out.reading ∷ [], one_more left.0 out.reading number left.1, out.left)

-- ---- a line that is held, or too long

-- a blank line gets no reply
pub held_blank : (d : Declared) (well : IsWellDeclared d) (old : Workbench) (held : Option (List ℕ)) → ReadsHeld d held Blank → (before : List LineReading) (line : List ℕ) →
    IsLeftBy d before old → held ≡ held_line line → RepliesToLine d before line old None
held_blank d well old None reads before line left e = absurd (cc)
held_blank d well old (Some held) reads before line left e = blank d well line before old left held reads e

module _ (d : Declared) (well : IsWellDeclared d) (number : ℕ) (old : Workbench) (left : IsLeft d number old) where
  -- the line says this command: it can be carried out
  pub held_can : (held : Option (List ℕ)) (command : Command) → ReadsHeld d held (Says command) → number ≤ most_lines → CanBeCarriedOut old number command
  held_can None command reads most = absurd (cc)
  held_can (Some held) command reads most = can_be_carried_out d well held number old left command most reads

  -- and what carrying it out answers is the reply
  pub held_command : (held : Option (List ℕ)) (command : Command) → ReadsHeld d held (Says command) → (new : Workbench) (answer : Reply) →
      CarriesOut old number command new answer → IsReplied d number held old new answer
  held_command None command reads new answer done = absurd (cc)
  held_command (Some held) command reads new answer done = record {
    named = named_reply d well held number old left new command answer reads done;
    left = carried_left d well held number old left new command answer reads done;
    reply = λ before line left' next e. carried d well line before old left' number held new command answer next reads done e;
  }

  -- the line is refused so
  pub held_refused : (held : Option (List ℕ)) (r : Refusal) → ReadsHeld d held (Refused r) → IsReplied d number held old old (reply.Refused r)
  held_refused None r reads =
      let too_long : r ≡ refusal.LineTooLong = cc in
      record {
        named = tt;
        left = still_left d well number old left;
        reply = λ before line left' next e. subst (λ (x : Refusal). RepliesToLine d before line old (Some (reply.Refused x))) (sym too_long) (refused_long d well line before old left' e);
      }
  held_refused (Some held) r reads = record {
    named = tt;
    left = still_left d well number old left;
    reply = λ before line left' next e. refused d well line before old left' held r reads e;
  }

-- ---- the reply is passed

module _ {O : Type 0} (passes : O → List ℕ → O → Type 0) (d : Declared) (number : ℕ) (before : List LineReading) (line : List ℕ) where
  pub passes_none : (new : Workbench) (o : O) → passes o [] o → RepliesToLine d before line new None → PassesReply passes d number before line new o o false
  passes_none new o none a = record {
    reading = a.reading;
    comes = a.comes;
    left = a.left;
    passed = subst (λ (r : Option Reply). passes o (text_if_any d number r) o) (sym a.answer_is) none;
    replied_is = ap is_some (sym a.answer_is);
  }

  pub passes_some : (new : Workbench) (o o' : O) (answer : Reply) → RepliesToLine d before line new (Some answer) →
      passes o (text_of_reply d number answer) o' → PassesReply passes d number before line new o o' true
  passes_some new o o' answer a passed = record {
    reading = a.reading;
    comes = a.comes;
    left = a.left;
    passed = subst (λ (r : Option Reply). passes o (text_if_any d number r) o') (sym a.answer_is) passed;
    replied_is = ap is_some (sym a.answer_is);
  }

  pub fails_some : (new : Workbench) (o o' : O) (answer : Reply) → RepliesToLine d before line new (Some answer) →
      PassesPart passes o o' (text_of_reply d number answer) → FailsInReply passes d number before line o o'
  fails_some new o o' answer a part = record {
    reading = a.reading;
    comes = a.comes;
    part = subst (λ (r : Option Reply). PassesPart passes o o' (text_if_any d number r)) (sym a.answer_is) part;
  }

-- ---- a line is answered

-- a line that is replied to is answered: its reply was passed, or the output failed while it was
module _ {O : Type 0} {passes : O → List ℕ → O → Type 0} {d : Declared} {has_failed : O → Bool} {number : ℕ} {IsHeld : Option (List ℕ) → Type 0}
    {old new : Workbench} {o o' : O} {answer : Reply} (left : IsLeft d (number + 1) new)
    (replied : (held : Option (List ℕ)) → IsHeld held → IsReplied d number held old new answer) where
  pub answered : IsPassed passes has_failed o o' (text_of_reply d number answer) → AnswersLine passes d has_failed number IsHeld old new o o' (Ok true)
  answered written = record {
    ok = λ held is before line left' next e.
        passes_some passes d number before line new o o' answer ((replied held is).reply before line left' next e) written.passed;
    err = λ held is. tt;
    failed = tt;
    works = written.works;
    left = left;
  }

  pub broken_off : (fault : Failed) → IsBrokenOff passes has_failed o o' (text_of_reply d number answer) →
      AnswersLine passes d has_failed number IsHeld old new o o' (Err fault)
  broken_off fault written = record {
    ok = λ held is. tt;
    err = λ held is before line left' next e.
        fails_some passes d number before line new o o' answer ((replied held is).reply before line left' next e) written.front;
    failed = written.failed;
    works = tt;
    left = left;
  }

-- a line that is held in one way comes next if it does in a narrower one
pub next_if : {d : Declared} {number : ℕ} {workbench : Workbench} {IsHeld Others : Option (List ℕ) → Type 0} →
    ((held : Option (List ℕ)) → IsHeld held → Others held) → IsNextLine d number IsHeld workbench → IsNextLine d number Others workbench
next_if others next = record {
  left = next.left;
  most = next.most;
  reads = (next.reads.0, others next.reads.0 next.reads.1);
}

-- what is answered of lines that are held in one way is answered of those held in a narrower one
pub answers_if : {O : Type 0} {passes : O → List ℕ → O → Type 0} {d : Declared} {has_failed : O → Bool} {number : ℕ} {old new : Workbench} {o o' : O} {result : Result Bool Failed}
    {IsHeld Others : Option (List ℕ) → Type 0} → ((held : Option (List ℕ)) → IsHeld held → Others held) →
    AnswersLine passes d has_failed number Others old new o o' result → AnswersLine passes d has_failed number IsHeld old new o o' result
answers_if others a = record {
  ok = λ held is. a.ok held (others held is);
  err = λ held is. a.err held (others held is);
  failed = a.failed;
  works = a.works;
  left = a.left;
}
