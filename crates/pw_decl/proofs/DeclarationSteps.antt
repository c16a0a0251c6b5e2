-- Going over the lines of a declaration.
use Rattle.std.proofs.Common.{◌≡◌, ℕ, ◌+◌, ◌≤◌, eqb, List, [], ◌∷◌, ◌++◌, length, ◌⊎◌, inl, inr, sym, refl, ap, subst, ◌∙◌, arith, append_assoc, append-nil, length-append, Result, Ok, Err, IfOk, IfErr}
use Rattle.std.specs.Prelude.{OnOk}
use Rattle.std.specs.Result.{result_and}
use Rattle.std.specs.List.{onto_first}
use Rattle.std.proofs.lemmas.Bool.{cases_Bool}
use Rattle.pw_info.specs.Lines.{lines_of}
use Rattle.pw_procs.specs.Procedure.{Procedure}
use Rattle.pw_decl.specs.declared.decl_fault.DeclFault.{DeclFault}
use Rattle.pw_decl.specs.declared.decl_fault.DeclFaultKind.{DeclFaultKind}
use Rattle.pw_decl.specs.declared.decl_fault.DeclFaultKind.TheVariants.{Memory}
use Rattle.pw_decl.specs.declared.declaration.Declaration.{Declaration}
use Rattle.pw_decl.specs.Declaration.{Declared, nothing_declared, SoFar, BeforeHeader, Outside, Inside}
use Rattle.pw_decl.specs.Faults.{LineFault, TooLong, BadSyntax, Duplicate, Unknown, Wrong, TooMany, kind_of_fault, Declares, Leads, PreludeDeclares, SpellsDeclaration, IsUnfinished, IsFaultAmong, IsClearUpTo, IsFaultOfPrelude, IsFirstFault, IsReportedAmong, IsClearInPrelude, HasNoFaultUpTo, IsReported, IsReadAs, IsFaultAt}
use Rattle.pw_decl.specs.inside.Fields.{declared}
use Rattle.pw_decl.specs.Limits.{most_text_bytes}
use Rattle.pw_decl.specs.Prelude.{prelude_text}
use Rattle.pw_decl.specs.inside.SentenceFaults.{IsToldOfLine}
use Rattle.pw_decl.proofs.LineFaults.{one_spelled, one_fault, not_both}

-- ---- as many lines as bytes, at most

length-onto_first : (byte : ℕ) (lines : List (List ℕ)) → length (onto_first byte lines) ≤ length lines + 1
length-onto_first byte [] = omega arith
length-onto_first byte (line ∷ lines) = omega arith

pub length-lines_of : (text : List ℕ) → length (lines_of text) ≤ length text
length-lines_of [] = omega arith
length-lines_of (byte ∷ text) =
    elim (cases_Bool (eqb byte 10)) [
      | inl ends ↦ rw ends (omega (arith, length-lines_of text))
      | inr more ↦ rw more (omega (arith, length-lines_of text, length-onto_first byte (lines_of text)))
    ]

-- ---- one more line

Leads-push : (start : SoFar) (lines : List (List ℕ)) (line : List ℕ) (s t : SoFar) → Leads start lines s → Declares s line t → Leads start (lines ++ line ∷ []) t
Leads-push start [] line s t e h = (t, subst (λ (x : SoFar). Declares x line t) e h, refl)
Leads-push start (first ∷ lines) line s t (m, p, ps) h = (m, p, Leads-push m lines line s t ps h)

-- no fault of a line is reported as out of memory
not_memory : (fault : LineFault) → kind_of_fault fault ≡ Memory → ⊥
not_memory TooLong e = cc
not_memory BadSyntax e = cc
not_memory Duplicate e = cc
not_memory Unknown e = cc
not_memory Wrong e = cc
not_memory TooMany e = cc

-- nor is what is wrong after the last line
pub end_not_memory : (s : SoFar) (why : DeclFaultKind) → IsUnfinished s why → why ≡ Memory → ⊥
end_not_memory (BeforeHeader d) why is memory = let e = sym is ∙ memory in cc
end_not_memory (Outside d) why is memory = is
end_not_memory (Inside d opened) why is memory = let e = sym is ∙ memory in cc

-- the lines before the remaining ones, and what they lead to
pub record IsReadUpTo (start : SoFar) (lines left : List (List ℕ)) (count : ℕ) (so_far : SoFar) : Type 0 where
  pub before : List (List ℕ)
  pub parts : lines ≡ before ++ left
  pub counted : count ≡ length before
  pub leads : Leads start before so_far

pub read_none : (start : SoFar) (lines : List (List ℕ)) → IsReadUpTo start lines lines 0 start
read_none start lines = record { before = []; parts = refl; counted = refl; leads = refl }

module _ (start : SoFar) (lines left : List (List ℕ)) (count : ℕ) (s : SoFar) (r : IsReadUpTo start lines left count s) where
  pub read_more : (line : List ℕ) (left' : List (List ℕ)) (t : SoFar) → left ≡ line ∷ left' → Declares s line t → IsReadUpTo start lines left' (count + 1) t
  read_more line left' t e h = record {
    before = r.before ++ line ∷ [];
    parts = r.parts ∙ ap (λ (x : List (List ℕ)). r.before ++ x) e ∙ sym (append_assoc r.before (line ∷ []) left');
    counted = omega (arith, r.counted, length-append r.before (line ∷ []));
    leads = Leads-push start r.before line s t r.leads h;
  }

  -- all lines are read
  pub read_all : (t : SoFar) → left ≡ [] → s ≡ t → Leads start lines t
  read_all t none is =
      subst (λ (l : List (List ℕ)). Leads start l t) (sym (r.parts ∙ ap (λ (x : List (List ℕ)). r.before ++ x) none ∙ append-nil r.before))
      (subst (λ (x : SoFar). Leads start r.before x) is r.leads)

  -- and the last leaves something open
  pub fault_at_end : (why : DeclFaultKind) → left ≡ [] → IsUnfinished s why → IsFaultAmong start lines (count + 1) why
  fault_at_end why none unfinished = record {
    before = r.before;
    rest = [];
    so_far = s;
    parts = r.parts ∙ ap (λ (x : List (List ℕ)). r.before ++ x) none;
    count = ap (λ (n : ℕ). n + 1) r.counted;
    leads = r.leads;
    fault = unfinished;
  }

  -- the fault reported for the next line
  pub told_next : (line : List ℕ) (left' : List (List ℕ)) (why : DeclFaultKind) → left ≡ line ∷ left' → IsToldOfLine s line why →
      (why ≡ Memory) ⊎ IsFaultAmong start lines (count + 1) why
  told_next line left' why e (inl (none, memory)) = inl memory
  told_next line left' why e (inr (fault, first, is)) = inr (record {
    before = r.before;
    rest = line ∷ left';
    so_far = s;
    parts = r.parts ∙ ap (λ (x : List (List ℕ)). r.before ++ x) e;
    count = ap (λ (n : ℕ). n + 1) r.counted;
    leads = r.leads;
    fault = (fault, first, is);
  })

  -- if out of memory is reported for it, it has no fault
  pub memory_last : (line : List ℕ) (left' : List (List ℕ)) (why : DeclFaultKind) → left ≡ line ∷ left' → IsToldOfLine s line why → why ≡ Memory →
      IsClearUpTo start lines (count + 1)
  memory_last line left' why e (inl (none, is)) memory = record {
    before = r.before;
    line = line;
    rest = left';
    so_far = s;
    parts = r.parts ∙ ap (λ (x : List (List ℕ)). r.before ++ x) e;
    count = ap (λ (n : ℕ). n + 1) r.counted;
    leads = r.leads;
    clear = none;
  }
  memory_last line left' why e (inr (fault, first, is)) memory = absurd (not_memory fault (sym is ∙ memory))

-- ---- what a call gives back

-- what holds of what is given back, by what holds of it already
pub done_to : {D E : Type 0} (P Q : Type 0) → (P → Q) → (r : Result D E) → OnOk r P → OnOk r Q
done_to P Q more (Ok d) h = more h
done_to P Q more (Err e) h = tt

pub always_done : {D E P : Type 0} → P → (r : Result D E) → OnOk r P
always_done h (Ok d) = h
always_done h (Err e) = tt

pub err_to : {D E : Type 0} (P Q : E → Type 0) → ((e : E) → P e → Q e) → (r : Result D E) → IfErr r P → IfErr r Q
err_to P Q more (Ok d) h = tt
err_to P Q more (Err e) h = more e h

pub ok_to : {D E : Type 0} (P Q : D → Type 0) → ((d : D) → P d → Q d) → (r : Result D E) → IfOk r P → IfOk r Q
ok_to P Q more (Ok d) h = more d h
ok_to P Q more (Err e) h = tt

-- what holds of what `and` gives back
module _ {D E F : Type 0} (read : Result D E) (d : F) (r : Result F E) (both : r ≡ result_and read (Ok d)) where
  pub and_ok : (P : F → Type 0) → OnOk read (P d) → IfOk r P
  and_ok P h = subst (λ r. IfOk r P) (sym both) (by_cases read h) where
    by_cases : (read : Result D E) → OnOk read (P d) → IfOk (result_and read (Ok d)) P
    by_cases (Ok x) h = h
    by_cases (Err why) h = tt

  pub and_err : (P : E → Type 0) → IfErr read P → IfErr r P
  and_err P h = subst (λ r. IfErr r P) (sym both) (by_cases read h) where
    by_cases : (read : Result D E) → IfErr read P → IfErr (result_and read (Ok d)) P
    by_cases (Ok x) h = tt
    by_cases (Err why) h = h

-- the fault reported after the last line
pub told_at_end : (start : SoFar) (lines left : List (List ℕ)) (count : ℕ) (s : SoFar) (r : IsReadUpTo start lines left count s) (fault : DeclFault) →
    left ≡ [] → IsUnfinished s fault.why × (fault.line ≡ count + 1) → IsReportedAmong start lines fault
told_at_end start lines left count s r fault none (unfinished, at) =
    inr (subst (λ (n : ℕ). IsFaultAmong start lines n fault.why) (sym at) (fault_at_end start lines left count s r fault.why none unfinished))

-- ---- the prelude

-- what comes before the prelude is nothing
module _ (ps : List Procedure) (d : Declared) (text : List ℕ) (nothing : d ≡ nothing_declared ps) (prelude : text ≡ prelude_text) where
  from_nothing : (P : SoFar → List (List ℕ) → Type 0) → P (Outside d) (lines_of text) → P (Outside (nothing_declared ps)) (lines_of prelude_text)
  from_nothing P h =
      subst (λ (t : List ℕ). P (Outside (nothing_declared ps)) (lines_of t)) prelude (subst (λ (x : Declared). P (Outside x) (lines_of text)) nothing h)

  pub prelude_declares : (known : Declared) → Leads (Outside d) (lines_of text) (Outside known) → PreludeDeclares ps known
  prelude_declares known leads = from_nothing (λ s lines. Leads s lines (Outside known)) leads

  pub prelude_faulty : (fault : DeclFault) → IsReportedAmong (Outside d) (lines_of text) fault → (fault.why ≡ Memory) ⊎ IsFaultOfPrelude ps fault.why
  prelude_faulty fault (inl memory) = inl memory
  prelude_faulty fault (inr among) = inr (fault.line, from_nothing (λ s lines. IsFaultAmong s lines fault.line fault.why) among)

  pub prelude_clear : (number : ℕ) → IsClearUpTo (Outside d) (lines_of text) number → IsClearInPrelude ps
  prelude_clear number clear = (number, from_nothing (λ s lines. IsClearUpTo s lines number) clear)

-- ---- the whole text

module _ (ps : List Procedure) (text : List ℕ) (short : length text ≤ most_text_bytes) where
  -- the fault reported for the prelude
  pub told_of_prelude : (fault : DeclFault) → fault.line ≡ 0 → (fault.why ≡ Memory) ⊎ IsFaultOfPrelude ps fault.why → IsReported ps text fault
  told_of_prelude fault at (inl memory) = inl memory
  told_of_prelude fault at (inr wrong) = inr (inr (short, inl (at, wrong)))

  pub clear_in_prelude : (number : ℕ) → number ≡ 0 → IsClearInPrelude ps → HasNoFaultUpTo ps text number
  clear_in_prelude number at clear = (short, inl (at, clear))

  -- the fault reported for the lines after it
  pub told_of_text : (known : Declared) (fault : DeclFault) → PreludeDeclares ps known → IsReportedAmong (BeforeHeader known) (lines_of text) fault → IsReported ps text fault
  told_of_text known fault prelude (inl memory) = inl memory
  told_of_text known fault prelude (inr among) = inr (inr (short, inr (record { known = known; prelude = prelude; among = among })))

  pub clear_in_text : (known : Declared) (number : ℕ) → PreludeDeclares ps known → IsClearUpTo (BeforeHeader known) (lines_of text) number → HasNoFaultUpTo ps text number
  clear_in_text known number prelude clear = (short, inr (known, prelude, clear))

  pub text_spells : (known d : Declared) → PreludeDeclares ps known → Leads (BeforeHeader known) (lines_of text) (Outside d) → SpellsDeclaration ps text d
  text_spells known d prelude leads = record { short = short; known = known; prelude = prelude; leads = leads }

-- what holds of the procedures of an empty declaration holds of these procedures
pub over : (P : List Procedure → Type 0) (d : Declared) (ps : List Procedure) → d ≡ nothing_declared ps → P d.procedures → P ps
over P d ps nothing h = subst P (ap (λ (x : Declared). x.procedures) nothing) h

-- ---- the converse

-- if a fault is reported, the text spells no declaration, unless memory runs out
pub told_only : (ps : List Procedure) (text : List ℕ) (fault : DeclFault) → IsReported ps text fault → (d : Declared) → SpellsDeclaration ps text d → fault.why ≡ Memory
told_only ps text fault (inl memory) d spells = memory
told_only ps text fault (inr first) d spells = absurd (not_both ps text fault.line fault.why d first spells)

-- and the fault is the text's first, unless memory runs out
pub told_first : (ps : List Procedure) (text : List ℕ) (fault : DeclFault) → IsReported ps text fault →
    (line : ℕ) (why : DeclFaultKind) → IsFirstFault ps text line why → (fault.why ≡ Memory) ⊎ ((fault.line ≡ line) × (fault.why ≡ why))
told_first ps text fault (inl memory) line why first = inl memory
told_first ps text fault (inr told) line why first = inr (one_fault ps text fault.line line fault.why why told first)

module _ {A : _} {X : Type 0} {F : X → Type 0} {C : _} (ps : List Procedure) (text : List ℕ) where
  -- what is read of a text that spells a declaration
  pub only_declaration : (r : Result (Declaration A X F C) DeclFault) →
      IfOk r (λ x. SpellsDeclaration ps text (declared x)) → IfErr r (IsReported ps text) →
      (d : Declared) → SpellsDeclaration ps text d → IsReadAs d r
  only_declaration (Ok x) ok err d spells = one_spelled ps text (declared x) d ok spells
  only_declaration (Err fault) ok err d spells = told_only ps text fault err d spells

  -- the fault reported for a text that has a first fault
  pub only_fault : (r : Result (Declaration A X F C) DeclFault) →
      IfOk r (λ x. SpellsDeclaration ps text (declared x)) → IfErr r (IsReported ps text) →
      (line : ℕ) (why : DeclFaultKind) → IsFirstFault ps text line why → IsFaultAt line why r
  only_fault (Ok x) ok err line why first = absurd (not_both ps text line why (declared x) first ok)
  only_fault (Err fault) ok err line why first = told_first ps text fault err line why first
