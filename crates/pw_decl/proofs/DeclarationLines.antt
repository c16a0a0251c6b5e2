-- From the form of a line to what the line declares, or to its first fault.
use Rattle.std.proofs.Common.{◌≡◌, ℕ, ◌<◌, ◌≤◌, true, false, List, length, Some, None, Result, Ok, Err, IfOk, IfErr, inl, inr, sym, refl, ap, subst, ◌∙◌, arith}
use Rattle.std.specs.List.{list_all}
use Rattle.std.proofs.lemmas.Bool.{false≢true}
use Rattle.pw_decl.specs.declared.decl_fault.DeclFaultKind.{DeclFaultKind}
use Rattle.pw_decl.specs.declared.decl_fault.DeclFaultKind.TheVariants.{Syntax}
use Rattle.pw_info.specs.Lines.{IsFirstIn}
use Rattle.pw_info.specs.Words.{words_of, is_idle, is_allowed}
use Rattle.pw_decl.specs.declared.version.Version.{Version}
use Rattle.pw_decl.specs.Declaration.{Declared, SoFar, BeforeHeader, Outside, DeclarationSentence, Header, Set, Begin, Call, IsOuterSentence, IsInnerSentence, with_version}
use Rattle.pw_decl.specs.inside.Forms.{sentence_at, outer_sentence_of, inner_sentence_of}
use Rattle.pw_decl.specs.Faults.{SaysInPlace, Declares, LineFault, BadSyntax, Duplicate, Unknown, Wrong, TooMany, FaultApplies, IsFirstFaultOf, HasNoFault, HasDuplicate, HasUnknown, HasWrongArguments, IsOneTooMany}
use Rattle.pw_decl.specs.Limits.{most_line_bytes}
use Rattle.pw_decl.specs.inside.SentenceFaults.{FaultAppliesTo, HasGoodParts, sentence_faults, IsFaultless, DeclaresSentence, IsToldOf, IsToldOfLine}
use Rattle.pw_info.proofs.NameLemmas.{all_pass}
use Rattle.pw_decl.proofs.LineFaults.{found, found_outer, found_inner, given, parameters_pass, one_sentence}

-- a line whose words fit no form at its place
pub unformed : (so_far : SoFar) (line : List ℕ) → length line ≤ most_line_bytes → is_idle line ≡ false → sentence_at so_far (words_of line) ≡ None → IsFirstFaultOf so_far line BadSyntax
unformed so_far line short spoken none =
    inr (λ long. omega arith, inl (refl, (spoken, λ s says. let e : None ≡ Some s = sym none ∙ given so_far (words_of line) s says.words in cc)))

pub told_unformed : (so_far : SoFar) (line : List ℕ) → length line ≤ most_line_bytes → is_idle line ≡ false → sentence_at so_far (words_of line) ≡ None → IsToldOfLine so_far line Syntax
told_unformed so_far line short spoken none = inr (BadSyntax, unformed so_far line short spoken none, refl)

-- a line with a byte that no line may have
pub told_not_allowed : (so_far : SoFar) (line : List ℕ) → length line ≤ most_line_bytes → is_idle line ≡ false → list_all is_allowed line ≡ false → IsToldOfLine so_far line Syntax
told_not_allowed so_far line short spoken bad =
    inr (BadSyntax, inr (λ long. omega arith, inl (refl, (spoken, λ s says. false≢true (sym bad ∙ says.allowed)))), refl)

-- the parts of a sentence are as its form wants them
good_outer : (words : List (List ℕ)) (s : DeclarationSentence) → IsOuterSentence words s → HasGoodParts s
good_outer words (Set name members) is = all_pass members is.2
good_outer words (Begin name parameters) is = parameters_pass parameters is.2
good_outer words (Call callable arguments) is = absurd is
good_outer words s is = tt

good_inner : (words : List (List ℕ)) (s : DeclarationSentence) → IsInnerSentence words s → HasGoodParts s
good_inner words (Set name members) is = absurd is
good_inner words (Begin name parameters) is = absurd is
good_inner words (Call callable arguments) is = is.3
good_inner words s is = tt

pub outer_parts : (words : List (List ℕ)) (s : DeclarationSentence) → Some s ≡ outer_sentence_of words → HasGoodParts s
outer_parts words s formed = good_outer words s (found_outer words s (sym formed))

pub inner_parts : (words : List (List ℕ)) (s : DeclarationSentence) → Some s ≡ inner_sentence_of words → HasGoodParts s
inner_parts words s formed = good_inner words s (found_inner words s (sym formed))

-- a line whose words form a sentence
module _ (so_far : SoFar) (line : List ℕ) (s : DeclarationSentence) (short : length line ≤ most_line_bytes) (spoken : is_idle line ≡ false) (allowed : list_all is_allowed line ≡ true) (formed : sentence_at so_far (words_of line) ≡ Some s) where
  said : SaysInPlace so_far line s
  said = record { spoken = spoken; allowed = allowed; words = found so_far (words_of line) s formed }

  -- what is said is this sentence
  at : (P : DeclarationSentence → Type 0) (t : DeclarationSentence) → SaysInPlace so_far line t → P t → P s
  at P t says h = subst P (one_sentence so_far (words_of line) t s says.words (found so_far (words_of line) s formed)) h

  not_long : most_line_bytes < length line → ⊥
  not_long long = omega arith

  not_bad : FaultApplies so_far line BadSyntax → ⊥
  not_bad bad = bad.1 s said

  no_duplicate : (HasDuplicate so_far s → ⊥) → FaultApplies so_far line Duplicate → ⊥
  no_duplicate none (t, says, h) = none (at (HasDuplicate so_far) t says h)

  no_unknown : (HasUnknown so_far s → ⊥) → FaultApplies so_far line Unknown → ⊥
  no_unknown none (t, says, h) = none (at (HasUnknown so_far) t says h)

  not_wrong : (HasWrongArguments so_far s → ⊥) → FaultApplies so_far line Wrong → ⊥
  not_wrong none (t, says, h) = none (at (HasWrongArguments so_far) t says h)

  not_many : (IsOneTooMany so_far s → ⊥) → FaultApplies so_far line TooMany → ⊥
  not_many none (t, says, h) = none (at (IsOneTooMany so_far) t says h)

  none_later : IsFaultless so_far s → HasNoFault so_far line
  none_later (duplicate, (unknown, (wrong, (many, end)))) =
      (not_long, (not_bad, (no_duplicate duplicate, (no_unknown unknown, (not_wrong wrong, (not_many many, tt))))))

  pub declared : (after : SoFar) → DeclaresSentence so_far s after → Declares so_far line after
  declared after declares = (none_later declares.faultless, inr (s, said, declares.makes))

  first_later : (fault : LineFault) → IsFirstIn (FaultAppliesTo so_far s) sentence_faults fault → IsFirstFaultOf so_far line fault
  first_later fault (inl (is, h)) = inr (not_long, inr (not_bad, inl (is, (s, said, h))))
  first_later fault (inr (a, inl (is, h))) = inr (not_long, inr (not_bad, inr (no_duplicate a, inl (is, (s, said, h)))))
  first_later fault (inr (a, inr (b, inl (is, h)))) = inr (not_long, inr (not_bad, inr (no_duplicate a, inr (no_unknown b, inl (is, (s, said, h))))))
  first_later fault (inr (a, inr (b, inr (c, inl (is, h))))) =
      inr (not_long, inr (not_bad, inr (no_duplicate a, inr (no_unknown b, inr (not_wrong c, inl (is, (s, said, h)))))))
  first_later fault (inr (a, inr (b, inr (c, inr (m, last))))) = absurd last

  pub faulty : (why : DeclFaultKind) → IsToldOf so_far s why → IsToldOfLine so_far line why
  faulty why (inl (none, memory)) = inl (none_later none, memory)
  faulty why (inr (fault, first, is)) = inr (fault, first_later fault first, is)

-- ---- the place of the line

pub no_sentence : (so_far at : SoFar) (line : List ℕ) → so_far ≡ at → length line ≤ most_line_bytes → is_idle line ≡ false →
    None ≡ sentence_at at (words_of line) → IsToldOfLine so_far line Syntax
no_sentence so_far at line is short spoken none =
    subst (λ (x : SoFar). IsToldOfLine x line Syntax) (sym is) (told_unformed at line short spoken (sym none))

sentence_declares : (so_far at after : SoFar) (line : List ℕ) (s : DeclarationSentence) → so_far ≡ at → length line ≤ most_line_bytes → is_idle line ≡ false →
    list_all is_allowed line ≡ true → Some s ≡ sentence_at at (words_of line) → DeclaresSentence at s after → Declares so_far line after
sentence_declares so_far at after line s is short spoken allowed formed declares =
    subst (λ (x : SoFar). Declares x line after) (sym is) (declared at line s short spoken allowed (sym formed) after declares)

-- the header has no fault
pub header_declares : (so_far : SoFar) (d : Declared) (line : List ℕ) (version : Version) (after : Declared) → so_far ≡ BeforeHeader d → length line ≤ most_line_bytes → is_idle line ≡ false →
    list_all is_allowed line ≡ true → Some (Header version) ≡ sentence_at (BeforeHeader d) (words_of line) → after ≡ with_version d version → Declares so_far line (Outside after)
header_declares so_far d line version after is short spoken allowed formed made =
    sentence_declares so_far (BeforeHeader d) (Outside after) line (Header version) is short spoken allowed formed
    (record { faultless = (λ h. h, (λ h. h, (λ h. h, (λ h. h, tt)))); makes = ap Outside made })

sentence_faulty : (so_far at : SoFar) (line : List ℕ) (s : DeclarationSentence) (why : DeclFaultKind) → so_far ≡ at → length line ≤ most_line_bytes → is_idle line ≡ false →
    list_all is_allowed line ≡ true → Some s ≡ sentence_at at (words_of line) → IsToldOf at s why → IsToldOfLine so_far line why
sentence_faulty so_far at line s why is short spoken allowed formed told =
    subst (λ (x : SoFar). IsToldOfLine x line why) (sym is) (faulty at line s short spoken allowed (sym formed) why told)

-- the answer for a sentence holds for its line: the place of the next line, or the fault
module _ {P : Type 0} (so_far at : SoFar) (line : List ℕ) (s : DeclarationSentence) (is : so_far ≡ at) (short : length line ≤ most_line_bytes) (spoken : is_idle line ≡ false) where
  pub answer_declares : (next : P → SoFar) (r : Result P DeclFaultKind) → list_all is_allowed line ≡ true → Some s ≡ sentence_at at (words_of line) →
      IfOk r (λ p. DeclaresSentence at s (next p)) → IfOk r (λ p. Declares so_far line (next p))
  answer_declares next (Ok p) allowed formed declares = sentence_declares so_far at (next p) line s is short spoken allowed formed declares
  answer_declares next (Err why) allowed formed declares = tt

  pub answer_faulty : (r : Result P DeclFaultKind) → list_all is_allowed line ≡ true → Some s ≡ sentence_at at (words_of line) →
      IfErr r (IsToldOf at s) → IfErr r (IsToldOfLine so_far line)
  answer_faulty (Ok p) allowed formed told = tt
  answer_faulty (Err why) allowed formed told = sentence_faulty so_far at line s why is short spoken allowed formed told
