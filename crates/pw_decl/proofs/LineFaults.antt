-- A line declares at most one thing and has at most one first fault, and never both; the same holds
-- of texts.
use Rattle.std.proofs.Common.{◌≡◌, ℕ, ◌+◌, true, false, List, [], ◌∷◌, ◌++◌, length, Some, None, ◌⊎◌, inl, inr, sym, refl, ap, subst, suc, ◌∙◌, codes, rules, arith, ◌↔◌}
use Rattle.std.specs.List.{list_all}
use Rattle.std.specs.Str.{bytes_eq}
use Rattle.std.proofs.lemmas.Bool.{cases_Bool, false≢true}
use Rattle.std.proofs.lemmas.Option.{same_Some}
use Rattle.std.proofs.lemmas.Slice.Eq.{bytes_eq-Decides}
use Rattle.pw_info.specs.declared.kind.Kind.{Kind}
use Rattle.pw_info.specs.declared.kind.Kind.TheVariants as kinds
use Rattle.pw_info.specs.Name.{is_name}
use Rattle.pw_info.proofs.Informations.{same_set}
use Rattle.pw_info.proofs.NameTests.{passed, passes}
use Rattle.pw_info.specs.Lines.{lines_of}
use Rattle.pw_info.specs.Words.{words_of, is_idle}
use Rattle.pw_info.proofs.FirstLemmas.{one_first, none_is_first}
use Rattle.pw_info.proofs.NameLemmas.{all_passed, all_pass}
use Rattle.pw_procs.specs.Procedure.{Procedure}
use Rattle.pw_decl.specs.declared.decl_fault.DeclFaultKind.{DeclFaultKind}
use Rattle.pw_decl.specs.declared.step.Callable.{Callable}
use Rattle.pw_decl.specs.declared.version.Version.TheVariants as versions
use Rattle.pw_decl.specs.Declaration.{Declared, nothing_declared, SoFar, BeforeHeader, Outside, Inside, DeclarationSentence, Header, User, Premise, PremiseOf, Set, Cell, Begin, Local, Call, End, IsSentenceAt, IsOuterSentence, IsInnerSentence, AreParameters, parameter_names, parameter_kinds, members_of, NamesKind, NameKinds, begun, with_premise, with_cell, with_local, with_call, places_of, Makes}
use Rattle.pw_decl.specs.Prelude.{prelude_text}
use Rattle.pw_decl.specs.inside.Forms.{sentence_at, outer_sentence_of, inner_sentence_of, header_form, are_parameters, user_form, premise_form, set_form, cell_form, compound_form, local_form, end_form, call_form}
use Rattle.pw_decl.specs.Faults.{SaysInPlace, Declares, Leads, PreludeDeclares, SpellsDeclaration, IsUnfinished, IsFaultNext, IsFaultAmong, IsFaultOnLine, IsFirstFault, line_faults, FaultApplies, IsFirstFaultOf, kind_of_fault}

-- ---- the header

found_header : (d : Declared) (words : List (List ℕ)) (s : DeclarationSentence) → header_form words ≡ Some s → IsSentenceAt (BeforeHeader d) words s
found_header d words s e = search rules

given_header : (d : Declared) (words : List (List ℕ)) (s : DeclarationSentence) → IsSentenceAt (BeforeHeader d) words s → header_form words ≡ Some s
given_header d words (Header versions.One) is = ap header_form is
given_header d words (Header versions.Two) is = ap header_form is
given_header d words s is = absurd is

-- ---- parameters

parameters_passed : (words : List (List ℕ)) → are_parameters words ≡ true → AreParameters words
parameters_passed [] e = tt
parameters_passed (name ∷ []) e = absurd (false≢true e)
parameters_passed (name ∷ kind ∷ words) e =
    elim (cases_Bool (is_name name)) [
      | inl named ↦ (passed name named, parameters_passed words (rw named at e))
      | inr unnamed ↦ absurd (false≢true (rw unnamed at e))
    ]

pub parameters_pass : (words : List (List ℕ)) → AreParameters words → are_parameters words ≡ true
parameters_pass [] are = refl
parameters_pass (name ∷ []) are = absurd are
parameters_pass (name ∷ kind ∷ words) (named, are) = rw (passes name named) (parameters_pass words are)

-- ---- what each function gives after the first word, outside a compound

after_user : (rest : List (List ℕ)) (s : DeclarationSentence) → user_form rest ≡ Some s → IsOuterSentence (codes "user" ∷ rest) s
after_user rest s e = search (rules, passed)

after_premise : (rest : List (List ℕ)) (s : DeclarationSentence) → premise_form rest ≡ Some s → IsOuterSentence (codes "premise" ∷ rest) s
after_premise rest s e = search (rules, passed)

after_set : (rest : List (List ℕ)) (s : DeclarationSentence) → set_form rest ≡ Some s → IsOuterSentence (codes "set" ∷ rest) s
after_set [] s e = absurd (let f : None ≡ Some s = e in cc)
after_set (name ∷ members) s e =
    elim (cases_Bool (is_name name)) [
      | inl named ↦
          let e1 = rw named at e in
          elim (cases_Bool (list_all is_name members)) [
            | inl all ↦
                let same : Set name members ≡ s = same_Some _ _ (rw all at e1) in
                subst (IsOuterSentence (codes "set" ∷ name ∷ members)) same (refl, passed name named, all_passed members all)
            | inr not_all ↦ absurd (let e2 : None ≡ Some s = rw not_all at e1 in cc)
          ]
      | inr unnamed ↦ absurd (let e1 : None ≡ Some s = rw unnamed at e in cc)
    ]

after_cell : (rest : List (List ℕ)) (s : DeclarationSentence) → cell_form rest ≡ Some s → IsOuterSentence (codes "cell" ∷ rest) s
after_cell rest s e = search (rules, passed)

after_compound : (rest : List (List ℕ)) (s : DeclarationSentence) → compound_form rest ≡ Some s → IsOuterSentence (codes "compound" ∷ rest) s
after_compound [] s e = absurd (let f : None ≡ Some s = e in cc)
after_compound (name ∷ parameters) s e =
    elim (cases_Bool (is_name name)) [
      | inl named ↦
          let e1 = rw named at e in
          elim (cases_Bool (are_parameters parameters)) [
            | inl all ↦
                let same : Begin name parameters ≡ s = same_Some _ _ (rw all at e1) in
                subst (IsOuterSentence (codes "compound" ∷ name ∷ parameters)) same (refl, passed name named, parameters_passed parameters all)
            | inr not_all ↦ absurd (let e2 : None ≡ Some s = rw not_all at e1 in cc)
          ]
      | inr unnamed ↦ absurd (let e1 : None ≡ Some s = rw unnamed at e in cc)
    ]

-- with a first word that is equal to another it is as with that other
outer_with : (verb word : List ℕ) (rest : List (List ℕ)) (s : DeclarationSentence) → bytes_eq verb word ≡ true → IsOuterSentence (word ∷ rest) s → IsOuterSentence (verb ∷ rest) s
outer_with verb word rest s same h =
    let e : verb ≡ word = (bytes_eq-Decides verb word).0 same in
    subst (λ (w : List ℕ). IsOuterSentence (w ∷ rest) s) (sym e) h

pub found_outer : (words : List (List ℕ)) (s : DeclarationSentence) → outer_sentence_of words ≡ Some s → IsOuterSentence words s
found_outer [] s e = absurd (let f : None ≡ Some s = e in cc)
found_outer (verb ∷ rest) s e =
    elim (cases_Bool (bytes_eq verb (codes "user"))) [
      | inl same1 ↦ outer_with verb (codes "user") rest s same1 (after_user rest s (rw same1 at e))
      | inr other1 ↦
          let e2 = rw other1 at e in
          elim (cases_Bool (bytes_eq verb (codes "premise"))) [
            | inl same2 ↦ outer_with verb (codes "premise") rest s same2 (after_premise rest s (rw same2 at e2))
            | inr other2 ↦
                let e3 = rw other2 at e2 in
                elim (cases_Bool (bytes_eq verb (codes "set"))) [
                  | inl same3 ↦ outer_with verb (codes "set") rest s same3 (after_set rest s (rw same3 at e3))
                  | inr other3 ↦
                      let e4 = rw other3 at e3 in
                      elim (cases_Bool (bytes_eq verb (codes "cell"))) [
                        | inl same4 ↦ outer_with verb (codes "cell") rest s same4 (after_cell rest s (rw same4 at e4))
                        | inr other4 ↦
                            let e5 = rw other4 at e4 in
                            elim (cases_Bool (bytes_eq verb (codes "compound"))) [
                              | inl same5 ↦ outer_with verb (codes "compound") rest s same5 (after_compound rest s (rw same5 at e5))
                              | inr other5 ↦ absurd (let e6 : None ≡ Some s = rw other5 at e5 in cc)
                            ]
                      ]
                ]
          ]
    ]

given_outer : (words : List (List ℕ)) (s : DeclarationSentence) → IsOuterSentence words s → outer_sentence_of words ≡ Some s
given_outer words (User name) e = search (rules, passes)
given_outer words (Premise name) e = search (rules, passes)
given_outer words (PremiseOf name user) e = search (rules, passes)
given_outer words (Set name members) e = search (rules, passes, all_pass)
given_outer words (Cell name kind) e = search (rules, passes)
given_outer words (Begin name parameters) e = search (rules, passes, parameters_pass)
given_outer words s e = absurd e

-- ---- inside a compound

after_local : (rest : List (List ℕ)) (s : DeclarationSentence) → local_form rest ≡ Some s → IsInnerSentence (codes "local" ∷ rest) s
after_local rest s e = search (rules, passed)

after_end : (rest : List (List ℕ)) (s : DeclarationSentence) → end_form rest ≡ Some s → IsInnerSentence (codes "end" ∷ rest) s
after_end rest s e = search rules

inner_with : (verb word : List ℕ) (rest : List (List ℕ)) (s : DeclarationSentence) → bytes_eq verb word ≡ true → IsInnerSentence (word ∷ rest) s → IsInnerSentence (verb ∷ rest) s
inner_with verb word rest s same h =
    let e : verb ≡ word = (bytes_eq-Decides verb word).0 same in
    subst (λ (w : List ℕ). IsInnerSentence (w ∷ rest) s) (sym e) h

-- words that are not equal differ
differs : (verb word : List ℕ) → bytes_eq verb word ≡ false → verb ≡ word → ⊥
differs verb word other e = false≢true (sym other ∙ (bytes_eq-Decides verb word).1 e)

differs_back : (verb word : List ℕ) → (verb ≡ word → ⊥) → bytes_eq verb word ≡ false
differs_back verb word differ =
    elim (cases_Bool (bytes_eq verb word)) [
      | inl same ↦ absurd (differ ((bytes_eq-Decides verb word).0 same))
      | inr other ↦ other
    ]

after_call : (verb : List ℕ) (rest : List (List ℕ)) (s : DeclarationSentence) → bytes_eq verb (codes "local") ≡ false → bytes_eq verb (codes "end") ≡ false →
    call_form verb rest ≡ Some s → IsInnerSentence (verb ∷ rest) s
after_call verb [] s not_local not_end e = absurd (let f : None ≡ Some s = e in cc)
after_call verb (word ∷ words) s not_local not_end e =
    let same : Call verb (word ∷ words) ≡ s = same_Some _ _ e in
    subst (IsInnerSentence (verb ∷ word ∷ words)) same (refl, differs verb (codes "local") not_local, differs verb (codes "end") not_end, λ none. cc)

pub found_inner : (words : List (List ℕ)) (s : DeclarationSentence) → inner_sentence_of words ≡ Some s → IsInnerSentence words s
found_inner [] s e = absurd (let f : None ≡ Some s = e in cc)
found_inner (verb ∷ rest) s e =
    elim (cases_Bool (bytes_eq verb (codes "local"))) [
      | inl same1 ↦ inner_with verb (codes "local") rest s same1 (after_local rest s (rw same1 at e))
      | inr other1 ↦
          let e2 = rw other1 at e in
          elim (cases_Bool (bytes_eq verb (codes "end"))) [
            | inl same2 ↦ inner_with verb (codes "end") rest s same2 (after_end rest s (rw same2 at e2))
            | inr other2 ↦ after_call verb rest s other1 other2 (rw other2 at e2)
          ]
    ]

given_call : (callable : List ℕ) (arguments : List (List ℕ)) → (arguments ≡ [] → ⊥) → call_form callable arguments ≡ Some (Call callable arguments)
given_call callable [] some = absurd (some refl)
given_call callable (word ∷ words) some = refl

given_inner : (words : List (List ℕ)) (s : DeclarationSentence) → IsInnerSentence words s → inner_sentence_of words ≡ Some s
given_inner words (Local name kind) e = search (rules, passes)
given_inner words (Call callable arguments) (is, not_local, not_end, some) =
    ap inner_sentence_of is
    ∙ rw (differs_back callable (codes "local") not_local, differs_back callable (codes "end") not_end) (given_call callable arguments some)
given_inner words End e = search rules
given_inner words s e = absurd e

-- ---- the place of the line

-- the function gives a sentence that the words form
pub found : (so_far : SoFar) (words : List (List ℕ)) (s : DeclarationSentence) → sentence_at so_far words ≡ Some s → IsSentenceAt so_far words s
found (BeforeHeader d) words s e = found_header d words s e
found (Outside d) words s e = found_outer words s e
found (Inside d opened) words s e = found_inner words s e

-- the function gives each sentence that the words form
pub given : (so_far : SoFar) (words : List (List ℕ)) (s : DeclarationSentence) → IsSentenceAt so_far words s → sentence_at so_far words ≡ Some s
given (BeforeHeader d) words s e = given_header d words s e
given (Outside d) words s e = given_outer words s e
given (Inside d opened) words s e = given_inner words s e

pub one_sentence : (so_far : SoFar) (words : List (List ℕ)) (s t : DeclarationSentence) → IsSentenceAt so_far words s → IsSentenceAt so_far words t → s ≡ t
one_sentence so_far words s t p q = same_Some s t (sym (given so_far words s p) ∙ given so_far words t q)

pub exact : (so_far : SoFar) (words : List (List ℕ)) (s : DeclarationSentence) → IsSentenceAt so_far words s ↔ (sentence_at so_far words ≡ Some s)
exact so_far words s = (given so_far words s, found so_far words s)

-- ---- what a sentence makes

-- a word names one kind at most
same_kind : (d : Declared) (word : List ℕ) (j k : Kind) → NamesKind d word j → NamesKind d word k → j ≡ k
same_kind d word kinds.Interval kinds.Interval p q = refl
same_kind d word kinds.Interval kinds.Exact p q = absurd (omega (arith, same_Some _ _ (sym p ∙ q)))
same_kind d word kinds.Interval (kinds.Members t) p q = absurd (omega (arith, same_Some _ _ (sym p ∙ q.0)))
same_kind d word kinds.Exact kinds.Interval p q = absurd (omega (arith, same_Some _ _ (sym p ∙ q)))
same_kind d word kinds.Exact kinds.Exact p q = refl
same_kind d word kinds.Exact (kinds.Members t) p q = absurd (omega (arith, same_Some _ _ (sym p ∙ q.0)))
same_kind d word (kinds.Members s) kinds.Interval p q = absurd (omega (arith, same_Some _ _ (sym p.0 ∙ q)))
same_kind d word (kinds.Members s) kinds.Exact p q = absurd (omega (arith, same_Some _ _ (sym p.0 ∙ q)))
same_kind d word (kinds.Members s) (kinds.Members t) p q =
    let number : s.number ≡ t.number = omega (arith, same_Some _ _ (sym p.0 ∙ q.0)) in
    same_set s t number (sym p.1 ∙ ap (λ n. length (members_of d n)) number ∙ q.1)

-- words name one list of kinds at most
pub same_kinds : (d : Declared) (words : List (List ℕ)) (js ks : List Kind) → NameKinds d words js → NameKinds d words ks → js ≡ ks
same_kinds d [] [] [] p q = refl
same_kinds d (word ∷ words) (j ∷ js) (k ∷ ks) (p, ps) (q, qs) =
    ap (λ (x : Kind). x ∷ js) (same_kind d word j k p q) ∙ ap (λ (l : List Kind). k ∷ l) (same_kinds d words js ks ps qs)
same_kinds d [] (j ∷ js) ks p q = absurd p
same_kinds d [] [] (k ∷ ks) p q = absurd q
same_kinds d (word ∷ words) [] ks p q = absurd p
same_kinds d (word ∷ words) (j ∷ js) [] p q = absurd q

-- a sentence makes one thing at most
pub one_made : (so_far : SoFar) (s : DeclarationSentence) (a b : SoFar) → Makes so_far s a → Makes so_far s b → a ≡ b
one_made (BeforeHeader d) (Header version) a b p q = p ∙ sym q
one_made (Outside d) (User name) a b p q = p ∙ sym q
one_made (Outside d) (Premise name) a b p q = p ∙ sym q
one_made (Outside d) (PremiseOf name user) a b p q =
    let same : p.0 ≡ q.0 = same_Some p.0 q.0 (sym p.1 ∙ q.1) in
    p.2 ∙ ap (λ (owner : ℕ). Outside (with_premise d name (Some owner))) same ∙ sym q.2
one_made (Outside d) (Set name members) a b p q = p ∙ sym q
one_made (Outside d) (Cell name word) a b p q =
    let same = same_kind d word p.0 q.0 p.1 q.1 in
    p.2 ∙ ap (λ (kind : Kind). Outside (with_cell d name kind)) same ∙ sym q.2
one_made (Outside d) (Begin name parameters) a b p q =
    let same = same_kinds d (parameter_kinds parameters) p.0 q.0 p.1 q.1 in
    p.2 ∙ ap (λ (kinds : List Kind). Inside d (begun name (parameter_names parameters) kinds)) same ∙ sym q.2
one_made (Inside d opened) (Local name word) a b p q =
    let same = same_kind d word p.0 q.0 p.1 q.1 in
    p.2 ∙ ap (λ (kind : Kind). Inside d (with_local opened name kind)) same ∙ sym q.2
one_made (Inside d opened) (Call word arguments) a b p q =
    let same : p.0 ≡ q.0 = same_Some p.0 q.0 (sym p.1 ∙ q.1) in
    p.2 ∙ ap (λ (callable : Callable). Inside d (with_call opened callable (places_of opened arguments))) same ∙ sym q.2
one_made (Inside d opened) End a b p q = p ∙ sym q
one_made so_far s a b p q = absurd p

-- a line without fault leads to one thing
pub one_declared : (so_far : SoFar) (line : List ℕ) (a b : SoFar) → Declares so_far line a → Declares so_far line b → a ≡ b
one_declared so_far line a b (p, q) (p', q') = same_step so_far line a b q q'
  where
    same_step : (so_far : SoFar) (line : List ℕ) (a b : SoFar) →
        (((is_idle line ≡ true) × (a ≡ so_far)) ⊎ ((s : DeclarationSentence) × SaysInPlace so_far line s × Makes so_far s a)) →
        (((is_idle line ≡ true) × (b ≡ so_far)) ⊎ ((s : DeclarationSentence) × SaysInPlace so_far line s × Makes so_far s b)) → a ≡ b
    same_step so_far line a b (inl p) (inl q) = p.1 ∙ sym q.1
    same_step so_far line a b (inl p) (inr q) = absurd (false≢true (sym q.1.spoken ∙ p.0))
    same_step so_far line a b (inr p) (inl q) = absurd (false≢true (sym p.1.spoken ∙ q.0))
    same_step so_far line a b (inr p) (inr q) =
        let e = one_sentence so_far (words_of line) p.0 q.0 p.1.words q.1.words in
        let made : Makes so_far q.0 a = subst (λ (s : DeclarationSentence). Makes so_far s a) e p.2 in
        one_made so_far q.0 a b made q.2

-- lines without fault lead to one thing
pub one_led : (so_far : SoFar) (lines : List (List ℕ)) (a b : SoFar) → Leads so_far lines a → Leads so_far lines b → a ≡ b
one_led so_far [] a b p q = p ∙ sym q
one_led so_far (line ∷ lines) a b (m, p, ps) (n, q, qs) =
    let e = one_declared so_far line m n p q in
    one_led n lines a b (subst (λ (x : SoFar). Leads x lines a) e ps) qs

pub outside_is : (a b : Declared) → Outside a ≡ Outside b → a ≡ b
outside_is a b e = cc

-- lines without fault that lead out of every compound lead to one declaration
one_led_outside : (so_far : SoFar) (lines : List (List ℕ)) (a b : Declared) → Leads so_far lines (Outside a) → Leads so_far lines (Outside b) → a ≡ b
one_led_outside so_far lines a b p q = outside_is a b (one_led so_far lines (Outside a) (Outside b) p q)

-- the prelude declares one thing at most
one_known : (ps : List Procedure) (a b : Declared) → PreludeDeclares ps a → PreludeDeclares ps b → a ≡ b
one_known ps a b p q = one_led_outside (Outside (nothing_declared ps)) (lines_of prelude_text) a b p q

pub one_spelled : (ps : List Procedure) (text : List ℕ) (a b : Declared) → SpellsDeclaration ps text a → SpellsDeclaration ps text b → a ≡ b
one_spelled ps text a b p q =
    let same = one_known ps p.known q.known p.prelude q.prelude in
    let leads = subst (λ (known : Declared). Leads (BeforeHeader known) (lines_of text) (Outside a)) same p.leads in
    one_led_outside (BeforeHeader q.known) (lines_of text) a b leads q.leads

-- ---- the first fault

-- one thing is wrong after the last line
same_end : (s : SoFar) (why because : DeclFaultKind) → IsUnfinished s why → IsUnfinished s because → why ≡ because
same_end (BeforeHeader d) why because p q = p ∙ sym q
same_end (Outside d) why because p q = absurd p
same_end (Inside d opened) why because p q = p ∙ sym q

-- lines that are led over have no fault among them, and a fault has one place
pub one_place : (start : SoFar) (xs ys rest rest' : List (List ℕ)) (s s' : SoFar) (why why' : DeclFaultKind) →
    xs ++ rest ≡ ys ++ rest' → Leads start xs s → IsFaultNext s rest why → Leads start ys s' → IsFaultNext s' rest' why' →
    (length xs ≡ length ys) × (why ≡ why')
one_place start [] [] [] [] s s' why why' e p f q g =
    (refl, same_end start why why' (subst (λ (x : SoFar). IsUnfinished x why) p f) (subst (λ (x : SoFar). IsUnfinished x why') q g))
one_place start [] [] (l ∷ ls) (l' ∷ ls') s s' why why' e p f q g =
    let same_line : l ≡ l' = cc in
    let first : IsFirstFaultOf start l f.0 = subst (λ (x : SoFar). IsFirstFaultOf x l f.0) p f.1 in
    let second : IsFirstFaultOf start l g.0 = subst (λ (x : List ℕ). IsFirstFaultOf start x g.0) (sym same_line) (subst (λ (x : SoFar). IsFirstFaultOf x l' g.0) q g.1) in
    (refl, f.2 ∙ ap kind_of_fault (one_first (FaultApplies start l) line_faults f.0 g.0 first second) ∙ sym g.2)
one_place start [] [] [] (l' ∷ ls') s s' why why' e p f q g = absurd cc
one_place start [] [] (l ∷ ls) [] s s' why why' e p f q g = absurd cc
one_place start [] (y ∷ ys) [] rest' s s' why why' e p f q g = absurd cc
one_place start [] (y ∷ ys) (l ∷ ls) rest' s s' why why' e p f q g =
    let same_line : l ≡ y = cc in
    let first : IsFirstFaultOf start y f.0 = subst (λ (x : List ℕ). IsFirstFaultOf start x f.0) same_line (subst (λ (x : SoFar). IsFirstFaultOf x l f.0) p f.1) in
    absurd (none_is_first (FaultApplies start y) line_faults f.0 q.1.0 first)
one_place start (x ∷ xs) [] rest [] s s' why why' e p f q g = absurd cc
one_place start (x ∷ xs) [] rest (l ∷ ls) s s' why why' e p f q g =
    let same_line : l ≡ x = cc in
    let first : IsFirstFaultOf start x g.0 = subst (λ (z : List ℕ). IsFirstFaultOf start z g.0) same_line (subst (λ (z : SoFar). IsFirstFaultOf z l g.0) q g.1) in
    absurd (none_is_first (FaultApplies start x) line_faults g.0 p.1.0 first)
one_place start (x ∷ xs) (y ∷ ys) rest rest' s s' why why' e (m, p, ps) f (n, q, qs) g =
    let same_line : x ≡ y = cc in
    let same_rest : xs ++ rest ≡ ys ++ rest' = cc in
    let met = one_declared start y m n (subst (λ (z : List ℕ). Declares start z m) same_line p) q in
    let found = one_place n xs ys rest rest' s s' why why' same_rest (subst (λ (z : SoFar). Leads z xs s) met ps) f qs g in
    (ap (λ k. suc k) found.0, found.1)

-- lines have one first fault
one_among : (start : SoFar) (lines : List (List ℕ)) (m n : ℕ) (why because : DeclFaultKind) →
    IsFaultAmong start lines m why → IsFaultAmong start lines n because → (m ≡ n) × (why ≡ because)
one_among start lines m n why because p q =
    let same = one_place start p.before q.before p.rest q.rest p.so_far q.so_far why because (sym p.parts ∙ q.parts) p.leads p.fault q.leads q.fault in
    (p.count ∙ ap (λ k. k + 1) same.0 ∙ sym q.count, same.1)

-- lines that lead to a declaration have no fault next, anywhere among them
pub no_fault : (start : SoFar) (xs rest : List (List ℕ)) (s : SoFar) (why : DeclFaultKind) (d : Declared) →
    Leads start xs s → IsFaultNext s rest why → Leads start (xs ++ rest) (Outside d) → ⊥
no_fault start [] [] s why d p f q = subst (λ (x : SoFar). IsUnfinished x why) (p ∙ sym q) f
no_fault start [] (l ∷ ls) s why d p f q =
    none_is_first (FaultApplies start l) line_faults f.0 q.1.0 (subst (λ (x : SoFar). IsFirstFaultOf x l f.0) p f.1)
no_fault start (x ∷ xs) rest s why d (m, p, ps) f (n, q, qs) =
    let met = one_declared start x m n p q in
    no_fault n xs rest s why d (subst (λ (z : SoFar). Leads z xs s) met ps) f qs

none_among : (start : SoFar) (lines : List (List ℕ)) (n : ℕ) (why : DeclFaultKind) (d : Declared) →
    IsFaultAmong start lines n why → Leads start lines (Outside d) → ⊥
none_among start lines n why d p q =
    no_fault start p.before p.rest p.so_far why d p.leads p.fault (subst (λ (x : List (List ℕ)). Leads start x (Outside d)) p.parts q)

-- a prelude with a fault declares nothing
no_known : (ps : List Procedure) (n : ℕ) (why : DeclFaultKind) (d : Declared) →
    IsFaultAmong (Outside (nothing_declared ps)) (lines_of prelude_text) n why → PreludeDeclares ps d → ⊥
no_known ps n why d p q = none_among (Outside (nothing_declared ps)) (lines_of prelude_text) n why d p q

one_on_line : (ps : List Procedure) (text : List ℕ) (m n : ℕ) (why because : DeclFaultKind) →
    IsFaultOnLine ps text m why → IsFaultOnLine ps text n because → (m ≡ n) × (why ≡ because)
one_on_line ps text m n why because p q =
    let same = one_known ps p.known q.known p.prelude q.prelude in
    let among = subst (λ (known : Declared). IsFaultAmong (BeforeHeader known) (lines_of text) m why) same p.among in
    one_among (BeforeHeader q.known) (lines_of text) m n why because among q.among

pub one_fault : (ps : List Procedure) (text : List ℕ) (m n : ℕ) (why because : DeclFaultKind) →
    IsFirstFault ps text m why → IsFirstFault ps text n because → (m ≡ n) × (why ≡ because)
one_fault ps text m n why because (inl p) (inl q) = (p.1 ∙ sym q.1, p.2 ∙ sym q.2)
one_fault ps text m n why because (inl p) (inr q) = absurd (let long = p.0 in let short = q.0 in omega arith)
one_fault ps text m n why because (inr p) (inl q) = absurd (let long = q.0 in let short = p.0 in omega arith)
one_fault ps text m n why because (inr (short, inl p)) (inr (short', inl q)) = (
  p.0 ∙ sym q.0,
  (one_among (Outside (nothing_declared ps)) (lines_of prelude_text) p.1.0 q.1.0 why because p.1.1 q.1.1).1,
)
one_fault ps text m n why because (inr (short, inl p)) (inr (short', inr q)) = absurd (no_known ps p.1.0 why q.known p.1.1 q.prelude)
one_fault ps text m n why because (inr (short, inr p)) (inr (short', inl q)) = absurd (no_known ps q.1.0 because p.known q.1.1 p.prelude)
one_fault ps text m n why because (inr (short, inr p)) (inr (short', inr q)) = one_on_line ps text m n why because p q

pub not_both : (ps : List Procedure) (text : List ℕ) (n : ℕ) (why : DeclFaultKind) (d : Declared) → IsFirstFault ps text n why → SpellsDeclaration ps text d → ⊥
not_both ps text n why d (inl p) q = let long = p.0 in let short = q.short in omega arith
not_both ps text n why d (inr (short, inl p)) q = no_known ps p.1.0 why q.known p.1.1 q.prelude
not_both ps text n why d (inr (short, inr p)) q =
    let same = one_known ps p.known q.known p.prelude q.prelude in
    let among = subst (λ (known : Declared). IsFaultAmong (BeforeHeader known) (lines_of text) n why) same p.among in
    none_among (BeforeHeader q.known) (lines_of text) n why d among q.leads
