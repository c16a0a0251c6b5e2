-- The relation of words and sentence, and the function, agree.
use Rattle.std.proofs.Common.{◌≡◌, ◌≢◌, ℕ, ◌<◌, true, false, List, [], ◌∷◌, ◌++◌, length, map, Option, None, Some, refl, sym, ap, ◌∙◌, subst, inl, inr, arith, rules}
use Rattle.std.specs.Prelude.{option_map, codes}
use Rattle.std.proofs.lemmas.Bool.{and_from, and_parts, cases_Bool, false≢true}
use Rattle.std.proofs.lemmas.Slice.Eq.{bytes_eq-Decides}
use Rattle.std.specs.List.{AllByRecursion, list_all}
use Rattle.std.specs.Str.{bytes_eq}
use Rattle.pw_info.specs.GroupNames.{names_in}
use Rattle.pw_transcript.specs.Sentence.{Said, Tell, Attach, Believe, Doubt, Beliefs, Ask, Why, Choose, Conflicts, Other, Sentence, command_names, NamesNoCommand, IsUnder, AreNoUnder, IsSaid, IsSentence}
use Rattle.pw_transcript.specs.GroupNames.{IsNameGroup, text_of_group}
use Rattle.pw_transcript.specs.inside.Grouping.{is_group_word}
use Rattle.pw_transcript.proofs.GroupTexts.{names_of_text, text_is_group, text_of_names_in, word_is_group}
use Rattle.pw_transcript.specs.inside.Forms.{under_form, tell_form, before_under, from_under, attach_form, premises_form, bare_form, cell_form, choose_form, said_form, HasCells, sentence_by, sentence_form}

-- words that differ are found to differ
differ : (a b : List ℕ) → a ≢ b → bytes_eq a b ≡ false
differ a b apart = elim (cases_Bool (bytes_eq a b)) [
  | inl same ↦ absurd (apart ((bytes_eq-Decides a b).0 same))
  | inr other ↦ other
]

-- words that are found to differ do
apart : (a b : List ℕ) → bytes_eq a b ≡ false → a ≢ b
apart a b other same = false≢true (sym other ∙ (bytes_eq-Decides a b).1 same)

-- a word that is found to differ from all of these is not one of them
none_of : (word : List ℕ) (names : List (List ℕ)) → AllByRecursion (λ name. bytes_eq word name ≡ false) names → AllByRecursion (λ name. word ≢ name) names
none_of word [] none = tt
none_of word (name ∷ names) none = (apart word name none.0, none_of word names none.1)

-- ---- the cells of an attach, and what comes after them

-- the words before the first `under` and the words from it on are all the words
parts : (words : List (List ℕ)) → words ≡ before_under words ++ from_under words
parts [] = refl
parts (word ∷ words) = elim (cases_Bool (bytes_eq word (codes "under"))) [
  | inl ends ↦ rw ends refl
  | inr more ↦ rw more (ap (λ (l : List (List ℕ)). word ∷ l) (parts words))
]

-- before the first `under` there is none
no_under : (words : List (List ℕ)) → AreNoUnder (before_under words)
no_under [] = tt
no_under (word ∷ words) = elim (cases_Bool (bytes_eq word (codes "under"))) [
  | inl ends ↦ rw ends tt
  | inr more ↦ rw more (apart word (codes "under") more, no_under words)
]

-- what begins with `under`, or is empty, has no word before it
no_cell : (tail premises : List (List ℕ)) → IsUnder tail premises → (before_under tail ≡ []) × (from_under tail ≡ tail)
no_cell tail [] is = rw is (refl, refl)
no_cell tail (premise ∷ premises) is = rw is (refl, refl)

-- words of which none is `under` come before it
cells_first : (cells tail premises : List (List ℕ)) → AreNoUnder cells → IsUnder tail premises →
    (before_under (cells ++ tail) ≡ cells) × (from_under (cells ++ tail) ≡ tail)
cells_first [] tail premises none under = no_cell tail premises under
cells_first (cell ∷ cells) tail premises none under =
    let rest = cells_first cells tail premises none.1 under in
    rw (differ cell (codes "under") none.0) (ap (λ (l : List (List ℕ)). cell ∷ l) rest.0, rest.1)

-- the end of a command gives its premises
given_under : (tail premises : List (List ℕ)) → IsUnder tail premises → under_form tail ≡ Some premises
given_under tail premises is = search rules

-- and anything that gives premises is an end of this form
found_under : (tail premises : List (List ℕ)) → under_form tail ≡ Some premises → IsUnder tail premises
found_under tail premises is = search rules

-- a callable, cells and an end of this form give an attach
given_attach : (callable : List ℕ) (cells tail premises : List (List ℕ)) → 0 < length cells → AreNoUnder cells → IsUnder tail premises →
    attach_form (callable ∷ cells ++ tail) ≡ Some (Attach callable cells premises)
given_attach callable [] tail premises some none under = absurd (omega arith)
given_attach callable (cell ∷ cells) tail premises some none under =
    let rest = cells_first cells tail premises none.1 under in
    rw (differ cell (codes "under") none.0)
    (ap (λ (l : List (List ℕ)). option_map (Attach callable (cell ∷ l)) (under_form (from_under (cells ++ tail)))) rest.0
    ∙ ap (λ (l : List (List ℕ)). option_map (Attach callable (cell ∷ cells)) (under_form l)) rest.1
    ∙ ap (option_map (Attach callable (cell ∷ cells))) (given_under tail premises under))

-- ---- the groups of a choose

groups_found : (groups : List (List (List ℕ))) → AllByRecursion IsNameGroup groups → list_all is_group_word (map text_of_group groups) ≡ true
groups_found [] are = refl
groups_found (names ∷ groups) are =
    and_from (is_group_word (text_of_group names)) (list_all is_group_word (map text_of_group groups)) (text_is_group names are.0) (groups_found groups are.1)

same_names : (groups : List (List (List ℕ))) → AllByRecursion IsNameGroup groups → map names_in (map text_of_group groups) ≡ groups
same_names [] are = refl
same_names (names ∷ groups) are =
    ap (λ (l : List (List ℕ)). l ∷ map names_in (map text_of_group groups)) (names_of_text names are.0)
    ∙ ap (λ (l : List (List (List ℕ))). names ∷ l) (same_names groups are.1)

-- groups as they are written give a choose
given_choose : (groups : List (List (List ℕ))) → 0 < length groups → AllByRecursion IsNameGroup groups → choose_form (map text_of_group groups) ≡ Some (Choose groups)
given_choose [] some are = absurd (omega arith)
given_choose (names ∷ groups) some are =
    rw (groups_found (names ∷ groups) are) (ap (λ (l : List (List (List ℕ))). Some (Choose l)) (same_names (names ∷ groups) are))

words_are_groups : (words : List (List ℕ)) → list_all is_group_word words ≡ true → AllByRecursion IsNameGroup (map names_in words)
words_are_groups [] all = tt
words_are_groups (word ∷ words) all =
    let both = and_parts (is_group_word word) (list_all is_group_word words) all in
    (word_is_group word both.0, words_are_groups words both.1)

same_words : (words : List (List ℕ)) → words ≡ map text_of_group (map names_in words)
same_words [] = refl
same_words (word ∷ words) =
    ap (λ (l : List ℕ). l ∷ words) (sym (text_of_names_in word))
    ∙ ap (λ (l : List (List ℕ)). text_of_group (names_in word) ∷ l) (same_words words)

-- and anything that gives a choose is groups as they are written
found_choose : (rest : List (List ℕ)) (said : Said) → choose_form rest ≡ Some said → IsSaid (codes "choose" ∷ rest) said
found_choose [] said is = absurd (cc)
found_choose (word ∷ words) said is = elim (cases_Bool (list_all is_group_word (word ∷ words))) [
  | inl all ↦
      let found : Some (Choose (map names_in (word ∷ words))) ≡ Some said = rw all at is in
      let same : Choose (map names_in (word ∷ words)) ≡ said = cc in
      subst (IsSaid (codes "choose" ∷ word ∷ words)) same
      (ap (λ (l : List (List ℕ)). codes "choose" ∷ l) (same_words (word ∷ words)), omega arith, words_are_groups (word ∷ words) all)
  | inr some ↦ let none : None ≡ Some said = rw some at is in absurd (cc)
]

-- what comes after the user, as one list
abbrev after_user : List (List ℕ) → Option Said
after_user [] = None
after_user (name ∷ rest) = said_form name rest

other_form : (name : List ℕ) (rest : List (List ℕ)) → NamesNoCommand name → said_form name rest ≡ Some Other
other_form name rest (no_tell, (no_attach, (no_believe, (no_doubt, (no_beliefs, (no_ask, (no_why, (no_conflicts, (no_choose, none))))))))) =
    rw (
      differ name (codes "tell") no_tell,
      differ name (codes "attach") no_attach,
      differ name (codes "believe") no_believe,
      differ name (codes "doubt") no_doubt,
      differ name (codes "beliefs") no_beliefs,
      differ name (codes "ask") no_ask,
      differ name (codes "why") no_why,
      differ name (codes "conflicts") no_conflicts,
      differ name (codes "choose") no_choose,
    ) refl

given_said : (words : List (List ℕ)) (said : Said) → IsSaid words said → after_user words ≡ Some said
given_said words (Tell cell info premises) is = search rules
given_said words (Attach callable cells premises) (tail, is, some, none, under) = ap after_user is ∙ given_attach callable cells tail premises some none under
given_said words (Believe premises) is = search rules
given_said words (Doubt premises) is = search rules
given_said words Beliefs is = search rules
given_said words (Ask cell) is = search rules
given_said words (Why cell) is = search rules
given_said words Conflicts is = search rules
given_said words (Choose groups) (is, some, are) = ap after_user is ∙ given_choose groups some are
given_said words Other (word, rest, is, none) = ap after_user is ∙ other_form word rest none

form_after : (user : List ℕ) (rest : List (List ℕ)) → sentence_form (user ∷ rest) ≡ option_map (sentence_by user) (after_user rest)
form_after user [] = refl
form_after user (name ∷ rest) = refl

-- the relation gives the function's answer
pub given : (words : List (List ℕ)) (sentence : Sentence) → IsSentence words sentence → sentence_form words ≡ Some sentence
given words sentence (rest, is, said) =
    ap sentence_form is ∙ form_after sentence.user rest ∙ ap (option_map (sentence_by sentence.user)) (given_said rest sentence.said said)

found_tell : (rest : List (List ℕ)) (said : Said) → tell_form rest ≡ Some said → IsSaid (codes "tell" ∷ rest) said
found_tell rest said is = search rules

-- if there are premises, or none is wanted, the cells and the premises make an attach
attached : (callable cell : List ℕ) (words : List (List ℕ)) (o : Option (List (List ℕ))) (said : Said) → bytes_eq cell (codes "under") ≡ false →
    under_form (from_under words) ≡ o → option_map (Attach callable (cell ∷ before_under words)) o ≡ Some said → IsSaid (codes "attach" ∷ callable ∷ cell ∷ words) said
attached callable cell words None said more under is = absurd (cc)
attached callable cell words (Some premises) said more under is =
    let same : Attach callable (cell ∷ before_under words) premises ≡ said = cc in
    subst (IsSaid (codes "attach" ∷ callable ∷ cell ∷ words)) same
    (from_under words, ap (λ (l : List (List ℕ)). codes "attach" ∷ callable ∷ cell ∷ l) (parts words), omega arith, (apart cell (codes "under") more, no_under words), found_under (from_under words) premises under)

-- and anything that gives an attach is a callable, cells and an end of this form
found_attach : (rest : List (List ℕ)) (said : Said) → attach_form rest ≡ Some said → IsSaid (codes "attach" ∷ rest) said
found_attach [] said is = absurd (cc)
found_attach (callable ∷ []) said is = absurd (cc)
found_attach (callable ∷ cell ∷ words) said is = elim (cases_Bool (bytes_eq cell (codes "under"))) [
  | inl ends ↦ let none : None ≡ Some said = rw ends at is in absurd (cc)
  | inr more ↦ attached callable cell words (under_form (from_under words)) said more refl (rw more at is)
]

found_believe : (rest : List (List ℕ)) (said : Said) → premises_form Believe rest ≡ Some said → IsSaid (codes "believe" ∷ rest) said
found_believe rest said is = search rules

found_doubt : (rest : List (List ℕ)) (said : Said) → premises_form Doubt rest ≡ Some said → IsSaid (codes "doubt" ∷ rest) said
found_doubt rest said is = search rules

found_beliefs : (rest : List (List ℕ)) (said : Said) → bare_form Beliefs rest ≡ Some said → IsSaid (codes "beliefs" ∷ rest) said
found_beliefs rest said is = search rules

found_ask : (rest : List (List ℕ)) (said : Said) → cell_form Ask rest ≡ Some said → IsSaid (codes "ask" ∷ rest) said
found_ask rest said is = search rules

found_why : (rest : List (List ℕ)) (said : Said) → cell_form Why rest ≡ Some said → IsSaid (codes "why" ∷ rest) said
found_why rest said is = search rules

found_conflicts : (rest : List (List ℕ)) (said : Said) → bare_form Conflicts rest ≡ Some said → IsSaid (codes "conflicts" ∷ rest) said
found_conflicts rest said is = search rules

-- a command that is found by its name
named : (name word : List ℕ) (rest : List (List ℕ)) (said : Said) → bytes_eq name word ≡ true → IsSaid (word ∷ rest) said → IsSaid (name ∷ rest) said
named name word rest said same is = subst (λ (w : List ℕ). IsSaid (w ∷ rest) said) (sym ((bytes_eq-Decides name word).0 same)) is

found_said : (name : List ℕ) (rest : List (List ℕ)) (said : Said) → said_form name rest ≡ Some said → IsSaid (name ∷ rest) said
found_said name rest said is = elim (cases_Bool (bytes_eq name (codes "tell"))) [
  | inl same ↦ named name (codes "tell") rest said same (found_tell rest said (rw same at is))
  | inr no_tell ↦ elim (cases_Bool (bytes_eq name (codes "attach"))) [
    | inl same ↦ named name (codes "attach") rest said same (found_attach rest said (rw (no_tell, same) at is))
    | inr no_attach ↦ elim (cases_Bool (bytes_eq name (codes "believe"))) [
      | inl same ↦ named name (codes "believe") rest said same (found_believe rest said (rw (no_tell, no_attach, same) at is))
      | inr no_believe ↦ elim (cases_Bool (bytes_eq name (codes "doubt"))) [
        | inl same ↦ named name (codes "doubt") rest said same (found_doubt rest said (rw (no_tell, no_attach, no_believe, same) at is))
        | inr no_doubt ↦ elim (cases_Bool (bytes_eq name (codes "beliefs"))) [
          | inl same ↦ named name (codes "beliefs") rest said same (found_beliefs rest said (rw (no_tell, no_attach, no_believe, no_doubt, same) at is))
          | inr no_beliefs ↦ elim (cases_Bool (bytes_eq name (codes "ask"))) [
            | inl same ↦ named name (codes "ask") rest said same
                (found_ask rest said (rw (no_tell, no_attach, no_believe, no_doubt, no_beliefs, same) at is))
            | inr no_ask ↦ elim (cases_Bool (bytes_eq name (codes "why"))) [
              | inl same ↦ named name (codes "why") rest said same
                  (found_why rest said (rw (no_tell, no_attach, no_believe, no_doubt, no_beliefs, no_ask, same) at is))
              | inr no_why ↦ elim (cases_Bool (bytes_eq name (codes "conflicts"))) [
                | inl same ↦ named name (codes "conflicts") rest said same
                    (found_conflicts rest said (rw (no_tell, no_attach, no_believe, no_doubt, no_beliefs, no_ask, no_why, same) at is))
                | inr no_conflicts ↦ elim (cases_Bool (bytes_eq name (codes "choose"))) [
                  | inl same ↦ named name (codes "choose") rest said same
                      (found_choose rest said (rw (no_tell, no_attach, no_believe, no_doubt, no_beliefs, no_ask, no_why, no_conflicts, same) at is))
                  | inr no_choose ↦
                      let other : Some Other ≡ Some said =
                      rw (no_tell, no_attach, no_believe, no_doubt, no_beliefs, no_ask, no_why, no_conflicts, no_choose) at is in
                      let same : Other ≡ said = cc in
                      let none = none_of name command_names
                      (no_tell, (no_attach, (no_believe, (no_doubt, (no_beliefs, (no_ask, (no_why, (no_conflicts, (no_choose, tt))))))))) in
                      subst (IsSaid (name ∷ rest)) same (name, rest, refl, none)
                ]
              ]
            ]
          ]
        ]
      ]
    ]
  ]
]

-- what comes after a user makes one sentence
made : (user : List ℕ) (o : Option Said) (sentence : Sentence) → option_map (sentence_by user) o ≡ Some sentence →
    (said : Said) × (o ≡ Some said) × (sentence ≡ sentence_by user said)
made user None sentence is = absurd (cc)
made user (Some said) sentence is = let same : sentence_by user said ≡ sentence = cc in (said, refl, sym same)

-- and the function's answer meets the relation
pub found : (words : List (List ℕ)) (sentence : Sentence) → sentence_form words ≡ Some sentence → IsSentence words sentence
found [] sentence is = absurd (cc)
found (user ∷ []) sentence is = absurd (cc)
found (user ∷ name ∷ rest) sentence is =
    let step = made user (said_form name rest) sentence is in
    subst (IsSentence (user ∷ name ∷ rest)) (sym step.2) (name ∷ rest, refl, found_said name rest step.0 step.1)

-- so the words form at most one sentence
pub one_sentence : (words : List (List ℕ)) (s t : Sentence) → IsSentence words s → IsSentence words t → s ≡ t
one_sentence words s t is other = let same = sym (given words s is) ∙ given words t other in cc

-- ---- an attach has a cell

has_cells : (words : List (List ℕ)) (said : Said) → IsSaid words said → HasCells said
has_cells words (Tell cell info premises) is = tt
has_cells words (Attach callable cells premises) (tail, is, some, none, under) = some
has_cells words (Believe premises) is = tt
has_cells words (Doubt premises) is = tt
has_cells words Beliefs is = tt
has_cells words (Ask cell) is = tt
has_cells words (Why cell) is = tt
has_cells words Conflicts is = tt
has_cells words (Choose groups) is = tt
has_cells words Other is = tt

pub form_has_cells : (words : List (List ℕ)) (sentence : Sentence) → sentence_form words ≡ Some sentence → HasCells sentence.said
form_has_cells words sentence is =
    let (rest, parts, said) = found words sentence is in
    has_cells rest sentence.said said
