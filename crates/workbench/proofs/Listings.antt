-- The lines of a listing name what the text declares.
use Rattle.std.proofs.Common.{◌≡◌, ℕ, Bool, true, false, List, [], ◌∷◌, ◌++◌, codes, drop, filter, map, refl, sym, ap, ◌∙◌, subst, inl, inr, append-nil, append_assoc}
use Rattle.std.specs.Prelude.{Result, Ok, Err, OnOk, IfErr}
use Rattle.std.specs.Str.{bytes_eq}
use Rattle.std.proofs.lemmas.Slice.Eq.{bytes_eq-Decides}
use Rattle.pw_info.specs.Lines.{lines_of}
use Rattle.pw_info.specs.Words.{words_of, is_idle}
use Rattle.pw_procs.specs.Procedure.{Procedure}
use Rattle.pw_decl.specs.Declaration.{Declared, SoFar, BeforeHeader, Outside, Inside, DeclarationSentence, Header, User, Premise, PremiseOf, Set, Cell, Begin, Local, Call, End, IsSentenceAt, Makes}
use Rattle.pw_decl.specs.Declaration.{with_user, with_premise, with_set, with_cell, with_compound, with_local, with_version}
use Rattle.pw_decl.specs.Faults.{Leads, SpellsDeclaration}
use Rattle.pw_decl.proofs.CompoundsKept.{declared_in}
use Rattle.pw_decl.proofs.PreludeLemmas.{prelude_declares_three}
use Rattle.workbench.specs.declared.fault.Fault.{Fault}
use Rattle.workbench.specs.declared.fault.Fault.TheVariants as faults
use Rattle.workbench.specs.Ending.{IsDeclaration, IsToldOfText}
use Rattle.workbench.specs.declared.listing.Place.{Place}
use Rattle.workbench.specs.declared.listing.Place.TheVariants as place
use Rattle.workbench.specs.Listing.{outer_lines, spoken_in, declaring_lines, begins_with, names_after, NameAll, IsListed}

-- a line that is not idle is spoken, and no other
pub spoken_idle : (line : List ℕ) (lines : List (List ℕ)) → is_idle line ≡ true → spoken_in (line ∷ lines) ≡ spoken_in lines
spoken_idle line lines idle = rw idle refl

pub spoken_more : (line : List ℕ) (lines : List (List ℕ)) → is_idle line ≡ false → spoken_in (line ∷ lines) ≡ words_of line ∷ spoken_in lines
spoken_more line lines speaks = rw speaks refl

not_true : (b : Bool) → (b ≡ true → ⊥) → b ≡ false
not_true true never = absurd (never refl)
not_true false never = refl

-- the place of a line after what was declared so far
abbrev place_in : SoFar → Place
place_in (BeforeHeader d) = place.BeforeHeader
place_in (Outside d) = place.Outside
place_in (Inside d opened) = place.Inside

-- the name of the open compound, if there is one
abbrev open_in : SoFar → List (List ℕ)
open_in (BeforeHeader d) = []
open_in (Outside d) = []
open_in (Inside d opened) = opened.name ∷ []

abbrev members_in : List (List (List ℕ)) → List (List (List ℕ))
members_in lines = map (drop 2) (filter (begins_with (codes "set")) lines)

-- what is declared at last is what was declared so far, and what the lines name
record Adds (so_far : SoFar) (lines : List (List (List ℕ))) (last : Declared) : Type 0 where
  users : last.users ≡ (declared_in so_far).users ++ names_after (codes "user") lines
  premises : last.premises ≡ (declared_in so_far).premises ++ names_after (codes "premise") lines
  sets : last.set_names ≡ (declared_in so_far).set_names ++ names_after (codes "set") lines
  members : last.sets ≡ (declared_in so_far).sets ++ members_in lines
  cells : last.cells ≡ (declared_in so_far).cells ++ names_after (codes "cell") lines
  compounds : last.compound_names ≡ (declared_in so_far).compound_names ++ (open_in so_far ++ names_after (codes "compound") lines)

-- the same of the lines that are listed
abbrev AddsListed : SoFar → List (List (List ℕ)) → Declared → Type 0
AddsListed so_far lines last = Adds so_far (outer_lines (place_in so_far) lines) last

nothing_more : (last : Declared) → AddsListed (Outside last) [] last
nothing_more last =
    record {
      users = sym (append-nil last.users);
      premises = sym (append-nil last.premises);
      sets = sym (append-nil last.set_names);
      members = sym (append-nil last.sets);
      cells = sym (append-nil last.cells);
      compounds = sym (append-nil last.compound_names);
    }

module _ (lines : List (List (List ℕ))) (last : Declared) where
  -- after the sentence
  then : (next made : SoFar) → next ≡ made → AddsListed next lines last → AddsListed made lines last
  then next made is adds = subst (λ (so_far : SoFar). AddsListed so_far lines last) is adds

  -- with a line of these words before
  before : (so_far : SoFar) (words is : List (List ℕ)) → words ≡ is → AddsListed so_far (is ∷ lines) last → AddsListed so_far (words ∷ lines) last
  before so_far words is same adds = subst (λ (w : List (List ℕ)). AddsListed so_far (w ∷ lines) last) (sym same) adds

  sentence_adds : (so_far : SoFar) (words : List (List ℕ)) (s : DeclarationSentence) (next : SoFar) → IsSentenceAt so_far words s → Makes so_far s next →
      AddsListed next lines last → AddsListed so_far (words ∷ lines) last
  sentence_adds (BeforeHeader d) words (Header version) next says is adds =
      let more = then next (Outside (with_version d version)) is adds in
      record {
        users = more.users;
        premises = more.premises;
        sets = more.sets;
        members = more.members;
        cells = more.cells;
        compounds = more.compounds;
      }
  sentence_adds (Outside d) words (User name) next says is adds =
      let more = then next (Outside (with_user d name)) is adds in
      before (Outside d) words _ says.0
      (record {
        users = more.users ∙ append_assoc d.users (name ∷ []) _;
        premises = more.premises;
        sets = more.sets;
        members = more.members;
        cells = more.cells;
        compounds = more.compounds;
      })
  sentence_adds (Outside d) words (Premise name) next says is adds =
      let more = then next (Outside (with_premise d name _)) is adds in
      before (Outside d) words _ says.0
      (record {
        premises = more.premises ∙ append_assoc d.premises (name ∷ []) _;
        users = more.users;
        sets = more.sets;
        members = more.members;
        cells = more.cells;
        compounds = more.compounds;
      })
  sentence_adds (Outside d) words (PremiseOf name user) next says (owner, at, is) adds =
      let more = then next (Outside (with_premise d name _)) is adds in
      before (Outside d) words _ says.0
      (record {
        premises = more.premises ∙ append_assoc d.premises (name ∷ []) _;
        users = more.users;
        sets = more.sets;
        members = more.members;
        cells = more.cells;
        compounds = more.compounds;
      })
  sentence_adds (Outside d) words (Set name members) next says is adds =
      let more = then next (Outside (with_set d name members)) is adds in
      before (Outside d) words _ says.0
      (record {
        sets = more.sets ∙ append_assoc d.set_names (name ∷ []) _;
        members = more.members ∙ append_assoc d.sets (members ∷ []) _;
        users = more.users;
        premises = more.premises;
        cells = more.cells;
        compounds = more.compounds;
      })
  sentence_adds (Outside d) words (Cell name word) next says (kind, named, is) adds =
      let more = then next (Outside (with_cell d name kind)) is adds in
      before (Outside d) words _ says.0
      (record {
        cells = more.cells ∙ append_assoc d.cells (name ∷ []) _;
        users = more.users;
        premises = more.premises;
        sets = more.sets;
        members = more.members;
        compounds = more.compounds;
      })
  sentence_adds (Outside d) words (Begin name parameters) next says (kinds, named, is) adds =
      let more = then next (Inside d _) is adds in
      before (Outside d) words _ says.0
      (record {
        users = more.users;
        premises = more.premises;
        sets = more.sets;
        members = more.members;
        cells = more.cells;
        compounds = more.compounds;
      })
  sentence_adds (Inside d opened) words (Local name word) next says (kind, named, is) adds =
      let more = then next (Inside d (with_local opened name kind)) is adds in
      before (Inside d opened) words _ says.0
      (record {
        users = more.users;
        premises = more.premises;
        sets = more.sets;
        members = more.members;
        cells = more.cells;
        compounds = more.compounds;
      })
  sentence_adds (Inside d opened) words (Call word arguments) next says (callable, at, is) adds =
      let more = then next (Inside d _) is adds in
      let goes_on : bytes_eq word (codes "end") ≡ false = not_true _ (λ same. says.2 ((bytes_eq-Decides word (codes "end")).0 same)) in
      before (Inside d opened) words _ says.0
      (rw goes_on (record {
        users = more.users;
        premises = more.premises;
        sets = more.sets;
        members = more.members;
        cells = more.cells;
        compounds = more.compounds;
      }))
  sentence_adds (Inside d opened) words End next says is adds =
      let more = then next (Outside (with_compound d opened.name opened.compound)) is adds in
      before (Inside d opened) words _ says
      (record {
        compounds = more.compounds ∙ append_assoc d.compound_names (opened.name ∷ []) _;
        users = more.users;
        premises = more.premises;
        sets = more.sets;
        members = more.members;
        cells = more.cells;
      })
  sentence_adds so_far words s next says makes adds = absurd makes

-- the lines add what the listed ones among them name
lines_add : (so_far : SoFar) (lines : List (List ℕ)) (last : Declared) → Leads so_far lines (Outside last) → AddsListed so_far (spoken_in lines) last
lines_add so_far [] last is = subst (λ (s : SoFar). AddsListed s [] last) is (nothing_more last)
lines_add so_far (line ∷ lines) last (next, (none, inl (idle, same)), leads) =
    let more = subst (λ (s : SoFar). AddsListed s (spoken_in lines) last) same (lines_add next lines last leads) in
    subst (λ (spoken : List (List (List ℕ))). AddsListed so_far spoken last) (sym (spoken_idle line lines idle)) more
lines_add so_far (line ∷ lines) last (next, (none, inr (s, says, makes)), leads) =
    subst (λ (spoken : List (List (List ℕ))). AddsListed so_far spoken last) (sym (spoken_more line lines says.spoken))
    (sentence_adds (spoken_in lines) last so_far (words_of line) s next says.words makes (lines_add next lines last leads))

-- the listing of what a text spells names all of it
pub names_all : (procedures : List Procedure) (text : List ℕ) (d : Declared) → SpellsDeclaration procedures text d → NameAll (declaring_lines text) d
names_all procedures text d spells =
    let adds = lines_add (BeforeHeader spells.known) (lines_of text) d spells.leads in
    let three = (prelude_declares_three procedures spells.known spells.prelude).known_is in
    let lines = declaring_lines text in
    record {
      users = adds.users ∙ ap (λ (k : Declared). k.users ++ names_after (codes "user") lines) three;
      premises = adds.premises ∙ ap (λ (k : Declared). k.premises ++ names_after (codes "premise") lines) three;
      sets = adds.sets ∙ ap (λ (k : Declared). k.set_names ++ names_after (codes "set") lines) three;
      members = adds.members ∙ ap (λ (k : Declared). k.sets ++ members_in lines) three;
      cells = adds.cells ∙ ap (λ (k : Declared). k.cells ++ names_after (codes "cell") lines) three;
      compounds = adds.compounds ∙ ap (λ (k : Declared). k.compound_names ++ names_after (codes "compound") lines) three;
    }

pub listed : (procedures : List Procedure) (text : List ℕ) → IsDeclaration procedures text → IsListed procedures text
listed procedures text (d, spells) = (d, spells, names_all procedures text d spells)

-- what holds anyway holds of a listing too
pub on_ok : {D E : Type 0} {P : Type 0} (r : Result D E) → P → OnOk r P
on_ok (Ok x) holds = holds
on_ok (Err e) holds = tt

-- out of memory may be reported of a declaration
pub told_memory : {D : Type 0} (procedures : List Procedure) (text : List ℕ) (r : Result D Fault) → IsDeclaration procedures text →
    IfErr r (λ fault. fault ≡ faults.Memory) → IfErr r (IsToldOfText procedures text)
told_memory procedures text (Ok x) spells memory = tt
told_memory procedures text (Err fault) spells memory = subst (IsToldOfText procedures text) (sym memory) spells
