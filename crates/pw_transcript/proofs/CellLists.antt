-- The cells that the words of an attach name, and the callables that take them.
use Rattle.std.proofs.Common.{◌≡◌, ℕ, suc, ◌+◌, ◌-◌, ◌<◌, ◌≤◌, true, List, [], ◌∷◌, ◌++◌, Option, Some, None, length, set, take, drop, replicate, refl, sym, ap, ◌∙◌, inl, inr, arith, append_assoc, length-append, length-take}
use Rattle.std.proofs.Props.{props}
use mathlib.Core.HLevel.{is_prop→PathP}
use Rattle.std.specs.Prelude.{is_some}
use Rattle.std.specs.List.{list_all, filter_map}
use Rattle.std.proofs.lemmas.Bool.{and_parts, false≢true}
use Rattle.std.proofs.lemmas.List.{length-map, take_more_set, take-append-drop, length-take-le}
use Rattle.std.proofs.lemmas.Option.{slice_get_within, slice_get-get_or, get_or_from_slice_get}
use Rattle.pw_info.specs.declared.kind.Kind.{Kind}
use Rattle.pw_info.specs.declared.kind.Kind.TheVariants as kinds
use Rattle.pw_procs.specs.declared.arguments.Arguments.{Arguments}
use Rattle.pw_procs.specs.Registering.{place_of_name}
use Rattle.pw_procs.specs.inside.Shapes.{AreArguments, most_arguments}
use Rattle.pw_procs.specs.Signature.{input_slots_of, output_slot_of}
use Rattle.pw_procs.specs.Slots.{kind_in_slot}
use Rattle.pw_decl.specs.declared.step.Callable.{Callable}
use Rattle.pw_decl.specs.declared.step.Callable.TheVariants as callables
use Rattle.pw_decl.specs.Compound.{Compound, kinds_at}
use Rattle.pw_decl.specs.Declaration.{Declared, Takes, callable_named}
use Rattle.pw_decl.specs.WellDeclared.{IsWellDeclared}
use Rattle.pw_decl.proofs.Places.{place_of_name-lt}
use Rattle.pw_sessions.specs.declared.reply.Refusal.TheVariants as refusal
use Rattle.pw_transcript.specs.Sentence.{Attach}
use Rattle.pw_transcript.specs.Reading.{HoldsCells, cells_named, is_cell}
use Rattle.pw_transcript.specs.inside.Resolving.{IsRefusedFor}

-- ---- arguments

-- any two proofs that numbers are this many cells are equal
arguments_prop : (held : List ℕ) (count : ℕ) → IsProp (AreArguments held count)
arguments_prop held count = hlevel props

-- arguments hold as many numbers as they have cells
count_of : (arguments : Arguments) (cells : List ℕ) → HoldsCells arguments cells → arguments.count ≡ length cells
count_of arguments cells holds =
    omega (arith, length-take-le arguments.count arguments.held (omega (arith, holds.1, arguments.shape.most)), ap length holds.0)

-- what arguments hold is their cells, and 0 after them
held_of : (arguments : Arguments) (cells : List ℕ) → HoldsCells arguments cells → arguments.held ≡ cells ++ replicate (most_arguments - length cells) 0
held_of arguments cells holds =
    sym (take-append-drop arguments.count arguments.held)
    ∙ ap (λ (l : List ℕ). l ++ drop arguments.count arguments.held) holds.0
    ∙ ap (λ (l : List ℕ). cells ++ l) (arguments.shape.rest ∙ ap (λ n. replicate (most_arguments - n) 0) (count_of arguments cells holds))

-- arguments of the same cells are the same
pub same_arguments : (a b : Arguments) (cells : List ℕ) → HoldsCells a cells → HoldsCells b cells → a ≡ b
same_arguments a b cells in_a in_b = λ k. record {
  held = held k;
  count = count k;
  shape = is_prop→PathP (λ k. AreArguments (held k) (count k)) (λ k. arguments_prop (held k) (count k)) a.shape b.shape k;
}
  where
    held : a.held ≡ b.held
    held = held_of a cells in_a ∙ sym (held_of b cells in_b)

    count : a.count ≡ b.count
    count = count_of a cells in_a ∙ sym (count_of b cells in_b)

-- ---- words read one after another

-- of the words that are left after one, all name cells
pub cells_rest : (d : Declared) (words rest : List (List ℕ)) (word : List ℕ) → words ≡ word ∷ rest → list_all (is_cell d) words ≡ true → list_all (is_cell d) rest ≡ true
cells_rest d words rest word cut known = (and_parts (is_cell d word) (list_all (is_cell d) rest) (ap (list_all (is_cell d)) (sym cut) ∙ known)).1

more_cells : (d : Declared) (word : List ℕ) (words : List (List ℕ)) (n : ℕ) → place_of_name d.cells word ≡ Some n → cells_named d (word ∷ words) ≡ n ∷ cells_named d words
more_cells d word words n at = rw at refl

-- the cells so far, and those of the remaining words, with one more word
pub cells_step : (d : Declared) (all held : List ℕ) (words rest : List (List ℕ)) (word : List ℕ) (count n : ℕ) → all ≡ take count held ++ cells_named d words →
    words ≡ word ∷ rest → Some n ≡ place_of_name d.cells word → count < length held → all ≡ take (count + 1) (set held count n) ++ cells_named d rest
cells_step d all held words rest word count n so_far cut at room =
    so_far ∙ ap (λ (l : List (List ℕ)). take count held ++ cells_named d l) cut
    ∙ ap (λ (l : List ℕ). take count held ++ l) (more_cells d word rest n (sym at))
    ∙ sym (append_assoc (take count held) (n ∷ []) (cells_named d rest))
    ∙ ap (λ (l : List ℕ). l ++ cells_named d rest) (sym (take_more_set held count n room))

-- ---- how many cells a callable takes

-- no callable takes more than nine cells
few_taken : (d : Declared) (callable : Callable) (cells : List Kind) → IsWellDeclared d → Takes d callable cells → length cells ≤ most_arguments
few_taken d (callables.Stored number) cells well takes =
    let signature = takes.0.signature in
    omega (arith, ap length takes.2.1, length-map (input_slots_of signature ++ output_slot_of signature ∷ []) (kind_in_slot takes.2.0), length-append (input_slots_of signature) (output_slot_of signature ∷ []), length-take signature.count signature.slots, signature.shape.most)
few_taken d (callables.Compound number) cells well takes =
    let few = well.few number takes.0 (slice_get_within d.compounds number takes.0 takes.1) in
    let same = ap (λ (x : Compound). length x.parameters) (get_or_from_slice_get d.compounds number takes.0 takes.0 takes.1) in
    omega (arith, few, same, ap length takes.2)

-- a word that names a cell adds its kind
kind_found : (names : List (List ℕ)) (cells : List Kind) (word : List ℕ) (words : List (List ℕ)) (o : Option ℕ) → place_of_name names word ≡ o →
    length names ≡ length cells → is_some o ≡ true →
    length (kinds_at cells (filter_map (place_of_name names) (word ∷ words))) ≡ suc (length (kinds_at cells (filter_map (place_of_name names) words)))
kind_found names cells word words None at same there = absurd (false≢true there)
kind_found names cells word words (Some place) at same there =
    let below = place_of_name-lt names word place at in
    rw (at, slice_get-get_or cells place kinds.Interval (omega arith)) refl

-- words that name cells have as many kinds
kinds_found : (names : List (List ℕ)) (cells : List Kind) (words : List (List ℕ)) → length names ≡ length cells →
    list_all (λ word. is_some (place_of_name names word)) words ≡ true → length (kinds_at cells (filter_map (place_of_name names) words)) ≡ length words
kinds_found names cells [] same all = refl
kinds_found names cells (word ∷ words) same all =
    let both = and_parts (is_some (place_of_name names word)) (list_all (λ w. is_some (place_of_name names w)) words) all in
    kind_found names cells word words (place_of_name names word) refl same both.0 ∙ ap suc (kinds_found names cells words same both.1)

-- so more than nine cells are never taken
pub too_many : (d : Declared) (callable : Callable) (words : List (List ℕ)) → IsWellDeclared d → list_all (is_cell d) words ≡ true →
    most_arguments < length words → Takes d callable (kinds_at d.kinds (cells_named d words)) → ⊥
too_many d callable words well all many takes =
    omega (arith, kinds_found d.cells d.kinds words (sym well.kinds) all, few_taken d callable (kinds_at d.kinds (cells_named d words)) well takes)

-- ---- what is answered to an attach

-- if its words name cells and a callable, which does not take the cells, its arguments are wrong
pub wrong_arguments : (d : Declared) (user : ℕ) (word : List ℕ) (cells premises : List (List ℕ)) (callable : Callable) → callable_named d word ≡ Some callable →
    list_all (is_cell d) cells ≡ true → (Takes d callable (kinds_at d.kinds (cells_named d cells)) → ⊥) →
    IsRefusedFor d user (Attach word cells premises) refusal.WrongArguments
wrong_arguments d user word cells premises callable named all none =
    inr (λ h. h, inr (λ no. false≢true (sym no ∙ all), inr (λ no. let e : None ≡ Some callable = sym no ∙ named in cc, inr (λ h. h, inl (refl, (callable, named, none))))))
