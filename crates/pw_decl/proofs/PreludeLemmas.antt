-- What the prelude declares: three compounds, by their names, with parameters of their kinds.
use Rattle.std.proofs.Common.{◌≡◌, ℕ, Bool, true, false, not, ◌&&◌, List, [], ◌∷◌, ◌++◌, Option, Some, None, inl, inr, refl, sym, subst, ◌∙◌, codes}
use Rattle.std.specs.List.{list_all}
use Rattle.std.specs.Option.{option_map, option_or}
use Rattle.std.proofs.lemmas.Bool.{cases_Bool, false≢true}
use Rattle.pw_info.specs.declared.kind.Kind.{Kind}
use Rattle.pw_info.specs.declared.kind.Kind.TheVariants as kinds
use Rattle.pw_info.specs.Lines.{lines_of}
use Rattle.pw_info.specs.Name.{is_name, is_reserved}
use Rattle.pw_info.specs.Words.{words_of, is_idle}
use Rattle.pw_procs.specs.Registering.{place_of_name}
use Rattle.pw_procs.specs.Procedure.{Procedure, names_of}
use Rattle.pw_procs.specs.Values.{bool}
use Rattle.pw_decl.specs.declared.step.Callable.{Callable}
use Rattle.pw_decl.specs.declared.step.Callable.TheVariants as callables
use Rattle.pw_decl.specs.Compound.{Compound}
use Rattle.pw_decl.specs.Declaration.{Declared, nothing_declared, OpenCompound, SoFar, Outside, Inside, DeclarationSentence, Begin, Local, Call, End, NameKinds, parameter_names, parameter_kinds, callable_named, begun, with_local, with_call, with_compound, places_of, Makes}
use Rattle.pw_decl.specs.Faults.{SaysInPlace, Declares, Leads, PreludeDeclares}
use Rattle.pw_decl.specs.Prelude.{prelude_text}
use Rattle.pw_decl.specs.inside.Forms.{sentence_at, outer_sentence_of, inner_sentence_of}
use Rattle.pw_decl.proofs.LineFaults.{found, one_sentence, same_kinds, outside_is}
use Rattle.pw_decl.proofs.ParameterLemmas.{none_there}

-- ---- a line whose sentence is known

-- the line declares what its sentence makes
made_by : (so_far : SoFar) (line : List ℕ) (s : DeclarationSentence) (after : SoFar) → is_idle line ≡ false → sentence_at so_far (words_of line) ≡ Some s →
    Declares so_far line after → SaysInPlace so_far line s × Makes so_far s after
made_by so_far line s after spoken formed (none, inl (idle, is)) = absurd (false≢true (sym spoken ∙ idle))
made_by so_far line s after spoken formed (none, inr (t, says, makes)) =
    subst (λ (x : DeclarationSentence). SaysInPlace so_far line x × Makes so_far x after)
    (one_sentence so_far (words_of line) t s says.words (found so_far (words_of line) s formed)) (says, makes)

-- ---- a compound among lines

-- a compound has begun under a new name, with parameters whose kinds are named
record IsBegun (d : Declared) (name : List ℕ) (parameters lines : List (List ℕ)) (after : SoFar) : Type 0 where
  pub kinds : List Kind
  pub new : callable_named d name ≡ None
  pub named : NameKinds d (parameter_kinds parameters) kinds
  pub leads : Leads (Inside d (begun name (parameter_names parameters) kinds)) lines after

begins : (d : Declared) (line name : List ℕ) (parameters lines : List (List ℕ)) (after : SoFar) → is_idle line ≡ false → outer_sentence_of (words_of line) ≡ Some (Begin name parameters) →
    Leads (Outside d) (line ∷ lines) after → IsBegun d name parameters lines after
begins d line name parameters lines after spoken formed (next, declares, leads) =
    let made = made_by (Outside d) line (Begin name parameters) next spoken formed declares in
    record {
      kinds = made.1.0;
      new = none_there (callable_named d name) (λ old. declares.0.1.1.0 (Begin name parameters, made.0, inl old));
      named = made.1.1;
      leads = subst (λ (x : SoFar). Leads x lines after) made.1.2 leads;
    }

-- the sentence leaves a compound open
abbrev leaves_open : Option DeclarationSentence → Bool
leaves_open (Some (Local name kind)) = true
leaves_open (Some (Call callable arguments)) = true
leaves_open other = false

-- the line, in a compound, leaves it open
abbrev is_inner_line : List ℕ → Bool
is_inner_line line = not (is_idle line) && leaves_open (inner_sentence_of (words_of line))

-- the open compound has become this, which has its name and its parameters
record IsStillOpen (opened : OpenCompound) (lines : List (List ℕ)) (d : Declared) (after : SoFar) : Type 0 where
  pub now : OpenCompound
  pub name : now.name ≡ opened.name
  pub parameters : now.compound.parameters ≡ opened.compound.parameters
  pub leads : Leads (Inside d now) lines after

goes_on : (d : Declared) (opened : OpenCompound) (line : List ℕ) (lines : List (List ℕ)) (after : SoFar) (o : Option DeclarationSentence) →
    is_idle line ≡ false → inner_sentence_of (words_of line) ≡ o → leaves_open o ≡ true → Leads (Inside d opened) (line ∷ lines) after → IsStillOpen opened lines d after
goes_on d opened line lines after (Some (Local name kind)) spoken formed stays (next, declares, leads) =
    let made = made_by (Inside d opened) line (Local name kind) next spoken formed declares in
    record { now = with_local opened name made.1.0; name = refl; parameters = refl; leads = subst (λ (x : SoFar). Leads x lines after) made.1.2 leads }
goes_on d opened line lines after (Some (Call callable arguments)) spoken formed stays (next, declares, leads) =
    let made = made_by (Inside d opened) line (Call callable arguments) next spoken formed declares in
    record { now = with_call opened made.1.0 (places_of opened arguments); name = refl; parameters = refl; leads = subst (λ (x : SoFar). Leads x lines after) made.1.2 leads }
goes_on d opened line lines after o spoken formed stays leads = absurd (false≢true stays)

is_inner : (line : List ℕ) → is_inner_line line ≡ true → (is_idle line ≡ false) × (leaves_open (inner_sentence_of (words_of line)) ≡ true)
is_inner line inner =
    elim (cases_Bool (is_idle line)) [
      | inl idle ↦ absurd (false≢true (rw idle at inner))
      | inr spoken ↦ (spoken, rw spoken at inner)
    ]

-- the compound has ended, under its name
record IsEnded (d : Declared) (opened : OpenCompound) (rest : List (List ℕ)) (after : SoFar) : Type 0 where
  pub compound : Compound
  pub parameters : compound.parameters ≡ opened.compound.parameters
  pub leads : Leads (Outside (with_compound d opened.name compound)) rest after

ends : (d : Declared) (opened : OpenCompound) (body rest : List (List ℕ)) (after : SoFar) → list_all is_inner_line body ≡ true →
    Leads (Inside d opened) (body ++ codes "end" ∷ rest) after → IsEnded d opened rest after
ends d opened [] rest after inner (next, declares, leads) =
    let made = made_by (Inside d opened) (codes "end") End next refl refl declares in
    record { compound = opened.compound; parameters = refl; leads = subst (λ (x : SoFar). Leads x rest after) made.1 leads }
ends d opened (line ∷ body) rest after inner leads =
    elim (cases_Bool (is_inner_line line)) [
      | inl is ↦
          let first = is_inner line is in
          let still = goes_on d opened line (body ++ codes "end" ∷ rest) after (inner_sentence_of (words_of line)) first.0 refl first.1 leads in
          let ended = ends d still.now body rest after (rw is at inner) still.leads in
          record {
            compound = ended.compound;
            parameters = ended.parameters ∙ still.parameters;
            leads = subst (λ (name : List ℕ). Leads (Outside (with_compound d name ended.compound)) rest after) still.name ended.leads;
          }
      | inr other ↦ absurd (false≢true (rw other at inner))
    ]

-- lines of a compound, from the first to `end`, declare it under its name, which is new
record IsDeclared (d : Declared) (name : List ℕ) (parameters rest : List (List ℕ)) (after : SoFar) : Type 0 where
  pub compound : Compound
  pub new : callable_named d name ≡ None
  pub named : NameKinds d (parameter_kinds parameters) compound.parameters
  pub leads : Leads (Outside (with_compound d name compound)) rest after

declares_compound : (d : Declared) (line name : List ℕ) (parameters body rest : List (List ℕ)) (after : SoFar) → is_idle line ≡ false →
    outer_sentence_of (words_of line) ≡ Some (Begin name parameters) → list_all is_inner_line body ≡ true →
    Leads (Outside d) (line ∷ (body ++ codes "end" ∷ rest)) after → IsDeclared d name parameters rest after
declares_compound d line name parameters body rest after spoken formed inner leads =
    let still = begins d line name parameters (body ++ codes "end" ∷ rest) after spoken formed leads in
    let ended = ends d (begun name (parameter_names parameters) still.kinds) body rest after inner still.leads in
    record {
      compound = ended.compound;
      new = still.new;
      named = subst (NameKinds d (parameter_kinds parameters)) (sym ended.parameters) still.named;
      leads = ended.leads;
    }

-- ---- the lines of the prelude

abbrev lines_of_sum : List (List ℕ)
lines_of_sum = codes "adder x y t" ∷ codes "subtractor t x y" ∷ codes "subtractor t y x" ∷ []

abbrev lines_of_product : List (List ℕ)
lines_of_product = codes "multiplier x y t" ∷ codes "divider t x y" ∷ codes "divider t y x" ∷ []

abbrev lines_of_conditional : List (List ℕ)
lines_of_conditional = codes "local n bool" ∷ codes "inverter p n" ∷ codes "switch p a r" ∷ codes "switch n b r" ∷ []

abbrev first_of_sum : List ℕ
first_of_sum = codes "compound sum x interval y interval t interval"

abbrev first_of_product : List ℕ
first_of_product = codes "compound product x interval y interval t interval"

abbrev first_of_conditional : List ℕ
first_of_conditional = codes "compound conditional p bool a interval b interval r interval"

abbrev conditional_alone : List (List ℕ)
conditional_alone = first_of_conditional ∷ (lines_of_conditional ++ codes "end" ∷ [])

abbrev product_on : List (List ℕ)
product_on = first_of_product ∷ (lines_of_product ++ codes "end" ∷ conditional_alone)

abbrev sum_on : List (List ℕ)
sum_on = first_of_sum ∷ (lines_of_sum ++ codes "end" ∷ product_on)

lines_of_prelude : lines_of prelude_text ≡ sum_on
lines_of_prelude = refl

-- two cells and a third, each an interval
abbrev three_intervals : List (List ℕ)
three_intervals = codes "x" ∷ codes "interval" ∷ codes "y" ∷ codes "interval" ∷ codes "t" ∷ codes "interval" ∷ []

-- a truth and three intervals
abbrev a_choice : List (List ℕ)
a_choice = codes "p" ∷ codes "bool" ∷ codes "a" ∷ codes "interval" ∷ codes "b" ∷ codes "interval" ∷ codes "r" ∷ codes "interval" ∷ []

sum_begins : outer_sentence_of (words_of first_of_sum) ≡ Some (Begin (codes "sum") three_intervals)
unfolding is_name is_reserved
sum_begins = refl

product_begins : outer_sentence_of (words_of first_of_product) ≡ Some (Begin (codes "product") three_intervals)
unfolding is_name is_reserved
product_begins = refl

conditional_begins : outer_sentence_of (words_of first_of_conditional) ≡ Some (Begin (codes "conditional") a_choice)
unfolding is_name is_reserved
conditional_begins = refl

conditional_inner : list_all is_inner_line lines_of_conditional ≡ true
unfolding is_name is_reserved
conditional_inner = refl

-- the kinds that they name
intervals_named : (d : Declared) (ks : List Kind) → NameKinds d (parameter_kinds three_intervals) ks → kinds.Interval ∷ kinds.Interval ∷ kinds.Interval ∷ [] ≡ ks
intervals_named d ks named =
    same_kinds d (parameter_kinds three_intervals) (kinds.Interval ∷ kinds.Interval ∷ kinds.Interval ∷ []) ks (refl, (refl, (refl, tt))) named

choice_named : (d : Declared) (ks : List Kind) → NameKinds d (parameter_kinds a_choice) ks → bool ∷ kinds.Interval ∷ kinds.Interval ∷ kinds.Interval ∷ [] ≡ ks
choice_named d ks named =
    same_kinds d (parameter_kinds a_choice) (bool ∷ kinds.Interval ∷ kinds.Interval ∷ kinds.Interval ∷ []) ks ((refl, refl), (refl, (refl, (refl, tt)))) named

-- a name of no callable is the name of no procedure
no_procedure : (d : Declared) (word : List ℕ) → callable_named d word ≡ None → place_of_name (names_of d.procedures) word ≡ None
no_procedure d word none = first_none (place_of_name (names_of d.procedures) word) (option_map callables.Compound (place_of_name d.compound_names word)) none
  where
    first_none : (o : Option ℕ) (p : Option Callable) → option_or (option_map callables.Stored o) p ≡ None → o ≡ None
    first_none None p e = refl
    first_none (Some number) p e = absurd (let f : Some (callables.Stored number) ≡ None = e in cc)

-- ---- what it declares

-- over these procedures, the three compounds and nothing else
abbrev pub three_compounds : List Procedure → Compound → Compound → Compound → Declared
three_compounds ps sum product conditional =
    with_compound (with_compound (with_compound (nothing_declared ps) (codes "sum") sum) (codes "product") product) (codes "conditional") conditional

pub record DeclaresThree (ps : List Procedure) (known : Declared) : Type 0 where
  pub sum : Compound
  pub product : Compound
  pub conditional : Compound
  pub known_is : known ≡ three_compounds ps sum product conditional
  pub sum_takes : kinds.Interval ∷ kinds.Interval ∷ kinds.Interval ∷ [] ≡ sum.parameters
  pub product_takes : kinds.Interval ∷ kinds.Interval ∷ kinds.Interval ∷ [] ≡ product.parameters
  pub conditional_takes : bool ∷ kinds.Interval ∷ kinds.Interval ∷ kinds.Interval ∷ [] ≡ conditional.parameters
  pub sum_free : place_of_name (names_of ps) (codes "sum") ≡ None
  pub product_free : place_of_name (names_of ps) (codes "product") ≡ None
  pub conditional_free : place_of_name (names_of ps) (codes "conditional") ≡ None

pub prelude_declares_three : (ps : List Procedure) (known : Declared) → PreludeDeclares ps known → DeclaresThree ps known
prelude_declares_three ps known leads =
    let none = nothing_declared ps in
    let all = subst (λ (lines : List (List ℕ)). Leads (Outside none) lines (Outside known)) lines_of_prelude leads in
    let sum = declares_compound none first_of_sum (codes "sum") three_intervals lines_of_sum product_on (Outside known) refl sum_begins refl all in
    let one = with_compound none (codes "sum") sum.compound in
    let product = declares_compound one first_of_product (codes "product") three_intervals lines_of_product conditional_alone (Outside known) refl product_begins refl sum.leads in
    let two = with_compound one (codes "product") product.compound in
    let conditional = declares_compound two first_of_conditional (codes "conditional") a_choice lines_of_conditional [] (Outside known) refl conditional_begins conditional_inner product.leads in
    record {
      sum = sum.compound;
      product = product.compound;
      conditional = conditional.compound;
      known_is = outside_is known (with_compound two (codes "conditional") conditional.compound) conditional.leads;
      sum_takes = intervals_named none sum.compound.parameters sum.named;
      product_takes = intervals_named one product.compound.parameters product.named;
      conditional_takes = choice_named two conditional.compound.parameters conditional.named;
      sum_free = no_procedure none (codes "sum") sum.new;
      product_free = no_procedure one (codes "product") product.new;
      conditional_free = no_procedure two (codes "conditional") conditional.new;
    }
