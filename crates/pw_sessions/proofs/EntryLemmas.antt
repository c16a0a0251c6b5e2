-- What entries tell about a cell by its name, with one more entry.
use Rattle.std.proofs.Common.{◌≡◌, Bool, true, false, List, [], ◌∷◌, ◌++◌, cond, fold, refl, sym, ap, ◌∙◌, append-nil}
use Rattle.std.specs.Prelude.{ℕ, Option, Some, None, if◌then◌else◌, filter, not, slice_get}
use Rattle.std.specs.List.{cons_option, flat_map}
use Rattle.std.specs.Option.{option_map}
use Rattle.std.specs.FinSet.{is_subset}
use Rattle.std.proofs.lemmas.Grind.{flat_map-append}
use Rattle.std.proofs.lemmas.List.Elements.{filter-append}
use Rattle.std.proofs.lemmas.List.Sums.{fold-append}
use Rattle.pw_info.specs.declared.info.Info.{Info}
use Rattle.pw_info.specs.Information.{kind_of, meet, nothing}
use Rattle.pw_info.proofs.Informations.{kind-meet, meet_nothing}
use Rattle.pw_premises.specs.Premises.{Premises}
use Rattle.pw_procs.specs.Procedure.{Procedure}
use Rattle.pw_facts.specs.declared.fact.Fact.{Fact}
use Rattle.pw_facts.specs.Facts.{shows}
use Rattle.pw_decl.specs.declared.step.Callable.{Callable}
use Rattle.pw_decl.specs.Declaration.{Declared, kind_at}
use Rattle.pw_decl.specs.Expansion.{Instance}
use Rattle.pw_network.specs.Wiring.{Name, DeclaredCell, InnerCellOf}
use Rattle.pw_settle.specs.Sources as sources
use Rattle.pw_settle.specs.Sources.{Source, Propagator, is_propagator}
use Rattle.pw_settle.specs.Fixpoint.{with_source}
use Rattle.pw_settle.specs.Values.{propagators_of}
use Rattle.pw_settle.proofs.FixpointLemmas.{kind-fixpoint}
use Rattle.pw_sessions.specs.Values.{is_visible, sources_after, sources_of, cell_value, visible_in}
use Rattle.pw_sessions.specs.CellNames.{named_cells, names_after, same_name}
use Rattle.pw_sessions.specs.Entries.{Entry, Told, Attached}

-- ---- tells

-- an information of the cell of this name, merged with what a source tells about it
abbrev pub with_tell : Name → Info → Source Name → Info
with_tell name info (sources.Told at told) = if same_name at name then meet info told else info
with_tell name info (Propagator procedure inputs output) = info

-- an information of a cell by its name, merged with what visible entries tell about it
abbrev pub told_by : Declared → List Entry → Premises → Name → Info → Info
told_by d entries w name info = fold (with_tell name) info (sources_after d (visible_in entries w))

-- it is what the definition merges, which is over the tells among the sources
pub tells_alone : (d : Declared) (entries : List Entry) (known : Name → Info) (name : Name) (info : Info) (given : List (Source Name)) →
    fold (with_source (named_cells d entries) known name) info (filter (λ source. not (is_propagator source)) given)
    ≡ fold (with_tell name) info given
tells_alone d entries known name info [] = refl
tells_alone d entries known name info (sources.Told at told ∷ given) =
    tells_alone d entries known name (if same_name at name then meet info told else info) given
tells_alone d entries known name info (Propagator procedure inputs output ∷ given) = tells_alone d entries known name info given

-- what is left if a propagator may come before it
propagator_or_none : (procedures : List Procedure) (instance : Instance Name) (name : Name) (info : Info) (found : Option Procedure) (rest : List (Source Name)) →
    fold (with_tell name) info
    (cons_option (option_map (λ (procedure : Procedure). Propagator procedure instance.inputs instance.output) found) rest)
    ≡ fold (with_tell name) info rest
propagator_or_none procedures instance name info (Some procedure) rest = refl
propagator_or_none procedures instance name info None rest = refl

-- propagators tell nothing
propagators_tell_nothing : (procedures : List Procedure) (instances : List (Instance Name)) (name : Name) (info : Info) →
    fold (with_tell name) info (propagators_of procedures instances) ≡ info
propagators_tell_nothing procedures [] name info = refl
propagators_tell_nothing procedures (instance ∷ instances) name info =
    propagator_or_none procedures instance name info (slice_get procedures instance.procedure) (propagators_of procedures instances)
    ∙ propagators_tell_nothing procedures instances name info

-- entries tell nothing of inner cells
pub inner_untold : (d : Declared) (entries : List Entry) (line number : ℕ) (info : Info) →
    fold (with_tell (InnerCellOf line number)) info (sources_after d entries) ≡ info
inner_untold d [] line number info = refl
inner_untold d (Told at cell fact ∷ entries) line number info = inner_untold d entries line number info
inner_untold d (Attached at callable cells support ∷ entries) line number info =
    let own : List (Source Name) = sources_of d (Attached at callable cells support) in
    fold-append (with_tell (InnerCellOf line number)) info own (sources_after d entries)
    ∙ inner_untold d entries line number (fold (with_tell (InnerCellOf line number)) info own)
    ∙ propagators_tell_nothing d.procedures _ (InnerCellOf line number) info

-- ---- kinds

-- of two informations of a kind either is of the kind
kind-if : (b : Bool) (i j : Info) → kind_of i ≡ kind_of j → kind_of (if b then i else j) ≡ kind_of j
kind-if true i j same = same
kind-if false i j same = refl

-- a source keeps the kind
kind-with_tell : (name : Name) (info : Info) (source : Source Name) → kind_of (with_tell name info source) ≡ kind_of info
kind-with_tell name info (sources.Told at told) = kind-if (same_name at name) (meet info told) info (kind-meet info told)
kind-with_tell name info (Propagator procedure inputs output) = refl

-- what is merged with tells keeps its kind
pub kind-tells : (name : Name) (info : Info) (given : List (Source Name)) → kind_of (fold (with_tell name) info given) ≡ kind_of info
kind-tells name info [] = refl
kind-tells name info (source ∷ given) = kind-tells name (with_tell name info source) given ∙ kind-with_tell name info source

-- the value of a declared cell has its kind
pub kind-value_in : (d : Declared) (entries : List Entry) (cell : ℕ) → kind_of (cell_value d entries cell) ≡ kind_at d cell
kind-value_in d entries cell = kind-fixpoint (named_cells d entries) (names_after d entries) (sources_after d entries) (DeclaredCell cell)

-- ---- one more entry

-- an entry is seen or not
one_more : (d : Declared) (entries : List Entry) (entry : Entry) (name : Name) (info : Info) (seen : Bool) →
    fold (with_tell name) info (flat_map (sources_of d) (entries ++ cond seen (entry ∷ []) []))
    ≡ (if seen then fold (with_tell name) (fold (with_tell name) info (sources_after d entries)) (sources_of d entry)
    else fold (with_tell name) info (sources_after d entries))
one_more d entries entry name info true =
    ap (fold (with_tell name) info)
    (flat_map-append (sources_of d) entries (entry ∷ []) ∙ ap (λ (l : List (Source Name)). sources_after d entries ++ l) (append-nil (sources_of d entry)))
    ∙ fold-append (with_tell name) info (sources_after d entries) (sources_of d entry)
one_more d entries entry name info false = ap (λ (l : List Entry). fold (with_tell name) info (sources_after d l)) (append-nil entries)

-- the told information with one more entry, seen or not
told_more : (d : Declared) (entries : List Entry) (entry : Entry) (w : Premises) (name : Name) (info : Info) →
    told_by d (entries ++ entry ∷ []) w name info
    ≡ (if is_visible w entry then fold (with_tell name) (told_by d entries w name info) (sources_of d entry) else told_by d entries w name info)
told_more d entries entry w name info =
    ap (λ (l : List Entry). fold (with_tell name) info (sources_after d l)) (filter-append (is_visible w) entries (entry ∷ []))
    ∙ one_more d (visible_in entries w) entry name info (is_visible w entry)

-- of two informations that are equal either is the second
if_same : (b : Bool) (i j : Info) → i ≡ j → (if b then i else j) ≡ j
if_same true i j same = same
if_same false i j same = refl

-- an attachment tells nothing
pub attachment_tells_nothing : (d : Declared) (entries : List Entry) (w : Premises) (name : Name) (info : Info)
    (line : ℕ) (callable : Callable) (cells : List ℕ) (support : Premises) →
    told_by d (entries ++ Attached line callable cells support ∷ []) w name info ≡ told_by d entries w name info
attachment_tells_nothing d entries w name info line callable cells support =
    told_more d entries (Attached line callable cells support) w name info
    ∙ if_same (is_subset support w) _ (told_by d entries w name info) (propagators_tell_nothing d.procedures _ name (told_by d entries w name info))

-- what is merged if a fact is visible is what it shows
met : (v : Info) (fact : Fact) (b : Bool) → kind_of v ≡ kind_of fact.info →
    (if b then meet v fact.info else v) ≡ meet v (if b then fact.info else nothing (kind_of fact.info))
met v fact true same = refl
met v fact false same = sym (ap (λ k. meet v (nothing k)) (sym same) ∙ meet_nothing v)

-- a fact told about the cell tells what it shows
pub told_here : (d : Declared) (entries : List Entry) (w : Premises) (name : Name) (info : Info) (line at : ℕ) (fact : Fact) →
    kind_of info ≡ kind_of fact.info → same_name (DeclaredCell at) name ≡ true →
    told_by d (entries ++ Told line at fact ∷ []) w name info ≡ meet (told_by d entries w name info) (shows w fact)
told_here d entries w name info line at fact of_kind here =
    let known : Info = told_by d entries w name info in
    told_more d entries (Told line at fact) w name info
    ∙ ap (λ b. if is_subset fact.support w then (if b then meet known fact.info else known) else known) here
    ∙ met known fact (is_subset fact.support w) (kind-tells name info (sources_after d (visible_in entries w)) ∙ of_kind)

-- a fact told about another cell tells nothing about this one
pub told_elsewhere : (d : Declared) (entries : List Entry) (w : Premises) (name : Name) (info : Info) (line at : ℕ) (fact : Fact) →
    same_name (DeclaredCell at) name ≡ false → told_by d (entries ++ Told line at fact ∷ []) w name info ≡ told_by d entries w name info
told_elsewhere d entries w name info line at fact there =
    let known : Info = told_by d entries w name info in
    told_more d entries (Told line at fact) w name info
    ∙ ap (λ b. if is_subset fact.support w then (if b then meet known fact.info else known) else known) there
    ∙ if_same (is_subset fact.support w) known known refl
