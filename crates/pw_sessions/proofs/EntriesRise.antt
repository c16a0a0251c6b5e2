-- The lines of entries rise, so that the inner cells of an attachment are found by its line.
use Rattle.std.proofs.Common.{◌≡◌, ℕ, ◌+◌, ◌<◌, ◌≤◌, Bool, ◌==◌, List, [], ◌∷◌, All, filter, get_or, refl, ◌∙◌, arith, eq-eqb, ne_eqb}
use Rattle.std.proofs.lemmas.Bool.{cond_both, cond-true, cond-false}
use Rattle.std.proofs.lemmas.List.Elements.{All-cons, All-nil, All-weaker}
use Rattle.pw_premises.specs.Premises.{Premises}
use Rattle.pw_facts.specs.declared.fact.Fact.{Fact}
use Rattle.pw_decl.specs.declared.step.Callable.{Callable}
use Rattle.pw_decl.specs.Declaration.{Declared}
use Rattle.pw_decl.specs.Expansion.{inner_kinds_of}
use Rattle.pw_sessions.specs.declared.command.Command.TheVariants as commands
use Rattle.pw_sessions.specs.Reply.{LineReading, Says}
use Rattle.pw_sessions.specs.Entries.{Entry, Told, Attached, RiseFrom, line_of, entries_from, entries_before}
use Rattle.pw_sessions.specs.CellNames.{inner_kinds_at}

-- ---- rising lines

-- entries that rise from above a line rise from above each line before it
pub rise_lower : (low line : ℕ) (entries : List Entry) → low ≤ line → RiseFrom line entries → RiseFrom low entries
rise_lower low line [] most rise = tt
rise_lower low line (entry ∷ entries) most rise = (omega (arith, most, rise.0), rise.1)

-- those that pass a test rise too
pub rise_kept : (p : Entry → Bool) (line : ℕ) (entries : List Entry) → RiseFrom line entries → RiseFrom line (filter p entries)
rise_kept p line [] rise = tt
rise_kept p line (entry ∷ entries) rise =
    let rest : RiseFrom (line_of entry) (filter p entries) = rise_kept p (line_of entry) entries rise.1 in
    cond_both (p entry) (entry ∷ filter p entries) (filter p entries) (RiseFrom line)
    (λ passes. (rise.0, rest)) (λ fails. rise_lower line (line_of entry) (filter p entries) (omega (arith, rise.0)) rest)

-- each of them is of a line above
rise_above : (line : ℕ) (entries : List Entry) → RiseFrom line entries → All (λ entry. line < line_of entry) entries
rise_above line [] rise = All-nil (λ (entry : Entry). line < line_of entry)
rise_above line (entry ∷ entries) rise =
    All-cons (λ (e : Entry). line < line_of e) entry entries rise.0
    (All-weaker (λ (e : Entry). line_of entry < line_of e) (λ (e : Entry). line < line_of e) (λ e above. omega (arith, above, rise.0))
    entries (rise_above (line_of entry) entries rise.1))

-- the entries of lines rise from above any line before these
rise_from : (number line : ℕ) (readings : List LineReading) → line < number → RiseFrom line (entries_from number readings)
rise_from number line [] below = tt
rise_from number line (Says (commands.Tell user cell fact) ∷ readings) below =
    (below, rise_from (number + 1) number readings (omega arith))
rise_from number line (Says (commands.Attach user callable cells support) ∷ readings) below =
    (below, rise_from (number + 1) number readings (omega arith))
rise_from number line (reading ∷ readings) below = rise_from (number + 1) line readings (omega (arith, below))

-- the entries of a transcript rise
pub rise_before : (readings : List LineReading) → RiseFrom 0 (entries_before readings)
rise_before readings = rise_from 1 0 readings (omega arith)

-- ---- the kinds of inner cells, found by the line

-- by its line the inner cells of an entry are found to have the kinds that its callable gives them
abbrev pub FindsKinds : Declared → List Entry → Entry → Type 0
FindsKinds d entries (Told line cell fact) = Unit {0}
FindsKinds d entries (Attached line callable cells support) = inner_kinds_at d entries line ≡ inner_kinds_of d.compounds callable

-- so it is with a fact before
finds_after_told : (d : Declared) (at cell : ℕ) (fact : Fact) (entries : List Entry) (entry : Entry) → FindsKinds d entries entry →
    FindsKinds d (Told at cell fact ∷ entries) entry
finds_after_told d at cell fact entries (Told line on told) finds = tt
finds_after_told d at cell fact entries (Attached line callable cells support) finds = finds

-- and with an attachment of another line
finds_after_attached : (d : Declared) (at : ℕ) (callable : Callable) (cells : List ℕ) (support : Premises) (entries : List Entry)
    (entry : Entry) → at < line_of entry → FindsKinds d entries entry → FindsKinds d (Attached at callable cells support ∷ entries) entry
finds_after_attached d at callable cells support entries (Told line on told) above finds = tt
finds_after_attached d at callable cells support entries (Attached line other on under) above finds =
    cond-false (at == line) (inner_kinds_of d.compounds callable) (inner_kinds_at d entries line)
    (ne_eqb at line (λ e. omega (arith, e, above))) ∙ finds

-- each of rising entries is found
pub finds_kinds : (d : Declared) (line : ℕ) (entries : List Entry) → RiseFrom line entries → All (FindsKinds d entries) entries
finds_kinds d line [] rise = All-nil (FindsKinds d [])
finds_kinds d line (Told at cell fact ∷ entries) rise =
    All-cons (FindsKinds d (Told at cell fact ∷ entries)) (Told at cell fact) entries tt
    (All-weaker (FindsKinds d entries) (FindsKinds d (Told at cell fact ∷ entries)) (finds_after_told d at cell fact entries) entries
    (finds_kinds d at entries rise.1))
finds_kinds d line (Attached at callable cells support ∷ entries) rise =
    let own = inner_kinds_of d.compounds callable in
    let above = rise_above at entries rise.1 in
    let rest = finds_kinds d at entries rise.1 in
    All-cons (FindsKinds d (Attached at callable cells support ∷ entries)) (Attached at callable cells support) entries
    (cond-true (at == at) own (inner_kinds_at d entries at) (eq-eqb at at refl))
    (λ k e within. finds_after_attached d at callable cells support entries (get_or entries k e) (above k e within) (rest k e within))
