-- More is known if more is believed.
use Rattle.std.proofs.Common.{◌≡◌, ℕ, suc, ◌+◌, ◌<◌, true, List, [], ◌∷◌, ◌++◌, length, get_or, sym, subst, ◌∙◌, All, Contains, arith}
use Rattle.std.specs.List.{flat_map}
use Rattle.std.specs.FinSet.{is_subset}
use Rattle.std.proofs.lemmas.List.Elements.{All-append, All-contains, All-contains_itself, All-cons, All-filter, All-nil, All-weaker, Contains-append_left, Contains-append_right, filter_passes}
use Rattle.pw_info.specs.declared.info.Info.{Info}
use Rattle.pw_info.specs.Information.{Implies}
use Rattle.pw_premises.specs.Premises.{Premises}
use Rattle.pw_premises.specs.PremiseSubsets.{is_subset_trans}
use Rattle.pw_decl.specs.Declaration.{Declared}
use Rattle.pw_decl.specs.WellDeclared.{IsWellDeclared}
use Rattle.pw_network.specs.Wiring.{Name, DeclaredCell}
use Rattle.pw_settle.specs.Sources.{Source}
use Rattle.pw_settle.specs.Fixpoint.{AreOver, fixpoint}
use Rattle.pw_settle.proofs.FixpointLemmas.{fixpoint_more}
use Rattle.pw_settle.proofs.Membership.{contains_filter, each_member}
use Rattle.pw_reasons.specs.Reason.{Grows}
use Rattle.pw_sessions.specs.declared.command.Command.TheVariants as commands
use Rattle.pw_sessions.specs.Values.{MeetTheLaws, is_visible, sources_after, sources_of, cell_value_under, visible_in}
use Rattle.pw_sessions.specs.CellNames.{named_cells, names_after}
use Rattle.pw_sessions.specs.Entries.{Entry, FitsDeclared, RiseFrom, entries_before, entries_from, entries_of, support_of}
use Rattle.pw_sessions.specs.Reply.{LineReading, Blank, Refused, Says}
use Rattle.pw_sessions.specs.Command.{IsDeclared}
use Rattle.pw_sessions.proofs.EntriesRise.{finds_kinds, rise_before, rise_kept}
use Rattle.pw_sessions.proofs.NameMembers.{inner_named}
use Rattle.pw_sessions.proofs.NamedSources.{sources_over}
use Rattle.pw_sessions.proofs.EntryLemmas.{kind-value_in}
use Rattle.pw_sessions.proofs.NamedValues.{seen_over, seen_value}

-- ---- lists

-- what each of a list gives is among what all give
each_among : {X Y : Type 0} (f : X → List Y) (xs : List X) → All (λ x. All (Contains (flat_map f xs)) (f x)) xs
each_among f [] = All-nil (λ x. All (Contains []) (f x))
each_among f (x ∷ xs) =
    All-cons (λ z. All (Contains (f x ++ flat_map f xs)) (f z)) x xs
    (All-weaker (Contains (f x)) (Contains (f x ++ flat_map f xs)) (λ y has. Contains-append_left (f x) (flat_map f xs) y has) (f x)
    (All-contains_itself (f x)))
    (All-weaker (λ z. All (Contains (flat_map f xs)) (f z)) (λ z. All (Contains (f x ++ flat_map f xs)) (f z))
    (λ z among. All-weaker (Contains (flat_map f xs)) (Contains (f x ++ flat_map f xs)) (λ y has. Contains-append_right (f x) (flat_map f xs) y has) (f z) among)
    xs (each_among f xs))

-- so what some of a list give is among what all give
some_among : {X Y : Type 0} (f : X → List Y) (some all : List X) → All (Contains all) some → All (Contains (flat_map f all)) (flat_map f some)
some_among f [] all among = All-nil (Contains (flat_map f all))
some_among f (x ∷ some) all among =
    All-append (Contains (flat_map f all)) (f x) (flat_map f some)
    (All-contains (λ z. All (Contains (flat_map f all)) (f z)) all x (each_among f all) (among 0 x (omega arith)))
    (some_among f some all (λ k d within. among (suc k) d (omega arith)))

-- ---- entries

-- what is visible where less is believed is visible if more is
still_visible : (entries : List Entry) (s t : Premises) → is_subset s t ≡ true → All (Contains (visible_in entries t)) (visible_in entries s)
still_visible entries s t within =
    let here : All (λ (entry : Entry). is_visible t entry ≡ true → Contains (visible_in entries t) entry) (visible_in entries s) =
    All-filter (is_visible s) (λ (entry : Entry). is_visible t entry ≡ true → Contains (visible_in entries t) entry) entries
    (each_member (λ (entry : Entry). is_visible t entry ≡ true → Contains (visible_in entries t) entry) entries
    (λ entry has passes. contains_filter (is_visible t) entries entry passes has)) in
    let seen : All (λ (entry : Entry). is_visible s entry ≡ true) (visible_in entries s) = filter_passes (is_visible s) entries in
    λ k d inside. here k d inside (is_subset_trans (support_of (get_or (visible_in entries s) k d)) s t (seen k d inside) within)

-- entries of lines whose commands are declared fit what is declared
fit_of : (d : Declared) (number : ℕ) (reading : LineReading) → IsDeclared d reading → All (FitsDeclared d) (entries_of number reading)
fit_of d number (Says (commands.Tell user cell fact)) named = All-cons (FitsDeclared d) _ [] named.1 (All-nil (FitsDeclared d))
fit_of d number (Says (commands.Attach user callable cells support)) named = All-cons (FitsDeclared d) _ [] named.1 (All-nil (FitsDeclared d))
fit_of d number (Says (commands.Believe user premises)) named = All-nil (FitsDeclared d)
fit_of d number (Says (commands.Doubt user premises)) named = All-nil (FitsDeclared d)
fit_of d number (Says (commands.Beliefs user)) named = All-nil (FitsDeclared d)
fit_of d number (Says (commands.Ask user cell)) named = All-nil (FitsDeclared d)
fit_of d number (Says (commands.Why user cell)) named = All-nil (FitsDeclared d)
fit_of d number (Says (commands.Conflicts user)) named = All-nil (FitsDeclared d)
fit_of d number (Says (commands.Choose user groups)) named = All-nil (FitsDeclared d)
fit_of d number Blank named = All-nil (FitsDeclared d)
fit_of d number (Refused refusal) named = All-nil (FitsDeclared d)

fit_from : (d : Declared) (number : ℕ) (readings : List LineReading) → All (IsDeclared d) readings → All (FitsDeclared d) (entries_from number readings)
fit_from d number [] named = All-nil (FitsDeclared d)
fit_from d number (reading ∷ readings) named =
    All-append (FitsDeclared d) (entries_of number reading) (entries_from (number + 1) readings)
    (fit_of d number reading (named 0 reading (omega arith)))
    (fit_from d (number + 1) readings (λ k e within. named (suc k) e (omega arith)))

-- ---- values

-- no less is known about a declared cell if more is believed
pub values_grow : (d : Declared) (readings : List LineReading) (cell : ℕ) → IsWellDeclared d → All (IsDeclared d) readings → cell < length d.cells →
    Grows (cell_value_under d (entries_before readings) cell)
values_grow d readings cell well named here =
    let entries : List Entry = entries_before readings in
    let fit : All (FitsDeclared d) entries = fit_from d 1 readings named in
    let rise : RiseFrom 0 entries = rise_before readings in
    let said : Premises → List (Source Name) = λ w. sources_after d (visible_in entries w) in
    let over : (w : Premises) → AreOver (named_cells d entries) (names_after d entries) (said w) = seen_over d well entries fit rise in
    let value : (w : Premises) → fixpoint (named_cells d entries) (names_after d entries) (said w) (DeclaredCell cell) ≡ cell_value_under d entries cell w =
    λ w. seen_value d well entries fit rise w cell here in
    record {
      kinds = λ s t. kind-value_in d (visible_in entries s) cell ∙ sym (kind-value_in d (visible_in entries t) cell);
      more = λ s t within.
          subst (λ (i : Info). Implies (cell_value_under d entries cell t) i) (value s)
          (subst (λ (i : Info). Implies i (fixpoint (named_cells d entries) (names_after d entries) (said s) (DeclaredCell cell))) (value t)
          (fixpoint_more (named_cells d entries) (names_after d entries) (names_after d entries) (said s) (said t) (over s).fit (over t)
          (some_among (sources_of d) (visible_in entries s) (visible_in entries t) (still_visible entries s t within)) (DeclaredCell cell)));
    }

-- what visible entries say is over the names that they make
pub visible_meet : (d : Declared) (readings : List LineReading) (w : Premises) → IsWellDeclared d → All (IsDeclared d) readings →
    MeetTheLaws d (visible_in (entries_before readings) w)
visible_meet d readings w well named =
    let entries : List Entry = entries_before readings in
    let fit : All (FitsDeclared d) entries = fit_from d 1 readings named in
    sources_over d (visible_in entries w) well.kinds well.steps (visible_in entries w) (All-filter (is_visible w) (FitsDeclared d) entries fit)
    (finds_kinds d 0 (visible_in entries w) (rise_kept (is_visible w) 0 entries (rise_before readings))) (inner_named d (visible_in entries w))
