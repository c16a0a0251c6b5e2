-- What a declaration keeps as names are added, and the places of names.
use Rattle.std.proofs.Common.{◌≡◌, ℕ, zero, suc, ◌+◌, ◌-◌, ◌<◌, ◌≤◌, true, List, [], ◌∷◌, ◌++◌, Option, Some, None, length, get_or, refl, sym, subst, ap, arith, length-append, inl, inr, Result, Ok, Err}
use Rattle.std.proofs.Math.Logic.{∥∥₁_map}
use Rattle.std.specs.Prelude.{All, OnOk, OnErr, IfSome, IfNone, Contains, slice_get, slice_index_or}
use Rattle.std.specs.List.{position_from}
use Rattle.std.specs.Str.{bytes_eq}
use Rattle.std.proofs.lemmas.Bool.{cases_Bool}
use Rattle.std.proofs.lemmas.List.Elements.{All-nil, All-push, All-weaker}
use Rattle.std.proofs.lemmas.Slice.Eq.{bytes_eq-Decides}
use Rattle.pw_kinds.specs.Places.{IsSize}
use Rattle.pw_info.specs.declared.kind.Kind.{Kind}
use Rattle.pw_info.specs.SetNames.{AreNames, IsNamed}
use Rattle.pw_decl.specs.Declaration.{Declared, nothing_declared, built_in_sets, members_of, with_version, with_user, with_premise, with_cell, with_set, with_compound}
use Rattle.pw_decl.specs.Compound.{Compound, AreSteps, size_of_steps, sizes_of}
use Rattle.pw_decl.specs.declared.version.Version.{Version}
use Rattle.pw_decl.specs.Limits.{most_users, most_premises, most_cells, most_sets, most_compounds, most_parameters}
use Rattle.pw_decl.specs.Prelude.{prelude_compounds}
use Rattle.pw_procs.specs.Procedure.{Procedure}
use Rattle.pw_decl.specs.WellDeclared.{IsSmall, IsWellDeclared}
use Rattle.pw_decl.proofs.CompoundLaws.{compounds_push, sizes_push}
use Rattle.pw_decl.proofs.SetLemmas.{nothing_named, named_push, named_stays}

-- an owner stays a user as users are added
still_user : (m n : ℕ) → m ≤ n → (owner : Option ℕ) → IfSome owner (λ user. user < m) → IfSome owner (λ user. user < n)
still_user m n h None p = p
still_user m n h (Some user) p = omega arith

-- all holds if nothing is declared
pub well_at_first : (procedures : List Procedure) → IsWellDeclared (nothing_declared procedures)
well_at_first procedures =
    record {
      users = omega arith;
      premises = omega arith;
      owners = refl;
      cells = omega arith;
      kinds = refl;
      owned = All-nil (λ owner. IfSome owner (λ user. user < 0));
      sets = omega arith;
      set_names = refl;
      sizes = All-nil (λ names. IsSize (length names));
      named = nothing_named procedures;
      known = All-nil (IsNamed (members_of (nothing_declared procedures)));
      compound_names = refl;
      compounds = omega arith;
      steps = ∣ tt ∣₁;
      expansions = All-nil IsSmall;
      few = All-nil (λ (compound : Compound). length compound.parameters ≤ most_parameters);
    }

-- and in any version, with other users, premises and cells, of which it still holds
well_beside : (d : Declared) (version : Version) (users premises : List (List ℕ)) (owners : List (Option ℕ)) (cells : List (List ℕ)) (kinds : List Kind) → IsWellDeclared d
    → length users ≤ most_users → length premises ≤ most_premises → length owners ≡ length premises → length cells ≤ most_cells → length kinds ≡ length cells
    → All (λ owner. IfSome owner (λ user. user < length users)) owners → All (IsNamed (members_of d)) kinds
    → IsWellDeclared (record d { version = version; users = users; premises = premises; owners = owners; cells = cells; kinds = kinds })
well_beside d version users premises owners cells kinds well few_users few_premises same_owners few_cells same_kinds owned known =
    record {
      users = few_users;
      premises = few_premises;
      owners = same_owners;
      cells = few_cells;
      kinds = same_kinds;
      owned = owned;
      sets = well.sets;
      set_names = well.set_names;
      sizes = well.sizes;
      named = well.named;
      known = known;
      compound_names = well.compound_names;
      compounds = well.compounds;
      steps = well.steps;
      expansions = well.expansions;
      few = well.few;
    }

-- as in another version
pub well_with_version : (d : Declared) (version : Version) → IsWellDeclared d → IsWellDeclared (with_version d version)
well_with_version d version well =
    well_beside d version d.users d.premises d.owners d.cells d.kinds well well.users well.premises well.owners well.cells well.kinds well.owned well.known

-- with one more user
pub well_with_user : (d : Declared) (name : List ℕ) → IsWellDeclared d → length d.users < most_users → IsWellDeclared (with_user d name)
well_with_user d name well room =
    let longer : length (d.users ++ name ∷ []) ≡ length d.users + 1 = length-append d.users (name ∷ []) in
    well_beside d d.version (d.users ++ name ∷ []) d.premises d.owners d.cells d.kinds well (omega arith) well.premises well.owners well.cells well.kinds
    (All-weaker (λ owner. IfSome owner (λ user. user < length d.users)) (λ owner. IfSome owner (λ user. user < length (d.users ++ name ∷ []))) (still_user (length d.users) (length (d.users ++ name ∷ [])) (omega arith)) d.owners well.owned)
    well.known

-- with one more premise, of a user or of none
pub well_with_premise : (d : Declared) (name : List ℕ) (owner : Option ℕ) → IsWellDeclared d → length d.premises < most_premises → IfSome owner (λ user. user < length d.users)
    → IsWellDeclared (with_premise d name owner)
well_with_premise d name owner well room own =
    let longer : length (d.premises ++ name ∷ []) ≡ length d.premises + 1 = length-append d.premises (name ∷ []) in
    let more : length (d.owners ++ owner ∷ []) ≡ length d.owners + 1 = length-append d.owners (owner ∷ []) in
    let alike : length d.owners ≡ length d.premises = well.owners in
    well_beside d d.version d.users (d.premises ++ name ∷ []) (d.owners ++ owner ∷ []) d.cells d.kinds well well.users (omega arith) (omega arith) well.cells well.kinds
    (All-push (λ o. IfSome o (λ user. user < length d.users)) d.owners owner well.owned own) well.known

-- with one more cell, of a kind that exists
pub well_with_cell : (d : Declared) (name : List ℕ) (kind : Kind) → IsWellDeclared d → length d.cells < most_cells → IsNamed (members_of d) kind
    → IsWellDeclared (with_cell d name kind)
well_with_cell d name kind well room known =
    let longer : length (d.cells ++ name ∷ []) ≡ length d.cells + 1 = length-append d.cells (name ∷ []) in
    let more : length (d.kinds ++ kind ∷ []) ≡ length d.kinds + 1 = length-append d.kinds (kind ∷ []) in
    let alike : length d.kinds ≡ length d.cells = well.kinds in
    well_beside d d.version d.users d.premises d.owners (d.cells ++ name ∷ []) (d.kinds ++ kind ∷ []) well well.users well.premises well.owners (omega arith) (omega arith)
    well.owned (All-push (IsNamed (members_of d)) d.kinds kind well.known known)

-- and with one more set, of members that have names
pub well_with_set : (d : Declared) (name : List ℕ) (members : List (List ℕ)) → IsWellDeclared d → length d.sets < most_sets → IsSize (length members) → AreNames members
    → IsWellDeclared (with_set d name members)
well_with_set d name members well room size names =
    let longer : length (d.sets ++ members ∷ []) ≡ length d.sets + 1 = length-append d.sets (members ∷ []) in
    let more : length (d.set_names ++ name ∷ []) ≡ length d.set_names + 1 = length-append d.set_names (name ∷ []) in
    let alike : length d.set_names ≡ length d.sets = well.set_names in
    record {
      users = well.users;
      premises = well.premises;
      owners = well.owners;
      cells = well.cells;
      kinds = well.kinds;
      owned = well.owned;
      sets = omega arith;
      set_names = omega arith;
      sizes = All-push (λ names. IsSize (length names)) d.sets members well.sizes size;
      named = named_push (built_in_sets ++ d.sets) members well.named names;
      known = All-weaker (IsNamed (members_of d)) (IsNamed (λ set. slice_index_or (built_in_sets ++ d.sets ++ members ∷ []) set [])) (named_stays (built_in_sets ++ d.sets) (members ∷ [])) d.kinds well.known;
      compound_names = well.compound_names;
      compounds = well.compounds;
      steps = well.steps;
      expansions = well.expansions;
      few = well.few;
    }

-- ---- the place of a name

found_from : (names : List (List ℕ)) (word : List ℕ) (k n : ℕ) → position_from (bytes_eq word) k names ≡ Some n → (k ≤ n) × (slice_get names (n - k) ≡ Some word)
found_from [] word k n e = absurd (cc)
found_from (x ∷ xs) word k n e = elim (cases_Bool (bytes_eq word x)) [
  | inl here ↦
      let at : Some k ≡ Some n = rw here at e in
      let same : k ≡ n = cc in
      let w : word ≡ x = (bytes_eq-Decides word x).0 here in
      let zero_off : n - k ≡ 0 = omega arith in
      (omega arith, rw zero_off (ap Some (sym w)))
  | inr apart ↦
      let rest : (k + 1 ≤ n) × (slice_get xs (n - (k + 1)) ≡ Some word) = found_from xs word (k + 1) n (rw apart at e) in
      let below : k + 1 ≤ n = rest.0 in
      let off : n - k ≡ suc (n - (k + 1)) = omega arith in
      (omega arith, rw off rest.1)
]

pub place_found : (names : List (List ℕ)) (word : List ℕ) (n : ℕ) → position_from (bytes_eq word) 0 names ≡ Some n → slice_get names n ≡ Some word
place_found names word n e = let off : n - 0 ≡ n = omega arith in rw off at (found_from names word 0 n e).1

none_from : (names : List (List ℕ)) (word : List ℕ) (k i : ℕ) → position_from (bytes_eq word) k names ≡ None → i < length names → get_or names i word ≡ word → ⊥
none_from [] word k i e h same = absurd (omega arith)
none_from (x ∷ xs) word k zero e h same =
    let here : bytes_eq word x ≡ true = (bytes_eq-Decides word x).1 (sym same) in
    let at : Some k ≡ None = rw here at e in
    cc
none_from (x ∷ xs) word k (suc i) e h same = elim (cases_Bool (bytes_eq word x)) [
  | inl here ↦ let at : Some k ≡ None = rw here at e in absurd (cc)
  | inr apart ↦ none_from xs word (k + 1) i (rw apart at e) (omega arith) same
]

pub place_none : (names : List (List ℕ)) (word : List ℕ) → position_from (bytes_eq word) 0 names ≡ None → Contains names word → ⊥
place_none names word e (k, h, same) = none_from names word 0 k e h same

pub place_none_if : {X : Type 0} (o : Option X) (names : List (List ℕ)) (word : List ℕ) → position_from (bytes_eq word) 0 names ≡ None → IfNone o (Contains names word → ⊥)
place_none_if None names word e = place_none names word e
place_none_if (Some x) names word e = tt

-- with one more user, or as before if it was not added
pub well_with_user_or_not : {U E : Type 0} (d : Declared) (name : List ℕ) (users : List (List ℕ)) (r : Result U E) → IsWellDeclared d → length d.users < most_users →
    OnOk r (users ≡ d.users ++ name ∷ []) → OnErr r (users ≡ d.users) → IsWellDeclared (record d { users = users })
well_with_user_or_not d name users (Ok u) well room ok err = rw ok (well_with_user d name well room)
well_with_user_or_not d name users (Err e) well room ok err = rw err well

-- what holds before two additions and after both holds whether they were made or not
pub added_or_not : {U E S T : Type 0} (P : S → T → Type 0) {old new more : S} {old' new' more' : T} (r : Result U E) →
    OnOk r (new ≡ more) → OnOk r (new' ≡ more') → OnErr r (new ≡ old) → OnErr r (new' ≡ old') → P old old' → P more more' → P new new'
added_or_not P (Ok u) ok ok' err err' before after = rw (ok, ok') after
added_or_not P (Err e) ok ok' err err' before after = rw (err, err') before

-- what is made of both has become what is made of their additions, or stays
pub added_to : {U E S T V : Type 0} (made : S → T → V) (new more : S) (new' more' : T) (all : V) (r : Result U E) →
    OnOk r (new ≡ more) → OnOk r (new' ≡ more') → made more more' ≡ all → OnOk r (made new new' ≡ all)
added_to made new more new' more' all (Ok u) ok ok' is = rw (ok, ok') is
added_to made new more new' more' all (Err e) ok ok' is = tt

pub not_added_to : {U E S T V : Type 0} (made : S → T → V) (new old : S) (new' old' : T) (r : Result U E) →
    OnErr r (new ≡ old) → OnErr r (new' ≡ old') → OnErr r (made new new' ≡ made old old')
not_added_to made new old new' old' (Ok u) err err' = tt
not_added_to made new old new' old' (Err e) err err' = rw (err, err') refl

-- and with one more compound, which was open
pub well_with_compound : (d : Declared) (name : List ℕ) (compound : Compound) → IsWellDeclared d → length d.compounds < prelude_compounds + most_compounds →
    length compound.parameters ≤ most_parameters → AreSteps d.procedures d.compounds compound.parameters compound.steps →
    IsSmall (size_of_steps (sizes_of d.compounds) compound.steps) → IsWellDeclared (with_compound d name compound)
well_with_compound d name compound well room parameters steps small =
    let longer : length (d.compound_names ++ name ∷ []) ≡ length d.compound_names + 1 = length-append d.compound_names (name ∷ []) in
    let more : length (d.compounds ++ compound ∷ []) ≡ length d.compounds + 1 = length-append d.compounds (compound ∷ []) in
    let alike : length d.compound_names ≡ length d.compounds = well.compound_names in
    record {
      users = well.users;
      premises = well.premises;
      owners = well.owners;
      cells = well.cells;
      kinds = well.kinds;
      owned = well.owned;
      sets = well.sets;
      set_names = well.set_names;
      sizes = well.sizes;
      named = well.named;
      known = well.known;
      compound_names = omega arith;
      compounds = omega arith;
      steps = ∥∥₁_map well.steps (λ are. compounds_push d.procedures [] d.compounds compound are steps);
      expansions =
          subst (All IsSmall) (sym (sizes_push [] d.compounds compound)) (All-push IsSmall (sizes_of d.compounds) (size_of_steps (sizes_of d.compounds) compound.steps) well.expansions small);
      few = All-push (λ (compound : Compound). length compound.parameters ≤ most_parameters) d.compounds compound well.few parameters;
    }
