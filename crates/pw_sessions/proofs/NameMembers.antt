-- The names of the cells that entries make: which are among them, and how their kinds are found.
use Rattle.std.proofs.Common.{◌≡◌, ℕ, ◌<◌, List, [], ◌∷◌, ◌++◌, length, map, get_or, refl, sym, ap, ◌∙◌, All, Contains}
use Rattle.std.specs.List.{flat_map, range_with_len}
use Rattle.std.proofs.lemmas.List.Elements.{All-append, All-cons, All-map, All-nil, All-tail, All-head, All-weaker, Contains-append_left, Contains-append_right}
use Rattle.pw_info.specs.declared.kind.Kind.{Kind}
use Rattle.pw_info.specs.declared.kind.Kind.TheVariants as kinds
use Rattle.pw_decl.specs.Declaration.{Declared}
use Rattle.pw_decl.specs.Expansion.{inner_kinds_of}
use Rattle.pw_network.specs.Wiring.{Name, DeclaredCell, InnerCellOf}
use Rattle.pw_settle.proofs.Membership.{contains_map, each_member}
use Rattle.pw_settle.proofs.SettledValues.{contains_number}
use Rattle.pw_sessions.specs.CellNames.{inner_names_of, kind_by_name, names_after}
use Rattle.pw_sessions.specs.Entries.{Entry, Told, Attached}
use Rattle.pw_sessions.proofs.EntriesRise.{FindsKinds}

-- ---- lists of lists

-- what holds of all that each of a list gives holds of all that the list gives
pub all_flat : {X Y : Type 0} (P : Y → Type 0) (f : X → List Y) (xs : List X) → All (λ x. All P (f x)) xs → All P (flat_map f xs)
all_flat P f [] all = All-nil P
all_flat P f (x ∷ xs) all =
    All-append P (f x) (flat_map f xs) (All-head (λ z. All P (f z)) x xs all) (all_flat P f xs (All-tail (λ z. All P (f z)) x xs all))

-- what one of a list gives is among what the list gives
all_in_flat : {X Y : Type 0} (f : X → List Y) (xs : List X) → All (λ x. All (Contains (flat_map f xs)) (f x)) xs
all_in_flat f [] = All-nil (λ x. All (Contains []) (f x))
all_in_flat f (x ∷ xs) =
    All-cons (λ z. All (Contains (f x ++ flat_map f xs)) (f z)) x xs
    (each_member (Contains (f x ++ flat_map f xs)) (f x) (λ y has. Contains-append_left (f x) (flat_map f xs) y has))
    (All-weaker (λ z. All (Contains (flat_map f xs)) (f z)) (λ z. All (Contains (f x ++ flat_map f xs)) (f z))
    (λ z all. All-weaker (Contains (flat_map f xs)) (Contains (f x ++ flat_map f xs))
    (λ y has. Contains-append_right (f x) (flat_map f xs) y has) (f z) all)
    xs (all_in_flat f xs))

-- ---- names

-- each declared cell has its name
pub declared_named : (d : Declared) (entries : List Entry) (cell : ℕ) → cell < length d.cells →
    Contains (names_after d entries) (DeclaredCell cell)
declared_named d entries cell here =
    Contains-append_left (map DeclaredCell (range_with_len 0 (length d.cells))) (flat_map (inner_names_of d) entries) (DeclaredCell cell)
    (contains_map DeclaredCell (range_with_len 0 (length d.cells)) cell (contains_number (length d.cells) cell here))

-- the inner cells of each entry are among the names
abbrev pub AreNamed : Declared → List Entry → Entry → Type 0
AreNamed d all entry = All (Contains (names_after d all)) (inner_names_of d entry)

-- so it is with the entries themselves
pub inner_named : (d : Declared) (entries : List Entry) → All (AreNamed d entries) entries
inner_named d entries =
    let declared : List Name = map DeclaredCell (range_with_len 0 (length d.cells)) in
    let inner : List Name = flat_map (inner_names_of d) entries in
    All-weaker (λ e. All (Contains inner) (inner_names_of d e)) (AreNamed d entries)
    (λ e all. All-weaker (Contains inner) (Contains (declared ++ inner)) (λ n has. Contains-append_right declared inner n has)
    (inner_names_of d e) all)
    entries (all_in_flat (inner_names_of d) entries)

-- ---- kinds by name

-- if both find the kinds of an entry, they find the same for its inner cells
same_found : (d : Declared) (all some : List Entry) (entry : Entry) → FindsKinds d all entry → FindsKinds d some entry →
    All (λ name. kind_by_name d some name ≡ kind_by_name d all name) (inner_names_of d entry)
same_found d all some (Told line cell fact) finds also = All-nil (λ name. kind_by_name d some name ≡ kind_by_name d all name)
same_found d all some (Attached line callable cells support) finds also =
    All-map (λ name. kind_by_name d some name ≡ kind_by_name d all name) (InnerCellOf line)
    (range_with_len 0 (length (inner_kinds_of d.compounds callable)))
    (each_member (λ j. kind_by_name d some (InnerCellOf line j) ≡ kind_by_name d all (InnerCellOf line j))
    (range_with_len 0 (length (inner_kinds_of d.compounds callable)))
    (λ j has. ap (λ (l : List Kind). get_or l j kinds.Interval) (also ∙ sym finds)))

-- so each name that some entries make is of one kind by either
pub same_kinds : (d : Declared) (all some : List Entry) → All (FindsKinds d all) some → All (FindsKinds d some) some →
    All (λ name. kind_by_name d some name ≡ kind_by_name d all name) (names_after d some)
same_kinds d all some finds also =
    All-append (λ name. kind_by_name d some name ≡ kind_by_name d all name)
    (map DeclaredCell (range_with_len 0 (length d.cells))) (flat_map (inner_names_of d) some)
    (All-map (λ name. kind_by_name d some name ≡ kind_by_name d all name) DeclaredCell (range_with_len 0 (length d.cells))
    (λ k e within. refl))
    (all_flat (λ name. kind_by_name d some name ≡ kind_by_name d all name) (inner_names_of d) some
    (λ k e within. same_found d all some (get_or some k e) (finds k e within) (also k e within)))
