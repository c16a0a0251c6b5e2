-- The cells of the network that entries make have, in the order of their numbers, the names that
-- the entries make, all different.
use Rattle.std.proofs.Common.{◌≡◌, ℕ, zero, suc, ◌+◌, ◌-◌, ◌<◌, ◌≤◌, ◌⊎◌, inl, inr, List, [], ◌∷◌, ◌++◌, fold, length, map, refl, sym, ap, subst, ◌∙◌, arith, append-nil, append_assoc, length-append}
use Rattle.std.specs.List.{flat_map, range_with_len}
use Rattle.std.proofs.lemmas.Bool.{cases_lt}
use Rattle.std.proofs.lemmas.List.{map-append}
use Rattle.std.proofs.lemmas.List.Sums.{fold_push}
use Rattle.pw_info.specs.declared.kind.Kind.{Kind}
use Rattle.pw_premises.specs.Premises.{Premises}
use Rattle.pw_decl.specs.declared.step.Callable.{Callable}
use Rattle.pw_decl.specs.Declaration.{Declared}
use Rattle.pw_decl.specs.Expansion.{inner_kinds_of}
use Rattle.pw_network.specs.Wiring.{Name, DeclaredCell, InnerCellOf, name_in}
use Rattle.pw_network.specs.Network.{Network, bare, cells_in, inner_cells_from, with_attached}
use Rattle.pw_network.proofs.NameLemmas.{declared_name, inner_name, kept_name}
use Rattle.pw_network.proofs.WellNetworks.{length-inner_cells}
use Rattle.pw_sessions.specs.CellNames.{inner_names_of, names_after}
use Rattle.pw_sessions.specs.Entries.{Entry, Told, Attached, RiseFrom}
use Rattle.pw_sessions.specs.Workbench.{network_after, with_entry}
use Rattle.pw_sessions.proofs.EntriesRise.{rise_lower}

-- ---- numbers in a row

-- a row of numbers is a row and what comes after it
range_split : (start a k n mid : ℕ) → n ≡ a + k → mid ≡ start + a →
    range_with_len start n ≡ range_with_len start a ++ range_with_len mid k
range_split start zero k n mid sum at =
    let begin : start ≡ mid = omega (arith, at) in
    let many : n ≡ k = omega (arith, sum) in
    λ i. range_with_len (begin i) (many i)
range_split start (suc a) k zero mid sum at = absurd (omega (arith, sum))
range_split start (suc a) k (suc n) mid sum at =
    ap (λ (l : List ℕ). start ∷ l) (range_split (start + 1) a k n mid (omega (arith, sum)) (omega (arith, at)))

-- functions that agree on rows, place by place, give the same list
range_maps : {X : Type 0} (f g : ℕ → X) (start from k : ℕ) → ((j : ℕ) → j < k → f (start + j) ≡ g (from + j)) →
    map f (range_with_len start k) ≡ map g (range_with_len from k)
range_maps f g start from zero same = refl
range_maps {X} f g start from (suc k) same =
    let here : start ≡ start + 0 = omega arith in
    let there : from + 0 ≡ from = omega arith in
    let next : (m j : ℕ) → m + 1 + j ≡ m + suc j = λ m j. omega arith in
    let first : f start ≡ g from = ap f here ∙ same 0 (omega arith) ∙ ap g there in
    let rest : map f (range_with_len (start + 1) k) ≡ map g (range_with_len (from + 1) k) =
    range_maps f g (start + 1) (from + 1) k
    (λ j within. ap f (next start j) ∙ same (suc j) (omega (arith, within)) ∙ ap g (sym (next from j))) in
    λ i. first i ∷ rest i

-- ---- one attachment

module _ (network : Network) (line : ℕ) (callable : Callable) (cells : List ℕ) (support : Premises) where
  -- the kinds of its inner cells, and the network with it
  abbrev own : List Kind
  own = inner_kinds_of network.declared.compounds callable

  abbrev after : Network
  after = with_attached network line callable cells support

  -- the network has the inner cells of the attachment in addition
  pub cells_with_attached : cells_in after ≡ cells_in network + length own
  cells_with_attached =
      let a = length-append network.inner (inner_cells_from line 0 own) in
      let b = length-inner_cells line 0 own in
      omega arith

  -- which have their names after those that there were
  names_with_attached : map (name_in after) (range_with_len 0 (cells_in after)) ≡
      map (name_in network) (range_with_len 0 (cells_in network)) ++ map (InnerCellOf line) (range_with_len 0 (length own))
  names_with_attached =
      let old : List ℕ = range_with_len 0 (cells_in network) in
      let new : List ℕ = range_with_len (cells_in network) (length own) in
      let kept : map (name_in after) old ≡ map (name_in network) old =
      range_maps (name_in after) (name_in network) 0 0 (cells_in network)
      (λ j within. kept_name network line callable cells support (0 + j) (omega (arith, within))) in
      let made : map (name_in after) new ≡ map (InnerCellOf line) (range_with_len 0 (length own)) =
      range_maps (name_in after) (InnerCellOf line) (cells_in network) 0 (length own)
      (λ j within. inner_name network line callable cells support j within
      ∙ ap (InnerCellOf line) (let e : j ≡ 0 + j = omega arith in e)) in
      ap (map (name_in after))
      (range_split 0 (cells_in network) (length own) (cells_in after) (cells_in network) cells_with_attached (omega arith))
      ∙ map-append (name_in after) old new ∙ (λ i. kept i ++ made i)

  -- a number is that of a cell that existed, or of one of these
  pub which_cell : (c : ℕ) → c < cells_in after → (c < cells_in network) ⊎ ((j : ℕ) × (j < length own) × (cells_in network + j ≡ c))
  which_cell c within =
      let more = cells_with_attached in
      elim (cases_lt c (cells_in network)) [
        | inl old ↦ inl old
        | inr new ↦ inr (c - cells_in network, omega arith, omega arith)
      ]

  -- a new one is called by the line
  pub name_of_new : (j c : ℕ) → j < length own → cells_in network + j ≡ c → name_in after c ≡ InnerCellOf line j
  name_of_new j c within is = ap (name_in after) (sym is) ∙ inner_name network line callable cells support j within

-- ---- all entries

-- one more entry is one more step
pub network_after-snoc : (d : Declared) (entries : List Entry) (entry : Entry) →
    network_after d (entries ++ entry ∷ []) ≡ with_entry (network_after d entries) entry
network_after-snoc d entries entry = fold_push with_entry (bare d) entries entry

-- the declaration stays
pub declared_after : (network : Network) (entries : List Entry) → (fold with_entry network entries).declared ≡ network.declared
declared_after network [] = refl
declared_after network (Told line cell fact ∷ entries) = declared_after network entries
declared_after network (Attached line callable cells support ∷ entries) =
    declared_after (with_attached network line callable cells support) entries

-- the cells that there were keep their names
pub names_stay : (network : Network) (entries : List Entry) (cell : ℕ) → cell < cells_in network →
    name_in (fold with_entry network entries) cell ≡ name_in network cell
names_stay network [] cell here = refl
names_stay network (Told line at fact ∷ entries) cell here = names_stay network entries cell here
names_stay network (Attached line callable cells support ∷ entries) cell here =
    let one = cells_with_attached network line callable cells support in
    names_stay (with_attached network line callable cells support) entries cell (omega (arith, one, here))
    ∙ kept_name network line callable cells support cell here

-- the names that entries make follow those that there were
names_from : (network : Network) (entries : List Entry) →
    map (name_in (fold with_entry network entries)) (range_with_len 0 (cells_in (fold with_entry network entries))) ≡
    map (name_in network) (range_with_len 0 (cells_in network)) ++ flat_map (inner_names_of network.declared) entries
names_from network [] = sym (append-nil (map (name_in network) (range_with_len 0 (cells_in network))))
names_from network (Told line cell fact ∷ entries) = names_from network entries
names_from network (Attached line callable cells support ∷ entries) =
    let before : List Name = map (name_in network) (range_with_len 0 (cells_in network)) in
    let own : List Name = map (InnerCellOf line) (range_with_len 0 (length (inner_kinds_of network.declared.compounds callable))) in
    let rest : List Name = flat_map (inner_names_of network.declared) entries in
    names_from (with_attached network line callable cells support) entries
    ∙ ap (λ (l : List Name). l ++ rest) (names_with_attached network line callable cells support)
    ∙ append_assoc before own rest

-- the cells of the declaration have their declared names
names_of_bare : (d : Declared) →
    map (name_in (bare d)) (range_with_len 0 (cells_in (bare d))) ≡ map DeclaredCell (range_with_len 0 (length d.cells))
names_of_bare d =
    let many : cells_in (bare d) ≡ length d.cells = omega arith in
    ap (λ n. map (name_in (bare d)) (range_with_len 0 n)) many
    ∙ range_maps (name_in (bare d)) DeclaredCell 0 0 (length d.cells)
    (λ j within. declared_name (bare d) (0 + j) (omega (arith, within)))

-- the cells of the network that entries make have, in the order of their numbers, the names that
-- the entries make
pub names_of_network : (d : Declared) (entries : List Entry) →
    map (name_in (network_after d entries)) (range_with_len 0 (cells_in (network_after d entries))) ≡ names_after d entries
names_of_network d entries =
    names_from (bare d) entries ∙ ap (λ (l : List Name). l ++ flat_map (inner_names_of d) entries) (names_of_bare d)

-- a declared cell has this name, no matter what is attached
pub declared_name_after : (d : Declared) (entries : List Entry) (cell : ℕ) → cell < length d.cells →
    name_in (network_after d entries) cell ≡ DeclaredCell cell
declared_name_after d entries cell here =
    names_stay (bare d) entries cell (omega (arith, here)) ∙ declared_name (bare d) cell here

-- ---- the names are all different

-- the line of a name is at most this
abbrev IsUpTo : ℕ → Name → Type 0
IsUpTo line (DeclaredCell cell) = Unit {0}
IsUpTo line (InnerCellOf at number) = at ≤ line

-- and so at most a later one
up_to_more : (line more : ℕ) (name : Name) → line ≤ more → IsUpTo line name → IsUpTo more name
up_to_more line more (DeclaredCell cell) most up = tt
up_to_more line more (InnerCellOf at number) most up = omega (arith, most, up)

-- a name of a line up to this is not one of a later line
not_later : (line later number : ℕ) (name : Name) → line < later → IsUpTo line name → name ≡ InnerCellOf later number → ⊥
not_later line later number (DeclaredCell cell) below up is = absurd (cc)
not_later line later number (InnerCellOf at place) below up is =
    let same : at ≡ later = cc in
    omega (arith, same, below, up)

-- no two cells have one name, and the lines of names are at most this
record AreApartUpTo (line : ℕ) (network : Network) : Type 0 where
  apart : (b c : ℕ) → b < cells_in network → c < cells_in network → name_in network b ≡ name_in network c → b ≡ c
  lines : (c : ℕ) → c < cells_in network → IsUpTo line (name_in network c)

module _ (old line : ℕ) (network : Network) (callable : Callable) (cells : List ℕ) (support : Premises) (above : old < line)
    (are : AreApartUpTo old network) where
  -- the network with an attachment at a later line, and how many cells it has more
  abbrev new : Network
  new = with_attached network line callable cells support

  abbrev count : ℕ
  count = length (inner_kinds_of network.declared.compounds callable)

  -- a cell that existed and a new one have two names
  old_and_new : (b c j : ℕ) → b < cells_in network → j < count → cells_in network + j ≡ c → name_in new b ≡ name_in new c → ⊥
  old_and_new b c j here within is same =
      not_later old line j (name_in network b) above (are.lines b here)
      (sym (kept_name network line callable cells support b here) ∙ same
      ∙ name_of_new network line callable cells support j c within is)

  -- new cells with equal names are equal
  two_new : (b c i j : ℕ) → i < count → cells_in network + i ≡ b → j < count → cells_in network + j ≡ c →
      name_in new b ≡ name_in new c → b ≡ c
  two_new b c i j first at second is same =
      let names : InnerCellOf line i ≡ InnerCellOf line j =
      sym (name_of_new network line callable cells support i b first at) ∙ same
      ∙ name_of_new network line callable cells support j c second is in
      let places : i ≡ j = cc in
      omega (arith, places, at, is)

  -- so all names are still apart
  apart_attached : AreApartUpTo line new
  apart_attached =
      record {
        apart = λ b c first second same.
            elim (which_cell network line callable cells support b first) [
              | inl b_old ↦ elim (which_cell network line callable cells support c second) [
                | inl c_old ↦ are.apart b c b_old c_old
                    (sym (kept_name network line callable cells support b b_old) ∙ same
                    ∙ kept_name network line callable cells support c c_old)
                | inr c_new ↦ absurd (old_and_new b c c_new.0 b_old c_new.1 c_new.2 same)
              ]
              | inr b_new ↦ elim (which_cell network line callable cells support c second) [
                | inl c_old ↦ absurd (old_and_new c b b_new.0 c_old b_new.1 b_new.2 (sym same))
                | inr c_new ↦ two_new b c b_new.0 c_new.0 b_new.1 b_new.2 c_new.1 c_new.2 same
              ]
            ];
        lines = λ c within.
            elim (which_cell network line callable cells support c within) [
              | inl c_old ↦ subst (IsUpTo line) (sym (kept_name network line callable cells support c c_old))
                  (up_to_more old line (name_in network c) (omega (arith, above)) (are.lines c c_old))
              | inr c_new ↦ subst (IsUpTo line) (sym (name_of_new network line callable cells support c_new.0 c c_new.1 c_new.2))
                  (omega arith)
            ];
      }

-- with further entries of later lines
apart_from : (line : ℕ) (network : Network) (entries : List Entry) → AreApartUpTo line network → RiseFrom line entries →
    (b c : ℕ) → b < cells_in (fold with_entry network entries) → c < cells_in (fold with_entry network entries) →
    name_in (fold with_entry network entries) b ≡ name_in (fold with_entry network entries) c → b ≡ c
apart_from line network [] are rise = are.apart
apart_from line network (Told at cell fact ∷ entries) are rise =
    apart_from line network entries are (rise_lower line at entries (omega (arith, rise.0)) rise.1)
apart_from line network (Attached at callable cells support ∷ entries) are rise =
    apart_from at (with_attached network at callable cells support) entries
    (apart_attached line at network callable cells support rise.0 are) rise.1

-- the names of declared cells are apart
apart_bare : (d : Declared) → AreApartUpTo 0 (bare d)
apart_bare d =
    record {
      apart = λ b c first second same.
          let names : DeclaredCell b ≡ DeclaredCell c =
          sym (declared_name (bare d) b (omega (arith, first))) ∙ same ∙ declared_name (bare d) c (omega (arith, second)) in
          cc;
      lines = λ c within. subst (IsUpTo 0) (sym (declared_name (bare d) c (omega (arith, within)))) tt;
    }

-- if the lines of entries rise, no two cells of the network that they make have one name
pub names_apart : (d : Declared) (entries : List Entry) → RiseFrom 0 entries →
    (b c : ℕ) → b < cells_in (network_after d entries) → c < cells_in (network_after d entries) →
    name_in (network_after d entries) b ≡ name_in (network_after d entries) c → b ≡ c
names_apart d entries rise = apart_from 0 (bare d) entries (apart_bare d) rise
