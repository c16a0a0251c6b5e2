-- The names of cells, before and after an attachment.
use Rattle.std.proofs.Common.{◌≡◌, ℕ, zero, suc, ◌+◌, ◌<◌, List, [], ◌∷◌, ◌++◌, Option, Some, None, length, map, get_or, refl, sym, ap, ◌∙◌, arith, append_assoc, length-append}
use Rattle.std.specs.Prelude.{All}
use Rattle.std.proofs.lemmas.List.{length-map, map-append}
use Rattle.pw_info.specs.declared.kind.Kind.{Kind}
use Rattle.pw_premises.specs.Premises.{Premises}
use Rattle.pw_decl.specs.declared.step.Callable.{Callable}
use Rattle.pw_decl.specs.Expansion.{expansion_of, renamed, inner_kinds_of}
use Rattle.pw_network.specs.Network.{Network, InnerCell, cells_in, with_attached, inner_cells_from}
use Rattle.pw_network.specs.Wiring.{Name, DeclaredCell, InnerCellOf, name_from, name_in}
use Rattle.pw_decl.proofs.ExpansionLemmas.{expansion_renamed}

-- ---- places of joined lists

before : {A : Type 0} (xs ys : List A) (n : ℕ) (d : A) → n < length xs → get_or (xs ++ ys) n d ≡ get_or xs n d
before [] ys n d here = absurd (omega arith)
before (x ∷ xs) ys zero d here = refl
before (x ∷ xs) ys (suc n) d here = before xs ys n d (omega arith)

behind : {A : Type 0} (xs ys : List A) (n k : ℕ) (d : A) → n ≡ length xs + k → get_or (xs ++ ys) n d ≡ get_or ys k d
behind [] ys n k d is = ap (λ m. get_or ys m d) (omega (arith, is))
behind (x ∷ xs) ys zero k d is = absurd (omega (arith, is))
behind (x ∷ xs) ys (suc n) k d is = behind xs ys n k d (omega (arith, is))

-- ---- origins

no_origin : {A : Type 0} → A → Option (ℕ × ℕ)
no_origin x = None

origins_of : Network → List (Option (ℕ × ℕ))
origins_of network = map (λ name. None) network.declared.cells ++ map (λ inner. Some (inner.line, inner.number)) network.inner

nones : (names : List (List ℕ)) (cell : ℕ) → get_or (map {B = Option (ℕ × ℕ)} (λ name. None) names) cell None ≡ None
nones [] cell = refl
nones (name ∷ names) zero = refl
nones (name ∷ names) (suc cell) = nones names cell

-- the inner cells of an attachment come from its line, by their numbers
new_origin : (line number : ℕ) (kinds : List Kind) (j : ℕ) → j < length kinds →
    get_or (map {B = Option (ℕ × ℕ)} (λ inner. Some (inner.line, inner.number)) (inner_cells_from line number kinds)) j None ≡ Some (line, number + j)
new_origin line number [] j here = absurd (omega arith)
new_origin line number (kind ∷ kinds) zero here = λ k. Some (line, plus k) where
  plus : number ≡ number + 0
  plus = omega arith
new_origin line number (kind ∷ kinds) (suc j) here = new_origin line (number + 1) kinds j (omega arith) ∙ (λ k. Some (line, plus k)) where
  plus : number + 1 + j ≡ number + suc j
  plus = omega arith

-- ---- names

-- a declared cell is called so
pub declared_name : (network : Network) (cell : ℕ) → cell < length network.declared.cells → name_in network cell ≡ DeclaredCell cell
declared_name network cell here =
    let nones_long = length-map {B = Option (ℕ × ℕ)} network.declared.cells (λ name. None) in
    ap (name_from cell)
    (before (map (λ name. None) network.declared.cells) (map (λ inner. Some (inner.line, inner.number)) network.inner) cell None (omega (arith, here, nones_long))
    ∙ nones network.declared.cells cell)

-- and an inner cell of the attachment so
pub inner_name : (network : Network) (line : ℕ) (callable : Callable) (cells : List ℕ) (support : Premises) (j : ℕ) →
    j < length (inner_kinds_of network.declared.compounds callable) →
    name_in (with_attached network line callable cells support) (cells_in network + j) ≡ InnerCellOf line j
inner_name network line callable cells support j here =
    let more = inner_cells_from line 0 (inner_kinds_of network.declared.compounds callable) in
    let origin : InnerCell → Option (ℕ × ℕ) = λ inner. Some (inner.line, inner.number) in
    let none : List (Option (ℕ × ℕ)) = map (λ name. None) network.declared.cells in
    let nones_long : length none ≡ length network.declared.cells = length-map network.declared.cells (λ name. None) in
    let inner_long : length (map origin network.inner) ≡ length network.inner = length-map network.inner origin in
    let past : get_or (none ++ map origin (network.inner ++ more)) (cells_in network + j) None ≡ get_or (map origin (network.inner ++ more)) (length network.inner + j) None =
    behind none (map origin (network.inner ++ more)) (cells_in network + j) (length network.inner + j) None (omega (arith, nones_long)) in
    let new : get_or (map origin (network.inner ++ more)) (length network.inner + j) None ≡ get_or (map origin more) j None =
    ap (λ (l : List (Option (ℕ × ℕ))). get_or l (length network.inner + j) None) (map-append origin network.inner more)
    ∙ behind (map origin network.inner) (map origin more) (length network.inner + j) j None (omega (arith, inner_long)) in
    let number : 0 + j ≡ j = omega arith in
    ap (name_from (cells_in network + j)) (past ∙ new ∙ new_origin line 0 (inner_kinds_of network.declared.compounds callable) j here)
    ∙ ap (InnerCellOf line) number

-- the cells that existed keep their names
pub kept_name : (network : Network) (line : ℕ) (callable : Callable) (cells : List ℕ) (support : Premises) (cell : ℕ) → cell < cells_in network →
    name_in (with_attached network line callable cells support) cell ≡ name_in network cell
kept_name network line callable cells support cell here =
    let more = inner_cells_from line 0 (inner_kinds_of network.declared.compounds callable) in
    let origin : InnerCell → Option (ℕ × ℕ) = λ inner. Some (inner.line, inner.number) in
    let none : List (Option (ℕ × ℕ)) = map (λ name. None) network.declared.cells in
    let nones_long : length none ≡ length network.declared.cells = length-map network.declared.cells (λ name. None) in
    let inner_long : length (map origin network.inner) ≡ length network.inner = length-map network.inner origin in
    let all_long = length-append none (map origin network.inner) in
    let joined : none ++ map origin (network.inner ++ more) ≡ (none ++ map origin network.inner) ++ map origin more =
    ap (λ (l : List (Option (ℕ × ℕ))). none ++ l) (map-append origin network.inner more) ∙ sym (append_assoc none (map origin network.inner) (map origin more)) in
    ap (name_from cell)
    (ap (λ (l : List (Option (ℕ × ℕ))). get_or l cell None) joined
    ∙ before (none ++ map origin network.inner) (map origin more) cell None (omega (arith, here, nones_long, inner_long, all_long)))

declared_names : (network : Network) (cells : List ℕ) → All (λ cell. cell < length network.declared.cells) cells →
    map (name_in network) cells ≡ map DeclaredCell cells
declared_names network [] here = refl
declared_names network (cell ∷ cells) here =
    λ k. declared_name network cell (here 0 cell (omega arith)) k ∷ declared_names network cells (λ n d small. here (suc n) d (omega (arith, small))) k

-- by name, what is attached is the expansion of the callable on the names
pub attached_by_name : (network : Network) (line : ℕ) (callable : Callable) (cells : List ℕ) (support : Premises) →
    All (λ cell. cell < length network.declared.cells) cells →
    map (renamed (name_in (with_attached network line callable cells support))) (expansion_of network.declared.compounds callable cells (λ j. cells_in network + j))
    ≡ expansion_of network.declared.compounds callable (map DeclaredCell cells) (InnerCellOf line)
attached_by_name network line callable cells support here =
    let new = with_attached network line callable cells support in
    sym (expansion_renamed (name_in new) network.declared.compounds callable cells (λ j. cells_in network + j) (InnerCellOf line)
    (λ j made. sym (inner_name network line callable cells support j made)))
    ∙ ap (λ (l : List Name). expansion_of network.declared.compounds callable l (InnerCellOf line)) (declared_names new cells here)
