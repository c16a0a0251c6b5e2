-- What an attachment appends, one after another.
use Rattle.std.proofs.Common.{◌≡◌, ℕ, zero, suc, ◌+◌, ◌-◌, ◌<◌, ◌≤◌, List, [], ◌∷◌, ◌++◌, length, map, take, drop, get_or, cond, leb, refl, sym, ap, ◌∙◌, arith, length-take, take-append-drop, append-nil}
use Rattle.std.proofs.lemmas.List.{map-append, append_assoc, take_more, map_push, length-map, take-map}
use Rattle.std.proofs.Math.ListN.{get_or-map}
use Rattle.pw_info.specs.declared.kind.Kind.{Kind}
use Rattle.pw_premises.specs.Premises.{Premises}
use Rattle.pw_procs.specs.Registry.{cells_of}
use Rattle.pw_decl.specs.declared.flat_call.FlatCall.{FlatCall}
use Rattle.pw_decl.specs.Expansion.{Instance, instance_on, renamed}
use Rattle.pw_decl.specs.inside.Held.{instances_of}
use Rattle.pw_network.specs.declared.network.InnerCell.{InnerCell as InnerType}
use Rattle.pw_network.specs.declared.instance.Instance.{Instance as InstanceType}
use Rattle.pw_network.specs.inside.CompoundLists.{inner_made}
use Rattle.pw_network.specs.inside.Held.{attachment, inner_of}
use Rattle.pw_network.specs.Network.{Attached, attached_at, inner_cells_from}

-- ---- inner cells

abbrev made_at : ℕ → ℕ → ℕ → ℕ → Kind → InnerType
made_at line first list number kind =
    record {
      line = line;
      first = first;
      list = list + number;
      number = number;
      kind = kind;
    }

made_push : (line first list number : ℕ) (kinds : List Kind) (kind : Kind) (at : ℕ) → number + length kinds ≡ at →
    inner_made line first list number (kinds ++ kind ∷ []) ≡ inner_made line first list number kinds ++ made_at line first list at kind ∷ []
made_push line first list number [] kind at is =
    let same : number ≡ at = omega (arith, is) in ap (λ n. made_at line first list n kind ∷ []) same
made_push line first list number (k ∷ kinds) kind at is =
    ap (λ cells. made_at line first list number k ∷ cells) (made_push line first list (number + 1) kinds kind at (omega (arith, is)))

-- one more inner cell
pub made_more : (line first list : ℕ) (old before after : List InnerType) (kinds : List Kind) (i : ℕ) (kind : Kind) →
    i < length kinds → after ≡ before ++ made_at line first list i kind ∷ [] → kind ≡ get_or kinds i kind →
    before ≡ old ++ inner_made line first list 0 (take i kinds) →
    after ≡ old ++ inner_made line first list 0 (take (i + 1) kinds)
made_more line first list old before after kinds i kind there pushed is so_far =
    pushed ∙ ap (λ xs. xs ++ made_at line first list i kind ∷ []) so_far
    ∙ append_assoc old (inner_made line first list 0 (take i kinds)) (made_at line first list i kind ∷ [])
    ∙ ap (λ xs. old ++ xs) (
    sym (made_push line first list 0 (take i kinds) kind i (omega (arith, length-take i kinds)))
    ∙ ap (λ k. inner_made line first list 0 (take i kinds ++ k ∷ [])) is
    ∙ ap (inner_made line first list 0) (sym (take_more kinds i kind there)))

-- they are the inner cells of the attachment
pub made_are : (line first list number : ℕ) (kinds : List Kind) →
    map inner_of (inner_made line first list number kinds) ≡ inner_cells_from line number kinds
made_are line first list number [] = refl
made_are line first list number (kind ∷ kinds) =
    ap (λ cells. record { line = line; number = number; kind = kind } ∷ cells) (made_are line first list (number + 1) kinds)

pub length-made : (line first list number : ℕ) (kinds : List Kind) → length (inner_made line first list number kinds) ≡ length kinds
length-made line first list number [] = refl
length-made line first list number (kind ∷ kinds) = let rest = length-made line first list (number + 1) kinds in omega (arith, rest)

-- what one of them holds
pub record IsMadeAt (first list : ℕ) (inner : InnerType) : Type 0 where
  pub first_is : inner.first ≡ first
  pub list_is : inner.list ≡ list

pub made_get : (line first list number : ℕ) (kinds : List Kind) (i : ℕ) (d : InnerType) → i < length kinds →
    IsMadeAt first (list + (number + i)) (get_or (inner_made line first list number kinds) i d)
made_get line first list number [] i d there = absurd (omega arith)
made_get line first list number (kind ∷ kinds) zero d there = record { first_is = refl; list_is = omega arith }
made_get line first list number (kind ∷ kinds) (suc i) d there =
    let rest = made_get line first list (number + 1) kinds i d (omega arith) in
    record { first_is = rest.first_is; list_is = let is = rest.list_is in omega (arith, is) }

-- ---- instances

-- a procedure put between cells of other names is the renamed instance
pub instance_on_renamed : {C D : Type 0} (number : ℕ) (name : C → D) (cells : List C) →
    instance_on number (map name cells) ≡ map (renamed name) (instance_on number cells)
instance_on_renamed number name [] = refl
instance_on_renamed number name (cell ∷ cells) =
    let long = length-map cells name in
    let inputs = ap (λ n. take n (map name (cell ∷ cells))) long ∙ take-map name (length cells) (cell ∷ cells) in
    let output = ap (λ n. get_or (map name (cell ∷ cells)) n (name cell)) long ∙ get_or-map name (cell ∷ cells) (length cells) cell in
    λ i. record { procedure = number; inputs = inputs i; output = output i } ∷ []

pub instances_push : (calls : List FlatCall) (call : FlatCall) →
    instances_of (calls ++ call ∷ []) ≡ instances_of calls ++ instance_on call.procedure (cells_of call.places)
instances_push [] call = append-nil (instance_on call.procedure (cells_of call.places))
instances_push (first ∷ calls) call =
    ap (λ xs. instance_on first.procedure (cells_of first.places) ++ xs) (instances_push calls call)
    ∙ sym (append_assoc (instance_on first.procedure (cells_of first.places)) (instances_of calls) (instance_on call.procedure (cells_of call.places)))

-- the instance of one more call
pub instances_more : (line : ℕ) (support : Premises) (name : ℕ → ℕ) (old : List Attached) (before after : List InstanceType)
    (calls : List FlatCall) (i : ℕ) (call : FlatCall) (placed : List ℕ) (x : InstanceType) →
    i < length calls → call ≡ get_or calls i call → after ≡ before ++ x ∷ [] →
    placed ≡ map name (cells_of call.places) → instance_on call.procedure placed ≡ (attachment x).instance ∷ [] →
    (attachment x).line ≡ line → (attachment x).support ≡ support →
    map attachment before ≡ old ++ map (attached_at line support) (map (renamed name) (instances_of (take i calls))) →
    map attachment after ≡ old ++ map (attached_at line support) (map (renamed name) (instances_of (take (i + 1) calls)))
instances_more line support name old before after calls i call placed x there read pushed at made lines supports so_far =
    let become : List (Instance ℕ) → List Attached = λ instances. map (attached_at line support) (map (renamed name) instances) in
    let own = instance_on call.procedure (cells_of call.places) in
    let one : become own ≡ attachment x ∷ [] =
    ap (map (attached_at line support)) (sym (instance_on_renamed call.procedure name (cells_of call.places))
    ∙ ap (instance_on call.procedure) (sym at) ∙ made)
    ∙ (λ j. record { instance = (attachment x).instance; line = sym lines j; support = sym supports j } ∷ []) in
    ap (map attachment) pushed ∙ map_push attachment before x
    ∙ ap (λ xs. xs ++ attachment x ∷ []) so_far
    ∙ append_assoc old (become (instances_of (take i calls))) (attachment x ∷ [])
    ∙ ap (λ xs. old ++ xs) (
    ap (λ xs. become (instances_of (take i calls)) ++ xs) (sym one)
    ∙ sym (ap (map (attached_at line support)) (map-append (renamed name) (instances_of (take i calls)) own)
    ∙ map-append (attached_at line support) (map (renamed name) (instances_of (take i calls))) (map (renamed name) own))
    ∙ ap become (sym (instances_push (take i calls) call)
    ∙ ap (λ c. instances_of (take i calls ++ c ∷ [])) read
    ∙ ap instances_of (sym (take_more calls i call there))))

-- instances, and then those that came after them
pub rejoined : (old new : List InstanceType) → take (length old) new ≡ old → new ≡ old ++ drop (length old) new
rejoined old new first = sym (take-append-drop (length old) new) ∙ ap (λ l. l ++ drop (length old) new) first

-- ---- an instance with one input or two, between the cells at these places

pub one_placed : (procedure output one : ℕ) (name : ℕ → ℕ) (places more : List ℕ) (held : ℕ × List ℕ × ℕ) →
    2 ≤ length places → length places < 3 → one ≡ name (get_or places 0 0) → held ≡ (1, one ∷ 0 ∷ [], get_or places 1 0) → output ≡ name held.2 →
    instance_on procedure (map name places) ≡ record { procedure = procedure; inputs = take held.0 (cond (leb held.0 2) held.1 more); output = output } ∷ []
one_placed procedure output one name [] more held least below is same last = absurd (omega (arith, least))
one_placed procedure output one name (a ∷ []) more held least below is same last = absurd (omega (arith, least))
one_placed procedure output one name (a ∷ b ∷ []) more held least below is same last =
    let inputs : name a ∷ [] ≡ take held.0 (cond (leb held.0 2) held.1 more) =
    ap (λ x. x ∷ []) (sym is) ∙ ap (λ (p : ℕ × List ℕ × ℕ). take p.0 (cond (leb p.0 2) p.1 more)) (sym same) in
    let outputs : name b ≡ output = sym (last ∙ ap (λ (p : ℕ × List ℕ × ℕ). name p.2) same) in
    λ i. record { procedure = procedure; inputs = inputs i; output = outputs i } ∷ []
one_placed procedure output one name (a ∷ b ∷ c ∷ places) more held least below is same last = absurd (omega (arith, below))

pub two_placed : (procedure output one another : ℕ) (name : ℕ → ℕ) (places more : List ℕ) (held : ℕ × List ℕ × ℕ) →
    3 ≤ length places → length places < 4 → one ≡ name (get_or places 0 0) → another ≡ name (get_or places 1 0) →
    held ≡ (2, one ∷ another ∷ [], get_or places 2 0) → output ≡ name held.2 →
    instance_on procedure (map name places) ≡ record { procedure = procedure; inputs = take held.0 (cond (leb held.0 2) held.1 more); output = output } ∷ []
two_placed procedure output one another name [] more held least below is other same last = absurd (omega (arith, least))
two_placed procedure output one another name (a ∷ []) more held least below is other same last = absurd (omega (arith, least))
two_placed procedure output one another name (a ∷ b ∷ []) more held least below is other same last = absurd (omega (arith, least))
two_placed procedure output one another name (a ∷ b ∷ c ∷ []) more held least below is other same last =
    let inputs : name a ∷ name b ∷ [] ≡ take held.0 (cond (leb held.0 2) held.1 more) =
    (λ i. sym is i ∷ sym other i ∷ []) ∙ ap (λ (p : ℕ × List ℕ × ℕ). take p.0 (cond (leb p.0 2) p.1 more)) (sym same) in
    let outputs : name c ≡ output = sym (last ∙ ap (λ (p : ℕ × List ℕ × ℕ). name p.2) same) in
    λ i. record { procedure = procedure; inputs = inputs i; output = outputs i } ∷ []
two_placed procedure output one another name (a ∷ b ∷ c ∷ d ∷ places) more held least below is other same last = absurd (omega (arith, below))

-- an instance reads all its cells but the last
pub inputs_on : (procedure : ℕ) (cells : List ℕ) (instance : Instance ℕ) → instance_on procedure cells ≡ instance ∷ [] →
    instance.inputs ≡ take (length cells - 1) cells
inputs_on procedure [] instance is = absurd (let e = ap length is in omega (arith, e))
inputs_on procedure (cell ∷ cells) instance is =
    let many : length cells ≡ length (cell ∷ cells) - 1 = omega arith in
    ap (λ (l : List (Instance ℕ)). (get_or l 0 instance).inputs) (sym is) ∙ ap (λ n. take n (cell ∷ cells)) many
