-- What an attachment of a compound appends is its expansion.
use Rattle.std.proofs.Common.{◌≡◌, ℕ, ◌+◌, ◌<◌, ◌≤◌, List, [], ◌∷◌, ◌++◌, Some, length, map, Bool, true, IsTrue, ◌↔◌, sym, ap, subst, ◌∙◌, arith, append-nil}
use Rattle.std.specs.Prelude.{All}
use Rattle.std.proofs.lemmas.List.{length-map, map-append, map_push}
use Rattle.pw_info.specs.declared.kind.Kind.{Kind}
use Rattle.pw_premises.specs.Premises.{Premises}
use Rattle.pw_decl.specs.declared.flat_call.FlatCall.{FlatCall}
use Rattle.pw_decl.specs.declared.step.Callable.{Callable}
use Rattle.pw_decl.specs.declared.step.Callable.TheVariants as callables
use Rattle.pw_decl.specs.Compound.{Compound, kinds_at}
use Rattle.pw_decl.specs.Declaration.{Declared, Takes}
use Rattle.pw_decl.specs.Expansion.{instance_on, expansion_of, inner_kinds_of, on_places, at_place, renamed}
use Rattle.pw_decl.specs.Limits.{most_inner_cells}
use Rattle.pw_network.specs.declared.network.InnerCell.{InnerCell as InnerType}
use Rattle.pw_network.specs.declared.instance.Instance.{Instance as InstanceType}
use Rattle.pw_decl.specs.inside.Held.{AreCallsOf, instances_of}
use Rattle.pw_network.specs.inside.CompoundLists.{inner_made}
use Rattle.pw_network.specs.inside.Held.{attachment, inner_of, wiring_from}
use Rattle.pw_network.specs.Network.{MayAttach}
use Rattle.pw_network.specs.Network.{last_attachment_line}
use Rattle.pw_network.specs.Network.{Network, IsWellNetwork, attached_at, cells_in, inner_cells_from, kind_in, with_attached}
use Rattle.pw_decl.proofs.ExpansionLemmas.{expansion_placed}
use Rattle.pw_network.proofs.AttachedCells.{made_are}
use Rattle.pw_network.proofs.WellNetworks.{kinds_of_cells}

-- what is given is one thing
pub some_is : {A : Type 0} (x y : A) → Some x ≡ Some y → x ≡ y
some_is x y e = cc

-- as many cells as parameters
pub as_many : (network : Network) (line number : ℕ) (calls : List FlatCall) (cells : List ℕ) (support : Premises) → IsWellNetwork network →
    (are : AreCallsOf network.declared.compounds number calls) → MayAttach network line (callables.Compound number) cells →
    length (inner_kinds_of network.declared.compounds (callables.Compound number)) ≤ most_inner_cells →
    length are.compound.parameters ≡ length cells
as_many network line number calls cells support well are may few =
    let (compound, at, same) = may.takes in
    ap (λ (c : Compound). length c.parameters) (some_is are.compound compound (sym are.is ∙ at))
    ∙ ap length (sym same) ∙ ap length (sym (kinds_of_cells network line (callables.Compound number) cells support well may few))
    ∙ length-map cells (kind_in network)

-- the placed calls are the expansion
pub calls_placed : (network : Network) (line number : ℕ) (calls : List FlatCall) (cells : List ℕ) (support : Premises) → IsWellNetwork network →
    AreCallsOf network.declared.compounds number calls → MayAttach network line (callables.Compound number) cells →
    length (inner_kinds_of network.declared.compounds (callables.Compound number)) ≤ most_inner_cells → (first : ℕ) → first ≡ cells_in network →
    map (renamed (at_place cells (λ j. first + j))) (instances_of calls)
    ≡ expansion_of network.declared.compounds (callables.Compound number) cells (λ j. cells_in network + j)
calls_placed network line number calls cells support well are may few first is =
    ap (λ n. map (renamed (at_place cells (λ j. n + j))) (instances_of calls)) is
    ∙ ap (map (renamed (at_place cells (λ j. cells_in network + j))))
    (are.calls_are ∙ ap (on_places (expansion_of network.declared.compounds (callables.Compound number))) (as_many network line number calls cells support well are may few))
    ∙ sym (expansion_placed network.declared.compounds (callables.Compound number) cells (λ j. cells_in network + j))

-- what the code has after it appended is the network with the compound attached
pub compound_attached : (declared : Declared) (inner inner_room inner_after : List InnerType) (instances instances_room attached instances_after : List InstanceType)
    (last line number : ℕ) (calls : List FlatCall) (kinds : List Kind) (cells : List ℕ) (support : Premises) →
    IsWellNetwork (wiring_from declared inner instances last) → AreCallsOf declared.compounds number calls →
    MayAttach (wiring_from declared inner instances last) line (callables.Compound number) cells →
    kinds ≡ inner_kinds_of declared.compounds (callables.Compound number) → length kinds ≤ most_inner_cells →
    (first count list : ℕ) → first ≡ cells_in (wiring_from declared inner instances last) →
    inner_room ≡ inner → inner_after ≡ inner_room ++ inner_made line count list 0 kinds →
    instances_room ≡ instances → instances_after ≡ instances_room ++ attached →
    map attachment attached ≡ map (attached_at line support) (map (renamed (at_place cells (λ j. first + j))) (instances_of calls)) →
    wiring_from declared inner_after instances_after line ≡ with_attached (wiring_from declared inner instances last) line (callables.Compound number) cells support
compound_attached declared inner inner_room inner_after instances instances_room attached instances_after last line number calls kinds cells support
    well are may are_kinds few first count list is same_inner more_inner same_instances appended made =
    let network = wiring_from declared inner instances last in
    let few : length (inner_kinds_of declared.compounds (callables.Compound number)) ≤ most_inner_cells = let l = ap length are_kinds in omega arith in
    let inners = ap (map inner_of) more_inner ∙ map-append inner_of inner_room (inner_made line count list 0 kinds)
    ∙ (λ i. map inner_of (same_inner i) ++ made_are line count list 0 kinds i)
    ∙ ap (λ l. map inner_of inner ++ inner_cells_from line 0 l) are_kinds in
    let attaches = ap (map attachment) appended ∙ map-append attachment instances_room attached
    ∙ ap (λ l. map attachment instances_room ++ l) made
    ∙ ap (λ l. map attachment l ++ map (attached_at line support) (map (renamed (at_place cells (λ j. first + j))) (instances_of calls))) same_instances
    ∙ ap (λ l. map attachment instances ++ map (attached_at line support) l) (calls_placed network line number calls cells support well are may few first is) in
    λ i. record { declared = declared; inner = inners i; attached = attaches i; last_line = line }

-- and so for a procedure
pub procedure_attached : (declared : Declared) (inner : List InnerType) (instances instances_room instances_after : List InstanceType)
    (last line number : ℕ) (cells : List ℕ) (support : Premises) (x : InstanceType) →
    instances_room ≡ instances → instances_after ≡ instances_room ++ x ∷ [] →
    instance_on number cells ≡ (attachment x).instance ∷ [] → (attachment x).line ≡ line → (attachment x).support ≡ support →
    wiring_from declared inner instances_after line ≡ with_attached (wiring_from declared inner instances last) line (callables.Stored number) cells support
procedure_attached declared inner instances instances_room instances_after last line number cells support x same_instances pushed made lines supports =
    let one : attachment x ∷ [] ≡ map (attached_at line support) (instance_on number cells) =
    (λ i. record { instance = (attachment x).instance; line = lines i; support = supports i } ∷ []) ∙ ap (map (attached_at line support)) (sym made) in
    let attaches = ap (map attachment) pushed ∙ map_push attachment instances_room x
    ∙ ap (λ l. map attachment l ++ attachment x ∷ []) same_instances ∙ ap (λ l. map attachment instances ++ l) one in
    λ i. record { declared = declared; inner = sym (append-nil (map inner_of inner)) i; attached = attaches i; last_line = line }

-- what a declaration says about a callable and cells, if it takes them, allows their attachment
pub may_attach : (network : Network) (line : ℕ) (callable other : Callable) (cells : List ℕ) (kinds : List Kind) (takes : Bool) →
    IsTrue takes ↔ Takes network.declared callable (kinds_at kinds cells) → takes ≡ true → kinds ≡ network.declared.kinds →
    All (λ cell. cell < length network.declared.cells) cells → network.last_line < line → line ≤ last_attachment_line → callable ≡ other → MayAttach network line other cells
may_attach network line callable other cells kinds takes same done are_kinds here next most is =
    record {
      takes = subst (λ (c : Callable). Takes network.declared c (kinds_at network.declared.kinds cells)) is
          (subst (λ (l : List Kind). Takes network.declared callable (kinds_at l cells)) are_kinds (same.0 done));
      here = here;
      next = next;
      most = most;
    }
