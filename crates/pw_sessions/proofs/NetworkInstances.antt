-- The instances of the network that entries make: by the names of their cells they are what the
-- entries attach.
use Rattle.std.proofs.Common.{◌≡◌, ℕ, ◌+◌, ◌<◌, Bool, true, false, cond, List, [], ◌∷◌, ◌++◌, fold, filter, length, map, refl, sym, ap, ◌∙◌, arith, append-nil, append_assoc, All}
use Rattle.std.specs.List.{flat_map}
use Rattle.std.specs.FinSet.{is_subset}
use Rattle.std.proofs.lemmas.List.{map-append}
use Rattle.std.proofs.lemmas.List.Elements.{All-append, All-head, All-map, All-nil, All-tail, All-weaker, filter-append}
use Rattle.pw_premises.specs.Premises.{Premises}
use Rattle.pw_facts.specs.declared.fact.Fact.{Fact}
use Rattle.pw_decl.specs.declared.step.Callable.{Callable}
use Rattle.pw_decl.specs.Declaration.{Declared}
use Rattle.pw_decl.specs.Expansion.{Instance, SpeaksOf, expansion_of, renamed}
use Rattle.pw_decl.proofs.ExpansionFits.{expansion_speaks}
use Rattle.pw_network.specs.Wiring.{Name, DeclaredCell, InnerCellOf, name_in}
use Rattle.pw_network.specs.Network.{Attached as AttachedInstance, InstancesStay, Network, attached_at, bare, cells_in, with_attached}
use Rattle.pw_network.proofs.NameLemmas.{attached_by_name}
use Rattle.pw_settle.specs.Values.{visible_instances}
use Rattle.pw_settle.proofs.Membership.{same_on}
use Rattle.pw_sessions.specs.Values.{is_visible, visible_in}
use Rattle.pw_sessions.specs.Entries.{Entry, Told, Attached, FitsDeclared}
use Rattle.pw_sessions.specs.Workbench.{network_after, with_entry}
use Rattle.pw_sessions.proofs.NetworkNames.{cells_with_attached, names_stay}

-- ---- names that agree

-- an instance is the same under names that agree on its cells
renamed_same : {C D : Type 0} (f g : C → D) (instance : Instance C) → SpeaksOf (λ c. f c ≡ g c) instance →
    renamed f instance ≡ renamed g instance
renamed_same f g instance same =
    λ i. record { procedure = instance.procedure; inputs = same_on f g instance.inputs same.0 i; output = same.1 i }

-- an instance that mentions some cells mentions more
speaks_more : {C : Type 0} (IsHere IsThere : C → Type 0) → ((c : C) → IsHere c → IsThere c) → (instance : Instance C) →
    SpeaksOf IsHere instance → SpeaksOf IsThere instance
speaks_more IsHere IsThere more instance speaks =
    (All-weaker IsHere IsThere more instance.inputs speaks.0, more instance.output speaks.1)

-- ---- what is visible

-- the instances of further attachments are visible after those of the earlier
visible_append : (attached more : List AttachedInstance) (w : Premises) →
    visible_instances (attached ++ more) w ≡ visible_instances attached w ++ visible_instances more w
visible_append attached more w =
    ap (map (λ (a : AttachedInstance). a.instance)) (filter-append (λ (a : AttachedInstance). is_subset a.support w) attached more)
    ∙ map-append (λ (a : AttachedInstance). a.instance) (filter (λ (a : AttachedInstance). is_subset a.support w) attached)
    (filter (λ (a : AttachedInstance). is_subset a.support w) more)

-- those of one attachment are visible if its premises are believed
visible_all : (line : ℕ) (support w : Premises) (made : List (Instance ℕ)) → is_subset support w ≡ true →
    visible_instances (map (attached_at line support) made) w ≡ made
visible_all line support w [] visible = refl
visible_all line support w (instance ∷ made) visible = rw visible (ap (λ l. instance ∷ l) (visible_all line support w made visible))

-- and hidden if they are not
visible_none : (line : ℕ) (support w : Premises) (made : List (Instance ℕ)) → is_subset support w ≡ false →
    visible_instances (map (attached_at line support) made) w ≡ []
visible_none line support w [] hidden = refl
visible_none line support w (instance ∷ made) hidden = rw hidden (visible_none line support w made hidden)

-- ---- instances by name

-- the instances of an entry, by the names of their cells
abbrev pub instances_of : Declared → Entry → List (Instance Name)
instances_of d (Told line cell fact) = []
instances_of d (Attached line callable cells support) = expansion_of d.compounds callable (map DeclaredCell cells) (InnerCellOf line)

module _ (network : Network) (line : ℕ) (callable : Callable) (cells : List ℕ) (support : Premises)
    (here : All (λ cell. cell < length network.declared.cells) cells) where
  -- the network with the attachment, and its instances
  abbrev after : Network
  after = with_attached network line callable cells support

  abbrev made : List (Instance ℕ)
  made = expansion_of network.declared.compounds callable cells (λ j. cells_in network + j)

  -- what is attached stays on the cells that exist
  made_here : All (SpeaksOf (λ cell. cell < cells_in after)) made
  made_here =
      let more = cells_with_attached network line callable cells support in
      expansion_speaks (λ cell. cell < cells_in after) network.declared.compounds callable cells (λ j. cells_in network + j)
      (All-weaker (λ cell. cell < length network.declared.cells) (λ cell. cell < cells_in after)
      (λ cell there. omega (arith, more, there)) cells here)
      (λ j within. omega (arith, more, within))

  -- so if the instances stay on the cells, they still do
  stay_attached : InstancesStay network → InstancesStay after
  stay_attached stay =
      let more = cells_with_attached network line callable cells support in
      All-append (λ (a : AttachedInstance). SpeaksOf (λ cell. cell < cells_in after) a.instance) network.attached
      (map (attached_at line support) made)
      (All-weaker (λ (a : AttachedInstance). SpeaksOf (λ cell. cell < cells_in network) a.instance)
      (λ (a : AttachedInstance). SpeaksOf (λ cell. cell < cells_in after) a.instance)
      (λ a. speaks_more (λ cell. cell < cells_in network) (λ cell. cell < cells_in after) (λ cell there. omega (arith, more, there))
      a.instance)
      network.attached stay)
      (All-map (λ (a : AttachedInstance). SpeaksOf (λ cell. cell < cells_in after) a.instance) (attached_at line support) made made_here)

  -- by the names that they have at last, they are the expansion of the callable on names
  made_by_name : (entries : List Entry) →
      map (renamed (name_in (fold with_entry after entries))) made ≡ instances_of network.declared (Attached line callable cells support)
  made_by_name entries =
      same_on (renamed (name_in (fold with_entry after entries))) (renamed (name_in after)) made
      (All-weaker (SpeaksOf (λ cell. cell < cells_in after))
      (λ instance. renamed (name_in (fold with_entry after entries)) instance ≡ renamed (name_in after) instance)
      (λ instance speaks. renamed_same (name_in (fold with_entry after entries)) (name_in after) instance
      (speaks_more (λ cell. cell < cells_in after) (λ cell. name_in (fold with_entry after entries) cell ≡ name_in after cell)
      (names_stay after entries) instance speaks)) made made_here)
      ∙ attached_by_name network line callable cells support here

-- if the instances stay on the cells, they still do with further entries
stay_from : (network : Network) (entries : List Entry) → All (FitsDeclared network.declared) entries → InstancesStay network →
    InstancesStay (fold with_entry network entries)
stay_from network [] fit stay = stay
stay_from network (Told line cell fact ∷ entries) fit stay =
    stay_from network entries (All-tail (FitsDeclared network.declared) (Told line cell fact) entries fit) stay
stay_from network (Attached line callable cells support ∷ entries) fit stay =
    let entry : Entry = Attached line callable cells support in
    stay_from (with_attached network line callable cells support) entries (All-tail (FitsDeclared network.declared) entry entries fit)
    (stay_attached network line callable cells support (All-head (FitsDeclared network.declared) entry entries fit).0 stay)

-- the instances of the network that entries make stay on its cells
pub instances_stay : (d : Declared) (entries : List Entry) → All (FitsDeclared d) entries → InstancesStay (network_after d entries)
instances_stay d entries fit =
    stay_from (bare d) entries fit (All-nil (λ (a : AttachedInstance). SpeaksOf (λ cell. cell < cells_in (bare d)) a.instance))

-- a fact attaches nothing, seen or not
told_attaches_none : (d : Declared) (line cell : ℕ) (fact : Fact) (seen : Bool) (rest : List Entry) →
    flat_map (instances_of d) rest ≡ flat_map (instances_of d) (cond seen (Told line cell fact ∷ rest) rest)
told_attaches_none d line cell fact true rest = refl
told_attaches_none d line cell fact false rest = refl

-- an attachment has its instances if it is seen
attached_seen : (d : Declared) (entry : Entry) (seen : Bool) (shown : List (Instance Name)) (rest : List Entry) →
    (seen ≡ true → shown ≡ instances_of d entry) → (seen ≡ false → shown ≡ []) →
    shown ++ flat_map (instances_of d) rest ≡ flat_map (instances_of d) (cond seen (entry ∷ rest) rest)
attached_seen d entry true shown rest here not_here = ap (λ l. l ++ flat_map (instances_of d) rest) (here refl)
attached_seen d entry false shown rest here not_here = ap (λ l. l ++ flat_map (instances_of d) rest) (not_here refl)

-- by name the visible instances are those that there were, and then those of the visible entries
visible_from : (network : Network) (entries : List Entry) (w : Premises) → All (FitsDeclared network.declared) entries →
    map (renamed (name_in (fold with_entry network entries))) (visible_instances (fold with_entry network entries).attached w) ≡
    map (renamed (name_in (fold with_entry network entries))) (visible_instances network.attached w)
    ++ flat_map (instances_of network.declared) (visible_in entries w)
visible_from network [] w fit = sym (append-nil (map (renamed (name_in network)) (visible_instances network.attached w)))
visible_from network (Told line cell fact ∷ entries) w fit =
    visible_from network entries w (All-tail (FitsDeclared network.declared) (Told line cell fact) entries fit)
    ∙ ap (λ (l : List (Instance Name)).
    map (renamed (name_in (fold with_entry network entries))) (visible_instances network.attached w) ++ l)
    (told_attaches_none network.declared line cell fact (is_visible w (Told line cell fact)) (visible_in entries w))
visible_from network (Attached line callable cells support ∷ entries) w fit =
    let entry : Entry = Attached line callable cells support in
    let here = (All-head (FitsDeclared network.declared) entry entries fit).0 in
    let after : Network = with_attached network line callable cells support in
    let name : ℕ → Name = name_in (fold with_entry after entries) in
    let made : List (Instance ℕ) = expansion_of network.declared.compounds callable cells (λ j. cells_in network + j) in
    let old : List (Instance ℕ) = visible_instances network.attached w in
    let new : List (Instance ℕ) = visible_instances (map (attached_at line support) made) w in
    let rest : List (Instance Name) = flat_map (instances_of network.declared) (visible_in entries w) in
    visible_from after entries w (All-tail (FitsDeclared network.declared) entry entries fit)
    ∙ ap (λ (l : List (Instance ℕ)). map (renamed name) l ++ rest) (visible_append network.attached (map (attached_at line support) made) w)
    ∙ ap (λ (l : List (Instance Name)). l ++ rest) (map-append (renamed name) old new)
    ∙ append_assoc (map (renamed name) old) (map (renamed name) new) rest
    ∙ ap (λ (l : List (Instance Name)). map (renamed name) old ++ l)
    (attached_seen network.declared entry (is_subset support w) (map (renamed name) new) (visible_in entries w)
    (λ seen. ap (map (renamed name)) (visible_all line support w made seen) ∙ made_by_name network line callable cells support here entries)
    (λ hidden. ap (map (renamed name)) (visible_none line support w made hidden)))

-- by the names of their cells, the visible instances of the network that entries make are what the
-- visible entries attach
pub visible_by_name : (d : Declared) (entries : List Entry) (w : Premises) → All (FitsDeclared d) entries →
    map (renamed (name_in (network_after d entries))) (visible_instances (network_after d entries).attached w) ≡
    flat_map (instances_of d) (visible_in entries w)
visible_by_name d entries w fit = visible_from (bare d) entries w fit
