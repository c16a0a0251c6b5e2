-- What a settling has at hand after it kept a fact that an instance made.
use Rattle.std.proofs.Common.{◌≡◌, ℕ, Bool, true, List, [], ◌∷◌, All, Contains, length, map, refl, sym, ap, ◌∙◌, subst, inl, inr}
use Rattle.std.specs.Cmp.{nat_cmp_total}
use Rattle.std.specs.FinSet.{contains, contains-union, is_subset, is_subset-contains, union}
use Rattle.std.specs.List.{AllZip}
use Rattle.std.proofs.lemmas.Bool.{or_cases}
use Rattle.std.proofs.lemmas.List.Elements.{All-contains, All-head, All-tail, All-weaker}
use Rattle.pw_info.specs.declared.info.Info.{Info}
use Rattle.pw_info.specs.Information.{allows, kind_of, Implies}
use Rattle.pw_premises.specs.Premises.{Premises}
use Rattle.pw_procs.specs.Procedure.{Procedure, value_by}
use Rattle.pw_procs.specs.Signature.{output_slot_of}
use Rattle.pw_procs.proofs.MeaningLaws.{value_mono}
use Rattle.pw_facts.specs.declared.fact.Fact.{Fact}
use Rattle.pw_cells.specs.Cells.{IsUnsaid, Store, kept_at, kept_in, kind_in_store, kinds_of}
use Rattle.pw_cells.proofs.Together.{larger_shown}
use Rattle.pw_network.specs.Network.{Attached, Network, IsWellNetwork}
use Rattle.pw_settle.specs.Calls.{is_instance_visible}
use Rattle.pw_settle.specs.inside.Known.{AreKept}
use Rattle.pw_settle.specs.inside.Known.{IsPlaced}
use Rattle.pw_settle.specs.inside.Progress.{IsNews}
use Rattle.pw_settle.specs.Settled.{info_at, support_at}
use Rattle.pw_settle.specs.Sound.{IsSound, LieUpstream, LiesUpstream}
use Rattle.pw_settle.specs.Sources.{IsImplied, said_by}
use Rattle.pw_settle.specs.Values.{kinds_in, propagators_of, told_sources, value_in, visible_instances}
use Rattle.pw_settle.proofs.JoinedSupports.{joined_from, joined_parts, joined_within}
use Rattle.pw_settle.proofs.KeptFacts.{kind-in_value, kind-kept}
use Rattle.pw_settle.proofs.PlacedInstances.{accepted, the_source}
use Rattle.pw_settle.proofs.SettledValues.{all_placed, says}
use Rattle.pw_settle.proofs.SourceLists.{all_after}
use Rattle.pw_settle.proofs.ValueGrows.{seen_source}

-- if of some cells one is more informed than the other, so are their informations one by one
map_more : (better known : ℕ → Info) (cells : List ℕ) → All (λ c. Implies (better c) (known c)) cells → AllZip Implies (map better cells) (map known cells)
map_more better known [] more = tt
map_more better known (c ∷ cells) more =
    (λ v possible. All-head (λ c. Implies (better c) (known c)) c cells more v possible, map_more better known cells (All-tail (λ c. Implies (better c) (known c)) c cells more))

-- informations of cells that are of their kinds
pub kinds_mapped : (known : ℕ → Info) (store : Store) → ((c : ℕ) → kind_of (known c) ≡ kind_in_store store c) → (cells : List ℕ) →
    map kind_of (map known cells) ≡ map (kind_in_store store) cells
kinds_mapped known store are [] = refl
kinds_mapped known store are (c ∷ cells) = λ i. are c i ∷ kinds_mapped known store are cells i

-- a procedure says at least as much if of each input at least as much is known
pub value_more : (procedure : Procedure) (better known : ℕ → Info) (cells : List ℕ) → map kind_of (map better cells) ≡ map kind_of (map known cells) →
    All (λ c. Implies (better c) (known c)) cells → Implies (value_by procedure (map better cells)) (value_by procedure (map known cells))
value_more procedure better known cells one_kind more =
    value_mono (output_slot_of procedure.signature) (map better cells) (map known cells) one_kind (map_more better known cells more) procedure.meaning

-- the premises of news lie upstream of their cell, if those at hand lie upstream of theirs
pub lies : (network : Network) (infos : List Info) (supports : List Premises) (a : Attached) → Contains network.attached a → (cell : ℕ) (fact : Fact) →
    IsNews network infos supports a cell fact → (given : ℕ → ℕ → Bool) → LieUpstream network given supports → LiesUpstream network given cell fact.support
lies network infos supports a there cell fact is given lie cells upstream has p one =
    let out : cells a.instance.output ≡ true = subst (λ (c : ℕ). cells c ≡ true) is.output has in
    let inputs : All (λ input. cells input ≡ true) a.instance.inputs =
    All-contains (λ (b : Attached). cells b.instance.output ≡ true → All (λ input. cells input ≡ true) b.instance.inputs) network.attached a upstream there out in
    elim (joined_from supports a.support a.instance.inputs p (subst (λ (s : Premises). contains s p ≡ true) is.rests one)) [
      | inl own ↦ inr (a, there, out, own)
      | inr (c, among, its) ↦ lie c cells upstream (All-contains (λ input. cells input ≡ true) a.instance.inputs c inputs among) p its
    ]

-- so do premises of which each is one of two sets that do
pub both_lie : (network : Network) (given : ℕ → ℕ → Bool) (cell : ℕ) (known news both : Premises) → LiesUpstream network given cell known →
    LiesUpstream network given cell news → is_subset both (union known news) ≡ true → LiesUpstream network given cell both
both_lie network given cell known news both known_lie news_lie rests cells upstream has p one =
    elim (or_cases (contains known p) (contains news p)
    (sym (contains-union nat_cmp_total known news p) ∙ is_subset-contains nat_cmp_total both (union known news) rests p one)) [
      | inl was ↦ known_lie cells upstream has p was
      | inr came ↦ news_lie cells upstream has p came
    ]

module _ (network : Network) (well : IsWellNetwork network) (old : Store) (same : kinds_of old ≡ kinds_in network) (w : Premises)
    (infos : List Info) (supports : List Premises) (kept : AreKept old w infos supports)
    (a : Attached) (there : Contains network.attached a) (visible : is_instance_visible w a ≡ true)
    (cell : ℕ) (fact : Fact) (is : IsNews network infos supports a cell fact) where
  abbrev procedures : List Procedure
  procedures = network.declared.procedures

  placed : IsPlaced procedures (kinds_in network) a.instance
  placed = All-contains (λ (b : Attached). IsPlaced procedures (kinds_in network) b.instance) network.attached a (all_placed network well) there

  abbrev procedure : Procedure
  procedure = (accepted procedures (kinds_in network) a.instance placed).0

  -- what its procedure says is the fact's information
  said : value_by procedure (map (info_at infos) a.instance.inputs) ≡ fact.info
  said = the_source procedures (kinds_in network) a.instance placed (λ source. said_by (info_at infos) source ≡ fact.info) is.says

  -- in a worldview that has the fact's premises the instance is visible, and what is at hand of the
  -- inputs is kept there
  parts : (s : Premises) → is_subset fact.support s ≡ true →
      (is_subset a.support s ≡ true) × All (λ c. is_subset (support_at supports c) s ≡ true) a.instance.inputs
  parts s within = joined_parts supports s a.support a.instance.inputs (subst (λ (p : Premises). is_subset p s ≡ true) is.rests within)

  -- there the value of the output says what the fact says
  pub follows : IsSound network old → (s : Premises) → is_subset fact.support s ≡ true → Implies (value_in network old s cell) fact.info
  follows sound s within =
      let shown = parts s within in
      let value : ℕ → Info = λ c. value_in network old s c in
      let more : All (λ c. Implies (value c) (info_at infos c)) a.instance.inputs =
      All-weaker (λ c. is_subset (support_at supports c) s ≡ true) (λ c. Implies (value c) (info_at infos c))
      (λ c inside v possible. kept.enough c s inside v (sound s c v possible)) a.instance.inputs shown.1 in
      let one : Implies (value a.instance.output) (value_by procedure (map value a.instance.inputs)) =
      the_source procedures (kinds_in network) a.instance placed (IsImplied value)
      (seen_source procedures (IsImplied value) s a network.attached
      (all_after (IsImplied value) (told_sources old s (length (kinds_in network)))
      (propagators_of procedures (visible_instances network.attached s)) (says network old s same (all_placed network well)))
      there shown.0) in
      let step : Implies (value_by procedure (map value a.instance.inputs)) (value_by procedure (map (info_at infos) a.instance.inputs)) =
      value_more procedure value (info_at infos) a.instance.inputs
      (kinds_mapped value old (kind-in_value network old same s) a.instance.inputs
      ∙ sym (kinds_mapped (info_at infos) old (λ c. ap kind_of (kept.infos_are c) ∙ kind-kept old c w) a.instance.inputs)) more in
      λ v possible. subst (λ (i : Info). allows i v ≡ true) said
      (step v (one v (subst (λ (c : ℕ). allows (value c) v ≡ true) is.output possible)))

  -- its premises are in the worldview
  pub within : is_subset fact.support w ≡ true
  within = subst (λ (p : Premises). is_subset p w ≡ true) (sym is.rests) (joined_within supports w a.support a.instance.inputs visible kept.within)

  -- so what is kept on them does not say as much
  pub unsaid : IsUnsaid (kept_in old cell fact.support) fact.info
  unsaid said = is.new (λ v possible.
      said v (larger_shown (kind_in_store old cell) fact.support w (kept_at old cell) within v
      (subst (λ (i : Info). allows i v ≡ true) (kept.infos_are cell) possible)))
