-- What follows in a network still follows if no less is told and more is attached.
use Rattle.std.proofs.Common.{◌≡◌, ℕ, ◌+◌, ◌<◌, ◌≤◌, true, cond, List, [], ◌∷◌, ◌++◌, All, Contains, length, map, get_or, refl, sym, ap, ◌∙◌, subst, arith, inl, inr, append-nil, append_assoc, length-append}
use Rattle.std.specs.Prelude.{nat_lt}
use Rattle.std.specs.FinSet.{is_subset}
use Rattle.std.specs.List.{range_with_len}
use Rattle.std.proofs.lemmas.Bool.{cases_Bool, lt-ltb, ltb-false, ltb-true}
use Rattle.std.proofs.lemmas.List.{get_or_append_left, get_or_past, map-append}
use Rattle.std.proofs.lemmas.List.Elements.{All-append, All-contains, All-map, All-weaker, Contains-append_left}
use Rattle.pw_info.specs.declared.kind.Kind.{Kind}
use Rattle.pw_info.specs.declared.kind.Kind.TheVariants as kinds
use Rattle.pw_info.specs.declared.info.Info.{Info}
use Rattle.pw_info.specs.Information.{allows, kind_of, nothing, Implies}
use Rattle.pw_info.proofs.Informations.{kind-closest}
use Rattle.pw_premises.specs.Premises.{Premises}
use Rattle.pw_procs.specs.Procedure.{Procedure, value_by}
use Rattle.pw_cells.specs.Cells.{Store, kinds_of, told_in}
use Rattle.pw_decl.specs.declared.step.Callable.{Callable}
use Rattle.pw_decl.specs.Declaration.{Declared}
use Rattle.pw_decl.specs.Expansion.{expansion_of, inner_kinds_of}
use Rattle.pw_decl.proofs.FlatKept.{range_below}
use Rattle.pw_network.specs.Network.{Attached, InnerCell, Network, IsWellNetwork, attached_at, cells_in, inner_cells_from, with_attached}
use Rattle.pw_settle.specs.inside.Known.{IsPlaced}
use Rattle.pw_settle.specs.Sources.{IsImplied, Told}
use Rattle.pw_settle.specs.Values.{kinds_in, numbered, numbers_of_cells, propagators_of, sources_in, told_sources, value_in, visible_instances}
use Rattle.pw_settle.specs.Growth.{IsWider}
use Rattle.pw_settle.proofs.FixpointLemmas.{fixpoint_below}
use Rattle.pw_settle.proofs.KeptFacts.{kind-in_value, kind_there}
use Rattle.pw_settle.proofs.Membership.{contains_map, each_member, same_on}
use Rattle.pw_settle.proofs.PlacedInstances.{accepted, all_sources, the_source}
use Rattle.pw_settle.proofs.SettledValues.{all_placed, are_over, contains_number, says}
use Rattle.pw_settle.proofs.SourceLists.{all_after, all_before}
use Rattle.pw_settle.proofs.ValueGrows.{all_seen, seen_source}

-- each has all that it has itself
pub wide_self : (network : Network) → IsWider network network
wide_self network = record {
  declared = refl;
  own = [];
  kinds_are = sym (append-nil (kinds_in network));
  more = [];
  attached_are = sym (append-nil network.attached);
}

-- the kinds of the inner cells of an attachment
kinds_of_inner : (line number : ℕ) (kinds : List Kind) →
    map (λ (inner : InnerCell). inner.kind) (inner_cells_from line number kinds) ≡ kinds
kinds_of_inner line number [] = refl
kinds_of_inner line number (kind ∷ kinds) = ap (λ l. kind ∷ l) (kinds_of_inner line (number + 1) kinds)

-- the kinds of new cells follow those of the others
pub kinds_with_attached : (network : Network) (line : ℕ) (callable : Callable) (cells : List ℕ) (support : Premises) →
    kinds_in (with_attached network line callable cells support) ≡ kinds_in network ++ inner_kinds_of network.declared.compounds callable
kinds_with_attached network line callable cells support =
    let own : List Kind = inner_kinds_of network.declared.compounds callable in
    ap (λ (l : List Kind). network.declared.kinds ++ l)
    (map-append (λ (inner : InnerCell). inner.kind) network.inner (inner_cells_from line 0 own)
    ∙ ap (λ (l : List Kind). map (λ (inner : InnerCell). inner.kind) network.inner ++ l) (kinds_of_inner line 0 own))
    ∙ sym (append_assoc network.declared.kinds (map (λ (inner : InnerCell). inner.kind) network.inner) own)

-- and so has the network with a callable attached
pub wide_attached : (network : Network) (line : ℕ) (callable : Callable) (cells : List ℕ) (support : Premises) →
    IsWider network (with_attached network line callable cells support)
wide_attached network line callable cells support = record {
  declared = refl;
  own = inner_kinds_of network.declared.compounds callable;
  kinds_are = kinds_with_attached network line callable cells support;
  more = map (attached_at line support) (expansion_of network.declared.compounds callable cells (λ j. cells_in network + j));
  attached_are = refl;
}

-- what came with it rests on the premises under which it was attached
attached_under : (network : Network) (line : ℕ) (callable : Callable) (cells : List ℕ) (support : Premises) →
    All (λ (a : Attached). a.support ≡ support) (map (attached_at line support) (expansion_of network.declared.compounds callable cells (λ j. cells_in network + j)))
attached_under network line callable cells support =
    All-map (λ (a : Attached). a.support ≡ support) (attached_at line support)
    (expansion_of network.declared.compounds callable cells (λ j. cells_in network + j)) (λ k d within. refl)

-- a network with a callable attached is wider, by instances under those premises
pub widened_under : (network wider : Network) (line : ℕ) (callable : Callable) (cells : List ℕ) (support : Premises) →
    wider ≡ with_attached network line callable cells support → (wide : IsWider network wider) × All (λ (a : Attached). a.support ≡ support) wide.more
widened_under network wider line callable cells support same =
    subst (λ (n : Network). (wide : IsWider network n) × All (λ (a : Attached). a.support ≡ support) wide.more) (sym same) (
      record {
        declared = refl;
        own = inner_kinds_of network.declared.compounds callable;
        kinds_are = kinds_with_attached network line callable cells support;
        more = map (attached_at line support) (expansion_of network.declared.compounds callable cells (λ j. cells_in network + j));
        attached_are = refl;
      },
      attached_under network line callable cells support,
    )

-- what is attached to the one is attached to the other
pub still_attached : (network wider : Network) → IsWider network wider → (a : Attached) → Contains network.attached a → Contains wider.attached a
still_attached network wider wide a there =
    subst (λ (l : List Attached). Contains l a) (sym wide.attached_are) (Contains-append_left network.attached wide.more a there)

-- the value of an existing cell says what is told about it
pub value_says_told : (network : Network) (store : Store) (w : Premises) → IsWellNetwork network → kinds_of store ≡ kinds_in network →
    (c : ℕ) → c < length (kinds_in network) → Implies (value_in network store w c) (told_in store c w)
value_says_told network store w well same c below =
    All-contains (IsImplied (value_in network store w)) (told_sources store w (length (kinds_in network))) (Told c (told_in store c w))
    (all_before (IsImplied (value_in network store w)) (told_sources store w (length (kinds_in network)))
    (propagators_of network.declared.procedures (visible_instances network.attached w)) (says network store w same (all_placed network well)))
    (contains_map (λ c. Told c (told_in store c w)) (range_with_len 0 (length (kinds_in network))) c (contains_number (length (kinds_in network)) c below))

module _ (network wider : Network) (wide : IsWider network wider) (well : IsWellNetwork network) (also : IsWellNetwork wider) (old new : Store)
    (same : kinds_of old ≡ kinds_in network) (fits : kinds_of new ≡ kinds_in wider) (w : Premises)
    (told : (c : ℕ) → c < length (kinds_in network) → Implies (told_in new c w) (told_in old c w)) where
  abbrev count : ℕ
  count = length (kinds_in network)

  abbrev procedures : List Procedure
  procedures = network.declared.procedures

  abbrev value : ℕ → Info
  value = value_in wider new w

  -- the values of the cells that existed, and past them nothing
  abbrev clipped : ℕ → Info
  clipped c = cond (nat_lt c count) (value c) (nothing kinds.Interval)

  clipped_here : (c : ℕ) → c < count → clipped c ≡ value c
  clipped_here c below = ap (λ b. cond b (value c) (nothing kinds.Interval)) (lt-ltb c count below)

  count_more : count ≤ length (kinds_in wider)
  count_more = omega (arith, ap length wide.kinds_are, length-append (kinds_in network) wide.own)

  clipped_kinds : (c : ℕ) → kind_of (clipped c) ≡ (numbered (kinds_in network)).kind c
  clipped_kinds c =
      elim (cases_Bool (nat_lt c count)) [
        | inl is ↦
            let below = ltb-true c count is in
            ap kind_of (clipped_here c below) ∙ kind-in_value wider new fits w c ∙ kind_there wider new fits c
            ∙ ap (λ (l : List Kind). get_or l c kinds.Interval) wide.kinds_are
            ∙ get_or_append_left (kinds_in network) wide.own kinds.Interval c below
        | inr not ↦
            ap (λ b. kind_of (cond b (value c) (nothing kinds.Interval))) not
            ∙ kind-closest kinds.Interval (λ v. true) ∙ sym (get_or_past (kinds_in network) c kinds.Interval (ltb-false c count not))
      ]

  -- they say what was told
  clipped_told : All (IsImplied clipped) (told_sources old w count)
  clipped_told =
      All-map (IsImplied clipped) (λ c. Told c (told_in old c w)) (range_with_len 0 count)
      (All-weaker (λ c. c < count) (λ c. IsImplied clipped (Told c (told_in old c w)))
      (λ c below v possible.
      told c below v (value_says_told wider new w also fits c (omega (arith, below, count_more)) v
      (subst (λ (i : Info). allows i v ≡ true) (clipped_here c below) possible)))
      (range_with_len 0 count) (range_below count count (omega arith)))

  -- and what each visible instance says
  clipped_one : (a : Attached) → Contains network.attached a → is_subset a.support w ≡ true → All (IsImplied clipped) (propagators_of procedures (a.instance ∷ []))
  clipped_one a there seen =
      let placed : IsPlaced procedures (kinds_in network) a.instance =
      All-contains (λ (b : Attached). IsPlaced procedures (kinds_in network) b.instance) network.attached a (all_placed network well) there in
      let said : Implies (value a.instance.output) (value_by (accepted procedures (kinds_in network) a.instance placed).0 (map value a.instance.inputs)) =
      the_source procedures (kinds_in network) a.instance placed (IsImplied value)
      (subst (λ (d : Declared). All (IsImplied value) (propagators_of d.procedures (a.instance ∷ []))) wide.declared
      (seen_source wider.declared.procedures (IsImplied value) w a wider.attached
      (all_after (IsImplied value) (told_sources new w (length (kinds_in wider)))
      (propagators_of wider.declared.procedures (visible_instances wider.attached w)) (says wider new w fits (all_placed wider also)))
      (still_attached network wider wide a there) seen)) in
      let inputs : map clipped a.instance.inputs ≡ map value a.instance.inputs =
      same_on clipped value a.instance.inputs
      (All-weaker (λ c. c < count) (λ c. clipped c ≡ value c) (λ c below. clipped_here c below) a.instance.inputs placed.0.0) in
      all_sources procedures (kinds_in network) a.instance placed (IsImplied clipped)
      (λ v possible.
      subst (λ (l : List Info). allows (value_by (accepted procedures (kinds_in network) a.instance placed).0 l) v ≡ true) (sym inputs)
      (said v (subst (λ (i : Info). allows i v ≡ true) (clipped_here a.instance.output placed.0.1) possible)))

  -- so no less is known about the cells that existed
  pub value_wider : (c : ℕ) → c < count → Implies (value_in wider new w c) (value_in network old w c)
  value_wider c below v possible =
      fixpoint_below (numbered (kinds_in network)) (numbers_of_cells (kinds_in network)) (sources_in network old w)
      (are_over network old w same (all_placed network well)).fit clipped clipped_kinds
      (All-append (IsImplied clipped) (told_sources old w count) (propagators_of procedures (visible_instances network.attached w)) clipped_told
      (all_seen procedures (IsImplied clipped) w network.attached
      (each_member (λ (a : Attached). is_subset a.support w ≡ true → All (IsImplied clipped) (propagators_of procedures (a.instance ∷ []))) network.attached
      clipped_one)))
      c v (subst (λ (i : Info). allows i v ≡ true) (sym (clipped_here c below)) possible)
