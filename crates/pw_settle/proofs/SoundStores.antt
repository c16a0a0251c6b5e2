-- Stores stay sound: when they are new, when a fact is told, and when a callable is attached.
use Rattle.std.proofs.Common.{◌≡◌, ℕ, ◌+◌, ◌<◌, ◌≤◌, Bool, true, List, [], ◌++◌, All, length, map, get_or, sym, ap, ◌∙◌, subst, arith, inl, inr}
use Rattle.std.specs.Prelude.{◌-◌, nat_lt}
use Rattle.std.specs.FinSet.{contains}
use Rattle.std.proofs.Math.ListN.{get_or-map}
use Rattle.std.proofs.lemmas.Bool.{cases_Bool, ltb-false, ltb-true}
use Rattle.std.proofs.lemmas.List.{get_or_append_left, get_or-append-add, get_or_past, length-map}
use Rattle.std.proofs.lemmas.List.Elements.{All-contains, All-nil}
use Rattle.pw_info.specs.declared.kind.Kind.{Kind}
use Rattle.pw_info.specs.declared.kind.Kind.TheVariants as kinds
use Rattle.pw_info.specs.declared.info.Info.{Info}
use Rattle.pw_info.specs.Information.{allows, kind_of, meet, nothing, Implies}
use Rattle.pw_info.proofs.Informations.{implies_nothing, meet_comm}
use Rattle.pw_premises.specs.Premises.{Premises}
use Rattle.pw_facts.specs.declared.fact.Fact.{Fact}
use Rattle.pw_facts.specs.Facts.{shows}
use Rattle.pw_facts.proofs.Shown.{kind-shows}
use Rattle.pw_cells.specs.declared.arrival.Arrival.{Arrival}
use Rattle.pw_cells.specs.Arrivals.{Remembers}
use Rattle.pw_cells.specs.Cells.{Arrivals, Cell, Store, cell_at, kept_at, kept_in, kept_of, kind_in_store, kinds_of, new_cell, told_in, told_of}
use Rattle.pw_cells.specs.Changes.{AssimilatesAt, GainsKept, GainsTold, LeavesOthers}
use Rattle.pw_cells.proofs.Together.{kind-shown_by, meet_first}
use Rattle.pw_network.specs.Network.{Attached, Network, IsWellNetwork}
use Rattle.pw_settle.specs.Sound.{IsSound, LiesUpstream, RestsUpstream}
use Rattle.pw_settle.specs.Values.{kinds_in, value_in}
use Rattle.pw_settle.specs.Growth.{IsWider}
use Rattle.pw_settle.proofs.KeptFacts.{also_implies, by_cell, implies_also, implies_merge, kind-in_value, kind-kept}
use Rattle.pw_settle.proofs.Membership.{each_member}
use Rattle.pw_settle.proofs.WiderNetworks.{still_attached, value_says_told, value_wider, wide_self}

-- ---- what is kept follows

-- if a cell is new, nothing is kept of it, and that follows
keeps_nothing : (network : Network) (store : Store) → kinds_of store ≡ kinds_in network → (w : Premises) (c : ℕ) (k : Kind) → cell_at store c ≡ new_cell k →
    Implies (value_in network store w c) (kept_in store c w)
keeps_nothing network store same w c k none =
    implies_also (value_in network store w c) (nothing k) (kept_in store c w) (sym (ap (λ (x : Cell). kept_of x w) none))
    (implies_nothing (value_in network store w c) k (kind-in_value network store same w c ∙ ap (λ (x : Cell). x.kind) none))

-- a store is sound where what is kept of the cells that exist follows
sound_there : (network : Network) (store : Store) → kinds_of store ≡ kinds_in network →
    ((w : Premises) (c : ℕ) → c < length (kinds_in network) → Implies (value_in network store w c) (kept_in store c w)) → IsSound network store
sound_there network store same there w c =
    elim (cases_Bool (nat_lt c (length (kinds_in network)))) [
      | inl is ↦ there w c (ltb-true c (length (kinds_in network)) is)
      | inr not ↦
          let past = ltb-false c (length (kinds_in network)) not in
          let many = length-map store.cells (λ (x : Cell). x.kind) in
          keeps_nothing network store same w c kinds.Interval
          (get_or_past store.cells c (new_cell kinds.Interval) (omega (arith, past, many, ap length same)))
    ]

-- the cells of new stores are new, for any number of cells
all_new : (store : Store) (ks : List Kind) → store.cells ≡ map new_cell ks → (c : ℕ) → cell_at store c ≡ new_cell (get_or ks c kinds.Interval)
all_new store ks new c = ap (λ (l : List Cell). get_or l c (new_cell kinds.Interval)) new ∙ get_or-map new_cell ks c kinds.Interval

-- a store of new cells is sound
pub sound_new : (network : Network) (store : Store) (ks : List Kind) → kinds_of store ≡ kinds_in network → store.cells ≡ map new_cell ks → IsSound network store
sound_new network store ks same new w c = keeps_nothing network store same w c (get_or ks c kinds.Interval) (all_new store ks new c)

-- soundness depends only on the cells
pub sound_same : (network : Network) (old new : Store) → new.cells ≡ old.cells → IsSound network old → IsSound network new
sound_same network old new same sound =
    subst (λ (cs : List Cell). IsSound network (record { cells = cs; room = 0; arrivals = old.arrivals })) (sym same) sound

-- of a cell that was added, nothing is kept
pub cell_added : (old new : Store) (own : List Kind) → new.cells ≡ old.cells ++ map new_cell own → (c : ℕ) → length old.cells ≤ c →
    cell_at new c ≡ new_cell (get_or own (c - length old.cells) kinds.Interval)
cell_added old new own are c past =
    let at : c ≡ length old.cells + (c - length old.cells) = omega (arith, past) in
    ap (λ (l : List Cell). get_or l c (new_cell kinds.Interval)) are
    ∙ ap (λ n. get_or (old.cells ++ map new_cell own) n (new_cell kinds.Interval)) at
    ∙ get_or-append-add old.cells (map new_cell own) (c - length old.cells) (new_cell kinds.Interval)
    ∙ get_or-map new_cell own (c - length old.cells) kinds.Interval

-- and a cell that existed is unchanged
pub cell_stays : (old new : Store) (own : List Kind) → new.cells ≡ old.cells ++ map new_cell own → (c : ℕ) → c < length old.cells → cell_at new c ≡ cell_at old c
cell_stays old new own are c there =
    ap (λ (l : List Cell). get_or l c (new_cell kinds.Interval)) are ∙ get_or_append_left old.cells (map new_cell own) (new_cell kinds.Interval) c there

-- a store stays sound if more is attached, and new cells are added
pub sound_attached : (network wider : Network) → IsWider network wider → IsWellNetwork network → IsWellNetwork wider → (old new : Store) (own : List Kind) →
    kinds_of old ≡ kinds_in network → kinds_of new ≡ kinds_in wider → new.cells ≡ old.cells ++ map new_cell own → IsSound network old → IsSound wider new
sound_attached network wider wide well also old new own same fits are sound w c =
    elim (cases_Bool (nat_lt c (length (kinds_in network)))) [
      | inl is ↦
          let below = ltb-true c (length (kinds_in network)) is in
          implies_also (value_in wider new w c) (kept_in old c w) (kept_in new c w)
          (sym (ap (λ (x : Cell). kept_of x w) (cell_stays old new own are c (omega (arith, below, many)))))
          (λ v possible. sound w c v (value_wider network wider wide well also old new same fits w
          (λ c there. also_implies (told_in old c w) (told_in old c w) (told_in new c w)
          (sym (ap (λ (x : Cell). told_of x w) (cell_stays old new own are c (omega (arith, there, many))))) (λ v possible. possible))
          c below v possible))
      | inr not ↦
          let past = ltb-false c (length (kinds_in network)) not in
          keeps_nothing wider new fits w c (get_or own (c - length old.cells) kinds.Interval) (cell_added old new own are c (omega (arith, past, many)))
    ]
  where
    many : length old.cells ≡ length (kinds_in network)
    many = sym (length-map old.cells (λ (x : Cell). x.kind)) ∙ ap length same

-- a merge implies the second of the two
pub meet_second : (i j : Info) → kind_of i ≡ kind_of j → Implies (meet i j) j
meet_second i j one_kind = also_implies j (meet j i) (meet i j) (meet_comm j i (sym one_kind)) (meet_first j i (sym one_kind))

-- so it keeps no less than before
pub more_kept : (network : Network) (old new : Store) → kinds_of old ≡ kinds_in network → (cell : ℕ) (fact : Fact) → kind_of fact.info ≡ kind_in_store old cell →
    GainsKept cell fact old new → LeavesOthers cell old new → (c : ℕ) (w : Premises) → Implies (kept_in new c w) (kept_in old c w)
more_kept network old new same cell fact kind gains others c w =
    by_cell (λ c. Implies (kept_in new c w) (kept_in old c w)) cell
    (also_implies (kept_in old cell w) (meet (kept_in old cell w) (shows w fact)) (kept_in new cell w) (sym (gains w))
    (meet_first (kept_in old cell w) (shows w fact) (kind-kept old cell w ∙ sym kind ∙ sym (kind-shows w fact))))
    (λ c other. also_implies (kept_in old c w) (kept_in old c w) (kept_in new c w) (sym (ap (λ (x : Cell). kept_of x w) (others c other)))
    (λ v possible. possible)) c

-- and no less is told
pub more_told : (network : Network) (old new : Store) → kinds_of old ≡ kinds_in network → (cell : ℕ) (fact : Fact) → kind_of fact.info ≡ kind_in_store old cell →
    GainsTold cell fact old new → LeavesOthers cell old new → (c : ℕ) (w : Premises) → Implies (told_in new c w) (told_in old c w)
more_told network old new same cell fact kind gained others c w =
    by_cell (λ c. Implies (told_in new c w) (told_in old c w)) cell
    (also_implies (told_in old cell w) (meet (told_in old cell w) (shows w fact)) (told_in new cell w) (sym (gained w))
    (meet_first (told_in old cell w) (shows w fact)
    (kind-shown_by (cell_at old cell).kind w (cell_at old cell).told ∙ sym kind ∙ sym (kind-shows w fact))))
    (λ c other. also_implies (told_in old c w) (told_in old c w) (told_in new c w) (sym (ap (λ (x : Cell). told_of x w) (others c other)))
    (λ v possible. possible)) c

-- a store stays sound if a fact is told
pub sound_told : (network : Network) → IsWellNetwork network → (old new : Store) (cell : ℕ) (fact : Fact) → kinds_of old ≡ kinds_in network →
    kind_of fact.info ≡ kind_in_store old cell → GainsTold cell fact old new → GainsKept cell fact old new → LeavesOthers cell old new →
    kinds_of new ≡ kinds_of old → IsSound network old → IsSound network new
sound_told network well old new cell fact same kind gained gains others still sound =
    sound_there network new fits (λ w c below.
    by_cell (λ c. c < length (kinds_in network) → Implies (value_in network new w c) (kept_in new c w)) cell (here w)
    (λ c other there. implies_also (value_in network new w c) (kept_in old c w) (kept_in new c w) (sym (ap (λ (x : Cell). kept_of x w) (others c other)))
    (λ v possible. sound w c v (grown w c there v possible))) c below)
  where
    fits : kinds_of new ≡ kinds_in network
    fits = still ∙ same

    told_kinds : (w : Premises) → kind_of (told_in old cell w) ≡ kind_of (shows w fact)
    told_kinds w = kind-shown_by (cell_at old cell).kind w (cell_at old cell).told ∙ sym kind ∙ sym (kind-shows w fact)

    kept_kinds : (w : Premises) → kind_of (kept_in old cell w) ≡ kind_of (shows w fact)
    kept_kinds w = kind-kept old cell w ∙ sym kind ∙ sym (kind-shows w fact)

    grown : (w : Premises) (c : ℕ) → c < length (kinds_in network) → Implies (value_in network new w c) (value_in network old w c)
    grown w = value_wider network network (wide_self network) well well old new same fits w (λ c there. more_told network old new same cell fact kind gained others c w)

    here : (w : Premises) → cell < length (kinds_in network) → Implies (value_in network new w cell) (kept_in new cell w)
    here w there =
        implies_also (value_in network new w cell) (meet (kept_in old cell w) (shows w fact)) (kept_in new cell w) (sym (gains w))
        (implies_merge (value_in network new w cell) (kept_in old cell w) (shows w fact) (kept_kinds w)
        (λ v possible. sound w cell v (grown w cell there v possible))
        (λ v possible. meet_second (told_in old cell w) (shows w fact) (told_kinds w) v
        (subst (λ (i : Info). allows i v ≡ true) (gained w) (value_says_told network new w well fits cell there v possible))))

-- ---- what is kept rests on premises upstream

-- premises that lie upstream do so if more is attached and more was given
pub lie_still : (network wider : Network) → IsWider network wider → (given more : ℕ → ℕ → Bool) → ((c p : ℕ) → given c p ≡ true → more c p ≡ true) →
    (cell : ℕ) (premises : Premises) → LiesUpstream network given cell premises → LiesUpstream wider more cell premises
lie_still network wider wide given more all cell premises lies cells upstream has p one =
    elim (lies cells
    (each_member (λ (a : Attached). cells a.instance.output ≡ true → All (λ input. cells input ≡ true) a.instance.inputs) network.attached
    (λ a there. All-contains (λ (a : Attached). cells a.instance.output ≡ true → All (λ input. cells input ≡ true) a.instance.inputs) wider.attached a upstream
    (still_attached network wider wide a there)))
    has p one) [
      | inl (c, within, told) ↦ inl (c, within, all c p told)
      | inr (a, there, writes, own) ↦ inr (a, still_attached network wider wide a there, writes, own)
    ]

-- the same of facts that came lately
lately_still : (network wider : Network) → IsWider network wider → (given more : ℕ → ℕ → Bool) → ((c p : ℕ) → given c p ≡ true → more c p ≡ true) →
    (list : List Arrival) → All (λ (a : Arrival). LiesUpstream network given a.cell a.fact.support) list → All (λ (a : Arrival). LiesUpstream wider more a.cell a.fact.support) list
lately_still network wider wide given more all list lie k d within =
    lie_still network wider wide given more all (get_or list k d).cell (get_or list k d).fact.support (lie k d within)

-- of new cells nothing is kept
pub rests_new : (network : Network) (given : ℕ → ℕ → Bool) (store : Store) (ks : List Kind) → store.cells ≡ map new_cell ks → store.arrivals.list ≡ [] →
    RestsUpstream network given store
rests_new network given store ks new none = record {
  kept = λ cell. subst (All (λ (f : Fact). LiesUpstream network given cell f.support)) (sym (ap (λ (x : Cell). x.kept) (all_new store ks new cell)))
      (All-nil (λ (f : Fact). LiesUpstream network given cell f.support));
  lately = subst (All (λ (a : Arrival). LiesUpstream network given a.cell a.fact.support)) (sym none) (All-nil (λ (a : Arrival). LiesUpstream network given a.cell a.fact.support));
}

-- it depends only on the cells, on what came lately and on what was given
pub rests_same : (network : Network) (given more : ℕ → ℕ → Bool) (old new : Store) → new.cells ≡ old.cells → new.arrivals ≡ old.arrivals →
    ((c p : ℕ) → given c p ≡ true → more c p ≡ true) → RestsUpstream network given old → RestsUpstream network more new
rests_same network given more old new same came all rests = record {
  kept = λ cell.
      subst (λ (cs : List Cell). All (λ (f : Fact). LiesUpstream network more cell f.support) (kept_at (record { cells = cs; room = 0; arrivals = old.arrivals }) cell)) (sym same)
      (λ k d within. lie_still network network (wide_self network) given more all cell (get_or (kept_at old cell) k d).support (rests.kept cell k d within));
  lately = subst (λ (l : Arrivals). All (λ (a : Arrival). LiesUpstream network more a.cell a.fact.support) l.list) (sym came)
      (lately_still network network (wide_self network) given more all old.arrivals.list rests.lately);
}

-- if more is attached, and new cells are added
pub rests_attached : (network wider : Network) → IsWider network wider → (given more : ℕ → ℕ → Bool) → ((c p : ℕ) → given c p ≡ true → more c p ≡ true) →
    (old new : Store) (own : List Kind) → new.cells ≡ old.cells ++ map new_cell own → new.arrivals ≡ old.arrivals → RestsUpstream network given old →
    RestsUpstream wider more new
rests_attached network wider wide given more all old new own are came rests = record {
  kept = λ cell. elim (cases_Bool (nat_lt cell (length old.cells))) [
    | inl is ↦
        subst (All (λ (f : Fact). LiesUpstream wider more cell f.support))
        (sym (ap (λ (x : Cell). x.kept) (cell_stays old new own are cell (ltb-true cell (length old.cells) is))))
        (λ k d within. lie_still network wider wide given more all cell (get_or (kept_at old cell) k d).support (rests.kept cell k d within))
    | inr not ↦
        subst (All (λ (f : Fact). LiesUpstream wider more cell f.support))
        (sym (ap (λ (x : Cell). x.kept) (cell_added old new own are cell (ltb-false cell (length old.cells) not))))
        (All-nil (λ (f : Fact). LiesUpstream wider more cell f.support))
  ];
  lately = subst (λ (l : Arrivals). All (λ (a : Arrival). LiesUpstream wider more a.cell a.fact.support) l.list) (sym came)
      (lately_still network wider wide given more all old.arrivals.list rests.lately);
}

-- if one fact more came about a cell, and its premises lie upstream, so do all that came lately
pub lately_with : (network : Network) (given : ℕ → ℕ → Bool) (old new : Store) (cell : ℕ) (fact : Fact) → Remembers cell fact old new →
    LiesUpstream network given cell fact.support → All (λ (a : Arrival). LiesUpstream network given a.cell a.fact.support) old.arrivals.list →
    All (λ (a : Arrival). LiesUpstream network given a.cell a.fact.support) new.arrivals.list
lately_with network given old new cell fact remembers own lie =
    each_member (λ (a : Arrival). LiesUpstream network given a.cell a.fact.support) new.arrivals.list
    (λ a has. elim (remembers a has) [
      | inl is ↦ subst (λ (b : Arrival). LiesUpstream network given b.cell b.fact.support) (sym is) own
      | inr was ↦ All-contains (λ (b : Arrival). LiesUpstream network given b.cell b.fact.support) old.arrivals.list a lie was
    ])

-- if a fact is told, whose premises are given with its cell
pub rests_told : (network : Network) (given more : ℕ → ℕ → Bool) → ((c p : ℕ) → given c p ≡ true → more c p ≡ true) → (old new : Store) (cell : ℕ) (fact : Fact) →
    ((p : ℕ) → contains fact.support p ≡ true → more cell p ≡ true) → AssimilatesAt cell fact old new → LeavesOthers cell old new →
    Remembers cell fact old new → RestsUpstream network given old → RestsUpstream network more new
rests_told network given more all old new cell fact own assimilates others remembers rests = record {
  kept = by_cell (λ c. All (λ (f : Fact). LiesUpstream network more c f.support) (kept_at new c)) cell
      (each_member (λ (f : Fact). LiesUpstream network more cell f.support) (kept_at new cell)
      (λ f has. elim (assimilates.within f has) [
        | inl is ↦ subst (λ (g : Fact). LiesUpstream network more cell g.support) (sym is) lies
        | inr was ↦ lie_still network network (wide_self network) given more all cell f.support
            (All-contains (λ (g : Fact). LiesUpstream network given cell g.support) (kept_at old cell) f (rests.kept cell) was)
      ]))
      (λ c other. subst (All (λ (f : Fact). LiesUpstream network more c f.support)) (sym (ap (λ (x : Cell). x.kept) (others c other)))
      (λ k d within. lie_still network network (wide_self network) given more all c (get_or (kept_at old c) k d).support (rests.kept c k d within)));
  lately = lately_with network more old new cell fact remembers lies
      (lately_still network network (wide_self network) given more all old.arrivals.list rests.lately);
} where
  lies : LiesUpstream network more cell fact.support
  lies cells upstream within p one = inl (cell, within, own p one)
