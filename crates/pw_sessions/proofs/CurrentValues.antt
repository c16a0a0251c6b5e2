-- Settled values are current after a settling, and stay current when others settle, and when
-- something comes that is not news to them.
use Rattle.std.proofs.Common.{◌≡◌, ℕ, ◌+◌, ◌<◌, ◌≤◌, Bool, true, false, List, [], ◌∷◌, ◌++◌, All, zero, suc, length, map, get_or, refl, sym, ap, ◌∙◌, subst, inl, inr, arith}
use Rattle.std.proofs.Math.Path.{fun_ext}
use Rattle.std.specs.Prelude.{◌-◌, nat_lt, slice_index_or}
use Rattle.std.specs.FinSet.{is_subset}
use Rattle.std.proofs.lemmas.Bool.{both_ways, cases_Bool, ltb-false, ltb-true}
use Rattle.std.proofs.lemmas.List.{get_or_append_left, get_or-append-add, get_or_default, get_or_past, length-map, map-append}
use Rattle.std.proofs.lemmas.List.Elements.{All-head, All-tail}
use Rattle.pw_info.specs.declared.kind.Kind.{Kind}
use Rattle.pw_info.specs.declared.kind.Kind.TheVariants as kinds
use Rattle.pw_info.specs.declared.info.Info.{Info}
use Rattle.pw_info.specs.Information.{Implies, kind_of, meet, nothing}
use Rattle.pw_info.proofs.Informations.{Implies-antisym, meet_implied}
use Rattle.pw_premises.specs.Premises.{Premises}
use Rattle.pw_facts.specs.declared.fact.Fact.{Fact}
use Rattle.pw_facts.specs.Facts.{shows}
use Rattle.pw_facts.proofs.Shown.{kind-shows}
use Rattle.pw_cells.specs.Cells.{Cell, Store, cell_at, kept_in, kept_of, kind_in_store, kinds_of, new_cell, told_in, told_of}
use Rattle.pw_cells.proofs.Together.{kind-shown_by}
use Rattle.pw_network.specs.Network.{Attached, Network, IsWellNetwork, cells_in}
use Rattle.pw_settle.specs.Calls.{is_instance_visible, visible_at}
use Rattle.pw_settle.specs.Growth.{IsFitting, said_of}
use Rattle.pw_settle.specs.Growth.{KeepsMore}
use Rattle.pw_settle.specs.inside.Known.{SaysTold}
use Rattle.pw_settle.specs.inside.Progress.{AreSatisfied}
use Rattle.pw_settle.specs.Values.{IsSatisfied, attached_no}
use Rattle.pw_settle.specs.Settled.{IsSettled, Settled, info_at}
use Rattle.pw_settle.specs.Sound.{IsSound}
use Rattle.pw_settle.specs.Values.{kinds_in, numbered, value_in}
use Rattle.pw_settle.specs.Growth.{IsWider}
use Rattle.pw_settle.proofs.FittingLaws.{fits_added, fits_more, fits_wider}
use Rattle.pw_settle.proofs.Growing.{keeps_more_same, same_value}
use Rattle.pw_settle.proofs.KeptFacts.{also_implies, by_cell, implies_also, implies_merge, kind-in_value, kind-kept, kind_there}
use Rattle.pw_settle.proofs.KeptProgress.{visible_no}
use Rattle.pw_settle.proofs.SettledStores.{kept_settled}
use Rattle.pw_settle.proofs.SettledValues.{kinds_many}
use Rattle.pw_sessions.specs.Snapshot.{IsCurrent, KeepsValues, SayAlready}
use Rattle.pw_sessions.specs.inside.Steps.{TakesFact}
use Rattle.pw_settle.proofs.SoundStores.{cell_added, cell_stays, more_kept, sound_attached, sound_told}
use Rattle.pw_settle.proofs.WiderNetworks.{value_says_told}

-- as many cells are kept as the network has
many_cells : (network : Network) (store : Store) → kinds_of store ≡ kinds_in network → length store.cells ≡ length (kinds_in network)
many_cells network store same = sym (length-map store.cells (λ (c : Cell). c.kind)) ∙ ap length same

-- what is said about a cell that existed
pub said_at : (network : Network) (settled : Settled) (cell : ℕ) → cell < length settled.infos → said_of network settled cell ≡ info_at settled.infos cell
said_at network settled cell there =
    get_or_default settled.infos cell (nothing ((numbered (kinds_in network)).kind cell)) (nothing kinds.Interval) there

-- of a cell that is not there nothing is kept
kept_past : (store : Store) (cell : ℕ) (w : Premises) → length store.cells ≤ cell → kept_in store cell w ≡ nothing kinds.Interval
kept_past store cell w past = ap (λ (c : Cell). kept_of c w) (get_or_past store.cells cell (new_cell kinds.Interval) past)

-- ---- values that say what is kept

module _ (network : Network) (well : IsWellNetwork network) (store : Store) (same : kinds_of store ≡ kinds_in network) (settled : Settled)
    (fits : IsFitting network store settled)
    (newer : (number : ℕ) → settled.instances ≤ number → visible_at network settled.worldview number ≡ false)
    (says : (cell : ℕ) → said_of network settled cell ≡ kept_in store cell settled.worldview)
    (told : SaysTold store settled.worldview) (sound : IsSound network store) where
  -- an instance that is visible was there
  was_there : (number : ℕ) (d : Attached) → number < length network.attached →
      is_instance_visible settled.worldview (attached_no network number d) ≡ true → number < settled.instances
  was_there number d below seen =
      elim (cases_Bool (nat_lt number settled.instances)) [
        | inl is ↦ ltb-true number settled.instances is
        | inr not ↦
            absurd (both_ways (visible_at network settled.worldview number) (newer number (ltb-false number settled.instances not))
            (sym (visible_no network settled.worldview number d below) ∙ seen))
      ]

  -- so each is satisfied by what is kept
  satisfied : AreSatisfied network settled.worldview (λ cell. kept_in store cell settled.worldview) []
  satisfied number d below seen free =
      subst (λ (known : ℕ → Info). IsSatisfied network known (attached_no network number d)) (fun_ext says)
      (fits.satisfied number d (was_there number d below seen) seen)

  -- and that is the value
  kept_follows : KeepsValues network store settled.worldview
  kept_follows cell =
      kept_settled network well store store settled.worldview same (keeps_more_same network store) told [] satisfied (λ n. refl) sound cell

  -- so the values are current
  pub current_from_kept : IsCurrent network store settled
  current_from_kept = record {
    fits = fits;
    none_newer = newer;
    said = λ cell. says cell ∙ kept_follows cell;
    kept = kept_follows;
  }

-- ---- after a settling

-- of a network with all its cells, what is said past the last is nothing
said_past : (network : Network) (settled : Settled) (cell : ℕ) → length settled.infos ≤ cell → length (kinds_in network) ≤ cell →
    said_of network settled cell ≡ nothing kinds.Interval
said_past network settled cell past beyond =
    get_or_past settled.infos cell (nothing ((numbered (kinds_in network)).kind cell)) past
    ∙ ap nothing (get_or_past (kinds_in network) cell kinds.Interval beyond)

-- the values of a settling are current after it is done
pub current_settled : (network : Network) (well : IsWellNetwork network) (old new : Store) (w : Premises) (settled : Settled) → kinds_of old ≡ kinds_in network →
    KeepsMore network old new → IsSettled network old w settled → IsFitting network new settled → settled.instances ≡ length network.attached →
    ((cell : ℕ) → kept_in new cell w ≡ value_in network old w cell) → IsCurrent network new settled
current_settled network well old new w settled same grows is fits all kept = record {
  fits = fits;
  none_newer = λ number past.
      get_or_past (map (is_instance_visible settled.worldview) network.attached) number false
      (omega (arith, past, all, length-map network.attached (is_instance_visible settled.worldview)));
  said = λ cell. said_here cell ∙ now cell;
  kept = λ cell. ap (kept_in new cell) is.worldview_is ∙ kept cell ∙ now cell;
} where
  now : (cell : ℕ) → value_in network old w cell ≡ value_in network new settled.worldview cell
  now cell = sym (same_value network old new grows.told w cell) ∙ ap (λ (u : Premises). value_in network new u cell) (sym is.worldview_is)

  said_here : (cell : ℕ) → said_of network settled cell ≡ value_in network old w cell
  said_here cell =
      elim (cases_Bool (nat_lt cell (cells_in network))) [
        | inl below ↦
            let there = ltb-true cell (cells_in network) below in
            get_or_default settled.infos cell (nothing ((numbered (kinds_in network)).kind cell)) (nothing kinds.Interval)
            (omega (arith, there, is.cells))
            ∙ is.values cell there
        | inr not ↦
            let past = ltb-false cell (cells_in network) not in
            let many = kinds_many network well in
            said_past network settled cell (omega (arith, past, is.cells)) (omega (arith, past, many))
            ∙ sym (kept_past new cell w (omega (arith, past, many, many_cells network new (grows.kinds ∙ same)))) ∙ kept cell
      ]

-- ---- as more is kept

-- current values are current if more is kept that follows
pub current_keeping : (network : Network) (old new : Store) (settled : Settled) → kinds_of old ≡ kinds_in network → IsSound network old →
    KeepsMore network old new → IsCurrent network old settled → IsCurrent network new settled
current_keeping network old new settled same sound grows is = record {
  fits = fits_more network old new settled grows.more is.fits;
  none_newer = is.none_newer;
  said = λ cell. is.said cell ∙ still cell;
  kept = λ cell.
      Implies-antisym (kept_in new cell w) (value_in network new w cell)
      (kind-kept new cell w ∙ sym (kind-in_value network new (grows.kinds ∙ same) w cell))
      (implies_also (kept_in new cell w) (kept_in old cell w) (value_in network new w cell) (is.kept cell ∙ still cell) (grows.more cell w))
      (grows.sound sound w cell);
} where
  w : Premises
  w = settled.worldview

  still : (cell : ℕ) → value_in network old w cell ≡ value_in network new w cell
  still cell = sym (same_value network old new grows.told w cell)

-- ---- a fact is told that is not news

module _ (network : Network) (well : IsWellNetwork network) (old new : Store) (cell : ℕ) (fact : Fact) (same : kinds_of old ≡ kinds_in network)
    (kind : kind_of fact.info ≡ kind_in_store old cell) (takes : TakesFact cell fact old new) (sound : IsSound network old) where
  -- if what is kept says already what it shows, what is kept stays
  kept_already : (w : Premises) → Implies (kept_in old cell w) (shows w fact) → (c : ℕ) → kept_in new c w ≡ kept_in old c w
  kept_already w says =
      by_cell (λ c. kept_in new c w ≡ kept_in old c w) cell
      (takes.kept w
      ∙ meet_implied (kept_in old cell w) (shows w fact) (kind-kept old cell w ∙ sym kind ∙ sym (kind-shows w fact)) says)
      (λ c other. ap (λ (x : Cell). kept_of x w) (takes.others c other))

  -- and says everything told, if it did before
  says_told : (w : Premises) → Implies (kept_in old cell w) (shows w fact) → SaysTold old w → SaysTold new w
  says_told w says told c below =
      also_implies (told_in new c w) (kept_in old c w) (kept_in new c w) (sym (kept_already w says c))
      (by_cell (λ c. c < length old.cells → Implies (kept_in old c w) (told_in new c w)) cell
      (λ there. implies_also (kept_in old cell w) (meet (told_in old cell w) (shows w fact)) (told_in new cell w) (sym (takes.told w))
      (implies_merge (kept_in old cell w) (told_in old cell w) (shows w fact)
      (kind-shown_by (cell_at old cell).kind w (cell_at old cell).told ∙ sym kind ∙ sym (kind-shows w fact)) (told cell there) says))
      (λ c other there. implies_also (kept_in old c w) (told_in old c w) (told_in new c w)
      (sym (ap (λ (x : Cell). told_of x w) (takes.others c other))) (told c there)) c
      (omega (arith, below, many_cells network new (takes.kinds ∙ same), many_cells network old same)))

  -- current values are current still, if they say already what it shows
  pub current_told : (settled : Settled) → cell < length settled.infos → SayAlready cell fact settled → IsCurrent network old settled →
      IsCurrent network new settled
  current_told settled there says is =
      current_from_kept network well new (takes.kinds ∙ same) settled
      (fits_more network old new settled (more_kept network old new same cell fact kind takes.kept takes.others) is.fits) is.none_newer
      (λ c. is.said c ∙ sym (is.kept c) ∙ sym (kept_already w kept_says c))
      (says_told w kept_says (λ c below. also_implies (told_in old c w) (value_in network old w c) (kept_in old c w) (sym (is.kept c))
      (value_says_told network old w well same c (omega (arith, below, many_cells network old same)))))
      (sound_told network well old new cell fact same kind takes.told takes.kept takes.others takes.kinds sound)
    where
      w : Premises
      w = settled.worldview

      kept_says : Implies (kept_in old cell w) (shows w fact)
      kept_says =
          also_implies (shows w fact) (info_at settled.infos cell) (kept_in old cell w)
          (sym (said_at network settled cell there) ∙ is.said cell ∙ sym (is.kept cell)) says

-- ---- as a callable is attached that is not visible

module _ (network wider : Network) (wide : IsWider network wider) (well : IsWellNetwork network) (also : IsWellNetwork wider) (old new : Store)
    (own : List Kind) (same : kinds_of old ≡ kinds_in network) (fits : kinds_of new ≡ kinds_in wider) (are : new.cells ≡ old.cells ++ map new_cell own)
    (sound : IsSound network old) where
  abbrev here : ℕ → Type 0
  here c = c < length (kinds_in network)

  many : length old.cells ≡ length (kinds_in network)
  many = many_cells network old same

  -- a cell that existed is unchanged
  stays : (c : ℕ) → here c → cell_at new c ≡ cell_at old c
  stays c there = cell_stays old new own are c (omega (arith, there, many))

  -- of one that was added nothing is kept, nor was it told
  added : (c : ℕ) → length (kinds_in network) ≤ c → cell_at new c ≡ new_cell (get_or own (c - length old.cells) kinds.Interval)
  added c past = cell_added old new own are c (omega (arith, past, many))

  -- each instance that came is hidden
  abbrev pub Hidden : Premises → Type 0
  Hidden w = (number : ℕ) → length network.attached ≤ number → visible_at wider w number ≡ false

  -- which others are visible is as before
  visible_before : (w : Premises) (number : ℕ) → number < length network.attached → visible_at wider w number ≡ visible_at network w number
  visible_before w number below =
      ap (λ (l : List Attached). get_or (map (is_instance_visible w) l) number false) wide.attached_are
      ∙ ap (λ (l : List Bool). get_or l number false) (map-append (is_instance_visible w) network.attached wide.more)
      ∙ get_or_append_left (map (is_instance_visible w) network.attached) (map (is_instance_visible w) wide.more) false number
      (omega (arith, below, length-map network.attached (is_instance_visible w)))

  kind_before : (c : ℕ) → here c → (numbered (kinds_in wider)).kind c ≡ (numbered (kinds_in network)).kind c
  kind_before c there =
      ap (λ (l : List Kind). get_or l c kinds.Interval) wide.kinds_are
      ∙ get_or_append_left (kinds_in network) wide.own kinds.Interval c there

  module _ (settled : Settled) (is : IsCurrent network old settled) (hidden : Hidden settled.worldview) where
    abbrev w : Premises
    w = settled.worldview

    newer : (number : ℕ) → settled.instances ≤ number → visible_at wider w number ≡ false
    newer number past =
        elim (cases_Bool (nat_lt number (length network.attached))) [
          | inl below ↦ visible_before w number (ltb-true number (length network.attached) below) ∙ is.none_newer number past
          | inr not ↦ hidden number (ltb-false number (length network.attached) not)
        ]

    -- of a cell that was added nothing is said
    kind_added : (c : ℕ) → length (kinds_in network) ≤ c → (numbered (kinds_in wider)).kind c ≡ get_or own (c - length old.cells) kinds.Interval
    kind_added c past = sym (kind_there wider new fits c) ∙ ap (λ (x : Cell). x.kind) (added c past)

    says : (c : ℕ) → said_of wider settled c ≡ kept_in new c w
    says c =
        elim (cases_Bool (nat_lt c (length (kinds_in network)))) [
          | inl below ↦
              let there = ltb-true c (length (kinds_in network)) below in
              ap (λ (k : Kind). slice_index_or settled.infos c (nothing k)) (kind_before c there) ∙ is.said c ∙ sym (is.kept c)
              ∙ sym (ap (λ (x : Cell). kept_of x w) (stays c there))
          | inr not ↦
              let past = ltb-false c (length (kinds_in network)) not in
              get_or_past settled.infos c (nothing ((numbered (kinds_in wider)).kind c)) (omega (arith, past, is.fits.cells, kinds_many network well))
              ∙ ap nothing (kind_added c past) ∙ sym (ap (λ (x : Cell). kept_of x w) (added c past))
        ]

    told : SaysTold new w
    told c below =
        elim (cases_Bool (nat_lt c (length (kinds_in network)))) [
          | inl is_below ↦
              let there = ltb-true c (length (kinds_in network)) is_below in
              also_implies (told_in new c w) (value_in network old w c) (kept_in new c w)
              (sym (is.kept c) ∙ sym (ap (λ (x : Cell). kept_of x w) (stays c there)))
              (implies_also (value_in network old w c) (told_in old c w) (told_in new c w) (sym (ap (λ (x : Cell). told_of x w) (stays c there)))
              (value_says_told network old w well same c there))
          | inr not ↦
              let past = ltb-false c (length (kinds_in network)) not in
              implies_also (kept_in new c w) (kept_in new c w) (told_in new c w)
              (ap (λ (x : Cell). kept_of x w) (added c past) ∙ sym (ap (λ (x : Cell). told_of x w) (added c past))) (λ v possible. possible)
        ]

    -- current values are current still
    pub current_attached : IsCurrent wider new settled
    current_attached =
        current_from_kept wider also new fits settled
        (fits_wider network wider new settled well wide (fits_added network old new settled own are (omega (arith, many, kinds_many network well)) is.fits))
        newer says told (sound_attached network wider wide well also old new own same fits are sound)

-- ---- what comes under premises of which one is not believed

-- everything attached is hidden if its premises are not all believed
pub hidden_after : (network wider : Network) (wide : IsWider network wider) (support w : Premises) → All (λ (a : Attached). a.support ≡ support) wide.more →
    is_subset support w ≡ false → (number : ℕ) → length network.attached ≤ number → visible_at wider w number ≡ false
hidden_after network wider wide support w all hidden number past =
    let before : length (map (is_instance_visible w) network.attached) ≡ length network.attached = length-map network.attached (is_instance_visible w) in
    let at : number ≡ length (map (is_instance_visible w) network.attached) + (number - length network.attached) = omega (arith, past, before) in
    ap (λ (l : List Attached). get_or (map (is_instance_visible w) l) number false) wide.attached_are
    ∙ ap (λ (l : List Bool). get_or l number false) (map-append (is_instance_visible w) network.attached wide.more)
    ∙ ap (λ n. get_or (map (is_instance_visible w) network.attached ++ map (is_instance_visible w) wide.more) n false) at
    ∙ get_or-append-add (map (is_instance_visible w) network.attached) (map (is_instance_visible w) wide.more) (number - length network.attached) false
    ∙ none_shown wide.more all (number - length network.attached)
  where
    none_shown : (more : List Attached) → All (λ (a : Attached). a.support ≡ support) more → (n : ℕ) → get_or (map (is_instance_visible w) more) n false ≡ false
    none_shown [] one n = refl
    none_shown (a ∷ more) one zero = ap (λ (s : Premises). is_subset s w) (All-head (λ (b : Attached). b.support ≡ support) a more one) ∙ hidden
    none_shown (a ∷ more) one (suc n) = none_shown more (All-tail (λ (b : Attached). b.support ≡ support) a more one) n
