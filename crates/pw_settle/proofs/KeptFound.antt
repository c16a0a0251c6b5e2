-- What a store keeps after what was found beside it is kept, cell by cell.
use Rattle.std.proofs.Common.{◌≡◌, ◌≢◌, ℕ, ◌+◌, ◌*◌, ◌<◌, ◌≤◌, Bool, true, eqb, List, All, length, refl, sym, ap, ◌∙◌, subst, arith, inl, inr}
use Rattle.std.specs.Prelude.{nat_lt}
use Rattle.std.specs.FinSet.{empty, is_subset}
use Rattle.std.proofs.Math.Path.{fun_ext}
use Rattle.std.proofs.lemmas.Bool.{cases_Bool, eqb-false, eqb-true, ltb-false, ltb-true}
use Rattle.std.proofs.lemmas.List.{get_or_past, length-map}
use Rattle.std.proofs.lemmas.List.Elements.{All-contains}
use Rattle.pw_info.specs.declared.kind.Kind.TheVariants as kinds
use Rattle.pw_info.specs.declared.info.Info.{Info}
use Rattle.pw_info.specs.Information.{allows, kind_of, meet, nothing, Implies}
use Rattle.pw_info.specs.Rank.{rank_of}
use Rattle.pw_info.proofs.Informations.{Implies-antisym, kind-meet}
use Rattle.pw_premises.specs.Premises.{Premises}
use Rattle.pw_facts.specs.declared.fact.Fact.{Fact}
use Rattle.pw_facts.specs.Facts.{IsLeastAbove, shows}
use Rattle.pw_facts.proofs.Shown.{shows-supported}
use Rattle.pw_cells.specs.Cells.{Cell, IsUnsaid, Store, kept_at, kept_in, kind_in_store, kinds_of}
use Rattle.pw_cells.proofs.Together.{larger_shown}
use Rattle.pw_network.specs.Network.{Network}
use Rattle.pw_settle.specs.Calls.{reader_count, sum_below}
use Rattle.pw_settle.specs.Growth.{KeepsMore, StaysUpstreamAfter}
use Rattle.pw_settle.specs.Settled.{info_at, support_at}
use Rattle.pw_settle.specs.Sound.{IsSound, LiesUpstream, RestsUpstream}
use Rattle.pw_settle.specs.Values.{kinds_in, value_in}
use Rattle.pw_settle.specs.inside.Aside.{AreAllSatisfied, AreFound, SaysMore, weight_of}
use Rattle.pw_settle.specs.inside.Known.{AreKept, Keeps, SaysTold}
use Rattle.pw_settle.specs.inside.Progress.{AreMet, AreSatisfied, weight}
use Rattle.pw_settle.proofs.AsideStarts.{all_found, kept_found}
use Rattle.pw_settle.proofs.Growing.{keeps_more_same, keeps_more_then, same_value}
use Rattle.pw_settle.proofs.KeptFacts.{also_implies, by_cell, implies_also, implies_merge, keeps_fact, kept_elsewhere, kind-kept, kind_there}
use Rattle.pw_settle.proofs.Membership.{each_member}
use Rattle.pw_settle.proofs.SoundStores.{lately_with, meet_second}

-- ---- at the start

-- what is kept is found
pub kept_all_found : (network : Network) (store : Store) (same : kinds_of store ≡ kinds_in network) (w : Premises) (infos : List Info) (supports : List Premises) →
    AreKept store w infos supports → SaysTold store w → AreFound network store w infos supports
kept_all_found network store same w infos supports kept told =
    all_found network store same w infos supports
    (record {
      many = kept.many;
      as_many = kept.as_many;
      found = λ cell below.
          kept_found network store same w cell (info_at infos cell) (support_at supports cell) (kept.infos_are cell) (kept.within cell)
          (λ v has u possible. subst (λ (i : Info). allows i u ≡ true) (sym (kept.infos_are cell)) (enough cell v has u possible))
          (λ u possible. told cell below u (subst (λ (i : Info). allows i u ≡ true) (kept.infos_are cell) possible));
    })
  where
    enough : (cell : ℕ) → IsLeastAbove (support_at supports cell) (kept_in store cell) (kept_in store cell w)
    enough cell v has u possible = subst (λ (i : Info). allows i u ≡ true) (kept.infos_are cell) (kept.enough cell v has u possible)

-- what is satisfied by what is kept is by what is known
pub met_known : (network : Network) (store : Store) (w : Premises) (infos : List Info) (supports : List Premises) → AreKept store w infos supports →
    (queued : List Bool) → AreMet network store w queued → AreSatisfied network w (info_at infos) queued
met_known network store w infos supports kept queued =
    subst (λ (known : ℕ → Info). AreSatisfied network w known queued) (sym (fun_ext kept.infos_are))

-- and the other way round
pub known_met : (network : Network) (store : Store) (w : Premises) (infos : List Info) (supports : List Premises) → AreKept store w infos supports →
    AreAllSatisfied network w (info_at infos) → (queued : List Bool) → AreMet network store w queued
known_met network store w infos supports kept all queued n d below seen free =
    subst (λ (known : ℕ → Info). AreAllSatisfied network w known) (fun_ext kept.infos_are) all n d below seen

-- as much may be gained as may be found out
pub weight_known : (network : Network) (store : Store) (w : Premises) (infos : List Info) (supports : List Premises) → AreKept store w infos supports →
    weight network store w ≡ weight_of network w infos
weight_known network store w infos supports kept =
    ap (λ (known : ℕ → Info). sum_below (length store.cells) (λ c. rank_of (known c) * reader_count network w c)) (sym (fun_ext kept.infos_are))
    ∙ ap (λ (n : ℕ). sum_below n (λ c. rank_of (info_at infos c) * reader_count network w c)) (sym kept.many)

-- ---- the cells one after another

-- this is kept of a cell, on these premises
pub record IsKeptHere (store : Store) (w : Premises) (cell : ℕ) (info : Info) (support : Premises) : Type 0 where
  pub is : info ≡ kept_in store cell w
  pub enough : IsLeastAbove support (kept_in store cell) info

-- so far what was found of the cells below this number is kept, and of the others what was kept before
pub record AreKeptTo (network : Network) (old : Store) (w : Premises) (infos : List Info) (supports : List Premises) (count : ℕ) (now : Store) : Type 0 where
  pub grows : KeepsMore network old now
  pub upstream : StaysUpstreamAfter network supports old now
  pub kept : (cell : ℕ) → cell < count → IsKeptHere now w cell (info_at infos cell) (support_at supports cell)
  pub left : (cell : ℕ) → count ≤ cell → (v : Premises) → kept_in now cell v ≡ kept_in old cell v

-- the merge with what says more is that
merge_is : (a b : Info) → kind_of a ≡ kind_of b → Implies b a → meet a b ≡ b
merge_is a b alike more =
    Implies-antisym (meet a b) b (kind-meet a b ∙ alike) (meet_second a b alike) (implies_merge b a b alike more (λ u possible. possible))

module _ (network : Network) (old : Store) (same : kinds_of old ≡ kinds_in network) (w : Premises)
    (known : List Info) (known_supports : List Premises) (at_hand : AreKept old w known known_supports)
    (infos : List Info) (supports : List Premises) (found : AreFound network old w infos supports)
    (more : SaysMore known infos known_supports supports) where
  -- at first none is kept
  pub kept_none : AreKeptTo network old w infos supports 0 old
  kept_none = record {
    grows = keeps_more_same network old;
    upstream = λ given rests lie. rests;
    kept = λ cell below. absurd (omega (arith, below));
    left = λ cell past v. refl;
  }

  -- of a cell where no more was found than was known, that is kept already
  no_more : (now : Store) (cell : ℕ) → ((v : Premises) → kept_in now cell v ≡ kept_in old cell v) → info_at infos cell ≡ info_at known cell →
      support_at supports cell ≡ support_at known_supports cell → IsKeptHere now w cell (info_at infos cell) (support_at supports cell)
  no_more now cell stays info_is support_is = record {
    is = info_is ∙ at_hand.infos_are cell ∙ sym (stays w);
    enough = λ v has.
        also_implies (info_at infos cell) (kept_in old cell v) (kept_in now cell v) (sym (stays v))
        (implies_also (kept_in old cell v) (info_at known cell) (info_at infos cell) (sym info_is)
        (at_hand.enough cell v (subst (λ (p : Premises). is_subset p v ≡ true) support_is has)));
  }

  many : length infos ≡ length old.cells
  many = found.many ∙ sym (ap length same) ∙ length-map old.cells (λ (x : Cell). x.kind)

  module _ (now : Store) (count : ℕ) (there : count < length old.cells) (so_far : AreKeptTo network old w infos supports count now) where
    -- the kinds of the cell's informations
    kind_known : kind_of (info_at known count) ≡ kind_in_store old count
    kind_known = ap kind_of (at_hand.infos_are count) ∙ kind-kept old count w

    kind_found : kind_of (info_at infos count) ≡ kind_in_store old count
    kind_found = (found.each count).kind ∙ sym (kind_there network old same count)

    -- no more was found of the next
    pub kept_passed : Implies (info_at known count) (info_at infos count) → AreKeptTo network old w infos supports (count + 1) now
    kept_passed implied = record {
      grows = so_far.grows;
      upstream = so_far.upstream;
      kept = λ cell below. elim (cases_Bool (eqb cell count)) [
        | inl is ↦
            subst (λ (c : ℕ). IsKeptHere now w c (info_at infos c) (support_at supports c)) (sym (eqb-true cell count is))
            (no_more now count (so_far.left count (omega arith))
            (Implies-antisym (info_at infos count) (info_at known count) (kind_found ∙ sym kind_known) (more.more count) implied)
            (more.same count implied))
        | inr other ↦ so_far.kept cell (omega (arith, below, eqb-false cell count other))
      ];
      left = λ cell past. so_far.left cell (omega (arith, past));
    }

    -- or it says more than what is kept on its premises
    pub unsaid_found : (Implies (info_at known count) (info_at infos count) → ⊥) →
        IsUnsaid (kept_in now count (support_at supports count)) (info_at infos count)
    unsaid_found not_known said =
        not_known (λ u possible.
        said u (subst (λ (i : Info). allows i u ≡ true) (sym (so_far.left count (omega arith) (support_at supports count)))
        (larger_shown (kind_in_store old count) (support_at supports count) w (kept_at old count) (found.each count).within u
        (subst (λ (i : Info). allows i u ≡ true) (at_hand.infos_are count) possible))))

    -- what was found of the next is kept
    module _ (new : Store) (fact : Fact) (info_is : fact.info ≡ info_at infos count) (support_is : fact.support ≡ support_at supports count)
        (keeps : Keeps count fact now new) where
      same_now : kinds_of now ≡ kinds_in network
      same_now = so_far.grows.kinds ∙ same

      kind_fact : kind_of fact.info ≡ kind_in_store now count
      kind_fact =
          ap kind_of info_is ∙ (found.each count).kind ∙ sym (kind_there network now same_now count)

      elsewhere : (cell : ℕ) → cell ≢ count → (v : Premises) → kept_in new cell v ≡ kept_in now cell v
      elsewhere = kept_elsewhere network now new same_now count fact kind_fact keeps.told keeps.kept keeps.others

      -- the store was sound before, too
      sound_before : IsSound network now → IsSound network old
      sound_before sound v cell u possible =
          so_far.grows.more cell v u
          (sound v cell u (subst (λ (i : Info). allows i u ≡ true) (sym (same_value network old now so_far.grows.told v cell)) possible))

      follows_now : IsSound network now → (v : Premises) → is_subset fact.support v ≡ true → Implies (value_in network now v count) fact.info
      follows_now sound v has =
          also_implies fact.info (value_in network old v count) (value_in network now v count) (sym (same_value network old now so_far.grows.told v count))
          (implies_also (value_in network old v count) (info_at infos count) fact.info (sym info_is)
          ((found.each count).follows (sound_before sound) v (subst (λ (p : Premises). is_subset p v ≡ true) support_is has)))

      grows_now : KeepsMore network now new
      grows_now =
          keeps_fact network now new same_now count fact kind_fact keeps.told keeps.kept keeps.others keeps.kinds keeps.continues follows_now

      upstream_now : StaysUpstreamAfter network supports old new
      upstream_now given rests lie = record {
        kept = by_cell (λ c. All (λ f. LiesUpstream network given c f.support) (kept_at new c)) count
            (each_member (λ (f : Fact). LiesUpstream network given count f.support) (kept_at new count)
            (λ f has. elim (keeps.assimilates.within f has) [
              | inl is ↦ subst (λ (g : Fact). LiesUpstream network given count g.support) (sym is) its
              | inr had ↦ All-contains (λ (g : Fact). LiesUpstream network given count g.support) (kept_at now count) f (before.kept count) had
            ]))
            (λ c other. subst (λ (l : List Fact). All (λ f. LiesUpstream network given c f.support) l) (sym (ap (λ (x : Cell). x.kept) (keeps.others c other))) (before.kept c));
        lately = lately_with network given now new count fact keeps.remembers its before.lately;
      } where
        before : RestsUpstream network given now
        before = so_far.upstream given rests lie

        its : LiesUpstream network given count fact.support
        its = subst (LiesUpstream network given count) (sym support_is) (lie count)

      -- it is kept in the worldview
      kept_before : kept_in now count w ≡ info_at known count
      kept_before = so_far.left count (omega arith) w ∙ sym (at_hand.infos_are count)

      inside : is_subset fact.support w ≡ true
      inside = subst (λ (p : Premises). is_subset p w ≡ true) (sym support_is) (found.each count).within

      kept_here : info_at infos count ≡ kept_in new count w
      kept_here =
          sym (keeps.kept w ∙ ap (λ (i : Info). meet i (shows w fact)) kept_before
          ∙ ap (meet (info_at known count)) (shows-supported w fact inside ∙ info_is)
          ∙ merge_is (info_at known count) (info_at infos count) (kind_known ∙ sym kind_found) (more.more count))

      -- and on the premises that came with it
      enough_here : IsLeastAbove (support_at supports count) (kept_in new count) (info_at infos count)
      enough_here v has =
          let supported : is_subset fact.support v ≡ true = subst (λ (p : Premises). is_subset p v ≡ true) (sym support_is) has in
          let one_kind : kind_of (kept_in now count v) ≡ kind_of (info_at infos count) =
          kind-kept now count v ∙ sym kind_fact ∙ ap kind_of info_is in
          also_implies (info_at infos count) (meet (kept_in now count v) (info_at infos count)) (kept_in new count v)
          (sym (keeps.kept v ∙ ap (meet (kept_in now count v)) (shows-supported v fact supported ∙ info_is)))
          (meet_second (kept_in now count v) (info_at infos count) one_kind)

      pub kept_one : AreKeptTo network old w infos supports (count + 1) new
      kept_one = record {
        grows = keeps_more_then network old now new so_far.grows grows_now;
        upstream = upstream_now;
        kept = λ cell below. elim (cases_Bool (eqb cell count)) [
          | inl is ↦
              subst (λ (c : ℕ). IsKeptHere new w c (info_at infos c) (support_at supports c)) (sym (eqb-true cell count is))
              (record { is = kept_here; enough = enough_here })
          | inr not ↦
              let other = eqb-false cell count not in
              let was = so_far.kept cell (omega (arith, below, other)) in
              record {
                is = was.is ∙ sym (elsewhere cell other w);
                enough = λ v has. also_implies (info_at infos cell) (kept_in now cell v) (kept_in new cell v) (sym (elsewhere cell other v)) (was.enough v has);
              }
        ];
        left = λ cell past v. elsewhere cell (λ e. absurd (omega (arith, past, e))) v ∙ so_far.left cell (omega (arith, past)) v;
      }

  -- in the end all is kept
  pub all_kept : (now : Store) → AreKeptTo network old w infos supports (length old.cells) now → AreKept now w infos supports
  all_kept now to = record {
    many = many ∙ sym as_many_cells;
    as_many = found.as_many ∙ many ∙ sym as_many_cells;
    infos_are = λ cell. (here cell).is;
    within = λ cell. (found.each cell).within;
    enough = λ cell. (here cell).enough;
  } where
    as_many_cells : length now.cells ≡ length old.cells
    as_many_cells = sym (length-map now.cells (λ (x : Cell). x.kind)) ∙ ap length to.grows.kinds ∙ length-map old.cells (λ (x : Cell). x.kind)

    here : (cell : ℕ) → IsKeptHere now w cell (info_at infos cell) (support_at supports cell)
    here cell =
        elim (cases_Bool (nat_lt cell (length old.cells))) [
          | inl is ↦ to.kept cell (ltb-true cell (length old.cells) is)
          | inr not ↦
              let past = ltb-false cell (length old.cells) not in
              no_more now cell (to.left cell past)
              (get_or_past infos cell (nothing kinds.Interval) (omega (arith, past, many))
              ∙ sym (get_or_past known cell (nothing kinds.Interval) (omega (arith, past, at_hand.many))))
              (get_or_past supports cell empty (omega (arith, past, many, found.as_many))
              ∙ sym (get_or_past known_supports cell empty (omega (arith, past, at_hand.as_many))))
        ]
