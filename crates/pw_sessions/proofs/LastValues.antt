-- Snapshots, as more is kept, told and attached.
use Rattle.std.proofs.Common.{◌≡◌, ◌≢◌, ℕ, ◌<◌, ◌≤◌, true, false, List, [], ◌++◌, All, cond, length, map, get_or, Some, inl, inr, refl, sym, ap, ◌∙◌, subst, arith}
use Rattle.std.specs.Prelude.{not}
use Rattle.std.specs.FinSet.{empty, is_subset}
use Rattle.std.proofs.lemmas.Bool.{both_ways, cases_Bool, not-true}
use Rattle.std.proofs.lemmas.List.{length-map}
use Rattle.std.proofs.lemmas.List.Elements.{All-cons, All-map, All-nil, All-weaker}
use Rattle.pw_info.specs.declared.kind.Kind.{Kind}
use Rattle.pw_info.specs.Information.{allows, kind_of}
use Rattle.pw_kinds.proofs.Order.{true_both}
use Rattle.pw_premises.specs.Premises.{Premises}
use Rattle.pw_premises.specs.PremiseSubsets.{same_numbers_equal}
use Rattle.pw_facts.specs.declared.fact.Fact.{Fact}
use Rattle.pw_cells.specs.Arrivals.{Continues}
use Rattle.pw_cells.specs.Cells.{Cell, Store, kept_in, kind_in_store, kinds_of, new_cell, told_in}
use Rattle.pw_decl.specs.Declaration.{Declared}
use Rattle.pw_network.specs.Network.{Attached, Network, IsWellNetwork}
use Rattle.pw_settle.specs.Growth.{CanContinue, IsFitting, KeepsMore, StaysUpstream}
use Rattle.pw_settle.specs.Settled.{IsSettled, Settled, info_at}
use Rattle.pw_settle.specs.Sound.{IsSound, IsSoundFor}
use Rattle.pw_settle.specs.Values.{kinds_in}
use Rattle.pw_settle.specs.Growth.{IsWider}
use Rattle.pw_settle.proofs.FittingLaws.{fits_added, fits_more, fits_wider}
use Rattle.pw_settle.proofs.Growing.{keeps_more_then, still_sound_for}
use Rattle.pw_settle.proofs.KeptFacts.{implies_shown, kind_there}
use Rattle.pw_settle.proofs.SettledValues.{kinds_many}
use Rattle.pw_reasons.specs.Nogood.{AreNogoods}
use Rattle.pw_reasons.proofs.NogoodLemmas.{nogoods_same}
use Rattle.pw_sessions.specs.Snapshot.{AllRestUpstream, EachBecomes, HaveValues, IsAfterTell, IsCurrent, SayAlready, Snapshot, IsSnapshotOf, after_entry, is_of, snapshot_in}
use Rattle.pw_sessions.specs.inside.Steps.{IsLatest, IsRemembered, OnlyKeepsMore, RestOnUpstreamOf, StaysUpstreamOf, TakesFact, is_believed}
use Rattle.pw_sessions.specs.Workbench.{SnapshotsFit, StoreFits, Workbench, beliefs_in}
use Rattle.pw_sessions.proofs.SnapshotLists.{all_among, user_believes}
use Rattle.pw_sessions.proofs.CurrentValues.{current_attached, current_keeping, current_told, hidden_after}
use Rattle.pw_settle.proofs.SoundStores.{more_kept, sound_same}
use Rattle.pw_sessions.proofs.ContinuedValues.{continues_added, continues_more}
use Rattle.pw_sessions.proofs.UpstreamSnapshots.{Rests, rest_with}

-- if each that fits still does, they do
all_fit : (network after : Network) (old new : Store) → ((snapshot : Snapshot) → IsSnapshotOf network old snapshot → IsSnapshotOf after new snapshot) →
    (snapshots : List Snapshot) → SnapshotsFit network old snapshots → SnapshotsFit after new snapshots
all_fit network after old new still snapshots fit = All-weaker (IsSnapshotOf network old) (IsSnapshotOf after new) still snapshots fit

-- if more is kept that follows
pub snapshot_keeping : (network : Network) (old new : Store) → kinds_of old ≡ kinds_in network → IsSound network old → KeepsMore network old new →
    (snapshot : Snapshot) → IsSnapshotOf network old snapshot → IsSnapshotOf network new snapshot
snapshot_keeping network old new same sound grows snapshot fits = record {
  fits = fits_more network old new snapshot.values grows.more fits.fits;
  continues = continues_more old new snapshot.values (λ cell w below. grows.more cell w) grows.continues fits.continues;
  declared = fits.declared;
  current = λ is. current_keeping network old new snapshot.values same sound grows (fits.current is);
}

pub snapshots_keeping : (network : Network) (old new : Store) (snapshots : List Snapshot) → kinds_of old ≡ kinds_in network →
    IsSound network old → KeepsMore network old new → SnapshotsFit network old snapshots → SnapshotsFit network new snapshots
snapshots_keeping network old new snapshots same sound grows =
    all_fit network network old new (snapshot_keeping network old new same sound grows) snapshots

-- a store of the same cells keeps at least as much
pub keeps_more_alike : (network : Network) (old new : Store) → new.cells ≡ old.cells → Continues old new → KeepsMore network old new
keeps_more_alike network old new alike continues = record {
  kinds = ap (λ (cs : List Cell). map (λ (c : Cell). c.kind) cs) alike;
  told = λ cell w. ap (λ (cs : List Cell). told_in (record { cells = cs; room = 0; arrivals = old.arrivals }) cell w) alike;
  more = λ cell w v possible. subst (λ (cs : List Cell). allows (kept_in (record { cells = cs; room = 0; arrivals = old.arrivals }) cell w) v ≡ true) alike possible;
  sound = sound_same network old new alike;
  continues = continues;
}

-- if the cells are the same
pub snapshots_same : (network : Network) (old new : Store) (snapshots : List Snapshot) → kinds_of old ≡ kinds_in network →
    IsSound network old → new.cells ≡ old.cells → Continues old new → SnapshotsFit network old snapshots → SnapshotsFit network new snapshots
snapshots_same network old new snapshots same sound alike continues =
    snapshots_keeping network old new snapshots same sound (keeps_more_alike network old new alike continues)

-- ---- as something comes under premises

-- if each snapshot still fits after something was attached, all of them do
all_after : (support : Premises) (network after : Network) (old new : Store) →
    ((snapshot : Snapshot) → IsSnapshotOf network old snapshot → IsSnapshotOf after new (after_entry support snapshot)) → (snapshots : List Snapshot) →
    SnapshotsFit network old snapshots → SnapshotsFit after new (map (after_entry support) snapshots)
all_after support network after old new still snapshots fit =
    All-map (IsSnapshotOf after new) (after_entry support) snapshots
    (All-weaker (IsSnapshotOf network old) (λ snapshot. IsSnapshotOf after new (after_entry support snapshot)) still snapshots fit)

-- what is known to be current still was so before, and what was attached is not visible to it
known_still : (support : Premises) (snapshot : Snapshot) → (after_entry support snapshot).is_current ≡ true →
    (snapshot.is_current ≡ true) × (is_subset support snapshot.values.worldview ≡ false)
known_still support snapshot is =
    let parts = true_both snapshot.is_current (not (is_subset support snapshot.values.worldview)) is in
    (parts.0, not-true (is_subset support snapshot.values.worldview) parts.1)

-- values say already what a fact shows that is not visible in their worldview
pub says_of_hidden : (values : Settled) (cell : ℕ) (fact : Fact) → kind_of (info_at values.infos cell) ≡ kind_of fact.info →
    is_subset fact.support values.worldview ≡ false → SayAlready cell fact values
says_of_hidden values cell fact kind hidden =
    implies_shown (info_at values.infos cell) fact values.worldview kind
    (λ seen. absurd (both_ways (is_subset fact.support values.worldview) hidden seen))

-- if a fact is told
module _ (network : Network) (old : Store) (cell : ℕ) (fact : Fact) (same : kinds_of old ≡ kinds_in network)
    (kind : kind_of fact.info ≡ kind_in_store old cell) (declared : cell < length network.declared.cells) where
  -- each snapshot has a value of the cell, of the kind of the fact
  pub have_values : (snapshots : List Snapshot) → SnapshotsFit network old snapshots → HaveValues cell (kind_of fact.info) snapshots
  have_values snapshots fit =
      All-weaker (IsSnapshotOf network old)
      (λ snapshot. (cell < length snapshot.values.infos) × (kind_of (info_at snapshot.values.infos cell) ≡ kind_of fact.info))
      (λ snapshot fits. (
        there snapshot fits,
        fits.fits.kinds cell (there snapshot fits) ∙ sym (kind_there network old same cell) ∙ sym kind,
      )) snapshots fit
    where
      there : (snapshot : Snapshot) → IsSnapshotOf network old snapshot → cell < length snapshot.values.infos
      there snapshot fits = omega (arith, declared, fits.declared)

  module _ (well : IsWellNetwork network) (new : Store) (takes : TakesFact cell fact old new) (sound : IsSound network old) where
    snapshot_told : (snapshot after : Snapshot) → IsAfterTell cell fact snapshot after → IsSnapshotOf network old snapshot → IsSnapshotOf network new after
    snapshot_told snapshot after is fits = record {
      fits = subst (IsFitting network new) (sym is.values)
          (fits_more network old new snapshot.values (more_kept network old new same cell fact kind takes.kept takes.others) fits.fits);
      continues = subst (CanContinue new) (sym is.values)
          (continues_more old new snapshot.values (λ c w below. more_kept network old new same cell fact kind takes.kept takes.others c w) takes.continues
          fits.continues);
      declared = subst (λ (values : Settled). length network.declared.cells ≤ length values.infos) (sym is.values) fits.declared;
      current = λ known. elim is.current [
        | inl says ↦
            subst (IsCurrent network new) (sym is.values)
            (current_told network well old new cell fact same kind takes sound snapshot.values (omega (arith, declared, fits.declared)) says.0
            (fits.current (sym says.1 ∙ known)))
        | inr news ↦ absurd (both_ways after.is_current news.1 known)
      ];
    }

    pub snapshots_told : (snapshots after : List Snapshot) → EachBecomes (IsAfterTell cell fact) snapshots after →
        SnapshotsFit network old snapshots → SnapshotsFit network new after
    snapshots_told snapshots after became fit place d there =
        let was : place < length snapshots = omega (arith, there, became.many) in
        snapshot_told (get_or snapshots place d) (get_or after place d) (became.each place d was) (fit place d was)

-- if more is attached, with new cells
pub snapshots_attached : (network wider : Network) (wide : IsWider network wider) → IsWellNetwork network → IsWellNetwork wider → (old new : Store)
    (own : List Kind) → kinds_of old ≡ kinds_in network → kinds_of new ≡ kinds_in wider → new.cells ≡ old.cells ++ map new_cell own → Continues old new →
    IsSound network old → (support : Premises) → All (λ (a : Attached). a.support ≡ support) wide.more → (snapshots : List Snapshot) → SnapshotsFit network old snapshots →
    SnapshotsFit wider new (map (after_entry support) snapshots)
snapshots_attached network wider wide well also old new own same fits_kinds are continues sound support all =
    all_after support network wider old new (λ snapshot fits. record {
      fits = fits_wider network wider new snapshot.values well wide
          (fits_added network old new snapshot.values own are
          (omega (arith, sym (length-map old.cells (λ (c : Cell). c.kind)) ∙ ap length same, kinds_many network well)) fits.fits);
      continues = continues_added old new own snapshot.values are continues fits.continues;
      declared = omega (arith, fits.declared, ap (λ (d : Declared). length d.cells) wide.declared);
      current = λ is.
          let known = known_still support snapshot is in
          current_attached network wider wide well also old new own same fits_kinds are sound snapshot.values (fits.current known.0)
          (hidden_after network wider wide support snapshot.values.worldview all known.1);
    })

-- none at all
pub no_snapshots : (network : Network) (store : Store) → SnapshotsFit network store []
no_snapshots network store = All-nil (IsSnapshotOf network store)

-- ---- what only keeps more

-- a store that fits still does
pub fits_after : (a : Workbench) (user : ℕ) (b : Workbench) → OnlyKeepsMore a user b → StoreFits a → StoreFits b
fits_after a user b keeps fits = record {
  sound = subst (λ (n : Network). IsSoundFor n b.store) (sym keeps.network) (still_sound_for a.network a.store b.store keeps.grows fits.sound);
  nogoods = subst (λ (n : Network). AreNogoods n b.store b.nogoods) (sym keeps.network) (keeps.nogoods fits.nogoods);
  snapshots = subst (λ (n : Network). SnapshotsFit n b.store b.snapshots) (sym keeps.network) (keeps.snapshots fits);
}

-- one after the other
pub only_keeps_then : (a : Workbench) (user : ℕ) (b c : Workbench) → OnlyKeepsMore a user b → OnlyKeepsMore b user c → OnlyKeepsMore a user c
only_keeps_then a user b c first then = record {
  network = then.network ∙ first.network;
  beliefs = then.beliefs ∙ first.beliefs;
  others = λ other there differs.
      let same : (n : ℕ) → beliefs_in b n ≡ beliefs_in a n = λ n. ap (λ (bs : List Premises). get_or bs n empty) first.beliefs in
      subst (λ (w : Premises). snapshot_in c.snapshots w ≡ snapshot_in b.snapshots w) (same other)
      (then.others other (omega (arith, there, ap length first.beliefs)) (λ alike. differs (sym (same other) ∙ alike ∙ same user)))
      ∙ first.others other there differs;
  snapshots = λ fits. subst (λ (n : Network). SnapshotsFit n c.store c.snapshots) first.network (then.snapshots (fits_after a user b first fits));
  nogoods = λ are. subst (λ (n : Network). AreNogoods n b.store b.nogoods → AreNogoods n c.store c.nogoods) first.network then.nogoods (first.nogoods are);
  grows = keeps_more_then a.network a.store b.store c.store first.grows
      (subst (λ (n : Network). KeepsMore n b.store c.store) first.network then.grows);
  upstream = λ given rests.
      subst (λ (n : Network). AllRestUpstream n given b.store b.snapshots → AllRestUpstream n given c.store c.snapshots) first.network (then.upstream given)
      (first.upstream given rests);
}

-- a store that keeps more, with other sets that are noted
pub only_notes : (old : Workbench) (user : ℕ) (store : Store) (nogoods : List Premises) → KeepsMore old.network old.store store →
    StaysUpstream old.network old.store store → (AreNogoods old.network old.store old.nogoods → AreNogoods old.network old.store nogoods) →
    OnlyKeepsMore old user (record old { store = store; nogoods = nogoods })
only_notes old user store nogoods grows upstream noted = record {
  network = refl;
  beliefs = refl;
  others = λ other there differs. refl;
  snapshots = λ fits. snapshots_keeping old.network old.store store old.snapshots fits.sound.kinds fits.sound.sound grows fits.snapshots;
  nogoods = λ are. nogoods_same old.network old.store store grows.told nogoods (noted are);
  grows = grows;
  upstream = λ given rests. rest_with old.network given old.store store old.snapshots (upstream given rests.kept) rests;
}

-- what only keeps more, and the values of what the user believes are remembered, which are current and
-- rest on premises upstream
pub only_remembers : (old : Workbench) (user : ℕ) (found : Workbench) (values : Settled) (new : Workbench) → OnlyKeepsMore old user found →
    RestOnUpstreamOf old.network old.store old.snapshots values → IsRemembered found values new → values.worldview ≡ beliefs_in old user →
    IsSnapshotOf found.network found.store (record { values = values; is_current = true }) → OnlyKeepsMore old user new
only_remembers old user found values new keeps lie remembered own fits =
    subst (OnlyKeepsMore old user) (sym {A = Workbench} remembered.rest) (record {
      network = keeps.network;
      beliefs = keeps.beliefs;
      others = λ other there differs.
          ap (λ (l : List Snapshot). snapshot_in l (beliefs_in old other)) latest.latest
          ∙ ap (λ b. cond b (Some first) (snapshot_in latest.earlier (beliefs_in old other))) (hidden other differs)
          ∙ latest.stay (beliefs_in old other) (believed other there) (λ same. differs (same ∙ own)) ∙ keeps.others other there differs;
      snapshots = λ fit.
          subst (λ (n : Network). SnapshotsFit n found.store new.snapshots) keeps.network
          (all_now (IsSnapshotOf found.network found.store) fits (fits_after old user found keeps fit).snapshots);
      nogoods = keeps.nogoods;
      grows = keeps.grows;
      upstream = λ given rests. record {
        kept = (keeps.upstream given rests).kept;
        snapshots = all_now (Rests old.network given) (lie given rests) (keeps.upstream given rests).snapshots;
      };
    })
  where
    latest : IsLatest found.beliefs found.snapshots values new.snapshots
    latest = remembered.latest

    first : Snapshot
    first = record { values = values; is_current = true }

    -- what holds of these values, and held of all snapshots, holds of all
    all_now : (P : Snapshot → Type 0) → P first → All P found.snapshots → All P new.snapshots
    all_now P own all =
        subst (All P) (sym latest.latest) (All-cons P first latest.earlier own (all_among P latest.earlier found.snapshots latest.among all))

    believed : (other : ℕ) → other < length old.beliefs → is_believed found.beliefs (beliefs_in old other) ≡ true
    believed other there =
        subst (λ (bs : List Premises). is_believed bs (beliefs_in old other) ≡ true) (sym keeps.beliefs) (user_believes old.beliefs other empty there)

    hidden : (other : ℕ) → beliefs_in old other ≢ beliefs_in old user → is_of (beliefs_in old other) first ≡ false
    hidden other differs = elim (cases_Bool (is_of (beliefs_in old other) first)) [
      | inl same ↦ absurd (differs (sym ((same_numbers_equal values.worldview (beliefs_in old other)).0 same) ∙ own))
      | inr not ↦ not
    ]

-- beliefs stay
pub beliefs_kept : (old : Workbench) (user : ℕ) (new : Workbench) → OnlyKeepsMore old user new → beliefs_in new user ≡ beliefs_in old user
beliefs_kept old user new keeps = ap (λ (bs : List Premises). get_or bs user empty) keeps.beliefs

-- ---- what a settling found

-- it is a snapshot that fits, of current values
pub fitting_snapshot : (old : Workbench) (user : ℕ) (new : Workbench) (settled : Settled) → IsWellNetwork old.network → OnlyKeepsMore old user new →
    IsSettled old.network old.store (beliefs_in old user) settled → CanContinue new.store settled → IsCurrent new.network new.store settled →
    IsSnapshotOf new.network new.store (record { values = settled; is_current = true })
fitting_snapshot old user new settled well keeps is continues current = record {
  fits = current.fits;
  continues = continues;
  declared = subst (λ (n : Network). length n.declared.cells ≤ length settled.infos) (sym keeps.network) (omega (arith, is.cells));
  current = λ same. current;
}

-- a store that keeps more, and another count of calls
pub only_settles : (old : Workbench) (user : ℕ) (store : Store) (calls : ℕ) → KeepsMore old.network old.store store →
    StaysUpstreamOf old.network old.store old.snapshots store →
    OnlyKeepsMore old user (record old { store = store; calls = calls })
only_settles old user store calls grows upstream = record {
  network = refl;
  beliefs = refl;
  others = λ other there differs. refl;
  snapshots = λ fits. snapshots_keeping old.network old.store store old.snapshots fits.sound.kinds fits.sound.sound grows fits.snapshots;
  nogoods = λ are. nogoods_same old.network old.store store grows.told old.nogoods are;
  grows = grows;
  upstream = λ given rests. rest_with old.network given old.store store old.snapshots (upstream given rests) rests;
}
