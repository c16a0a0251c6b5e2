-- What a workbench holds is what the lines leave from scratch, line after line.
use Rattle.std.proofs.Common.{◌≡◌, ◌≢◌, ℕ, ◌+◌, ◌<◌, eqb, Bool, true, false, List, [], ◌∷◌, ◌++◌, length, get_or, set, map, replicate, refl, sym, ap, ◌∙◌, subst, inl, inr, append-nil, arith}
use Rattle.std.specs.Prelude.{All, ◌||◌, if◌then◌else◌, nat_eq}
use Rattle.std.specs.FinSet.{contains, empty}
use Rattle.std.proofs.lemmas.Bool.{cases_Bool, eqb-true, eqb-false, or_left}
use Rattle.std.proofs.lemmas.List.{length-set, get_or-replicate, length-replicate, get_or-set_same, get_or-set_other, get_or_append_left}
use Rattle.std.proofs.lemmas.List.Elements.{All-nil, All-push}
use Rattle.std.proofs.lemmas.List.Folds.{list_any-append}
use Rattle.std.proofs.lemmas.List.Sums.{fold_push}
use Rattle.pw_kinds.proofs.Order.{both_true}
use Rattle.pw_info.specs.declared.kind.Kind.{Kind}
use Rattle.pw_info.specs.declared.kind.Kind.TheVariants as kinds
use Rattle.pw_info.specs.Information.{kind_of}
use Rattle.pw_premises.specs.Premises.{Premises}
use Rattle.pw_facts.specs.declared.fact.Fact.{Fact}
use Rattle.pw_procs.specs.declared.arguments.Arguments.{Arguments}
use Rattle.pw_procs.specs.Registry.{cells_of}
use Rattle.pw_cells.specs.Cells.{Cell, Store, kind_in_store, kinds_of, new_cell}
use Rattle.pw_decl.specs.declared.step.Callable.{Callable}
use Rattle.pw_decl.specs.Declaration.{Declared, kind_at}
use Rattle.pw_decl.specs.Expansion.{inner_kinds_of}
use Rattle.pw_network.specs.Network.{Attached as AttachedInstance, IsWellNetwork, Network, bare, with_attached}
use Rattle.pw_settle.specs.Values.{nat_eq_decides}
use Rattle.pw_settle.specs.Sound.{IsSoundFor}
use Rattle.pw_settle.specs.Values.{kinds_in}
use Rattle.pw_settle.specs.Growth.{IsWider}
use Rattle.pw_reasons.specs.Nogood.{AreNogoods, IsNogood}
use Rattle.pw_sessions.specs.declared.command.Command.TheVariants as commands
use Rattle.pw_sessions.specs.Beliefs.{premises_below, believed_after, beliefs_at}
use Rattle.pw_sessions.specs.Entries.{Entry, Told, Attached, FitsDeclared, entries_of, entries_before}
use Rattle.pw_sessions.specs.Reply.{LineReading, Says}
use Rattle.pw_sessions.specs.Command.{IsDeclared}
use Rattle.pw_sessions.specs.Snapshot.{AllRestUpstream}
use Rattle.pw_sessions.specs.inside.Steps.{TakesFact, IsAsBefore, IsAttached, IsTold, OnlyKeepsMore}
use Rattle.pw_sessions.specs.Workbench.{Workbench, IsLeftBy, IsSetUpFor, SnapshotsFit, WasTold, beliefs_in, is_told_on, network_after, tells_on, with_entry}
use Rattle.pw_sessions.proofs.EntriesRise.{rise_before}
use Rattle.pw_sessions.proofs.FurtherLines.{entries_before-snoc, beliefs_at-snoc}
use Rattle.pw_sessions.proofs.LastValues.{fits_after, no_snapshots, snapshots_attached, snapshots_same, snapshots_told}
use Rattle.pw_sessions.proofs.NotedPremises.{nogoods_attached, nogoods_kept, nogoods_told}
use Rattle.pw_settle.proofs.SoundStores.{rests_attached, rests_new, rests_same, rests_told, sound_attached, sound_new, sound_same, sound_told}
use Rattle.pw_settle.proofs.WiderNetworks.{kinds_with_attached, widened_under}
use Rattle.pw_settle.proofs.StoreCells.{kinds_added}
use Rattle.pw_sessions.proofs.UpstreamSnapshots.{Rests, snapshots_rest_attached, snapshots_rest_told}
use Rattle.pw_sessions.proofs.StoreLemmas.{TellsEntries, WasTold-from_tells, kind_found, tells_attached, tells_from_WasTold, tells_more, tells_of_new}

-- ---- premises of tells

-- what was told on a premise was so with more entries
told_on_more : (entries more : List Entry) (cell premise : ℕ) → is_told_on entries cell premise ≡ true → is_told_on (entries ++ more) cell premise ≡ true
told_on_more entries more cell premise told =
    list_any-append (tells_on cell premise) entries more ∙ or_left (is_told_on entries cell premise) (is_told_on more cell premise) told

-- a fact that was told last was told on each of its premises
told_on_last : (entries : List Entry) (line cell : ℕ) (fact : Fact) (premise : ℕ) → contains fact.support premise ≡ true →
    is_told_on (entries ++ Told line cell fact ∷ []) cell premise ≡ true
told_on_last entries line cell fact premise one =
    list_any-append (tells_on cell premise) entries (Told line cell fact ∷ [])
    ∙ or_right (is_told_on entries cell premise) (is_told_on (Told line cell fact ∷ []) cell premise)
    (or_left (tells_on cell premise (Told line cell fact)) false
    (both_true (nat_eq cell cell) (contains fact.support premise) ((nat_eq_decides cell cell).1 refl) one))
  where
    or_right : (x y : Bool) → y ≡ true → (x || y) ≡ true
    or_right true y is = refl
    or_right false y is = is

module _ (d : Declared) (many : length d.kinds ≡ length d.cells) where
  -- ---- before the first line

  -- the store has as many kinds as cells are declared, and is set up for them
  IsSetUpFor-new : (bench : Workbench) (users premises : ℕ) → bench.network ≡ bare d → bench.store.cells ≡ map new_cell d.kinds →
      bench.nogoods ≡ [] → bench.beliefs ≡ replicate users (premises_below premises) → bench.snapshots ≡ [] → users ≡ length d.users →
      IsSetUpFor d bench
  IsSetUpFor-new bench users premises is new unnoted believed none all =
      record {
        users = ap length believed ∙ length-replicate users (premises_below premises) ∙ all;
        declared = ap (λ (n : Network). n.declared) is;
        fits = record {
          sound = record {
            kinds = kinds;
            sound = sound_new bench.network bench.store d.kinds kinds new;
          };
          nogoods = subst (AreNogoods bench.network bench.store) (sym unnoted) (All-nil (IsNogood bench.network bench.store));
          snapshots = subst (SnapshotsFit bench.network bench.store) (sym none) (no_snapshots bench.network bench.store);
        };
      }
    where
      kinds : kinds_of bench.store ≡ kinds_in bench.network
      kinds = ap (λ (cs : List Cell). map (λ (c : Cell). c.kind) cs) new ∙ kinds_added [] d.kinds ∙ sym (append-nil d.kinds) ∙ ap kinds_in (sym is)

  -- if nothing was attached, nothing told, and each user believes every premise
  pub IsLeftBy-new : (bench : Workbench) (users premises : ℕ) → bench.network ≡ bare d → bench.store.cells ≡ map new_cell d.kinds →
      bench.store.arrivals.list ≡ [] → bench.nogoods ≡ [] → bench.beliefs ≡ replicate users (premises_below premises) → bench.snapshots ≡ [] →
      users ≡ length d.users → premises ≡ length d.premises → IsLeftBy d [] bench
  IsLeftBy-new bench users premises is new quiet unnoted believed none all each =
      let set_up : IsSetUpFor d bench = IsSetUpFor-new bench users premises is new unnoted believed none all in
      record {
        set_up = set_up;
        fit = All-nil (FitsDeclared d);
        network = is;
        told = WasTold-from_tells d many [] tt bench.network bench.store is set_up.fits.sound.kinds (tells_of_new d bench.network bench.store d.kinds new);
        upstream = record {
          kept = rests_new bench.network (is_told_on []) bench.store d.kinds new quiet;
          snapshots = subst (All (Rests bench.network (is_told_on []))) (sym none) (All-nil (Rests bench.network (is_told_on [])));
        };
        beliefs = λ user below.
            ap (λ (bs : List Premises). get_or bs user empty) believed
            ∙ get_or-replicate users user (premises_below premises) empty (omega arith)
            ∙ ap premises_below each;
      }

  -- ---- one more line

  -- what was told by lines, cell by cell
  pub left_tells : (readings : List LineReading) (bench : Workbench) → IsLeftBy d readings bench →
      TellsEntries d (entries_before readings) bench.network bench.store
  left_tells readings bench left =
      tells_from_WasTold d many (entries_before readings) (rise_before readings) bench.network bench.store left.network left.set_up.fits.sound.kinds left.told

  -- with the entries of one more line, and what the users believe then, a workbench is what the
  -- lines leave
  left_after : (readings : List LineReading) (reading : LineReading) (new : Workbench) (added : List Entry) →
      entries_of (length readings + 1) reading ≡ added → IsSetUpFor d new → All (FitsDeclared d) (entries_before readings ++ added) →
      new.network ≡ network_after d (entries_before readings ++ added) → TellsEntries d (entries_before readings ++ added) new.network new.store →
      AllRestUpstream new.network (is_told_on (entries_before readings ++ added)) new.store new.snapshots →
      ((user : ℕ) → user < length d.users → beliefs_in new user ≡ believed_after d user readings (beliefs_at d user readings) reading) →
      IsLeftBy d (readings ++ reading ∷ []) new
  left_after readings reading new added own set_up fit is tells rests believed =
      let all : entries_before readings ++ added ≡ entries_before (readings ++ reading ∷ []) =
      ap (λ (l : List Entry). entries_before readings ++ l) (sym own) ∙ sym (entries_before-snoc readings reading) in
      let same : new.network ≡ network_after d (entries_before (readings ++ reading ∷ [])) = is ∙ ap (network_after d) all in
      record {
        set_up = set_up;
        fit = subst (All (FitsDeclared d)) all fit;
        network = same;
        told = WasTold-from_tells d many (entries_before (readings ++ reading ∷ [])) (rise_before (readings ++ reading ∷ []))
            new.network new.store same set_up.fits.sound.kinds
            (subst (λ (es : List Entry). TellsEntries d es new.network new.store) all tells);
        upstream = subst (λ (es : List Entry). AllRestUpstream new.network (is_told_on es) new.store new.snapshots) all rests;
        beliefs = λ user below. believed user below ∙ sym (beliefs_at-snoc d user readings reading);
      }

  -- a line that adds no entry leaves the same network and the same store; what users believe may
  -- change
  left_quiet : (readings : List LineReading) (reading : LineReading) (old : Workbench) (beliefs : List Premises) → IsLeftBy d readings old →
      entries_of (length readings + 1) reading ≡ [] → length beliefs ≡ length d.users →
      ((user : ℕ) → user < length d.users → get_or beliefs user empty ≡ believed_after d user readings (beliefs_at d user readings) reading) →
      IsLeftBy d (readings ++ reading ∷ []) (record old { beliefs = beliefs })
  left_quiet readings reading old beliefs left none all believed =
      let es : List Entry = entries_before readings in
      let same : es ≡ es ++ [] = sym (append-nil es) in
      left_after readings reading (record old { beliefs = beliefs }) [] none
      (record {
        users = all;
        declared = left.set_up.declared;
        fits = record {
          sound = left.set_up.fits.sound;
          nogoods = left.set_up.fits.nogoods;
          snapshots = left.set_up.fits.snapshots;
        };
      })
      (subst (All (FitsDeclared d)) same left.fit) (left.network ∙ ap (network_after d) same)
      (subst (λ (l : List Entry). TellsEntries d l old.network old.store) same (left_tells readings old left))
      (subst (λ (l : List Entry). AllRestUpstream old.network (is_told_on l) old.store old.snapshots) same left.upstream) believed

  -- a line that adds no entry and changes no beliefs
  pub left_same : (readings : List LineReading) (reading : LineReading) (old : Workbench) → IsLeftBy d readings old →
      ((n : ℕ) → entries_of n reading ≡ []) →
      ((user : ℕ) → user < length d.users → believed_after d user readings (beliefs_at d user readings) reading ≡ beliefs_at d user readings) →
      IsLeftBy d (readings ++ reading ∷ []) old
  left_same readings reading old left none same =
      left_quiet readings reading old old.beliefs left (none (length readings + 1)) left.set_up.users
      (λ user below. left.beliefs user below ∙ sym (same user below))

  -- what is as before is what the same lines leave
  pub left_as_before : (readings : List LineReading) (old new : Workbench) → IsAsBefore old new → IsLeftBy d readings old → IsLeftBy d readings new
  left_as_before readings old new still left =
      record {
        set_up = record {
          users = ap length still.beliefs ∙ left.set_up.users;
          declared = ap (λ (n : Network). n.declared) still.network ∙ left.set_up.declared;
          fits = record {
            sound = subst (λ (n : Network). IsSoundFor n new.store) (sym still.network) (record {
              kinds = ap (λ (cs : List Cell). map (λ (c : Cell). c.kind) cs) still.cells_are ∙ left.set_up.fits.sound.kinds;
              sound = sound_same old.network old.store new.store still.cells_are left.set_up.fits.sound.sound;
            });
            nogoods = subst (λ (n : Network). AreNogoods n new.store new.nogoods) (sym still.network)
                (subst (AreNogoods old.network new.store) (sym still.nogoods)
                (nogoods_kept old.network old.store new.store still.cells_are old.nogoods left.set_up.fits.nogoods));
            snapshots = subst (λ (n : Network). SnapshotsFit n new.store new.snapshots) (sym still.network)
                (subst (SnapshotsFit old.network new.store) (sym still.snapshots)
                (snapshots_same old.network old.store new.store old.snapshots left.set_up.fits.sound.kinds left.set_up.fits.sound.sound still.cells_are
                still.continues left.set_up.fits.snapshots));
          };
        };
        fit = left.fit;
        network = still.network ∙ left.network;
        told = subst (λ (n : Network). WasTold d (entries_before readings) n new.store) (sym still.network)
            (subst (λ (cs : List Cell). WasTold d (entries_before readings) old.network (record { cells = cs; room = 0; arrivals = old.store.arrivals })) (sym still.cells_are) left.told);
        upstream = subst (λ (n : Network). AllRestUpstream n (is_told_on (entries_before readings)) new.store new.snapshots) (sym still.network)
            (record {
              kept = rests_same old.network (is_told_on (entries_before readings)) (is_told_on (entries_before readings)) old.store new.store still.cells_are
                  still.arrivals (λ c p given. given) left.upstream.kept;
              snapshots = subst (All (Rests old.network (is_told_on (entries_before readings)))) (sym still.snapshots) left.upstream.snapshots;
            });
        beliefs = λ user below. ap (λ (bs : List Premises). get_or bs user empty) still.beliefs ∙ left.beliefs user below;
      }

  -- and so is what only keeps more
  pub left_keeping : (readings : List LineReading) (old : Workbench) (user : ℕ) (new : Workbench) → OnlyKeepsMore old user new → IsLeftBy d readings old →
      IsLeftBy d readings new
  left_keeping readings old user new keeps left =
      record {
        set_up = record {
          users = ap length keeps.beliefs ∙ left.set_up.users;
          declared = ap (λ (n : Network). n.declared) keeps.network ∙ left.set_up.declared;
          fits = fits_after old user new keeps left.set_up.fits;
        };
        fit = left.fit;
        network = keeps.network ∙ left.network;
        told = subst (λ (n : Network). WasTold d (entries_before readings) n new.store) (sym keeps.network)
            (λ cell w below. keeps.grows.told cell w ∙ left.told cell w below);
        upstream = subst (λ (n : Network). AllRestUpstream n (is_told_on (entries_before readings)) new.store new.snapshots) (sym keeps.network)
            (keeps.upstream (is_told_on (entries_before readings)) left.upstream);
        beliefs = λ user below. ap (λ (bs : List Premises). get_or bs user empty) keeps.beliefs ∙ left.beliefs user below;
      }

  -- ---- a line that tells a fact

  -- a declared cell has its kind in the store
  pub store_kind : (bench : Workbench) (cell : ℕ) → IsSetUpFor d bench → cell < length d.cells → kind_in_store bench.store cell ≡ kind_at d cell
  store_kind bench cell set_up below =
      let inner = map (λ inner. inner.kind) bench.network.inner in
      sym (kind_found bench.store cell)
      ∙ ap (λ (ks : List Kind). get_or ks cell kinds.Interval) (set_up.fits.sound.kinds ∙ ap (λ (e : Declared). e.kinds ++ inner) set_up.declared)
      ∙ get_or_append_left d.kinds inner kinds.Interval cell (omega (arith, below, many))

  -- the line leaves the store with one more fact
  pub left_told : (readings : List LineReading) (old new : Workbench) (user cell : ℕ) (fact : Fact) → IsWellNetwork old.network →
      IsLeftBy d readings old → (cell < length d.cells) × (kind_of fact.info ≡ kind_at d cell) → IsTold old cell fact new →
      IsLeftBy d (readings ++ Says (commands.Tell user cell fact) ∷ []) new
  left_told readings old new user cell fact network left named told =
      let line : ℕ = length readings + 1 in
      let es : List Entry = entries_before readings in
      let entry : Entry = Told line cell fact in
      let takes : TakesFact cell fact old.store new.store = told.store in
      left_after readings (Says (commands.Tell user cell fact)) new (entry ∷ []) refl
      (record {
        users = ap length told.beliefs ∙ left.set_up.users;
        declared = ap (λ (n : Network). n.declared) told.network ∙ left.set_up.declared;
        fits = record {
          sound = subst (λ (n : Network). IsSoundFor n new.store) (sym told.network) (record {
            kinds = takes.kinds ∙ left.set_up.fits.sound.kinds;
            sound = sound_told old.network network old.store new.store cell fact left.set_up.fits.sound.kinds kind takes.told takes.kept takes.others takes.kinds
                left.set_up.fits.sound.sound;
          });
          nogoods = subst (λ (n : Network). AreNogoods n new.store new.nogoods) (sym told.network)
              (subst (AreNogoods old.network new.store) (sym told.nogoods)
              (nogoods_told old.network network old.store new.store cell fact left.set_up.fits.sound.kinds kind takes old.nogoods left.set_up.fits.nogoods));
          snapshots = subst (λ (n : Network). SnapshotsFit n new.store new.snapshots) (sym told.network)
              (snapshots_told old.network old.store cell fact left.set_up.fits.sound.kinds kind
              (omega (arith, named.0, ap (λ (e : Declared). length e.cells) left.set_up.declared)) network new.store takes left.set_up.fits.sound.sound
              old.snapshots new.snapshots told.snapshots left.set_up.fits.snapshots);
        };
      })
      (All-push (FitsDeclared d) es entry left.fit named)
      (told.network ∙ left.network ∙ sym (fold_push with_entry (bare d) es entry))
      (subst (λ (n : Network). TellsEntries d (es ++ entry ∷ []) n new.store) (sym told.network)
      (tells_more d many es (rise_before readings) old.network old.store left.network left.set_up.fits.sound.kinds new.store line cell fact left.set_up.declared named.0
      kind takes.told takes.others takes.kinds (left_tells readings old left)))
      (subst (λ (n : Network). AllRestUpstream n (is_told_on (es ++ entry ∷ [])) new.store new.snapshots) (sym told.network)
      (record {
        kept = rests_told old.network (is_told_on es) (is_told_on (es ++ entry ∷ [])) (λ c p given. told_on_more es (entry ∷ []) c p given) old.store new.store
            cell fact (λ p one. told_on_last es line cell fact p one) takes.assimilates takes.others takes.remembers left.upstream.kept;
        snapshots = snapshots_rest_told old.network (is_told_on es) (is_told_on (es ++ entry ∷ [])) (λ c p given. told_on_more es (entry ∷ []) c p given)
            cell fact old.snapshots new.snapshots told.snapshots left.upstream.snapshots;
      }))
      (λ u below. ap (λ (bs : List Premises). get_or bs u empty) told.beliefs ∙ left.beliefs u below)
    where
      kind : kind_of fact.info ≡ kind_in_store old.store cell
      kind = named.1 ∙ sym (store_kind old cell left.set_up named.0)

  -- ---- a line that attaches a callable

  -- the line leaves the network one attachment further, with its inner cells in the store
  pub left_attached : (readings : List LineReading) (old new : Workbench) (user : ℕ) (callable : Callable) (on : Arguments) (support : Premises) →
      IsWellNetwork old.network → IsWellNetwork new.network → IsLeftBy d readings old → IsDeclared d (Says (commands.Attach user callable on support)) →
      IsAttached old (length readings + 1) callable (cells_of on) support new →
      IsLeftBy d (readings ++ Says (commands.Attach user callable on support) ∷ []) new
  left_attached readings old new user callable on support network wider left named attached =
      let line : ℕ = length readings + 1 in
      let es : List Entry = entries_before readings in
      let entry : Entry = Attached line callable (cells_of on) support in
      let made : Network = with_attached old.network line callable (cells_of on) support in
      let own : List Kind = inner_kinds_of old.network.declared.compounds callable in
      let store_of : List Cell → Store = λ cs. record { cells = cs; room = 0; arrivals = new.store.arrivals } in
      let fits : kinds_of new.store ≡ kinds_in new.network =
      ap (λ (cs : List Cell). map (λ (c : Cell). c.kind) cs) attached.cells_are ∙ kinds_added old.store.cells own
      ∙ ap (λ (ks : List Kind). ks ++ own) left.set_up.fits.sound.kinds
      ∙ sym (kinds_with_attached old.network line callable (cells_of on) support) ∙ ap kinds_in (sym attached.network) in
      let widened : (w : IsWider old.network new.network) × All (λ (a : AttachedInstance). a.support ≡ support) w.more =
      widened_under old.network new.network line callable (cells_of on) support attached.network in
      let wide : IsWider old.network new.network = widened.0 in
      left_after readings (Says (commands.Attach user callable on support)) new (entry ∷ []) refl
      (record {
        users = ap length attached.beliefs ∙ left.set_up.users;
        declared = ap (λ (n : Network). n.declared) attached.network ∙ left.set_up.declared;
        fits = record {
          sound = record {
            kinds = fits;
            sound = sound_attached old.network new.network wide network wider old.store new.store own left.set_up.fits.sound.kinds fits attached.cells_are
                left.set_up.fits.sound.sound;
          };
          nogoods = subst (AreNogoods new.network new.store) (sym attached.nogoods)
              (nogoods_attached old.network new.network wide network wider old.store new.store own left.set_up.fits.sound.kinds fits attached.cells_are
              old.nogoods left.set_up.fits.nogoods);
          snapshots = subst (SnapshotsFit new.network new.store) (sym attached.snapshots)
              (snapshots_attached old.network new.network wide network wider old.store new.store own left.set_up.fits.sound.kinds fits attached.cells_are
              attached.continues left.set_up.fits.sound.sound support widened.1 old.snapshots left.set_up.fits.snapshots);
        };
      })
      (All-push (FitsDeclared d) es entry left.fit named.1)
      (attached.network ∙ ap (λ (n : Network). with_entry n entry) left.network ∙ sym (fold_push with_entry (bare d) es entry))
      (subst (λ (n : Network). TellsEntries d (es ++ entry ∷ []) n new.store) (sym attached.network)
      (subst (λ (cs : List Cell). TellsEntries d (es ++ entry ∷ []) made (store_of cs)) (sym attached.cells_are)
      (tells_attached d many es (rise_before readings) old.network old.store left.network left.set_up.fits.sound.kinds line callable (cells_of on) support 0
      new.store.arrivals (left_tells readings old left))))
      (record {
        kept = rests_attached old.network new.network wide (is_told_on es) (is_told_on (es ++ entry ∷ [])) (λ c p given. told_on_more es (entry ∷ []) c p given)
            old.store new.store own attached.cells_are attached.arrivals left.upstream.kept;
        snapshots = subst (All (Rests new.network (is_told_on (es ++ entry ∷ [])))) (sym attached.snapshots)
            (snapshots_rest_attached old.network new.network wide (is_told_on es) (is_told_on (es ++ entry ∷ []))
            (λ c p given. told_on_more es (entry ∷ []) c p given) support old.snapshots left.upstream.snapshots);
      })
      (λ u below. ap (λ (bs : List Premises). get_or bs u empty) attached.beliefs ∙ left.beliefs u below)

  -- ---- a line that changes what its user believes

  -- setting the beliefs of one user changes only these
  get_or-set_by : (f : Premises → Premises) (beliefs : List Premises) (at user : ℕ) → at < length beliefs →
      get_or (set beliefs at (f (get_or beliefs at empty))) user empty
      ≡ (if eqb at user then f (get_or beliefs user empty) else get_or beliefs user empty)
  get_or-set_by f beliefs at user below = elim (cases_Bool (eqb at user)) [
    | inl same ↦ let e : at ≡ user = eqb-true at user same in
        rw same (ap (λ u. get_or (set beliefs at (f (get_or beliefs at empty))) u empty) (sym e)
        ∙ get_or-set_same beliefs at (f (get_or beliefs at empty)) empty below ∙ ap (λ u. f (get_or beliefs u empty)) e)
    | inr other ↦ let apart : user ≢ at = λ e. eqb-false at user other (sym e) in
        rw other (get_or-set_other beliefs at user (f (get_or beliefs at empty)) empty apart)
  ]

  -- the line leaves the user what it makes of the user's beliefs
  pub left_believed : (readings : List LineReading) (reading : LineReading) (old : Workbench) (at : ℕ) (f : Premises → Premises) → IsLeftBy d readings old →
      at < length d.users → ((n : ℕ) → entries_of n reading ≡ []) →
      ((user : ℕ) (beliefs : Premises) → believed_after d user readings beliefs reading ≡ (if eqb at user then f beliefs else beliefs)) →
      IsLeftBy d (readings ++ reading ∷ []) (record old { beliefs = set old.beliefs at (f (beliefs_in old at)) })
  left_believed readings reading old at f left there none changed =
      left_quiet readings reading old (set old.beliefs at (f (beliefs_in old at))) left (none (length readings + 1))
      (length-set old.beliefs at (f (beliefs_in old at)) ∙ left.set_up.users)
      (λ user below.
      get_or-set_by f old.beliefs at user (omega (arith, there, left.set_up.users))
      ∙ ap (λ (b : Premises). if eqb at user then f b else b) (left.beliefs user below)
      ∙ sym (changed user (beliefs_at d user readings)))
