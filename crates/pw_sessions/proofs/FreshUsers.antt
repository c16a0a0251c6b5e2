-- Fresh users stay fresh, line after line, except after lines that may end it.
use Rattle.std.proofs.Common.{◌≡◌, ℕ, ◌<◌, true, false, zero, suc, List, All, replicate, length, map, get_or, Some, refl, sym, ap, ◌∙◌, subst, inl, inr, arith}
use Rattle.std.specs.Prelude.{◌≢◌, ◌⊎◌}
use Rattle.std.specs.FinSet.{empty, is_subset}
use Rattle.std.proofs.lemmas.Bool.{both_ways, cases_Bool}
use Rattle.std.proofs.lemmas.List.{length-replicate}
use Rattle.std.proofs.lemmas.Option.{none-some, same_Some}
use Rattle.pw_info.specs.declared.info.Info.{Info}
use Rattle.pw_info.specs.Information.{Implies, kind_of}
use Rattle.pw_premises.specs.Premises.{Premises}
use Rattle.pw_premises.specs.PremiseSubsets.{has_same_numbers, same_numbers_equal}
use Rattle.pw_facts.specs.declared.fact.Fact.{Fact}
use Rattle.pw_facts.specs.Facts.{shows}
use Rattle.pw_cells.specs.Cells.{kind_in_store, kinds_of}
use Rattle.pw_decl.specs.declared.step.Callable.{Callable}
use Rattle.pw_decl.specs.Declaration.{Declared}
use Rattle.pw_decl.specs.Expansion.{inner_kinds_of}
use Rattle.pw_network.specs.Network.{Attached, Network, IsWellNetwork}
use Rattle.pw_settle.specs.Calls.{is_set}
use Rattle.pw_settle.specs.Settled.{Settled, info_at}
use Rattle.pw_settle.specs.Values.{kinds_in, value_in}
use Rattle.pw_settle.specs.Growth.{IsWider}
use Rattle.pw_settle.proofs.KeptFacts.{also_implies}
use Rattle.pw_sessions.specs.declared.command.Command.{Command}
use Rattle.pw_sessions.specs.Answer.{user_of}
use Rattle.pw_sessions.specs.Freshness.{CallsDueFor, CallsNoneIfFresh, CountsCalls, IsAsked, IsFresh, KeepsFresh, MayEndFreshness, Settles}
use Rattle.pw_sessions.specs.Reply.{LineReading}
use Rattle.pw_sessions.specs.Reply.{Reply}
use Rattle.pw_sessions.specs.Snapshot.{IsAfterTell, IsCurrent, Snapshot, after_entry, snapshot_in, start_for}
use Rattle.pw_sessions.specs.inside.Steps.{CanAnswer, IsAsBefore, IsAttached, IsRemembered, IsTold, OnlyKeepsMore}
use Rattle.pw_sessions.specs.Workbench.{IsLeftBy, StoreFits, Workbench, beliefs_in}
use Rattle.pw_sessions.proofs.CurrentValues.{current_attached, current_keeping, current_told, hidden_after, said_at}
use Rattle.pw_sessions.proofs.FewCalls.{no_flags, none_due}
use Rattle.pw_sessions.proofs.LastValues.{keeps_more_alike}
use Rattle.pw_sessions.proofs.SnapshotLists.{becomes_in, first_there, its_fit, its_worldview, made_in, starts_there}

-- ---- users that stay fresh

-- with the same snapshot and beliefs, if what was current still is
stays_fresh : (old new : Workbench) (user : ℕ) → new.beliefs ≡ old.beliefs →
    (user < length old.beliefs → snapshot_in new.snapshots (beliefs_in old user) ≡ snapshot_in old.snapshots (beliefs_in old user)) →
    ((settled : Settled) → IsCurrent old.network old.store settled → IsCurrent new.network new.store settled) → IsFresh old user → IsFresh new user
stays_fresh old new user beliefs same still is = record {
  exists = omega (arith, is.exists, ap length beliefs);
  snapshot = is.snapshot;
  has = subst (λ (bs : List Premises). snapshot_in new.snapshots (get_or bs user empty) ≡ Some is.snapshot) (sym beliefs) (same is.exists ∙ is.has);
  current = still is.snapshot.values is.current;
}

-- what was current still is, if only more is kept
current_still : (old : Workbench) (user : ℕ) (new : Workbench) → StoreFits old → OnlyKeepsMore old user new → (settled : Settled) →
    IsCurrent old.network old.store settled → IsCurrent new.network new.store settled
current_still old user new fits keeps settled is =
    subst (λ (n : Network). IsCurrent n new.store settled) (sym keeps.network)
    (current_keeping old.network old.store new.store settled fits.sound.kinds fits.sound.sound keeps.grows is)

-- a user who believes something else than the asker
pub fresh_beside : (old : Workbench) (user : ℕ) (new : Workbench) → StoreFits old → OnlyKeepsMore old user new → (other : ℕ) →
    beliefs_in old other ≢ beliefs_in old user → IsFresh old other → IsFresh new other
fresh_beside old user new fits keeps other differs =
    stays_fresh old new other keeps.beliefs (λ there. keeps.others other there differs) (current_still old user new fits keeps)

-- all users, if the snapshots stay
pub fresh_keeping : (old : Workbench) (user : ℕ) (new : Workbench) → StoreFits old → OnlyKeepsMore old user new → new.snapshots ≡ old.snapshots →
    (other : ℕ) → IsFresh old other → IsFresh new other
fresh_keeping old user new fits keeps snapshots other =
    stays_fresh old new other keeps.beliefs (λ there. ap (λ (l : List Snapshot). snapshot_in l (beliefs_in old other)) snapshots)
    (current_still old user new fits keeps)

-- a user who believes the same as a fresh one
pub fresh_alike : (bench : Workbench) (user other : ℕ) → user < length bench.beliefs → beliefs_in bench other ≡ beliefs_in bench user →
    IsFresh bench other → IsFresh bench user
fresh_alike bench user other there same is = record {
  exists = there;
  snapshot = is.snapshot;
  has = subst (λ (w : Premises). snapshot_in bench.snapshots w ≡ Some is.snapshot) same is.has;
  current = is.current;
}

-- all users, if only the room for cells changes
fresh_as_before : (old new : Workbench) → StoreFits old → IsAsBefore old new → (user : ℕ) → IsFresh old user → IsFresh new user
fresh_as_before old new fits still user =
    stays_fresh old new user still.beliefs (λ there. ap (λ (l : List Snapshot). snapshot_in l (beliefs_in old user)) still.snapshots)
    (λ settled is. subst (λ (n : Network). IsCurrent n new.store settled) (sym still.network)
    (current_keeping old.network old.store new.store settled fits.sound.kinds fits.sound.sound
    (keeps_more_alike old.network old.store new.store still.cells_are still.continues) is))

-- ---- what is attached under premises

-- a user to whom it is not visible keeps the snapshot, and stays fresh if its values stay current
after_hidden : (old new : Workbench) (support : Premises) → new.beliefs ≡ old.beliefs → new.snapshots ≡ map (after_entry support) old.snapshots →
    ((settled : Settled) → is_subset support settled.worldview ≡ false → IsCurrent old.network old.store settled → IsCurrent new.network new.store settled) →
    (user : ℕ) → is_subset support (beliefs_in old user) ≡ false → IsFresh old user → IsFresh new user
after_hidden old new support beliefs snapshots still user hidden is = record {
  exists = omega (arith, is.exists, ap length beliefs);
  snapshot = after_entry support is.snapshot;
  has =
      subst (λ (bs : List Premises). snapshot_in new.snapshots (get_or bs user empty) ≡ Some (after_entry support is.snapshot)) (sym beliefs)
      (ap (λ (l : List Snapshot). snapshot_in l (beliefs_in old user)) snapshots
      ∙ made_in (after_entry support) (λ x. refl) old.snapshots (beliefs_in old user) is.snapshot is.has);
  current =
      still is.snapshot.values (ap (is_subset support) (its_worldview old.snapshots (beliefs_in old user) is.snapshot is.has) ∙ hidden) is.current;
}

-- so a fresh user stays fresh, or sees it
seen_or_fresh : (old new : Workbench) (support : Premises) → new.beliefs ≡ old.beliefs → new.snapshots ≡ map (after_entry support) old.snapshots →
    ((settled : Settled) → is_subset support settled.worldview ≡ false → IsCurrent old.network old.store settled → IsCurrent new.network new.store settled) →
    (user : ℕ) → IsFresh old user → (is_subset support (beliefs_in old user) ≡ true) ⊎ IsFresh new user
seen_or_fresh old new support beliefs snapshots still user is =
    elim (cases_Bool (is_subset support (beliefs_in old user))) [
      | inl seen ↦ inl seen
      | inr hidden ↦ inr (after_hidden old new support beliefs snapshots still user hidden is)
    ]

-- if a fact is told, a fresh user stays fresh, or it says something that does not follow there
pub fresh_told : (old new : Workbench) (cell : ℕ) (fact : Fact) → IsWellNetwork old.network → StoreFits old → cell < length old.network.declared.cells →
    kind_of fact.info ≡ kind_in_store old.store cell → IsTold old cell fact new → (user : ℕ) → IsFresh old user →
    (Implies (value_in old.network old.store (beliefs_in old user) cell) (shows (beliefs_in old user) fact) → ⊥) ⊎ IsFresh new user
fresh_told old new cell fact well fits declared kind told user is = elim came.2.current [
  | inl says ↦ inr (record {
    exists = omega (arith, is.exists, ap length told.beliefs);
    snapshot = came.0;
    has = subst (λ (bs : List Premises). snapshot_in new.snapshots (get_or bs user empty) ≡ Some came.0) (sym told.beliefs) came.1;
    current = subst (λ (n : Network). IsCurrent n new.store came.0.values) (sym told.network)
        (subst (IsCurrent old.network new.store) (sym came.2.values)
        (current_told old.network well old.store new.store cell fact fits.sound.kinds kind told.store fits.sound.sound values there says.0 is.current));
  })
  | inr news ↦ inl (λ follows. news.0
      (also_implies (shows values.worldview fact) (value_in old.network old.store values.worldview cell) (info_at values.infos cell)
      (sym (is.current.said cell) ∙ said_at old.network values cell there)
      (subst (λ (w : Premises). Implies (value_in old.network old.store w cell) (shows w fact)) (sym worldview) follows)))
] where
  values : Settled
  values = is.snapshot.values

  worldview : values.worldview ≡ beliefs_in old user
  worldview = its_worldview old.snapshots (beliefs_in old user) is.snapshot is.has

  there : cell < length values.infos
  there = omega (arith, declared, (its_fit old.network old.store old.snapshots (beliefs_in old user) is.snapshot fits.snapshots is.has).declared)

  came : (after : Snapshot) × (snapshot_in new.snapshots (beliefs_in old user) ≡ Some after) × IsAfterTell cell fact is.snapshot after
  came =
      becomes_in (IsAfterTell cell fact) (λ x y after. after.values) old.snapshots new.snapshots told.snapshots (beliefs_in old user) is.snapshot is.has

pub fresh_attached : (old new : Workbench) (line : ℕ) (callable : Callable) (cells : List ℕ) (support : Premises) → IsWellNetwork old.network →
    IsWellNetwork new.network → StoreFits old → kinds_of new.store ≡ kinds_in new.network → (wide : IsWider old.network new.network) →
    All (λ (a : Attached). a.support ≡ support) wide.more → IsAttached old line callable cells support new →
    (user : ℕ) → IsFresh old user → (is_subset support (beliefs_in old user) ≡ true) ⊎ IsFresh new user
fresh_attached old new line callable cells support well also fits kinds wide all attached =
    seen_or_fresh old new support attached.beliefs attached.snapshots
    (λ settled hidden is.
    current_attached old.network new.network wide well also old.store new.store (inner_kinds_of old.network.declared.compounds callable) fits.sound.kinds kinds
    attached.cells_are fits.sound.sound settled is (hidden_after old.network new.network wide support settled.worldview all hidden))

-- ---- commands that settle nothing

-- no calls are none where a user is fresh too
pub calls_none : (old : Workbench) (user calls : ℕ) → calls ≡ 0 → CallsNoneIfFresh old user calls
calls_none old user calls none other is same = none

-- if nobody's freshness ends
module _ (old new : Workbench) (command : Command) (answer : Reply)
    (quiet : (d : Declared) (before : List LineReading) → Settles d before command → ⊥) where
  pub counts_none : new.calls ≡ 0 → CountsCalls old command new answer
  counts_none none = record {
    fresh = calls_none old (user_of command) new.calls none;
    due = λ d before left settles. absurd (quiet d before settles);
    none = λ d before left not. none;
  }

  pub keeps_fresh : ((user : ℕ) → IsFresh old user → MayEndFreshness old user command new answer ⊎ IsFresh new user) → KeepsFresh old command new answer
  keeps_fresh stays = record {
    becomes = λ d before left settles. absurd (quiet d before settles);
    stays = stays;
  }

-- a change of beliefs: a user who was fresh still is, or believes something else
pub fresh_believed : (old : Workbench) (beliefs : List Premises) → length beliefs ≡ length old.beliefs → (user : ℕ) → IsFresh old user →
    (beliefs_in (record old { beliefs = beliefs }) user ≢ beliefs_in old user) ⊎ IsFresh (record old { beliefs = beliefs }) user
fresh_believed old beliefs many user is =
    let now : Premises = get_or beliefs user empty in
    let decides = same_numbers_equal now (beliefs_in old user) in
    elim (cases_Bool (has_same_numbers now (beliefs_in old user))) [
      | inl same ↦
          inr (record {
            exists = omega (arith, is.exists, many);
            snapshot = is.snapshot;
            has = subst (λ (w : Premises). snapshot_in old.snapshots w ≡ Some is.snapshot) (sym (decides.0 same)) is.has;
            current = is.current;
          })
      | inr other ↦ inl (λ same. both_ways (has_same_numbers now (beliefs_in old user)) other (decides.1 same))
    ]

pub fresh_refused : (old new : Workbench) → StoreFits old → IsAsBefore old new → (user : ℕ) (command : Command) (answer : Reply) → IsFresh old user →
    MayEndFreshness old user command new answer ⊎ IsFresh new user
fresh_refused old new fits still user command answer is = inr (fresh_as_before old new fits still user is)

-- ---- questions

module _ (old : Workbench) (command : Command) (Settling : Type 0) (new : Workbench) (answer : Reply)
    (can : CanAnswer old (user_of command))
    (keeps : OnlyKeepsMore old (user_of command) new) (asked : IsAsked old (user_of command) Settling new answer) where
  pub question_keeps : ((d : Declared) (before : List LineReading) → IsLeftBy d before old → Settles d before command → Settling) →
      KeepsFresh old command new answer
  question_keeps settling = record {
    becomes = λ d before left settles. asked.becomes (settling d before left settles);
    stays = λ other is.
        let same = same_numbers_equal (beliefs_in old other) (beliefs_in old (user_of command)) in
        elim (cases_Bool (has_same_numbers (beliefs_in old other) (beliefs_in old (user_of command)))) [
          | inl alike ↦
              inr (fresh_alike new other (user_of command) (omega (arith, is.exists, ap length keeps.beliefs))
              (now (user_of command) ∙ sym (same.0 alike) ∙ sym (now other)) (asked.stays (fresh_alike old (user_of command) other can.exists (same.0 alike) is)))
          | inr differs ↦
              inr (fresh_beside old (user_of command) new can.fits keeps other
              (λ alike. both_ways (has_same_numbers (beliefs_in old other) (beliefs_in old (user_of command))) differs (same.1 alike)) is)
        ];
  } where
    now : (user : ℕ) → beliefs_in new user ≡ beliefs_in old user
    now user = ap (λ (bs : List Premises). get_or bs user empty) keeps.beliefs

  pub question_counts : ((d : Declared) (before : List LineReading) → IsLeftBy d before old → Settles d before command → Settling) →
      ((d : Declared) (before : List LineReading) → IsLeftBy d before old → Settling → Settles d before command) →
      CountsCalls old command new answer
  question_counts settling settles = record {
    fresh = asked.fresh;
    due = λ d before left so. asked.due (settling d before left so);
    none = λ d before left not. asked.none (λ settling. not (settles d before left settling));
  }

-- ---- the snapshot that is remembered

-- its user is fresh
pub fresh_remembered : (old : Workbench) (user : ℕ) (values : Settled) (new : Workbench) → IsRemembered old values new → user < length old.beliefs →
    values.worldview ≡ beliefs_in old user → IsCurrent old.network old.store values → IsFresh new user
fresh_remembered old user values new remembered there worldview current =
    subst (λ (bench : Workbench). IsFresh bench user) (sym {A = Workbench} remembered.rest) (record {
      exists = there;
      snapshot = first;
      has = first_there new.snapshots remembered.latest.earlier (beliefs_in old user) first remembered.latest.latest worldview;
      current = current;
    })
  where
    first : Snapshot
    first = record { values = values; is_current = true }

-- ---- a settling of the user

-- it made none where a user is fresh, if it makes none from current values
pub calls_none_if_fresh : (old : Workbench) (user calls : ℕ) → user < length old.beliefs →
    ((snapshot : Snapshot) → snapshot_in old.snapshots (beliefs_in old user) ≡ Some snapshot → IsCurrent old.network old.store snapshot.values →
    calls ≡ 0) → CallsNoneIfFresh old user calls
calls_none_if_fresh old user calls there none other is same =
    let own = fresh_alike old user other there same is in
    none own.snapshot own.has own.current

-- a user who is fresh has nothing due
pub due_fresh : (old : Workbench) (user : ℕ) → IsFresh old user → old.calls ≡ 0 → CallsDueFor old user old
due_fresh old user is uncounted = record {
  anew = λ none. absurd (none-some is.snapshot (sym none ∙ starts));
  further = λ snapshot has. (
    replicate (length old.network.attached) false,
    record {
      many = length-replicate (length old.network.attached) false;
      are = λ n. (
        λ flag. absurd (both_ways (is_set (replicate (length old.network.attached) false) n) (get_or-replicate_same (length old.network.attached) n) flag),
        λ due. absurd (none_due old.network old.store w snapshot.values (worldview snapshot has)
            (subst (λ (s : Snapshot). IsCurrent old.network old.store s.values) (sym (own snapshot has)) is.current) n due),
      );
    },
    record {
      least =
          let none = no_flags (replicate (length old.network.attached) false)
          (λ n flag. both_ways (is_set (replicate (length old.network.attached) false) n) (get_or-replicate_same (length old.network.attached) n) flag) in
          omega (arith, none);
      most = omega (arith, uncounted);
    },
  );
} where
  w : Premises
  w = beliefs_in old user

  starts : start_for old.snapshots w ≡ Some is.snapshot
  starts = starts_there old.snapshots w is.snapshot is.has

  own : (snapshot : Snapshot) → start_for old.snapshots w ≡ Some snapshot → snapshot ≡ is.snapshot
  own snapshot has = same_Some snapshot is.snapshot (sym has ∙ starts)

  worldview : (snapshot : Snapshot) → start_for old.snapshots w ≡ Some snapshot → snapshot.values.worldview ≡ w
  worldview snapshot has = ap (λ (s : Snapshot). s.values.worldview) (own snapshot has) ∙ its_worldview old.snapshots w is.snapshot is.has

  -- no flag of `count` flags is set
  get_or-replicate_same : (count n : ℕ) → get_or (replicate count false) n false ≡ false
  get_or-replicate_same zero n = refl
  get_or-replicate_same (suc count) zero = refl
  get_or-replicate_same (suc count) (suc n) = get_or-replicate_same count n

-- ---- how a question ended

-- with what is known to a user who is fresh
pub asked_known : (old : Workbench) (user : ℕ) (Settling : Type 0) (answer : Reply) → IsFresh old user → old.calls ≡ 0 →
    IsAsked old user Settling old answer
asked_known old user Settling answer fresh none = record {
  becomes = λ so. inr fresh;
  stays = λ is. is;
  fresh = calls_none old user old.calls none;
  due = λ so. inr (due_fresh old user fresh none);
  none = λ not. none;
}

-- ---- what a user knows

-- a user is fresh if the snapshot of what the user believes is known to be current
pub known_fresh : (bench : Workbench) (user : ℕ) (snapshot : Snapshot) → user < length bench.beliefs →
    snapshot_in bench.snapshots (beliefs_in bench user) ≡ Some snapshot → StoreFits bench → snapshot.is_current ≡ true → IsFresh bench user
known_fresh bench user snapshot there has fits known = record {
  exists = there;
  snapshot = snapshot;
  has = has;
  current = (its_fit bench.network bench.store bench.snapshots (beliefs_in bench user) snapshot fits.snapshots has).current known;
}

-- and a declared cell has its value there
pub known_value : (bench : Workbench) (user cell : ℕ) (snapshot : Snapshot) (info : Info) →
    snapshot_in bench.snapshots (beliefs_in bench user) ≡ Some snapshot → StoreFits bench → snapshot.is_current ≡ true →
    cell < length bench.network.declared.cells → info ≡ info_at snapshot.values.infos cell →
    info ≡ value_in bench.network bench.store (beliefs_in bench user) cell
known_value bench user cell snapshot info has fits known here is =
    let its = its_fit bench.network bench.store bench.snapshots (beliefs_in bench user) snapshot fits.snapshots has in
    is
    ∙ sym (said_at bench.network snapshot.values cell (omega (arith, here, its.declared)))
    ∙ (its.current known).said cell
    ∙ ap (λ (w : Premises). value_in bench.network bench.store w cell) (its_worldview bench.snapshots (beliefs_in bench user) snapshot has)
