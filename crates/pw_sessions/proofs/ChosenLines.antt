-- A choice is carried out: what it leaves, and its reply, are those of its line from scratch.
use Rattle.std.proofs.Common.{◌≡◌, ◌<◌, ℕ, eqb, Bool, true, false, List, [], ◌∷◌, ◌++◌, All, Contains, length, set, Option, Some, None, refl, sym, ap, ◌∙◌, subst, inl, inr, arith}
use Rattle.std.specs.Prelude.{◌⊎◌, if◌then◌else◌, slice_index_or}
use Rattle.std.specs.FinSet.{empty}
use Rattle.std.proofs.lemmas.Bool.{eqb-true}
use Rattle.std.proofs.lemmas.List.{length-set}
use Rattle.std.proofs.lemmas.List.Elements.{All-contains, All-weaker, Contains-append_right}
use Rattle.pw_premises.specs.Premises.{Premises, most_premises}
use Rattle.pw_cells.specs.Cells.{Store}
use Rattle.pw_decl.specs.Declaration.{Declared}
use Rattle.pw_decl.specs.WellDeclared.{IsWellDeclared}
use Rattle.pw_network.specs.Network.{IsWellNetwork, Network}
use Rattle.pw_settle.proofs.Membership.{contains_first}
use Rattle.pw_reasons.specs.declared.groups.Groups.{Groups}
use Rattle.pw_reasons.specs.Choice.{IsFirstConsistent}
use Rattle.pw_reasons.specs.Combinations.{combinations_of, groups_of, worldview_of}
use Rattle.pw_sessions.proofs.TakenPremises.{taken_from}
use Rattle.pw_sessions.specs.declared.command.Command.TheVariants as commands
use Rattle.pw_sessions.specs.declared.command.Command.{Command}
use Rattle.pw_sessions.specs.Reply.{Reply}
use Rattle.pw_sessions.specs.Reply as reply
use Rattle.pw_sessions.specs.declared.reply.Refusal.TheVariants as refusal
use Rattle.pw_sessions.specs.Beliefs.{after_choice, beliefs_at}
use Rattle.pw_sessions.specs.Carrying.{ShowsNoChange}
use Rattle.pw_sessions.specs.Choosing.{chosen_in}
use Rattle.pw_sessions.specs.Entries.{entries_before}
use Rattle.pw_sessions.specs.Freshness.{IsFresh, MayEndFreshness}
use Rattle.pw_sessions.specs.Reply.{LineReading, Refused, Says}
use Rattle.pw_sessions.specs.inside.Steps.{AllContradict, AreOfPremises, IsChosen, IsFirstChoice, OnlyKeepsMore, believing}
use Rattle.pw_sessions.specs.Workbench.{Workbench, IsCarriedOut, IsLeftBy, StoreFits, beliefs_in}
use Rattle.pw_sessions.proofs.EntriesRise.{rise_before}
use Rattle.pw_sessions.proofs.FreshUsers.{fresh_believed, fresh_keeping}
use Rattle.pw_sessions.proofs.NamedChoices.{chosen_named, none_named}
use Rattle.pw_sessions.proofs.UnchangedReplies.{no_change_keeping}
use Rattle.pw_sessions.proofs.WorkbenchLemmas.{left_believed, left_keeping, left_same}

-- ---- premises of groups

-- a set can contain declared premises
pub groups_fit : (d : Declared) → IsWellDeclared d → (groups : List (List ℕ)) → All (All (λ premise. premise < length d.premises)) groups → AreOfPremises groups
groups_fit d well groups =
    All-weaker (All (λ premise. premise < length d.premises)) (All (λ premise. premise < most_premises))
    (λ group. All-weaker (λ premise. premise < length d.premises) (λ premise. premise < most_premises)
    (λ premise below. omega (arith, below, well.premises)) group) groups

-- so it can the premises of a combination
pub taken_fit : (network : Network) (store : Store) (beliefs : Premises) (groups : List (List ℕ)) (taken : List ℕ) → AreOfPremises groups →
    IsFirstConsistent network store beliefs groups taken → All (λ premise. premise < most_premises) taken
taken_fit network store beliefs groups taken fit first =
    All-contains (All (λ premise. premise < most_premises)) (combinations_of groups) taken (taken_from (λ premise. premise < most_premises) groups fit)
    (subst (λ (l : List (List ℕ)). Contains l taken) (sym first.order)
    (Contains-append_right first.earlier (taken ∷ first.later) taken (contains_first taken first.later)))

-- ---- the step

-- a choice that found premises, which the user then believes
pub chosen_some : (old found new : Workbench) (user : ℕ) (groups : List (List ℕ)) (taken : List ℕ) (believed worldview : Premises) →
    OnlyKeepsMore old user found → found.snapshots ≡ old.snapshots → found.calls ≡ old.calls → IsFirstChoice old user groups taken →
    believed ≡ beliefs_in found user → worldview ≡ worldview_of believed groups taken → new ≡ believing found user worldview →
    IsChosen old user groups new (reply.Chose (Some taken))
chosen_some old found new user groups taken believed worldview grows snapshots calls first its made became =
    let own : believed ≡ beliefs_in old user = its ∙ ap (λ (bs : List Premises). slice_index_or bs user empty) grows.beliefs in
    let same : worldview ≡ worldview_of (beliefs_in old user) groups taken = made ∙ ap (λ (b : Premises). worldview_of b groups taken) own in
    record {
      found = found;
      grows = grows;
      snapshots = snapshots;
      calls = calls;
      answers = inl (taken, refl, first, became ∙ ap (λ (b : Premises). believing found user b) same);
    }

-- ---- the line

module _ (d : Declared) (well : IsWellDeclared d) (readings : List LineReading) (old : Workbench) (left : IsLeftBy d readings old) (user : ℕ) (groups : Groups)
    (there : user < length d.users) where
  abbrev chooses : LineReading
  chooses = Says (commands.Choose user groups)

  abbrev chosen_by : Premises → Option (List ℕ)
  chosen_by beliefs = chosen_in d (entries_before readings) beliefs (groups_of groups)

  -- what is chosen, and that nothing is
  some_chosen : (taken : List ℕ) → IsFirstChoice old user (groups_of groups) taken → chosen_by (beliefs_in old user) ≡ Some taken
  some_chosen taken first =
      chosen_named d (entries_before readings) old.network old.store well left.fit (rise_before readings) left.network left.told
      (beliefs_in old user) (groups_of groups) taken first

  none_chosen : AllContradict old user (groups_of groups) → chosen_by (beliefs_in old user) ≡ None
  none_chosen all =
      none_named d (entries_before readings) old.network old.store well left.fit (rise_before readings) left.network left.told
      (beliefs_in old user) (groups_of groups) all

  -- the reply from scratch
  replies : (found : Option (List ℕ)) (answer : Reply) → chosen_by (beliefs_in old user) ≡ found → answer ≡ reply.Chose found →
      ◌≡◌ {A = Option Reply} (Some (reply.Chose (chosen_by (beliefs_at d user readings)))) (Some answer)
  replies found answer chosen is =
      ap (λ (b : Premises). Some (reply.Chose (chosen_by b))) (sym (left.beliefs user there))
      ∙ ap (λ (o : Option (List ℕ)). Some (reply.Chose o)) chosen ∙ ap (λ (r : Reply). Some r) (sym is)

  -- what a user believes stays where nothing is chosen
  unchanged : (b : Bool) (beliefs : Premises) (found : Option (List ℕ)) → (b ≡ true → found ≡ None) →
      (if b then after_choice beliefs (groups_of groups) found else beliefs) ≡ beliefs
  unchanged true beliefs found none = ap (after_choice beliefs (groups_of groups)) (none refl)
  unchanged false beliefs found none = refl

  -- with premises that were chosen
  some_left : (found new : Workbench) (taken : List ℕ) → OnlyKeepsMore old user found → IsFirstChoice old user (groups_of groups) taken →
      new ≡ believing found user (worldview_of (beliefs_in old user) (groups_of groups) taken) → IsLeftBy d (readings ++ chooses ∷ []) new
  some_left found new taken grows first became =
      let after : Premises → Premises = λ b. after_choice b (groups_of groups) (chosen_by b) in
      let same : after (beliefs_in found user) ≡ worldview_of (beliefs_in old user) (groups_of groups) taken =
      ap (λ (bs : List Premises). after (slice_index_or bs user empty)) grows.beliefs
      ∙ ap (after_choice (beliefs_in old user) (groups_of groups)) (some_chosen taken first) in
      subst (IsLeftBy d (readings ++ chooses ∷ [])) (sym (became ∙ ap (λ (b : Premises). believing found user b) (sym same)))
      (left_believed d well.kinds readings chooses found user after (left_keeping d well.kinds readings old user found grows left) there
      (λ n. refl) (λ u beliefs. refl))

  -- with none
  none_left : (found : Workbench) → OnlyKeepsMore old user found → AllContradict old user (groups_of groups) → IsLeftBy d (readings ++ chooses ∷ []) found
  none_left found grows all =
      left_same d well.kinds readings chooses found (left_keeping d well.kinds readings old user found grows left) (λ n. refl)
      (λ u below. unchanged (eqb user u) (beliefs_at d u readings) (chosen_by (beliefs_at d u readings))
      (λ own. let same : user ≡ u = eqb-true user u own in
      ap (λ (n : ℕ). chosen_by (beliefs_at d n readings)) (sym same) ∙ ap chosen_by (sym (left.beliefs user there)) ∙ none_chosen all))

  -- a choice that was answered, or for which memory was refused
  pub carried_choose : (new : Workbench) (answer : Reply) → IsChosen old user (groups_of groups) new answer →
      IsCarriedOut d readings (commands.Choose user groups) new answer
  carried_choose new answer chosen = elim chosen.answers [
    | inl (taken, is, first, after) ↦
        record {
          reading = chooses;
          became = inl refl;
          left = some_left chosen.found new taken chosen.grows first after;
          replied = replies (Some taken) answer (some_chosen taken first) is;
        }
    | inr (inl (is, all, after)) ↦
        record {
          reading = chooses;
          became = inl refl;
          left = subst (IsLeftBy d (readings ++ chooses ∷ [])) (sym after) (none_left chosen.found chosen.grows all);
          replied = replies None answer (none_chosen all) is;
        }
    | inr (inr (is, after)) ↦
        record {
          reading = Refused refusal.Memory;
          became = inr (refl, tt);
          left = subst (IsLeftBy d (readings ++ Refused refusal.Memory ∷ [])) (sym after)
              (left_same d well.kinds readings (Refused refusal.Memory) chosen.found
              (left_keeping d well.kinds readings old user chosen.found chosen.grows left) (λ n. refl) (λ u below. refl));
          replied = ap (λ (r : Reply). Some r) (sym is);
        }
  ]

-- ---- fresh users, calls, and what a refusal leaves

module _ (old : Workbench) (user : ℕ) (groups : List (List ℕ)) (new : Workbench) (answer : Reply) (chosen : IsChosen old user groups new answer) where
  -- no user's freshness ends, but by what the user then believes
  pub chosen_fresh : (command : Command) → StoreFits old → (other : ℕ) → IsFresh old other → MayEndFreshness old other command new answer ⊎ IsFresh new other
  chosen_fresh command fits other is =
      let found : Workbench = chosen.found in
      let still : IsFresh found other = fresh_keeping old user found fits chosen.grows chosen.snapshots other is in
      elim chosen.answers [
        | inl (taken, told, first, after) ↦
            let beliefs : List Premises = set found.beliefs user (worldview_of (beliefs_in old user) groups taken) in
            elim (fresh_believed found beliefs (length-set found.beliefs user (worldview_of (beliefs_in old user) groups taken)) other still) [
              | inl differs ↦
                  inl (inl (λ same. differs (ap (λ (b : Workbench). beliefs_in b other) (sym after) ∙ same
                  ∙ ap (λ (bs : List Premises). slice_index_or bs other empty) (sym chosen.grows.beliefs))))
              | inr fresh ↦ inr (subst (λ (b : Workbench). IsFresh b other) (sym after) fresh)
            ]
        | inr (inl (told, all, after)) ↦ inr (subst (λ (b : Workbench). IsFresh b other) (sym after) still)
        | inr (inr (told, after)) ↦ inr (subst (λ (b : Workbench). IsFresh b other) (sym after) still)
      ]

  -- no calls are counted
  pub chosen_calls : new.calls ≡ old.calls
  chosen_calls = elim chosen.answers [
    | inl (taken, told, first, after) ↦ ap (λ (b : Workbench). b.calls) after ∙ chosen.calls
    | inr (inl (told, all, after)) ↦ ap (λ (b : Workbench). b.calls) after ∙ chosen.calls
    | inr (inr (told, after)) ↦ ap (λ (b : Workbench). b.calls) after ∙ chosen.calls
  ]

  -- a refusal changes nothing that a reply shows
  pub chosen_refused : IsWellNetwork old.network → answer ≡ reply.Refused refusal.Memory → ShowsNoChange old new
  chosen_refused network refused = elim chosen.answers [
    | inl (taken, told, first, after) ↦ absurd (cc (told, refused))
    | inr (inl (told, all, after)) ↦ absurd (cc (told, refused))
    | inr (inr (told, after)) ↦ subst (ShowsNoChange old) (sym after) (no_change_keeping old user chosen.found network chosen.grows)
  ]
