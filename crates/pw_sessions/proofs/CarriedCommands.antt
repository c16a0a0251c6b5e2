-- A command is carried out: what it leaves, and its reply, are those of its line from scratch.
use Rattle.std.proofs.Common.{◌≡◌, ℕ, ◌+◌, ◌<◌, true, List, [], ◌∷◌, ◌++◌, length, set, Option, Some, refl, sym, ap, ◌∙◌, subst, inl, inr}
use Rattle.std.specs.FinSet.{union, difference}
use Rattle.pw_info.specs.declared.info.Info.{Info}
use Rattle.pw_premises.specs.Premises.{Premises}
use Rattle.pw_facts.specs.declared.fact.Fact.{Fact}
use Rattle.pw_procs.specs.declared.arguments.Arguments.{Arguments}
use Rattle.pw_procs.specs.Registry.{cells_of}
use Rattle.pw_decl.specs.declared.step.Callable.{Callable}
use Rattle.pw_decl.specs.Declaration.{Declared}
use Rattle.pw_decl.specs.WellDeclared.{IsWellDeclared}
use Rattle.pw_network.specs.Network.{IsWellNetwork}
use Rattle.pw_settle.specs.Values as settled
use Rattle.pw_reasons.specs.Reason.{reason_of}
use Rattle.pw_sessions.specs.declared.command.Command.{Command}
use Rattle.pw_sessions.specs.declared.command.Command.TheVariants as commands
use Rattle.pw_sessions.specs.Reply.{Reply}
use Rattle.pw_sessions.specs.Reply as reply
use Rattle.pw_sessions.specs.declared.reply.Refusal.TheVariants as refusal
use Rattle.pw_sessions.specs.Answer.{conflicts_of}
use Rattle.pw_sessions.specs.Values.{IsWritten, cell_value, visible_in}
use Rattle.pw_sessions.specs.Beliefs.{beliefs_at}
use Rattle.pw_sessions.specs.Entries.{entries_before}
use Rattle.pw_sessions.specs.Reply.{LineReading, Refused, Says}
use Rattle.pw_sessions.specs.Command.{IsDeclared}
use Rattle.pw_sessions.specs.inside.Steps.{AnswersAsk, AnswersConflicts, AnswersWhy, IsAsBefore, IsAttached, IsTold, OnlyKeepsMore, is_written}
use Rattle.pw_sessions.specs.Workbench.{Workbench, IsLeftBy, IsCarriedOut, beliefs_in}
use Rattle.pw_sessions.proofs.EntriesRise.{rise_before}
use Rattle.pw_sessions.proofs.NamedConflicts.{conflicts_named}
use Rattle.pw_sessions.proofs.NamedValues.{value_is}
use Rattle.pw_sessions.proofs.WorkbenchLemmas.{left_as_before, left_attached, left_believed, left_keeping, left_same, left_told}
use Rattle.pw_sessions.proofs.WrittenCells.{written_is}

module _ (d : Declared) (well : IsWellDeclared d) (readings : List LineReading) (old : Workbench) (left : IsLeftBy d readings old) where
  -- what was answered stays so if only more is kept
  pub carried_keeping : (user : ℕ) (new : Workbench) (command : Command) (answer : Reply) → OnlyKeepsMore old user new →
      IsCarriedOut d readings command old answer → IsCarriedOut d readings command new answer
  carried_keeping user new command answer keeps carried =
      record {
        reading = carried.reading;
        became = carried.became;
        left = left_keeping d well.kinds (readings ++ carried.reading ∷ []) old user new keeps carried.left;
        replied = carried.replied;
      }

  -- ---- a tell

  -- a fact that the store took
  pub carried_tell : (new : Workbench) (user cell : ℕ) (fact : Fact) → IsWellNetwork old.network →
      IsDeclared d (Says (commands.Tell user cell fact)) → IsTold old cell fact new →
      IsCarriedOut d readings (commands.Tell user cell fact) new reply.Done
  carried_tell new user cell fact network named told =
      record {
        reading = Says (commands.Tell user cell fact);
        became = inl refl;
        left = left_told d well.kinds readings old new user cell fact network left named.1 told;
        replied = refl;
      }

  -- a fact for which memory was refused
  pub refused_tell : (user cell : ℕ) (fact : Fact) → IsCarriedOut d readings (commands.Tell user cell fact) old (reply.Refused refusal.Memory)
  refused_tell user cell fact =
      record {
        reading = Refused refusal.Memory;
        became = inr (refl, tt);
        left = left_same d well.kinds readings (Refused refusal.Memory) old left (λ n. refl) (λ u below. refl);
        replied = refl;
      }

  -- ---- an attach

  -- a callable that was attached
  pub carried_attach : (new : Workbench) (user line : ℕ) (callable : Callable) (on : Arguments) (support : Premises) →
      IsWellNetwork old.network → IsWellNetwork new.network → IsDeclared d (Says (commands.Attach user callable on support)) → length readings + 1 ≡ line → IsAttached old line callable (cells_of on) support new →
      IsCarriedOut d readings (commands.Attach user callable on support) new reply.Done
  carried_attach new user line callable on support network wider named at attached =
      record {
        reading = Says (commands.Attach user callable on support);
        became = inl refl;
        left = left_attached d well.kinds readings old new user callable on support network wider left named
            (subst (λ n. IsAttached old n callable (cells_of on) support new) (sym at) attached);
        replied = refl;
      }

  -- a callable for which memory was refused
  pub refused_attach : (new : Workbench) (user : ℕ) (callable : Callable) (on : Arguments) (support : Premises) → IsAsBefore old new →
      IsCarriedOut d readings (commands.Attach user callable on support) new (reply.Refused refusal.Memory)
  refused_attach new user callable on support still =
      record {
        reading = Refused refusal.Memory;
        became = inr (refl, tt);
        left = left_as_before d well.kinds (readings ++ Refused refusal.Memory ∷ []) old new still
            (left_same d well.kinds readings (Refused refusal.Memory) old left (λ n. refl) (λ u below. refl));
        replied = refl;
      }

  -- ---- a change of beliefs

  -- premises that were joined
  pub carried_believe : (user : ℕ) (premises : Premises) → user < length d.users →
      IsCarriedOut d readings (commands.Believe user premises) (record old { beliefs = set old.beliefs user (union (beliefs_in old user) premises) }) reply.Done
  carried_believe user premises there =
      record {
        reading = Says (commands.Believe user premises);
        became = inl refl;
        left = left_believed d well.kinds readings (Says (commands.Believe user premises)) old user (λ beliefs. union beliefs premises) left there
            (λ n. refl) (λ u beliefs. refl);
        replied = refl;
      }

  -- premises that were taken out
  pub carried_doubt : (user : ℕ) (premises : Premises) → user < length d.users →
      IsCarriedOut d readings (commands.Doubt user premises) (record old { beliefs = set old.beliefs user (difference (beliefs_in old user) premises) }) reply.Done
  carried_doubt user premises there =
      record {
        reading = Says (commands.Doubt user premises);
        became = inl refl;
        left = left_believed d well.kinds readings (Says (commands.Doubt user premises)) old user (λ beliefs. difference beliefs premises) left there
            (λ n. refl) (λ u beliefs. refl);
        replied = refl;
      }

  -- ---- a question for beliefs

  -- what the user believes
  pub carried_beliefs : (user : ℕ) (premises : Premises) → user < length d.users → premises ≡ beliefs_in old user →
      IsCarriedOut d readings (commands.Beliefs user) old (reply.Believes premises)
  carried_beliefs user premises there is =
      record {
        reading = Says (commands.Beliefs user);
        became = inl refl;
        left = left_same d well.kinds readings (Says (commands.Beliefs user)) old left (λ n. refl) (λ u below. refl);
        replied = ap (λ (p : Premises). Some (reply.Believes p)) (sym (is ∙ left.beliefs user there));
      }

  -- ---- an ask

  -- what settles under what the user believes is what follows from the visible entries
  value_settles : (user cell : ℕ) → user < length d.users → cell < length d.cells →
      settled.value_in old.network old.store (beliefs_in old user) cell ≡ cell_value d (visible_in (entries_before readings) (beliefs_at d user readings)) cell
  value_settles user cell there here =
      value_is d (entries_before readings) old.network old.store (beliefs_in old user) cell well left.fit (rise_before readings) left.network left.told here
      ∙ ap (λ w. cell_value d (visible_in (entries_before readings) w) cell) (left.beliefs user there)

  -- and if an instance writes the cell, so do the visible entries
  entries_write : (user cell : ℕ) → user < length d.users → cell < length d.cells → is_written old.network.attached cell (beliefs_in old user) ≡ true →
      IsWritten d (visible_in (entries_before readings) (beliefs_at d user readings)) cell
  entries_write user cell there here written =
      subst (λ w. IsWritten d (visible_in (entries_before readings) w) cell) (left.beliefs user there)
      (written_is d (entries_before readings) old.network (beliefs_in old user) cell well left.fit (rise_before readings) left.network here written)

  -- an answer that was given, or an ask for which memory was refused
  pub carried_ask : (user cell : ℕ) (answer : Reply) → IsDeclared d (Says (commands.Ask user cell)) → AnswersAsk old user cell answer →
      IsCarriedOut d readings (commands.Ask user cell) old answer
  carried_ask user cell answer named (inl is) =
      record {
        reading = Says (commands.Ask user cell);
        became = inl refl;
        left = left_same d well.kinds readings (Says (commands.Ask user cell)) old left (λ n. refl) (λ u below. refl);
        replied = ap (λ (r : Reply). Some r) (sym (is ∙ ap (λ (i : Info). reply.Value i) (value_settles user cell named.0 named.1)));
      }
  carried_ask user cell answer named (inr refused) =
      record {
        reading = Refused refusal.Memory;
        became = inr (refl, entries_write user cell named.0 named.1 refused.1);
        left = left_same d well.kinds readings (Refused refusal.Memory) old left (λ n. refl) (λ u below. refl);
        replied = ap (λ (r : Reply). Some r) (sym refused.0);
      }

  -- ---- a why

  -- what follows at the cell, for all beliefs
  abbrev by_number : ℕ → Premises → Info
  by_number cell w = settled.value_in old.network old.store w cell

  abbrev by_name : ℕ → Premises → Info
  by_name cell w = cell_value d (visible_in (entries_before readings) w) cell

  -- what settles at the cell is what follows, for all beliefs
  settles_everywhere : (cell : ℕ) → cell < length d.cells → by_number cell ≡ by_name cell
  settles_everywhere cell here = λ i w.
      value_is d (entries_before readings) old.network old.store w cell well left.fit (rise_before readings) left.network left.told here i

  -- an answer that was given, or a why for which memory was refused
  pub carried_why : (user cell : ℕ) (answer : Reply) → IsDeclared d (Says (commands.Why user cell)) → AnswersWhy old user cell answer →
      IsCarriedOut d readings (commands.Why user cell) old answer
  carried_why user cell answer named (inl is) =
      let why : (Premises → Info) → Premises → Option Reply = λ value w. Some (reply.Because (value w) (reason_of value w)) in
      record {
        reading = Says (commands.Why user cell);
        became = inl refl;
        left = left_same d well.kinds readings (Says (commands.Why user cell)) old left (λ n. refl) (λ u below. refl);
        replied = sym (ap (λ (r : Reply). Some r) is ∙ (λ i. why (settles_everywhere cell named.1 i) (left.beliefs user named.0 i)));
      }
  carried_why user cell answer named (inr refused) =
      record {
        reading = Refused refusal.Memory;
        became = inr (refl, tt);
        left = left_same d well.kinds readings (Refused refusal.Memory) old left (λ n. refl) (λ u below. refl);
        replied = ap (λ (r : Reply). Some r) (sym refused);
      }

  -- ---- a question for conflicts

  -- an answer that was given, or a question for which memory was refused
  pub carried_conflicts : (user : ℕ) (answer : Reply) → user < length d.users → AnswersConflicts old user answer →
      IsCarriedOut d readings (commands.Conflicts user) old answer
  carried_conflicts user answer there (inl listed) =
      let named : listed.0 ≡ conflicts_of d (visible_in (entries_before readings) (beliefs_in old user)) =
      conflicts_named d (entries_before readings) old.network old.store (beliefs_in old user) listed.0 well left.fit (rise_before readings)
      left.network left.told listed.2 in
      record {
        reading = Says (commands.Conflicts user);
        became = inl refl;
        left = left_same d well.kinds readings (Says (commands.Conflicts user)) old left (λ n. refl) (λ u below. refl);
        replied = ap (λ (r : Reply). Some r) (sym (listed.1 ∙ ap reply.Listed named
            ∙ ap (λ w. reply.Listed (conflicts_of d (visible_in (entries_before readings) w))) (left.beliefs user there)));
      }
  carried_conflicts user answer there (inr refused) =
      record {
        reading = Refused refusal.Memory;
        became = inr (refl, tt);
        left = left_same d well.kinds readings (Refused refusal.Memory) old left (λ n. refl) (λ u below. refl);
        replied = ap (λ (r : Reply). Some r) (sym refused);
      }
