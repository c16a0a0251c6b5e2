-- The effect of the steps of a line on fresh users.
use Rattle.std.proofs.Common.{◌≡◌, ◌<◌, ℕ, true, List, ◌++◌, All, length, map, arith, refl, sym, ap, ◌∙◌, subst, inl, inr}
use Rattle.std.specs.Prelude.{◌⊎◌}
use Rattle.pw_info.specs.declared.kind.Kind.{Kind}
use Rattle.pw_info.specs.Information.{kind_of}
use Rattle.pw_premises.specs.Premises.{Premises}
use Rattle.pw_facts.specs.declared.fact.Fact.{Fact}
use Rattle.pw_procs.specs.declared.arguments.Arguments.{Arguments}
use Rattle.pw_procs.specs.Registry.{cells_of}
use Rattle.pw_cells.specs.Cells.{Cell, kind_in_store, kinds_of}
use Rattle.pw_decl.specs.declared.step.Callable.{Callable}
use Rattle.pw_decl.specs.Declaration.{Declared}
use Rattle.pw_decl.specs.Expansion.{inner_kinds_of}
use Rattle.pw_network.specs.Network.{Attached, IsWellNetwork}
use Rattle.pw_settle.specs.Values.{kinds_in}
use Rattle.pw_settle.specs.Growth.{IsWider}
use Rattle.pw_sessions.specs.declared.command.Command.{Command}
use Rattle.pw_sessions.specs.declared.command.Command.TheVariants as commands
use Rattle.pw_sessions.specs.Values.{IsWritten, visible_in}
use Rattle.pw_sessions.specs.Entries.{entries_before}
use Rattle.pw_sessions.specs.Freshness.{IsFresh, MayEndFreshness, Settles}
use Rattle.pw_sessions.specs.Reply.{LineReading, Says}
use Rattle.pw_sessions.specs.Command.{IsDeclared}
use Rattle.pw_sessions.specs.Reply as reply
use Rattle.pw_sessions.specs.inside.Steps.{CanAnswer, CanCarryOut, IsAttached, is_written}
use Rattle.pw_sessions.specs.Workbench.{IsLeftBy, IsSetUpFor, StoreFits, Workbench, beliefs_in}
use Rattle.pw_sessions.proofs.AskedCells.{well_left}
use Rattle.pw_sessions.proofs.EntriesRise.{rise_before}
use Rattle.pw_sessions.proofs.FreshUsers.{fresh_attached}
use Rattle.pw_settle.proofs.StoreCells.{kinds_added}
use Rattle.pw_settle.proofs.WiderNetworks.{kinds_with_attached, widened_under}
use Rattle.pw_sessions.proofs.WorkbenchLemmas.{store_kind}
use Rattle.pw_sessions.proofs.WrittenCells.{is_written-from, written_is}

-- a declared user can ask
pub can_answer : (bench : Workbench) {line : ℕ} {command : Command} → CanCarryOut bench line command → (user : ℕ) → user < length bench.network.declared.users →
    CanAnswer bench user
can_answer bench can user there = record {
  fits = can.set_up.fits;
  exists = omega (arith, there, can.set_up.users);
}

-- a told fact is of the kind of its cell
pub kind_of_told : (bench : Workbench) → IsWellNetwork bench.network → IsSetUpFor bench.network.declared bench → (user cell : ℕ) (fact : Fact) →
    IsDeclared bench.network.declared (Says (commands.Tell user cell fact)) → kind_of fact.info ≡ kind_in_store bench.store cell
kind_of_told bench well set_up user cell fact named =
    named.1.1 ∙ sym (store_kind bench.network.declared well.declared.kinds bench cell set_up named.1.0)

-- ---- an ask

module _ (bench : Workbench) (network : IsWellNetwork bench.network) (user cell : ℕ)
    (named : IsDeclared bench.network.declared (Says (commands.Ask user cell))) where
  -- it settles if an instance writes the cell
  pub asks_written : (d : Declared) (before : List LineReading) → IsLeftBy d before bench → Settles d before (commands.Ask user cell) →
      is_written bench.network.attached cell (beliefs_in bench user) ≡ true
  asks_written d before left settles =
      let names = subst (λ (e : Declared). IsDeclared e (Says (commands.Ask user cell))) left.set_up.declared named in
      is_written-from d (entries_before before) bench.network (beliefs_in bench user) cell (well_left d before bench network left) left.fit (rise_before before)
      left.network names.1 (subst (λ (w : Premises). IsWritten d (visible_in (entries_before before) w) cell) (sym (left.beliefs user names.0)) settles)

  pub written_asks : (d : Declared) (before : List LineReading) → IsLeftBy d before bench →
      is_written bench.network.attached cell (beliefs_in bench user) ≡ true → Settles d before (commands.Ask user cell)
  written_asks d before left written =
      let names = subst (λ (e : Declared). IsDeclared e (Says (commands.Ask user cell))) left.set_up.declared named in
      subst (λ (w : Premises). IsWritten d (visible_in (entries_before before) w) cell) (left.beliefs user names.0)
      (written_is d (entries_before before) bench.network (beliefs_in bench user) cell (well_left d before bench network left) left.fit (rise_before before)
      left.network names.1 written)

-- ---- an attachment

-- a user who was fresh still is, or sees it
pub attached_seen : (old new : Workbench) (line user : ℕ) (callable : Callable) (on : Arguments) (support : Premises) → IsWellNetwork old.network →
    IsWellNetwork new.network → StoreFits old → IsAttached old line callable (cells_of on) support new → (other : ℕ) → IsFresh old other →
    MayEndFreshness old other (commands.Attach user callable on support) new reply.Done ⊎ IsFresh new other
attached_seen old new line user callable on support well also fits attached other is =
    elim (fresh_attached old new line callable (cells_of on) support well also fits kinds widened.0 widened.1 attached other is) [
      | inl seen ↦ inl (inr (inr (refl, seen)))
      | inr fresh ↦ inr fresh
    ]
  where
    kinds : kinds_of new.store ≡ kinds_in new.network
    kinds =
        ap (λ (cs : List Cell). map (λ (c : Cell). c.kind) cs) attached.cells_are
        ∙ kinds_added old.store.cells (inner_kinds_of old.network.declared.compounds callable)
        ∙ ap (λ (ks : List Kind). ks ++ inner_kinds_of old.network.declared.compounds callable) fits.sound.kinds
        ∙ sym (kinds_with_attached old.network line callable (cells_of on) support) ∙ ap kinds_in (sym attached.network)

    widened : (w : IsWider old.network new.network) × All (λ (a : Attached). a.support ≡ support) w.more
    widened = widened_under old.network new.network line callable (cells_of on) support attached.network
