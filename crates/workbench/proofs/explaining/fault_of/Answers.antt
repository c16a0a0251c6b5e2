use Rattle.std.proofs.Common.{IfSome, IfNone, IfOk, IfErr, Option, Result, Ok, Err, sym, subst}
use Rattle.std.specs.Result.{result_err}
use Rattle.pw_decl.specs.declared.decl_fault.DeclFault.{DeclFault}
use Rattle.pw_decl.specs.Faults.{IsReported, SpellsDeclaration}
use Rattle.pw_decl.specs.inside.Fields.{declared}
use Rattle.pw_procs.specs.Registry.{procedures_in}
use Rattle.workbench.specs.declared.fault.Fault.TheVariants as faults
use Rattle.workbench.specs.Ending.{IsDeclaration, IsToldOfText}
use Rattle.workbench.proofs.explaining.fault_of.Goals as goal

-- where there is no error, what holds of the value holds of what it stands for
none_failed : {T E D : Type 0} (P : D → Type 0) (of : T → D) (r : Result T E)
    → IfOk r (λ t. P (of t)) → IfNone (result_err r) ((d : D) × P d)
none_failed P of (Ok t) held = (of t, held)
none_failed P of (Err _) _ = tt

-- what holds of an error holds of it where there is one
some_failed : {T E : Type 0} (P : E → Type 0) (r : Result T E) → IfErr r P → IfSome (result_err r) P
some_failed P (Ok _) _ = tt
some_failed P (Err _) held = held

-- src/explaining.rt:90:1
pub returns-clause-none : goal.returns-clause-none
returns-clause-none g c =
    subst (λ (e : Option DeclFault). IfNone e (IsDeclaration (procedures_in c.args.registry.now) c.args.text.now))
    (sym c.err.ensures.value)
    (none_failed (SpellsDeclaration (procedures_in c.args.registry.now) c.args.text.now) declared c.read_declaration.result c.read_declaration.ensures.ok)

-- src/explaining.rt:90:1
pub returns-clause-some : goal.returns-clause-some
returns-clause-some g c =
    subst (λ (e : Option DeclFault). IfSome e (λ fault. IsToldOfText (procedures_in c.args.registry.now) c.args.text.now (faults.Declaration fault)))
    (sym c.err.ensures.value)
    (some_failed (IsReported (procedures_in c.args.registry.now) c.args.text.now) c.read_declaration.result c.read_declaration.ensures.err)
