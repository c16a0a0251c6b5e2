use Rattle.std.proofs.Common.{◌≡◌, [], List, ℕ, Option, Some, IfSome, refl, sym, subst}
use Rattle.pw_procs.specs.Registry.{procedures_in}
use Rattle.pw_procs.specs.Procedure.{Procedure}
use Rattle.pw_decl.specs.Faults.{IsReported}
use Rattle.pw_explain.specs.Unread.{IsLeftOf, Left}
use Rattle.workbench.specs.FaultBlocks.{AreBlocks, ExplainsPart, text_left}
use Rattle.workbench.specs.FaultBlocks.AreBlocks.{NoBlock}
use Rattle.workbench.specs.FaultBlocks.ExplainsPart.{AsFar}
use Rattle.workbench.proofs.explaining.add_blocks.Goals as goal

-- the whole text is left
all_left : List ℕ → Left
all_left text = record { front = []; numbers = []; rest = text; passed = 0 }

all_is_left : (text : List ℕ) → IsLeftOf text (all_left text)
unfolding all_left
all_is_left text = record { lines = []; are = refl; have_no_end = tt; front = refl; rest = refl }

no_blocks : (procedures : List Procedure) (text : List ℕ) → AreBlocks procedures text [] (all_left text)
unfolding all_left
no_blocks procedures text = NoBlock (all_is_left text) refl

pub returns-in_err-unread-clause-part : goal.returns-in_err-unread-clause-part
returns-in_err-unread-clause-part g c = subst (λ (blocks : List ℕ). ExplainsPart (procedures_in c.args.registry.now) c.args.text.now blocks)
    (sym c.requires.none) (AsFar (no_blocks (procedures_in c.args.registry.now) c.args.text.now))

pub loop-unread-init : goal.loop-unread-init
loop-unread-init g c = (
  subst (λ (blocks : List ℕ). AreBlocks (procedures_in c.args.registry.now) c.args.text.now blocks c.in_ok-unread.unread)
      (sym c.requires.none) (NoBlock c.in_ok-unread.ensures.left c.in_ok-unread.ensures.text),
  subst (λ (text : List ℕ). IsReported (procedures_in c.args.registry.now) text c.args.first)
      (sym c.in_ok-unread.ensures.text) c.requires.first,
)

-- what holds of what is there
held_of : {X : Type 0} (P : X → Type 0) (o : Option X) (x : X) → o ≡ Some x → IfSome o P → P x
held_of {X} P o x is held = subst (λ (it : Option X). IfSome it P) is held

pub returns-in_err-next-clause-part : goal.returns-in_err-next-clause-part
returns-in_err-next-clause-part g c = c.pass_fault.ensures.part c.args.text.now c.loop-unread.invariant.0

pub loop-unread-preserved : goal.loop-unread-preserved
loop-unread-preserved g c = (
  held_of (λ fault. AreBlocks (procedures_in c.args.registry.now) c.args.text.now c.pass_fault.new.blocks.items c.pass_fault.new.unread)
      c.in_ok-next.field-0 c.in-Some.next c.in-Some.is (c.in_ok-next.ensures.blocks c.args.text.now c.loop-unread.invariant.0),
  held_of (λ fault. IsReported (procedures_in c.args.registry.now) (text_left c.pass_fault.new.unread) fault)
      c.in_ok-next.field-0 c.in-Some.next c.in-Some.is c.in_ok-next.ensures.next,
)
