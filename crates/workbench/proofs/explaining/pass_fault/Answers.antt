use Rattle.std.proofs.Common.{◌≡◌, ◌⊎◌, ◌++◌, ◌∙◌, true, ℕ, List, Option, Some, None, IfSome, IfNone, sym, subst, ap, arith, length, length-append, inl, inr, ◌<◌}
use Rattle.std.proofs.lemmas.List.{nil_from_length}
use Rattle.pw_procs.specs.Registry.{procedures_in}
use Rattle.pw_decl.specs.declared.decl_fault.DeclFault.{DeclFault}
use Rattle.pw_decl.specs.Faults.{IsReported}
use Rattle.pw_explain.specs.Cut.{HasNoLine}
use Rattle.pw_explain.specs.Unread.{DropsLine, IsShorter, Left, WasKept}
use Rattle.workbench.specs.FaultBlocks.{AreBlocks, EndsAt, Explains, ExplainsPart, HasLineAt, text_left}
use Rattle.workbench.specs.FaultBlocks.AreBlocks.{OneMore}
use Rattle.workbench.specs.FaultBlocks.Explains.{ToTheEnd, UpTo}
use Rattle.workbench.specs.FaultBlocks.ExplainsPart.{AndOne, AsFar}
use Rattle.workbench.specs.Ending.{IsDeclaration}
use Rattle.workbench.proofs.explaining.pass_fault.Goals as goal

-- what holds anyway holds of what is there
if_any : {X : Type 0} (P : Type 0) (o : Option X) → P → IfSome o (λ x. P)
if_any P None held = tt
if_any P (Some x) held = held

pub returns-then-eq-clause-part : goal.returns-then-eq-clause-part
returns-then-eq-clause-part g c whole are = AsFar are

-- what follows from what holds where there is nothing
if_none : {X P Q : Type 0} (o : Option X) → IfNone o P → (P → Q) → IfNone o Q
if_none None held then = then held
if_none (Some x) held then = tt

-- a line of which nothing is dropped is not there, or was kept
not_dropped : (number : ℕ) (old new : Left) (a b : List ℕ) → a ≡ new.front ++ new.rest → b ≡ old.front ++ old.rest → length a ≡ length b
    → DropsLine number old new → IsShorter old new → HasNoLine (text_left old) number ⊎ WasKept number old
not_dropped number old new a b a_is b_is same (inr still) shorter = still.1
not_dropped number old new a b a_is b_is same (inl dropped) (inl is) =
    absurd (dropped.some (nil_from_length dropped.part
    (omega (arith, ap length dropped.rest, ap (λ (left : Left). length left.rest) is, length-append dropped.between (dropped.part ++ new.rest), length-append dropped.part new.rest))))
not_dropped number old new a b a_is b_is same (inl dropped) (inr less) = absurd (omega (arith, ap length a_is, ap length b_is, same, less))

shorter_then : (old new : Left) (a b : List ℕ) → a ≡ new.front ++ new.rest → b ≡ old.front ++ old.rest → (length a ≡ length b → ⊥)
    → IsShorter old new → length (text_left new) < length (text_left old)
shorter_then old new a b a_is b_is other (inl is) =
    absurd (other (ap length a_is ∙ ap (λ (left : Left). length (left.front ++ left.rest)) is ∙ sym (ap length b_is)))
shorter_then old new a b a_is b_is other (inr less) = less

pub returns-in_err-add_block-clause-part : goal.returns-in_err-add_block-clause-part
returns-in_err-add_block-clause-part g c whole are =
    subst (λ (blocks : List ℕ). ExplainsPart (procedures_in c.args.registry.now) whole blocks) (sym c.in_err-add_block.ensures.err) (AsFar are)

ends : (left : Left) (number : ℕ) → HasLineAt (text_left left) number true ⊎ HasNoLine (text_left left) number → EndsAt left number
ends left number (inl header) = inl header
ends left number (inr none) = inr (inl none)

pub returns-then-not-branch-clause-all : goal.returns-then-not-branch-clause-all
returns-then-not-branch-clause-all g c whole are = UpTo c.args.fault are c.requires c.in_ok-add_block.ensures.ok
    (ends c.args.unread.now c.args.fault.line (c.in_ok-add_block.ensures.end c.if-not-branch.true))

pub returns-then-not-branch-clause-part : goal.returns-then-not-branch-clause-part
returns-then-not-branch-clause-part g c whole are = AndOne c.args.fault are c.requires c.in_ok-add_block.ensures.ok

pub returns-in_err-drop_line-clause-part : goal.returns-in_err-drop_line-clause-part
returns-in_err-drop_line-clause-part g c whole are = AndOne c.args.fault are c.requires c.in_ok-add_block.ensures.ok

pub returns-then-text-len-clause-all : goal.returns-then-text-len-clause-all
returns-then-text-len-clause-all g c whole are = UpTo c.args.fault are c.requires c.in_ok-add_block.ensures.ok
    (inr (not_dropped c.args.fault.line c.args.unread.now c.drop_line.new.self _ _ c.text.ensures c.text-len.ensures c.if-text-len.true
    c.in_ok-drop_line.ensures.dropped c.in_ok-drop_line.ensures.shorter))

pub returns-then-text-len-clause-part : goal.returns-then-text-len-clause-part
returns-then-text-len-clause-part g c whole are = AndOne c.args.fault are c.requires c.in_ok-add_block.ensures.ok

pub returns-clause-next : goal.returns-clause-next
returns-clause-next g c =
    subst (λ (text : List ℕ). IfSome c.fault_of.result (λ fault. IsReported (procedures_in c.args.registry.now) text fault)) c.text-2.ensures
    c.fault_of.ensures.some

pub returns-clause-shorter : goal.returns-clause-shorter
returns-clause-shorter g c = if_any _ _
    (shorter_then c.args.unread.now c.drop_line.new.self _ _ c.text.ensures c.text-len.ensures c.if-text-len.false c.in_ok-drop_line.ensures.shorter)

pub returns-clause-blocks : goal.returns-clause-blocks
returns-clause-blocks g c whole are = if_any _ _
    (OneMore c.args.fault are c.requires c.in_ok-add_block.ensures.ok (c.in_ok-add_block.ensures.on c.if-not-branch.false) c.in_ok-drop_line.ensures.dropped)

pub returns-clause-all : goal.returns-clause-all
returns-clause-all g c whole are = if_none c.fault_of.result c.fault_of.ensures.none
    (λ declares. ToTheEnd
    (OneMore c.args.fault are c.requires c.in_ok-add_block.ensures.ok (c.in_ok-add_block.ensures.on c.if-not-branch.false) c.in_ok-drop_line.ensures.dropped)
    (subst (λ (text : List ℕ). IsDeclaration (procedures_in c.args.registry.now) text) c.text-2.ensures declares))

pub returns-clause-part : goal.returns-clause-part
returns-clause-part g c whole are =
    AsFar (OneMore c.args.fault are c.requires c.in_ok-add_block.ensures.ok (c.in_ok-add_block.ensures.on c.if-not-branch.false) c.in_ok-drop_line.ensures.dropped)
