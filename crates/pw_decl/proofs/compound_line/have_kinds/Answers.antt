use Rattle.std.proofs.Common.{refl, []}
use Rattle.std.proofs.lemmas.Bool.{false≢true}
use Rattle.pw_decl.specs.Declaration.{parameter_kinds}
use Rattle.pw_decl.specs.inside.Fields.{declared}
use Rattle.pw_decl.proofs.ParameterLemmas.{have_kinds-cons, have_kinds-not, at_some}
use Rattle.pw_decl.proofs.SetLemmas.{at_none}
use Rattle.pw_decl.proofs.compound_line.have_kinds.Goals as goal

pub returns-in_default-next : goal.returns-in_default-next
returns-in_default-next g c =
    let left = rw (c.in-Some.ensures, c.in_default-next.ensures.0) at c.loop-parameters.invariant in
    (λ yes. left.1 ([], tt), λ all. refl)

pub returns : goal.returns
returns g c = let left = rw c.in_default.ensures.0 at c.loop-parameters.invariant in (λ yes. left.1 ([], tt), λ all. refl)

pub returns-then-is_none : goal.returns-then-is_none
returns-then-is_none g c =
    let left = rw (c.in-Some.ensures, c.in-Some-next.ensures) at c.loop-parameters.invariant in
    let none = at_none c.kind.result c.if-is_none.ensures c.kind.ensures.none in
    (λ no. absurd (false≢true no), λ all. absurd (have_kinds-not (declared c.args.declaration.now) c.in-Some-next.word.now (parameter_kinds c.next-in-Some.new.self) none (left.0 all)))

pub loop-parameters-preserved : goal.loop-parameters-preserved
loop-parameters-preserved g c =
    let left = rw (c.in-Some.ensures, c.in-Some-next.ensures) at c.loop-parameters.invariant in
    let named = at_some c.kind.result c.if-is_none.ensures c.kind.ensures.some in
    let others = have_kinds-cons (declared c.args.declaration.now) c.in-Some-next.word.now (parameter_kinds c.next-in-Some.new.self) named.0 named.1 in
    (λ all. others.0 (left.0 all), λ rest. left.1 (others.1 rest))
