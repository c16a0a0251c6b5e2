use Rattle.std.proofs.Common.{sym, ◌∙◌, refl}
use Rattle.std.proofs.lemmas.Bool.{false≢true}
use Rattle.pw_decl.specs.Declaration.{parameter_names}
use Rattle.pw_decl.proofs.MemberLemmas.{distinct_none, repeats, differ_where}
use Rattle.pw_decl.proofs.compound_line.parameters_differ.Goals as goal

pub returns-in_default-next : goal.returns-in_default-next
returns-in_default-next c =
    let left = rw (c.in-Some.ensures, c.in_default-next.ensures.0) at c.loop-name.invariant in
    (λ yes. left.1 distinct_none, λ all. refl)

pub returns-then-names_parameter : goal.returns-then-names_parameter
returns-then-names_parameter c =
    let among = sym (rw c.again.ensures at c.names_parameter.ensures) ∙ c.if-names_parameter.true in
    let left = rw (c.in-Some.ensures, c.in-Some-next.ensures) at c.loop-name.invariant in
    (λ no. absurd (false≢true no), λ all. absurd (repeats c.in-Some.name.now (parameter_names c.next-in-Some.new.self) among (left.0 all)))

pub loop-name-preserved : goal.loop-name-preserved
loop-name-preserved c =
    let others = differ_where c.in-Some.name.now (parameter_names c.next-in-Some.new.self) (sym (rw c.again.ensures at c.names_parameter.ensures) ∙ c.if-names_parameter.false) in
    let left = rw (c.in-Some.ensures, c.in-Some-next.ensures) at c.loop-name.invariant in
    (λ all. others.0 (left.0 all), λ rest. left.1 (others.1 rest))

pub returns : goal.returns
returns c = let left = rw c.in_default.ensures.0 at c.loop-name.invariant in (λ yes. left.1 distinct_none, λ all. refl)
