use Rattle.std.proofs.Common.{ℕ, List, ◌∷◌, ap, ◌∙◌}
use Rattle.pw_decl.specs.Declaration.{parameter_kinds}
use Rattle.pw_decl.specs.inside.Fields.{declared}
use Rattle.pw_decl.proofs.ParameterLemmas.{have_kinds-cons, have_kinds-not, parameters_rest}
use Rattle.pw_decl.proofs.compound_line.next_parameter.Goals as goal

pub unreachable-requires-in_default-kind : goal.unreachable-requires-in_default-kind
unreachable-requires-in_default-kind g c =
    let known = rw (c.in_ok-name.ensures, c.in-Some-Some.ensures') at c.requires.known in
    have_kinds-not (declared c.args.declaration.now) c.in-Some-Some.kind.now (parameter_kinds c.next-2.new.self) c.in_default-kind.ensures.none known

pub returns-clause-named : goal.returns-clause-named
returns-clause-named g c =
    parameters_rest c.in_ok-name.name.now c.in-Some-Some.kind.now c.next-2.new.self (rw (c.in_ok-name.ensures, c.in-Some-Some.ensures') at c.requires.named)

pub returns-clause-known : goal.returns-clause-known
returns-clause-known g c =
    let known = rw (c.in_ok-name.ensures, c.in-Some-Some.ensures') at c.requires.known in
    (have_kinds-cons (declared c.args.declaration.now) c.in-Some-Some.kind.now (parameter_kinds c.next-2.new.self) c.in-Some.kind c.in-Some.ensures.some).0 known

pub returns-clause-some : goal.returns-clause-some
returns-clause-some g c =
    let words = c.in_ok-name.ensures ∙ ap (λ (rest : List (List ℕ)). c.in_ok-name.name.now ∷ rest) c.in-Some-Some.ensures' in
    (c.in-Some-Some.kind.now, rw c.in-Some-Some.ensures.1 words, c.in-Some.ensures.some)
