-- What stands for facts in reverse order stands for them.
use Rattle.std.proofs.Common.{◌<◌, ◌-◌, List, length, reverse, sym, ◌∙◌, subst, arith}
use Rattle.std.specs.Prelude.{Contains}
use Rattle.std.proofs.lemmas.List.{get_or-reverse, length-reverse}
use Rattle.pw_info.specs.declared.kind.Kind.{Kind}
use Rattle.pw_premises.specs.Premises.{Premises}
use Rattle.pw_facts.specs.declared.fact.Fact.{Fact}
use Rattle.pw_cells.specs.inside.OneCell.{AreOfKind, StandsFor}
use Rattle.pw_cells.proofs.Together.{shown-reversed}

-- a merge that stands for the facts in reverse order stands for them
pub stands_reversed : (k : Kind) (w : Premises) (fs : List Fact) (m : Fact) → AreOfKind k fs → StandsFor k w (reverse fs) m → StandsFor k w fs m
stands_reversed k w fs m kinds stands = record {
  info = stands.info ∙ shown-reversed k w fs kinds;
  within = stands.within;
  same = sym (shown-reversed k m.support fs kinds) ∙ stands.same;
  rests = λ p held. let found = stands.rests p held in (found.0, contains_reversed fs found.0 found.1, found.2);
} where
  contains_reversed : (xs : List Fact) (x : Fact) → Contains (reverse xs) x → Contains xs x
  contains_reversed xs x (i, below, at) =
      let there : i < length xs = subst (λ n. i < n) (length-reverse xs) below in
      (length xs - 1 - i, omega (arith, there), sym (get_or-reverse xs i x there) ∙ at)
