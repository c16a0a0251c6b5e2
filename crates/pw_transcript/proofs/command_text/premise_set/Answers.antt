use Rattle.std.proofs.Common.{ℕ, List, refl, sym, ap, ◌∙◌, rules}
use Rattle.std.specs.FinSet.{union}
use Rattle.pw_premises.specs.Premises.{Premises}
use Rattle.pw_decl.specs.inside.Fields.{declared}
use Rattle.pw_transcript.specs.Reading.{premises_of}
use Rattle.pw_transcript.proofs.PremiseLists.{union_empty_left, union_empty_right, premises_step}
use Rattle.pw_transcript.proofs.command_text.premise_set.Goals as goal

pub loop-word-init : goal.loop-word-init
loop-word-init g c = record {
  known = refl;
  set = sym (ap (λ (x : Premises). union x (premises_of (declared c.args.declaration.now) c.args.words)) c.empty-set.ensures.nothing ∙ union_empty_left (premises_of (declared c.args.declaration.now) c.args.words));
}

pub loop-word-preserved : goal.loop-word-preserved
loop-word-preserved g c = record {
  known = search rules;
  set = premises_step (declared c.args.declaration.now) c.in-Some.word.now c.next.new.self c.args.words c.in-Some-premise.premise c.loop-word.set c.insert.new.self
      (sym c.in-Some-premise.ensures.number)
      (c.loop-word.invariant.set ∙ ap (λ (words : List (List ℕ)). union c.loop-word.set (premises_of (declared c.args.declaration.now) words)) c.in-Some.ensures)
      c.insert.ensures.inserted;
}

pub returns-clause-ok : goal.returns-clause-ok
returns-clause-ok g c = sym (c.loop-word.invariant.set
    ∙ ap (λ (words : List (List ℕ)). union c.loop-word.set (premises_of (declared c.args.declaration.now) words)) c.in_default.ensures.0
    ∙ union_empty_right c.loop-word.set)
