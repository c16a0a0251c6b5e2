use Rattle.std.proofs.Common.{ℕ, List, refl, sym, ap, ◌∙◌, rules}
use Rattle.std.specs.FinSet.{union}
use Rattle.pw_premises.specs.Premises.{Premises}
use Rattle.pw_decl.specs.inside.Fields.{declared}
use Rattle.pw_transcript.specs.Reading.{premises_of, may_use, may_use_at}
use Rattle.pw_transcript.proofs.PremiseLists.{union_empty_left, union_empty_right, premises_step, one_more_word}
use Rattle.pw_transcript.proofs.command_text.support_of.Goals as goal

pub loop-word-init : goal.loop-word-init
loop-word-init g c = record {
  known = refl;
  own = refl;
  set = sym (ap (λ (x : Premises). union x (premises_of (declared c.args.declaration.now) c.args.words)) c.empty-set.ensures.nothing ∙ union_empty_left (premises_of (declared c.args.declaration.now) c.args.words));
}

pub loop-word-preserved : goal.loop-word-preserved
loop-word-preserved g c = record {
  known = search rules;
  own = one_more_word (λ word. may_use (declared c.args.declaration.now) c.args.user word) c.args.words c.loop-word.words c.next.new.self c.in-Some.word.now c.loop-word.may_use_all c.may_use-may_use_all.result
      c.loop-word.invariant.own c.in-Some.ensures (c.may_use-may_use_all.ensures ∙ ap (may_use_at (declared c.args.declaration.now) c.args.user) c.in-Some-premise.ensures.number);
  set = premises_step (declared c.args.declaration.now) c.in-Some.word.now c.next.new.self c.args.words c.in-Some-premise.premise c.loop-word.set c.insert.new.self
      (sym c.in-Some-premise.ensures.number)
      (c.loop-word.invariant.set ∙ ap (λ (words : List (List ℕ)). union c.loop-word.set (premises_of (declared c.args.declaration.now) words)) c.in-Some.ensures)
      c.insert.ensures.inserted;
}

pub returns-clause-ok : goal.returns-clause-ok
returns-clause-ok g c = sym (c.loop-word.invariant.set
    ∙ ap (λ (words : List (List ℕ)). union c.loop-word.set (premises_of (declared c.args.declaration.now) words)) c.in_default.ensures.0
    ∙ union_empty_right c.loop-word.set)
