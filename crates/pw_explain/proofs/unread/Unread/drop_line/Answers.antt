use Rattle.std.proofs.Common.{List, ℕ, ap, arith, drop, inl, inr, length, min, refl, sym, take, ◌+◌, ◌++◌, ◌-◌, ◌∙◌}
use Rattle.pw_info.specs.Lines.{lines_of}
use Rattle.pw_explain.specs.Unread.{Left, most_lines}
use Rattle.pw_explain.proofs.DroppedLines.{Drops, between_ends, drop_leaves, drops_line, drops_shorter, part_within, was_kept}
use Rattle.pw_explain.proofs.KeptLines.{keeps_as}
use Rattle.pw_explain.proofs.unread.Unread.drop_line.Given as given
use Rattle.pw_explain.proofs.unread.Unread.drop_line.Goals as goal

pub returns-then-from-self-clause-dropped : goal.returns-then-from-self-clause-dropped
returns-then-from-self-clause-dropped g c =
    inr (
      refl,
      inr (was_kept c.args.self.now c.self.inside.bytes.items c.text.result.now c.self.inside.start c.self.inside.rest c.args.line c.in-Some.part
          (ap (λ (left : Left). left.front) (sym c.self.view_is)) c.text.ensures c.self.invariant.1 c.in-Some.ensures.some c.if-from-self.true),
    )

pub keep_between-requires-clause-lines : goal.keep_between-requires-clause-lines
keep_between-requires-clause-lines g c =
    between_ends c.self.inside.bytes.items c.text.result.now c.self.inside.start c.self.inside.rest c.args.line c.in-Some.part c.self.invariant.0
    (c.text.ensures ∙ ap (λ (left : Left). left.front ++ left.rest) (sym c.self.view_is)) c.in-Some.ensures.some c.if-from-self.false

the_drop : (g : given.Over) (c : goal.After-self-2-1 g) → Drops c.args.self.now
    (record { front = take (c.self.inside.start + c.in-Some.part.to - c.move_to-self-inside.result) (drop c.move_to-self-inside.result c.move_to-self-inside.new.bytes.items); numbers = c.drop_all.new.self.kept.items; rest = drop (c.self.inside.start + c.in-Some.part.to) c.move_to-self-inside.new.bytes.items; passed = c.drop_all.new.self.passed })
    c.self.inside.bytes.items c.keep_between.new.bytes.items c.move_to-self-inside.new.bytes.items c.text.result.now c.self.inside.start c.self.inside.rest c.in_ok-end.end
    c.move_to-self-inside.result c.args.line c.keep_between.new.numbers.passed c.in-Some.part
the_drop g c = record {
  steps = record {
    order = c.self.invariant.0;
    further = c.if-from-self.false;
    past = omega (arith, c.in-Some.ensures.some.lies.order);
    within =
        part_within c.self.inside.bytes.items c.text.result.now c.self.inside.start c.self.inside.rest c.args.line c.in-Some.part c.self.invariant.0 c.self.invariant.1
        (c.text.ensures ∙ ap (λ (left : Left). left.front ++ left.rest) (sym c.self.view_is)) c.in-Some.ensures.some;
    ends = c.in_ok-end.ensures.end.0;
    front = c.in_ok-end.ensures.front;
    after = c.in_ok-end.ensures.after;
    moved = c.move_to-self-inside.ensures.moved;
    behind = c.move_to-self-inside.ensures.after;
  };
  old_front = ap (λ (left : Left). left.front) (sym c.self.view_is);
  old_rest = ap (λ (left : Left). left.rest) (sym c.self.view_is);
  text_is = c.text.ensures;
  of = c.in-Some.ensures.some;
  keeps =
      keeps_as _ _ c.self.inside.numbers.kept.items c.args.self.now.numbers c.keep_between.new.numbers.kept.items c.drop_all.new.self.kept.items c.self.inside.numbers.passed
      c.args.self.now.passed c.keep_between.new.numbers.passed (ap (λ (left : Left). left.numbers) (sym c.self.view_is)) (ap (λ (left : Left). left.passed) (sym c.self.view_is))
      (ap (λ kept. kept.items) c.drop_all.ensures.kept) c.in_ok-end.ensures.lines;
  new_front = refl;
  new_rest = refl;
  passed =
      c.drop_all.ensures.passed
      ∙ ap (λ (l : List ℕ). min (c.keep_between.new.numbers.passed + length (lines_of (take (c.self.inside.start + c.in-Some.part.to - (c.self.inside.start + c.in-Some.part.from)) (drop (c.self.inside.start + c.in-Some.part.from) l)))) most_lines)
      c.deref.ensures.value;
}

pub returns-clause-dropped : goal.returns-clause-dropped
returns-clause-dropped g c = inl (drops_line _ _ _ _ _ _ _ _ _ _ _ _ _ (the_drop g c))

pub returns-clause-left : goal.returns-clause-left
returns-clause-left g c = drop_leaves _ _ _ _ _ _ _ _ _ _ _ _ _ (the_drop g c)

pub returns-clause-shorter : goal.returns-clause-shorter
returns-clause-shorter g c = inr (drops_shorter _ _ _ _ _ _ _ _ _ _ _ _ _ (the_drop g c) c.in_ok-end.ensures.end.1)
