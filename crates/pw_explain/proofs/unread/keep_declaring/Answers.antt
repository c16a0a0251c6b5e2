use Rattle.std.proofs.Common.{not, ap, sym, subst, ◌∙◌, arith}
use Rattle.std.proofs.lemmas.List.{take_rest}
use Rattle.pw_info.specs.Lines.{HasNoEnd}
use Rattle.pw_explain.proofs.KeptLines.{Looked, all_looked, looked_dropped, looked_kept, none_looked}
use Rattle.pw_explain.proofs.unread.keep_declaring.Goals as goal

pub loop-line-init : goal.loop-line-init
loop-line-init g c = none_looked c.args.lines.now c.args.numbers.now.kept.items c.args.numbers.now.passed

pub loop-line-preserved-then-idles : goal.loop-line-preserved-then-idles
loop-line-preserved-then-idles g c =
    looked_dropped c.args.lines.now c.loop-line.lines c.args.numbers.now.kept.items c.drop_one.new.self.kept.items c.in-Some.line.now c.in-Some.field-0-1.now
    c.args.numbers.now.passed c.loop-line.numbers.passed c.drop_one.new.self.passed c.loop-line.kept c.loop-line.from _
    (subst
    (λ kept. Looked c.args.lines.now c.loop-line.lines c.args.numbers.now.kept.items kept.items c.args.numbers.now.passed c.loop-line.numbers.passed c.loop-line.kept c.loop-line.from)
    (sym c.drop_one.ensures.kept) c.loop-line.invariant)
    (sym (take_rest c.loop-line.lines c.loop-line.from) ∙ c.in-Some.ensures.some.0) c.in-Some.ensures.some.1 (ap not (sym c.idles.ensures ∙ c.if-idles.true)) (omega arith)
    c.drop_one.ensures.passed

pub loop-line-preserved : goal.loop-line-preserved
loop-line-preserved g c =
    looked_kept c.args.lines.now c.loop-line.lines c.copy_within.new.self c.args.numbers.now.kept.items c.loop-line.numbers.kept.items c.keep.new.self.kept.items c.in-Some.line.now
    c.in-Some.field-0-1.now c.args.numbers.now.passed c.loop-line.numbers.passed c.keep.new.self.passed c.loop-line.kept c.loop-line.from _ _ c.loop-line.invariant
    (sym (take_rest c.loop-line.lines c.loop-line.from) ∙ c.in-Some.ensures.some.0) c.in-Some.ensures.some.1 (ap not (sym c.idles.ensures ∙ c.if-idles.false)) (omega arith) c.in_ok-keep.ensures.passed c.in_ok-keep.ensures.kept
    c.copy_within.ensures.after (omega arith)

pub returns-clause-lines : goal.returns-clause-lines
returns-clause-lines g c =
    all_looked c.args.lines.now c.loop-line.lines c.args.numbers.now.kept.items c.loop-line.numbers.kept.items c.args.numbers.now.passed c.loop-line.numbers.passed c.loop-line.kept
    c.loop-line.from c.loop-line.invariant c.requires (subst HasNoEnd (take_rest c.loop-line.lines c.loop-line.from) c.in_default.ensures.none)
