use Rattle.std.proofs.Common.{sym, ◌∙◌, arith}
use Rattle.pw_info.proofs.LineLemmas.{none_found, begins_with_line}
use Rattle.pw_info.proofs.lines.next_line.Goals as goal

pub returns-then-end-bytes-clause-none : goal.returns-then-end-bytes-clause-none
returns-then-end-bytes-clause-none c = none_found c.args.bytes.now (sym c.line_len-end.ensures.value ∙ c.if-end-bytes.true)

pub returns-clause-some : goal.returns-clause-some
returns-clause-some c =
    begins_with_line c.args.bytes.now c.line_len-end.result c.line_len-end.ensures.value (omega (arith, c.line_len-end.ensures.within, c.if-end-bytes.false))
