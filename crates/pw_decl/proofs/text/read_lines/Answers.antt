use Rattle.std.proofs.Common.{ap, length, arith}
use Rattle.pw_info.specs.Lines.{lines_of}
use Rattle.pw_decl.specs.Declaration.{Outside}
use Rattle.pw_decl.specs.inside.Fields.{declared}
use Rattle.pw_decl.specs.inside.Fields.{placed}
use Rattle.pw_decl.proofs.DeclarationSteps.{read_none, read_more, read_all, told_at_end, told_next, memory_last, end_not_memory, length-lines_of, done_to, err_to}
use Rattle.pw_decl.proofs.text.read_lines.Goals as goal

pub loop-line-init : goal.loop-line-init
loop-line-init g c =
    rw c.new-lines.ensures
    (record {
      read = read_none (placed (declared c.args.declaration.now) c.args.place) (lines_of c.args.text.now);
      kept = c.requires.kept;
      room = omega (arith, length-lines_of c.args.text.now);
    })

pub loop-line-preserved : goal.loop-line-preserved
loop-line-preserved g c = record {
  read =
      read_more (placed (declared c.args.declaration.now) c.args.place) (lines_of c.args.text.now) c.loop-line.lines c.loop-line.count
      (placed (declared c.loop-line.declaration) c.loop-line.place) c.loop-line.invariant.read c.in-Some.line.now c.next.new.self
      (placed (declared c.read_declaration_line.new.declaration) c.in-Ok.next) c.in-Some.ensures c.in-Ok.ensures.ok;
  kept = c.in-Ok.ensures.kept;
  room = omega (arith, ap length c.in-Some.ensures);
}

pub returns-in-Err-clause-err : goal.returns-in-Err-clause-err
returns-in-Err-clause-err g c =
    told_next (placed (declared c.args.declaration.now) c.args.place) (lines_of c.args.text.now) c.loop-line.lines c.loop-line.count
    (placed (declared c.loop-line.declaration) c.loop-line.place) c.loop-line.invariant.read c.in-Some.line.now c.next.new.self c.in-Err.why c.in-Some.ensures c.in-Err.ensures.err

pub returns-in-Err-clause-memory : goal.returns-in-Err-clause-memory
returns-in-Err-clause-memory g c =
    memory_last (placed (declared c.args.declaration.now) c.args.place) (lines_of c.args.text.now) c.loop-line.lines c.loop-line.count
    (placed (declared c.loop-line.declaration) c.loop-line.place) c.loop-line.invariant.read c.in-Some.line.now c.next.new.self c.in-Err.why c.in-Some.ensures c.in-Err.ensures.err

pub returns-clause-ok : goal.returns-clause-ok
returns-clause-ok g c =
    let d = declared c.loop-line.declaration in
    done_to _ _
    (λ is. read_all (placed (declared c.args.declaration.now) c.args.place) (lines_of c.args.text.now) c.loop-line.lines c.loop-line.count (placed d c.loop-line.place)
    c.loop-line.invariant.read (Outside d) c.in_default.ensures.0 is)
    c.finish.result (c.finish.ensures.ok d)

pub returns-clause-err : goal.returns-clause-err
returns-clause-err g c =
    let d = declared c.loop-line.declaration in
    err_to _ _
    (λ fault told. told_at_end (placed (declared c.args.declaration.now) c.args.place) (lines_of c.args.text.now) c.loop-line.lines c.loop-line.count (placed d c.loop-line.place)
    c.loop-line.invariant.read fault c.in_default.ensures.0 told)
    c.finish.result (c.finish.ensures.err d)

pub returns-clause-memory : goal.returns-clause-memory
returns-clause-memory g c =
    let d = declared c.loop-line.declaration in
    err_to _ _ (λ fault told memory. absurd (end_not_memory (placed d c.loop-line.place) fault.why told.0 memory)) c.finish.result (c.finish.ensures.err d)
