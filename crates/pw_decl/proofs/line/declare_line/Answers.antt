use Rattle.std.proofs.Common.{ap}
use Rattle.pw_decl.specs.Declaration.{BeforeHeader, Outside, Inside}
use Rattle.pw_decl.specs.inside.Fields.{declared}
use Rattle.pw_decl.specs.inside.Forms.{outer_in, inner_in}
use Rattle.pw_decl.specs.inside.Opened.{open_of}
use Rattle.pw_decl.specs.inside.Fields.{placed}
use Rattle.pw_info.specs.Words.{words_of}
use Rattle.pw_decl.proofs.DeclarationLines.{no_sentence, header_declares, outer_parts, inner_parts, answer_declares, answer_faulty}
use Rattle.pw_decl.proofs.line.declare_line.Goals as goal

-- before the header

pub returns-in_default-clause-err : goal.returns-in_default-clause-err
returns-in_default-clause-err g c =
    let d = declared c.args.declaration.now in
    no_sentence (placed d c.args.place) (BeforeHeader d) c.args.line.now (ap (placed d) c.in-BeforeHeader.is) c.requires.short c.requires.spoken c.in_default.ensures

pub returns-in-Some-clause-ok : goal.returns-in-Some-clause-ok
returns-in-Some-clause-ok g c =
    let d = declared c.args.declaration.now in
    header_declares (placed d c.args.place) d c.args.line.now c.in-Some.version (declared c.set_version.new.self) (ap (placed d) c.in-BeforeHeader.is) c.requires.short c.requires.spoken
    c.requires.allowed c.in-Some.ensures c.set_version.ensures

-- outside a compound

pub returns-in_default-read_outer-clause-err : goal.returns-in_default-read_outer-clause-err
returns-in_default-read_outer-clause-err g c =
    let d = declared c.args.declaration.now in
    no_sentence (placed d c.args.place) (Outside d) c.args.line.now (ap (placed d) c.in-Outside.is) c.requires.short c.requires.spoken c.in_default-read_outer.ensures

pub declare_outside-requires : goal.declare_outside-requires
declare_outside-requires g c = record { parts = outer_parts (words_of c.args.line.now) (outer_in c.in-Some-read_outer.sentence) c.in-Some-read_outer.ensures }

pub returns-in-Some-read_outer-clause-ok : goal.returns-in-Some-read_outer-clause-ok
returns-in-Some-read_outer-clause-ok g c =
    let d = declared c.args.declaration.now in
    answer_declares (placed d c.args.place) (Outside d) c.args.line.now (outer_in c.in-Some-read_outer.sentence) (ap (placed d) c.in-Outside.is) c.requires.short c.requires.spoken
    (placed (declared c.declare_outside.new.declaration)) c.declare_outside.result c.requires.allowed c.in-Some-read_outer.ensures c.declare_outside.ensures.ok

pub returns-in-Some-read_outer-clause-err : goal.returns-in-Some-read_outer-clause-err
returns-in-Some-read_outer-clause-err g c =
    let d = declared c.args.declaration.now in
    answer_faulty (placed d c.args.place) (Outside d) c.args.line.now (outer_in c.in-Some-read_outer.sentence) (ap (placed d) c.in-Outside.is) c.requires.short c.requires.spoken
    c.declare_outside.result c.requires.allowed c.in-Some-read_outer.ensures c.declare_outside.ensures.err

-- inside one

pub returns-in_default-read_inner-clause-err : goal.returns-in_default-read_inner-clause-err
returns-in_default-read_inner-clause-err g c =
    let d = declared c.args.declaration.now in
    no_sentence (placed d c.args.place) (Inside d (open_of c.in-Inside.opened)) c.args.line.now (ap (placed d) c.in-Inside.is) c.requires.short c.requires.spoken
    c.in_default-read_inner.ensures

pub declare_inside-requires-clause-parts : goal.declare_inside-requires-clause-parts
declare_inside-requires-clause-parts g c = inner_parts (words_of c.args.line.now) (inner_in c.in-Some-read_inner.sentence) c.in-Some-read_inner.ensures

pub returns-in-Some-read_inner-clause-ok : goal.returns-in-Some-read_inner-clause-ok
returns-in-Some-read_inner-clause-ok g c =
    let d = declared c.args.declaration.now in
    answer_declares (placed d c.args.place) (Inside d (open_of c.in-Inside.opened)) c.args.line.now (inner_in c.in-Some-read_inner.sentence) (ap (placed d) c.in-Inside.is)
    c.requires.short c.requires.spoken (placed (declared c.declare_inside.new.declaration)) c.declare_inside.result c.requires.allowed c.in-Some-read_inner.ensures
    c.declare_inside.ensures.ok

pub returns-in-Some-read_inner-clause-err : goal.returns-in-Some-read_inner-clause-err
returns-in-Some-read_inner-clause-err g c =
    let d = declared c.args.declaration.now in
    answer_faulty (placed d c.args.place) (Inside d (open_of c.in-Inside.opened)) c.args.line.now (inner_in c.in-Some-read_inner.sentence) (ap (placed d) c.in-Inside.is)
    c.requires.short c.requires.spoken c.declare_inside.result c.requires.allowed c.in-Some-read_inner.ensures c.declare_inside.ensures.err
