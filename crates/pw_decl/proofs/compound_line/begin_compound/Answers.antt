use Rattle.std.proofs.Common.{inl, refl, arith}
use Rattle.pw_decl.specs.inside.Fields.{declared}
use Rattle.pw_decl.proofs.CompoundLemmas.{begun_open, begun_made}
use Rattle.pw_decl.proofs.compound_line.begin_compound.Goals as goal

pub returns-in-Some-clause-err : goal.returns-in-Some-clause-err
returns-in-Some-clause-err g c = rw c.again.ensures at c.in-Some.ensures.some

pub returns-in-Ok-clause-ok : goal.returns-in-Ok-clause-ok
returns-in-Ok-clause-ok g c =
    record {
      faultless = rw c.again.ensures at c.in_default.ensures.none;
      makes = begun_made (declared c.args.declaration.now) c.args.name.now c.args.parameters c.in-Ok.opened c.in-Ok.ensures.begun;
    }

pub returns-in-Ok-clause-kept : goal.returns-in-Ok-clause-kept
returns-in-Ok-clause-kept g c =
    let few = rw c.again.ensures at c.in_default.ensures.few in
    begun_open (declared c.args.declaration.now) c.args.name.now c.args.parameters c.in-Ok.opened c.in-Ok.ensures.begun c.in_default.ensures.fresh
    (λ full. omega (arith, c.in_default.ensures.room, full)) few

pub begun_with-requires-clause-distinct : goal.begun_with-requires-clause-distinct
begun_with-requires-clause-distinct g c = rw c.again.ensures at c.in_default.ensures.distinct

pub begun_with-requires-clause-known : goal.begun_with-requires-clause-known
begun_with-requires-clause-known g c = rw c.again.ensures at c.in_default.ensures.known

pub returns-in-Err-clause-err : goal.returns-in-Err-clause-err
returns-in-Err-clause-err g c = inl (rw c.again.ensures at c.in_default.ensures.none, refl)
