use Rattle.std.proofs.Common.{◌+◌, ◌<◌, length, sym, refl, ◌∙◌, ap, arith}
use Rattle.pw_kinds.specs.Places.{IsSize}
use Rattle.pw_decl.specs.inside.Fields.{declared}
use Rattle.pw_decl.proofs.SetLemmas.{members_read, size_read, declared_place, no_kind}
use Rattle.pw_decl.proofs.declaration.Declaration.kind.Goals as goal

pub returns-in-Some-clause-some : goal.returns-in-Some-clause-some
returns-in-Some-clause-some g c = (c.in-Some.ensures.some (declared c.args.self.now)).0

pub returns-in-Some-clause-known : goal.returns-in-Some-clause-known
returns-in-Some-clause-known g c = (c.in-Some.ensures.some (declared c.args.self.now)).1

pub returns-in_err-place-clause-none : goal.returns-in_err-place-clause-none
returns-in_err-place-clause-none g c =
    rw c.from_residual.ensures (no_kind (declared c.args.self.now) c.args.name.now c.in_default.ensures.none (sym c.in_err-place.ensures.number))

pub invariant_of-result : goal.invariant_of-result
invariant_of-result g c =
    let there : c.in_ok-place.place < length c.args.self.now.sets.items = omega (arith, c.in_ok-place.ensures.within, c.args.self.now.well.set_names) in
    record { sized = rw c.len.ensures (size_read c.args.self.now.sets.items c.in_ok-place.place c.index.result.now c.args.self.now.well.sizes there c.index.ensures) }

pub overflow_cast-result-2 : goal.overflow_cast-result-2
overflow_cast-result-2 g c = let size : IsSize c.len.result = (invariant_of-result g c).sized in omega arith

pub returns-clause-known : goal.returns-clause-known
returns-clause-known g c =
    let there : c.in_ok-place.place < length c.args.self.now.sets.items = omega (arith, c.in_ok-place.ensures.within, c.args.self.now.well.set_names) in
    ap length (members_read (declared c.args.self.now) c.args.self.now.sets.items (2 + c.in_ok-place.place) c.in_ok-place.place c.index.result.now refl (omega arith) there c.index.ensures)
    ∙ sym c.len.ensures

pub returns-clause-some : goal.returns-clause-some
returns-clause-some g c =
    (declared_place (declared c.args.self.now) c.args.name.now c.in_ok-place.place c.in_default.ensures.none c.in_ok-place.ensures.number, returns-clause-known g c)
