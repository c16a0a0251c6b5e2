use Rattle.std.proofs.Common.{◌≡◌, [], length, get_or, ap, arith}
use Rattle.pw_kinds.specs.Places.{IsSize}
use Rattle.pw_decl.specs.Declaration.{members_of}
use Rattle.pw_decl.specs.inside.Fields.{declared}
use Rattle.pw_decl.proofs.SetLemmas.{built_in_named, built_in_same, members_read, members_past, size_read}
use Rattle.pw_decl.proofs.declaration.DeclarationKindNames.place.Goals as goal

pub returns-then-set-lt-BUILT_IN_SETS-clause-names : goal.returns-then-set-lt-BUILT_IN_SETS-clause-names
returns-then-set-lt-BUILT_IN_SETS-clause-names g c = built_in_named (declared c.args.self.now) c.args.set c.if-set-lt-BUILT_IN_SETS.true

pub returns-then-set-lt-BUILT_IN_SETS-clause-none : goal.returns-then-set-lt-BUILT_IN_SETS-clause-none
returns-then-set-lt-BUILT_IN_SETS-clause-none g c =
    rw (built_in_same (declared c.args.self.now) c.args.set c.if-set-lt-BUILT_IN_SETS.true) c.built_in_place.ensures.none

pub returns-then-declared-sets-clause-none : goal.returns-then-declared-sets-clause-none
returns-then-declared-sets-clause-none g c =
    let none : members_of (declared c.args.self.now) c.args.set ≡ [] =
    members_past (declared c.args.self.now) c.as_slice-sets.result.now c.args.set c.as_slice-sets.ensures.value (omega (arith, c.from-declared.ensures)) in
    rw none (λ there. omega (arith, there.1))

pub returns-then-declared-sets-clause-names : goal.returns-then-declared-sets-clause-names
returns-then-declared-sets-clause-names g c = c.args.self.now.well.named c.args.set

pub place_in-requires : goal.place_in-requires
place_in-requires g c =
    let sets = c.args.self.now.sets.items in
    let names = c.index-sets-declared.result in
    let read : names ≡ get_or sets c.from-declared.result names = rw c.as_slice-sets.ensures.value at c.index-sets-declared.is in
    let size : IsSize (length names) =
    size_read sets c.from-declared.result names c.args.self.now.well.sizes (omega (arith, ap length c.as_slice-sets.ensures.value)) read in
    omega arith

pub returns : goal.returns
returns g c =
    let names = c.index-sets-declared.result in
    let members : members_of (declared c.args.self.now) c.args.set ≡ names =
    members_read (declared c.args.self.now) c.as_slice-sets.result.now c.args.set c.from-declared.result names c.as_slice-sets.ensures.value (omega (arith, c.from-declared.ensures)) (omega arith) c.index-sets-declared.is in
    record {
      found = rw members c.place_in.ensures.found;
      none = rw members c.place_in.ensures.none;
      names = c.args.self.now.well.named c.args.set;
    }
