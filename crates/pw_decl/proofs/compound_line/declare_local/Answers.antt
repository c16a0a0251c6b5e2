use Rattle.std.proofs.Common.{◌≡◌, true, false, is_some}
use Rattle.std.proofs.Common.{inl, refl, sym, ap}
use Rattle.pw_procs.specs.Registering.{place_of_name}
use Rattle.pw_decl.specs.Declaration.{Inside}
use Rattle.pw_decl.specs.inside.Fields.{declared}
use Rattle.pw_decl.specs.inside.Opened.{open_of}
use Rattle.pw_decl.proofs.CompoundLemmas.{name_found, faultless_local, local_duplicate, local_unknown, stays_open, local_limit, full_local, fits_local, grown_open_local}
use Rattle.pw_decl.proofs.ParameterLemmas.{none_where}
use Rattle.pw_decl.proofs.compound_line.declare_local.Goals as goal

pub returns-then-opened-ge-MOST_INNER_CELLS-clause-err : goal.returns-then-opened-ge-MOST_INNER_CELLS-clause-err
returns-then-opened-ge-MOST_INNER_CELLS-clause-err g c =
    let d = declared c.args.declaration.now in
    let old = c.args.opened.now in
    let fresh : is_some (place_of_name old.names c.args.name.now) ≡ false =
    name_found old.names c.as_bytes.result.now c.args.name.now c.find.result false c.find.ensures.number c.as_bytes.ensures.value (sym c.if-is_some.ensures) in
    local_limit d (open_of old) c.args.name.now c.args.kind.now c.in-Some.kind fresh c.in-Some.ensures.some
    (full_local d old c.requires.kept c.if-opened-ge-MOST_INNER_CELLS.true)

pub returns-in-Ok-clause-kept : goal.returns-in-Ok-clause-kept
returns-in-Ok-clause-kept g c =
    let d = declared c.args.declaration.now in
    let old = c.args.opened.now in
    grown_open_local d old c.add_local.new.opened c.args.name.now c.in-Some.kind c.requires.kept c.in-Ok.ensures.ok
    (fits_local d old c.requires.kept c.if-opened-ge-MOST_INNER_CELLS.false)

pub returns-in-Ok-clause-ok : goal.returns-in-Ok-clause-ok
returns-in-Ok-clause-ok g c =
    let d = declared c.args.declaration.now in
    let old = c.args.opened.now in
    let fresh : is_some (place_of_name old.names c.args.name.now) ≡ false =
    name_found old.names c.as_bytes.result.now c.args.name.now c.find.result false c.find.ensures.number c.as_bytes.ensures.value (sym c.if-is_some.ensures) in
    record {
      faultless = faultless_local d (open_of old) c.args.name.now c.args.kind.now c.in-Some.kind fresh c.in-Some.ensures.some
          (fits_local d old c.requires.kept c.if-opened-ge-MOST_INNER_CELLS.false);
      makes = (c.in-Some.kind, c.in-Some.ensures.some, ap (Inside d) c.in-Ok.ensures.ok.is);
    }

pub returns-in-Err-clause-err : goal.returns-in-Err-clause-err
returns-in-Err-clause-err g c =
    let d = declared c.args.declaration.now in
    let old = c.args.opened.now in
    let fresh : is_some (place_of_name old.names c.args.name.now) ≡ false =
    name_found old.names c.as_bytes.result.now c.args.name.now c.find.result false c.find.ensures.number c.as_bytes.ensures.value (sym c.if-is_some.ensures) in
    inl (
      faultless_local d (open_of old) c.args.name.now c.args.kind.now c.in-Some.kind fresh c.in-Some.ensures.some
          (fits_local d old c.requires.kept c.if-opened-ge-MOST_INNER_CELLS.false),
      refl,
    )

pub returns-in-Err-clause-kept : goal.returns-in-Err-clause-kept
returns-in-Err-clause-kept g c = stays_open (declared c.args.declaration.now) c.args.opened.now c.add_local.new.opened c.requires.kept c.in-Err.ensures.err

pub returns-then-is_some-clause-err : goal.returns-then-is_some-clause-err
returns-then-is_some-clause-err g c =
    let old = c.args.opened.now in
    local_duplicate (declared c.args.declaration.now) (open_of old) c.args.name.now c.args.kind.now
    (name_found old.names c.as_bytes.result.now c.args.name.now c.find.result true c.find.ensures.number c.as_bytes.ensures.value (sym c.if-is_some.ensures))

pub returns-in_default-clause-err : goal.returns-in_default-clause-err
returns-in_default-clause-err g c =
    let old = c.args.opened.now in
    local_unknown (declared c.args.declaration.now) (open_of old) c.args.name.now c.args.kind.now
    (name_found old.names c.as_bytes.result.now c.args.name.now c.find.result false c.find.ensures.number c.as_bytes.ensures.value (sym c.if-is_some.ensures)) c.in_default.ensures.none

pub add_local-requires : goal.add_local-requires
add_local-requires g c =
    let old = c.args.opened.now in
    let fresh : is_some (place_of_name old.names c.args.name.now) ≡ false =
    name_found old.names c.as_bytes.result.now c.args.name.now c.find.result false c.find.ensures.number c.as_bytes.ensures.value (sym c.if-is_some.ensures) in
    record { fresh = none_where (place_of_name old.names c.args.name.now) _ fresh refl; room = c.if-opened-ge-MOST_INNER_CELLS.false }
