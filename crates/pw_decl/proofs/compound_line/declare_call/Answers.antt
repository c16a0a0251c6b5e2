use Rattle.std.proofs.Common.{◌≡◌, true, length, inl, refl, sym, subst, ap, ◌∙◌}
use Rattle.std.specs.List.{list_all}
use Rattle.std.proofs.lemmas.Bool.{false≢true}
use Rattle.pw_procs.specs.Registry.{cells_of}
use Rattle.pw_decl.specs.Compound.{cell_kinds}
use Rattle.pw_decl.specs.Declaration.{Inside, with_call}
use Rattle.pw_decl.specs.Faults.{is_cell_of}
use Rattle.pw_decl.specs.inside.Fields.{declared}
use Rattle.pw_decl.specs.inside.Held.{size_of}
use Rattle.pw_decl.specs.inside.Opened.{open_of}
use Rattle.pw_decl.specs.WellDeclared.{IsSmall}
use Rattle.pw_decl.proofs.CompoundLemmas.{few_names, places_there, accepts_same, large_same, too_many, faultless_call, call_unknown, call_wrong, call_limit, grown_open_call, stays_open}
use Rattle.pw_decl.proofs.compound_line.declare_call.Goals as goal

pub returns-then-not-are_cells-clause-err : goal.returns-then-not-are_cells-clause-err
returns-then-not-are_cells-clause-err g c =
    call_unknown (declared c.args.declaration.now) (open_of c.args.opened.now) c.args.callable.now c.args.arguments (sym (rw c.again.ensures at c.if-not-are_cells.ensures))

pub place_arguments-requires-clause-few : goal.place_arguments-requires-clause-few
place_arguments-requires-clause-few g c = few_names (declared c.args.declaration.now) (open_of c.args.opened.now) c.requires.kept.well

pub returns-in_default-place_arguments-clause-err : goal.returns-in_default-place_arguments-clause-err
returns-in_default-place_arguments-clause-err g c =
    let d = declared c.args.declaration.now in
    let opened = open_of c.args.opened.now in
    let all : list_all (is_cell_of opened) c.args.arguments ≡ true = sym (rw c.again.ensures at c.if-not-are_cells.ensures) in
    call_wrong d opened c.args.callable.now c.args.arguments c.in-Some.callable (sym c.in-Some.ensures.named) all
    (too_many d opened c.args.arguments c.in-Some.callable c.args.declaration.now.well c.requires.kept.well all c.in_default-place_arguments.ensures.none)

pub accepts_at-requires-clause-places : goal.accepts_at-requires-clause-places
accepts_at-requires-clause-places g c =
    places_there c.args.opened.now.names c.args.arguments (cells_of c.in-Some-place_arguments.arguments) c.deref.result.now c.in-Some-place_arguments.ensures.some
    (c.requires.kept.well.names ∙ ap length (sym (c.deref.ensures.value ∙ c.requires.kept.kinds)))

pub returns-then-not-accepts_at-clause-err : goal.returns-then-not-accepts_at-clause-err
returns-then-not-accepts_at-clause-err g c =
    let d = declared c.args.declaration.now in
    let opened = open_of c.args.opened.now in
    let all : list_all (is_cell_of opened) c.args.arguments ≡ true = sym (rw c.again.ensures at c.if-not-are_cells.ensures) in
    let same = accepts_same d.procedures d.compounds c.in-Some.callable _ _ _ _ (c.deref.ensures.value ∙ c.requires.kept.kinds) c.in-Some-place_arguments.ensures.some in
    call_wrong d opened c.args.callable.now c.args.arguments c.in-Some.callable (sym c.in-Some.ensures.named) all
    (λ accepts. false≢true (c.if-not-accepts_at.ensures.1 (same.1 accepts)))

pub returns-then-outgrows-clause-err : goal.returns-then-outgrows-clause-err
returns-then-outgrows-clause-err g c =
    let d = declared c.args.declaration.now in
    let opened = open_of c.args.opened.now in
    let all : list_all (is_cell_of opened) c.args.arguments ≡ true = sym (rw c.again.ensures at c.if-not-are_cells.ensures) in
    let same = accepts_same d.procedures d.compounds c.in-Some.callable _ _ _ _ (c.deref.ensures.value ∙ c.requires.kept.kinds) c.in-Some-place_arguments.ensures.some in
    let large = large_same _ _ _ _ c.requires.kept.size c.size-size.ensures.size in
    call_limit d opened c.args.callable.now c.args.arguments c.in-Some.callable (sym c.in-Some.ensures.named) all (same.0 (c.if-not-accepts_at.ensures.0 refl))
    (large.0 (c.if-outgrows.ensures.0 refl))

pub returns-in-Ok-clause-kept : goal.returns-in-Ok-clause-kept
returns-in-Ok-clause-kept g c =
    let d = declared c.args.declaration.now in
    let opened = open_of c.args.opened.now in
    let places = cells_of c.in-Some-place_arguments.arguments in
    let kinds = c.deref.ensures.value ∙ c.requires.kept.kinds in
    let same = accepts_same d.procedures d.compounds c.in-Some.callable c.deref.result.now (cell_kinds opened.compound) places places kinds refl in
    let large = large_same _ _ _ _ c.requires.kept.size c.size-size.ensures.size in
    grown_open_call d c.args.opened.now c.add_call.new.opened c.in-Some.callable places (size_of c.size-size.result) c.requires.kept c.size-size.ensures.size c.in-Ok.ensures.ok
    (places_there c.args.opened.now.names c.args.arguments places (cell_kinds opened.compound) c.in-Some-place_arguments.ensures.some c.requires.kept.well.names)
    (same.0 (c.if-not-accepts_at.ensures.0 refl))
    (λ much. false≢true (c.if-outgrows.ensures.1 (large.1 much)))

pub returns-in-Ok-clause-ok : goal.returns-in-Ok-clause-ok
returns-in-Ok-clause-ok g c =
    let d = declared c.args.declaration.now in
    let opened = open_of c.args.opened.now in
    let all : list_all (is_cell_of opened) c.args.arguments ≡ true = sym (rw c.again.ensures at c.if-not-are_cells.ensures) in
    let same = accepts_same d.procedures d.compounds c.in-Some.callable _ _ _ _ (c.deref.ensures.value ∙ c.requires.kept.kinds) c.in-Some-place_arguments.ensures.some in
    let large = large_same _ _ _ _ c.requires.kept.size c.size-size.ensures.size in
    record {
      faultless = faultless_call d opened c.args.callable.now c.args.arguments c.in-Some.callable (sym c.in-Some.ensures.named) all (same.0 (c.if-not-accepts_at.ensures.0 refl))
          (λ much. false≢true (c.if-outgrows.ensures.1 (large.1 much)));
      makes = (c.in-Some.callable, sym c.in-Some.ensures.named, ap (Inside d) (c.in-Ok.ensures.ok.is ∙ ap (with_call opened c.in-Some.callable) c.in-Some-place_arguments.ensures.some));
    }

pub returns-in-Err-clause-err : goal.returns-in-Err-clause-err
returns-in-Err-clause-err g c =
    let d = declared c.args.declaration.now in
    let opened = open_of c.args.opened.now in
    let all : list_all (is_cell_of opened) c.args.arguments ≡ true = sym (rw c.again.ensures at c.if-not-are_cells.ensures) in
    let same = accepts_same d.procedures d.compounds c.in-Some.callable _ _ _ _ (c.deref.ensures.value ∙ c.requires.kept.kinds) c.in-Some-place_arguments.ensures.some in
    let large = large_same _ _ _ _ c.requires.kept.size c.size-size.ensures.size in
    inl (
      faultless_call d opened c.args.callable.now c.args.arguments c.in-Some.callable (sym c.in-Some.ensures.named) all (same.0 (c.if-not-accepts_at.ensures.0 refl))
          (λ much. false≢true (c.if-outgrows.ensures.1 (large.1 much))),
      refl,
    )

pub place_arguments-requires-clause-some : goal.place_arguments-requires-clause-some
place_arguments-requires-clause-some g c = c.requires.some

pub place_arguments-requires-clause-known : goal.place_arguments-requires-clause-known
place_arguments-requires-clause-known g c = sym (rw c.again.ensures at c.if-not-are_cells.ensures)

pub accepts_at-requires-clause-there : goal.accepts_at-requires-clause-there
accepts_at-requires-clause-there g c = c.in-Some.ensures.there

pub size-size-requires : goal.size-size-requires
size-size-requires g c = c.in-Some.ensures.there

pub outgrows-requires : goal.outgrows-requires
outgrows-requires g c = record { small = (subst IsSmall (sym c.requires.kept.size) c.requires.kept.well.small, c.size-size.ensures.small) }

pub add_call-requires : goal.add_call-requires
add_call-requires g c = record { small = (subst IsSmall (sym c.requires.kept.size) c.requires.kept.well.small, c.size-size.ensures.small) }

pub returns-in-Err-clause-kept : goal.returns-in-Err-clause-kept
returns-in-Err-clause-kept g c = stays_open (declared c.args.declaration.now) c.args.opened.now c.add_call.new.opened c.requires.kept c.in-Err.ensures.err
