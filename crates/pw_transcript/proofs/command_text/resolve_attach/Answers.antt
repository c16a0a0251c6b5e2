use Rattle.std.proofs.Common.{◌≡◌, true, ap, sym, ◌∙◌, refl, length, rules}
use Rattle.std.specs.List.{list_all}
use Rattle.std.proofs.lemmas.Bool.{false≢true}
use Rattle.pw_premises.specs.Premises.{Premises}
use Rattle.pw_procs.specs.Registry.{cells_of}
use Rattle.pw_decl.proofs.CompoundLemmas.{places_there, accepts_same}
use Rattle.pw_decl.specs.inside.Fields.{declared}
use Rattle.pw_sessions.specs.declared.command.Command.TheVariants as commands
use Rattle.pw_transcript.specs.Reading.{cells_named, is_cell}
use Rattle.pw_transcript.specs.inside.Forms.{before_under}
use Rattle.pw_transcript.proofs.CellLists.{too_many, wrong_arguments}
use Rattle.pw_transcript.proofs.command_text.resolve_attach.Goals as goal

pub returns-in_default-named_cells : goal.returns-in_default-named_cells
returns-in_default-named_cells g c =
    let d = declared c.args.declaration.now in
    let words = before_under c.args.cells in
    let all : list_all (is_cell d) words ≡ true = sym (rw c.again.ensures at c.if-not-are_cells.ensures) in
    record {
      ok = tt;
      none = tt;
      err = wrong_arguments d c.args.user c.args.callable.now words c.args.under c.in-Some.callable (sym c.in-Some.ensures.named) all
          (too_many d c.in-Some.callable words c.limits.ensures all c.in_default-named_cells.ensures.none);
    }

pub accepts_at-requires-clause-places : goal.accepts_at-requires-clause-places
accepts_at-requires-clause-places g c =
    let d = declared c.args.declaration.now in
    places_there d.cells (before_under c.args.cells) (cells_of c.in-Some-named_cells.cells) c.kinds.result.now c.in-Some-named_cells.ensures.some.0
    (sym c.limits.ensures.kinds ∙ ap length (sym c.kinds.ensures.kinds))

pub returns-then-not-accepts_at : goal.returns-then-not-accepts_at
returns-then-not-accepts_at g c =
    let d = declared c.args.declaration.now in
    let words = before_under c.args.cells in
    let all : list_all (is_cell d) words ≡ true = sym (rw c.again.ensures at c.if-not-are_cells.ensures) in
    let same = accepts_same d.procedures d.compounds c.in-Some.callable c.kinds.result.now d.kinds (cells_of c.in-Some-named_cells.cells) (cells_named d words)
    c.kinds.ensures.kinds c.in-Some-named_cells.ensures.some.0 in
    record {
      ok = tt;
      none = tt;
      err = wrong_arguments d c.args.user c.args.callable.now words c.args.under c.in-Some.callable (sym c.in-Some.ensures.named) all
          (λ takes. false≢true (c.if-not-accepts_at.ensures.1 (same.1 takes)));
    }

pub returns : goal.returns
returns g c =
    let d = declared c.args.declaration.now in
    let words = before_under c.args.cells in
    let cells = c.in-Some-named_cells.cells in
    let all : list_all (is_cell d) words ≡ true = sym (rw c.again.ensures at c.if-not-are_cells.ensures) in
    let same = accepts_same d.procedures d.compounds c.in-Some.callable c.kinds.result.now d.kinds (cells_of cells) (cells_of cells) c.kinds.ensures.kinds refl in
    record {
      ok = (
        c.in-Some.callable,
        cells,
        sym c.in-Some.ensures.named,
        all,
        c.in-Some-named_cells.ensures.some,
        same.0 (c.if-not-accepts_at.ensures.0 refl),
        ap (λ (s : Premises). commands.Attach c.args.user c.in-Some.callable cells s) (c.in-Ok.ensures.ok),
      );
      none = search rules;
      err = tt;
    }
