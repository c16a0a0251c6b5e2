use Rattle.std.proofs.Common.{List, ℕ, refl, sym, ◌∙◌, subst}
use Rattle.std.proofs.lemmas.Option.{IfSome_then}
use Rattle.pw_info.specs.inside.Scanning.{AddsPlaces}
use Rattle.pw_info.proofs.Dots.{IfNone_then}
use Rattle.pw_info.proofs.Spellings.{IfNone_holds}
use Rattle.pw_info.proofs.NamesInARow.{begins_cut, is_read, no_member, seen_member, one_name_adds, name_and_row_add, no_row_behind, place_below}
use Rattle.pw_info.proofs.member_text.+read_names.Goals as goal

pub returns-in_err-place-clause-none : goal.returns-in_err-place-clause-none
returns-in_err-place-clause-none g t c =
    IfNone_holds c.from_residual.result (no_member _ c.args.text.now _ c.args.seen c.in_err-place.ensures.names c.requires.named
    (begins_cut _ _ _ c.cut_at_comma.ensures.first c.cut_at_comma.ensures.some c.cut_at_comma.ensures.none)
    c.in_err-place.ensures.none)

pub returns-then-contains-clause-none : goal.returns-then-contains-clause-none
returns-then-contains-clause-none g t c =
    seen_member _ c.args.text.now _ c.args.seen c.in_ok-place.place c.place.ensures.names c.requires.named
    (begins_cut _ _ _ c.cut_at_comma.ensures.first c.cut_at_comma.ensures.some c.cut_at_comma.ensures.none)
    c.in_ok-place.ensures.found (sym c.contains.ensures ∙ c.if-contains.true)

pub returns-in-Some-clause-some : goal.returns-in-Some-clause-some
returns-in-Some-clause-some g t c =
    IfSome_then c.read_names.result c.read_names.ensures.some
    (λ part. name_and_row_add _ c.args.text.now _ c.in-Some.rest.now c.in_ok-place.place c.args.seen c.with-seen.result part
    (is_read _ _ _ _ _ _ c.place.ensures.names c.requires.named c.in_ok-place.ensures.found c.contains.ensures c.if-contains.false c.with-seen.ensures.size c.with-seen.ensures.values)
    (rw c.in-Some.is at c.cut_at_comma.ensures.some))

pub returns-in-Some-clause-none : goal.returns-in-Some-clause-none
returns-in-Some-clause-none g t c =
    IfNone_then c.read_names.result c.read_names.result refl c.read_names.ensures.none
    (no_row_behind _ c.args.text.now _ c.in-Some.rest.now c.in_ok-place.place c.args.seen c.with-seen.result
    (is_read _ _ _ _ _ _ c.place.ensures.names c.requires.named c.in_ok-place.ensures.found c.contains.ensures c.if-contains.false c.with-seen.ensures.size c.with-seen.ensures.values)
    c.cut_at_comma.ensures.first (rw c.in-Some.is at c.cut_at_comma.ensures.some))

pub returns-in-None-clause-some : goal.returns-in-None-clause-some
returns-in-None-clause-some g t c =
    subst (λ (text : List ℕ). AddsPlaces (g.N.KindNames.members c.args.names.now c.args.set) text c.args.seen c.with-seen.result)
    (sym (rw c.in-None.is at c.cut_at_comma.ensures.none))
    (one_name_adds _ _ c.in_ok-place.place c.args.seen c.with-seen.result
    (is_read _ _ _ _ _ _ c.place.ensures.names c.requires.named c.in_ok-place.ensures.found c.contains.ensures c.if-contains.false c.with-seen.ensures.size c.with-seen.ensures.values))

pub with-seen-requires : goal.with-seen-requires
with-seen-requires g t c = place_below _ _ _ c.args.seen c.requires.named c.in_ok-place.ensures.found

pub returns-in_err-place-clause-some : goal.returns-in_err-place-clause-some
returns-in_err-place-clause-some g t c = rw c.from_residual.ensures tt
