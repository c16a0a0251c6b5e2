use Rattle.std.proofs.Common.{◌≡◌, get_or, ap, sym, subst, length, ◌<◌, arith}
use Rattle.std.proofs.lemmas.List.{length-map}
use Rattle.std.proofs.lemmas.List.Elements.{All-get_or}
use Rattle.std.specs.Str.{IsUtf8}
use Rattle.pw_procs.specs.inside.Shapes.{name_bytes}
use Rattle.pw_procs.proofs.PlaceLemmas.{own_name, name_there}
use Rattle.pw_procs.proofs.name_table.NameTable.name.Goals as goal

pub unreachable-requires : goal.unreachable-requires
unreachable-requires g c =
    let keys = c.self.inside.set.keys in
    let at : c.index-as_slice-number.result ≡ get_or keys c.args.number c.index-as_slice-number.result = rw c.as_slice.ensures.keys at c.index-as_slice-number.is in
    let below : c.args.number < length keys = omega (arith, c.requires, ap length c.self.view_is, length-map keys name_bytes) in
    let text : IsUtf8 (name_bytes c.index-as_slice-number.result) =
    subst (λ name. IsUtf8 (name_bytes name)) (sym at) (All-get_or (λ name. IsUtf8 (name_bytes name)) keys c.args.number c.index-as_slice-number.result below c.self.invariant) in
    c.in_default.ensures.cases.0 (subst IsUtf8 (sym c.bytes.ensures) text)

pub returns-clause-name : goal.returns-clause-name
returns-clause-name g c =
    let at : c.index-as_slice-number.result ≡ get_or c.self.inside.set.keys c.args.number c.index-as_slice-number.result = rw c.as_slice.ensures.keys at c.index-as_slice-number.is in
    rw (c.in-Ok.ensures.cases.0, c.bytes.ensures)
    (name_there name_bytes c.self.inside.set.keys c.args.self.now c.args.number c.index-as_slice-number.result c.self.view_is c.requires at)

pub returns-clause-own : goal.returns-clause-own
returns-clause-own g c =
    let at : c.index-as_slice-number.result ≡ get_or c.self.inside.set.keys c.args.number c.index-as_slice-number.result = rw c.as_slice.ensures.keys at c.index-as_slice-number.is in
    rw (c.in-Ok.ensures.cases.0, c.bytes.ensures)
    (own_name name_bytes c.self.inside.set.keys c.args.self.now c.args.number c.index-as_slice-number.result c.self.view_is c.requires at c.as_slice.ensures.unique)

pub offset_bounds-as_slice-number : goal.offset_bounds-as_slice-number
offset_bounds-as_slice-number g c = omega (arith, c.requires, ap length c.self.view_is, length-map c.self.inside.set.keys name_bytes, ap length c.as_slice.ensures.keys)

pub bounds-as_slice-number : goal.bounds-as_slice-number
bounds-as_slice-number g c = omega (arith, c.requires, ap length c.self.view_is, length-map c.self.inside.set.keys name_bytes, ap length c.as_slice.ensures.keys)
