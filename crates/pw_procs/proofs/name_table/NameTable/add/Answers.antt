use Rattle.std.proofs.Common.{◌≡◌, ◌∙◌, map, None, ap}
use Rattle.std.proofs.lemmas.Str.{IsUtf8-string_bytes}
use Rattle.std.specs.Str.{IsUtf8}
use Rattle.pw_procs.specs.Registering.{place_of_name}
use Rattle.pw_procs.specs.inside.Shapes.{name_bytes}
use Rattle.pw_procs.specs.declared.name.Name.TheVariants.{Kept}
use Rattle.pw_procs.proofs.PlaceLemmas.{added, texts_added}
use Rattle.pw_procs.proofs.name_table.NameTable.add.Goals as goal

pub invariant_of-self : goal.invariant_of-self
invariant_of-self g c = rw c.in_err-insert.ensures.err c.self.invariant

pub invariant_of-self-2 : goal.invariant_of-self-2
invariant_of-self-2 g c =
    let text : IsUtf8 c.into_bytes-key.result.items = rw c.into_bytes-key.ensures.value (IsUtf8-string_bytes c.in_ok-from_str.field-0) in
    rw c.in_ok-insert.ensures.keys (texts_added name_bytes (Kept c.into_bytes-key.result) c.self.inside.set.keys text c.self.invariant)

pub returns-clause-ok : goal.returns-clause-ok
returns-clause-ok g c =
    let key : c.into_bytes-key.result.items ≡ c.args.name.now = ap (λ bytes. bytes.items) c.into_bytes-key.ensures.value ∙ c.in_ok-from_str.ensures.ok in
    let new : place_of_name (map name_bytes c.self.inside.set.keys) c.into_bytes-key.result.items ≡ None = rw (key, c.self.view_is) c.requires in
    rw (c.in_ok-insert.ensures.keys, ← c.self.view_is, ← key) (added name_bytes (Kept c.into_bytes-key.result) c.self.inside.set.keys new)
