use Rattle.std.proofs.Common.{◌≡◌, true, None, sym, ◌∙◌, ap}
use Rattle.std.specs.Prelude.{is_some}
use Rattle.pw_procs.specs.Registering.{place_of_name}
use Rattle.pw_decl.specs.Declaration.{built_in_kind_names, kind_names}
use Rattle.pw_decl.specs.inside.Fields.{declared}
use Rattle.pw_decl.proofs.SetLemmas.{declared_kind, kind_is_there, is_some-option_map, at_some, at_none}
use Rattle.pw_decl.proofs.declaration.Declaration.has_kind.Goals as goal

pub returns-then-is_some : goal.returns-then-is_some
returns-then-is_some g c =
    let d = declared c.args.self.now in
    let there : is_some (place_of_name (kind_names d) c.args.name.now) ≡ true = at_some c.built_in_kind.result (sym c.if-is_some.ensures) c.built_in_kind.ensures.some (λ kind named. kind_is_there d c.args.name.now kind (named d).0) in
    rw c.if-is_some.true (sym there)

pub returns-else-is_some : goal.returns-else-is_some
returns-else-is_some g c =
    let d = declared c.args.self.now in
    let none : place_of_name built_in_kind_names c.args.name.now ≡ None = at_none c.built_in_kind.result (sym c.if-is_some.ensures) c.built_in_kind.ensures.none in
    rw (declared_kind d c.args.name.now none, is_some-option_map) (c.is_some-else-is_some.ensures ∙ ap is_some c.find.ensures.number)
