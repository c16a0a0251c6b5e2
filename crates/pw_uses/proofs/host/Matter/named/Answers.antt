use Rattle.std.proofs.Common.{ℕ, ◌<◌, [], ◌∷◌, length, refl, sym, ◌∙◌, subst, arith}
use Rattle.std.specs.Prelude.{All}
use Rattle.std.proofs.lemmas.List.Elements.{All-cons, All-nil}
use Rattle.pw_procs.specs.Registry.{cells_of}
use Rattle.pw_decl.proofs.CompoundLemmas.{accepts_same}
use Rattle.pw_decl.specs.Declaration.{Declared}
use Rattle.pw_decl.specs.inside.Fields.{declared}
use Rattle.pw_uses.proofs.host.Matter.named.Goals as goal

pub returns : goal.returns
returns g c =
    let d : Declared = declared c.args.declaration.now in
    let told : ℕ = c.in_ok-told.told in
    let asked : ℕ = c.in_ok-asked.asked in
    let cells = c.in_ok-cells.cells in
    let users : 1 < length d.users = omega (arith, c.if-users-lt2.false, c.users.ensures.count) in
    let one : 0 < length d.users = omega (arith, users) in
    let there : All (λ cell. cell < length d.cells) (told ∷ asked ∷ []) =
    All-cons (λ cell. cell < length d.cells) told (asked ∷ []) c.in_ok-told.ensures.within
    (All-cons (λ cell. cell < length d.cells) asked [] c.in_ok-asked.ensures.within (All-nil (λ cell. cell < length d.cells))) in
    let same = accepts_same d.procedures d.compounds c.in_ok-callable.callable c.kinds.result.now d.kinds (cells_of cells) (cells_of cells)
    c.kinds.ensures.kinds refl in
    record {
      users = users;
      attached = (one, (subst (All (λ cell. cell < length d.cells)) (sym c.in_ok-cells.ensures.cells) there, same.0 (c.if-not-accepts_at.ensures.0 refl)));
      told = (users, (c.in_ok-told.ensures.within, c.of_interval.ensures.kind ∙ c.in-Interval.ensures.kind));
      asked = c.in_ok-asked.ensures.within;
    }
