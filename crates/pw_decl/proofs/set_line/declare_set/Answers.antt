use Rattle.std.proofs.Common.{inl, refl, ap, ◌∙◌}
use Rattle.pw_info.proofs.NameLemmas.{all_passed}
use Rattle.pw_decl.specs.Declaration.{Outside, with_set}
use Rattle.pw_decl.specs.inside.Fields.{declared}
use Rattle.pw_decl.proofs.set_line.declare_set.Goals as goal

pub returns-in-Some-clause-err : goal.returns-in-Some-clause-err
returns-in-Some-clause-err g c = rw c.again.ensures at c.in-Some.ensures.some

pub name_members-requires-clause-distinct : goal.name_members-requires-clause-distinct
name_members-requires-clause-distinct g c = rw c.again.ensures at c.in_default.ensures.distinct

pub returns-in_default-name_members-clause-err : goal.returns-in_default-name_members-clause-err
returns-in_default-name_members-clause-err g c = inl (rw c.again.ensures at c.in_default.ensures.none, refl)

pub add_set-requires-clause-fresh : goal.add_set-requires-clause-fresh
add_set-requires-clause-fresh g c = c.in_default.ensures.fresh

pub add_set-requires-clause-room : goal.add_set-requires-clause-room
add_set-requires-clause-room g c = c.in_default.ensures.room

pub add_set-requires-clause-size : goal.add_set-requires-clause-size
add_set-requires-clause-size g c = rw (c.in-Ok.ensures, ← c.again.ensures) c.in_default.ensures.size

pub add_set-requires-clause-names : goal.add_set-requires-clause-names
add_set-requires-clause-names g c =
    let distinct = rw c.again.ensures at c.in_default.ensures.distinct in
    rw c.in-Ok.ensures (record { each = all_passed c.args.members c.requires.names; differ = distinct })

pub returns-in-Err-clause-err : goal.returns-in-Err-clause-err
returns-in-Err-clause-err g c = inl (rw c.again.ensures at c.in_default.ensures.none, refl)

pub returns-in-Ok-add_set-clause-ok : goal.returns-in-Ok-add_set-clause-ok
returns-in-Ok-add_set-clause-ok g c =
    record { faultless = rw c.again.ensures at c.in_default.ensures.none; makes = ap Outside (c.in-Ok-add_set.ensures.ok ∙ ap (with_set (declared c.args.declaration.now) c.args.name.now) c.in-Ok.ensures) }
