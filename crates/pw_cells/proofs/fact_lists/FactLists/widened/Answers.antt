use Rattle.std.proofs.Common.{◌≡◌, List, length, refl, sym, ◌∙◌, ap, subst, arith}
use Rattle.pw_facts.specs.declared.fact.Fact.{Fact}
use Rattle.pw_cells.specs.Cells.{all_assimilated}
use Rattle.pw_cells.specs.inside.OneCell.{AreOfKind, Bounds, current}
use Rattle.pw_cells.proofs.fact_lists.FactLists.widened.Goals as goal

pub all_widened-requires : goal.all_widened-requires
all_widened-requires g c = omega (arith, ap length c.as_slice.ensures.value, c.len.ensures, c.self.inside.kept.ok)

pub all_widened-requires-2 : goal.all_widened-requires-2
all_widened-requires-2 g c = omega (arith, ap length c.as_slice-2.ensures.value, c.len-3.ensures, c.self.inside.late.ok)

pub invariant_of-result : goal.invariant_of-result
invariant_of-result g c =
    let kept : c.in_ok-all_widened.field-0.items ≡ c.self.inside.kept.items = c.in_ok-all_widened.ensures.items ∙ c.as_slice.ensures.value in
    let late : c.in_ok-all_widened-2.field-0.items ≡ c.self.inside.late.items = c.in_ok-all_widened-2.ensures.items ∙ c.as_slice-2.ensures.value in (
      rw (c.in_ok-widened.ensures, kept, late) c.self.invariant.0,
      omega (arith, ap length kept, ap length late, c.in_ok-all_widened.ensures.room, c.len.ensures, c.len-2.ensures),
      subst (λ (l : List Fact). Bounds c.self.inside.kind l c.self.inside.bound) (sym {A = List Fact} kept) c.self.invariant.2,
      refl,
      subst (AreOfKind c.self.inside.kind) (sym {A = List Fact} kept) c.self.invariant.4,
    )

pub returns : goal.returns
returns g c =
    let kept : c.in_ok-all_widened.field-0.items ≡ c.self.inside.kept.items = c.in_ok-all_widened.ensures.items ∙ c.as_slice.ensures.value in
    let late : c.in_ok-all_widened-2.field-0.items ≡ c.self.inside.late.items = c.in_ok-all_widened-2.ensures.items ∙ c.as_slice-2.ensures.value in
    (λ j. record {
      kind = c.self.inside.kind;
      told = c.in_ok-widened.ensures j;
      kept = all_assimilated (current (kept j)) (late j);
    }) ∙ c.self.view_is
