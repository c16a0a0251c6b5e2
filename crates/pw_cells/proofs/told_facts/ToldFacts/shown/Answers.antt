use Rattle.std.proofs.Common.{List, sym, ◌∙◌, ap, subst}
use Rattle.std.specs.Prelude.{fold}
use Rattle.std.proofs.lemmas.List.Sums.{fold-append}
use Rattle.pw_info.specs.Information.{kind_of, nothing}
use Rattle.pw_facts.specs.declared.fact.Fact.{Fact}
use Rattle.pw_cells.specs.Cells.{shown_by}
use Rattle.pw_cells.specs.inside.OneCell.{AreOfKind}
use Rattle.pw_cells.proofs.Together.{with_shown, kind-shown_by}
use Rattle.pw_cells.proofs.ToldFacts.{kinds_last}
use Rattle.pw_cells.proofs.told_facts.ToldFacts.shown.Goals as goal

pub narrowed-requires : goal.narrowed-requires
narrowed-requires g c =
    let k = c.args.kind in
    let all = subst (AreOfKind k) (sym {A = List Fact} c.self.view_is) c.requires in
    let kinds : AreOfKind k c.as_slice.result.now =
    subst (AreOfKind k) (sym {A = List Fact} c.as_slice.ensures.value) (kinds_last k c.self.inside.others c.self.inside.few.items all) in
    λ j d below. kinds j d below ∙ sym (ap kind_of c.shown-info.ensures ∙ kind-shown_by k c.args.worldview.now c.self.inside.others)

pub returns : goal.returns
returns g c =
    let w = c.args.worldview.now in
    let k = c.args.kind in
    c.narrowed.ensures
    ∙ (λ j. fold (with_shown w) (c.shown-info.ensures j) (c.as_slice.ensures.value j))
    ∙ sym (fold-append (with_shown w) (nothing k) c.self.inside.others c.self.inside.few.items)
    ∙ ap (shown_by k w) c.self.view_is
