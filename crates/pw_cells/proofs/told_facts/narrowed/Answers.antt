use Rattle.std.proofs.Common.{◌≡◌, take, sym, ◌∙◌, ap}
use Rattle.pw_info.specs.declared.info.Info.{Info}
use Rattle.pw_info.specs.Information.{kind_of, meet}
use Rattle.pw_facts.specs.declared.fact.Fact.{Fact}
use Rattle.pw_facts.specs.Facts.{shows}
use Rattle.pw_facts.proofs.Shown.{shows-supported}
use Rattle.pw_cells.proofs.Together.{kind-fold}
use Rattle.pw_cells.proofs.ToldFacts.{adds_nothing, merged_next}
use Rattle.pw_cells.proofs.told_facts.narrowed.Goals as goal
use Rattle.pw_cells.proofs.told_facts.narrowed.Goals.{then-is_visible, else-is_visible}

pub narrow-requires : goal.narrow-requires
narrow-requires g c =
    let fact : Fact = c.held-item.result in
    ap kind_of c.loop-held.invariant
    ∙ kind-fold (kind_of c.args.info) c.args.worldview.now c.args.info (take c.loop-held.held-index c.args.facts.now) (λ j. kind_of c.args.info)
    ∙ sym (ap (λ (x : Fact). kind_of x.info) c.held-item.is ∙ c.requires c.loop-held.held-index fact c.loop-held-test.true)
    ∙ ap kind_of (sym c.info.ensures)

pub loop-held-preserved : goal.loop-held-preserved
loop-held-preserved g c =
    let w = c.args.worldview.now in
    let fact : Fact = c.held-item.result in
    let so_far = c.loop-held.invariant in
    let next = merged_next w c.args.info c.args.facts.now c.loop-held.held-index fact c.loop-held-test.true c.held-item.is in
    let alike : kind_of fact.info ≡ kind_of c.loop-held.merge =
    ap (λ (x : Fact). kind_of x.info) c.held-item.is ∙ c.requires c.loop-held.held-index fact c.loop-held-test.true
    ∙ sym (ap kind_of so_far ∙ kind-fold (kind_of c.args.info) w c.args.info (take c.loop-held.held-index c.args.facts.now) (λ j. kind_of c.args.info)) in
    elim c.if-is_visible.branch [
      | then-is_visible t ↦
          t.merge-is ∙ t.narrow.ensures
          ∙ (λ j. meet (so_far j) ((t.info.ensures ∙ sym (shows-supported w fact (sym c.is_visible.ensures ∙ t.if-is_visible.true))) j))
          ∙ sym next
      | else-is_visible e ↦
          e.merge-is
          ∙ sym (adds_nothing w c.loop-held.merge fact alike (sym c.is_visible.ensures ∙ e.if-is_visible.false))
          ∙ ap (λ (i : Info). meet i (shows w fact)) so_far
          ∙ sym next
    ]
