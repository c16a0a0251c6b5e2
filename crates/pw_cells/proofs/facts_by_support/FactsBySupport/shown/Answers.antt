use Rattle.std.proofs.Common.{◌<◌, length, get_or, take, sym, ◌∙◌, ap, arith}
use Rattle.std.proofs.lemmas.List.{get_or_default}
use Rattle.pw_info.specs.Information.{kind_of, meet}
use Rattle.pw_facts.specs.declared.fact.Fact.{Fact}
use Rattle.pw_facts.proofs.Shown.{shows-supported}
use Rattle.pw_cells.proofs.Together.{kind-shown_by, shown_unsupported}
use Rattle.pw_cells.proofs.FactsBySupport.{fact_at, shown_next}
use Rattle.pw_cells.proofs.facts_by_support.FactsBySupport.shown.Goals as goal
use Rattle.pw_cells.proofs.facts_by_support.FactsBySupport.shown.Goals.{then-is_within, else-is_within}

pub narrow-requires : goal.narrow-requires
narrow-requires g c =
    let told = c.args.self.now in
    let i = c.loop-place.place in
    let support = c.index-supports-place.result in
    let fact : Fact = record { info = c.index-infos-place.result; support = g.S.Support.premises support } in
    let at = fact_at _ _ told _ _ i support fact.info c.self.view_is (c.as_slice-supports.ensures ∙ c.keys.ensures.rest) (c.as_slice-infos.ensures ∙ c.values.ensures.rest)
    c.loop-place-test.true c.index-supports-place.is c.index-infos-place.is in
    ap kind_of c.loop-place.invariant
    ∙ kind-shown_by c.args.kind c.args.worldview.now (take i told)
    ∙ sym (ap (λ (f : Fact). kind_of f.info) at.1 ∙ c.requires i fact at.0)

pub loop-place-preserved : goal.loop-place-preserved
loop-place-preserved g c =
    let told = c.args.self.now in
    let kind = c.args.kind in
    let worldview = c.args.worldview.now in
    let i = c.loop-place.place in
    let support = c.index-supports-place.result in
    let supports = c.as_slice-supports.ensures ∙ c.keys.ensures.rest in
    let infos = c.as_slice-infos.ensures ∙ c.values.ensures.rest in
    elim c.if-is_within.branch [
      | then-is_within w ↦
          let fact : Fact = record { info = w.index-infos-place.result; support = g.S.Support.premises support } in
          let at = fact_at _ _ told _ _ i support fact.info c.self.view_is supports infos c.loop-place-test.true c.index-supports-place.is w.index-infos-place.is in
          w.info-is ∙ w.narrow.ensures
          ∙ (λ j. meet (c.loop-place.invariant j) (sym (shows-supported worldview fact (sym c.is_within.ensures ∙ w.if-is_within.true)) j))
          ∙ sym (shown_next kind worldview told i fact at)
      | else-is_within w ↦
          let all = c.as_slice-infos.result.now in
          let within : i < length all = omega (arith, c.loop-place-test.true, ap length c.as_slice-supports.ensures, ap length c.as_slice-infos.ensures, c.keys.ensures.len, c.values.ensures.len) in
          let info = get_or all i c.loop-place.info in
          let fact : Fact = record { info = info; support = g.S.Support.premises support } in
          let at = fact_at _ _ told _ _ i support info c.self.view_is supports infos c.loop-place-test.true c.index-supports-place.is (get_or_default all i c.loop-place.info info within) in
          w.info-is ∙ c.loop-place.invariant
          ∙ sym (shown_next kind worldview told i fact at
          ∙ shown_unsupported kind worldview (take i told) fact (ap (λ (f : Fact). kind_of f.info) at.1 ∙ c.requires i fact at.0) (sym c.is_within.ensures ∙ w.if-is_within.false))
    ]
