use Rattle.std.proofs.Common.{◌≡◌, sym, ◌∙◌, ap}
use Rattle.pw_info.specs.Information.{kind_of}
use Rattle.pw_facts.specs.declared.fact.Fact.{Fact}
use Rattle.pw_cells.specs.Cells.{Cell, fact_on}
use Rattle.pw_cells.specs.inside.Widths.{cell_in}
use Rattle.pw_cells.proofs.CellChanges.{still_then, tells_then}
use Rattle.pw_cells.proofs.many_facts.ManyFacts.tell.Goals as goal

pub held-requires : goal.held-requires
held-requires g c =
    let cell : c.in-Intervals.lists ≡ c.args.self.now = ap cell_in (sym c.in-Intervals.is) ∙ c.self.view_is in
    c.requires ∙ sym (ap (λ (x : Cell). x.kind) cell)

pub tell-requires : goal.tell-requires
tell-requires g c =
    let cell : c.in-Intervals.lists ≡ c.args.self.now = ap cell_in (sym c.in-Intervals.is) ∙ c.self.view_is in
    let held : c.held.result ≡ c.args.fact.now = c.held.ensures ∙ ap (fact_on c.args.fact.now.info) c.in-Some.ensures.some in
    ap (λ (f : Fact). kind_of f.info) held ∙ c.requires ∙ sym (ap (λ (x : Cell). x.kind) cell)

pub returns-in-Intervals-clause-told : goal.returns-in-Intervals-clause-told
returns-in-Intervals-clause-told g c =
    let cell : c.in-Intervals.lists ≡ c.args.self.now = ap cell_in (sym c.in-Intervals.is) ∙ c.self.view_is in
    let held : c.held.result ≡ c.args.fact.now = c.held.ensures ∙ ap (fact_on c.args.fact.now.info) c.in-Some.ensures.some in
    tells_then c.tell.result c.args.fact.now c.held.result _ _ c.tell.new.self cell held c.tell.ensures.told

pub returns-in-Intervals-clause-err : goal.returns-in-Intervals-clause-err
returns-in-Intervals-clause-err g c =
    let cell : c.in-Intervals.lists ≡ c.args.self.now = ap cell_in (sym c.in-Intervals.is) ∙ c.self.view_is in
    still_then c.tell.result _ _ c.tell.new.self cell c.tell.ensures.err

pub held-requires-in-Narrow : goal.held-requires-in-Narrow
held-requires-in-Narrow g c =
    let cell : c.in-Narrow.lists ≡ c.args.self.now = ap cell_in (sym c.in-Narrow.is) ∙ c.self.view_is in
    c.requires ∙ sym (ap (λ (x : Cell). x.kind) cell)

pub tell-requires-in-Narrow : goal.tell-requires-in-Narrow
tell-requires-in-Narrow g c =
    let cell : c.in-Narrow.lists ≡ c.args.self.now = ap cell_in (sym c.in-Narrow.is) ∙ c.self.view_is in
    let held : c.held-in-Narrow.result ≡ c.args.fact.now = c.held-in-Narrow.ensures ∙ ap (fact_on c.args.fact.now.info) c.in-Some.ensures.some in
    ap (λ (f : Fact). kind_of f.info) held ∙ c.requires ∙ sym (ap (λ (x : Cell). x.kind) cell)

pub returns-in-Narrow-clause-told : goal.returns-in-Narrow-clause-told
returns-in-Narrow-clause-told g c =
    let cell : c.in-Narrow.lists ≡ c.args.self.now = ap cell_in (sym c.in-Narrow.is) ∙ c.self.view_is in
    let held : c.held-in-Narrow.result ≡ c.args.fact.now = c.held-in-Narrow.ensures ∙ ap (fact_on c.args.fact.now.info) c.in-Some.ensures.some in
    tells_then c.tell-in-Narrow.result c.args.fact.now c.held-in-Narrow.result _ _ c.tell-in-Narrow.new.self cell held c.tell-in-Narrow.ensures.told

pub returns-in-Narrow-clause-err : goal.returns-in-Narrow-clause-err
returns-in-Narrow-clause-err g c =
    let cell : c.in-Narrow.lists ≡ c.args.self.now = ap cell_in (sym c.in-Narrow.is) ∙ c.self.view_is in
    still_then c.tell-in-Narrow.result _ _ c.tell-in-Narrow.new.self cell c.tell-in-Narrow.ensures.err
