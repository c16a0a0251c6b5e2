use Rattle.std.proofs.Common.{◌≡◌, false, sym, ◌∙◌, ap, subst}
use Rattle.std.specs.Prelude.{IfOk}
use Rattle.pw_info.specs.Information.{kind_of}
use Rattle.pw_facts.specs.declared.fact.Fact.{Fact}
use Rattle.pw_cells.specs.Cells.{Cell, fact_on}
use Rattle.pw_cells.specs.inside.Widths.{cell_in}
use Rattle.pw_cells.proofs.CellChanges.{still_then, keeps_then}
use Rattle.pw_cells.proofs.many_facts.ManyFacts.keep.Goals as goal

pub held-requires : goal.held-requires
held-requires g c =
    let cell : c.in-Intervals.lists ≡ c.args.self.now = ap cell_in (sym c.in-Intervals.is) ∙ c.self.view_is in
    c.requires ∙ sym (ap (λ (x : Cell). x.kind) cell)

pub keep-requires : goal.keep-requires
keep-requires g c =
    let cell : c.in-Intervals.lists ≡ c.args.self.now = ap cell_in (sym c.in-Intervals.is) ∙ c.self.view_is in
    let held : c.held.result ≡ c.args.fact.now = c.held.ensures ∙ ap (fact_on c.args.fact.now.info) c.in-Some.ensures.some in
    ap (λ (f : Fact). kind_of f.info) held ∙ c.requires ∙ sym (ap (λ (x : Cell). x.kind) cell)

pub returns-in-Intervals-clause-answer : goal.returns-in-Intervals-clause-answer
returns-in-Intervals-clause-answer g c =
    let cell : c.in-Intervals.lists ≡ c.args.self.now = ap cell_in (sym c.in-Intervals.is) ∙ c.self.view_is in
    let held : c.held.result ≡ c.args.fact.now = c.held.ensures ∙ ap (fact_on c.args.fact.now.info) c.in-Some.ensures.some in
    rw (held, ap (λ (cell : Cell). cell.kept) cell) at c.keep.ensures.answer

pub returns-in-Intervals-clause-known : goal.returns-in-Intervals-clause-known
returns-in-Intervals-clause-known g c =
    let cell : c.in-Intervals.lists ≡ c.args.self.now = ap cell_in (sym c.in-Intervals.is) ∙ c.self.view_is in
    subst (λ (x : Cell). IfOk c.keep.result (λ news. news ≡ false → c.keep.new.self ≡ x)) cell c.keep.ensures.known

pub returns-in-Intervals-clause-kept : goal.returns-in-Intervals-clause-kept
returns-in-Intervals-clause-kept g c =
    let cell : c.in-Intervals.lists ≡ c.args.self.now = ap cell_in (sym c.in-Intervals.is) ∙ c.self.view_is in
    let held : c.held.result ≡ c.args.fact.now = c.held.ensures ∙ ap (fact_on c.args.fact.now.info) c.in-Some.ensures.some in
    keeps_then c.keep.result c.args.fact.now c.held.result _ _ c.keep.new.self cell held c.keep.ensures.kept

pub returns-in-Intervals-clause-err : goal.returns-in-Intervals-clause-err
returns-in-Intervals-clause-err g c =
    let cell : c.in-Intervals.lists ≡ c.args.self.now = ap cell_in (sym c.in-Intervals.is) ∙ c.self.view_is in
    still_then c.keep.result _ _ c.keep.new.self cell c.keep.ensures.err

pub held-requires-in-Narrow : goal.held-requires-in-Narrow
held-requires-in-Narrow g c =
    let cell : c.in-Narrow.lists ≡ c.args.self.now = ap cell_in (sym c.in-Narrow.is) ∙ c.self.view_is in
    c.requires ∙ sym (ap (λ (x : Cell). x.kind) cell)

pub keep-requires-in-Narrow : goal.keep-requires-in-Narrow
keep-requires-in-Narrow g c =
    let cell : c.in-Narrow.lists ≡ c.args.self.now = ap cell_in (sym c.in-Narrow.is) ∙ c.self.view_is in
    let held : c.held-in-Narrow.result ≡ c.args.fact.now = c.held-in-Narrow.ensures ∙ ap (fact_on c.args.fact.now.info) c.in-Some.ensures.some in
    ap (λ (f : Fact). kind_of f.info) held ∙ c.requires ∙ sym (ap (λ (x : Cell). x.kind) cell)

pub returns-in-Narrow-clause-answer : goal.returns-in-Narrow-clause-answer
returns-in-Narrow-clause-answer g c =
    let cell : c.in-Narrow.lists ≡ c.args.self.now = ap cell_in (sym c.in-Narrow.is) ∙ c.self.view_is in
    let held : c.held-in-Narrow.result ≡ c.args.fact.now = c.held-in-Narrow.ensures ∙ ap (fact_on c.args.fact.now.info) c.in-Some.ensures.some in
    rw (held, ap (λ (cell : Cell). cell.kept) cell) at c.keep-in-Narrow.ensures.answer

pub returns-in-Narrow-clause-known : goal.returns-in-Narrow-clause-known
returns-in-Narrow-clause-known g c =
    let cell : c.in-Narrow.lists ≡ c.args.self.now = ap cell_in (sym c.in-Narrow.is) ∙ c.self.view_is in
    subst (λ (x : Cell). IfOk c.keep-in-Narrow.result (λ news. news ≡ false → c.keep-in-Narrow.new.self ≡ x)) cell c.keep-in-Narrow.ensures.known

pub returns-in-Narrow-clause-kept : goal.returns-in-Narrow-clause-kept
returns-in-Narrow-clause-kept g c =
    let cell : c.in-Narrow.lists ≡ c.args.self.now = ap cell_in (sym c.in-Narrow.is) ∙ c.self.view_is in
    let held : c.held-in-Narrow.result ≡ c.args.fact.now = c.held-in-Narrow.ensures ∙ ap (fact_on c.args.fact.now.info) c.in-Some.ensures.some in
    keeps_then c.keep-in-Narrow.result c.args.fact.now c.held-in-Narrow.result _ _ c.keep-in-Narrow.new.self cell held c.keep-in-Narrow.ensures.kept

pub returns-in-Narrow-clause-err : goal.returns-in-Narrow-clause-err
returns-in-Narrow-clause-err g c =
    let cell : c.in-Narrow.lists ≡ c.args.self.now = ap cell_in (sym c.in-Narrow.is) ∙ c.self.view_is in
    still_then c.keep-in-Narrow.result _ _ c.keep-in-Narrow.new.self cell c.keep-in-Narrow.ensures.err
