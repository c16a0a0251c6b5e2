use Rattle.std.proofs.Common.{◌≡◌, sym, ◌∙◌, ap}
use Rattle.pw_cells.specs.Cells.{Cell, fact_on}
use Rattle.pw_cells.specs.inside.Widths.{cell_of}
use Rattle.pw_cells.proofs.CellChanges.{is_news_so, keeps_so}
use Rattle.pw_cells.proofs.cell_facts.CellFacts.replace_one.Goals as goal

pub held-fact-requires : goal.held-fact-requires
held-fact-requires g c =
    let same : c.in-One.one ≡ c.args.self.now = ap cell_of (sym c.in-One.is) ∙ c.self.view_is in
    c.requires.kind ∙ sym (ap (λ (x : Cell). x.kind) same)

pub replace-requires : goal.replace-requires
replace-requires g c =
    let fact = fact_on c.args.info.now c.args.support in
    let same : c.in-One.one ≡ c.args.self.now = ap cell_of (sym c.in-One.is) ∙ c.self.view_is in
    is_news_so fact c.held-fact.result _ _ same c.held-fact.ensures c.requires

pub returns-clause-kept : goal.returns-clause-kept
returns-clause-kept g c = λ did.
    let fact = fact_on c.args.info.now c.args.support in
    let same : c.in-One.one ≡ c.args.self.now = ap cell_of (sym c.in-One.is) ∙ c.self.view_is in
    keeps_so fact c.held-fact.result _ _ c.replace.new.self same c.held-fact.ensures (c.replace.ensures.kept did)

pub returns-clause-none : goal.returns-clause-none
returns-clause-none g c = λ not. c.replace.ensures.none not ∙ ap cell_of (sym c.in-One.is) ∙ c.self.view_is
