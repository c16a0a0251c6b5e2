use Rattle.std.proofs.Common.{◌≡◌, false, sym, ◌∙◌, ap, subst}
use Rattle.std.specs.Prelude.{IfOk}
use Rattle.pw_info.specs.Information.{kind_of}
use Rattle.pw_facts.specs.declared.fact.Fact.{Fact}
use Rattle.pw_cells.specs.Cells.{Cell}
use Rattle.pw_cells.specs.Changes.{TellsNews}
use Rattle.pw_cells.specs.inside.CellChanges.{KeepsFact}
use Rattle.pw_cells.specs.inside.Widths.{cell_in}
use Rattle.pw_cells.proofs.CellChanges.{still_then, keeps_so, keeps_then}
use Rattle.pw_cells.proofs.many_facts.ManyFacts.keep_wide.Goals as goal

-- facts with the same information and the same support are the same
fact_same : (held fact : Fact) → held.info ≡ fact.info → held.support ≡ fact.support → held ≡ fact
fact_same held fact info support = λ j. record { info = info j; support = support j }

pub keep-requires : goal.keep-requires
keep-requires g c =
    let same : c.in-Wide.lists ≡ c.args.self.now = ap cell_in (sym c.in-Wide.is) ∙ c.self.view_is in
    ap kind_of c.on-held.ensures.info ∙ c.requires ∙ sym (ap (λ (x : Cell). x.kind) same)

pub keep-requires-2 : goal.keep-requires-2
keep-requires-2 g c =
    let same : c.in_ok-wide.wide ≡ c.args.self.now = c.in_ok-wide.ensures ∙ c.self.view_is in
    ap kind_of c.on-held.ensures.info ∙ c.requires ∙ sym (ap (λ (x : Cell). x.kind) same)

pub returns-in-Wide-clause-answer : goal.returns-in-Wide-clause-answer
returns-in-Wide-clause-answer g c =
    let same : c.in-Wide.lists ≡ c.args.self.now = ap cell_in (sym c.in-Wide.is) ∙ c.self.view_is in
    let held : c.on-held.result ≡ c.args.fact.now = fact_same c.on-held.result c.args.fact.now c.on-held.ensures.info c.on-held.ensures.support in
    subst (λ (x : Cell). IfOk c.keep.result (TellsNews x.kept c.args.fact.now)) same
    (subst (λ (x : Fact). IfOk c.keep.result (TellsNews c.in-Wide.lists.kept x)) held c.keep.ensures.answer)

pub returns-in-Wide-clause-known : goal.returns-in-Wide-clause-known
returns-in-Wide-clause-known g c =
    let same : c.in-Wide.lists ≡ c.args.self.now = ap cell_in (sym c.in-Wide.is) ∙ c.self.view_is in
    subst (λ (x : Cell). IfOk c.keep.result (λ news. news ≡ false → c.keep.new.self ≡ x)) same c.keep.ensures.known

pub returns-in-Wide-clause-kept : goal.returns-in-Wide-clause-kept
returns-in-Wide-clause-kept g c =
    let same : c.in-Wide.lists ≡ c.args.self.now = ap cell_in (sym c.in-Wide.is) ∙ c.self.view_is in
    let held : c.on-held.result ≡ c.args.fact.now = fact_same c.on-held.result c.args.fact.now c.on-held.ensures.info c.on-held.ensures.support in
    keeps_then c.keep.result c.args.fact.now c.on-held.result _ _ c.keep.new.self same held c.keep.ensures.kept

pub returns-in-Wide-clause-err : goal.returns-in-Wide-clause-err
returns-in-Wide-clause-err g c =
    let same : c.in-Wide.lists ≡ c.args.self.now = ap cell_in (sym c.in-Wide.is) ∙ c.self.view_is in
    still_then c.keep.result _ _ c.keep.new.self same c.keep.ensures.err

pub returns-clause-answer : goal.returns-clause-answer
returns-clause-answer g c =
    let same : c.in_ok-wide.wide ≡ c.args.self.now = c.in_ok-wide.ensures ∙ c.self.view_is in
    let held : c.on-held.result ≡ c.args.fact.now = fact_same c.on-held.result c.args.fact.now c.on-held.ensures.info c.on-held.ensures.support in
    subst (λ (x : Cell). TellsNews x.kept c.args.fact.now c.in_ok-news.news) same
    (subst (λ (x : Fact). TellsNews c.in_ok-wide.wide.kept x c.in_ok-news.news) held c.in_ok-news.ensures.answer)

pub returns-clause-known : goal.returns-clause-known
returns-clause-known g c =
    let same : c.in_ok-wide.wide ≡ c.args.self.now = c.in_ok-wide.ensures ∙ c.self.view_is in
    λ old. c.hold_wide.ensures ∙ c.in_ok-news.ensures.known old ∙ same

pub returns-clause-kept : goal.returns-clause-kept
returns-clause-kept g c =
    let same : c.in_ok-wide.wide ≡ c.args.self.now = c.in_ok-wide.ensures ∙ c.self.view_is in
    let held : c.on-held.result ≡ c.args.fact.now = fact_same c.on-held.result c.args.fact.now c.on-held.ensures.info c.on-held.ensures.support in
    subst (λ (x : Cell). KeepsFact c.args.fact.now c.args.self.now x) (sym c.hold_wide.ensures)
    (keeps_so c.args.fact.now c.on-held.result _ _ c.keep-2.new.self same held c.in_ok-news.ensures.kept)
