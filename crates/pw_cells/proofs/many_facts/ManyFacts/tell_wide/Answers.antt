use Rattle.std.proofs.Common.{◌≡◌, sym, ◌∙◌, ap, subst}
use Rattle.pw_info.specs.Information.{kind_of}
use Rattle.pw_facts.specs.declared.fact.Fact.{Fact}
use Rattle.pw_cells.specs.Cells.{Cell}
use Rattle.pw_cells.specs.inside.CellChanges.{TellsFact}
use Rattle.pw_cells.specs.inside.Widths.{cell_in}
use Rattle.pw_cells.proofs.CellChanges.{still_then, tells_so, tells_then}
use Rattle.pw_cells.proofs.many_facts.ManyFacts.tell_wide.Goals as goal

-- facts with the same information and the same support are the same
fact_same : (held fact : Fact) → held.info ≡ fact.info → held.support ≡ fact.support → held ≡ fact
fact_same held fact info support = λ j. record { info = info j; support = support j }

pub tell-requires : goal.tell-requires
tell-requires g c =
    let same : c.in-Wide.lists ≡ c.args.self.now = ap cell_in (sym c.in-Wide.is) ∙ c.self.view_is in
    ap kind_of c.on-held.ensures.info ∙ c.requires ∙ sym (ap (λ (x : Cell). x.kind) same)

pub tell-requires-2 : goal.tell-requires-2
tell-requires-2 g c =
    let same : c.in_ok-wide.wide ≡ c.args.self.now = c.in_ok-wide.ensures ∙ c.self.view_is in
    ap kind_of c.on-held.ensures.info ∙ c.requires ∙ sym (ap (λ (x : Cell). x.kind) same)

pub returns-in-Wide-clause-told : goal.returns-in-Wide-clause-told
returns-in-Wide-clause-told g c =
    let same : c.in-Wide.lists ≡ c.args.self.now = ap cell_in (sym c.in-Wide.is) ∙ c.self.view_is in
    let held : c.on-held.result ≡ c.args.fact.now = fact_same c.on-held.result c.args.fact.now c.on-held.ensures.info c.on-held.ensures.support in
    tells_then c.tell.result c.args.fact.now c.on-held.result _ _ c.tell.new.self same held c.tell.ensures.told

pub returns-in-Wide-clause-err : goal.returns-in-Wide-clause-err
returns-in-Wide-clause-err g c =
    let same : c.in-Wide.lists ≡ c.args.self.now = ap cell_in (sym c.in-Wide.is) ∙ c.self.view_is in
    still_then c.tell.result _ _ c.tell.new.self same c.tell.ensures.err

pub returns-clause-told : goal.returns-clause-told
returns-clause-told g c =
    let same : c.in_ok-wide.wide ≡ c.args.self.now = c.in_ok-wide.ensures ∙ c.self.view_is in
    let held : c.on-held.result ≡ c.args.fact.now = fact_same c.on-held.result c.args.fact.now c.on-held.ensures.info c.on-held.ensures.support in
    subst (λ (x : Cell). TellsFact c.args.fact.now c.args.self.now x) (sym c.hold_wide.ensures)
    (tells_so c.args.fact.now c.on-held.result _ _ c.tell-2.new.self same held c.in_ok-tell.ensures.told)
