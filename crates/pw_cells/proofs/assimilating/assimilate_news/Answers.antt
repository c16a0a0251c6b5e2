use Rattle.std.proofs.Common.{◌≡◌, ◌∷◌, ◌++◌, [], length, sym, ◌∙◌, ap, arith}
use Rattle.pw_info.specs.Information.{kind_of}
use Rattle.pw_facts.specs.declared.fact.Fact.{Fact}
use Rattle.pw_cells.specs.inside.OneCell.{current}
use Rattle.pw_cells.proofs.Current.{only_gone}
use Rattle.pw_cells.proofs.Late.{subsume_test}
use Rattle.pw_cells.proofs.assimilating.assimilate_news.Goals as goal

pub returns-then-subsumes-clause-assimilated : goal.returns-then-subsumes-clause-assimilated
returns-then-subsumes-clause-assimilated g c =
    let fact = c.args.fact.now in
    let held : Fact = c.index.result.now in
    let facts = c.args.kept.now.items in
    let only : length facts ≡ 1 = omega (arith, c.len.ensures, c.if-len-eq1.true) in
    let one : kind_of fact.info ≡ kind_of held.info = sym (ap (λ (y : Fact). kind_of y.info) c.index.ensures ∙ c.requires.kinds 0 held (omega (arith, only))) in
    let gone = only_gone fact held facts only c.index.ensures (subsume_test fact held one (c.subsumes.ensures.answer.0 c.if-subsumes.true)) in
    ap current c.replace_only.ensures.items ∙ ap (λ l. l ++ fact ∷ []) (sym gone)
