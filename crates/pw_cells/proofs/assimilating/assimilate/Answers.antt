use Rattle.std.proofs.Common.{◌≡◌, false, refl, sym, ◌∙◌, arith}
use Rattle.std.specs.List.{list_any}
use Rattle.pw_kinds.proofs.Order.{not_both}
use Rattle.pw_info.specs.Information.{kind_of}
use Rattle.pw_cells.specs.Cells.{does_subsume}
use Rattle.pw_cells.specs.inside.OneCell.{AreOfKind, current}
use Rattle.pw_cells.proofs.Current.{kinds_current, subsumed_by_current, subsumed_by_some}
use Rattle.pw_cells.proofs.Late.{any_subsumes, none_subsume, assimilated_known, assimilated_news}
use Rattle.pw_cells.proofs.assimilating.assimilate.Goals as goal

pub assimilate_news-requires-clause-news : goal.assimilate_news-requires-clause-news
assimilate_news-requires-clause-news g c = λ held. not_both _ (c.requires.known.1 held) c.if-not-known.true

pub returns-then-not-known-clause-assimilated : goal.returns-then-not-known-clause-assimilated
returns-then-not-known-clause-assimilated g c =
    let f = c.args.fact.now in
    let kept = c.args.kept.now.items in
    let kinds : AreOfKind (kind_of f.info) (current kept) = kinds_current (kind_of f.info) kept c.requires.kinds in
    let none : list_any (λ x. does_subsume x f) (current kept) ≡ false =
    none_subsume (kind_of f.info) f (current kept) refl kinds (λ held. not_both _ (c.requires.known.1 (subsumed_by_some kept f held)) c.if-not-known.true) in
    c.assimilate_news.ensures.assimilated ∙ sym (assimilated_news f (current kept) none)

pub returns-else-not-known-clause-assimilated : goal.returns-else-not-known-clause-assimilated
returns-else-not-known-clause-assimilated g c =
    let f = c.args.fact.now in
    let kept = c.args.kept.now.items in
    sym (assimilated_known f (current kept)
    (any_subsumes (kind_of f.info) f (current kept) refl (kinds_current (kind_of f.info) kept c.requires.kinds)
    (subsumed_by_current (kind_of f.info) kept f c.requires.kinds (c.requires.known.0 c.if-not-known.false))))

pub returns-else-not-known-clause-kinds : goal.returns-else-not-known-clause-kinds
returns-else-not-known-clause-kinds g c = c.requires.kinds

pub returns-else-not-known-clause-bounds : goal.returns-else-not-known-clause-bounds
returns-else-not-known-clause-bounds g c = c.requires.bounds

pub returns-else-not-known-clause-len : goal.returns-else-not-known-clause-len
returns-else-not-known-clause-len g c = omega arith
