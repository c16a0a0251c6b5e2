use Rattle.std.proofs.Common.{List, [], ◌∷◌, ◌++◌, length, length-append, refl, sym, ◌∙◌, ap, subst, arith}
use Rattle.pw_info.specs.declared.kind.Kind.{Kind}
use Rattle.pw_info.specs.Information.{kind_of}
use Rattle.pw_facts.specs.declared.fact.Fact.{Fact}
use Rattle.pw_cells.specs.Cells.{unsubsumed, IsSubsumedBy}
use Rattle.pw_cells.specs.inside.OneCell.{AreOfKind, Bounds, current}
use Rattle.pw_cells.proofs.Bounds.{bounds_pushed, kinds_pushed}
use Rattle.pw_cells.proofs.Current.{subsumed_by_current, subsumed_by_some}
use Rattle.pw_cells.proofs.assimilating.push_news.Goals as goal

pub make_way-requires-clause-news : goal.make_way-requires-clause-news
make_way-requires-clause-news g c = λ held.
    let f = c.args.fact.now in
    let now : IsSubsumedBy (current c.shorten.new.kept.items) f =
    subsumed_by_current (kind_of c.args.bound.now.info) c.shorten.new.kept.items f c.shorten.ensures.kinds held in
    let before : IsSubsumedBy (current c.args.kept.now.items) f = subst (λ (l : List Fact). IsSubsumedBy l f) c.shorten.ensures.current now in
    c.requires.news (subsumed_by_some c.args.kept.now.items f before)

pub returns-clause-assimilated : goal.returns-clause-assimilated
returns-clause-assimilated g c = ap current c.append.ensures.items ∙ c.make_way.ensures.current ∙ ap (λ l. unsubsumed c.args.fact.now l ++ c.args.fact.now ∷ []) c.shorten.ensures.current

pub shorten-requires-clause-kinds : goal.shorten-requires-clause-kinds
shorten-requires-clause-kinds g c =
    subst (λ (k : Kind). AreOfKind k c.args.kept.now.items) (sym {A = Kind} c.requires.bounds.of_kind) c.requires.kinds

pub shorten-requires-clause-bounds : goal.shorten-requires-clause-bounds
shorten-requires-clause-bounds g c =
    subst (λ (k : Kind). Bounds k c.args.kept.now.items c.args.bound.now) (sym {A = Kind} c.requires.bounds.of_kind) c.requires.bounds

pub make_way-requires-clause-kinds : goal.make_way-requires-clause-kinds
make_way-requires-clause-kinds g c =
    subst (λ (k : Kind). AreOfKind k c.shorten.new.kept.items) c.requires.bounds.of_kind c.shorten.ensures.kinds

pub make_way-requires-clause-bounds : goal.make_way-requires-clause-bounds
make_way-requires-clause-bounds g c =
    subst (λ (k : Kind). Bounds k c.shorten.new.kept.items c.shorten.new.bound) c.requires.bounds.of_kind c.shorten.ensures.bounds

pub append-requires : goal.append-requires
append-requires g c =
    omega (arith, c.requires.room, c.shorten.ensures.len, c.shorten.ensures.capacity, c.make_way.ensures.len, c.make_way.ensures.capacity)

pub raise-requires-clause-kinds : goal.raise-requires-clause-kinds
raise-requires-clause-kinds g c =
    subst (λ (k : Kind). AreOfKind k c.as_slice.result.now) (sym {A = Kind} c.make_way.ensures.bounds.of_kind)
    (kinds_pushed _ _ _ _ c.make_way.ensures.kinds refl (c.as_slice.ensures.value ∙ c.append.ensures.items))

pub raise-requires-clause-bounds : goal.raise-requires-clause-bounds
raise-requires-clause-bounds g c =
    subst (λ (k : Kind). Bounds k c.as_slice.result.now c.make_way.new.bound) (sym {A = Kind} c.make_way.ensures.bounds.of_kind)
    (bounds_pushed _ _ _ _ _ c.make_way.ensures.bounds (c.as_slice.ensures.value ∙ c.append.ensures.items))

pub returns-clause-kinds : goal.returns-clause-kinds
returns-clause-kinds g c = kinds_pushed _ _ _ _ c.make_way.ensures.kinds refl c.append.ensures.items

pub returns-clause-bounds : goal.returns-clause-bounds
returns-clause-bounds g c =
    subst (λ (k : Kind). Bounds k c.append.new.facts.items c.raise.new.self) c.make_way.ensures.bounds.of_kind
    (subst (λ (l : List Fact). Bounds (kind_of c.make_way.new.bound.info) l c.raise.new.self) c.as_slice.ensures.value c.raise.ensures)

pub returns-clause-len : goal.returns-clause-len
returns-clause-len g c =
    omega (arith, c.shorten.ensures.len, c.make_way.ensures.len, ap length c.append.ensures.items, length-append c.make_way.new.kept.items (c.args.fact.now ∷ []))

pub returns-clause-capacity : goal.returns-clause-capacity
returns-clause-capacity g c = omega (arith, c.append.ensures.capacity, c.shorten.ensures.capacity, c.make_way.ensures.capacity)
