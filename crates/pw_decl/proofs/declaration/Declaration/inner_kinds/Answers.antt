use Rattle.std.proofs.Common.{◌<◌, length, ap, arith, ◌∙◌}
use Rattle.pw_decl.specs.inside.Held.{compounds_of}
use Rattle.std.proofs.lemmas.List.{length-map}
use Rattle.pw_decl.proofs.FlatKept.{few_inner, inner_held_at, length-inner_of}
use Rattle.pw_decl.proofs.KeptLemmas.{got}
use Rattle.pw_decl.proofs.declaration.Declaration.inner_kinds.Goals as goal

pub index-requires : goal.index-requires
index-requires g c =
    let kept = c.args.self.now.flattened.items in
    let many = length-map kept (λ kept. kept.inner.items) in
    let same = ap length c.args.self.now.inner in
    let all = length-inner_of (compounds_of c.args.self.now.compounds.items) in
    omega (arith, many, same, all, c.requires, c.from.ensures)

pub returns-clause-kinds : goal.returns-clause-kinds
returns-clause-kinds g c =
    let kept = c.args.self.now.flattened.items in
    let compounds = compounds_of c.args.self.now.compounds.items in
    let n = c.args.compound in
    let many = length-map kept (λ kept. kept.inner.items) in
    let same = ap length c.args.self.now.inner in
    let all = length-inner_of compounds in
    let there : n < length kept = omega (arith, many, same, all, c.requires) in
    let read = rw c.from.ensures at c.index.ensures in
    let here = got (λ kept. kept.inner.items) kept n c.index.result.now there read in
    c.deref.ensures.value ∙ inner_held_at compounds _ n c.index.result.now.inner.items c.args.self.now.inner here

pub returns-clause-most : goal.returns-clause-most
returns-clause-most g c =
    let kinds = returns-clause-kinds g c in
    let most = few_inner (compounds_of c.args.self.now.compounds.items) c.args.compound c.requires c.args.self.now.well.expansions in
    rw kinds most
