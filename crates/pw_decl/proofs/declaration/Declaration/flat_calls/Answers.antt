use Rattle.std.proofs.Common.{◌<◌, length, ap, arith}
use Rattle.pw_decl.specs.inside.Held.{instances_of}
use Rattle.pw_decl.specs.inside.Held.{compounds_of}
use Rattle.std.proofs.lemmas.List.{length-map}
use Rattle.pw_decl.proofs.FlatKept.{are_calls, calls_held_at, length-calls_of, stands}
use Rattle.pw_decl.proofs.KeptLemmas.{got}
use Rattle.pw_decl.proofs.declaration.Declaration.flat_calls.Goals as goal

pub index-requires : goal.index-requires
index-requires g c =
    let kept = c.args.self.now.flattened.items in
    let compounds = compounds_of c.args.self.now.compounds.items in
    let many = length-map kept (λ kept. instances_of kept.calls.items) in
    let same = ap length c.args.self.now.calls in
    let all = length-calls_of compounds in
    omega (arith, many, same, all, c.requires, c.from.ensures)

pub returns : goal.returns
returns g c =
    let kept = c.args.self.now.flattened.items in
    let compounds = compounds_of c.args.self.now.compounds.items in
    let n = c.args.compound in
    let many = length-map kept (λ kept. instances_of kept.calls.items) in
    let same = ap length c.args.self.now.calls in
    let all = length-calls_of compounds in
    let there : n < length kept = omega (arith, many, same, all, c.requires) in
    let read = rw c.from.ensures at c.index.ensures in
    let (compound, at) = stands compounds n c.requires in
    let here = got (λ kept. instances_of kept.calls.items) kept n c.index.result.now there read in
    let is = calls_held_at compounds _ n compound (instances_of c.index.result.now.calls.items) c.args.self.now.calls at here in
    rw c.deref.ensures.value (are_calls compounds n compound c.index.result.now.calls.items at is)
