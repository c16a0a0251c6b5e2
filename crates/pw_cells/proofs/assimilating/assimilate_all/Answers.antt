use Rattle.std.proofs.Common.{◌≡◌, ◌+◌, ◌<◌, ℕ, List, [], ◌∷◌, ◌++◌, length, get_or, take, refl, sym, ◌∙◌, ap, subst, arith}
use Rattle.std.specs.Prelude.{◌↔◌, IsTrue}
use Rattle.std.proofs.lemmas.List.{take_all, take_more}
use Rattle.pw_info.specs.Information.{kind_of}
use Rattle.pw_facts.specs.declared.fact.Fact.{Fact}
use Rattle.pw_info.specs.declared.kind.Kind.{Kind}
use Rattle.pw_cells.specs.inside.OneCell.{Bounds}
use Rattle.pw_cells.specs.Cells.{IsSubsumedBy}
use Rattle.pw_cells.specs.Cells.{assimilated, all_assimilated}
use Rattle.pw_cells.specs.inside.OneCell.{AreOfKind, current}
use Rattle.pw_cells.proofs.Late.{late_push}
use Rattle.pw_cells.proofs.assimilating.assimilate_all.Goals as goal

-- a late fact is of the kind
late_kind : (k : Kind) (late held : List Fact) (i : ℕ) (f : Fact) → AreOfKind k late → held ≡ late → i < length held → f ≡ get_or held i f
    → kind_of f.info ≡ k
late_kind k late held i f kinds same below is =
    ap (λ (x : Fact). kind_of x.info) is ∙ subst (AreOfKind k) (sym {A = List Fact} same) kinds i f below

pub loop-fact-init : goal.loop-fact-init
loop-fact-init g c = record {
  kept = refl;
  kinds = c.requires.kinds;
  bounds = c.requires.bounds;
  room = omega (arith, c.requires.room, c.as_slice-fact-items.ensures.len, ap length c.as_slice-fact-items.ensures.value);
}

pub is_subsumed-known-requires-clause-kinds : goal.is_subsumed-known-requires-clause-kinds
is_subsumed-known-requires-clause-kinds g c =
    let is =
    late_kind c.args.kind c.args.late.now.items c.as_slice-fact-items.result.now c.loop-fact.fact-index c.fact-item.result c.requires.late_kinds
    c.as_slice-fact-items.ensures.value c.loop-fact-test.true c.fact-item.is in
    subst (λ (k : Kind). AreOfKind k c.as_slice.result.now) (sym is)
    (subst (AreOfKind c.args.kind) (sym {A = List Fact} c.as_slice.ensures.value) c.loop-fact.invariant.kinds)

pub is_subsumed-known-requires-clause-bounds : goal.is_subsumed-known-requires-clause-bounds
is_subsumed-known-requires-clause-bounds g c =
    let is =
    late_kind c.args.kind c.args.late.now.items c.as_slice-fact-items.result.now c.loop-fact.fact-index c.fact-item.result c.requires.late_kinds
    c.as_slice-fact-items.ensures.value c.loop-fact-test.true c.fact-item.is in
    subst (λ (k : Kind). Bounds k c.as_slice.result.now c.loop-fact.bound) (sym is)
    (subst (λ (l : List Fact). Bounds c.args.kind l c.loop-fact.bound) (sym {A = List Fact} c.as_slice.ensures.value) c.loop-fact.invariant.bounds)

pub assimilate-requires-clause-kinds : goal.assimilate-requires-clause-kinds
assimilate-requires-clause-kinds g c =
    let is =
    late_kind c.args.kind c.args.late.now.items c.as_slice-fact-items.result.now c.loop-fact.fact-index c.fact-item.result c.requires.late_kinds
    c.as_slice-fact-items.ensures.value c.loop-fact-test.true c.fact-item.is in
    subst (λ (k : Kind). AreOfKind k c.loop-fact.kept.items) (sym is) c.loop-fact.invariant.kinds

pub assimilate-requires-clause-bounds : goal.assimilate-requires-clause-bounds
assimilate-requires-clause-bounds g c =
    let is =
    late_kind c.args.kind c.args.late.now.items c.as_slice-fact-items.result.now c.loop-fact.fact-index c.fact-item.result c.requires.late_kinds
    c.as_slice-fact-items.ensures.value c.loop-fact-test.true c.fact-item.is in
    subst (λ (k : Kind). Bounds k c.loop-fact.kept.items c.loop-fact.bound) (sym is) c.loop-fact.invariant.bounds

pub assimilate-requires-clause-known : goal.assimilate-requires-clause-known
assimilate-requires-clause-known g c =
    subst (λ (l : List Fact). IsTrue c.is_subsumed-known.result ↔ IsSubsumedBy l c.fact-item.result) c.as_slice.ensures.value c.is_subsumed-known.ensures

pub assimilate-requires-clause-room : goal.assimilate-requires-clause-room
assimilate-requires-clause-room g c = λ _. omega (arith, c.loop-fact.invariant.room, c.loop-fact-test.true, ap length c.as_slice-fact-items.ensures.value)

pub loop-fact-preserved : goal.loop-fact-preserved
loop-fact-preserved g c =
    let late = c.args.late.now.items in
    let start = current c.args.kept.now.items in
    let i = c.loop-fact.fact-index in
    let fact = c.fact-item.result in
    let within : i < length late = omega (arith, c.loop-fact-test.true, ap length c.as_slice-fact-items.ensures.value) in
    let read : fact ≡ get_or late i fact = c.fact-item.is ∙ ap (λ l. get_or l i fact) c.as_slice-fact-items.ensures.value in
    let longer : take (i + 1) late ≡ take i late ++ fact ∷ [] = take_more late i fact within ∙ ap (λ f. take i late ++ f ∷ []) (sym read) in
    let is : kind_of fact.info ≡ c.args.kind = ap (λ f. kind_of f.info) read ∙ c.requires.late_kinds i fact within in
    record {
      kept = c.assimilate.ensures.assimilated ∙ ap (λ l. assimilated l fact) c.loop-fact.invariant.kept
          ∙ sym (ap (all_assimilated start) longer ∙ late_push start (take i late) fact);
      kinds = subst (λ (k : Kind). AreOfKind k c.assimilate.new.kept.items) is c.assimilate.ensures.kinds;
      bounds = subst (λ (k : Kind). Bounds k c.assimilate.new.kept.items c.assimilate.new.bound) is c.assimilate.ensures.bounds;
      room = omega (arith, c.loop-fact.invariant.room, c.assimilate.ensures.len, c.assimilate.ensures.capacity);
    }

pub returns-clause-kept : goal.returns-clause-kept
returns-clause-kept g c =
    let late = c.args.late.now.items in
    let all : take c.loop-fact.fact-index late ≡ late =
    take_all c.loop-fact.fact-index late (omega (arith, c.loop-fact-test.false, ap length c.as_slice-fact-items.ensures.value)) in
    c.loop-fact.invariant.kept ∙ ap (all_assimilated (current c.args.kept.now.items)) all

pub returns-clause-bounds : goal.returns-clause-bounds
returns-clause-bounds g c = c.loop-fact.invariant.bounds
