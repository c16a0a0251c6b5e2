use Rattle.std.proofs.Common.{◌≡◌, ◌+◌, ◌-◌, ◌<◌, ◌≤◌, ◌++◌, true, List, length, length-set, get_or, take, drop, refl, sym, ◌∙◌, ap, subst, arith}
use Rattle.std.specs.List.{list_any}
use Rattle.std.proofs.lemmas.List.{take-append-drop}
use Rattle.std.proofs.lemmas.List.Elements.{All-drop, All-set}
use Rattle.pw_info.specs.declared.kind.Kind.{Kind}
use Rattle.pw_info.specs.Information.{kind_of}
use Rattle.pw_facts.specs.declared.fact.Fact.{Fact}
use Rattle.pw_cells.specs.inside.OneCell.{AreOfKind, current, outdoes}
use Rattle.pw_cells.proofs.Bounds.{kinds_newer}
use Rattle.pw_cells.proofs.Current.{current_passed, current_put}
use Rattle.pw_cells.proofs.subsumed_facts.drop_outdone.Goals as goal

pub loop-left-preserved-then-not-is_outdone : goal.loop-left-preserved-then-not-is_outdone
loop-left-preserved-then-not-is_outdone g c =
    let held : Fact = c.index.result.now in
    let kept = c.loop-left.kept.items in
    let left = c.loop-left.left in
    let first = c.loop-left.first in
    let more : 0 < left = c.loop-left-test.true in
    let before : left - 1 ≤ first - 1 = omega (arith, c.loop-left.invariant.ahead) in
    let below : left - 1 < length kept = omega (arith, c.loop-left.invariant.ahead, c.loop-left.invariant.within, more) in
    let there : first - 1 < length kept = omega (arith, c.loop-left.invariant.ahead, c.loop-left.invariant.within, more) in
    let one : left - 1 + 1 ≡ left = omega (arith, more) in
    let next : first - 1 + 1 ≡ first = omega (arith, c.loop-left.invariant.ahead, more) in
    let kinds : AreOfKind c.args.kind kept = c.loop-left.invariant.kinds in
    let is : held ≡ get_or kept (left - 1) held = c.index.ensures in
    record {
      same =
          current_put kept (left - 1) (first - 1) held before there is
          ∙ (λ i. current (take (one i) kept ++ drop (next i) kept)) ∙ c.loop-left.invariant.same;
      ahead = before;
      within = omega (arith, length-set kept (first - 1) held, there);
      kinds = All-set (λ f. kind_of f.info ≡ c.args.kind) kept (first - 1) held (ap (λ (f : Fact). kind_of f.info) is ∙ kinds (left - 1) held below) kinds;
      len = length-set kept (first - 1) held ∙ c.loop-left.invariant.len;
      capacity = c.loop-left.invariant.capacity;
    }

pub loop-left-preserved : goal.loop-left-preserved
loop-left-preserved g c =
    let held : Fact = c.index.result.now in
    let kept = c.loop-left.kept.items in
    let left = c.loop-left.left in
    let first = c.loop-left.first in
    let more : 0 < left = c.loop-left-test.true in
    let below : left - 1 < length kept = omega (arith, c.loop-left.invariant.ahead, c.loop-left.invariant.within, more) in
    let one : left - 1 + 1 ≡ left = omega (arith, more) in
    let kinds : AreOfKind c.args.kind kept = c.loop-left.invariant.kinds in
    let by : list_any (λ f. outdoes f held) (drop first kept) ≡ true =
    subst (λ (l : List Fact). list_any (λ f. outdoes f held) l ≡ true) (c.split_at.ensures.back ∙ ap (drop first) c.as_slice.ensures.value) (c.is_outdone.ensures c.if-not-is_outdone.false) in
    record {
      same =
          current_passed c.args.kind kept (drop first kept) (left - 1) held kinds (All-drop (λ f. kind_of f.info ≡ c.args.kind) first kept kinds) below c.index.ensures by
          ∙ ap (λ n. current (take n kept ++ drop first kept)) one ∙ c.loop-left.invariant.same;
      ahead = omega (arith, c.loop-left.invariant.ahead);
      within = c.loop-left.invariant.within;
      kinds = kinds;
      len = c.loop-left.invariant.len;
      capacity = c.loop-left.invariant.capacity;
    }

pub loop-left-init : goal.loop-left-init
loop-left-init g c = record {
  same = ap current (take-append-drop c.len-len.result c.args.kept.now.items);
  ahead = omega arith;
  within = omega (arith, c.len-len.ensures, c.args.kept.now.ok);
  kinds = c.requires;
  len = refl;
  capacity = refl;
}

pub overflow_sub-left : goal.overflow_sub-left
overflow_sub-left g c = omega (arith, c.loop-left-test.true)

pub index-requires : goal.index-requires
index-requires g c = omega (arith, c.loop-left.invariant.ahead, c.loop-left.invariant.within, c.loop-left-test.true, c.loop-left.kept.ok)

pub split_at-requires : goal.split_at-requires
split_at-requires g c = omega (arith, c.loop-left.invariant.within, ap length c.as_slice.ensures.value)

pub is_outdone-requires : goal.is_outdone-requires
is_outdone-requires g c =
    let kinds : AreOfKind c.args.kind c.loop-left.kept.items = c.loop-left.invariant.kinds in
    let below : c.loop-left.left - 1 < length c.loop-left.kept.items =
    omega (arith, c.loop-left.invariant.ahead, c.loop-left.invariant.within, c.loop-left-test.true) in
    let is : kind_of c.index.result.now.info ≡ c.args.kind =
    ap (λ (f : Fact). kind_of f.info) c.index.ensures ∙ kinds (c.loop-left.left - 1) c.index.result.now below in
    subst (λ (k : Kind). AreOfKind k c.split_at.result.1.now) (sym {A = Kind} is)
    (kinds_newer _ _ _ _ kinds (c.split_at.ensures.back ∙ ap (drop c.loop-left.first) c.as_slice.ensures.value))

pub overflow_sub-first : goal.overflow_sub-first
overflow_sub-first g c = omega (arith, c.loop-left.invariant.ahead, c.loop-left-test.true)

pub index_mut-requires : goal.index_mut-requires
index_mut-requires g c = omega (arith, c.loop-left.invariant.ahead, c.loop-left.invariant.within, c.loop-left-test.true, c.loop-left.kept.ok)

pub copy_within-requires-clause-start_le_end : goal.copy_within-requires-clause-start_le_end
copy_within-requires-clause-start_le_end g c = omega (arith, c.loop-left.invariant.within, c.loop-left.kept.ok)

pub overflow_sub-len : goal.overflow_sub-len
overflow_sub-len g c = omega (arith, c.loop-left.invariant.within, c.loop-left.invariant.len, c.len-len.ensures, c.args.kept.now.ok)
