use Rattle.std.proofs.Common.{◌≡◌, ℕ, ◌+◌, ◌-◌, ◌<◌, ◌≤◌, true, false, List, [], ◌∷◌, ◌++◌, length, get_or, reverse, take, refl, sym, ◌∙◌, ap, subst, arith}
use Rattle.std.specs.FinSet.{is_subset}
use Rattle.std.proofs.lemmas.List.{get_or-reverse, length-reverse, take_more, take_all}
use Rattle.pw_info.specs.Information.{kind_of}
use Rattle.pw_info.proofs.Informations.{kind-meet}
use Rattle.pw_facts.specs.declared.fact.Fact.{Fact}
use Rattle.pw_facts.specs.Facts.{MergesTo, visible_facts}
use Rattle.pw_cells.proofs.MergesTogether.{merges_visible, merges_hidden}
use Rattle.pw_cells.proofs.merged_facts.merge_all_in.Goals as goal
use Rattle.pw_cells.proofs.merged_facts.merge_all_in.Goals.{then-is_visible, else-is_visible}

-- one more of the facts, the last first
one_more : {X : Type 0} (xs : List X) (i : ℕ) (x : X) → i < length xs → x ≡ get_or xs (length xs - 1 - i) x
    → take (i + 1) (reverse xs) ≡ take i (reverse xs) ++ x ∷ []
one_more xs i x below is =
    let there : i < length (reverse xs) = subst (λ n. i < n) (sym (length-reverse xs)) below in
    take_more (reverse xs) i x there ∙ ap (λ y. take i (reverse xs) ++ y ∷ []) (get_or-reverse xs i x below ∙ sym is)

-- all of them
all_taken : {X : Type 0} (xs : List X) (i : ℕ) → length xs ≤ i → take i (reverse xs) ≡ reverse xs
all_taken xs i all = take_all i (reverse xs) (subst (λ n. n ≤ i) (sym (length-reverse xs)) all)

pub loop-back-init : goal.loop-back-init
loop-back-init g c = record { kind = refl; merges = refl }

pub merge_in-requires : goal.merge_in-requires
merge_in-requires g c =
    let facts = c.args.facts.now in
    let i = c.loop-back.back in
    let below : length facts - 1 - i < length facts = omega (arith, c.loop-back-test.true) in
    c.loop-back.invariant.kind ∙ sym (ap (λ f. kind_of f.info) c.index-facts-facts.is ∙ c.requires (length facts - 1 - i) c.index-facts-facts.result below)

pub loop-back-preserved : goal.loop-back-preserved
loop-back-preserved g c =
    let facts = c.args.facts.now in
    let i = c.loop-back.back in
    let held = c.index-facts-facts.result in
    let front = take i (reverse facts) in
    let longer : take (i + 1) (reverse facts) ≡ front ++ held ∷ [] = one_more facts i held c.loop-back-test.true c.index-facts-facts.is in
    elim c.if-is_visible.branch [
      | then-is_visible w ↦
          let visible : is_subset held.support c.args.worldview.now ≡ true = sym c.is_visible.ensures ∙ w.if-is_visible.true in
          rw (longer, w.merge-is) (record {
            kind = ap kind_of w.merge_in.ensures.info ∙ kind-meet c.loop-back.merge.info held.info ∙ c.loop-back.invariant.kind;
            merges = merges_visible c.args.merge.now c.args.worldview.now front held c.loop-back.merge _ visible c.loop-back.invariant.merges w.merge_in.ensures;
          })
      | else-is_visible w ↦
          let hidden : is_subset held.support c.args.worldview.now ≡ false = sym c.is_visible.ensures ∙ w.if-is_visible.false in
          rw (longer, w.merge-is) (record {
            kind = c.loop-back.invariant.kind;
            merges = merges_hidden c.args.merge.now c.args.worldview.now front held c.loop-back.merge hidden c.loop-back.invariant.merges;
          })
    ]

pub returns-clause-merges : goal.returns-clause-merges
returns-clause-merges g c =
    subst (λ (fs : List Fact). MergesTo c.args.merge.now (visible_facts c.args.worldview.now fs) c.loop-back.merge)
    (all_taken c.args.facts.now c.loop-back.back c.loop-back-test.false) c.loop-back.invariant.merges
