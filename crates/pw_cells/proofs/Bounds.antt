-- The bound on the older facts: what it saves in a search and in a merge, and how it is kept.
use Rattle.std.proofs.Common.{◌≡◌, ◌⊎◌, ℕ, true, zero, suc, ◌+◌, ◌-◌, ◌<◌, ◌≤◌, Bool, cond, List, [], ◌∷◌, ◌++◌, length, get_or, take, drop, reverse, inl, inr, sym, ◌∙◌, ap, subst, add-one, arith, append_assoc, length-append, length-drop}
use Rattle.std.specs.Prelude.{All, Contains, filter}
use Rattle.std.specs.FinSet.{is_subset}
use Rattle.std.proofs.lemmas.Bool.{cases_Bool, cases_lt}
use Rattle.std.proofs.lemmas.List.{append-nil, length-take-le, reverse-append, take_all, take_more, take-append-drop, take-append-le}
use Rattle.std.proofs.lemmas.List.Elements.{All-nil, All-cons, All-head, All-tail, All-push, All-weaker, All-contains, All-take, All-drop, Contains-append_cases, Contains-append_left, Contains-append_right, filter-append}
use Rattle.pw_kinds.proofs.Order.{true_both}
use Rattle.pw_info.specs.declared.kind.Kind.{Kind}
use Rattle.pw_info.specs.declared.info.Info.{Info}
use Rattle.pw_info.specs.Information.{kind_of, allows, meet, Implies}
use Rattle.pw_info.proofs.Informations.{kind-meet, allows-meet, meet_implied}
use Rattle.pw_premises.specs.Premises.{Premises}
use Rattle.pw_premises.specs.PremiseSubsets.{is_subset_union_left}
use Rattle.pw_facts.specs.declared.fact.Fact.{Fact}
use Rattle.pw_facts.specs.Facts.{MergesTo, nothing_known, shows, visible_facts}
use Rattle.pw_facts.proofs.Merges.{merge_rests, merge_shows}
use Rattle.pw_facts.proofs.Shown.{kind-shows, says_shown, shows-supported}
use Rattle.pw_cells.specs.declared.bound.Bound.{Bound}
use Rattle.pw_cells.specs.inside.OneCell.{Bounds, LeavesOutOne}
use Rattle.pw_cells.specs.Cells.{IsSubsumedBy}
use Rattle.pw_cells.specs.inside.OneCell.{AreOfKind, StandsFor}
use Rattle.pw_cells.proofs.Together.{all_reversed, kind-shown_by, meet_first}
use Rattle.pw_cells.proofs.MergesTogether.{merge_none, merge_hidden, merge_visible}
use Rattle.pw_cells.proofs.LastFirst.{stands_reversed}

-- ---- the older and the newer facts are of the kind of all

pub kinds_older : (k : Kind) (n : ℕ) (xs ys : List Fact) → AreOfKind k xs → ys ≡ take n xs → AreOfKind k ys
kinds_older k n xs ys kinds is = subst (AreOfKind k) (sym {A = List Fact} is) (All-take (λ f. kind_of f.info ≡ k) n xs kinds)

pub kinds_newer : (k : Kind) (n : ℕ) (xs ys : List Fact) → AreOfKind k xs → ys ≡ drop n xs → AreOfKind k ys
kinds_newer k n xs ys kinds is = subst (AreOfKind k) (sym {A = List Fact} is) (All-drop (λ f. kind_of f.info ≡ k) n xs kinds)

-- ---- a search

-- what one of the first facts subsumes, or one of the others, one of all subsumes
pub subsumed_first : (n : ℕ) (xs : List Fact) (f : Fact) → IsSubsumedBy (take n xs) f → IsSubsumedBy xs f
subsumed_first n xs f held =
    (held.0, subst (λ (l : List Fact). Contains l held.0) (take-append-drop n xs) (Contains-append_left (take n xs) (drop n xs) held.0 held.1), held.2)

pub subsumed_last : (n : ℕ) (xs : List Fact) (f : Fact) → IsSubsumedBy (drop n xs) f → IsSubsumedBy xs f
subsumed_last n xs f held =
    (held.0, subst (λ (l : List Fact). Contains l held.0) (take-append-drop n xs) (Contains-append_right (take n xs) (drop n xs) held.0 held.1), held.2)

pub subsumed_apart : (n : ℕ) (xs : List Fact) (f : Fact) → IsSubsumedBy xs f → IsSubsumedBy (take n xs) f ⊎ IsSubsumedBy (drop n xs) f
subsumed_apart n xs f held =
    elim (Contains-append_cases (take n xs) (drop n xs) held.0 (subst (λ (l : List Fact). Contains l held.0) (sym (take-append-drop n xs)) held.1)) [
      | inl first ↦ inl (held.0, first, held.2)
      | inr last ↦ inr (held.0, last, held.2)
    ]

-- none of the older facts subsumes one that says more than they do
pub none_older : (k : Kind) (xs : List Fact) (b : Bound) (f : Fact) → Bounds k xs b → (Implies b.info f.info → ⊥) → IsSubsumedBy (take b.count xs) f → ⊥
none_older k xs b f bounds more held =
    let below : Implies b.info held.0.info = All-contains (λ x. Implies b.info x.info) (take b.count xs) held.0 bounds.says held.1 in
    more (λ v h. held.2.0 v (below v h))

-- ---- a merge

-- more facts are merged after some
merges_on : (a b m : Fact) (xs ys : List Fact) → MergesTo a xs b → MergesTo b ys m → MergesTo a (xs ++ ys) m
merges_on a b m [] ys first rest = subst (λ (x : Fact). MergesTo x ys m) first rest
merges_on a b m (x ∷ xs) ys first rest = (first.0, first.1, merges_on first.0 b m xs ys first.2 rest)

-- what says as much as a fact, and that fact, show together what the first says
shows_already : (a f : Fact) (u : Premises) → kind_of a.info ≡ kind_of f.info → Implies a.info f.info → is_subset a.support u ≡ true
    → meet (shows u a) (shows u f) ≡ a.info
shows_already a f u alike says within =
    (λ j. meet (shows-supported u a within j) (shows u f))
    ∙ meet_implied a.info (shows u f) (alike ∙ sym (kind-shows u f)) ((λ v e. says_shown u f v (says v e)))

-- what stands for some facts, and says as much as each of further ones, stands for all of them
stands_longer : (k : Kind) (w : Premises) (before fs : List Fact) (a : Fact) → AreOfKind k fs → StandsFor k w before a → All (λ f. Implies a.info f.info) fs
    → StandsFor k w (before ++ fs) a
stands_longer k w before [] a kinds stands says = subst (λ (l : List Fact). StandsFor k w l a) (sym (append-nil before)) stands
stands_longer k w before (f ∷ fs) a kinds stands says =
    let is : kind_of f.info ≡ k = All-head (λ x. kind_of x.info ≡ k) f fs kinds in
    let rest : AreOfKind k fs = All-tail (λ x. kind_of x.info ≡ k) f fs kinds in
    let head : Implies a.info f.info = All-head (λ x. Implies a.info x.info) f fs says in
    let tail : All (λ x. Implies a.info x.info) fs = All-tail (λ x. Implies a.info x.info) f fs says in
    let alike : kind_of a.info ≡ kind_of f.info = ap kind_of stands.info ∙ kind-shown_by k w before ∙ sym is in
    subst (λ (l : List Fact). StandsFor k w l a) (append_assoc before (f ∷ []) fs)
    (elim (cases_Bool (is_subset f.support w)) [
      | inl e ↦
          stands_longer k w (before ++ f ∷ []) fs a rest
          (merge_visible k w before f a a is stands e (sym (meet_implied a.info f.info alike head)) (λ u sub. shows_already a f u alike head sub)
          (is_subset_union_left a.support f.support)) tail
      | inr e ↦ stands_longer k w (before ++ f ∷ []) fs a rest (merge_hidden k w before f a is stands e) tail
    ])

-- a merge of further facts into what stands for some facts stands for all of them
merges_stand : (k : Kind) (w : Premises) (before fs : List Fact) (a m : Fact) → AreOfKind k fs → StandsFor k w before a → MergesTo a (visible_facts w fs) m
    → StandsFor k w (before ++ fs) m
merges_stand k w before [] a m kinds stands merges =
    subst (λ (l : List Fact). StandsFor k w l m) (sym (append-nil before)) (subst (StandsFor k w before) (sym {A = Fact} merges) stands)
merges_stand k w before (f ∷ fs) a m kinds stands merges =
    let is : kind_of f.info ≡ k = All-head (λ x. kind_of x.info ≡ k) f fs kinds in
    let rest : AreOfKind k fs = All-tail (λ x. kind_of x.info ≡ k) f fs kinds in
    let alike : kind_of a.info ≡ kind_of f.info = ap kind_of stands.info ∙ kind-shown_by k w before ∙ sym is in
    subst (λ (l : List Fact). StandsFor k w l m) (append_assoc before (f ∷ []) fs)
    (elim (cases_Bool (is_subset f.support w)) [
      | inl e ↦
          let on : MergesTo a (f ∷ visible_facts w fs) m = subst (λ b. MergesTo a (cond b (f ∷ visible_facts w fs) (visible_facts w fs)) m) e merges in
          merges_stand k w (before ++ f ∷ []) fs on.0 m rest
          (merge_visible k w before f a on.0 is stands e on.1.info (λ u sub. merge_shows a f on.0 u alike on.1 sub) (merge_rests a f on.0 on.1)) on.2
      | inr e ↦
          let on : MergesTo a (visible_facts w fs) m = subst (λ b. MergesTo a (cond b (f ∷ visible_facts w fs) (visible_facts w fs)) m) e merges in
          merges_stand k w (before ++ f ∷ []) fs a m rest (merge_hidden k w before f a is stands e) on
    ])

-- the later facts are merged first, then the older ones: so all are
pub merges_whole : (k : Kind) (w : Premises) (n : ℕ) (fs : List Fact) (a m : Fact) → MergesTo (nothing_known k) (visible_facts w (reverse (drop n fs))) a
    → MergesTo a (visible_facts w (reverse (take n fs))) m → MergesTo (nothing_known k) (visible_facts w (reverse fs)) m
merges_whole k w n fs a m first rest =
    subst (λ (l : List Fact). MergesTo (nothing_known k) l m)
    (sym (filter-append (λ f. is_subset f.support w) (reverse (drop n fs)) (reverse (take n fs)))
    ∙ ap (visible_facts w) (sym (reverse-append (take n fs) (drop n fs)) ∙ ap reverse (take-append-drop n fs)))
    (merges_on (nothing_known k) a m (visible_facts w (reverse (drop n fs))) (visible_facts w (reverse (take n fs))) first rest)

-- the merge of all facts, from the last one on, stands for them
pub all_merged_stand : (k : Kind) (w : Premises) (fs : List Fact) (m : Fact) → AreOfKind k fs → MergesTo (nothing_known k) (visible_facts w (reverse fs)) m
    → StandsFor k w fs m
all_merged_stand k w fs m kinds merges =
    stands_reversed k w fs m kinds (merges_stand k w [] (reverse fs) (nothing_known k) m (all_reversed (λ f. kind_of f.info ≡ k) fs kinds) (merge_none k w)
    merges)

-- the later facts are merged, and what they come to says as much as each of the older ones
pub merged_later : (k : Kind) (w : Premises) (fs : List Fact) (b : Bound) (a : Fact) → AreOfKind k fs → Bounds k fs b
    → MergesTo (nothing_known k) (visible_facts w (reverse (drop b.count fs))) a → Implies a.info b.info → StandsFor k w fs a
merged_later k w fs b a kinds bounds first more =
    let later : AreOfKind k (drop b.count fs) = All-drop (λ f. kind_of f.info ≡ k) b.count fs kinds in
    let older : AreOfKind k (take b.count fs) = All-take (λ f. kind_of f.info ≡ k) b.count fs kinds in
    let says : All (λ f. Implies a.info f.info) (take b.count fs) =
    All-weaker (λ f. Implies b.info f.info) (λ f. Implies a.info f.info) (λ f below v h. below v (more v h)) (take b.count fs) bounds.says in
    let stands : StandsFor k w (reverse (drop b.count fs)) a =
    merges_stand k w [] (reverse (drop b.count fs)) (nothing_known k) a (all_reversed (λ f. kind_of f.info ≡ k) (drop b.count fs) later) (merge_none k w) first in
    stands_reversed k w fs a kinds
    (subst (λ (l : List Fact). StandsFor k w l a) (sym (reverse-append (take b.count fs) (drop b.count fs)) ∙ ap reverse (take-append-drop b.count fs))
    (stands_longer k w (reverse (drop b.count fs)) (reverse (take b.count fs)) a (all_reversed (λ f. kind_of f.info ≡ k) (take b.count fs) older) stands
    (all_reversed (λ f. Implies a.info f.info) (take b.count fs) says)))

-- ---- how the bound is kept

filter_le : {X : Type 0} (p : X → Bool) (xs : List X) → length (filter p xs) ≤ length xs
filter_le p [] = omega arith
filter_le p (x ∷ xs) =
    let less = filter_le p xs in
    elim (cases_Bool (p x)) [
      | inl e ↦ subst (λ b. length (cond b (x ∷ filter p xs) (filter p xs)) ≤ length (x ∷ xs)) (sym e) (omega (arith, less))
      | inr e ↦ subst (λ b. length (cond b (x ∷ filter p xs) (filter p xs)) ≤ length (x ∷ xs)) (sym e) (omega (arith, less))
    ]

-- one more, or none
front_more : {X : Type 0} (P : X → Type 0) (x : X) (ys : List X) (n r : ℕ) → P x → All P (take (n - r) ys) → All P (take (suc n - r) (x ∷ ys))
front_more P x ys n r head rest = elim (cases_lt n r) [
  | inl less ↦ let none : suc n - r ≡ 0 = omega (arith, less) in subst (λ m. All P (take m (x ∷ ys))) (sym none) (All-nil P)
  | inr more ↦
      let one : suc n - r ≡ suc (n - r) = omega (arith, more) in
      subst (λ m. All P (take m (x ∷ ys))) (sym one) (All-cons P x (take (n - r) ys) head rest)
]

-- what holds of each of the first n elements holds of each of the first that pass a test, but for
-- as many as do not
filter_front : {X : Type 0} (P : X → Type 0) (p : X → Bool) (xs : List X) (n : ℕ) → All P (take n xs)
    → All P (take (n - (length xs - length (filter p xs))) (filter p xs))
filter_front P p [] n all = subst (All P) (sym (take_all _ [] (omega arith))) (All-nil P)
filter_front P p (x ∷ xs) zero all =
    let none : zero - (length (x ∷ xs) - length (filter p (x ∷ xs))) ≡ 0 = omega arith in
    subst (λ m. All P (take m (filter p (x ∷ xs)))) (sym none) (All-nil P)
filter_front P p (x ∷ xs) (suc n) all =
    let ys = filter p xs in
    let fewer : length ys ≤ length xs = filter_le p xs in
    let rest : All P (take (n - (length xs - length ys)) ys) = filter_front P p xs n (All-tail P x (take n xs) all) in
    elim (cases_Bool (p x)) [
      | inl e ↦
          let as_many : length xs - length ys ≡ length (x ∷ xs) - length (x ∷ ys) = omega (arith, fewer) in
          subst (λ b. All P (take (suc n - (length (x ∷ xs) - length (cond b (x ∷ ys) ys))) (cond b (x ∷ ys) ys))) (sym e)
          (subst (λ r. All P (take (suc n - r) (x ∷ ys))) as_many
          (front_more P x ys n (length xs - length ys) (All-head P x (take n xs) all) rest))
      | inr e ↦
          let as_many : n - (length xs - length ys) ≡ suc n - (length (x ∷ xs) - length ys) = omega (arith, fewer) in
          subst (λ b. All P (take (suc n - (length (x ∷ xs) - length (cond b (x ∷ ys) ys))) (cond b (x ∷ ys) ys))) (sym e)
          (subst (λ m. All P (take m ys)) as_many rest)
    ]

-- some facts are dropped, from any places
pub bounds_dropped : (k : Kind) (p : Fact → Bool) (xs ys : List Fact) (b b' : Bound) → ys ≡ filter p xs → b'.count ≡ b.count - (length xs - length ys)
    → b'.info ≡ b.info → Bounds k xs b → Bounds k ys b'
bounds_dropped k p xs ys b b' is count info bounds =
    let fewer : length ys ≤ length xs = subst (λ (l : List Fact). length l ≤ length xs) (sym is) (filter_le p xs) in
    let says : All (λ f. Implies b.info f.info) (take (b.count - (length xs - length ys)) ys) =
    subst (λ (l : List Fact). All (λ f. Implies b.info f.info) (take (b.count - (length xs - length l)) l)) (sym is)
    (filter_front (λ f. Implies b.info f.info) p xs b.count bounds.says) in
    record {
      of_kind = ap kind_of info ∙ bounds.of_kind;
      within = omega (arith, count, fewer, bounds.within);
      says =
          subst (λ n. All (λ f. Implies b'.info f.info) (take n ys)) (sym count)
          (subst (λ (i : Info). All (λ f. Implies i f.info) (take (b.count - (length xs - length ys)) ys)) (sym info) says);
    }

-- one more comes at the end
pub bounds_push : (k : Kind) (xs : List Fact) (b : Bound) (f : Fact) → Bounds k xs b → Bounds k (xs ++ f ∷ []) b
bounds_push k xs b f bounds = record {
  of_kind = bounds.of_kind;
  within = omega (arith, length-append xs (f ∷ []), bounds.within);
  says = subst (All (λ x. Implies b.info x.info)) (sym (take-append-le b.count xs (f ∷ []) bounds.within)) bounds.says;
}

pub bounds_pushed : (k : Kind) (xs ys : List Fact) (b : Bound) (f : Fact) → Bounds k xs b → ys ≡ xs ++ f ∷ [] → Bounds k ys b
bounds_pushed k xs ys b f bounds is = subst (λ (l : List Fact). Bounds k l b) (sym {A = List Fact} is) (bounds_push k xs b f bounds)

pub kinds_pushed : (k : Kind) (xs ys : List Fact) (f : Fact) → AreOfKind k xs → kind_of f.info ≡ k → ys ≡ xs ++ f ∷ [] → AreOfKind k ys
kinds_pushed k xs ys f kinds kind is = subst (AreOfKind k) (sym {A = List Fact} is) (All-push (λ x. kind_of x.info ≡ k) xs f kinds kind)

meet_second : (i j : Info) → kind_of i ≡ kind_of j → Implies (meet i j) j
meet_second i j k v h = (true_both (allows i v) (allows j v) (sym (allows-meet i j k v) ∙ h)).1

-- one more is among the older ones
pub bounds_raised : (k : Kind) (xs : List Fact) (b b' : Bound) (x : Fact) → AreOfKind k xs → Bounds k xs b → b.count < length xs → x ≡ get_or xs b.count x
    → b'.count ≡ b.count + 1 → b'.info ≡ meet b.info x.info → Bounds k xs b'
bounds_raised k xs b b' x kinds bounds below read count info =
    let alike : kind_of b.info ≡ kind_of x.info = bounds.of_kind ∙ sym (ap (λ (f : Fact). kind_of f.info) read ∙ kinds b.count x below) in
    let longer : take (b.count + 1) xs ≡ take b.count xs ++ x ∷ [] = take_more xs b.count x below ∙ ap (λ f. take b.count xs ++ f ∷ []) (sym read) in
    let older : All (λ f. Implies (meet b.info x.info) f.info) (take b.count xs) =
    All-weaker (λ f. Implies b.info f.info) (λ f. Implies (meet b.info x.info) f.info) (λ f says v h. says v (meet_first b.info x.info alike v h)) (take b.count xs) bounds.says in
    record {
      of_kind = ap kind_of info ∙ kind-meet b.info x.info ∙ bounds.of_kind;
      within = omega (arith, count, below);
      says =
          subst (λ n. All (λ f. Implies b'.info f.info) (take n xs)) (sym count)
          (subst (All (λ f. Implies b'.info f.info)) (sym longer)
          (subst (λ (i : Info). All (λ f. Implies i f.info) (take b.count xs ++ x ∷ [])) (sym info)
          (All-push (λ f. Implies (meet b.info x.info) f.info) (take b.count xs) x older (meet_second b.info x.info alike))));
    }

-- ---- one is taken out of its place

-- what holds of each of the first n elements holds of each of the first but one
front_taken : {X : Type 0} (P : X → Type 0) (xs : List X) (n p : ℕ) → p < length xs → All P (take n xs) → All P (take (n - 1) (take p xs ++ drop (suc p) xs))
front_taken P [] n p below all = absurd (omega (arith, below))
front_taken P (x ∷ xs) zero p below all =
    let none : zero - 1 ≡ 0 = omega arith in
    subst (λ m. All P (take m (take p (x ∷ xs) ++ drop (suc p) (x ∷ xs)))) (sym none) (All-nil P)
front_taken P (x ∷ xs) (suc n) zero below all =
    let one : suc n - 1 ≡ n = omega arith in
    subst (λ m. All P (take m xs)) (sym one) (All-tail P x (take n xs) all)
front_taken P (x ∷ xs) (suc zero) (suc p) below all =
    let none : suc zero - 1 ≡ 0 = omega arith in
    subst (λ m. All P (take m (take (suc p) (x ∷ xs) ++ drop (suc (suc p)) (x ∷ xs)))) (sym none) (All-nil P)
front_taken P (x ∷ xs) (suc (suc n)) (suc p) below all =
    let rest : All P (take (suc n - 1) (take p xs ++ drop (suc p) xs)) = front_taken P xs (suc n) p (omega (arith, below)) (All-tail P x (take (suc n) xs) all) in
    let one : suc (suc n) - 1 ≡ suc (suc n - 1) = omega arith in
    subst (λ m. All P (take m (x ∷ (take p xs ++ drop (suc p) xs)))) (sym one)
    (All-cons P x (take (suc n - 1) (take p xs ++ drop (suc p) xs)) (All-head P x (take (suc n) xs) all) rest)

-- one less is left
-- one less is left
pub length_taken : (xs : List Fact) (p : ℕ) → p < length xs → length (take p xs ++ drop (p + 1) xs) ≡ length xs - 1
length_taken xs p below =
    let front : length (take p xs) ≡ p = length-take-le p xs (omega (arith, below)) in
    omega (arith, length-append (take p xs) (drop (p + 1) xs), length-drop (p + 1) xs, front, below)

pub bounds_taken : (k : Kind) (xs ys : List Fact) (p : ℕ) (b b' : Bound) → p < length xs → ys ≡ take p xs ++ drop (p + 1) xs → b'.count ≡ b.count - 1
    → b'.info ≡ b.info → Bounds k xs b → Bounds k ys b'
bounds_taken k xs ys p b b' below is count info bounds =
    let says : All (λ f. Implies b.info f.info) (take (b.count - 1) ys) =
    subst (λ (l : List Fact). All (λ f. Implies b.info f.info) (take (b.count - 1) l)) (sym is)
    (subst (λ q. All (λ f. Implies b.info f.info) (take (b.count - 1) (take p xs ++ drop q xs))) (sym (add-one p))
    (front_taken (λ f. Implies b.info f.info) xs b.count p below bounds.says)) in
    let long : length ys ≡ length xs - 1 = ap length is ∙ length_taken xs p below in
    record {
      of_kind = ap kind_of info ∙ bounds.of_kind;
      within = omega (arith, count, long, bounds.within);
      says =
          subst (λ n. All (λ f. Implies b'.info f.info) (take n ys)) (sym count)
          (subst (λ (i : Info). All (λ f. Implies i f.info) (take (b.count - 1) ys)) (sym info) says);
    }

-- at most one is left out
pub bounds_after_one : (k : Kind) (f : Fact) (xs ys : List Fact) (b b' : Bound) → b'.count ≡ b.count - (length xs - length ys) → b'.info ≡ b.info
    → LeavesOutOne f xs ys → Bounds k xs b → Bounds k ys b'
bounds_after_one k f xs ys b b' count info (inl same) bounds =
    let none : length ys ≡ length xs = ap length same in
    let as_many : b'.count ≡ b.count = omega (arith, count, none) in
    subst (λ (l : List Fact). Bounds k l b') (sym {A = List Fact} same) (record {
      of_kind = ap kind_of info ∙ bounds.of_kind;
      within = omega (arith, as_many, bounds.within);
      says =
          subst (λ n. All (λ f. Implies b'.info f.info) (take n xs)) (sym as_many)
          (subst (λ (i : Info). All (λ f. Implies i f.info) (take b.count xs)) (sym info) bounds.says);
    })
bounds_after_one k f xs ys b b' count info (inr (p, below, subsumed, left)) bounds =
    let long : length ys ≡ length xs - 1 = ap length left ∙ length_taken xs p below in
    let one : length xs - length ys ≡ 1 = omega (arith, long, below) in
    bounds_taken k xs ys p b b' below left (count ∙ ap (λ n. b.count - n) one) info bounds

-- ---- none of them is an older one

pub bounds_none : (k : Kind) (xs : List Fact) (b : Bound) → Bounds k [] b → Bounds k xs b
bounds_none k xs b bounds =
    let none : b.count ≡ 0 = omega (arith, bounds.within) in
    record {
      of_kind = bounds.of_kind;
      within = omega (arith, none);
      says = subst (λ n. All (λ f. Implies b.info f.info) (take n xs)) (sym none) (All-nil (λ f. Implies b.info f.info));
    }
