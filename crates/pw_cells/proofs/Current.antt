-- The facts of a list that no later one outdoes.
use Rattle.std.proofs.Common.{◌≡◌, ◌||◌, ◌&&◌, add-one, ℕ, ◌<◌, ◌+◌, true, false, not, cond, Bool, List, [], ◌∷◌, ◌++◌, inl, inr, refl, sym, ◌∙◌, ap, subst, arith, length, take, drop, get_or, set, append_assoc, ◌-◌, ◌≤◌}
use Rattle.std.specs.Prelude.{Contains, All}
use Rattle.std.specs.List.{list_any}
use Rattle.std.proofs.Math.Seq.{drop-cons}
use Rattle.std.proofs.lemmas.Bool.{cases_Bool}
use Rattle.std.proofs.lemmas.List.{drop-set, get_or_default, take-append-drop, take-set-le, take_more}
use Rattle.std.proofs.lemmas.List.Elements.{All-cons, All-head, All-tail, All-append, All-filter, All-push, All-take, All-drop, All-contains_itself, Contains-push, Contains-push_cases, Contains-append_cases, Contains-append_left, Contains-append_right, All-contains}
use Rattle.std.proofs.lemmas.List.Folds.{list_any_at, list_any-append}
use Rattle.pw_kinds.proofs.Order.{both_true, true_both, not_both, is_false}
use Rattle.pw_info.specs.declared.kind.Kind.{Kind}
use Rattle.pw_info.specs.Information.{kind_of}
use Rattle.pw_facts.specs.declared.fact.Fact.{Fact}
use Rattle.pw_facts.specs.Facts.{Subsumes}
use Rattle.pw_facts.proofs.Shown.{subsumes_trans}
use Rattle.pw_cells.specs.Cells.{does_subsume, unsubsumed, IsSubsumedBy}
use Rattle.pw_cells.specs.declared.bound.Bound.{Bound}
use Rattle.pw_cells.specs.inside.OneCell.{AreApart, AreOfKind, Bounds, LeavesOutOne, current, outdoes}
use Rattle.pw_cells.proofs.Bounds.{bounds_after_one, bounds_dropped}
use Rattle.pw_cells.proofs.Late.{none_subsume, subsumes_where, subsume_test}

abbrev Kinds : Kind → Fact → Type 0
Kinds k f = kind_of f.info ≡ k

-- whether one of the facts outdoes this one
abbrev pub outdone_by : List Fact → Fact → Bool
outdone_by facts fact = list_any (λ f. outdoes f fact) facts

-- ---- subsuming and outdoing

subsume_on : (a b c : Fact) → kind_of a.info ≡ kind_of b.info → kind_of b.info ≡ kind_of c.info → does_subsume a b ≡ true → does_subsume b c ≡ true
    → does_subsume a c ≡ true
subsume_on a b c k l s t = subsume_test a c (k ∙ l) (subsumes_trans a b c (subsumes_where a b k s) (subsumes_where b c l t))

pub both_not : (a b : Bool) → a ≡ true → b ≡ false → (a && not b) ≡ true
both_not a b e f = both_true _ _ e (ap not f)

not_true : (b : Bool) → not b ≡ true → b ≡ false
not_true true e = absurd (cc)
not_true false e = refl

-- what outdoes a fact outdoes what that one outdoes
outdo_on : (a b c : Fact) → kind_of a.info ≡ kind_of b.info → kind_of b.info ≡ kind_of c.info → outdoes a b ≡ true → outdoes b c ≡ true → outdoes a c ≡ true
outdo_on a b c k l s t =
    let first = true_both _ _ s in
    let second = true_both _ _ t in
    both_not _ _ (subsume_on a b c k l first.0 second.0)
    (is_false _ (λ back. not_both _ (subsume_on b c a l (sym (k ∙ l)) second.0 back) (not_true _ first.1)))

-- ---- the first of a list

-- it is left out if a later one outdoes it
pub current_gone : (x : Fact) (xs : List Fact) → outdone_by xs x ≡ true → current (x ∷ xs) ≡ current xs
current_gone x xs e = ap (λ b. cond b (current xs) (x ∷ current xs)) e

-- and stays otherwise
pub current_stays : (x : Fact) (xs : List Fact) → outdone_by xs x ≡ false → current (x ∷ xs) ≡ x ∷ current xs
current_stays x xs e = ap (λ b. cond b (current xs) (x ∷ current xs)) e

-- a list where as much outdoes the first
same_first : (x : Fact) (xs ys : List Fact) → outdone_by xs x ≡ outdone_by ys x → current xs ≡ current ys → current (x ∷ xs) ≡ current (x ∷ ys)
same_first x xs ys test rest = (λ i. cond (test i) (rest i) (x ∷ rest i))

unsubsumed_gone : (f x : Fact) (xs : List Fact) → does_subsume f x ≡ true → unsubsumed f (x ∷ xs) ≡ unsubsumed f xs
unsubsumed_gone f x xs e = ap (λ b. cond (not b) (x ∷ unsubsumed f xs) (unsubsumed f xs)) e

unsubsumed_there : (f x : Fact) (xs : List Fact) → does_subsume f x ≡ false → unsubsumed f (x ∷ xs) ≡ x ∷ unsubsumed f xs
unsubsumed_there f x xs e = ap (λ b. cond (not b) (x ∷ unsubsumed f xs) (unsubsumed f xs)) e

-- of an only fact that another subsumes, none stays
pub only_gone : (f held : Fact) (xs : List Fact) → length xs ≡ 1 → held ≡ get_or xs 0 held → does_subsume f held ≡ true → unsubsumed f (current xs) ≡ []
only_gone f held [] one is test = absurd (cc)
only_gone f held (x ∷ []) one is test =
    ap (unsubsumed f) (current_stays x [] refl) ∙ unsubsumed_gone f x [] (ap (λ (y : Fact). does_subsume f y) (sym is) ∙ test)
only_gone f held (x ∷ y ∷ xs) one is test = absurd (cc)

-- ---- one more comes at the end, which none subsumes

-- none of more facts, so none of fewer
none_first : (p : Fact → Bool) (x : Fact) (xs : List Fact) → list_any p (x ∷ xs) ≡ false → p x ≡ false
none_first p x xs e = is_false _ (λ yes. not_both _ (ap (λ b. b || list_any p xs) yes) e)

none_rest : (p : Fact → Bool) (x : Fact) (xs : List Fact) → list_any p (x ∷ xs) ≡ false → list_any p xs ≡ false
none_rest p x xs e = rw (none_first p x xs e) at e

abbrev none_subsumes : Fact → List Fact → Type 0
none_subsumes f xs = list_any (λ x. does_subsume x f) xs ≡ false

or_true : (a : Bool) → (a || true) ≡ true
or_true true = refl
or_true false = refl

or_false : (a : Bool) → (a || false) ≡ a
or_false true = refl
or_false false = refl

-- the last fact outdoes what it subsumes
last_outdoes : (f x : Fact) (xs : List Fact) → does_subsume x f ≡ false → does_subsume f x ≡ true → outdone_by (xs ++ f ∷ []) x ≡ true
last_outdoes f x xs less more =
    let one : outdoes f x ≡ true = both_not _ _ more less in
    list_any-append (λ g. outdoes g x) xs (f ∷ []) ∙ ap (λ b. outdone_by xs x || (b || false)) one ∙ or_true (outdone_by xs x)

-- and nothing else
last_leaves : (f x : Fact) (xs : List Fact) → does_subsume f x ≡ false → outdone_by (xs ++ f ∷ []) x ≡ outdone_by xs x
last_leaves f x xs other =
    let one : outdoes f x ≡ false = ap (λ b. b && not (does_subsume x f)) other in
    list_any-append (λ g. outdoes g x) xs (f ∷ []) ∙ ap (λ b. outdone_by xs x || (b || false)) one ∙ or_false (outdone_by xs x)

already : (f x : Fact) (xs : List Fact) → outdone_by xs x ≡ true → outdone_by (xs ++ f ∷ []) x ≡ true
already f x xs e = list_any-append (λ g. outdoes g x) xs (f ∷ []) ∙ ap (λ b. b || outdone_by (f ∷ []) x) e

pub current_push : (f : Fact) (xs : List Fact) → none_subsumes f xs → current (xs ++ f ∷ []) ≡ unsubsumed f (current xs) ++ f ∷ []
current_push f [] none = refl
current_push f (x ∷ xs) none =
    let less = none_first (λ y. does_subsume y f) x xs none in
    let rest : current (xs ++ f ∷ []) ≡ unsubsumed f (current xs) ++ f ∷ [] = current_push f xs (none_rest (λ y. does_subsume y f) x xs none) in
    elim (cases_Bool (outdone_by xs x)) [
      | inl e ↦ current_gone x (xs ++ f ∷ []) (already f x xs e) ∙ rest ∙ ap (λ l. unsubsumed f l ++ f ∷ []) (sym (current_gone x xs e))
      | inr e ↦ elim (cases_Bool (does_subsume f x)) [
        | inl more ↦
            current_gone x (xs ++ f ∷ []) (last_outdoes f x xs less more) ∙ rest
            ∙ ap (λ l. l ++ f ∷ []) (sym (unsubsumed_gone f x (current xs) more))
            ∙ ap (λ l. unsubsumed f l ++ f ∷ []) (sym (current_stays x xs e))
        | inr other ↦
            current_stays x (xs ++ f ∷ []) (last_leaves f x xs other ∙ e) ∙ ap (λ l. x ∷ l) rest
            ∙ ap (λ l. l ++ f ∷ []) (sym (unsubsumed_there f x (current xs) other))
            ∙ ap (λ l. unsubsumed f l ++ f ∷ []) (sym (current_stays x xs e))
      ]
    ]

-- ---- those that it subsumes are left out before it comes

-- what outdoes a fact that it does not subsume stays
outdone_rest : (k : Kind) (f x : Fact) (ys : List Fact) → Kinds k f → Kinds k x → AreOfKind k ys → does_subsume f x ≡ false
    → outdone_by (unsubsumed f ys) x ≡ outdone_by ys x
outdone_rest k f x [] is its kinds other = refl
outdone_rest k f x (y ∷ ys) is its kinds other =
    let one : kind_of y.info ≡ k = All-head (Kinds k) y ys kinds in
    let rest : outdone_by (unsubsumed f ys) x ≡ outdone_by ys x = outdone_rest k f x ys is its (All-tail (Kinds k) y ys kinds) other in
    elim (cases_Bool (does_subsume f y)) [
      | inl e ↦
          let not_y : outdoes y x ≡ false =
          is_false _ (λ more. not_both _ (subsume_on f y x (is ∙ sym one) (one ∙ sym its) e (true_both _ _ more).0) other) in
          ap (λ l. outdone_by l x) (unsubsumed_gone f y ys e) ∙ rest ∙ ap (λ b. b || outdone_by ys x) (sym not_y)
      | inr e ↦ ap (λ l. outdone_by l x) (unsubsumed_there f y ys e) ∙ ap (λ b. outdoes y x || b) rest
    ]

pub current_rest : (k : Kind) (f : Fact) (xs : List Fact) → Kinds k f → AreOfKind k xs → none_subsumes f xs
    → current (unsubsumed f xs ++ f ∷ []) ≡ unsubsumed f (current xs) ++ f ∷ []
current_rest k f [] is kinds none = refl
current_rest k f (x ∷ xs) is kinds none =
    let one : kind_of x.info ≡ k = All-head (Kinds k) x xs kinds in
    let others : AreOfKind k xs = All-tail (Kinds k) x xs kinds in
    let rest : current (unsubsumed f xs ++ f ∷ []) ≡ unsubsumed f (current xs) ++ f ∷ [] =
    current_rest k f xs is others (none_rest (λ y. does_subsume y f) x xs none) in
    elim (cases_Bool (does_subsume f x)) [
      | inl more ↦
          ap (λ l. current (l ++ f ∷ [])) (unsubsumed_gone f x xs more) ∙ rest
          ∙ ap (λ l. l ++ f ∷ []) (sym (first_dropped more))
      | inr other ↦
          let same : outdone_by (unsubsumed f xs ++ f ∷ []) x ≡ outdone_by xs x = last_leaves f x (unsubsumed f xs) other ∙ outdone_rest k f x xs is one others other in
          ap (λ l. current (l ++ f ∷ [])) (unsubsumed_there f x xs other)
          ∙ elim (cases_Bool (outdone_by xs x)) [
            | inl e ↦ current_gone x (unsubsumed f xs ++ f ∷ []) (same ∙ e) ∙ rest ∙ ap (λ l. unsubsumed f l ++ f ∷ []) (sym (current_gone x xs e))
            | inr e ↦
                current_stays x (unsubsumed f xs ++ f ∷ []) (same ∙ e) ∙ ap (λ l. x ∷ l) rest
                ∙ ap (λ l. l ++ f ∷ []) (sym (unsubsumed_there f x (current xs) other))
                ∙ ap (λ l. unsubsumed f l ++ f ∷ []) (sym (current_stays x xs e))
          ]
    ]
  where
    first_dropped : does_subsume f x ≡ true → unsubsumed f (current (x ∷ xs)) ≡ unsubsumed f (current xs)
    first_dropped more = elim (cases_Bool (outdone_by xs x)) [
      | inl e ↦ ap (unsubsumed f) (current_gone x xs e)
      | inr e ↦ ap (unsubsumed f) (current_stays x xs e) ∙ unsubsumed_gone f x (current xs) more
    ]

-- ---- one that a later one outdoes is left out

-- what it outdoes, the later one outdoes too
outdone_through : (k : Kind) (x h : Fact) (ys : List Fact) → Kinds k x → Kinds k h → AreOfKind k ys → outdone_by ys x ≡ true → outdoes x h ≡ true
    → outdone_by ys h ≡ true
outdone_through k x h [] is its kinds e more = absurd (cc)
outdone_through k x h (y ∷ ys) is its kinds e more =
    let one : kind_of y.info ≡ k = All-head (Kinds k) y ys kinds in
    elim (cases_Bool (outdoes y x)) [
      | inl by ↦
          let first : outdoes y h ≡ true = outdo_on y x h (one ∙ sym is) (is ∙ sym its) by more in
          ap (λ b. b || outdone_by ys h) first
      | inr other ↦
          let rest : outdone_by ys x ≡ true = rw other at e in
          let later : outdone_by ys h ≡ true = outdone_through k x h ys is its (All-tail (Kinds k) y ys kinds) rest more in
          elim (cases_Bool (outdoes y h)) [
            | inl first ↦ ap (λ b. b || outdone_by ys h) first
            | inr first ↦ ap (λ b. b || outdone_by ys h) first ∙ later
          ]
    ]

outdone_without : (k : Kind) (x h : Fact) (xs ys : List Fact) → Kinds k x → Kinds k h → AreOfKind k ys → outdone_by ys x ≡ true
    → outdone_by (xs ++ x ∷ ys) h ≡ outdone_by (xs ++ ys) h
outdone_without k x h [] ys is its kinds e = elim (cases_Bool (outdoes x h)) [
  | inl more ↦ ap (λ b. b || outdone_by ys h) more ∙ sym (outdone_through k x h ys is its kinds e more)
  | inr other ↦ ap (λ b. b || outdone_by ys h) other
]
outdone_without k x h (z ∷ xs) ys is its kinds e = ap (λ b. outdoes z h || b) (outdone_without k x h xs ys is its kinds e)

pub current_without : (k : Kind) (x : Fact) (xs ys : List Fact) → Kinds k x → AreOfKind k xs → AreOfKind k ys → outdone_by ys x ≡ true
    → current (xs ++ x ∷ ys) ≡ current (xs ++ ys)
current_without k x [] ys is firsts kinds e = current_gone x ys e
current_without k x (h ∷ xs) ys is firsts kinds e =
    same_first h (xs ++ x ∷ ys) (xs ++ ys) (outdone_without k x h xs ys is (All-head (Kinds k) h xs firsts) kinds e)
    (current_without k x xs ys is (All-tail (Kinds k) h xs firsts) kinds e)

-- one of a list, between the others
pub together : (xs : List Fact) (p : ℕ) (x : Fact) → p < length xs → x ≡ get_or xs p x → take p xs ++ x ∷ drop (p + 1) xs ≡ xs
together xs p x below is =
    ap (λ y. take p xs ++ y ∷ drop (p + 1) xs) is
    ∙ ap (λ n. take p xs ++ get_or xs p x ∷ drop n xs) (add-one p)
    ∙ ap (λ l. take p xs ++ l) (sym (drop-cons xs p x below)) ∙ take-append-drop p xs

-- the facts up to a place, and those that stay: one that they outdo is passed over
pub current_passed : (k : Kind) (xs ys : List Fact) (p : ℕ) (x : Fact) → AreOfKind k xs → AreOfKind k ys → p < length xs → x ≡ get_or xs p x
    → outdone_by ys x ≡ true → current (take p xs ++ ys) ≡ current (take (p + 1) xs ++ ys)
current_passed k xs ys p x kinds others below is by =
    let one : take (p + 1) xs ≡ take p xs ++ x ∷ [] = take_more xs p x below ∙ ap (λ y. take p xs ++ y ∷ []) (sym is) in
    sym (ap (λ l. current (l ++ ys)) one ∙ ap current (append_assoc (take p xs) (x ∷ []) ys)
    ∙ current_without k x (take p xs) ys (ap (λ (f : Fact). kind_of f.info) is ∙ kinds p x below) (All-take (Kinds k) p xs kinds) others by)

-- and another one is put before those that stay
pub current_put : (xs : List Fact) (p q : ℕ) (x : Fact) → p ≤ q → q < length xs → x ≡ get_or xs p x
    → current (take p (set xs q x) ++ drop q (set xs q x)) ≡ current (take (p + 1) xs ++ drop (q + 1) xs)
current_put xs p q x before below is =
    let one : take (p + 1) xs ≡ take p xs ++ x ∷ [] = take_more xs p x (omega (arith, before, below)) ∙ ap (λ y. take p xs ++ y ∷ []) (sym is) in
    ap current
    ((λ i. take-set-le p xs q x before i ++ drop-set xs q x below i) ∙ sym (append_assoc (take p xs) (x ∷ []) (drop (q + 1) xs)) ∙ ap (λ l. l ++ drop (q + 1) xs) (sym one))

-- ---- what holds of the current facts

-- what holds of all holds of them
pub all_current : (P : Fact → Type 0) (xs : List Fact) → All P xs → All P (current xs)
all_current P [] all = all
all_current P (x ∷ xs) all =
    let rest : All P (current xs) = all_current P xs (All-tail P x xs all) in
    elim (cases_Bool (outdone_by xs x)) [
      | inl e ↦ subst (All P) (sym (current_gone x xs e)) rest
      | inr e ↦ subst (All P) (sym (current_stays x xs e)) (All-cons P x (current xs) (All-head P x xs all) rest)
    ]

pub kinds_current : (k : Kind) (xs : List Fact) → AreOfKind k xs → AreOfKind k (current xs)
kinds_current k xs kinds = all_current (Kinds k) xs kinds

-- each of them is one of the list
pub current_within : (xs : List Fact) (f : Fact) → Contains (current xs) f → Contains xs f
current_within xs f has = All-contains (Contains xs) (current xs) f (all_current (Contains xs) xs (All-contains_itself xs)) has

-- one of the first list's tail
later_too : (x : Fact) (xs : List Fact) (f : Fact) → IsSubsumedBy (current xs) f → IsSubsumedBy (current (x ∷ xs)) f
later_too x xs f held = elim (cases_Bool (outdone_by xs x)) [
  | inl e ↦ subst (λ (l : List Fact). IsSubsumedBy l f) (sym (current_gone x xs e)) held
  | inr e ↦ subst (λ (l : List Fact). IsSubsumedBy l f) (sym (current_stays x xs e)) (held.0, Contains-append_right (x ∷ []) (current xs) held.0 held.1, held.2)
]

-- one that outdoes it
pub outdone_where : (k : Kind) (x : Fact) (ys : List Fact) → Kinds k x → AreOfKind k ys → outdone_by ys x ≡ true → IsSubsumedBy ys x
outdone_where k x [] is kinds e = absurd (cc)
outdone_where k x (y ∷ ys) is kinds e = elim (cases_Bool (outdoes y x)) [
  | inl by ↦ (y, Contains-append_left (y ∷ []) ys y (Contains-push [] y), subsumes_where y x (All-head (Kinds k) y ys kinds ∙ sym is) (true_both _ _ by).0)
  | inr other ↦
      let rest : outdone_by ys x ≡ true = rw other at e in
      let held : IsSubsumedBy ys x = outdone_where k x ys is (All-tail (Kinds k) y ys kinds) rest in
      (held.0, Contains-append_right (y ∷ []) ys held.0 held.1, held.2)
]

-- what one of the list subsumes, a current one subsumes
pub subsumed_by_current : (k : Kind) (xs : List Fact) (f : Fact) → AreOfKind k xs → IsSubsumedBy xs f → IsSubsumedBy (current xs) f
subsumed_by_current k [] f kinds held = held
subsumed_by_current k (x ∷ xs) f kinds held =
    let others : AreOfKind k xs = All-tail (Kinds k) x xs kinds in
    elim (Contains-append_cases (x ∷ []) xs held.0 held.1) [
      | inr later ↦ later_too x xs f (subsumed_by_current k xs f others (held.0, later, held.2))
      | inl first ↦
          let by_first : Subsumes x f = subst (λ (y : Fact). Subsumes y f) (sym (only x held.0 first)) held.2 in
          elim (cases_Bool (outdone_by xs x)) [
            | inl e ↦
                let by : IsSubsumedBy xs x = outdone_where k x xs (All-head (Kinds k) x xs kinds) others e in
                later_too x xs f (subsumed_by_current k xs f others (by.0, by.1, subsumes_trans by.0 x f by.2 by_first))
            | inr e ↦
                subst (λ (l : List Fact). IsSubsumedBy l f) (sym (current_stays x xs e))
                (x, Contains-append_left (x ∷ []) (current xs) x (Contains-push [] x), by_first)
          ]
    ]
  where
    only : (x z : Fact) → Contains (x ∷ []) z → x ≡ z
    only x z has = elim (Contains-push_cases [] x z has) [ inl none ↦ absurd (omega (arith, none.1)) | inr same ↦ same ]

pub subsumed_by_some : (xs : List Fact) (f : Fact) → IsSubsumedBy (current xs) f → IsSubsumedBy xs f
subsumed_by_some xs f held = (held.0, current_within xs held.0 held.1, held.2)

-- where none subsumes another, all are current
pub all_are_current : (k : Kind) (xs : List Fact) → AreOfKind k xs → AreApart xs → current xs ≡ xs
all_are_current k [] kinds apart = refl
all_are_current k (x ∷ xs) kinds apart =
    let others : AreOfKind k xs = All-tail (Kinds k) x xs kinds in
    let has_later : (y : Fact) → Contains xs y → Contains (x ∷ xs) y = λ y has. Contains-append_right (x ∷ []) xs y has in
    let has_first : Contains (x ∷ xs) x = Contains-append_left (x ∷ []) xs x (Contains-push [] x) in
    current_stays x xs (none_outdoes x xs (All-head (Kinds k) x xs kinds) others (λ y has s. apart y x (has_later y has) has_first s))
    ∙ ap (λ l. x ∷ l) (all_are_current k xs others (λ f g one other s. apart f g (has_later f one) (has_later g other) s))
  where
    itself : (y : Fact) → outdoes y y ≡ false
    itself y = elim (cases_Bool (does_subsume y y)) [
      | inl e ↦ ap (λ b. b && not b) e
      | inr e ↦ ap (λ b. b && not b) e
    ]

    none_outdoes : (x : Fact) (ys : List Fact) → Kinds k x → AreOfKind k ys → ((y : Fact) → Contains ys y → Subsumes y x → y ≡ x) → outdone_by ys x ≡ false
    none_outdoes x [] is kinds same = refl
    none_outdoes x (y ∷ ys) is kinds same =
        let one : kind_of y.info ≡ k = All-head (Kinds k) y ys kinds in
        let rest : outdone_by ys x ≡ false = none_outdoes x ys is (All-tail (Kinds k) y ys kinds) (λ z has s. same z (Contains-append_right (y ∷ []) ys z has) s) in
        let first : outdoes y x ≡ false = is_false _ (λ more.
        let equal : y ≡ x = same y (Contains-append_left (y ∷ []) ys y (Contains-push [] y)) (subsumes_where y x (one ∙ sym is) (true_both _ _ more).0) in
        not_both _ more (subst (λ (z : Fact). outdoes y z ≡ false) equal (itself y))) in
        ap (λ b. b || outdone_by ys x) first ∙ rest

-- ---- a fact that none subsumes comes after others were left out

-- none of the list subsumes it, so the one at a place does not
none_at : (f : Fact) (xs : List Fact) (p : ℕ) → p < length xs → none_subsumes f xs → does_subsume (get_or xs p f) f ≡ false
none_at f xs p below none = is_false _ (λ yes. not_both _ (list_any_at (λ x. does_subsume x f) xs p f below yes) none)

pub current_after_one : (k : Kind) (f : Fact) (xs ys : List Fact) → Kinds k f → AreOfKind k xs → none_subsumes f xs → LeavesOutOne f xs ys
    → current (ys ++ f ∷ []) ≡ unsubsumed f (current xs) ++ f ∷ []
current_after_one k f xs ys is kinds none (inl same) = ap (λ l. current (l ++ f ∷ [])) same ∙ current_push f xs none
current_after_one k f xs ys is kinds none (inr (p, below, subsumed, left)) =
    let x = get_or xs p f in
    let front = take p xs in
    let back = drop (p + 1) xs in
    let long : List Fact = front ++ x ∷ (back ++ f ∷ []) in
    let of_x : Kinds k x = kinds p f below in
    let whole : front ++ x ∷ back ≡ xs = together xs p x below (get_or_default xs p f x below) in
    let more : outdone_by (back ++ f ∷ []) x ≡ true = last_outdoes f x back (none_at f xs p below none) subsumed in
    ap (λ l. current (l ++ f ∷ [])) left
    ∙ ap current (append_assoc front back (f ∷ []))
    ∙ sym (current_without k x front (back ++ f ∷ []) of_x (All-take (Kinds k) p xs kinds) (All-push (Kinds k) back f (All-drop (Kinds k) (p + 1) xs kinds) is) more)
    ∙ ap current (sym (append_assoc front (x ∷ back) (f ∷ [])))
    ∙ ap (λ l. current (l ++ f ∷ [])) whole
    ∙ current_push f xs none

kinds_after_one : (k : Kind) (f : Fact) (xs ys : List Fact) → AreOfKind k xs → LeavesOutOne f xs ys → AreOfKind k ys
kinds_after_one k f xs ys kinds (inl same) = subst (AreOfKind k) (sym {A = List Fact} same) kinds
kinds_after_one k f xs ys kinds (inr (p, below, subsumed, left)) =
    subst (AreOfKind k) (sym {A = List Fact} left)
    (All-append (Kinds k) (take p xs) (drop (p + 1) xs) (All-take (Kinds k) p xs kinds) (All-drop (Kinds k) (p + 1) xs kinds))

-- what makes way for it
pub record MakesWay (k : Kind) (f : Fact) (old : List Fact) (bound : Bound) (new : List Fact) : Type 0 where
  pub leaves : current (new ++ f ∷ []) ≡ unsubsumed f (current old) ++ f ∷ []
  pub kinds : AreOfKind k new
  pub bounds : Bounds k new bound

pub way_of_few : (k : Kind) (f : Fact) (old new : List Fact) (b b' : Bound) → Kinds k f → AreOfKind k old → Bounds k old b → (IsSubsumedBy old f → ⊥)
    → b'.count ≡ b.count - (length old - length new) → b'.info ≡ b.info → new ≡ unsubsumed f old → MakesWay k f old b' new
way_of_few k f old new b b' is kinds bounds news count info left = record {
  leaves = ap (λ l. current (l ++ f ∷ [])) left ∙ current_rest k f old is kinds (none_subsume k f old is kinds news);
  kinds = subst (AreOfKind k) (sym {A = List Fact} left) (All-filter (λ x. not (does_subsume f x)) (Kinds k) old kinds);
  bounds = bounds_dropped k (λ x. not (does_subsume f x)) old new b b' left count info bounds;
}

pub way_of_many : (k : Kind) (f : Fact) (old new : List Fact) (b b' : Bound) → Kinds k f → AreOfKind k old → Bounds k old b → (IsSubsumedBy old f → ⊥)
    → b'.count ≡ b.count - (length old - length new) → b'.info ≡ b.info → LeavesOutOne f old new → MakesWay k f old b' new
way_of_many k f old new b b' is kinds bounds news count info left = record {
  leaves = current_after_one k f old new is kinds (none_subsume k f old is kinds news) left;
  kinds = kinds_after_one k f old new kinds left;
  bounds = bounds_after_one k f old new b b' count info left bounds;
}
