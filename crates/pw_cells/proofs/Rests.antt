-- What is left of facts where those that one subsumes are dropped, one more fact at a time.
use Rattle.std.proofs.Common.{◌≡◌, ℕ, ◌+◌, ◌-◌, ◌<◌, ◌≤◌, List, [], ◌∷◌, ◌++◌, true, false, not, cond, length, get_or, take, drop, length-drop, refl, sym, ◌∙◌, ap, subst, arith}
use Rattle.std.proofs.Math.Seq.{take-append_seam, drop-append_seam}
use Rattle.std.proofs.lemmas.List.{append-nil, get_or-drop, drop-drop, length-take-le, take_more, take_all}
use Rattle.std.proofs.lemmas.List.Elements.{filter-append}
use Rattle.pw_facts.specs.declared.fact.Fact.{Fact}
use Rattle.pw_cells.specs.Cells.{does_subsume, unsubsumed}

-- one more that the fact subsumes is dropped, and one more that it does not subsume stays
pub unsubsumed_drops : (f x : Fact) (xs ys : List Fact) → ys ≡ unsubsumed f xs → does_subsume f x ≡ true → ys ≡ unsubsumed f (xs ++ x ∷ [])
unsubsumed_drops f x xs ys is e =
    is ∙ sym (append-nil (unsubsumed f xs)) ∙ sym (filter-append (λ y. not (does_subsume f y)) xs (x ∷ []) ∙ ap (λ b. unsubsumed f xs ++ cond (not b) (x ∷ []) []) e)

pub unsubsumed_stays : (f x : Fact) (xs ys : List Fact) → ys ≡ unsubsumed f xs → does_subsume f x ≡ false → ys ++ x ∷ [] ≡ unsubsumed f (xs ++ x ∷ [])
unsubsumed_stays f x xs ys is e =
    ap (λ l. l ++ x ∷ []) is ∙ sym (filter-append (λ y. not (does_subsume f y)) xs (x ∷ []) ∙ ap (λ b. unsubsumed f xs ++ cond (not b) (x ∷ []) []) e)

-- lists that agree from a place on agree at the place, and from the next one on
pub same_ahead : {X : Type 0} (xs ys : List X) (n : ℕ) (d : X) → drop n xs ≡ drop n ys → get_or xs n d ≡ get_or ys n d
same_ahead xs ys n d e = let at : get_or (drop n xs) 0 d ≡ get_or (drop n ys) 0 d = ap (λ l. get_or l 0 d) e in
    let left : get_or (drop n xs) 0 d ≡ get_or xs n d = grind (arith, get_or-drop n xs 0 d) in
    let right : get_or (drop n ys) 0 d ≡ get_or ys n d = grind (arith, get_or-drop n ys 0 d) in
    sym left ∙ at ∙ right

pub less_ahead : {X : Type 0} (xs ys : List X) (n : ℕ) → drop n xs ≡ drop n ys → drop (n + 1) xs ≡ drop (n + 1) ys
less_ahead xs ys n e = sym (drop-drop 1 n xs) ∙ ap (drop 1) e ∙ drop-drop 1 n ys

-- what is left of facts where those that one subsumes are dropped from the first of them, and the
-- others are still ahead: before the place are those that stay
pub record AreSifted (f : Fact) (all left : List Fact) (place : ℕ) : Type 0 where
  pub seen : ℕ
  pub stay : take place left ≡ unsubsumed f (take seen all)
  pub ahead : drop place left ≡ drop seen all

-- at first all are ahead
pub none_sifted : (f : Fact) (all : List Fact) → AreSifted f all all 0
none_sifted f all = record { seen = 0; stay = refl; ahead = refl }

-- as many are ahead on either side
as_many_ahead : (all left : List Fact) (seen place : ℕ) → drop place left ≡ drop seen all → length left - place ≡ length all - seen
as_many_ahead all left seen place ahead = sym (length-drop place left) ∙ ap length ahead ∙ length-drop seen all

-- the next one is the next of all
pub next_of_all : (f : Fact) (all left : List Fact) (place : ℕ) (d : Fact) (sifted : AreSifted f all left place) → place < length left
    → (sifted.seen < length all) × (get_or left place d ≡ get_or all sifted.seen d)
next_of_all f all left place d sifted below =
    let many = as_many_ahead all left sifted.seen place sifted.ahead in
    let at : get_or (drop place left) 0 d ≡ get_or (drop sifted.seen all) 0 d = ap (λ l. get_or l 0 d) sifted.ahead in
    let here : get_or (drop place left) 0 d ≡ get_or left place d = grind (arith, get_or-drop place left 0 d) in
    let there : get_or (drop sifted.seen all) 0 d ≡ get_or all sifted.seen d = grind (arith, get_or-drop sifted.seen all 0 d) in
    (omega (arith, many, below), sym here ∙ at ∙ there)

one_less : (all left : List Fact) (seen place : ℕ) → drop place left ≡ drop seen all → drop (place + 1) left ≡ drop (seen + 1) all
one_less all left seen place ahead = sym (drop-drop 1 place left) ∙ ap (drop 1) ahead ∙ drop-drop 1 seen all

-- if the fact subsumes the next one, that is dropped
pub one_dropped : (f x : Fact) (all left : List Fact) (place : ℕ) → AreSifted f all left place → place < length left → x ≡ get_or left place x
    → does_subsume f x ≡ true → AreSifted f all (take place left ++ drop (place + 1) left) place
one_dropped f x all left place sifted below is subsumed =
    let next = next_of_all f all left place x sifted below in
    let longer : take (sifted.seen + 1) all ≡ take sifted.seen all ++ x ∷ [] =
    take_more all sifted.seen x next.0 ∙ ap (λ y. take sifted.seen all ++ y ∷ []) (sym (is ∙ next.1)) in
    let long : length (take place left) ≡ place = length-take-le place left (omega (arith, below)) in
    record {
      seen = sifted.seen + 1;
      stay =
          subst (λ n. take n (take place left ++ drop (place + 1) left) ≡ take place left) long (take-append_seam (take place left) (drop (place + 1) left))
          ∙ unsubsumed_drops f x (take sifted.seen all) (take place left) sifted.stay subsumed
          ∙ ap (unsubsumed f) (sym longer);
      ahead =
          subst (λ n. drop n (take place left ++ drop (place + 1) left) ≡ drop (place + 1) left) long (drop-append_seam (take place left) (drop (place + 1) left))
          ∙ one_less all left sifted.seen place sifted.ahead;
    }

-- else it stays
pub one_stays : (f x : Fact) (all left : List Fact) (place : ℕ) → AreSifted f all left place → place < length left → x ≡ get_or left place x
    → does_subsume f x ≡ false → AreSifted f all left (place + 1)
one_stays f x all left place sifted below is other =
    let next = next_of_all f all left place x sifted below in
    let longer : take (sifted.seen + 1) all ≡ take sifted.seen all ++ x ∷ [] =
    take_more all sifted.seen x next.0 ∙ ap (λ y. take sifted.seen all ++ y ∷ []) (sym (is ∙ next.1)) in
    record {
      seen = sifted.seen + 1;
      stay =
          take_more left place x below ∙ ap (λ y. take place left ++ y ∷ []) (sym is)
          ∙ unsubsumed_stays f x (take sifted.seen all) (take place left) sifted.stay other
          ∙ ap (unsubsumed f) (sym longer);
      ahead = one_less all left sifted.seen place sifted.ahead;
    }

-- if none is ahead, exactly those are left that the fact does not subsume
pub all_sifted : (f : Fact) (all left : List Fact) (place : ℕ) → AreSifted f all left place → length left ≤ place → left ≡ unsubsumed f all
all_sifted f all left place sifted end =
    let many = as_many_ahead all left sifted.seen place sifted.ahead in
    let last : length all ≤ sifted.seen = omega (arith, many, end) in
    sym (take_all place left end) ∙ sifted.stay ∙ ap (unsubsumed f) (take_all sifted.seen all last)

-- if the fact subsumes the last one, and none before it, the others are left
pub last_dropped : (f : Fact) (all : List Fact) (place : ℕ) → take place all ≡ unsubsumed f (take place all) → length all ≡ place + 1
    → does_subsume f (get_or all place f) ≡ true → take place all ≡ unsubsumed f all
last_dropped f all place before last subsumed =
    let longer : take (place + 1) all ≡ take place all ++ get_or all place f ∷ [] = take_more all place f (omega (arith, last)) in
    let whole : take (place + 1) all ≡ all = take_all (place + 1) all (omega (arith, last)) in
    unsubsumed_drops f (get_or all place f) (take place all) (take place all) before subsumed ∙ ap (unsubsumed f) (sym longer ∙ whole)

-- if it subsumes none of them, all are left
pub none_dropped : (f : Fact) (all : List Fact) (place : ℕ) → take place all ≡ unsubsumed f (take place all) → length all ≤ place → all ≡ unsubsumed f all
none_dropped f all place before end = let whole : take place all ≡ all = take_all place all end in sym whole ∙ before ∙ ap (unsubsumed f) whole
