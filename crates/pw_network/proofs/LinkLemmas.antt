-- Lists through one table of links: they stay linked when one more is appended, and when lists are added.
use Rattle.std.proofs.Common.{◌≡◌, ℕ, zero, suc, ◌+◌, ◌-◌, ◌<◌, ◌≤◌, inl, inr, cond, min, List, [], ◌∷◌, ◌++◌, length, map, drop, take, get_or, set, replicate, refl, sym, ap, subst, ◌∙◌, arith, append-nil, append_assoc, length-append, eq-eqb}
use Rattle.std.specs.Prelude.{All}
use Rattle.std.proofs.Math.Nat.{min-eq_left, min-eq_right}
use Rattle.std.proofs.lemmas.Bool.{cases_lt, ne_eqb}
use Rattle.std.proofs.lemmas.Bool.Decides.{eqb_tells}
use Rattle.std.proofs.lemmas.List.{at_drop_all, drop-append-le, get_or_append_left, get_or-append_right, get_or_push, get_or-replicate, get_or-set_other, get_or-set_same, length-map, length-replicate, length-set, length_push, map_push, take_all}
use Rattle.std.proofs.lemmas.List.Elements.{All-push, All-weaker}
use Rattle.pw_network.specs.declared.instance_lists.Ends.{Ends}
use Rattle.pw_network.specs.declared.instance_lists.Link.{Link}
use Rattle.pw_network.specs.inside.Lists.{AreLinked, EndsAt, LeadsTo, Listed, next_of, no_place, number_for, numbers_for, listed_by}

-- ---- the numbers of a list

pub number_same : (list : ℕ) (x : Listed) → x.list ≡ list → number_for list x ≡ x.number ∷ []
number_same list x same = ap (λ b. cond b (x.number ∷ []) []) (eq-eqb list x.list (sym same))

pub number_other : (list : ℕ) (x : Listed) → (x.list ≡ list → ⊥) → number_for list x ≡ []
number_other list x other = ap (λ b. cond b (x.number ∷ []) []) (ne_eqb list x.list (λ same. other (sym same)))

pub numbers_push : (list : ℕ) (listed : List Listed) (x : Listed) → numbers_for list (listed ++ x ∷ []) ≡ numbers_for list listed ++ number_for list x
numbers_push list [] x = append-nil (number_for list x)
numbers_push list (y ∷ listed) x =
    ap (λ l. number_for list y ++ l) (numbers_push list listed x)
    ∙ sym (append_assoc (number_for list y) (numbers_for list listed) (number_for list x))

rest_push : (list from : ℕ) (listed : List Listed) (x : Listed) → from ≤ length listed →
    numbers_for list (drop from (listed ++ x ∷ [])) ≡ numbers_for list (drop from listed) ++ number_for list x
rest_push list from listed x within =
    ap (numbers_for list) (drop-append-le from listed (x ∷ []) within) ∙ numbers_push list (drop from listed) x

pub rest_past : (list at : ℕ) (listed : List Listed) → length listed ≤ at → numbers_for list (drop at listed) ≡ []
rest_past list at listed past = at_drop_all (numbers_for list) listed at past

-- an instance of the list is among its numbers from any place before it
some_left : (list from at : ℕ) (listed : List Listed) (d : Listed) → from ≤ at → at < length listed →
    (get_or listed at d).list ≡ list → 1 ≤ length (numbers_for list (drop from listed))
some_left list from at [] d upto there of_list = absurd (omega arith)
some_left list zero zero (x ∷ listed) d upto there of_list =
    let one = ap length (number_same list x of_list) in
    let all = length-append (number_for list x) (numbers_for list listed) in
    omega arith
some_left list zero (suc at) (x ∷ listed) d upto there of_list =
    let later = some_left list zero at listed d (omega arith) (omega arith) of_list in
    let all = length-append (number_for list x) (numbers_for list listed) in
    omega arith
some_left list (suc from) zero (x ∷ listed) d upto there of_list = absurd (omega arith)
some_left list (suc from) (suc at) (x ∷ listed) d upto there of_list = some_left list from at listed d (omega arith) (omega arith) of_list

pub none_left : (list from at : ℕ) (listed : List Listed) (d : Listed) → from ≤ at → at < length listed →
    (get_or listed at d).list ≡ list → numbers_for list (drop from listed) ≡ [] → ⊥
none_left list from at listed d upto there of_list none =
    let some = some_left list from at listed d upto there of_list in
    let long = ap length none in
    omega arith

-- ---- places given in other ways

pub leads_as : (listed : List Listed) (list other from after at place : ℕ) → list ≡ other → from ≡ after → at ≡ place →
    LeadsTo listed list from at → LeadsTo listed other after place
leads_as listed list other from after at place same_cell same_from same leads =
    subst (λ n. LeadsTo listed other after n) same
    (subst (λ m. LeadsTo listed other m at) same_from (subst (λ c. LeadsTo listed c from at) same_cell leads))

ends_as : (listed : List Listed) (list other at place : ℕ) → list ≡ other → at ≡ place → EndsAt listed list at → EndsAt listed other place
ends_as listed list other at place same_cell same ends =
    subst (λ n. EndsAt listed other n) same (subst (λ c. EndsAt listed c at) same_cell ends)

-- ---- one more

module _ (listed : List Listed) (x : Listed) (few : length listed + 1 ≤ no_place) where
  abbrev more : List Listed
  more = listed ++ x ∷ []

  long : length more ≡ length listed + 1
  long = length_push listed x

  leads_there : (list from at : ℕ) → from ≤ length listed → LeadsTo listed list from at → at < length listed → LeadsTo more list from at
  leads_there list from at within leads there =
      record {
        same = rest_push list at listed x (omega arith) ∙ ap (λ l. l ++ number_for list x) leads.same ∙ sym (rest_push list from listed x within);
        of_list = λ d upto. ap (λ (r : Listed). r.list) (get_or_append_left listed (x ∷ []) d at there) ∙ leads.of_list d there;
        none = λ past. absurd (let l = long in omega arith);
      }

  leads_past : (list from at : ℕ) → from ≤ length listed → LeadsTo listed list from at → length listed ≤ at → (x.list ≡ list → ⊥) → LeadsTo more list from at
  leads_past list from at within leads past other =
      let none = leads.none past in
      record {
        same = rest_past list at more (let l = long in omega arith)
            ∙ sym (rest_push list from listed x within ∙ ap (λ l. numbers_for list (drop from listed) ++ l) (number_other list x other)
            ∙ append-nil (numbers_for list (drop from listed)) ∙ sym leads.same ∙ rest_past list at listed past);
        of_list = λ d upto. absurd (let l = long in omega arith);
        none = λ p. none;
      }

  leads_other : (list from at : ℕ) → from ≤ length listed → LeadsTo listed list from at → (x.list ≡ list → ⊥) → LeadsTo more list from at
  leads_other list from at within leads other =
      elim (cases_lt at (length listed)) [
        | inl there ↦ leads_there list from at within leads there
        | inr past ↦ leads_past list from at within leads past other
      ]

  -- what led past the end leads to the new one
  leads_new : (from at : ℕ) → from ≤ length listed → LeadsTo listed x.list from at → length listed ≤ at → LeadsTo more x.list from (length listed)
  leads_new from at within leads past =
      record {
        same = rest_push x.list (length listed) listed x (omega arith)
            ∙ ap (λ l. l ++ number_for x.list x)
            (rest_past x.list (length listed) listed (omega arith) ∙ sym (rest_past x.list at listed past) ∙ leads.same)
            ∙ sym (rest_push x.list from listed x within);
        of_list = λ d upto. ap (λ (r : Listed). r.list) (get_or_push listed x d (length listed) refl);
        none = λ p. absurd (let l = long in omega arith);
      }

  leads_least : (from at : ℕ) → from ≤ length listed → LeadsTo listed x.list from at → LeadsTo more x.list from (min at (length listed))
  leads_least from at within leads =
      elim (cases_lt at (length listed)) [
        | inl there ↦ subst (λ n. LeadsTo more x.list from n) (sym (min-eq_left (let u : at ≤ length listed = omega arith in u))) (leads_there x.list from at within leads there)
        | inr past ↦ subst (λ n. LeadsTo more x.list from n) (sym (min-eq_right past)) (leads_new from at within leads past)
      ]

  -- the new one leads nowhere yet
  leads_nowhere : LeadsTo more x.list (length listed + 1) no_place
  leads_nowhere =
      record {
        same = rest_past x.list no_place more (let l = long in omega arith) ∙ sym (rest_past x.list (length listed + 1) more (let l = long in omega arith));
        of_list = λ d upto. absurd (let l = long in omega arith);
        none = λ p. refl;
      }

  ends_other : (list at : ℕ) → EndsAt listed list at → (x.list ≡ list → ⊥) → EndsAt more list at
  ends_other list at ends other =
      elim (cases_lt at (length listed)) [
        | inl there ↦ record {
          rest = rest_push list (at + 1) listed x (omega arith) ∙ ap (λ l. l ++ number_for list x) ends.rest ∙ number_other list x other;
          of_list = λ d upto. ap (λ (r : Listed). r.list) (get_or_append_left listed (x ∷ []) d at there) ∙ ends.of_list d there;
          none = λ past. absurd (let l = long in omega arith);
        }
        | inr past ↦ (let none = ends.none past in let is = none.0 in record {
          rest = rest_past list (at + 1) more (let l = long in omega arith);
          of_list = λ d upto. absurd (let l = long in omega arith);
          none = λ p. (is, numbers_push list listed x ∙ ap (λ l. l ++ number_for list x) none.1 ∙ number_other list x other);
        })
      ]

  ends_new : EndsAt more x.list (length listed)
  ends_new =
      record {
        rest = rest_past x.list (length listed + 1) more (let l = long in omega arith);
        of_list = λ d upto. ap (λ (r : Listed). r.list) (get_or_push listed x d (length listed) refl);
        none = λ p. absurd (let l = long in omega arith);
      }

  -- one of the list that is not the last leads to another one
  not_last : (last at n : ℕ) (d : Listed) → EndsAt listed x.list last → at < length listed → (get_or listed at d).list ≡ x.list → (at ≡ last → ⊥) →
      LeadsTo listed x.list (at + 1) n → length listed ≤ n → ⊥
  not_last last at n d ends there of_list other leads past =
      let none_after : numbers_for x.list (drop (at + 1) listed) ≡ [] = sym leads.same ∙ rest_past x.list n listed past in
      elim (cases_lt last (length listed)) [
        | inl here ↦ elim (cases_lt at last) [
          | inl before ↦ none_left x.list (at + 1) last listed d (omega arith) here (ends.of_list d here) none_after
          | inr after ↦ (let apart : last + 1 ≤ at = elim (cases_lt last at) [ inl less ↦ omega arith | inr upto ↦ absurd (other (omega arith)) ] in
              none_left x.list (last + 1) at listed d apart there of_list ends.rest)
        ]
        | inr nowhere ↦ none_left x.list 0 at listed d (omega arith) there of_list (ends.none nowhere).1
      ]

  -- the last leads past the end
  last_leads : (last at n : ℕ) → at ≡ last → EndsAt listed x.list last → LeadsTo listed x.list (at + 1) n → length listed ≤ n
  last_leads last at n is ends leads =
      let none_after : numbers_for x.list (drop (at + 1) listed) ≡ [] = ap (λ k. numbers_for x.list (drop (k + 1) listed)) is ∙ ends.rest in
      elim (cases_lt n (length listed)) [
        | inl there ↦ absurd (none_left x.list n n listed x (omega arith) there (leads.of_list x there) (leads.same ∙ none_after))
        | inr past ↦ past
      ]

  module _ (nexts : List ℕ) (ends : List Ends) (e : Ends) (as_many : length nexts ≡ length listed) (here : x.list < length ends)
      (read : e ≡ get_or ends x.list e) (linked : AreLinked listed nexts ends) where
    abbrev led : List ℕ
    led = set nexts e.last (length listed) ++ no_place ∷ []

    abbrev new_ends : Ends
    new_ends = record { first = min e.first (length listed); last = length listed }

    last : EndsAt listed x.list e.last
    last = ends_as listed x.list x.list (get_or ends x.list e).last e.last refl (ap (λ (a : Ends). a.last) (sym read)) (linked.lasts x.list e here)

    first : LeadsTo listed x.list 0 e.first
    first = leads_as listed x.list x.list 0 0 (get_or ends x.list e).first e.first refl refl (ap (λ (a : Ends). a.first) (sym read)) (linked.firsts x.list e here)

    still_led : (at : ℕ) → at < length listed → get_or led at 0 ≡ get_or (set nexts e.last (length listed)) at 0
    still_led at there = get_or_append_left (set nexts e.last (length listed)) (no_place ∷ []) 0 at (let l = length-set nexts e.last (length listed) in omega arith)

    -- one that existed leads to the next
    last_led : (at : ℕ) (d : Listed) → at < length listed → at ≡ e.last → LeadsTo more (get_or listed at d).list (at + 1) (get_or led at 0)
    last_led at d there is =
        let list = (get_or listed at d).list in
        let of_list : list ≡ x.list = ap (λ n. (get_or listed n d).list) is ∙ last.of_list d (omega arith) in
        let leads = leads_as listed list x.list (at + 1) (at + 1) (get_or nexts at 0) (get_or nexts at 0) of_list refl refl (linked.chained at d there) in
        let next : get_or led at 0 ≡ length listed =
        still_led at there ∙ ap (λ n. get_or (set nexts n (length listed)) at 0) (sym is) ∙ get_or-set_same nexts at (length listed) 0 (omega arith) in
        leads_as more x.list list (at + 1) (at + 1) (length listed) (get_or led at 0) (sym of_list) refl (sym next)
        (leads_new (at + 1) (get_or nexts at 0) (omega arith) leads (last_leads e.last at (get_or nexts at 0) is last leads))

    other_led : (at : ℕ) (d : Listed) → at < length listed → (at ≡ e.last → ⊥) → LeadsTo more (get_or listed at d).list (at + 1) (get_or nexts at 0)
    other_led at d there other =
        let list = (get_or listed at d).list in
        let n = get_or nexts at 0 in
        let leads = linked.chained at d there in
        elim (eqb_tells list x.list) [
          | inl same ↦ elim (cases_lt n (length listed)) [
            | inl inside ↦ leads_there list (at + 1) n (omega arith) leads inside
            | inr past ↦ absurd (not_last e.last at n d last there same.1 other (leads_as listed list x.list (at + 1) (at + 1) n n same.1 refl refl leads) past)
          ]
          | inr differs ↦ leads_other list (at + 1) n (omega arith) leads (λ same. differs.1 (sym same))
        ]

    old_led : (at : ℕ) (d : Listed) → at < length listed → LeadsTo more (get_or listed at d).list (at + 1) (get_or led at 0)
    old_led at d there =
        let list = (get_or listed at d).list in
        elim (eqb_tells at e.last) [
          | inl is ↦ last_led at d there is.1
          | inr other ↦ leads_as more list list (at + 1) (at + 1) (get_or nexts at 0) (get_or led at 0) refl refl
              (sym (still_led at there ∙ get_or-set_other nexts e.last at (length listed) 0 other.1)) (other_led at d there other.1)
        ]

    more_led : (at : ℕ) (d : Listed) → at < length more → LeadsTo more (get_or more at d).list (at + 1) (get_or led at 0)
    more_led at d within =
        elim (cases_lt at (length listed)) [
          | inl there ↦ leads_as more (get_or listed at d).list (get_or more at d).list (at + 1) (at + 1) (get_or led at 0) (get_or led at 0)
              (ap (λ (r : Listed). r.list) (sym (get_or_append_left listed (x ∷ []) d at there))) refl refl (old_led at d there)
          | inr past ↦ (let is : length listed ≡ at = let l = long in omega arith in
              let count : length (set nexts e.last (length listed)) ≡ at = let l = length-set nexts e.last (length listed) in omega arith in
              leads_as more x.list (get_or more at d).list (length listed + 1) (at + 1) no_place (get_or led at 0)
              (ap (λ (r : Listed). r.list) (sym (get_or_push listed x d at is))) (ap (λ n. n + 1) is)
              (sym (get_or_push (set nexts e.last (length listed)) no_place 0 at count)) leads_nowhere)
        ]

    own_ends : (list : ℕ) (d : Ends) → list ≡ x.list → new_ends ≡ get_or (set ends x.list new_ends) list d
    own_ends list d same = sym (ap (λ n. get_or (set ends x.list new_ends) n d) same ∙ get_or-set_same ends x.list new_ends d here)

    other_ends : (list : ℕ) (d : Ends) → (list ≡ x.list → ⊥) → get_or ends list d ≡ get_or (set ends x.list new_ends) list d
    other_ends list d other = sym (get_or-set_other ends x.list list new_ends d other)

    more_firsts : (list : ℕ) (d : Ends) → list < length ends → LeadsTo more list 0 (get_or (set ends x.list new_ends) list d).first
    more_firsts list d within =
        let after = (get_or (set ends x.list new_ends) list d).first in
        elim (eqb_tells list x.list) [
          | inl same ↦ leads_as more x.list list 0 0 (min e.first (length listed)) after (sym same.1) refl (ap (λ (a : Ends). a.first) (own_ends list d same.1))
              (leads_least 0 e.first (omega arith) first)
          | inr other ↦ leads_as more list list 0 0 (get_or ends list d).first after refl refl (ap (λ (a : Ends). a.first) (other_ends list d other.1))
              (leads_other list 0 (get_or ends list d).first (omega arith) (linked.firsts list d within) (λ same. other.1 (sym same)))
        ]

    more_lasts : (list : ℕ) (d : Ends) → list < length ends → EndsAt more list (get_or (set ends x.list new_ends) list d).last
    more_lasts list d within =
        let after = (get_or (set ends x.list new_ends) list d).last in
        elim (eqb_tells list x.list) [
          | inl same ↦ ends_as more x.list list (length listed) after (sym same.1) (ap (λ (a : Ends). a.last) (own_ends list d same.1)) ends_new
          | inr other ↦ ends_as more list list (get_or ends list d).last after refl (ap (λ (a : Ends). a.last) (other_ends list d other.1))
              (ends_other list (get_or ends list d).last (linked.lasts list d within) (λ same. other.1 (sym same)))
        ]

    pub linked_push : AreLinked more led (set ends x.list new_ends)
    linked_push =
        let many = length-set ends x.list new_ends in
        record {
          chained = more_led;
          firsts = λ list d within. more_firsts list d (omega arith);
          lasts = λ list d within. more_lasts list d (omega arith);
          here = All-push (λ entry. entry.list < length (set ends x.list new_ends)) listed x
              (All-weaker (λ entry. entry.list < length ends) (λ entry. entry.list < length (set ends x.list new_ends)) (λ entry there. omega arith) listed linked.here)
              (omega arith);
        }

-- ---- more lists

-- nothing is in a list past the last
pub none_past : (listed : List Listed) (lists list : ℕ) → All (λ entry. entry.list < lists) listed → lists ≤ list → numbers_for list listed ≡ []
none_past [] lists list below past = refl
none_past (x ∷ listed) lists list below past =
    let first = below 0 x (omega arith) in
    ap (λ l. l ++ numbers_for list listed) (number_other list x (λ same. omega arith))
    ∙ none_past listed lists list (λ k d within. below (suc k) d (omega arith)) past

module _ (listed : List Listed) (nexts : List ℕ) (ends : List Ends) (count : ℕ) (e : Ends) (few : length listed ≤ no_place)
    (no_first : e.first ≡ no_place) (no_last : e.last ≡ no_place) (linked : AreLinked listed nexts ends) where
  abbrev wider : List Ends
  wider = ends ++ replicate count e

  wide : length wider ≡ length ends + count
  wide = let a = length-append ends (replicate count e) in let b = length-replicate count e in omega arith

  old_ends : (list : ℕ) (d : Ends) → list < length ends → get_or ends list d ≡ get_or wider list d
  old_ends list d there = sym (get_or_append_left ends (replicate count e) d list there)

  added_ends : (list : ℕ) (d : Ends) → length ends ≤ list → list < length wider → e ≡ get_or wider list d
  added_ends list d past within =
      sym (get_or-append_right ends (replicate count e) (length ends) list d refl past
      ∙ get_or-replicate count (list - length ends) e d (let w = wide in omega arith))

  leads_none : (list at : ℕ) → length ends ≤ list → at ≡ no_place → LeadsTo listed list 0 at
  leads_none list at past is =
      record {
        same = rest_past list at listed (omega arith) ∙ sym (none_past listed (length ends) list linked.here past);
        of_list = λ d within. absurd (omega arith);
        none = λ p. is;
      }

  ends_none : (list at : ℕ) → length ends ≤ list → at ≡ no_place → EndsAt listed list at
  ends_none list at past is =
      record {
        rest = rest_past list (at + 1) listed (omega arith);
        of_list = λ d within. absurd (omega arith);
        none = λ p. (is, none_past listed (length ends) list linked.here past);
      }

  pub linked_wider : AreLinked listed nexts wider
  linked_wider =
      record {
        chained = linked.chained;
        firsts = λ list d within. elim (cases_lt list (length ends)) [
          | inl there ↦ leads_as listed list list 0 0 (get_or ends list d).first (get_or wider list d).first refl refl
              (ap (λ (a : Ends). a.first) (old_ends list d there)) (linked.firsts list d there)
          | inr past ↦ leads_none list (get_or wider list d).first past (ap (λ (a : Ends). a.first) (sym (added_ends list d past within)) ∙ no_first)
        ];
        lasts = λ list d within. elim (cases_lt list (length ends)) [
          | inl there ↦ ends_as listed list list (get_or ends list d).last (get_or wider list d).last refl
              (ap (λ (a : Ends). a.last) (old_ends list d there)) (linked.lasts list d there)
          | inr past ↦ ends_none list (get_or wider list d).last past (ap (λ (a : Ends). a.last) (sym (added_ends list d past within)) ∙ no_last)
        ];
        here = All-weaker (λ entry. entry.list < length ends) (λ entry. entry.list < length wider) (λ entry there. let w = wide in omega arith) listed linked.here;
      }

-- ---- as the code goes

-- the last leads to the new one, which is pushed
pub linked_after : (links led after : List Link) (ends : List Ends) (e : Ends) (x : Listed) (at first : ℕ) → at + 1 ≤ no_place →
    length links ≡ at → x.list < length ends → e ≡ get_or ends x.list e →
    map listed_by led ≡ map listed_by links → map next_of led ≡ set (map next_of links) e.last at →
    after ≡ led ++ record { list = x.list; number = x.number; next = no_place } ∷ [] → first ≡ min e.first at →
    AreLinked (map listed_by links) (map next_of links) ends →
    AreLinked (map listed_by after) (map next_of after) (set ends x.list (record { first = first; last = at }))
linked_after links led after ends e x at first few long here read same_listed nexts pushed least linked =
    let made : Link = record { list = x.list; number = x.number; next = no_place } in
    let many : length (map listed_by links) ≡ at = length-map links listed_by ∙ long in
    let more_listed = ap (map listed_by) pushed ∙ map_push listed_by led made ∙ ap (λ l. l ++ x ∷ []) same_listed in
    let more_nexts = ap (map next_of) pushed ∙ map_push next_of led made
    ∙ ap (λ l. l ++ no_place ∷ []) (nexts ∙ ap (λ n. set (map next_of links) e.last n) (sym many)) in
    let before : Ends = record { first = min e.first (length (map listed_by links)); last = length (map listed_by links) } in
    let placed : Ends = record { first = first; last = at } in
    let places : before ≡ placed = (λ i. record { first = (ap (min e.first) many ∙ sym least) i; last = many i }) in
    subst (λ a. AreLinked (map listed_by after) (map next_of after) (set ends x.list a)) places
    (subst (λ l. AreLinked (map listed_by after) l (set ends x.list before)) (sym more_nexts)
    (subst (λ l. AreLinked l (set (map next_of links) e.last (length (map listed_by links)) ++ no_place ∷ []) (set ends x.list before)) (sym more_listed)
    (linked_push (map listed_by links) x (omega (arith, many, few)) (map next_of links) ends e
    (length-map links next_of ∙ sym (length-map links listed_by)) here read linked)))

-- more ends follow
pub linked_resized : (links : List Link) (ends after : List Ends) (e : Ends) (held size count : ℕ) → length links ≤ no_place →
    e.first ≡ no_place → e.last ≡ no_place → held ≡ length ends → size ≡ held + count →
    after ≡ take size ends ++ replicate (size - held) e →
    AreLinked (map listed_by links) (map next_of links) ends → AreLinked (map listed_by links) (map next_of links) after
linked_resized links ends after e held size count few no_first no_last long sizes resized linked =
    let within : length ends ≤ size = omega (arith, long, sizes) in
    let added : size - held ≡ count = omega (arith, sizes) in
    let all : after ≡ ends ++ replicate count e = resized ∙ (λ i. take_all size ends within i ++ replicate (added i) e) in
    subst (λ l. AreLinked (map listed_by links) (map next_of links) l) (sym all)
    (linked_wider (map listed_by links) (map next_of links) ends count e (let l = length-map links listed_by in omega (arith, few, l)) no_first no_last linked)
