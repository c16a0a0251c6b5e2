-- Groups that are held: those of the same premises are the same.
use Rattle.std.proofs.Common.{◌≡◌, ℕ, ◌-◌, ◌≤◌, List, [], ◌∷◌, ◌++◌, length, take, drop, map, replicate, refl, sym, ap, ◌∙◌, arith}
use Rattle.std.proofs.Props.{props}
use mathlib.Core.HLevel.{is_prop→PathP}
use Rattle.std.specs.List.{AllByRecursion}
use Rattle.std.proofs.lemmas.List.{length-map, length-take-le, take-append-drop}
use Rattle.std.proofs.lemmas.List.Elements.{All-take, recursion_from_All}
use Rattle.pw_reasons.specs.Groups.{AreGroups, most_groups, most_in_a_group}
use Rattle.pw_reasons.specs.declared.group.Group.{Group}
use Rattle.pw_reasons.specs.declared.groups.Groups.{Groups}
use Rattle.pw_reasons.specs.inside.GroupsHeld.{FillsUp, groups_in, no_group, premises_in}
use Rattle.pw_reasons.specs.inside.Held.{HoldsFew}
use Rattle.pw_transcript.specs.Reading.{HoldsGroups}

-- ---- one group

-- its numbers are held in full
abbrev IsFull : Group → Type 0
IsFull group = length group.held ≡ most_in_a_group

-- any two proofs that numbers are so many are equal
few_prop : (held : List ℕ) (count : ℕ) → IsProp (HoldsFew most_in_a_group held count)
few_prop held count = hlevel props

-- a group has as many premises as are counted
count_of : (group : Group) → IsFull group → group.count ≡ length (premises_in group)
count_of group full = sym (length-take-le group.count group.held (omega (arith, full, group.few.few)))

-- what it holds is its premises, and 0 after them
held_of : (group : Group) → IsFull group → group.held ≡ premises_in group ++ replicate (most_in_a_group - length (premises_in group)) 0
held_of group full =
    sym (take-append-drop group.count group.held)
    ∙ ap (λ (l : List ℕ). premises_in group ++ l) (group.few.rest ∙ ap (λ n. replicate (most_in_a_group - n) 0) (count_of group full))

same_group : (a b : Group) → IsFull a → IsFull b → premises_in a ≡ premises_in b → a ≡ b
same_group a b full_a full_b same = λ k. record {
  held = held k;
  count = count k;
  few = is_prop→PathP (λ k. HoldsFew most_in_a_group (held k) (count k)) (λ k. few_prop (held k) (count k)) a.few b.few k;
}
  where
    held : a.held ≡ b.held
    held = held_of a full_a ∙ ap (λ (l : List ℕ). l ++ replicate (most_in_a_group - length l) 0) same ∙ sym (held_of b full_b)

    count : a.count ≡ b.count
    count = count_of a full_a ∙ ap length same ∙ sym (count_of b full_b)

-- ---- several groups

same_list : (xs ys : List Group) → AllByRecursion IsFull xs → AllByRecursion IsFull ys → map premises_in xs ≡ map premises_in ys → xs ≡ ys
same_list [] [] full_x full_y same = refl
same_list [] (y ∷ ys) full_x full_y same = absurd (cc)
same_list (x ∷ xs) [] full_x full_y same = absurd (cc)
same_list (x ∷ xs) (y ∷ ys) full_x full_y same =
    let first : premises_in x ≡ premises_in y = cc in
    let rest : map premises_in xs ≡ map premises_in ys = cc in
    ap (λ (g : Group). g ∷ xs) (same_group x y full_x.0 full_y.0 first)
    ∙ ap (λ (l : List Group). y ∷ l) (same_list xs ys full_x.1 full_y.1 rest)

groups_prop : (held : List Group) (count : ℕ) → IsProp (AreGroups (groups_in held count))
groups_prop held count = hlevel props

rest_prop : (held : List Group) (count : ℕ) → IsProp (FillsUp held count)
rest_prop held count = hlevel props

most_prop : (count : ℕ) → IsProp (count ≤ most_groups)
most_prop count = hlevel props

-- as many groups are held as are counted
groups_counted : (held : Groups) (groups : List (List ℕ)) → HoldsGroups held groups → held.count ≡ length groups
groups_counted held groups holds =
    omega (arith, length-take-le held.count held.held (omega (arith, holds.1, held.few)), length-map (take held.count held.held) premises_in, ap length holds.0)

front_of : (a b : Groups) (groups : List (List ℕ)) → HoldsGroups a groups → HoldsGroups b groups → take a.count a.held ≡ take b.count b.held
front_of a b groups in_a in_b =
    same_list (take a.count a.held) (take b.count b.held)
    (recursion_from_All IsFull _ (All-take IsFull a.count a.held in_a.2))
    (recursion_from_All IsFull _ (All-take IsFull b.count b.held in_b.2))
    (in_a.0 ∙ sym in_b.0)

-- groups of the same premises are the same
pub same_groups : (a b : Groups) (groups : List (List ℕ)) → HoldsGroups a groups → HoldsGroups b groups → a ≡ b
same_groups a b groups in_a in_b = λ k. record {
  held = held k;
  count = count k;
  few = is_prop→PathP (λ k. count k ≤ most_groups) (λ k. most_prop (count k)) a.few b.few k;
  groups = is_prop→PathP (λ k. AreGroups (groups_in (held k) (count k))) (λ k. groups_prop (held k) (count k)) a.groups b.groups k;
  rest = is_prop→PathP (λ k. FillsUp (held k) (count k)) (λ k. rest_prop (held k) (count k)) a.rest b.rest k;
}
  where
    count : a.count ≡ b.count
    count = groups_counted a groups in_a ∙ sym (groups_counted b groups in_b)

    held : a.held ≡ b.held
    held =
        sym (take-append-drop a.count a.held)
        ∙ ap (λ (l : List Group). l ++ drop a.count a.held) (front_of a b groups in_a in_b)
        ∙ ap (λ (l : List Group). take b.count b.held ++ l)
        (a.rest ∙ ap (λ n. replicate (most_groups - n) no_group) count ∙ sym b.rest)
        ∙ take-append-drop b.count b.held
