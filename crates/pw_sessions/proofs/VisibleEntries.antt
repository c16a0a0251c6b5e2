-- What is answered from what is visible is what is answered; and a choice looks only at what is
-- visible in the premises that are believed or named.
use Rattle.std.proofs.Common.{◌≡◌, ℕ, Bool, true, List, [], ◌∷◌, ◌++◌, Option, Some, All, Contains, cond, filter, not, refl, sym, ap, subst, ◌∙◌, inl, inr}
use Rattle.std.specs.List.{find, list_any}
use Rattle.std.specs.Ordering.{nat_cmp}
use Rattle.std.specs.Cmp.{nat_cmp_total}
use Rattle.std.specs.Prelude.{nat_eq}
use Rattle.std.specs.FinSet.{contains, contains-difference, contains-from_list_nat, contains-is_subset, difference, from_list, is_subset, union}
use Rattle.std.proofs.lemmas.Bool.{and_parts, cases_Bool}
use Rattle.std.proofs.lemmas.List.Elements.{All-cons, All-contains, All-contains_itself, All-head, All-nil, All-tail, All-weaker, Contains-append_left, Contains-append_right}
use Rattle.std.proofs.lemmas.List.Folds.{Any-from_list_any}
use Rattle.pw_premises.specs.Premises.{Premises}
use Rattle.pw_premises.specs.PremiseSubsets.{is_subset_trans, is_subset_union_left, is_subset_union_right, union_is_subset}
use Rattle.pw_decl.specs.Declaration.{Declared}
use Rattle.pw_settle.specs.Values.{nat_eq_decides}
use Rattle.pw_reasons.specs.Combinations.{combinations_of, groups_of, worldview_of}
use Rattle.pw_reasons.specs.Groups.{all_of}
use Rattle.pw_reasons.specs.SameInfo.{is_contradiction}
use Rattle.pw_sessions.proofs.TakenPremises.{taken_from}
use Rattle.pw_reasons.proofs.ReasonLemmas.{reason_of_subsets}
use Rattle.pw_sessions.specs.declared.command.Command.{Command}
use Rattle.pw_sessions.specs.declared.command.Command.TheVariants as commands
use Rattle.pw_sessions.specs.Reply as reply
use Rattle.pw_sessions.specs.Answer.{answer_to, conflicts_of, reason_in}
use Rattle.pw_sessions.specs.Blanking.{tried_by, tried_with}
use Rattle.pw_sessions.specs.CellNames.{names_after}
use Rattle.pw_sessions.specs.Choosing.{chosen_in, is_consistent}
use Rattle.pw_sessions.specs.Entries.{Entry, support_of}
use Rattle.pw_sessions.specs.Values.{cell_value, is_visible, value_by_name, visible_in}
use Rattle.pw_sessions.proofs.ListMembers.{any_member}

-- ---- what is visible of what is visible

-- what passes a test passes it again
filter_twice : {X : Type 0} (p : X → Bool) (xs : List X) → filter p (filter p xs) ≡ filter p xs
filter_twice p [] = refl
filter_twice p (x ∷ xs) = elim (cases_Bool (p x)) [
  | inl passes ↦ rw passes (rw passes (ap (λ l. x ∷ l) (filter_twice p xs)))
  | inr fails ↦ rw fails (filter_twice p xs)
]

-- what passes the narrower of two tests passes it among what passes the wider
filter_narrower : {X : Type 0} (p q : X → Bool) → ((x : X) → p x ≡ true → q x ≡ true) → (xs : List X) → filter p (filter q xs) ≡ filter p xs
filter_narrower p q within [] = refl
filter_narrower p q within (x ∷ xs) = elim (cases_Bool (p x)) [
  | inl passes ↦ rw passes (rw (within x passes) (rw passes (ap (λ l. x ∷ l) (filter_narrower p q within xs))))
  | inr fails ↦ elim (cases_Bool (q x)) [
    | inl kept ↦ rw fails (rw kept (rw fails (filter_narrower p q within xs)))
    | inr dropped ↦ rw fails (rw dropped (filter_narrower p q within xs))
  ]
]

-- what is visible under some of the beliefs is visible
visible_narrower : (entries : List Entry) (some beliefs : Premises) → is_subset some beliefs ≡ true →
    visible_in (visible_in entries beliefs) some ≡ visible_in entries some
visible_narrower entries some beliefs within =
    filter_narrower (is_visible some) (is_visible beliefs) (λ entry seen. is_subset_trans (support_of entry) some beliefs seen within) entries

-- the reason from only the visible entries is the reason
reason-visible : (d : Declared) (entries : List Entry) (beliefs : Premises) (cell : ℕ) →
    reason_in d (visible_in entries beliefs) beliefs cell ≡ reason_in d entries beliefs cell
reason-visible d entries beliefs cell =
    reason_of_subsets (λ w. cell_value d (visible_in (visible_in entries beliefs) w) cell) (λ w. cell_value d (visible_in entries w) cell) beliefs
    (λ some within. ap (λ (l : List Entry). cell_value d l cell) (visible_narrower entries some beliefs within))

-- ---- what is named to choose from

-- what holds of everything in the groups holds of each of them
in_each : (P : ℕ → Type 0) (groups : List (List ℕ)) → All P (all_of groups) → All (All P) groups
in_each P [] all = All-nil (All P)
in_each P (group ∷ groups) all =
    let both : List ℕ = group ++ all_of groups in
    All-cons (All P) group groups
    (All-weaker (Contains group) P (λ n has. All-contains P both n all (Contains-append_left group (all_of groups) n has)) group
    (All-contains_itself group))
    (in_each P groups
    (All-weaker (Contains (all_of groups)) P (λ n has. All-contains P both n all (Contains-append_right group (all_of groups) n has)) (all_of groups)
    (All-contains_itself (all_of groups))))

-- the set of a list has what the list has
listed : (numbers : List ℕ) (n : ℕ) → Contains numbers n → contains (from_list {R = nat_cmp} numbers) n ≡ true
listed numbers n has = contains-from_list_nat numbers n ∙ any_member (λ m. nat_eq m n) numbers n has ((nat_eq_decides n n).1 refl)

-- and is within each set that has all of it
among : (numbers : List ℕ) (s : Premises) → All (λ n. contains s n ≡ true) numbers → is_subset (from_list numbers) s ≡ true
among numbers s all = contains-is_subset nat_cmp_total (from_list numbers) s (λ q one.
    let found = Any-from_list_any (λ m. nat_eq m q) numbers (sym (contains-from_list_nat numbers q) ∙ one) in
    subst (λ n. contains s n ≡ true) ((nat_eq_decides found.1 q).0 found.4)
    (All-contains (λ n. contains s n ≡ true) numbers found.1 all (found.0, found.2, found.3)))

-- a part of what is believed is believed
less_believed : (beliefs named : Premises) → is_subset (difference beliefs named) beliefs ≡ true
less_believed beliefs named = contains-is_subset nat_cmp_total (difference beliefs named) beliefs (λ q one.
    (and_parts (contains beliefs q) _ (sym (contains-difference nat_cmp_total beliefs named q) ∙ one)).0)

-- the worldview of a combination is within what is tried
worldview_within : (beliefs : Premises) (groups : List (List ℕ)) →
    All (λ taken. is_subset (worldview_of beliefs groups taken) (tried_with beliefs groups) ≡ true) (combinations_of groups)
worldview_within beliefs groups =
    let named : Premises = from_list (all_of groups) in
    let each : All (All (λ n. contains named n ≡ true)) groups =
    in_each (λ n. contains named n ≡ true) groups
    (All-weaker (Contains (all_of groups)) (λ n. contains named n ≡ true) (listed (all_of groups)) (all_of groups) (All-contains_itself (all_of groups))) in
    All-weaker (All (λ n. contains named n ≡ true))
    (λ taken. is_subset (worldview_of beliefs groups taken) (tried_with beliefs groups) ≡ true)
    (λ taken has. union_is_subset (difference beliefs named) (from_list taken) (union beliefs named)
    (is_subset_trans (difference beliefs named) beliefs (union beliefs named) (less_believed beliefs named) (is_subset_union_left beliefs named))
    (is_subset_trans (from_list taken) named (union beliefs named) (among taken named has) (is_subset_union_right beliefs named)))
    (combinations_of groups) (taken_from (λ n. contains named n ≡ true) groups each)

-- ---- the choice

-- tests that agree on each element find the same
finds_same : {X : Type 0} (p q : X → Bool) (xs : List X) → All (λ x. p x ≡ q x) xs → find p xs ≡ find q xs
finds_same p q [] same = refl
finds_same p q (x ∷ xs) same =
    ap (λ b. cond b (Some x) (find p xs)) (All-head (λ y. p y ≡ q y) x xs same)
    ∙ ap (λ (rest : Option _). cond (q x) (Some x) rest) (finds_same p q xs (All-tail (λ y. p y ≡ q y) x xs same))

-- whether it is consistent is seen in the entries that are visible in more
consistent_seen : (d : Declared) (entries : List Entry) (some more : Premises) → is_subset some more ≡ true →
    is_consistent d (visible_in entries more) some ≡ is_consistent d entries some
consistent_seen d entries some more within =
    ap (λ (seen : List Entry). not (list_any (λ name. is_contradiction (value_by_name d seen name)) (names_after d seen)))
    (visible_narrower entries some more within)

-- so is the first consistent combination, in the entries that are visible in what is tried
pub chosen_seen : (d : Declared) (entries : List Entry) (beliefs : Premises) (groups : List (List ℕ)) →
    chosen_in d (visible_in entries (tried_with beliefs groups)) beliefs groups ≡ chosen_in d entries beliefs groups
chosen_seen d entries beliefs groups =
    finds_same
    (λ taken. is_consistent d (visible_in entries (tried_with beliefs groups)) (worldview_of beliefs groups taken))
    (λ taken. is_consistent d entries (worldview_of beliefs groups taken))
    (combinations_of groups)
    (All-weaker (λ taken. is_subset (worldview_of beliefs groups taken) (tried_with beliefs groups) ≡ true)
    (λ taken. is_consistent d (visible_in entries (tried_with beliefs groups)) (worldview_of beliefs groups taken)
    ≡ is_consistent d entries (worldview_of beliefs groups taken))
    (λ taken within. consistent_seen d entries (worldview_of beliefs groups taken) (tried_with beliefs groups) within)
    (combinations_of groups) (worldview_within beliefs groups))

-- ---- the answer

-- the answer from only the entries that are visible in what is tried is the answer
pub answer-tried : (d : Declared) (entries : List Entry) (beliefs : Premises) (command : Command) →
    answer_to d (visible_in entries (tried_by beliefs command)) beliefs command ≡ answer_to d entries beliefs command
answer-tried d entries beliefs (commands.Ask user cell) =
    ap (λ (l : List Entry). reply.Value (cell_value d l cell)) (filter_twice (is_visible beliefs) entries)
answer-tried d entries beliefs (commands.Why user cell) = λ i.
    reply.Because (cell_value d (filter_twice (is_visible beliefs) entries i) cell) (reason-visible d entries beliefs cell i)
answer-tried d entries beliefs (commands.Conflicts user) =
    ap (λ (l : List Entry). reply.Listed (conflicts_of d l)) (filter_twice (is_visible beliefs) entries)
answer-tried d entries beliefs (commands.Tell user cell fact) = refl
answer-tried d entries beliefs (commands.Attach user callable cells support) = refl
answer-tried d entries beliefs (commands.Believe user premises) = refl
answer-tried d entries beliefs (commands.Doubt user premises) = refl
answer-tried d entries beliefs (commands.Beliefs user) = refl
answer-tried d entries beliefs (commands.Choose user groups) = ap reply.Chose (chosen_seen d entries beliefs (groups_of groups))
