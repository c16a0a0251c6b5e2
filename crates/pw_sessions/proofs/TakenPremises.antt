-- The premises of combinations are of their groups.
use Rattle.std.proofs.Common.{ℕ, List, [], ◌∷◌, All, map}
use Rattle.std.specs.List.{flat_map}
use Rattle.std.proofs.lemmas.List.Elements.{All-append, All-cons, All-head, All-map, All-nil, All-tail, All-weaker}
use Rattle.pw_reasons.specs.Combinations.{combinations_of}

-- the premise before each of these
abbrev onto : List (List ℕ) → ℕ → List (List ℕ)
onto others premise = map (λ taken. premise ∷ taken) others

all_in_pieces : {X Y : Type 0} (P : Y → Type 0) (f : X → List Y) (Q : X → Type 0) → ((x : X) → Q x → All P (f x)) → (xs : List X) → All Q xs → All P (flat_map f xs)
all_in_pieces P f Q each [] all = All-nil P
all_in_pieces P f Q each (x ∷ xs) all =
    All-append P (f x) (flat_map f xs) (each x (All-head Q x xs all)) (all_in_pieces P f Q each xs (All-tail Q x xs all))

-- what holds of each premise of the groups holds of each premise of each combination
pub taken_from : (P : ℕ → Type 0) (groups : List (List ℕ)) → All (All P) groups → All (All P) (combinations_of groups)
taken_from P [] all = All-cons (All P) [] [] (All-nil P) (All-nil (All P))
taken_from P (group ∷ groups) all =
    let others : List (List ℕ) = combinations_of groups in
    let rest : All (All P) others = taken_from P groups (All-tail (All P) group groups all) in
    all_in_pieces (All P) (onto others) P
    (λ premise one. All-map (All P) (λ taken. premise ∷ taken) others
    (All-weaker (All P) (λ taken. All P (premise ∷ taken)) (λ taken more. All-cons P premise taken one more) others rest))
    group (All-head (All P) group groups all)
