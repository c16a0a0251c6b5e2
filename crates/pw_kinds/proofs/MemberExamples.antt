-- Members that tests give.
use Rattle.std.proofs.Common.{◌≡◌, ℕ, ℤ, pos, ◌<◌, Bool, ◌&&◌, ◌∙◌, ap}
use Rattle.pw_kinds.specs.declared.members.Members.{Members}
use Rattle.pw_kinds.specs.Places.{IsSize}
use Rattle.pw_kinds.specs.Members.{allows, closest, meet_of}
use Rattle.pw_kinds.proofs.MemberSets.{closest_is, allows-closest, allows-meet, size_of-meet, size_of-closest}

-- the closest to two tests that agree on the places of the set are equal
pub same_closest : (size : ℕ) (p q : ℤ → Bool) → IsSize size → ((k : ℕ) → k < size → p (pos k) ≡ q (pos k)) → closest size p ≡ closest size q
same_closest size p q h same =
    closest_is size q (closest size p) (size_of-closest size p h) (λ k l. allows-closest size p h k l ∙ same k l)

-- the merge of the closest to two tests is the closest to both
pub meet_of_closest : (size : ℕ) (p q r : ℤ → Bool) → IsSize size → ((k : ℕ) → k < size → (p (pos k) && q (pos k)) ≡ r (pos k))
    → meet_of (closest size p) (closest size q) ≡ closest size r
meet_of_closest size p q r h same =
    let m : Members = closest size p in
    let n : Members = closest size q in
    closest_is size r (meet_of m n) (size_of-meet m n ∙ size_of-closest size p h) (λ k l.
    allows-meet m n (pos k)
    ∙ ap (λ b. b && allows n (pos k)) (allows-closest size p h k l)
    ∙ ap (λ b. p (pos k) && b) (allows-closest size q h k l)
    ∙ same k l)
