-- What lies between two places of a buffer, after bytes were written past it.
use Rattle.std.proofs.Common.{◌≡◌, ℕ, ◌+◌, ◌≤◌, List, ◌++◌, length, take, drop, ap, ◌∙◌, arith, length-take-le, length-drop, []}
use Rattle.std.proofs.lemmas.Grind.{common_steps}
use Rattle.std.proofs.lemmas.Slice.{take-put_mid}
use lib.Seq.{drop-append-le}
use borrow.Rule.Slice.PartMut.{put_mid}

-- the bytes from `start` to `end`, and then those that were written from `end` on
pub held-put_mid : (start end n k : ℕ) (xs ys : List ℕ) → n ≡ end + length ys → start ≤ end → end ≤ length xs
    → drop start (take n (put_mid end k xs ys)) ≡ drop start (take end xs) ++ ys
held-put_mid start end n k xs ys e le within =
    ap (drop start) (take-put_mid end k xs ys n e within)
    ∙ drop-append-le start (take end xs) ys (omega (arith, length-take-le end xs within))

-- nothing lies between a place and itself
pub held-none : (start end : ℕ) (xs : List ℕ) → start ≡ end → drop start (take end xs) ≡ []
held-none start end xs e = grind (arith, common_steps)

-- and if nothing lies between two places, they are equal
pub held-empty : (start end : ℕ) (xs : List ℕ) → start ≤ end → end ≤ length xs → drop start (take end xs) ≡ [] → start ≡ end
held-empty start end xs le within e =
    omega (arith, ap length e, length-drop start (take end xs), length-take-le end xs within, le)
