use Rattle.std.proofs.Common.{rules, ◌∷◌, refl, inr, arith, codes, List, ℕ, ℤ, ◌≡◌}
use Rattle.pw_info.specs.Number.{SpellsNumber}
use Rattle.std.proofs.lemmas.Int.{ints}
use Rattle.pw_info.proofs.Dots.{cut}
use Rattle.pw_info.proofs.laws.spelling_examples.Goals as goal

pub returns-clause-equal_ends : goal.returns-clause-equal_ends
returns-clause-equal_ends c = inr (codes "5", codes "5", refl, search rules, search rules, omega (arith, ints))

pub returns-clause-around_zero : goal.returns-clause-around_zero
returns-clause-around_zero c = inr (codes "-3", codes "4", refl, search rules, search rules, omega (arith, ints))

bad_back : (back : List ℕ) (hi : ℤ) → codes "..2" ≡ 46 ∷ back → SpellsNumber back hi → ⊥
bad_back = search rules

worse_back : (back : List ℕ) (hi : ℤ) → codes ".2..3" ≡ 46 ∷ back → SpellsNumber back hi → ⊥
worse_back = search rules

-- after the first dot comes the rest of the dots, and no number begins with a dot
pub returns-clause-three_dots : goal.returns-clause-three_dots
returns-clause-three_dots c = λ lo hi spelled.
    let (back, is, least, greatest, order) = cut (codes "1...2") (codes "1") (codes "..2") lo hi refl (search rules) spelled in
    bad_back back hi is greatest

pub returns-clause-three_ends : goal.returns-clause-three_ends
returns-clause-three_ends c = λ lo hi spelled.
    let (back, is, least, greatest, order) = cut (codes "1..2..3") (codes "1") (codes ".2..3") lo hi refl (search rules) spelled in
    worse_back back hi is greatest
