use Rattle.std.proofs.Common.{◌≡◌, ℕ, ◌<◌, List, [], ◌∷◌, length, take, drop, ◌∙◌, ap, refl, arith}
use Rattle.std.proofs.lemmas.List.{take_all, drop_all}
use Rattle.std.proofs.Math.Nat.{le_refl}
use Rattle.std.proofs.lemmas.Bool.Decides.{nat_tests}
use Rattle.pw_info.specs.Lines.{lines_of, HasNoEnd, last_line}
use Rattle.pw_info.proofs.LineLemmas.{lines_of_ended, lines_of_held}
use Rattle.pw_info.proofs.text_lines.split_line.Goals as goal

last_is : (text : List ℕ) → 0 < length text → last_line text ≡ text ∷ []
last_is [] some = absurd (omega arith)
last_is (byte ∷ text) some = refl

last_piece : (text front back : List ℕ) → HasNoEnd text → 0 < length text → front ≡ take (length text) text → back ≡ drop (length text) text → lines_of text ≡ front ∷ lines_of back
last_piece text front back none some at_front at_back =
    rw (at_front, at_back, take_all (length text) text (le_refl (length text)), drop_all (length text) text (le_refl (length text))) (lines_of_held text none ∙ last_is text some)

pub returns-in-Some : goal.returns-in-Some
returns-in-Some c =
    ap lines_of c.in-Some.ensures.some.0 ∙ lines_of_ended c.in-Some.line.now c.in-Some.rest.now c.in-Some.ensures.some.1

pub returns : goal.returns
returns c = last_piece c.args.text.now c.split_at.result.0.now c.split_at.result.1.now c.in_default.ensures.none (grind (arith, nat_tests, c.if-is_empty.ensures)) c.split_at.ensures.front c.split_at.ensures.back
