-- The names of the set that tests use are valid names, and differ.
use Rattle.std.proofs.Common.{ℕ, List, [], ◌∷◌, codes, refl, arith}
use Rattle.std.proofs.lemmas.List.Elements.{All-cons, All-nil}
use Rattle.std.specs.List.{IsDistinct}
use Rattle.std.specs.Str.{bytes_eq}
use Rattle.pw_info.specs.Name.{IsName, is_reserved}
use Rattle.pw_info.specs.SetNames.{AreNames}

abbrev colours : List (List ℕ)
colours = codes "red" ∷ codes "green" ∷ codes "blue" ∷ []

red : IsName (codes "red")
unfolding is_reserved
red = record { short = omega arith; first = refl; bytes = refl; free = refl }

green : IsName (codes "green")
unfolding is_reserved
green = record { short = omega arith; first = refl; bytes = refl; free = refl }

blue : IsName (codes "blue")
unfolding is_reserved
blue = record { short = omega arith; first = refl; bytes = refl; free = refl }

differ : IsDistinct bytes_eq colours
unfolding IsDistinct
differ = ((refl, (refl, tt)), ((refl, tt), (tt, tt)))

pub colours_are_names : AreNames (codes "red" ∷ codes "green" ∷ codes "blue" ∷ [])
colours_are_names = record {
  each = All-cons IsName (codes "red") (codes "green" ∷ codes "blue" ∷ []) red
      (All-cons IsName (codes "green") (codes "blue" ∷ []) green (All-cons IsName (codes "blue") [] blue (All-nil IsName)));
  differ = differ;
}
