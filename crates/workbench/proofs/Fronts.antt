-- The front of bytes that may be known.
use Rattle.std.specs.Prelude.{ℕ, List, ◌≡◌, take, Option, Some, None, IfSome, option_map}

-- what is known about a front of the bytes, given by all of them
pub front_of_known : (limit : ℕ) (bytes : List ℕ) (known : Option (List ℕ)) →
    IfSome (option_map (take limit) known) (λ front. bytes ≡ front) → IfSome known (λ all. bytes ≡ take limit all)
front_of_known limit bytes (Some all) given = given
front_of_known limit bytes None given = given
