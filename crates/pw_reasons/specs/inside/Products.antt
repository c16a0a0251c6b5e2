-- Products of sets of premises: some premises, together with one of each of some groups.
use Rattle.std.specs.Prelude.{◌≡◌, ◌≤◌, ℕ, List, drop, false, length, take}
use Rattle.std.specs.List.{flat_map}
use Rattle.pw_premises.specs.Premises.{Premises}
use Rattle.pw_reasons.specs.Nogood.{covers}
use Rattle.pw_reasons.specs.Combinations.{groups_of}
pub use Rattle.pw_reasons.specs.inside.Beside.{worldviews_beside}
use Rattle.pw_reasons.specs.declared.product.Product.{Product}

-- the sets of a product
abbrev pub sets_in : Product → List Premises
sets_in product = worldviews_beside product.fixed (drop product.place (groups_of product.groups))

-- the sets of all products
abbrev pub sets_in_each : List Product → List Premises
sets_in_each products = flat_map sets_in products

-- the first of the products cover none of these premises
pub record ArePassedOver (products : List Product) (start : ℕ) (premises : Premises) : Type 0 where
  pub few : start ≤ length products
  pub none : covers (sets_in_each (take start products)) premises ≡ false
