-- Why a value is what it is: the premises that it needs, found by trying each in a fixed order.
use Rattle.std.specs.Prelude.{◌≡◌, ℕ, true, List, [], ◌∷◌, nat_lt, if◌then◌else◌}
use Rattle.std.specs.FinSet.{remove, retain, union, is_subset}
use Rattle.pw_info.specs.declared.info.Info.{Info}
use Rattle.pw_info.specs.Information.{Implies, kind_of}
use Rattle.pw_premises.specs.Premises.{numbers_of}
use Rattle.pw_premises.specs.Premises.{Premises}
use Rattle.pw_reasons.specs.SameInfo.{same_info}

-- a value in each worldview, of one kind, of which no less is known if more is believed
pub record Grows (value : Premises → Info) : Type 0 where
  pub kinds : (s t : Premises) → kind_of (value s) ≡ kind_of (value t)
  pub more : (s t : Premises) → is_subset s t ≡ true → Implies (value t) (value s)

-- the remaining premises of a set after this one was tried: it is taken out if the value without it
-- is that of the worldview
abbrev pub tried : (Premises → Info) → Premises → Premises → ℕ → Premises
tried value worldview left premise =
    if same_info (value (remove left premise)) (value worldview) then remove left premise else left

-- the remaining premises of the worldview after these of its premises were tried, the last of them
-- first
abbrev pub left_of : (Premises → Info) → Premises → List ℕ → Premises
left_of value worldview [] = worldview
left_of value worldview (premise ∷ later) = tried value worldview (left_of value worldview later)
    premise

-- the reason of the value in a worldview: the remaining premises after each was tried, from the
-- last to the first
unfoldable pub reason_of : (Premises → Info) → Premises → Premises
reason_of value worldview = left_of value worldview (numbers_of worldview)

-- the premises of the first set that come before this one, with those of the second that come after
-- it
abbrev pub before_and_after : Premises → Premises → ℕ → Premises
before_and_after earlier later premise =
    union (retain earlier (λ n. nat_lt n premise)) (retain later (λ n. nat_lt premise n))
