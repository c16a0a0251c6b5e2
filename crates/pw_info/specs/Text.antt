-- How an information is written, and what a clause reads of an output over a writer.
use Rattle.std.specs.Prelude.{ℕ, ℤ, pos, ◌&&◌, ◌==◌, List, [], ◌∷◌, length, filter, Option, Some}
use Rattle.std.specs.Prelude.{codes, if◌then◌else◌, Bool}
use Rattle.std.specs.List.{range_with_len}
use Rattle.std.specs.Fmt.{signed_decimal}
use Rattle.std.specs.Ordering.{int_eq}
use Rattle.pw_kinds.specs.declared.interval.Interval.{Interval}
use Rattle.pw_kinds.specs.declared.members.Members.{Members}
use Rattle.pw_kinds.specs.declared.exact.Exact.{Exact}
use Rattle.pw_kinds.specs.declared.exact.Exact.TheVariants.{Any, One, Empty}
use Rattle.pw_kinds.specs.Ranges.{interval_lowest, interval_highest}
use Rattle.pw_kinds.specs.Interval.{least_of, greatest_of}
use Rattle.pw_kinds.specs.Members.{size_of, allows}
use Rattle.pw_info.specs.declared.info.Info.{Info}
use Rattle.pw_info.specs.Number.{text_of_range}
use Rattle.pw_info.specs.SetNames.{SetNames, text_of_set}
use Rattle.pw_info.specs.declared.output.Writing.{Writing}
use Rattle.pw_info.specs.declared.info.Info.TheVariants as info

-- the text by the least and the greatest possible number: `nothing` if these are the ends of the
-- whole range, and otherwise the one number or LO..HI; `contradiction` if there are none
abbrev pub text_of_ends : Option ℤ → Option ℤ → List ℕ
text_of_ends (Some lo) (Some hi) = if int_eq lo interval_lowest
    && int_eq hi interval_highest then codes "nothing" else text_of_range lo hi
text_of_ends _ _ = codes "contradiction"

abbrev pub text_of_interval : Interval → List ℕ
text_of_interval interval = text_of_ends (least_of interval) (greatest_of interval)

-- the possible places, in rising order
abbrev pub possible_places : Members → List ℕ
possible_places part = filter (λ place. allows part (pos place)) (range_with_len 0 (size_of part))

-- the text by the possible places: `contradiction` if there are none, `nothing` if these are all
-- places of the set, and otherwise the names of their members in declared order
abbrev pub text_of_places : List (List ℕ) → ℕ → List ℕ → List ℕ
text_of_places names size [] = codes "contradiction"
text_of_places names size (place ∷ places) =
    if length (place ∷ places) == size then codes "nothing" else text_of_set names (place ∷ places)

abbrev pub text_of_members : List (List ℕ) → Members → List ℕ
text_of_members names part = text_of_places names (size_of part) (possible_places part)

abbrev pub text_of_exact : Exact → List ℕ
text_of_exact Any = codes "nothing"
text_of_exact (One number) = signed_decimal number.value
text_of_exact Empty = codes "contradiction"

-- the text of an information: of an interval by its ends, of members by their places
abbrev pub text_of_info : SetNames → Info → List ℕ
text_of_info sets (info.Interval part) = text_of_ends (least_of part) (greatest_of part)
text_of_info sets (info.Members number part) =
    text_of_places (sets number) (size_of part) (possible_places part)
text_of_info sets (info.Exact part) = text_of_exact part

-- the writer of an output
abbrev pub writer_of : {W : Type 0} → Writing W → W
writer_of o = o.inner

-- whether a put to an output has failed
abbrev pub writer_failed : {W : Type 0} → Writing W → Bool
writer_failed o = o.failed
