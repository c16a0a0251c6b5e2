use Rattle.std.proofs.Common.{◌≡◌, ◌≤◌, take}
use Rattle.std.specs.Str.Parse.{AllDigits, digits_value}
use Rattle.pw_info.proofs.number.read_positive.Given as goal

-- the bytes so far are digits, and the number that they write is within the limit
abbrev pub invariant-loop-digit : goal.invariant-loop-digit
invariant-loop-digit l = record {
  digits : AllDigits 10 (take l.digit-index l.word);
  value : l.number ≡ digits_value 10 (take l.digit-index l.word);
  small : l.number ≤ l.limit;
  limit : l.limit ≡ l.fn.most;
}
