-- The limits of each version are within those of the latest.
use Rattle.std.proofs.Common.{◌≤◌, arith}
use Rattle.pw_kinds.specs.Places.{most_members}
use Rattle.pw_decl.specs.Limits.{most_premises}
use Rattle.pw_decl.specs.declared.version.Version.{Version}
use Rattle.pw_decl.specs.declared.version.Version.TheVariants as versions
use Rattle.pw_decl.specs.Versions.{most_premises_under, most_members_under}

pub premises_within : (version : Version) → most_premises_under version ≤ most_premises
premises_within versions.One = omega arith
premises_within versions.Two = omega arith

pub members_within : (version : Version) → most_members_under version ≤ most_members
members_within versions.One = omega arith
members_within versions.Two = omega arith
