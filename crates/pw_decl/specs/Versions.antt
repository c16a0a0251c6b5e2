-- The versions of declarations: the word that names each in the header, and the limits that differ
-- between them.
use Rattle.std.specs.Prelude.{ℕ, List, codes}
use Rattle.pw_kinds.specs.Places.{most_members}
use Rattle.pw_decl.specs.declared.version.Version.{Version}
use Rattle.pw_decl.specs.declared.version.Version.TheVariants as versions
use Rattle.pw_decl.specs.Limits.{most_premises}

-- the word that names the version
abbrev pub version_word : Version → List ℕ
version_word versions.One = codes "1"
version_word versions.Two = codes "2"

-- premises
abbrev pub most_premises_under : Version → ℕ
most_premises_under versions.One = 64
most_premises_under versions.Two = most_premises

-- members of a set
abbrev pub most_members_under : Version → ℕ
most_members_under versions.One = 64
most_members_under versions.Two = most_members
