-- The limits of a declaration. A set has `fewest_members` to `most_members` members: see the masks
-- of sets in Rattle.pw_kinds.specs.Places.
use Rattle.std.specs.Prelude.{ℕ}

-- ---- limits that stay

-- users
abbrev pub most_users : ℕ
most_users = 64

-- cells
abbrev pub most_cells : ℕ
most_cells = 1024

-- declared set kinds
abbrev pub most_sets : ℕ
most_sets = 32

-- declared compounds
abbrev pub most_compounds : ℕ
most_compounds = 64

-- parameters of a compound
abbrev pub most_parameters : ℕ
most_parameters = 8

-- instances of procedures in the expansion of a compound
abbrev pub most_instances : ℕ
most_instances = 256

-- inner cells in the expansion of a compound
abbrev pub most_inner_cells : ℕ
most_inner_cells = 256

-- bytes in a line
abbrev pub most_line_bytes : ℕ
most_line_bytes = 4096

-- bytes in the whole text
abbrev pub most_text_bytes : ℕ
most_text_bytes = 1048576

-- ---- limits of the latest version, as `most_members` is one: for those of each version see
-- Rattle.pw_decl.specs.Versions

-- premises
abbrev pub most_premises : ℕ
most_premises = 512
