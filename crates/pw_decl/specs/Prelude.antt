-- The compounds that every declaration has. They are given in a text, which is read like a
-- declaration.
use Rattle.std.specs.Prelude.{ℕ, List, ◌++◌, codes}

-- the number of these compounds
abbrev pub prelude_compounds : ℕ
prelude_compounds = 3

-- a two-way sum, a two-way product, and a choice between two cells
abbrev pub prelude_text : List ℕ
prelude_text =
    codes "compound sum x interval y interval t interval\n"
    ++ codes "adder x y t\n"
    ++ codes "subtractor t x y\n"
    ++ codes "subtractor t y x\n"
    ++ codes "end\n"
    ++ codes "compound product x interval y interval t interval\n"
    ++ codes "multiplier x y t\n"
    ++ codes "divider t x y\n"
    ++ codes "divider t y x\n"
    ++ codes "end\n"
    ++ codes "compound conditional p bool a interval b interval r interval\n"
    ++ codes "local n bool\n"
    ++ codes "inverter p n\n"
    ++ codes "switch p a r\n"
    ++ codes "switch n b r\n"
    ++ codes "end\n"
