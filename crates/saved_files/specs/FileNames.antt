-- The names of the files that are saved, each a name of the user's and a suffix. This project's own choice.
use Rattle.std.specs.Prelude.{ℕ, List, ◌++◌, codes, decimal}

-- the map text of a placement
abbrev pub map_name : List ℕ → List ℕ
map_name out = out ++ codes ".map"

-- the layout text, which tells how the microword is declared
abbrev pub layout_name : List ℕ → List ℕ
layout_name out = out ++ codes ".lay"

-- the PROM image of a number, counted from 0
abbrev pub image_name : List ℕ → ℕ → List ℕ
image_name out number = out ++ (codes ".p" ++ (decimal number ++ codes ".bpnf"))

-- the refutation of a program that has no legal placement
abbrev pub refutation_name : List ℕ → List ℕ
refutation_name out = out ++ codes ".ref"

-- the lines and the clash of a search that spent its budget
abbrev pub undecided_name : List ℕ → List ℕ
undecided_name out = out ++ codes ".part"
