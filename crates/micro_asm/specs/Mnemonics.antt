-- The mnemonics of the operations. Their names are Intel's, and which code has which is this project's own table.
use Rattle.std.specs.Prelude.{ℕ, ◌≤◌, ◌<◌, ◌&&◌, nat_lt, nat_le, Bool, true, false, List, [], ◌∷◌, ◌++◌, Option, Some, None, codes}
use Rattle.micro_asm.specs.declared.mnemonics.Mnemonic.{Mnemonic}

-- a name where the code has one
abbrev pub named : Option (List ℕ) → ℕ → ℕ → Bool → List Mnemonic
named None function group ones = []
named (Some name) function group ones = record { name = name; function = function; group = group; ones = ones } ∷ []

-- the names of a function of a register group: with the mask 0, and with the mask of all ones
abbrev pub row : ℕ → ℕ → Option (List ℕ) → Option (List ℕ) → List Mnemonic
row function group zeros ones = named zeros function group false ++ named ones function group true

-- function, group, name with the mask 0, name with all ones
abbrev pub mnemonic_table : List Mnemonic
mnemonic_table =
    row 0 1 (Some (codes "ILR")) (Some (codes "ALR"))
    ++ row 0 2 (Some (codes "ACM")) (Some (codes "AMA"))
    ++ row 0 3 (Some (codes "SRA")) None
    ++ row 1 1 (Some (codes "LMI")) (Some (codes "DSM"))
    ++ row 1 2 (Some (codes "LMM")) (Some (codes "LDM"))
    ++ row 1 3 (Some (codes "CIA")) (Some (codes "DCA"))
    ++ row 2 1 (Some (codes "CSR")) (Some (codes "SDR"))
    ++ row 2 2 (Some (codes "CSA")) (Some (codes "SDA"))
    ++ row 2 3 None (Some (codes "LDI"))
    ++ row 3 1 (Some (codes "INR")) (Some (codes "ADR"))
    ++ row 3 3 (Some (codes "INA")) (Some (codes "AIA"))
    ++ row 4 1 (Some (codes "CLR")) (Some (codes "ANR"))
    ++ row 4 2 (Some (codes "CLA")) (Some (codes "ANM"))
    ++ row 4 3 None (Some (codes "ANI"))
    ++ row 5 1 None (Some (codes "TZR"))
    ++ row 5 2 None (Some (codes "LTM"))
    ++ row 5 3 None (Some (codes "TZA"))
    ++ row 6 1 (Some (codes "NOP")) (Some (codes "ORR"))
    ++ row 6 2 (Some (codes "LMF")) (Some (codes "ORM"))
    ++ row 6 3 None (Some (codes "ORI"))
    ++ row 7 1 (Some (codes "CMR")) (Some (codes "XNR"))
    ++ row 7 2 (Some (codes "LCM")) (Some (codes "XNM"))
    ++ row 7 3 (Some (codes "CMA")) (Some (codes "XNI"))

-- the function has three bits, and the group is 1 to 3
abbrev pub is_sized : Mnemonic → Bool
is_sized row = nat_lt row.function 8 && (nat_le 1 row.group && nat_le row.group 3)

-- the same as a fact
pub record IsSized (row : Mnemonic) : Type 0 where
  pub function : row.function < 8
  pub some_group : 1 ≤ row.group
  pub most_groups : row.group ≤ 3
