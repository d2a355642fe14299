-- The names of the jump codes (the 3001's data sheet).
use Rattle.std.specs.Prelude.{ℕ, List, codes}
use Rattle.mcu_jumps.specs.declared.codes.Code.{Code}
use Rattle.mcu_jumps.specs.declared.codes.Code.TheVariants as code

-- the code's name in the data sheet
abbrev pub name_of : Code → List ℕ
name_of code.Jcc = codes "JCC"
name_of code.Jzr = codes "JZR"
name_of code.Jcr = codes "JCR"
name_of code.Jfl = codes "JFL"
name_of code.Jcf = codes "JCF"
name_of code.Jzf = codes "JZF"
name_of code.Jpr = codes "JPR"
name_of code.Jll = codes "JLL"
name_of code.Jce = codes "JCE"
name_of code.Jpx = codes "JPX"
name_of code.Jrl = codes "JRL"
