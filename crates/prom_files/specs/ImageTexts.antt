-- How the first fault of an image's text is called (this project's own choice).
use Rattle.std.specs.Prelude.{ℕ, List, [], ◌++◌, codes, decimal}
use Rattle.bpnf.specs.declared.fault.BpnfFault.{BpnfFault}
use Rattle.bpnf.specs.declared.fault.BpnfFault.TheVariants.{BadLetter, CutWord, TooFew, TooMany, OutOfMemory}

-- a fault at a byte, counted from 0
abbrev pub at_byte : ℕ → List ℕ → List ℕ
at_byte position kind = codes "byte " ++ decimal position ++ codes " " ++ kind

-- the fault with its place, or with the number of words where there are too few; want of memory is no fault of the text
abbrev pub bpnf_reason : BpnfFault → List ℕ
bpnf_reason (BadLetter position) = at_byte position (codes "BadLetter")
bpnf_reason (CutWord position) = at_byte position (codes "CutWord")
bpnf_reason (TooMany position) = at_byte position (codes "TooMany")
bpnf_reason (TooFew words) = codes "words " ++ decimal words ++ codes " TooFew"
bpnf_reason OutOfMemory = []
