-- What a reading says of the text, in the grammar's words.

use Rattle.std.proofs.Common.{◌≡◌, ◌≢◌, ℕ, List, Result, Ok, Err, refl, subst}
use Rattle.bpnf.specs.declared.fault.BpnfFault.{BpnfFault}
use Rattle.bpnf.specs.declared.fault.BpnfFault.TheVariants.{BadLetter, CutWord, TooFew, TooMany, OutOfMemory}
use Rattle.bpnf.specs.FirstFault.{Reads}
use Rattle.bpnf.specs.Image.{IsWidth, IsImage}
use Rattle.bpnf.specs.Reading.{reading, Fails}
use Rattle.bpnf.proofs.GrammarLaws.{shown_fits}
use Rattle.bpnf.proofs.ReadingIsAllowed.{reading_is_read}

-- an answer that is the reading is one that the grammar allows
pub answer_is_read : (bits count : ℕ) (text : List ℕ) (answer : Result (List ℕ) BpnfFault) →
    reading bits count text ≡ answer → Reads bits count text answer
answer_is_read bits count text answer is =
    subst (λ (a : Result (List ℕ) BpnfFault). Reads bits count text a) is (reading_is_read bits count text)

-- the words that are read make an image
pub words_make_image : (bits : ℕ) (text words : List ℕ) → IsWidth bits → reading bits 512 text ≡ Ok words →
    IsImage (record { bits = bits; words = words })
words_make_image bits text words width is =
    let reads : Reads bits 512 text (Ok words) = answer_is_read bits 512 text (Ok words) is in
    record { width = width; many = reads.1; fits = shown_fits bits words text reads.0 }

-- a fault that is not want of memory is the first fault
pub fault_is_first : (bits count : ℕ) (text : List ℕ) (fault : BpnfFault) → Fails fault (reading bits count text) →
    fault ≢ OutOfMemory → Reads bits count text (Err fault)
fault_is_first bits count text (BadLetter position) is other =
    answer_is_read bits count text (Err (BadLetter position)) is
fault_is_first bits count text (CutWord position) is other = answer_is_read bits count text (Err (CutWord position)) is
fault_is_first bits count text (TooFew frames) is other = answer_is_read bits count text (Err (TooFew frames)) is
fault_is_first bits count text (TooMany position) is other = answer_is_read bits count text (Err (TooMany position)) is
fault_is_first bits count text OutOfMemory is other = absurd (other refl)
