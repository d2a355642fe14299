-- The reading of a text, byte by byte: a function that gives the one answer that the grammar allows.
-- The law `each_text_has_one_reading` ties it to the grammar, which says what the answer is.

use Rattle.std.specs.Prelude.{ℕ, ◌+◌, ◌*◌, ◌==◌, ◌≡◌, nat_lt, if◌then◌else◌, List, [], ◌∷◌, ◌++◌, length, Option, Some, None, Result, Ok, Err}
use Rattle.bpnf.specs.declared.fault.BpnfFault.{BpnfFault}
use Rattle.bpnf.specs.declared.fault.BpnfFault.TheVariants.{BadLetter, CutWord, TooFew, TooMany, OutOfMemory}
use Rattle.bpnf.specs.declared.frame.OpenFrame.{OpenFrame}

-- what the bytes so far have brought: the words of whole frames, and the frame that is begun
pub record State : Type 0 where
  pub words : List ℕ
  pub begun : Option OpenFrame

-- before the first byte
abbrev pub first : State
first = record { words = []; begun = None }

-- the bit that a letter stands for
abbrev pub bit_of : ℕ → Option ℕ
bit_of byte = if byte == 80 then Some 1 else if byte == 78 then Some 0 else None

-- a `B` outside a frame, where there is room for one more word or not
abbrev pub at_begin : ℕ → ℕ → List ℕ → Result State BpnfFault
at_begin count position words =
    if nat_lt (length words) count then
    Ok (record { words = words; begun = Some (record { start = position; letters = 0; word = 0 }) })
    else Err (TooMany position)

-- a byte outside a frame
abbrev pub outside : ℕ → ℕ → List ℕ → ℕ → Result State BpnfFault
outside count position words byte =
    if byte == 66 then at_begin count position words else Ok (record { words = words; begun = None })

-- a byte that should be a letter
abbrev pub with_letter : ℕ → OpenFrame → Option ℕ → Result OpenFrame BpnfFault
with_letter position frame (Some bit) = Ok (record { start = frame.start; letters = frame.letters + 1; word = frame.word * 2 + bit })
with_letter position frame None = Err (BadLetter position)

-- a frame that is still begun
abbrev pub still : List ℕ → Result OpenFrame BpnfFault → Result State BpnfFault
still words (Ok frame) = Ok (record { words = words; begun = Some frame })
still words (Err fault) = Err fault

-- a byte inside a frame
abbrev pub inside : ℕ → ℕ → List ℕ → OpenFrame → ℕ → Result State BpnfFault
inside bits position words frame byte =
    if nat_lt frame.letters bits then still words (with_letter position frame (bit_of byte))
    else if byte == 70 then Ok (record { words = words ++ frame.word ∷ []; begun = None })
    else Err (BadLetter position)

-- the next byte
abbrev pub at_byte : ℕ → ℕ → ℕ → List ℕ → Option OpenFrame → ℕ → Result State BpnfFault
at_byte bits count position words None byte = outside count position words byte
at_byte bits count position words (Some frame) byte = inside bits position words frame byte

-- the end of the text
abbrev pub at_end : ℕ → List ℕ → Option OpenFrame → Result (List ℕ) BpnfFault
at_end count words None = if nat_lt (length words) count then Err (TooFew (length words)) else Ok words
at_end count words (Some frame) = Err (CutWord frame.start)

-- goes on unless there was a fault
abbrev pub and_then : Result State BpnfFault → (State → Result (List ℕ) BpnfFault) → Result (List ℕ) BpnfFault
and_then (Ok state) go_on = go_on state
and_then (Err fault) go_on = Err fault

-- the bytes from a position on
unfoldable pub run : ℕ → ℕ → ℕ → State → List ℕ → Result (List ℕ) BpnfFault
run bits count position state [] = at_end count state.words state.begun
run bits count position state (byte ∷ rest) =
    and_then (at_byte bits count position state.words state.begun byte) (λ next. run bits count (position + 1) next rest)

-- the reading of a whole text
abbrev pub reading : ℕ → ℕ → List ℕ → Result (List ℕ) BpnfFault
reading bits count text = run bits count 0 first text

-- what a function returned is this answer, unless memory ran out
abbrev pub Fails : {Y : Type 0} → BpnfFault → Result Y BpnfFault → Type 0
Fails OutOfMemory answer = Unit {0}
Fails fault answer = answer ≡ Err fault

-- what a function returned, as it is seen, is this answer, unless memory ran out
abbrev pub Gives : {X Y : Type 0} → (X → Y) → Result X BpnfFault → Result Y BpnfFault → Type 0
Gives view (Ok x) answer = answer ≡ Ok (view x)
Gives view (Err fault) answer = Fails fault answer
