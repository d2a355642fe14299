-- The first fault of a text, by cases on whole texts: some whole frames with comments, then the faulty place.
-- Which faults there are, and what each tells, is this project's own choice.

use Rattle.std.specs.Prelude.{ℕ, ◌≡◌, ◌≢◌, ◌<◌, ◌≤◌, ◌+◌, List, [], ◌∷◌, ◌++◌, length, Result, Ok, Err}
use Rattle.std.specs.List.{All}
use Rattle.bpnf.specs.Frames.{IsLetter, Shows}
use Rattle.bpnf.specs.declared.fault.BpnfFault.{BpnfFault}
use Rattle.bpnf.specs.declared.fault.BpnfFault.TheVariants.{BadLetter, CutWord, TooFew, TooMany, OutOfMemory}

-- a text is whole frames, so many, with comments before, between and after them
pub record AreFrames (bits many : ℕ) (text : List ℕ) : Type 0 where
  pub words : List ℕ
  pub shown : Shows bits words text
  pub counted : length words ≡ many

-- a text is fewer than `count` whole frames with comments, a `B`, letters that are not too many, and `rest`
pub record IsInside (bits count : ℕ) (front taken rest text : List ℕ) : Type 0 where
  pub frames : ℕ
  pub few : frames < count
  pub before : AreFrames bits frames front
  pub letters : All IsLetter taken
  pub short : length taken ≤ bits
  pub text_is : text ≡ front ++ 66 ∷ (taken ++ rest)

-- inside a frame a byte should be a letter, or should be `F`, and is not; its place is told
pub record HasBadLetter (bits count : ℕ) (text : List ℕ) (position : ℕ) : Type 0 where
  pub front : List ℕ
  pub letters : List ℕ
  pub byte : ℕ
  pub rest : List ℕ
  pub inside : IsInside bits count front letters (byte ∷ rest) text
  pub no_letter : length letters < bits → IsLetter byte → ⊥
  pub no_end : length letters ≡ bits → byte ≢ 70
  pub position_is : position ≡ length front + 1 + length letters

-- the text ends inside a frame; the place of the frame's `B` is told
pub record IsCut (bits count : ℕ) (text : List ℕ) (position : ℕ) : Type 0 where
  pub front : List ℕ
  pub letters : List ℕ
  pub inside : IsInside bits count front letters [] text
  pub position_is : position ≡ length front

-- the text ends outside a frame, after too few frames; their number is told
pub record IsShort (bits count : ℕ) (text : List ℕ) (frames : ℕ) : Type 0 where
  pub few : frames < count
  pub whole : AreFrames bits frames text

-- a `B` follows as many whole frames as there are to be; its place is told
pub record HasSurplus (bits count : ℕ) (text : List ℕ) (position : ℕ) : Type 0 where
  pub front : List ℕ
  pub rest : List ℕ
  pub before : AreFrames bits count front
  pub text_is : text ≡ front ++ 66 ∷ rest
  pub position_is : position ≡ length front

-- the answers that the grammar allows for a text: the words that it shows, or its first fault
abbrev pub Reads : ℕ → ℕ → List ℕ → Result (List ℕ) BpnfFault → Type 0
Reads bits count text (Ok words) = Shows bits words text × (length words ≡ count)
Reads bits count text (Err (BadLetter position)) = HasBadLetter bits count text position
Reads bits count text (Err (CutWord position)) = IsCut bits count text position
Reads bits count text (Err (TooFew frames)) = IsShort bits count text frames
Reads bits count text (Err (TooMany position)) = HasSurplus bits count text position
Reads bits count text (Err OutOfMemory) = ⊥
