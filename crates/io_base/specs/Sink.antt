-- What a sink of bytes means, and what its calls do to that. This project's own choice.
use Rattle.std.specs.Prelude.{ℕ, ◌≡◌, ◌≤◌, Bool, IsTrue, List, ◌++◌, take, Result, Ok, Err}
use Rattle.io_base.specs.declared.faults.Failed.{Failed}

-- what a sink means
pub record SinkState : Type 0 where
  -- how many calls have failed
  pub faults : ℕ
  -- whether the sink tells its bytes: then they are `bytes`
  pub tells : Bool
  -- the bytes written so far
  pub bytes : List ℕ

-- what every call keeps: the count of faults never falls, and the sink stays of its kind
pub record SinkGoesOn (old new : SinkState) : Type 0 where
  pub later : old.faults ≤ new.faults
  pub tells : new.tells ≡ old.tells

-- the piece was added whole
abbrev pub Adds : SinkState → SinkState → List ℕ → Type 0
Adds old new piece = IsTrue old.tells → new.bytes ≡ old.bytes ++ piece

-- a prefix of the piece was added
abbrev pub AddsPrefix : SinkState → SinkState → List ℕ → Type 0
AddsPrefix old new piece = IsTrue old.tells → (n : ℕ) × (new.bytes ≡ old.bytes ++ take n piece)

-- what one write with this answer added: so many bytes from the front of the piece, or none
abbrev pub AddsFront : SinkState → SinkState → List ℕ → Result ℕ Failed → Type 0
AddsFront old new piece (Ok n) = Adds old new (take n piece)
AddsFront old new piece (Err _) = IsTrue old.tells → new.bytes ≡ old.bytes
