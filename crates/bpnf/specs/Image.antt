-- A PROM image: what a PROM holds. Its sizes are this project's own choice.

use Rattle.std.specs.Prelude.{ℕ, ◌≡◌, ◌<◌, ◌^◌, ◌⊎◌, List, length}
use Rattle.std.specs.List.{All}

-- an image: the bits of a word, and the words in rising address from 0
pub record Image : Type 0 where
  pub bits : ℕ
  pub words : List ℕ

-- a word's bits: 4 or 8, the two widths that such PROMs have (own choice)
abbrev pub IsWidth : ℕ → Type 0
IsWidth bits = (bits ≡ 4) ⊎ (bits ≡ 8)

-- 512 words, one for each cell of the 3001's matrix, each below the power of two of its bits
pub record IsImage (image : Image) : Type 0 where
  pub width : IsWidth image.bits
  pub many : length image.words ≡ 512
  pub fits : All (λ word. word < 2 ^ image.bits) image.words
