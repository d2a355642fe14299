-- The canonical text of an image, the one that is printed: no comment but the LF after each frame (own choice).

use Rattle.std.specs.Prelude.{ℕ, List, [], ◌∷◌, ◌++◌}
use Rattle.bpnf.specs.Frames.{frame}
use Rattle.bpnf.specs.Image.{Image}

-- the words' frames in order, each followed by LF
unfoldable pub frames_of : ℕ → List ℕ → List ℕ
frames_of bits [] = []
frames_of bits (word ∷ words) = frame bits word ++ 10 ∷ frames_of bits words

-- the canonical text of an image
abbrev pub image_text : Image → List ℕ
image_text image = frames_of image.bits image.words
