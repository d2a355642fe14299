-- What is read back of a saved placement is that placement, where the shelf tells its files.
use Rattle.std.proofs.Common.{ℕ, ◌≡◌, ◌≤◌, ◌<◌, ◌⊎◌, inl, inr, List, length, Option, Some, Result, Ok, Err, IsTrue, sym, ap, ap₂, ◌∙◌, subst, arith, slice_get, map}
use Rattle.std.specs.Prelude.{option_map}
use Rattle.std.proofs.lemmas.Option.{slice_get-map}
use Rattle.io_base.specs.Loading.{ExplainsFault}
use Rattle.io_base.specs.declared.loading.LoadFault.TheVariants as fault
use Rattle.io_base.specs.Shelf.{ShelfState, GoesOn, IsTold}
use Rattle.bpnf.specs.Image.{Image, IsImage}
use Rattle.bpnf.specs.Canonical.{image_text}
use Rattle.bpnf.specs.FirstFault.{Reads}
use Rattle.bpnf.specs.Reading.{reading}
use Rattle.bpnf.proofs.NothingElseIsAllowed.{only_reading}
use Rattle.bpnf.proofs.PrintedLaws.{printed_is_read}
use Rattle.field_decl.specs.Declaration.{Declaration}
use Rattle.field_decl.specs.Layout.{layout_of}
use Rattle.field_decl.specs.LayoutText.{layout_text}
use Rattle.field_decl.proofs.ReadAgain.{read_again}
use Rattle.flow_graph.specs.Graph.{Graph}
use Rattle.mcu_jumps.specs.Position.{Position}
use Rattle.bus_script.specs.Script.{BusScript, script_of}
use Rattle.bus_bench.specs.Law.{Declares}
use Rattle.prom_split.specs.Images.{image_count, AreImages, AreJoined, FitWords}
use Rattle.prom_split.specs.Microword.{HasNoBadShift}
use Rattle.prom_split.proofs.SplitSteps.{image_with}
use Rattle.prom_split.proofs.JoinedBack.{read_back, same_images}
use Rattle.prom_split.proofs.ListSteps.{element_at}
use Rattle.saved_files.specs.FileNames.{layout_name, image_name}
use Rattle.saved_files.specs.FilesOfAnswers.{placed_files}
use Rattle.saved_files.specs.SavedFile.{SavedFile}
use Rattle.saved_files.specs.Saving.{IsSaved}
use Rattle.saved_files.proofs.ComposingStates.{goes_on_same}
use Rattle.saved_files.proofs.StandingFiles.{layout_stands, image_stands}
use Rattle.prom_files.specs.LayoutStep.{layout_limit, HasLayout, LayoutReply}
use Rattle.prom_files.specs.ImagesStep.{image_limit, HasImages, ImageReply, ImagesReply}
use Rattle.prom_files.specs.WordsStep.{HasWords, HasJoined, WordsReply}
use Rattle.prom_files.proofs.ImageSteps.{AreHad, images_had}
use Rattle.replies.specs.FileStep.{HasFile, FileReply, NoFile, TooLong, CannotRead}
use Rattle.replies.specs.declared.status.Status.{Status}
use Rattle.bench_answers.specs.RunOrder.{RunOrder}
use Rattle.bench_answers.specs.PlacedFiles.{PlacesFiles}
use Rattle.bench_answers.specs.ReadingBack.{IsPlacedRun, ShiftOrRun, WordsBack, BackReply, CannotReadBack}
use Rattle.bench_answers.specs.Placed.{AreSaved}
use Rattle.bpnf.proofs.ImageLength.{image_short}
use Rattle.field_decl.proofs.LayoutLength.{layout_short}

-- ---- results

abbrev is_fine : {A B : Type 0} → Result A B → Type 0
is_fine (Ok a) = Unit {0}
is_fine (Err b) = ⊥

abbrev value_or : {A B : Type 0} → A → Result A B → A
value_or d (Ok a) = a
value_or d (Err b) = d

-- a result is not both
pub not_both : {A B : Type 0} → (r : Result A B) (a : A) (b : B) → r ≡ Ok a → r ≡ Err b → ⊥
not_both r a b fine wrong = subst is_fine (sym fine ∙ wrong) tt

-- a result has one value
pub one_value : {A B : Type 0} → (r : Result A B) (a b : A) → r ≡ Ok a → r ≡ Ok b → a ≡ b
one_value r a b one two = ap (value_or a) (sym one ∙ two)

-- ---- one file

-- a file that stands and is short enough is not read only where a read of it fails
pub file_unread : (name : List ℕ) (limit : ℕ) (old new : ShelfState) (s : Status) (text bytes : List ℕ) → IsTrue old.tells
    → old.file name ≡ Some bytes → length bytes ≤ limit
    → FileReply name limit old new s text → CannotRead name old new s text
file_unread name limit old new s text bytes tells stands short reply = go reply.reason
  where
    go : NoFile name limit old new s text ⊎ TooLong name limit old new s text ⊎ CannotRead name old new s text
        → CannotRead name old new s text
    go (inl none) = absurd (subst (λ (file : Option (List ℕ)). ExplainsFault file limit fault.NoFile) stands (none.told tells))
    go (inr (inl long)) =
        let more : limit < length bytes =
        subst (λ (file : Option (List ℕ)). ExplainsFault file limit fault.TooLong) stands (long.told tells) in
        absurd (omega (arith, more, short))
    go (inr (inr unread)) = unread

-- what is read of a file that stands is its bytes
pub file_read : (name : List ℕ) (limit : ℕ) (old new : ShelfState) (read bytes : List ℕ) → IsTrue old.tells → old.file name ≡ Some bytes
    → HasFile name limit old new read → read ≡ bytes
file_read name limit old new read bytes tells stands has = let same : Some read ≡ Some bytes = sym (has.told tells) ∙ stands in cc

-- a failed read, told from an earlier state on
unread_back : (name : List ℕ) (old mid new : ShelfState) (s : Status) (text : List ℕ) → GoesOn old mid → CannotRead name mid new s text
    → CannotReadBack old new s text
unread_back name old mid new s text goes_on unread = record {
  status_is = unread.reply.status_is;
  rose = omega (arith, goes_on.later, unread.rose);
  text_is = rw unread.named unread.reply.text_is;
}

-- ---- all files of a placement

-- layout and images stand on a shelf that tells its files
record Stands (out : List ℕ) (decl : Declaration) (images : List Image) (shelf : ShelfState) : Type 0 where
  tells : IsTrue shelf.tells
  layout : shelf.file (layout_name out) ≡ Some (layout_text decl)
  each : (number : ℕ) (image : Image) → slice_get images number ≡ Some image
      → shelf.file (image_name out number) ≡ Some (image_text image)

still : (out : List ℕ) (decl : Declaration) (images : List Image) (old new : ShelfState) → new.file ≡ old.file → GoesOn old new
    → Stands out decl images old → Stands out decl images new
still out decl images old new same goes_on stands = record {
  tells = goes_on.tells ∙ stands.tells;
  layout = ap (λ file. file (layout_name out)) same ∙ stands.layout;
  each = λ number image at. ap (λ file. file (image_name out number)) same ∙ stands.each number image at;
}

-- ---- the layout

layout_unread : (out : List ℕ) (decl : Declaration) (images : List Image) (old new : ShelfState) (s : Status) (text : List ℕ)
    → Declares decl → Stands out decl images old
    → LayoutReply out old new s text → CannotRead (layout_name out) old new s text
layout_unread out decl images old new s text declares stands (inl reply) =
    file_unread (layout_name out) layout_limit old new s text (layout_text decl) stands.tells stands.layout (layout_short decl declares)
    reply
layout_unread out decl images old new s text declares stands (inr refused) =
    let same = file_read (layout_name out) layout_limit old new refused.bytes (layout_text decl)
    stands.tells stands.layout refused.file in
    absurd (not_both (layout_of refused.bytes) decl (refused.line, refused.kind) (ap layout_of same ∙ read_again decl declares)
    refused.meant)

layout_read : (out : List ℕ) (decl read : Declaration) (images : List Image) (old new : ShelfState) → Declares decl
    → Stands out decl images old → HasLayout out old new read → read ≡ decl
layout_read out decl read images old new declares stands has =
    let same = file_read (layout_name out) layout_limit old new has.bytes (layout_text decl) stands.tells stands.layout has.file in
    one_value (layout_of has.bytes) read decl has.meant (ap layout_of same ∙ read_again decl declares)

-- ---- an image

image_unread : (out : List ℕ) (decl : Declaration) (images : List Image) (number : ℕ) (image : Image) (old new : ShelfState) (s : Status)
    (text : List ℕ) → IsImage image → image.bits ≡ decl.prom_bits
    → slice_get images number ≡ Some image → Stands out decl images old → ImageReply (image_name out number) decl.prom_bits old new s text
    → CannotRead (image_name out number) old new s text
image_unread out decl images number image old new s text is bits at stands (inl reply) =
    file_unread (image_name out number) image_limit old new s text (image_text image) stands.tells (stands.each number image at)
    (image_short image is) reply
image_unread out decl images number image old new s text is bits at stands (inr refused) =
    let same = file_read (image_name out number) image_limit old new refused.bytes (image_text image) stands.tells
    (stands.each number image at) refused.file in
    let shown = only_reading image.bits 512 (image_text image) (Ok image.words) (printed_is_read image is) in
    let fault = only_reading decl.prom_bits 512 refused.bytes (Err refused.fault) refused.meant in
    absurd (not_both (reading decl.prom_bits 512 refused.bytes) image.words refused.fault
    (ap (λ (t : List ℕ). reading decl.prom_bits 512 t) same ∙ ap (λ (b : ℕ). reading b 512 (image_text image)) (sym bits) ∙ sym shown)
    (sym fault))

-- words that such a text shows are the image's
image_shown : (image read : Image) (bits : ℕ) (bytes : List ℕ) → IsImage image → image.bits ≡ bits → bytes ≡ image_text image
    → Reads bits 512 bytes (Ok read.words) → read.bits ≡ bits → read ≡ image
image_shown image read bits bytes is width same shown read_bits =
    let printed = only_reading image.bits 512 (image_text image) (Ok image.words) (printed_is_read image is) in
    let reads = only_reading bits 512 bytes (Ok read.words) shown in
    let words : read.words ≡ image.words =
    one_value (reading bits 512 bytes) read.words image.words (sym reads)
    (ap (λ (t : List ℕ). reading bits 512 t) same ∙ ap (λ (b : ℕ). reading b 512 (image_text image)) (sym width) ∙ sym printed) in
    ap₂ image_with (read_bits ∙ sym width) words

-- ---- all images

images_read : (out : List ℕ) (decl : Declaration) (words : List ℕ) (images read : List Image) (old new : ShelfState)
    → AreImages decl words images → Stands out decl images old
    → HasImages out decl.prom_bits (image_count decl) old new read → read ≡ images
images_read out decl words images read old new are stands has = same_images read images (had.all ∙ sym are.fit.count) one
  where
    had : AreHad out decl.prom_bits (image_count decl) old new read
    had = images_had out decl.prom_bits (image_count decl) old new read has

    one : (k : ℕ) (x y : Image) → slice_get read k ≡ Some x → slice_get images k ≡ Some y → x ≡ y
    one k x y at_x at_y =
        let shown = had.each k x at_x in
        let image = are.fit.each k y at_y in
        let bytes : Some shown.bytes ≡ Some (image_text y) = sym (shown.told stands.tells) ∙ stands.each k y at_y in
        let same : shown.bytes ≡ image_text y = cc in
        image_shown y x decl.prom_bits shown.bytes image.0 image.1 same shown.shown.words shown.shown.bits_are

images_unread : (out : List ℕ) (decl : Declaration) (words : List ℕ) (images : List Image) (old new : ShelfState) (s : Status)
    (text : List ℕ) → AreImages decl words images → Stands out decl images old
    → ImagesReply out decl.prom_bits (image_count decl) old new s text → CannotReadBack old new s text
images_unread out decl words images old new s text are stands reply =
    let at = element_at images reply.number (subst (λ (n : ℕ). reply.number < n) (sym are.fit.count) reply.below) in
    let is = are.fit.each reply.number at.0 at.1 in
    let had = images_had out decl.prom_bits reply.number old reply.mid reply.images reply.earlier in
    let later = still out decl images old reply.mid had.same had.goes_on stands in
    unread_back (image_name out reply.number) old reply.mid new s text had.goes_on
    (image_unread out decl images reply.number at.0 reply.mid new s text is.0 is.1 at.1 later reply.reply)

-- ---- all words

words_unread : (out : List ℕ) (decl : Declaration) (words : List ℕ) (images : List Image) (old new : ShelfState) (s : Status)
    (text : List ℕ) → Declares decl → AreImages decl words images → Stands out decl images old
    → WordsReply out old new s text → CannotReadBack old new s text
words_unread out decl words images old new s text declares are stands (inl reply) =
    unread_back (layout_name out) old old new s text (goes_on_same old)
    (layout_unread out decl images old new s text declares stands reply)
words_unread out decl words images old new s text declares are stands (inr lacks) =
    let is : lacks.decl ≡ decl = layout_read out decl lacks.decl images old lacks.mid declares stands lacks.layout in
    let P : Declaration → Type 0 = λ d. ImagesReply out d.prom_bits (image_count d) lacks.mid new s text in
    let later = still out decl images old lacks.mid lacks.layout.file.same lacks.layout.file.goes_on stands in
    let unread = images_unread out decl words images lacks.mid new s text are later (subst P is lacks.reply) in
    record { status_is = unread.status_is; rose = omega (arith, lacks.layout.file.goes_on.later, unread.rose); text_is = unread.text_is }

-- what was had of the files
pub record IsBack (decl read : Declaration) (words had : List ℕ) : Type 0 where
  pub decl_is : read ≡ decl
  pub words_are : had ≡ words

words_read : (out : List ℕ) (decl read : Declaration) (words had : List ℕ) (images : List Image) (old new : ShelfState) → Declares decl
    → FitWords decl words → AreImages decl words images → Stands out decl images old
    → HasWords out old new read had → IsBack decl read words had
words_read out decl read words had images old new declares fit are stands has =
    let is : read ≡ decl = layout_read out decl read images old has.mid declares stands has.layout in
    let P : Declaration → Type 0 = λ d. HasJoined out has.mid new d had in
    let later = still out decl images old has.mid has.layout.file.same has.layout.file.goes_on stands in
    let joined = subst P is has.images in
    let same : joined.images ≡ images = images_read out decl words images joined.images has.mid new are later joined.read in
    let Q : List Image → Type 0 = λ xs. AreJoined decl xs had in
    record { decl_is = is; words_are = read_back decl words had images fit are (subst Q same joined.joined) }

-- ---- the reply

-- words without a bad shift are run, under a script that is read
run_back : (order : RunOrder) (decl : Declaration) (words : List ℕ) (said : BusScript) (s : Status) (text : List ℕ)
    → HasNoBadShift words decl → script_of decl.slices order.bytes ≡ Ok said
    → WordsBack order decl words s text → IsPlacedRun decl words said order.clocks s text
run_back order decl words said s text unmasked meant (inl refused) =
    absurd (not_both (script_of decl.slices order.bytes) said (refused.line, refused.kind) meant refused.meant)
run_back order decl words said s text unmasked meant (inr (other, other_meant, run)) = go run
  where
    same : other ≡ said
    same = one_value (script_of decl.slices order.bytes) other said other_meant meant

    go : ShiftOrRun order.out decl words other order.clocks s text → IsPlacedRun decl words said order.clocks s text
    go (inl masked) = absurd (masked.first.masked.1 (unmasked masked.cell masked.first.in_matrix masked.first.masked.0))
    go (inr run) = let P : BusScript → Type 0 = λ x. IsPlacedRun decl words x order.clocks s text in subst P same run

-- the files of a placement stand where they were saved
stand : (out : List ℕ) (g : Graph) (place : List Position) (files : List SavedFile) (old new : ShelfState) → IsTold old
    → (placed : PlacesFiles out g place files) → (all : AreSaved files old new)
    → Stands out g.decl placed.images all.after
stand out g place files old new told placed all = record {
  tells = all.goes_on.tells ∙ told.tells;
  layout = layout_stands old all.after out placed.map_bytes (layout_text g.decl) (map image_text placed.images) told saved;
  each = λ number image at. image_stands old all.after out placed.map_bytes (layout_text g.decl) (map image_text placed.images)
      told saved number (image_text image) (text_at number image at);
}
  where
    saved : IsSaved old all.after (placed_files out placed.map_bytes (layout_text g.decl) (map image_text placed.images))
    saved = let P : List SavedFile → Type 0 = λ fs. IsSaved old all.after fs in subst P placed.files_are all.saved

    text_at : (number : ℕ) (image : Image) → slice_get placed.images number ≡ Some image
        → slice_get (map image_text placed.images) number ≡ Some (image_text image)
    text_at number image at = slice_get-map image_text placed.images number ∙ ap (option_map image_text) at

pub saved_back : (order : RunOrder) (g : Graph) (place : List Position) (files : List SavedFile) (said : BusScript)
    (old new : ShelfState) (s : Status) (text : List ℕ) → IsTold old
    → (placed : PlacesFiles order.out g place files) → HasNoBadShift placed.words g.decl → script_of g.decl.slices order.bytes ≡ Ok said
    → (all : AreSaved files old new) → BackReply order all.after new s text
    → CannotReadBack all.after new s text ⊎ IsPlacedRun g.decl placed.words said order.clocks s text
saved_back order g place files said old new s text told placed unmasked meant all (inl reply) =
    inl (words_unread order.out g.decl placed.words placed.images all.after new s text placed.program.declares placed.images_are
    (stand order.out g place files old new told placed all) reply)
saved_back order g place files said old new s text told placed unmasked meant all (inr (read, had, has, reply)) =
    let back = words_read order.out g.decl read placed.words had placed.images all.after new placed.program.declares placed.words_fit
    placed.images_are (stand order.out g place files old new told placed all) has in
    let P : Declaration → Type 0 = λ d. WordsBack order d had s text in
    let Q : List ℕ → Type 0 = λ ws. WordsBack order g.decl ws s text in
    inr (run_back order g.decl placed.words said s text unmasked meant
    (subst Q back.words_are (subst P back.decl_is reply)))
