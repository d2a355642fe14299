-- What a command had or lacked of a shelf that tells its files is what these files give, or a read failed.
use Rattle.std.proofs.Common.{ℕ, ◌≡◌, ◌⊎◌, inl, inr, List, Option, None, Some, IsTrue, ◌∙◌, subst, arith}
use Rattle.std.specs.Prelude.{codes}
use Rattle.io_base.specs.Shelf.{ShelfState, GoesOn}
use Rattle.io_base.specs.Loading.{ExplainsFault}
use Rattle.io_base.specs.declared.loading.LoadFault.TheVariants as fault
use Rattle.bpnf.specs.Image.{Image}
use Rattle.field_decl.specs.Declaration.{Declaration}
use Rattle.flow_graph.specs.Graph.{Graph}
use Rattle.bus_script.specs.Script.{BusScript}
use Rattle.prom_split.specs.Images.{image_count}
use Rattle.saved_files.specs.FileNames.{layout_name, image_name}
use Rattle.saved_files.proofs.ComposingStates.{tells_goes_on, goes_on_both}
use Rattle.prom_files.specs.LayoutStep.{layout_limit, HasLayout, LayoutReply}
use Rattle.prom_files.specs.ImagesStep.{image_limit, HasImages, ImageReply, ImagesReply}
use Rattle.prom_files.specs.WordsStep.{HasJoined, HasWords, WordsReply}
use Rattle.prom_files.proofs.ImageSteps.{AreHad, images_had}
use Rattle.replies.specs.Texts.{Refuses}
use Rattle.replies.specs.FileStep.{FileReply, NoFile, TooLong, CannotRead}
use Rattle.replies.specs.SourceStep.{source_limit, HasSource, SourceReply}
use Rattle.replies.specs.ScriptStep.{script_limit, HasScript, ScriptReply}
use Rattle.replies.specs.declared.status.Status.{Status}
use Rattle.replies.specs.declared.status.Status.TheVariants as status
use Rattle.micro_cli.specs.Inputs.{InputsReply}
use Rattle.micro_cli.specs.OverFiles.{IsRefused, GivesProgram, LacksProgram, GivesScript, LacksScriptOver, LayoutDeclares, LacksLayout, LacksImageOver, AreFirst, LacksOne, HoldsWords}
use Rattle.micro_cli.specs.Replying.{LacksInputsOver, RunOver}
use Rattle.micro_cli.proofs.AcceptedInputs.{IsUnread, had_holds}

-- a refusal of what stands on the shelf, or a read failed since the old state
abbrev pub OrFails : ShelfState → ShelfState → Type 0 → Status → Type 0
OrFails old new refusal s = ((s ≡ status.Input) × refusal) ⊎ IsUnread old new s

-- one refusal in place of another
pub or_fails : (old new : ShelfState) (P Q : Type 0) (s : Status) → (P → Q) → OrFails old new P s → OrFails old new Q s
or_fails old new P Q s is (inl refused) = inl (refused.0, is refused.1)
or_fails old new P Q s is (inr failed) = inr failed

-- a read that failed since a later state
fails_before : (old mid new : ShelfState) (s : Status) → GoesOn old mid → IsUnread mid new s → IsUnread old new s
fails_before old mid new s goes_on unread = record { status_is = unread.status_is; rose = omega (arith, goes_on.later, unread.rose) }

-- the same from an earlier state on, where the refusal is read off its files
earlier_fails : (old mid new : ShelfState) (P : (List ℕ → Option (List ℕ)) → Type 0) (s : Status) → mid.file ≡ old.file → GoesOn old mid
    → OrFails mid new (P mid.file) s → OrFails old new (P old.file) s
earlier_fails old mid new P s same goes_on (inl refused) = inl (refused.0, subst P same refused.1)
earlier_fails old mid new P s same goes_on (inr failed) = inr (fails_before old mid new s goes_on failed)

-- ---- one file

none_refused : (file : Option (List ℕ)) (name : List ℕ) (limit : ℕ) (s : Status) (text : List ℕ) → ExplainsFault file limit fault.NoFile
    → Refuses name (codes "NoFile") s text → IsRefused file name limit s text
none_refused None name limit s text explained reply = reply
none_refused (Some bytes) name limit s text explained reply = absurd explained

long_refused : (file : Option (List ℕ)) (name : List ℕ) (limit : ℕ) (s : Status) (text : List ℕ) → ExplainsFault file limit fault.TooLong
    → Refuses name (codes "TooLong") s text → IsRefused file name limit s text
long_refused None name limit s text explained reply = absurd explained
long_refused (Some bytes) name limit s text explained reply = (explained, reply)

-- a file that is not had is refused for what stands on the shelf, or a read failed
file_over : (name : List ℕ) (limit : ℕ) (old new : ShelfState) (s : Status) (text : List ℕ) → IsTrue old.tells
    → FileReply name limit old new s text
    → OrFails old new (IsRefused (old.file name) name limit s text) s
file_over name limit old new s text tells reply = go reply.reason
  where
    go : NoFile name limit old new s text ⊎ TooLong name limit old new s text ⊎ CannotRead name old new s text
        → OrFails old new (IsRefused (old.file name) name limit s text) s
    go (inl none) = inl (none.reply.status_is, none_refused (old.file name) name limit s text (none.told tells) none.reply)
    go (inr (inl long)) = inl (long.reply.status_is, long_refused (old.file name) name limit s text (long.told tells) long.reply)
    go (inr (inr unread)) = inr (record { status_is = unread.reply.status_is; rose = unread.rose })

-- ---- a source

pub source_over : (src : List ℕ) (old new : ShelfState) (s : Status) (text : List ℕ) → IsTrue old.tells → SourceReply src old new s text
    → OrFails old new (LacksProgram old.file src s text) s
source_over src old new s text tells (inl reply) =
    or_fails old new (IsRefused (old.file src) src source_limit s text) (LacksProgram old.file src s text) s (λ refused. inl refused)
    (file_over src source_limit old new s text tells reply)
source_over src old new s text tells (inr refused) =
    inl (
      refused.told.status_is,
      inr (record {
        bytes = refused.bytes;
        held = had_holds src source_limit old new refused.bytes tells refused.file;
        line = refused.line;
        kind = refused.kind;
        meant = refused.meant;
        told = refused.told;
      }),
    )

pub program_over : (src : List ℕ) (old new : ShelfState) (g : Graph) → IsTrue old.tells → HasSource src old new g
    → GivesProgram old.file src g
program_over src old new g tells has = record {
  bytes = has.bytes;
  held = had_holds src source_limit old new has.bytes tells has.file;
  meant = has.meant;
}

-- ---- a script

script_over : (script : List ℕ) (slices : ℕ) (old new : ShelfState) (s : Status) (text : List ℕ) → IsTrue old.tells
    → ScriptReply script slices old new s text
    → OrFails old new (LacksScriptOver old.file script slices s text) s
script_over script slices old new s text tells (inl reply) =
    or_fails old new (IsRefused (old.file script) script script_limit s text) (LacksScriptOver old.file script slices s text) s
    (λ refused. inl refused) (file_over script script_limit old new s text tells reply)
script_over script slices old new s text tells (inr refused) =
    inl (
      refused.told.reply.status_is,
      inr (record {
        bytes = refused.bytes;
        held = had_holds script script_limit old new refused.bytes tells refused.file;
        told = refused.told;
      }),
    )

-- a script that is read after other files, which changed none
pub later_script_over : (script : List ℕ) (slices : ℕ) (old mid new : ShelfState) (s : Status) (text : List ℕ) → IsTrue old.tells
    → mid.file ≡ old.file → GoesOn old mid → ScriptReply script slices mid new s text
    → OrFails old new (LacksScriptOver old.file script slices s text) s
later_script_over script slices old mid new s text tells same goes_on reply =
    earlier_fails old mid new (λ files. LacksScriptOver files script slices s text) s same goes_on
    (script_over script slices mid new s text (tells_goes_on old mid goes_on tells) reply)

pub later_said_over : (script : List ℕ) (slices : ℕ) (old mid new : ShelfState) (said : BusScript) → IsTrue old.tells
    → mid.file ≡ old.file → GoesOn old mid → HasScript script slices mid new said
    → GivesScript old.file script slices said
later_said_over script slices old mid new said tells same goes_on has =
    let P : (List ℕ → Option (List ℕ)) → Type 0 = λ files. GivesScript files script slices said in
    subst P same (record {
      bytes = has.bytes;
      held = had_holds script script_limit mid new has.bytes (tells_goes_on old mid goes_on tells) has.file;
      meant = has.meant;
    })

-- a source, and its script after it
pub inputs_over : (src script : List ℕ) (old new : ShelfState) (s : Status) (text : List ℕ) → IsTrue old.tells
    → InputsReply src script old new s text
    → OrFails old new (LacksInputsOver old.file src script s text) s
inputs_over src script old new s text tells (inl reply) =
    or_fails old new (LacksProgram old.file src s text) (LacksInputsOver old.file src script s text) s (λ refused. inl refused)
    (source_over src old new s text tells reply)
inputs_over src script old new s text tells (inr lacks) =
    or_fails old new (LacksScriptOver old.file script lacks.g.decl.slices s text) (LacksInputsOver old.file src script s text) s
    (λ refused. inr (lacks.g, program_over src old lacks.mid lacks.g tells lacks.source, refused))
    (later_script_over script lacks.g.decl.slices old lacks.mid new s text tells lacks.source.file.same lacks.source.file.goes_on
    lacks.reply)

-- ---- the layout

layout_over : (out : List ℕ) (old new : ShelfState) (s : Status) (text : List ℕ) → IsTrue old.tells → LayoutReply out old new s text
    → OrFails old new (LacksLayout old.file out s text) s
layout_over out old new s text tells (inl reply) =
    or_fails old new (IsRefused (old.file (layout_name out)) (layout_name out) layout_limit s text) (LacksLayout old.file out s text) s
    (λ refused. inl refused) (file_over (layout_name out) layout_limit old new s text tells reply)
layout_over out old new s text tells (inr refused) =
    inl (
      refused.told.status_is,
      inr (record {
        bytes = refused.bytes;
        held = had_holds (layout_name out) layout_limit old new refused.bytes tells refused.file;
        line = refused.line;
        kind = refused.kind;
        meant = refused.meant;
        told = refused.told;
      }),
    )

declares : (out : List ℕ) (decl : Declaration) (old new : ShelfState) → IsTrue old.tells → HasLayout out old new decl
    → LayoutDeclares old.file out decl
declares out decl old new tells has = record {
  bytes = has.bytes;
  held = had_holds (layout_name out) layout_limit old new has.bytes tells has.file;
  meant = has.meant;
}

-- ---- the images

first_had : (out : List ℕ) (bits count : ℕ) (old new : ShelfState) (images : List Image) → IsTrue old.tells
    → HasImages out bits count old new images
    → AreFirst old.file out bits count images
first_had out bits count old new images tells has = record {
  all = had.all;
  each = λ number image at.
      let is = had.each number image at in
      record { bytes = is.bytes; held = record { there = is.told tells; fits = is.fits }; shown = is.shown };
}
  where
    had : AreHad out bits count old new images
    had = images_had out bits count old new images has

-- an image that is not had
image_over : (name : List ℕ) (bits : ℕ) (old new : ShelfState) (s : Status) (text : List ℕ) → IsTrue old.tells
    → ImageReply name bits old new s text
    → OrFails old new (LacksImageOver old.file name bits s text) s
image_over name bits old new s text tells (inl reply) =
    or_fails old new (IsRefused (old.file name) name image_limit s text) (LacksImageOver old.file name bits s text) s
    (λ refused. inl refused) (file_over name image_limit old new s text tells reply)
image_over name bits old new s text tells (inr refused) =
    inl (
      refused.reply.status_is,
      inr (record {
        bytes = refused.bytes;
        held = had_holds name image_limit old new refused.bytes tells refused.file;
        fault = refused.fault;
        meant = refused.meant;
        told = refused.reply;
      }),
    )

-- where an image is not had, the first such is told, or a read failed
images_over : (out : List ℕ) (bits count : ℕ) (old new : ShelfState) (s : Status) (text : List ℕ) → IsTrue old.tells
    → ImagesReply out bits count old new s text
    → OrFails old new (LacksOne old.file out bits count s text) s
images_over out bits count old new s text tells reply =
    or_fails old new (LacksImageOver old.file (image_name out reply.number) bits s text) (LacksOne old.file out bits count s text) s
    (λ refused. record {
      number = reply.number;
      below = reply.below;
      images = reply.images;
      before = first_had out bits reply.number old reply.mid reply.images tells reply.earlier;
      told = refused;
    })
    (earlier_fails old reply.mid new (λ files. LacksImageOver files (image_name out reply.number) bits s text) s had.same had.goes_on
    (image_over (image_name out reply.number) bits reply.mid new s text (tells_goes_on old reply.mid had.goes_on tells) reply.reply))
  where
    had : AreHad out bits reply.number old reply.mid reply.images
    had = images_had out bits reply.number old reply.mid reply.images reply.earlier

-- ---- the words

-- where words are not had, `run` replies just that
pub words_over : (scripts : List ℕ → Option (List ℕ)) (out script : List ℕ) (clocks : ℕ) (old new : ShelfState) (s : Status)
    (text : List ℕ)
    → IsTrue old.tells → WordsReply out old new s text
    → OrFails old new (RunOver old.file scripts out script clocks s text) s
words_over scripts out script clocks old new s text tells (inl reply) =
    or_fails old new (LacksLayout old.file out s text) (RunOver old.file scripts out script clocks s text) s (λ refused. inl refused)
    (layout_over out old new s text tells reply)
words_over scripts out script clocks old new s text tells (inr lacks) =
    let later = tells_goes_on old lacks.mid lacks.layout.file.goes_on tells in
    or_fails old new (LacksOne old.file out lacks.decl.prom_bits (image_count lacks.decl) s text)
    (RunOver old.file scripts out script clocks s text) s
    (λ refused. inr (lacks.decl, declares out lacks.decl old lacks.mid tells lacks.layout, inl refused))
    (earlier_fails old lacks.mid new (λ files. LacksOne files out lacks.decl.prom_bits (image_count lacks.decl) s text) s
    lacks.layout.file.same lacks.layout.file.goes_on
    (images_over out lacks.decl.prom_bits (image_count lacks.decl) lacks.mid new s text later lacks.reply))

holds_words : (out : List ℕ) (decl : Declaration) (words : List ℕ) (old new : ShelfState) → IsTrue old.tells
    → HasJoined out old new decl words
    → HoldsWords old.file out decl words
holds_words out decl words old new tells joined = record {
  images = joined.images;
  first = first_had out decl.prom_bits (image_count decl) old new joined.images tells joined.read;
  joined = joined.joined;
}

-- what the files give of an output whose words were had, and how the shelf is left
pub record GivesWords (out : List ℕ) (old new : ShelfState) (decl : Declaration) (words : List ℕ) : Type 0 where
  pub declared : LayoutDeclares old.file out decl
  pub holds : HoldsWords old.file out decl words
  pub same : new.file ≡ old.file
  pub goes_on : GoesOn old new

pub had_words : (out : List ℕ) (decl : Declaration) (words : List ℕ) (old new : ShelfState) → IsTrue old.tells
    → HasWords out old new decl words → GivesWords out old new decl words
had_words out decl words old new tells has =
    let P : (List ℕ → Option (List ℕ)) → Type 0 = λ files. HoldsWords files out decl words in
    let later = tells_goes_on old has.mid has.layout.file.goes_on tells in
    let had = images_had out decl.prom_bits (image_count decl) has.mid new has.images.images has.images.read in
    record {
      declared = declares out decl old has.mid tells has.layout;
      holds = subst P has.layout.file.same (holds_words out decl words has.mid new later has.images);
      same = had.same ∙ has.layout.file.same;
      goes_on = goes_on_both old has.mid new has.layout.file.goes_on had.goes_on;
    }
