-- What is had of accepted files, and what refuses a file of which nothing is wrong.
use Rattle.std.proofs.Common.{ℕ, ◌≡◌, ◌⊎◌, inl, inr, List, Option, Some, Ok, IsTrue, sym, ap, ◌∙◌, arith}
use Rattle.io_base.specs.Causes.{Rose}
use Rattle.io_base.specs.Shelf.{ShelfState, GoesOn}
use Rattle.flow_graph.specs.Graph.{Graph}
use Rattle.micro_asm.specs.Source.{source_of}
use Rattle.bus_script.specs.Script.{BusScript, script_of}
use Rattle.saved_files.proofs.ComposingStates.{goes_on_both, tells_goes_on, same_file}
use Rattle.replies.specs.FileStep.{HasFile, FileReply, NoFile, TooLong, CannotRead}
use Rattle.replies.specs.SourceStep.{source_limit, HasSource, SourceReply}
use Rattle.replies.specs.ScriptStep.{script_limit, ScriptReply}
use Rattle.replies.specs.declared.status.Status.{Status}
use Rattle.replies.specs.declared.status.Status.TheVariants as status
use Rattle.bench_answers.proofs.ReadBack.{not_both, one_value, file_unread, file_read}
use Rattle.micro_cli.specs.Accepted.{Holds, IsAccepted}
use Rattle.micro_cli.specs.Inputs.{InputsReply}
use Rattle.micro_cli.specs.Making.{StartsFrom}

-- ---- accepted files

-- a source has one program, and a program's script one meaning
pub record AreOne (g other : Graph) (bytes other_bytes : List ℕ) (said other_said : BusScript) : Type 0 where
  pub graph : other ≡ g
  pub bytes_are : other_bytes ≡ bytes
  pub says : other_said ≡ said

pub some_bytes : (file : Option (List ℕ)) (a b : List ℕ) → file ≡ Some a → file ≡ Some b → b ≡ a
some_bytes file a b one two = let same : Some b ≡ Some a = sym two ∙ one in cc

pub accepted_once : (src script : List ℕ) (files : List ℕ → Option (List ℕ)) (g other : Graph) (bytes other_bytes : List ℕ)
    (said other_said : BusScript)
    → IsAccepted src script files g bytes said → IsAccepted src script files other other_bytes other_said
    → AreOne g other bytes other_bytes said other_said
accepted_once src script files g other bytes other_bytes said other_said one two =
    let source : two.source ≡ one.source = some_bytes (files src) one.source two.source one.source_held.there two.source_held.there in
    let graph : other ≡ g = one_value (source_of two.source) other g two.meant (ap source_of source ∙ one.meant) in
    let same : other_bytes ≡ bytes = some_bytes (files script) bytes other_bytes one.script_held.there two.script_held.there in
    let meant : script_of other.decl.slices other_bytes ≡ Ok said =
    ap (λ (h : Graph). script_of h.decl.slices other_bytes) graph ∙ ap (λ (b : List ℕ). script_of g.decl.slices b) same ∙ one.says in
    record { graph = graph; bytes_are = same; says = one_value (script_of other.decl.slices other_bytes) other_said said two.says meant }

-- ---- files that were had

-- a file that was had holds its bytes
pub had_holds : (name : List ℕ) (limit : ℕ) (old new : ShelfState) (bytes : List ℕ) → IsTrue old.tells → HasFile name limit old new bytes
    → Holds old.file name limit bytes
had_holds name limit old new bytes tells has = record { there = has.told tells; fits = has.fits }

-- the files that a command starts from are accepted
pub starts_accepted : (src script : List ℕ) (old new : ShelfState) (g : Graph) (bytes : List ℕ) → IsTrue old.tells
    → (starts : StartsFrom src script old new g bytes)
    → IsAccepted src script old.file g bytes starts.read.said
starts_accepted src script old new g bytes tells starts =
    let later = tells_goes_on old starts.mid starts.source.file.goes_on tells in
    let held = had_holds script script_limit starts.mid new bytes later starts.read.file in
    record {
      source = starts.source.bytes;
      source_held = had_holds src source_limit old starts.mid starts.source.bytes tells starts.source.file;
      meant = starts.source.meant;
      script_held = record { there = sym (same_file old starts.mid script starts.source.file.same) ∙ held.there; fits = held.fits };
      says = starts.read.meant;
    }

pub starts_go_on : (src script : List ℕ) (old new : ShelfState) (g : Graph) (bytes : List ℕ) → StartsFrom src script old new g bytes
    → GoesOn old new
starts_go_on src script old new g bytes starts = goes_on_both old starts.mid new starts.source.file.goes_on starts.read.file.goes_on

pub starts_same : (src script : List ℕ) (old new : ShelfState) (g : Graph) (bytes : List ℕ) → StartsFrom src script old new g bytes
    → new.file ≡ old.file
starts_same src script old new g bytes starts = starts.read.file.same ∙ starts.source.file.same

-- ---- files that were not had

-- a read failed since the old state
pub record IsUnread (old new : ShelfState) (s : Status) : Type 0 where
  pub status_is : s ≡ status.ShelfFault
  pub rose : Rose old.faults new.faults

pub unread_by : (name : List ℕ) (old mid new : ShelfState) (s : Status) (text : List ℕ) → GoesOn old mid → CannotRead name mid new s text
    → IsUnread old new s
unread_by name old mid new s text goes_on unread = record {
  status_is = unread.reply.status_is;
  rose = omega (arith, goes_on.later, unread.rose);
}

-- a source that is accepted is not had only where a read fails
pub source_unread : (src : List ℕ) (old new : ShelfState) (source : List ℕ) (g : Graph) (s : Status) (text : List ℕ) → IsTrue old.tells
    → Holds old.file src source_limit source → source_of source ≡ Ok g → SourceReply src old new s text → CannotRead src old new s text
source_unread src old new source g s text tells held meant (inl reply) =
    file_unread src source_limit old new s text source tells held.there held.fits reply
source_unread src old new source g s text tells held meant (inr refused) =
    let same = file_read src source_limit old new refused.bytes source tells held.there refused.file in
    absurd (not_both (source_of refused.bytes) g (refused.line, refused.kind) (ap source_of same ∙ meant) refused.meant)

-- the program of an accepted source
pub source_read : (src : List ℕ) (old new : ShelfState) (source : List ℕ) (g other : Graph) → IsTrue old.tells
    → Holds old.file src source_limit source → source_of source ≡ Ok g → HasSource src old new other → other ≡ g
source_read src old new source g other tells held meant has =
    let same = file_read src source_limit old new has.bytes source tells held.there has.file in
    one_value (source_of has.bytes) other g has.meant (ap source_of same ∙ meant)

-- a script that says this is not had only where a read fails
script_unread : (script : List ℕ) (slices : ℕ) (old new : ShelfState) (bytes : List ℕ) (said : BusScript) (s : Status) (text : List ℕ)
    → IsTrue old.tells
    → Holds old.file script script_limit bytes → script_of slices bytes ≡ Ok said → ScriptReply script slices old new s text
    → CannotRead script old new s text
script_unread script slices old new bytes said s text tells held says (inl reply) =
    file_unread script script_limit old new s text bytes tells held.there held.fits reply
script_unread script slices old new bytes said s text tells held says (inr refused) =
    let same = file_read script script_limit old new refused.bytes bytes tells held.there refused.file in
    absurd (not_both (script_of slices refused.bytes) said (refused.told.line, refused.told.kind)
    (ap (λ (b : List ℕ). script_of slices b) same ∙ says) refused.told.meant)

-- accepted files are not had only where a read fails
pub inputs_unread : (src script : List ℕ) (old new : ShelfState) (g : Graph) (bytes : List ℕ) (said : BusScript) (s : Status)
    (text : List ℕ) → IsTrue old.tells
    → IsAccepted src script old.file g bytes said → InputsReply src script old new s text → IsUnread old new s
inputs_unread src script old new g bytes said s text tells accepted (inl reply) =
    let unread = source_unread src old new accepted.source g s text tells accepted.source_held accepted.meant reply in
    record { status_is = unread.reply.status_is; rose = unread.rose }
inputs_unread src script old new g bytes said s text tells accepted (inr lacks) =
    let later = tells_goes_on old lacks.mid lacks.source.file.goes_on tells in
    let is = source_read src old lacks.mid accepted.source g lacks.g tells accepted.source_held accepted.meant lacks.source in
    let says = ap (λ (h : Graph). script_of h.decl.slices bytes) is ∙ accepted.says in
    let held : Holds lacks.mid.file script script_limit bytes = record {
      there = same_file old lacks.mid script lacks.source.file.same ∙ accepted.script_held.there;
      fits = accepted.script_held.fits;
    } in
    unread_by script old lacks.mid new s text lacks.source.file.goes_on
    (script_unread script lacks.g.decl.slices lacks.mid new bytes said s text later held says lacks.reply)

-- ---- statuses

-- where files are not had, an input is refused or a read failed
abbrev pub RefusesOrFails : Status → Type 0
RefusesOrFails s = (s ≡ status.Input) ⊎ (s ≡ status.ShelfFault)

pub file_status : (name : List ℕ) (limit : ℕ) (old new : ShelfState) (s : Status) (text : List ℕ) → FileReply name limit old new s text
    → RefusesOrFails s
file_status name limit old new s text reply = go reply.reason
  where
    go : NoFile name limit old new s text ⊎ TooLong name limit old new s text ⊎ CannotRead name old new s text → RefusesOrFails s
    go (inl none) = inl none.reply.status_is
    go (inr (inl long)) = inl long.reply.status_is
    go (inr (inr unread)) = inr unread.reply.status_is

pub inputs_status : (src script : List ℕ) (old new : ShelfState) (s : Status) (text : List ℕ) → InputsReply src script old new s text
    → RefusesOrFails s
inputs_status src script old new s text (inl (inl reply)) = file_status src source_limit old new s text reply
inputs_status src script old new s text (inl (inr refused)) = inl refused.told.status_is
inputs_status src script old new s text (inr lacks) = go lacks.reply
  where
    go : ScriptReply script lacks.g.decl.slices lacks.mid new s text → RefusesOrFails s
    go (inl reply) = file_status script script_limit lacks.mid new s text reply
    go (inr refused) = inl refused.told.reply.status_is
