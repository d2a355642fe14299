-- What a file gives, or the reply that refuses it, is one.
use Rattle.std.proofs.Common.{ℕ, ◌≡◌, ◌≤◌, ◌⊎◌, inl, inr, List, length, Option, None, Some, Result, Ok, Err, sym, ap, ◌∙◌, subst, arith}
use Rattle.std.specs.Prelude.{codes}
use Rattle.bpnf.specs.Reading.{reading}
use Rattle.bpnf.proofs.NothingElseIsAllowed.{only_reading}
use Rattle.field_decl.specs.Declaration.{Declaration}
use Rattle.field_decl.specs.Layout.{layout_of}
use Rattle.field_decl.specs.declared.fault.AsmKind.{AsmKind}
use Rattle.flow_graph.specs.Graph.{Graph}
use Rattle.micro_asm.specs.Source.{source_of}
use Rattle.bus_script.specs.Script.{BusScript, script_of}
use Rattle.bus_script.specs.declared.fault.ScriptKind.{ScriptKind}
use Rattle.saved_files.specs.FileNames.{layout_name}
use Rattle.prom_files.specs.LayoutStep.{layout_limit}
use Rattle.prom_files.specs.ImagesStep.{image_limit}
use Rattle.prom_files.specs.ImageTexts.{bpnf_reason}
use Rattle.replies.specs.Texts.{Refuses, line_reason}
use Rattle.replies.specs.KindTexts.{asm_text, script_text}
use Rattle.replies.specs.SourceStep.{source_limit}
use Rattle.replies.specs.ScriptStep.{script_limit}
use Rattle.replies.specs.declared.status.Status.{Status}
use Rattle.micro_cli.specs.Accepted.{Holds}
use Rattle.micro_cli.specs.OverFiles.{IsRefused, GivesProgram, LacksProgram, GivesScript, LacksScriptOver, LayoutDeclares, LacksLayout, LacksImageOver}
use Rattle.micro_cli.proofs.AcceptedInputs.{some_bytes}

-- two replies are one
abbrev pub AreOneReply : Status → Status → List ℕ → List ℕ → Type 0
AreOneReply s t text other = (s ≡ t) × (text ≡ other)

-- ---- any file that is parsed

-- the file of this name parses to this
pub record Parses {A B : Type 0} (files : List ℕ → Option (List ℕ)) (name : List ℕ) (limit : ℕ) (parse : List ℕ → Result A B)
    (found : Result A B) : Type 0 where
  pub bytes : List ℕ
  pub held : Holds files name limit bytes
  pub is : parse bytes ≡ found

-- it parses to one thing
pub parses_once : {A B : Type 0} → (files : List ℕ → Option (List ℕ)) (name : List ℕ) (limit : ℕ) (parse : List ℕ → Result A B)
    (r q : Result A B) → Parses files name limit parse r → Parses files name limit parse q → r ≡ q
parses_once files name limit parse r q one two =
    sym one.is
    ∙ ap parse (some_bytes (files name) two.bytes one.bytes two.held.there one.held.there)
    ∙ two.is

-- the reply where the file does not parse
abbrev pub Lacks : {A B : Type 0} → (List ℕ → Option (List ℕ)) → List ℕ → ℕ → (List ℕ → Result A B) → (B → List ℕ) → Status → List ℕ
    → Type 0
Lacks {A} {B} files name limit parse reason s text =
    IsRefused (files name) name limit s text ⊎ ((e : B) × Parses files name limit parse (Err e) × Refuses name (reason e) s text)

abbrev IsFine : {A B : Type 0} → Result A B → Type 0
IsFine (Ok a) = Unit {0}
IsFine (Err e) = ⊥

not_both : {A B : Type 0} → (a : A) (e : B) → Ok a ≡ Err e → ⊥
not_both a e same = subst IsFine same tt

abbrev error_or : {A B : Type 0} → B → Result A B → B
error_or d (Ok a) = d
error_or d (Err e) = e

abbrev value_or : {A B : Type 0} → A → Result A B → A
value_or d (Ok a) = a
value_or d (Err e) = d

pub refuses_once : (name why : List ℕ) (s t : Status) (text other : List ℕ) → Refuses name why s text → Refuses name why t other
    → AreOneReply s t text other
refuses_once name why s t text other one two = (one.status_is ∙ sym two.status_is, one.text_is ∙ sym two.text_is)

refused_once : (file : Option (List ℕ)) (name : List ℕ) (limit : ℕ) (s t : Status) (text other : List ℕ)
    → IsRefused file name limit s text → IsRefused file name limit t other → AreOneReply s t text other
refused_once None name limit s t text other one two = refuses_once name (codes "NoFile") s t text other one two
refused_once (Some bytes) name limit s t text other one two = refuses_once name (codes "TooLong") s t text other one.1 two.1

refused_not_held : (file : Option (List ℕ)) (name : List ℕ) (limit : ℕ) (s : Status) (text bytes : List ℕ)
    → IsRefused file name limit s text → file ≡ Some bytes → length bytes ≤ limit → ⊥
refused_not_held None name limit s text bytes refused there fits = cc
refused_not_held (Some more) name limit s text bytes refused there fits =
    let same : more ≡ bytes = cc in
    omega (arith, refused.0, fits, ap (λ (b : List ℕ). length b) same)

pub lacks_not_parses : {A B : Type 0} → (files : List ℕ → Option (List ℕ)) (name : List ℕ) (limit : ℕ) (parse : List ℕ → Result A B)
    (reason : B → List ℕ) (a : A) (s : Status) (text : List ℕ)
    → Lacks files name limit parse reason s text → Parses files name limit parse (Ok a) → ⊥
lacks_not_parses files name limit parse reason a s text (inl refused) parses =
    refused_not_held (files name) name limit s text parses.bytes refused parses.held.there parses.held.fits
lacks_not_parses files name limit parse reason a s text (inr (e, wrong, told)) parses =
    not_both a e (parses_once files name limit parse (Ok a) (Err e) parses wrong)

pub lacks_once : {A B : Type 0} → (files : List ℕ → Option (List ℕ)) (name : List ℕ) (limit : ℕ) (parse : List ℕ → Result A B)
    (reason : B → List ℕ) (s t : Status) (text other : List ℕ)
    → Lacks files name limit parse reason s text → Lacks files name limit parse reason t other → AreOneReply s t text other
lacks_once files name limit parse reason s t text other (inl one) (inl two) =
    refused_once (files name) name limit s t text other one two
lacks_once files name limit parse reason s t text other (inl one) (inr (e, wrong, told)) =
    absurd (refused_not_held (files name) name limit s text wrong.bytes one wrong.held.there wrong.held.fits)
lacks_once files name limit parse reason s t text other (inr (e, wrong, told)) (inl two) =
    absurd (refused_not_held (files name) name limit t other wrong.bytes two wrong.held.there wrong.held.fits)
lacks_once files name limit parse reason s t text other (inr (e, wrong, told)) (inr (f, wrong_too, told_too)) =
    let same : e ≡ f = ap (error_or e) (parses_once files name limit parse (Err e) (Err f) wrong wrong_too) in
    refuses_once name (reason f) s t text other (subst (λ x. Refuses name (reason x) s text) same told) told_too

pub value_once : {A B : Type 0} → (files : List ℕ → Option (List ℕ)) (name : List ℕ) (limit : ℕ) (parse : List ℕ → Result A B)
    (a b : A) → Parses files name limit parse (Ok a) → Parses files name limit parse (Ok b) → a ≡ b
value_once files name limit parse a b one two = ap (value_or a) (parses_once files name limit parse (Ok a) (Ok b) one two)

-- ---- the four kinds of files

-- what is wrong in a line of a source or of a layout
abbrev pub asm_reason : ℕ × AsmKind → List ℕ
asm_reason at = line_reason at.0 (asm_text at.1)

abbrev pub script_reason : ℕ × ScriptKind → List ℕ
script_reason at = line_reason at.0 (script_text at.1)

abbrev pub LacksSource : (List ℕ → Option (List ℕ)) → List ℕ → Status → List ℕ → Type 0
LacksSource files src s text = Lacks files src source_limit source_of asm_reason s text

pub source_lacks : (files : List ℕ → Option (List ℕ)) (src : List ℕ) (s : Status) (text : List ℕ) → LacksProgram files src s text
    → LacksSource files src s text
source_lacks files src s text (inl refused) = inl refused
source_lacks files src s text (inr none) =
    inr ((none.line, none.kind), record { bytes = none.bytes; held = none.held; is = none.meant }, none.told)

pub source_parses : (files : List ℕ → Option (List ℕ)) (src : List ℕ) (g : Graph) → GivesProgram files src g
    → Parses files src source_limit source_of (Ok g)
source_parses files src g gives = record { bytes = gives.bytes; held = gives.held; is = gives.meant }

abbrev pub LacksScriptFile : (List ℕ → Option (List ℕ)) → List ℕ → ℕ → Status → List ℕ → Type 0
LacksScriptFile files script slices s text = Lacks files script script_limit (λ bytes. script_of slices bytes) script_reason s text

pub script_lacks : (files : List ℕ → Option (List ℕ)) (script : List ℕ) (slices : ℕ) (s : Status) (text : List ℕ)
    → LacksScriptOver files script slices s text → LacksScriptFile files script slices s text
script_lacks files script slices s text (inl refused) = inl refused
script_lacks files script slices s text (inr none) =
    inr (
      (none.told.line, none.told.kind),
      record { bytes = none.bytes; held = none.held; is = none.told.meant },
      none.told.reply,
    )

pub script_parses : (files : List ℕ → Option (List ℕ)) (script : List ℕ) (slices : ℕ) (said : BusScript)
    → GivesScript files script slices said → Parses files script script_limit (λ bytes. script_of slices bytes) (Ok said)
script_parses files script slices said gives = record { bytes = gives.bytes; held = gives.held; is = gives.meant }

abbrev pub LacksLayoutFile : (List ℕ → Option (List ℕ)) → List ℕ → Status → List ℕ → Type 0
LacksLayoutFile files out s text = Lacks files (layout_name out) layout_limit layout_of asm_reason s text

pub layout_lacks : (files : List ℕ → Option (List ℕ)) (out : List ℕ) (s : Status) (text : List ℕ) → LacksLayout files out s text
    → LacksLayoutFile files out s text
layout_lacks files out s text (inl refused) = inl refused
layout_lacks files out s text (inr none) =
    inr ((none.line, none.kind), record { bytes = none.bytes; held = none.held; is = none.meant }, none.told)

pub layout_parses : (files : List ℕ → Option (List ℕ)) (out : List ℕ) (decl : Declaration) → LayoutDeclares files out decl
    → Parses files (layout_name out) layout_limit layout_of (Ok decl)
layout_parses files out decl gives = record { bytes = gives.bytes; held = gives.held; is = gives.meant }

abbrev pub LacksImageFile : (List ℕ → Option (List ℕ)) → List ℕ → ℕ → Status → List ℕ → Type 0
LacksImageFile files name bits s text = Lacks files name image_limit (λ bytes. reading bits 512 bytes) bpnf_reason s text

pub image_lacks : (files : List ℕ → Option (List ℕ)) (name : List ℕ) (bits : ℕ) (s : Status) (text : List ℕ)
    → LacksImageOver files name bits s text → LacksImageFile files name bits s text
image_lacks files name bits s text (inl refused) = inl refused
image_lacks files name bits s text (inr none) =
    inr (
      none.fault,
      record { bytes = none.bytes; held = none.held; is = sym (only_reading bits 512 none.bytes (Err none.fault) none.meant) },
      none.told,
    )
