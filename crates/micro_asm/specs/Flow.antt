-- The flow statements by name, and their targets (this project's own choice).
use Rattle.std.specs.Prelude.{ℕ, not, ◌==◌, List, length, Option, Some, None, is_some, Result, Ok, Err, codes, if◌then◌else◌, ◌≡◌, IsTrue}
use Rattle.std.specs.List.{list_any}
use Rattle.std.specs.Str.{bytes_eq}
use Rattle.mcu_jumps.specs.declared.kinds.Kind.{Kind}
use Rattle.mcu_jumps.specs.declared.kinds.Kind.TheVariants.{Goto, Strobe, Enable, IfF, IfC, IfZ, OnPr, OnPx, OnLeft, OnRight}
use Rattle.mcu_jumps.specs.Landing.{outcomes_of}
use Rattle.field_decl.specs.declared.fault.AsmKind.{AsmKind}
use Rattle.field_decl.specs.declared.fault.AsmKind.TheVariants as kinds

-- the flow statement of this name, where there is one
unfoldable pub kind_named : List ℕ → Option Kind
kind_named name =
    if bytes_eq name (codes "goto") then Some Goto
    else if bytes_eq name (codes "strobe") then Some Strobe
    else if bytes_eq name (codes "enable") then Some Enable
    else if bytes_eq name (codes "iff") then Some IfF
    else if bytes_eq name (codes "ifc") then Some IfC
    else if bytes_eq name (codes "ifz") then Some IfZ
    else if bytes_eq name (codes "onpr") then Some OnPr
    else if bytes_eq name (codes "onpx") then Some OnPx
    else if bytes_eq name (codes "onleft") then Some OnLeft
    else if bytes_eq name (codes "onright") then Some OnRight
    else None

-- as many targets as the statement has outcomes, at least one of them a label
abbrev pub with_targets : List (Option (List ℕ)) → Option Kind → Result Kind AsmKind
with_targets targets None = Err kinds.UnknownFlow
with_targets targets (Some kind) =
    if not (length targets == outcomes_of kind) then Err kinds.TargetCount
    else if not (list_any is_some targets) then Err kinds.NoTarget
    else Ok kind

-- the statement of this name, where these may be its targets
abbrev pub flow_kind : List ℕ → List (Option (List ℕ)) → Result Kind AsmKind
flow_kind name targets = with_targets targets (kind_named name)

-- the targets are those of a statement
pub record AreTargetsOf (kind : Kind) (targets : List (Option (List ℕ))) : Type 0 where
  pub target_for_each_outcome : length targets ≡ outcomes_of kind
  pub some_label : IsTrue (list_any is_some targets)
