-- Which directives are refused after the earlier ones, and why (this project's own choice).
use Rattle.std.specs.Prelude.{ℕ, ◌+◌, ◌*◌, ◌%◌, ◌^◌, not, ◌&&◌, ◌||◌, ◌==◌, nat_lt, nat_le, List, Option, Some, None, is_some, is_none, unwrap_or, Result, if◌then◌else◌}
use Rattle.std.specs.List.{list_any}
use Rattle.field_decl.specs.declared.directive.Directive.{Directive}
use Rattle.field_decl.specs.declared.directive.Directive.TheVariants as directives
use Rattle.field_decl.specs.declared.fault.AsmKind.{AsmKind}
use Rattle.field_decl.specs.declared.fault.AsmKind.TheVariants as kinds
use Rattle.field_decl.specs.Earlier.{Declared, with_directive}
use Rattle.field_decl.specs.Fields.{has_field, word_bits, can_write}
use Rattle.field_decl.specs.Results.{unless_refused}

-- given before, or not 1 to 16
abbrev pub slices_refusal : Declared → ℕ → Option AsmKind
slices_refusal declared slices = if is_some declared.slices || nat_lt slices 1 || nat_lt 16 slices then Some kinds.Slices else None

-- no slices yet; given before, 0, or no divisor of the width of the bus; a word of more than 96 bits
abbrev pub kbus_refusal : Declared → ℕ → Option AsmKind
kbus_refusal declared kbus =
    if is_none declared.slices then Some kinds.Slices
    else if is_some declared.kbus || kbus == 0 || not (2 * unwrap_or declared.slices 0 % kbus == 0) then Some kinds.KBus
    else if nat_lt 96 (word_bits kbus declared.fields) then Some kinds.WordTooWide
    else None

-- name declared; not 1 to 32 bits; default not below 2^width; a word of more than 96 bits
abbrev pub field_refusal : Declared → List ℕ → ℕ → ℕ → Option AsmKind
field_refusal declared name width default =
    if has_field declared.fields name then Some kinds.FieldTwice
    else if nat_lt width 1 || nat_lt 32 width then Some kinds.FieldWidth
    else if nat_le (2 ^ width) default then Some kinds.DefaultTooWide
    else if nat_lt 96 (word_bits (unwrap_or declared.kbus 1) declared.fields + width) then Some kinds.WordTooWide
    else None

-- given before, or not 512 words of 4 or 8 bits
abbrev pub prom_refusal : Declared → ℕ → ℕ → Option AsmKind
prom_refusal declared words bits =
    if is_some declared.prom || not (words == 512 && (bits == 4 || bits == 8)) then Some kinds.Prom else None

-- given before, or no field of that name and one bit declared above
abbrev pub write_refusal : Declared → List ℕ → Option AsmKind
write_refusal declared name =
    if is_some declared.write || not (list_any (can_write name) declared.fields) then Some kinds.WriteField else None

-- the first test that a directive fails after these
unfoldable pub refusal : Declared → Directive → Option AsmKind
refusal declared (directives.Slices slices) = slices_refusal declared slices
refusal declared (directives.KBus kbus) = kbus_refusal declared kbus
refusal declared (directives.Field name width default) = field_refusal declared name width default
refusal declared (directives.Prom words bits) = prom_refusal declared words bits
refusal declared (directives.Write name) = write_refusal declared name

-- what is declared with a directive more, or why it is refused
abbrev pub judged : Declared → Directive → Result Declared AsmKind
judged declared directive = unless_refused (refusal declared directive) (with_directive declared directive)
