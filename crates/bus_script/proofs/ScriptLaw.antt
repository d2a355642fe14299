-- Going from what is said to what is said is judging each line after all lines before it.
use Rattle.std.proofs.Common.{◌≡◌, ℕ, ◌+◌, List, [], ◌∷◌, ◌++◌, length, Result, Ok, Err, refl, sym, ap}
use Rattle.std.proofs.lemmas.List.{append-nil}
use Rattle.std.proofs.lemmas.List.Elements.{filter_map-append}
use Rattle.micro_lex.specs.Lines.{lines}
use Rattle.field_decl.specs.Results.{◌>>=◌}
use Rattle.field_decl.proofs.LineByLine.{summed_with, TakesAsRead, taken_as_read}
use Rattle.bus_script.specs.declared.fault.ScriptKind.{ScriptKind}
use Rattle.bus_script.specs.Script.{Said, Nothing, MemoryWord, Clock, BusScript, script_by, line_read, script_of}
use Rattle.bus_script.specs.ScriptSteps.{with_line, with_said, after_line, after_lines}

-- one line more
pub script_push : (earlier : List Said) (said : Said) → script_by (earlier ++ said ∷ []) ≡ with_line (script_by earlier) said
script_push earlier Nothing = simp (filter_map-append, append-nil)
script_push earlier (MemoryWord address value) = simp (filter_map-append, append-nil)
script_push earlier (Clock buses) = simp (filter_map-append, append-nil)

abbrev ok_script : BusScript → Result BusScript ScriptKind
ok_script script = Ok script

-- a line is added as it is read
said_one : (earlier : List Said) (read : Result Said ScriptKind)
    → with_said (script_by earlier) read ≡ (read >>= summed_with script_by earlier)
said_one earlier (Ok said) = ap ok_script (sym (script_push earlier said))
said_one earlier (Err kind) = refl

line_taken : (slices : ℕ) → TakesAsRead (line_read slices) (after_line slices) script_by
line_taken slices earlier line = said_one earlier (line_read slices earlier line)

-- a script is what its lines say one after the other
pub script_is : (slices : ℕ) (bytes : List ℕ) → script_of slices bytes ≡ after_lines slices (script_by []) 1 (lines bytes)
script_is slices bytes = sym (taken_as_read (line_read slices) (after_line slices) script_by (line_taken slices) [] (lines bytes))
