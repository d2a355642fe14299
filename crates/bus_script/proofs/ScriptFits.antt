-- All values of a script fit the array that it was read for.
use Rattle.std.proofs.Common.{◌≡◌, ℕ, zero, suc, ◌+◌, ◌^◌, ◌<◌, Bool, true, false, cond, List, [], ◌∷◌, ◌++◌, length, Option, Some, None, Result, Ok, Err, refl, sym, subst, ◌∙◌, arith}
use Rattle.std.specs.Prelude.{IfOk, IfSome, unwrap_or, nat_le, nat_lt, codes, if◌then◌else◌, ◌||◌, is_some, nat_eq}
use Rattle.std.specs.Str.{bytes_eq}
use Rattle.std.specs.List.{IsDistinct, list_any}
use Rattle.std.specs.Map.{keys_of, lookup}
use Rattle.std.proofs.lemmas.Cmp.{nat_eq_equiv}
use Rattle.std.proofs.lemmas.List.{map-append}
use Rattle.std.proofs.lemmas.List.Elements.{All-nil, All-push}
use Rattle.std.proofs.lemmas.Result.{IfOk-weaker}
use Rattle.std.proofs.lemmas.Map.Entries.{All-lookup}
use Rattle.std.proofs.lemmas.Map.Keys.{IsDistinct-push}
use Rattle.std.proofs.Math.Nat.{pow-suc}
use Rattle.micro_lex.specs.Lines.{lines}
use Rattle.field_decl.specs.LineByLine.{lines_read}
use Rattle.field_decl.specs.Results.{◌>>=◌}
use Rattle.field_decl.proofs.LineByLine.{read_keeps}
use Rattle.field_decl.specs.declared.word.Word.{Word}
use Rattle.field_decl.specs.declared.word.Word.TheVariants as words
use Rattle.bus_script.specs.declared.buses.Buses.{Buses}
use Rattle.bus_script.specs.declared.fault.ScriptKind.{ScriptKind}
use Rattle.bus_script.specs.declared.fault.ScriptKind.TheVariants as kinds
use Rattle.bus_script.specs.declared.setting.Given.{Given}
use Rattle.bus_script.specs.declared.setting.Setting.{Setting}
use Rattle.bus_script.specs.Script.{Said, Nothing, MemoryWord, Clock, BusScript, script_by, value_at, memory_line, keyword_line, words_said, line_said, line_read, script_of, idle}
use Rattle.bus_script.specs.ScriptFits.{AreBusesFor, IsMemoryWordFor, IsScriptFor}
use Rattle.bus_script.specs.ScriptSteps.{with_line}
use Rattle.bus_script.specs.Settings.{settings_of, clock_buses}
use Rattle.bus_script.specs.SettingSteps.{nothing_given, fresh_value, with_setting, given_after, buses_from}
use Rattle.bus_script.specs.Words.{words_of}
use Rattle.bus_script.proofs.ScriptLaw.{script_push}
use Rattle.bus_script.proofs.GivenSettings.{clock_by_steps}

-- ---- readings that are refused or fit

-- what follows from a reading fits where all that it may give does
bind_fits : {A B E : Type 0} (P : A → Type 0) (Q : B → Type 0) (read : Result A E) (next : A → Result B E) → IfOk read P
    → ((x : A) → P x → IfOk (next x) Q) → IfOk (read >>= next) Q
bind_fits P Q (Ok x) next h more = more x h
bind_fits P Q (Err e) next h more = tt

-- both ways of a test fit
either_fits : {A E : Type 0} (P : A → Type 0) (test : Bool) (yes_read no_read : Result A E) → IfOk yes_read P → IfOk no_read P
    → IfOk (if test then yes_read else no_read) P
either_fits P true yes_read no_read h k = h
either_fits P false yes_read no_read h k = k

-- ---- the settings of a clock line

-- each value that was given fits
record IsGivenFor (slices : ℕ) (given : Given) : Type 0 where
  m : IfSome given.m (λ word. word < 4 ^ slices)
  i : IfSome given.i (λ word. word < 4 ^ slices)
  px : IfSome given.px (λ inputs. inputs < 16)
  sx : IfSome given.sx (λ inputs. inputs < 16)

-- a value that passes the test is below the bound
tested_below : (bound value : ℕ) (test : Bool) → nat_le bound value ≡ test
    → IfOk (if test then Err kinds.Value else Ok value) (λ v. v < bound)
tested_below bound value true is = tt
tested_below bound value false is = grind arith

-- a fresh value is below its bound
fresh_fits : (given : Option ℕ) (bound value : ℕ) → IfOk (fresh_value given bound value) (λ v. v < bound)
fresh_fits None bound value = tested_below bound value (nat_le bound value) refl
fresh_fits (Some before) bound value = tt

-- one setting more
setting_fits : (slices : ℕ) (given : Given) (setting : Setting) → IsGivenFor slices given
    → IfOk (with_setting slices given setting) (IsGivenFor slices)
unfolding with_setting
setting_fits slices given setting h =
    let word = λ (v : ℕ). v < 4 ^ slices in
    let inputs = λ (v : ℕ). v < 16 in
    let fits = IsGivenFor slices in
    either_fits fits (bytes_eq setting.key (codes "m")) _ _
    (bind_fits word fits (fresh_value given.m (4 ^ slices) setting.value) (λ m. Ok (record given { m = Some m }))
    (fresh_fits given.m (4 ^ slices) setting.value) (λ m below. record { m = below; i = h.i; px = h.px; sx = h.sx }))
    (either_fits fits (bytes_eq setting.key (codes "i")) _ _
    (bind_fits word fits (fresh_value given.i (4 ^ slices) setting.value) (λ i. Ok (record given { i = Some i }))
    (fresh_fits given.i (4 ^ slices) setting.value) (λ i below. record { m = h.m; i = below; px = h.px; sx = h.sx }))
    (either_fits fits (bytes_eq setting.key (codes "px")) _ _
    (bind_fits inputs fits (fresh_value given.px 16 setting.value) (λ px. Ok (record given { px = Some px }))
    (fresh_fits given.px 16 setting.value) (λ px below. record { m = h.m; i = h.i; px = below; sx = h.sx }))
    (either_fits fits (bytes_eq setting.key (codes "sx")) _ _
    (bind_fits inputs fits (fresh_value given.sx 16 setting.value) (λ sx. Ok (record given { sx = Some sx }))
    (fresh_fits given.sx 16 setting.value) (λ sx below. record { m = h.m; i = h.i; px = h.px; sx = below }))
    tt)))

-- all settings of a line
given_fits : (slices : ℕ) (given : Given) (settings : List Setting) → IsGivenFor slices given
    → IfOk (given_after slices given settings) (IsGivenFor slices)
unfolding given_after
given_fits slices given [] h = h
given_fits slices given (setting ∷ settings) h =
    bind_fits (IsGivenFor slices) (IsGivenFor slices) (with_setting slices given setting) (λ more. given_after slices more settings)
    (setting_fits slices given setting h) (λ more k. given_fits slices more settings k)

-- what is not given is 0, which fits
or_zero_fits : (given : Option ℕ) (bound : ℕ) → 0 < bound → IfSome given (λ v. v < bound) → unwrap_or given 0 < bound
or_zero_fits None bound some h = some
or_zero_fits (Some v) bound some h = h

-- 0 is a word of any array
pub some_words : (slices : ℕ) → 0 < 4 ^ slices
some_words zero = omega arith
some_words (suc slices) = omega (arith, pow-suc 4 slices, some_words slices)

-- the buses of a clock line
buses_fit : (slices : ℕ) (words : List Word) → IfOk (clock_buses slices words) (AreBusesFor slices)
buses_fit slices words =
    let read = settings_of words >>= given_after slices nothing_given in
    let given : IfOk read (IsGivenFor slices) =
    bind_fits (λ _. Unit {0}) (IsGivenFor slices) (settings_of words) (given_after slices nothing_given)
    (any_fits (settings_of words))
    (λ settings _. given_fits slices nothing_given settings (record { m = tt; i = tt; px = tt; sx = tt })) in
    subst (λ (buses : Result Buses ScriptKind). IfOk buses (AreBusesFor slices)) (sym (clock_by_steps slices words))
    (bind_fits (IsGivenFor slices) (AreBusesFor slices) read (λ given. Ok (buses_from given)) given
    (λ given h. record {
      m = h.m;
      i = or_zero_fits given.i (4 ^ slices) (some_words slices) h.i;
      px = or_zero_fits given.px 16 (omega arith) h.px;
      sx = or_zero_fits given.sx 16 (omega arith) h.sx;
    }))
  where
    any_fits : {A E : Type 0} (read : Result A E) → IfOk read (λ _. Unit {0})
    any_fits (Ok x) = tt
    any_fits (Err e) = tt

-- ---- lines

-- what a line says fits, and names no address that is named before
IsSaidFor : ℕ → List (ℕ × ℕ) → Said → Type 0
IsSaidFor slices memory Nothing = Unit {0}
IsSaidFor slices memory (MemoryWord address value) = IsMemoryWordFor slices (address, value) × (is_some (value_at memory address) ≡ false)
IsSaidFor slices memory (Clock buses) = AreBusesFor slices buses

-- a word that passes all tests
tested_memory_word : (slices : ℕ) (memory : List (ℕ × ℕ)) (address value : ℕ) (named high wide : Bool)
    → is_some (value_at memory address) ≡ named → nat_lt 4095 address ≡ high → nat_le (4 ^ slices) value ≡ wide
    → IfOk (if high || wide then Err kinds.Value else if named then Err kinds.Twice else Ok (MemoryWord address value))
    (IsSaidFor slices memory)
unfolding IsSaidFor
tested_memory_word slices memory address value named true wide free h k = tt
tested_memory_word slices memory address value named false true free h k = tt
tested_memory_word slices memory address value true false false free h k = tt
tested_memory_word slices memory address value false false false free h k = (record { address = grind arith; value = grind arith }, free)

-- a line of `mem`
memory_fits : (slices : ℕ) (memory : List (ℕ × ℕ)) (line : List Word) → IfOk (memory_line slices memory line) (IsSaidFor slices memory)
memory_fits slices memory (words.Number address ∷ words.Number value ∷ []) =
    tested_memory_word slices memory address value (is_some (value_at memory address)) (nat_lt 4095 address) (nat_le (4 ^ slices) value)
    refl refl refl
memory_fits slices memory _ = tt

-- a line of either keyword
keyword_fits : (slices : ℕ) (memory : List (ℕ × ℕ)) (keyword : List ℕ) (line : List Word)
    → IfOk (keyword_line slices memory keyword line) (IsSaidFor slices memory)
unfolding keyword_line IsSaidFor
keyword_fits slices memory keyword line =
    either_fits (IsSaidFor slices memory) (bytes_eq keyword (codes "mem")) _ _ (memory_fits slices memory line)
    (either_fits (IsSaidFor slices memory) (bytes_eq keyword (codes "clk")) _ _
    (bind_fits (AreBusesFor slices) (IsSaidFor slices memory) (clock_buses slices line) (λ buses. Ok (Clock buses))
    (buses_fit slices line) (λ buses h. h))
    tt)

-- a line of these words
words_fit : (slices : ℕ) (memory : List (ℕ × ℕ)) (line : List Word) → IfOk (words_said slices memory line) (IsSaidFor slices memory)
unfolding IsSaidFor
words_fit slices memory [] = tt
words_fit slices memory (words.Name keyword ∷ line) = keyword_fits slices memory keyword line
words_fit slices memory _ = tt

-- a line of these bytes
said_fits : (slices number : ℕ) (memory : List (ℕ × ℕ)) (line : List ℕ)
    → IfOk (line_said slices number memory line) (IsSaidFor slices memory)
unfolding line_said
said_fits slices number memory line =
    either_fits (IsSaidFor slices memory) (nat_lt 65536 number) _ _ tt (read_fits (words_of line))
  where
    read_fits : (read : Result (List Word) ScriptKind) → IfOk (read >>= words_said slices memory) (IsSaidFor slices memory)
    read_fits (Ok line) = words_fit slices memory line
    read_fits (Err kind) = tt

-- ---- the whole script

-- a value is found just where its key is among the keys
found_key : (test : ℕ → Bool) (memory : List (ℕ × ℕ)) → is_some (lookup test memory) ≡ list_any test (keys_of memory)
found_key test [] = refl
found_key test (word ∷ memory) = by_test (test word.0) (lookup test memory) (list_any test (keys_of memory)) (found_key test memory)
  where
    by_test : (passes : Bool) (found : Option ℕ) (others : Bool) → is_some found ≡ others
        → is_some (cond passes (Some word.1) found) ≡ (passes || others)
    by_test true found others h = refl
    by_test false found others h = h

-- an address that is not named yet differs from all that are
new_key : (memory : List (ℕ × ℕ)) (address value : ℕ) → IsDistinct nat_eq (keys_of memory) → is_some (value_at memory address) ≡ false
    → IsDistinct nat_eq (keys_of (memory ++ (address, value) ∷ []))
new_key memory address value h free =
    subst (IsDistinct nat_eq) (sym (map-append (λ (word : ℕ × ℕ). word.0) memory ((address, value) ∷ [])))
    (IsDistinct-push nat_eq_equiv (keys_of memory) address h (sym (found_key (nat_eq address) memory) ∙ free))

-- one line more
push_fits : (slices : ℕ) (script : BusScript) (said : Said) → IsScriptFor slices script → IsSaidFor slices script.memory said
    → IsScriptFor slices (with_line script said)
unfolding IsSaidFor
push_fits slices script Nothing h k = h
push_fits slices script (MemoryWord address value) h k = record {
  memory = All-push (IsMemoryWordFor slices) script.memory (address, value) h.memory k.0;
  distinct = new_key script.memory address value h.distinct k.1;
  clocks = h.clocks;
}
push_fits slices script (Clock buses) h k =
    record { memory = h.memory; distinct = h.distinct; clocks = All-push (AreBusesFor slices) script.clocks buses h.clocks k }

-- all lines
lines_fit : (slices : ℕ) (all : List (List ℕ)) → IfOk (lines_read (line_read slices) [] all) (λ said. IsScriptFor slices (script_by said))
unfolding IsDistinct
lines_fit slices all =
    read_keeps (line_read slices) (λ said. IsScriptFor slices (script_by said))
    (λ earlier line h. IfOk-weaker (line_read slices earlier line) (IsSaidFor slices (script_by earlier).memory)
    (λ said. IsScriptFor slices (script_by (earlier ++ said ∷ [])))
    (λ said k. subst (IsScriptFor slices) (sym (script_push earlier said)) (push_fits slices (script_by earlier) said h k))
    (said_fits slices (length earlier + 1) (script_by earlier).memory line))
    [] all (record { memory = All-nil _; distinct = tt; clocks = All-nil _ })

-- a script that is read fits
pub script_fits : (slices : ℕ) (bytes : List ℕ) → IfOk (script_of slices bytes) (IsScriptFor slices)
script_fits slices bytes =
    bind_fits (λ all. IsScriptFor slices (script_by all)) (IsScriptFor slices) (lines_read (line_read slices) [] (lines bytes))
    (λ said. Ok (script_by said)) (lines_fit slices (lines bytes)) (λ said h. h)

-- ---- what a script that fits gives

-- the buses after the last clock that is given
pub idle_fits : (slices : ℕ) → AreBusesFor slices idle
idle_fits slices = record { m = tt; i = some_words slices; px = omega arith; sx = omega arith }

-- the value that is named for an address
pub named_fits : (slices : ℕ) (script : BusScript) (address : ℕ) → IsScriptFor slices script
    → IfSome (value_at script.memory address) (λ value. value < 4 ^ slices)
named_fits slices script address h =
    All-lookup (λ value. value < 4 ^ slices) (nat_eq address) script.memory (λ place word within. (h.memory place word within).value)
