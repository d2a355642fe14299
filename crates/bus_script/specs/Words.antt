-- The words of a script line: its tokens with the text of each name.
use Rattle.std.specs.Prelude.{ℕ, List, Result}
use Rattle.micro_lex.specs.declared.token.Token.{Token}
use Rattle.micro_lex.specs.declared.fault.LexFault.{LexFault}
use Rattle.micro_lex.specs.Faults.{Cause, Fault, BadByte, BadNumber, NumberTooWide, NameTooLong}
use Rattle.micro_lex.specs.Tokens.{tokens_of}
use Rattle.field_decl.specs.declared.word.Word.{Word}
use Rattle.field_decl.specs.Words.{lexical_refusal, words_or}
use Rattle.bus_script.specs.declared.fault.ScriptKind.{ScriptKind}
use Rattle.bus_script.specs.declared.fault.ScriptKind.TheVariants as kinds
use Rattle.field_decl.specs.declared.refusal.LineRefusal.{LineRefusal}

-- the refusal of a line for a lexical fault
abbrev pub kind_of : Cause → ℕ → ScriptKind
kind_of BadByte column = kinds.BadByte column
kind_of BadNumber column = kinds.BadNumber column
kind_of NumberTooWide column = kinds.NumberTooWide column
kind_of NameTooLong column = kinds.NameTooLong column

-- the refusal that reports a lexical fault
abbrev pub lexical_fault : LexFault → LineRefusal ScriptKind
lexical_fault fault = lexical_refusal kind_of fault

-- the words that the tokens of a line are
abbrev pub words_with : List ℕ → Result (List Token) Fault → Result (List Word) ScriptKind
words_with line found = words_or kind_of line found

-- the words of a line, or its refusal for its first faulty place
unfoldable pub words_of : List ℕ → Result (List Word) ScriptKind
words_of line = words_with line (tokens_of line)
