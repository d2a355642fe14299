-- The words of a line: its tokens with the text of each name.
use Rattle.std.specs.Prelude.{ℕ, List, map, slice_range, Result, Ok, Err}
use Rattle.micro_lex.specs.declared.token.Token.{Token}
use Rattle.micro_lex.specs.declared.token.TokenKind.{TokenKind}
use Rattle.micro_lex.specs.declared.token.TokenKind.TheVariants as tokens
use Rattle.micro_lex.specs.declared.fault.LexFault.{LexFault}
use Rattle.micro_lex.specs.declared.fault.LexFault.TheVariants as lexical
use Rattle.micro_lex.specs.Faults.{Cause, Fault, BadByte, BadNumber, NumberTooWide, NameTooLong}
use Rattle.micro_lex.specs.Tokens.{tokens_of}
use Rattle.field_decl.specs.declared.word.Word.{Word}
use Rattle.field_decl.specs.declared.word.Word.TheVariants as words
use Rattle.field_decl.specs.declared.fault.AsmKind.{AsmKind}
use Rattle.field_decl.specs.declared.fault.AsmKind.TheVariants as kinds
use Rattle.field_decl.specs.declared.refusal.LineRefusal.{LineRefusal}
use Rattle.field_decl.specs.declared.refusal.LineRefusal.TheVariants as line_faults

-- a token of this kind with this text
abbrev pub word_of : TokenKind → List ℕ → Word
word_of tokens.Name text = words.Name text
word_of (tokens.Number number) text = words.Number number
word_of tokens.Colon text = words.Colon
word_of tokens.Bar text = words.Bar
word_of tokens.Equals text = words.Equals
word_of tokens.Minus text = words.Minus

-- a token of this line
abbrev pub word_from : List ℕ → Token → Word
word_from line token = word_of token.kind (slice_range line token.start token.end)

-- the refusal of a line for a lexical fault
abbrev pub kind_of : Cause → ℕ → AsmKind
kind_of BadByte column = kinds.BadByte column
kind_of BadNumber column = kinds.BadNumber column
kind_of NumberTooWide column = kinds.NumberTooWide column
kind_of NameTooLong column = kinds.NameTooLong column

-- the refusal that reports a lexical fault, in a language where these are the kinds of such faults
abbrev pub lexical_refusal : {K : Type 0} → (Cause → ℕ → K) → LexFault → LineRefusal K
lexical_refusal kind (lexical.BadByte column) = line_faults.Kind (kind BadByte column)
lexical_refusal kind (lexical.BadNumber column) = line_faults.Kind (kind BadNumber column)
lexical_refusal kind (lexical.NumberTooWide column) = line_faults.Kind (kind NumberTooWide column)
lexical_refusal kind (lexical.NameTooLong column) = line_faults.Kind (kind NameTooLong column)
lexical_refusal kind lexical.OutOfMemory = line_faults.OutOfMemory

-- the words of the tokens that were found, or the line's refusal
abbrev pub words_or : {K : Type 0} → (Cause → ℕ → K) → List ℕ → Result (List Token) Fault → Result (List Word) K
words_or kind line (Ok found) = Ok (map (word_from line) found)
words_or kind line (Err fault) = Err (kind fault.cause fault.column)

-- the refusal that reports a lexical fault of a source or a layout
abbrev pub lexical_fault : LexFault → LineRefusal AsmKind
lexical_fault fault = lexical_refusal kind_of fault

-- the words of the tokens of a source or a layout
abbrev pub words_from : List ℕ → Result (List Token) Fault → Result (List Word) AsmKind
words_from line found = words_or kind_of line found

-- the words of a line, or its refusal for its first faulty place
unfoldable pub words_of : List ℕ → Result (List Word) AsmKind
words_of line = words_from line (tokens_of line)
