-- How the checker's answers are told (this project's own choice). Each text is one line. The reasons that it names are
-- those of `Why` in the crate `ref_text`; `check` alone tells them, so their names are here.
use Rattle.std.specs.Prelude.{ℕ, ◌≡◌, List, ◌++◌, codes, decimal}
use Rattle.ref_text.specs.declared.why.Why.{Why}
use Rattle.ref_text.specs.declared.why.Why.TheVariants.{Text, After, Number, Literal, Hint, NotUnit, NotFalse}
use Rattle.refute_check.specs.declared.checked.Checked.{Checked}
use Rattle.refute_check.specs.declared.checked.Checked.TheVariants.{Refutes, Rejected, Derived}
use Rattle.replies.specs.declared.status.Status.{Status}
use Rattle.replies.specs.declared.status.Status.TheVariants.{Done, CheckNo}

-- the name of what is wrong with a line
abbrev pub why_name : Why → List ℕ
why_name Text = codes "Text"
why_name After = codes "After"
why_name Number = codes "Number"
why_name Literal = codes "Literal"
why_name Hint = codes "Hint"
why_name NotUnit = codes "NotUnit"
why_name NotFalse = codes "NotFalse"

-- how many lines were read
abbrev pub counted_text : List ℕ → ℕ → List ℕ
counted_text word count = word ++ decimal count ++ codes "\n"

-- the first line that is refused, and why
abbrev pub rejected_text : ℕ → Why → List ℕ
rejected_text line why = codes "rejected line " ++ decimal line ++ codes " " ++ why_name why ++ codes "\n"

-- the status of an answer: done where the text is a refutation
abbrev pub answer_status : Checked → Status
answer_status (Refutes count) = Done
answer_status (Rejected line why) = CheckNo
answer_status (Derived count) = CheckNo

-- the text of an answer
abbrev pub answer_text : Checked → List ℕ
answer_text (Refutes count) = counted_text (codes "refutes ") count
answer_text (Rejected line why) = rejected_text line why
answer_text (Derived count) = counted_text (codes "derived ") count

-- the answer is told
pub record TellsAnswer (answer : Checked) (s : Status) (text : List ℕ) : Type 0 where
  pub status_is : s ≡ answer_status answer
  pub text_is : text ≡ answer_text answer
