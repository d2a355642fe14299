-- The file of a refutation is accepted.
use Rattle.std.proofs.Common.{◌≡◌, ℕ, ◌+◌, ◌-◌, ◌*◌, ◌<◌, ◌≤◌, ◌^◌, Bool, true, false, cond, List, length, take, Option, Some, None, Ok, Err, IsTrue, ap, subst, ◌∙◌, ◌⊎◌, inl, inr, arith}
use Rattle.std.specs.Prelude.{nat_le}
use Rattle.std.proofs.Math.Nat.{mul-le-mul}
use Rattle.std.proofs.lemmas.Bool.Decides.{nat_tests}
use Rattle.io_base.specs.Shelf.{ShelfState}
use Rattle.io_base.specs.Loading.{ExplainsFault}
use Rattle.io_base.specs.declared.loading.LoadFault.TheVariants as load_fault
use Rattle.flow_graph.specs.Graph.{Graph}
use Rattle.clause_base.specs.Refutation.{Refutes}
use Rattle.clause_base.specs.declared.line.Line.{Line}
use Rattle.placement_clauses.specs.Number.{var_count_of}
use Rattle.placement_clauses.specs.Clauses.{clauses_of}
use Rattle.ref_text.specs.Text.{refutation_text}
use Rattle.clause_encode.specs.PlacementList.{list_of}
use Rattle.refute_check.specs.Taken.{Explains, decided, check_file}
use Rattle.refute_check.specs.declared.checked.Checked.{Checked}
use Rattle.refute_check.specs.declared.checked.Checked.TheVariants as checked
use Rattle.refute_check.specs.declared.checked.CheckFault.TheVariants as fault
use Rattle.refute_check.proofs.PrintedLemmas.{refutation_taken}
use Rattle.replies.specs.FileStep.{NoFile, CannotRead}
use Rattle.replies.specs.declared.status.Status.{Status}
use Rattle.micro_cli.specs.CheckerText.{TellsAnswer}
use Rattle.micro_cli.specs.Checking.{refutation_limit, IsAnswer, IsTooLong, RefutationReply}

same_answer : {X : Type 0} (o : Option X) (a b : X) → o ≡ Some a → o ≡ Some b → a ≡ b
same_answer o a b e f = cc

not_both : {X : Type 0} (o : Option X) (b : X) → o ≡ None → o ≡ Some b → ⊥
not_both o b e f = cc

-- 32 bits hold the numbers of a program's variables
vars_fit : (n : ℕ) → n ≤ 512 → var_count_of n < 2 ^ 32
vars_fit n few =
    let less : n - 1 ≤ 512 = omega arith in
    let squares : n * (n - 1) ≤ 512 * 512 = mul-le-mul few less in
    omega (arith, squares)

-- the answer for a file that is a refutation's text
file_refutes : (g : Graph) (lines : List Line) → length (refutation_text (length (clauses_of g)) lines) ≤ 2 ^ 43
    → Refutes (list_of g) lines →
    length g.instrs ≤ 512 → length (clauses_of g) + length lines < 2 ^ 32 →
    check_file refutation_limit (list_of g) (refutation_text (length (clauses_of g)) lines) ≡ Some (checked.Refutes (length lines))
file_refutes g lines short refutes few small =
    let text = refutation_text (length (clauses_of g)) lines in
    let fits : nat_le (length text) refutation_limit ≡ true = grind (arith, nat_tests) in
    ap (λ (b : Bool). cond b (decided (list_of g) text false) (decided (list_of g) (take refutation_limit text) true)) fits
    ∙ ap Some (refutation_taken (list_of g) lines (vars_fit (length g.instrs) few) small refutes)

pub accepted : (name : List ℕ) (g : Graph) (lines : List Line) (old new : ShelfState) (s : Status) (text : List ℕ) →
    IsTrue old.tells → old.file name ≡ Some (refutation_text (length (clauses_of g)) lines) →
    length (refutation_text (length (clauses_of g)) lines) ≤ 2 ^ 43 →
    Refutes (list_of g) lines → length g.instrs ≤ 512 → length (clauses_of g) + length lines < 2 ^ 32 →
    RefutationReply name g old new s text → TellsAnswer (checked.Refutes (length lines)) s text ⊎ CannotRead name old new s text
accepted name g lines old new s text tells file short refutes few small reply = by reply.reason
  where
    whole : check_file refutation_limit (list_of g) (refutation_text (length (clauses_of g)) lines) ≡ Some
        (checked.Refutes (length lines))
    whole = file_refutes g lines short refutes few small

    by : IsAnswer name g old new s text ⊎ NoFile name refutation_limit old new s text ⊎ IsTooLong name g old new s text
        ⊎ CannotRead name old new s text →
        TellsAnswer (checked.Refutes (length lines)) s text ⊎ CannotRead name old new s text
    by (inl answer) =
        let told : check_file refutation_limit (list_of g) (refutation_text (length (clauses_of g)) lines) ≡ Some answer.answer =
        subst (λ (f : Option (List ℕ)). Explains f refutation_limit (list_of g) (Ok answer.answer)) file (answer.told tells) in
        let same : answer.answer ≡ checked.Refutes (length lines) =
        same_answer _ answer.answer (checked.Refutes (length lines)) told whole in
        inl (subst (λ (a : Checked). TellsAnswer a s text) same answer.reply)
    by (inr (inl absent)) =
        absurd (subst (λ (f : Option (List ℕ)). ExplainsFault f refutation_limit load_fault.NoFile) file (absent.told tells))
    by (inr (inr (inl long))) =
        let told : check_file refutation_limit (list_of g) (refutation_text (length (clauses_of g)) lines) ≡ None =
        subst (λ (f : Option (List ℕ)). Explains f refutation_limit (list_of g) (Err fault.TooLong)) file (long.told tells) in
        absurd (not_both _ (checked.Refutes (length lines)) told whole)
    by (inr (inr (inr unread))) = inr unread
