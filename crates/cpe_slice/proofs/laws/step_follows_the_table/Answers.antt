use Rattle.std.proofs.Common.{ℕ, ◌≡◌, ◌<◌, false, nat_eq, nat_lt, refl, arith}
use Rattle.std.proofs.lemmas.Bool.Decides.{nat_tests}
use Rattle.cpe_slice.specs.FunctionCode.{function_of, is_shift}
use Rattle.cpe_slice.specs.WordStep.{source_word, masked_word, operand_a, operand_b, logic_word, test_word, result_word, mar_after, link, registers_after, array_step}
use Rattle.cpe_slice.proofs.laws.step_follows_the_table.Goals as goal

pub returns-clause-results : goal.returns-clause-results
unfolding result_word operand_a operand_b logic_word source_word masked_word is_shift
returns-clause-results c = record {
  function_0_group_1 = λ n code b w f g. rw (f, g) refl;
  function_0_group_2 = λ n code b w f g. rw (f, g) refl;
  function_0_group_3 = λ n code b w f g. rw (f, g) refl;
  function_1_group_1 = λ n code b w f g. rw (f, g) refl;
  function_1_group_2 = λ n code b w f g. rw (f, g) refl;
  function_1_group_3 = λ n code b w f g. rw (f, g) refl;
  function_2_group_1 = λ n code b w f g. rw (f, g) refl;
  function_2_group_2 = λ n code b w f g. rw (f, g) refl;
  function_2_group_3 = λ n code b w f g. rw (f, g) refl;
  function_3_group_1 = λ n code b w f g. rw (f, g) refl;
  function_3_group_2 = λ n code b w f g. rw (f, g) refl;
  function_3_group_3 = λ n code b w f g. rw (f, g) refl;
  function_4_group_1 = λ n code b w f g. rw (f, g) refl;
  function_4_group_2 = λ n code b w f g. rw (f, g) refl;
  function_4_group_3 = λ n code b w f g. rw (f, g) refl;
  function_5_group_1 = λ n code b w f g. rw (f, g) refl;
  function_5_group_2 = λ n code b w f g. rw (f, g) refl;
  function_5_group_3 = λ n code b w f g. rw (f, g) refl;
  function_6_group_1 = λ n code b w f g. rw (f, g) refl;
  function_6_group_2 = λ n code b w f g. rw (f, g) refl;
  function_6_group_3 = λ n code b w f g. rw (f, g) refl;
  function_7_group_1 = λ n code b w f g. rw (f, g) refl;
  function_7_group_2 = λ n code b w f g. rw (f, g) refl;
  function_7_group_3 = λ n code b w f g. rw (f, g) refl;
}

pub returns-clause-test_words : goal.returns-clause-test_words
unfolding test_word source_word masked_word
returns-clause-test_words c = record {
  function_4_group_1 = λ code b w f g. rw (f, g) refl;
  function_4_group_2 = λ code b w f g. rw (f, g) refl;
  function_4_group_3 = λ code b w f g. rw (f, g) refl;
  function_5_group_1 = λ code b w f g. rw (f, g) refl;
  function_5_group_2 = λ code b w f g. rw (f, g) refl;
  function_5_group_3 = λ code b w f g. rw (f, g) refl;
  function_6_group_1 = λ code b w f g. rw (f, g) refl;
  function_6_group_2 = λ code b w f g. rw (f, g) refl;
  function_6_group_3 = λ code b w f g. rw (f, g) refl;
  function_7_group_1 = λ code b w f g. rw (f, g) refl;
  function_7_group_2 = λ code b w f g. rw (f, g) refl;
  function_7_group_3 = λ code b w f g. rw (f, g) refl;
}

pub returns-clause-mar : goal.returns-clause-mar
unfolding mar_after source_word
returns-clause-mar c = record {
  function_1_group_1 = λ code b w f g. rw (f, g) refl;
  function_1_group_2 = λ code b w f g. rw (f, g) refl;
  function_1_group_3 = λ code b w f g. rw (f, g) refl;
}

-- a number of another function is not this one
other : (function found : ℕ) → function < found → nat_eq found function ≡ false
other function found h = grind (arith, nat_tests)

pub returns-clause-targets : goal.returns-clause-targets
unfolding array_step registers_after mar_after
returns-clause-targets c = record {
  function_0_group_1 = λ n code b w f g. rw (f, g) refl;
  function_0_group_2 = λ n code b w f g. rw (f, g) refl;
  function_0_group_3 = λ n code b w f g. rw (f, g) refl;
  function_1 = λ n code b w f. rw f refl;
  functions_2_to_7 = λ n code b w f. rw (other 0 (function_of code) (omega (arith, f)), other 1 (function_of code) f) refl;
}

pub returns-clause-links : goal.returns-clause-links
unfolding link operand_a operand_b source_word masked_word is_shift
returns-clause-links c = record {
  function_0_group_1 = λ n code b w j f g. rw (f, g) refl;
  function_0_group_2 = λ n code b w j f g. rw (f, g) refl;
  function_0_group_3 = λ n code b w j f g. rw (f, g) refl;
  function_1_group_1 = λ n code b w j f g. rw (f, g) refl;
  function_1_group_2 = λ n code b w j f g. rw (f, g) refl;
  function_1_group_3 = λ n code b w j f g. rw (f, g) refl;
  function_2_group_1 = λ n code b w j f g. rw (f, g) refl;
  function_2_group_2 = λ n code b w j f g. rw (f, g) refl;
  function_2_group_3 = λ n code b w j f g. rw (f, g) refl;
  function_3_group_1 = λ n code b w j f g. rw (f, g) refl;
  function_3_group_2 = λ n code b w j f g. rw (f, g) refl;
  function_3_group_3 = λ n code b w j f g. rw (f, g) refl;
  functions_4_to_7 = λ n code b w j f.
      let sum : nat_lt (function_of code) 4 ≡ false = grind (arith, nat_tests, f) in
      rw (other 0 (function_of code) (omega (arith, f)), sum) refl;
}

pub returns-clause-outputs : goal.returns-clause-outputs
unfolding array_step link source_word is_shift
returns-clause-outputs c = record {
  links = λ n code b w. refl;
  fi_of_the_shift = λ n code b w f g. rw (f, g) (omega arith);
  fi_of_all_others = λ n code b w e. rw e refl;
}
