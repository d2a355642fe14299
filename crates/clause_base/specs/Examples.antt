-- Worked examples of a refutation and of a clash: small lists, whose facts are proved with the tests.

use Rattle.std.specs.Prelude.{ℕ, pos, negsuc, List, [], ◌∷◌}
use Rattle.clause_base.specs.Clauses.{Clauses}
use Rattle.clause_base.specs.declared.line.Line.{Line}
use Rattle.clause_base.specs.declared.clash.Clash.{Clash}

-- Of the program `A: iff B B`, `B: goto B`, whose start is A, four clauses: A is in column 0 (33); from there the
-- outcome 0 of the test asks that B is in column 2 (83), and the outcome 1 that B is in column 3 (84); a label is
-- in one column.
abbrev pub one_target_twice : Clauses
one_target_twice = record {
  vars = 103;
  clauses =
      (pos 33 ∷ [])
      ∷ (negsuc 32 ∷ pos 83 ∷ [])
      ∷ (negsuc 32 ∷ pos 84 ∷ [])
      ∷ (negsuc 82 ∷ negsuc 83 ∷ [])
      ∷ [];
}

-- the line with no literal and these hints
abbrev pub empty_line : List ℕ → Line
empty_line hints = record { clause = []; hints = hints }

-- two variables, and a clause against each pair of their values
abbrev pub every_pair : Clauses
every_pair = record {
  vars = 2;
  clauses =
      (pos 1 ∷ pos 2 ∷ [])
      ∷ (negsuc 0 ∷ pos 2 ∷ [])
      ∷ (pos 1 ∷ negsuc 1 ∷ [])
      ∷ (negsuc 0 ∷ negsuc 1 ∷ [])
      ∷ [];
}

-- variable 1 is decided, variable 2 is implied by clause 2, and clause 4 is false
abbrev pub decided_one : Clash
decided_one = record {
  steps =
      record { lit = pos 1; level = 1; reason = 0 }
      ∷ record { lit = pos 2; level = 1; reason = 2 }
      ∷ [];
  clause = 4;
}
