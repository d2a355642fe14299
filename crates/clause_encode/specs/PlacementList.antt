-- The placement clauses of a program as a list (this project's own encoding).
use Rattle.std.specs.Prelude.{length}
use Rattle.clause_base.specs.Clauses.{Clauses}
use Rattle.flow_graph.specs.Graph.{Graph}
use Rattle.placement_clauses.specs.Number.{var_count_of}
use Rattle.placement_clauses.specs.Clauses.{clauses_of}

-- the clauses, over as many variables as the program has
abbrev pub list_of : Graph → Clauses
list_of g = record { vars = var_count_of (length g.instrs); clauses = clauses_of g }
