-- How images are run once they are saved (this project's own choice).
use Rattle.std.specs.Prelude.{ℕ, List}
use Rattle.bench_answers.specs.declared.placed_runs.PlacedRun.{PlacedRun}

-- what a run is asked for
pub record RunOrder : Type 0 where
  -- the name of the output
  pub out : List ℕ
  -- the name of the script, which a refusal tells
  pub script : List ℕ
  -- the script's bytes
  pub bytes : List ℕ
  -- how many clocks are run
  pub clocks : ℕ

-- the order of a placed run and of its script's bytes
abbrev pub order_of : PlacedRun → List ℕ → RunOrder
order_of asked bytes = record { out = asked.out.now; script = asked.script.now; bytes = bytes; clocks = asked.clocks }
