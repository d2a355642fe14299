-- What `run OUT SCRIPT clocks=N` replies over files as they stand, where these are the script's bytes whatever stands
-- under its name (this project's own choice).
use Rattle.std.specs.Prelude.{ℕ, List, Option, Some}
use Rattle.replies.specs.declared.status.Status.{Status}
use Rattle.micro_cli.specs.Replying.{RunOver}

-- the reply of `run` over these files, but for its script, which is these bytes
abbrev pub AfterReply : (List ℕ → Option (List ℕ)) → List ℕ → List ℕ → List ℕ → ℕ → Status → List ℕ → Type 0
AfterReply files out script bytes clocks s text = RunOver files (λ _. Some bytes) out script clocks s text
