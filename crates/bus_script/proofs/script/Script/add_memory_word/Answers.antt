use Rattle.std.proofs.Common.{◌≡◌, ◌∙◌, ◌++◌, ◌∷◌, [], ℕ, List, None, nat_eq, ap}
use Rattle.indexmap.proofs.CallerLemmas.{insert_entry-new}
use Rattle.bus_script.specs.declared.buses.Buses.{Buses}
use Rattle.bus_script.specs.Script.{BusScript, value_at}
use Rattle.bus_script.proofs.script.Script.add_memory_word.Goals as goal

abbrev script_with : List (ℕ × ℕ) → List Buses → BusScript
script_with memory clocks = record { memory = memory; clocks = clocks }

pub returns : goal.returns
returns c =
    let memory : c.self.inside.memory.entries ≡ c.args.self.now.memory = ap (λ (s : BusScript). s.memory) c.self.view_is in
    let clocks : c.self.inside.clocks.items ≡ c.args.self.now.clocks = ap (λ (s : BusScript). s.clocks) c.self.view_is in
    let absent : value_at c.self.inside.memory.entries c.args.address ≡ None = ap (λ (m : List (ℕ × ℕ)). value_at m c.args.address) memory
    ∙ c.requires in
    let added = c.in_ok-insert.ensures.entries ∙ insert_entry-new nat_eq c.self.inside.memory c.args.address c.args.value absent in
    ap (λ (m : List (ℕ × ℕ)). script_with m c.self.inside.clocks.items)
    (added ∙ ap (λ (m : List (ℕ × ℕ)). m ++ (c.args.address, c.args.value) ∷ []) memory)
    ∙ ap (λ (k : List Buses). script_with (c.args.self.now.memory ++ (c.args.address, c.args.value) ∷ []) k) clocks
