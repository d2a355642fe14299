use Rattle.field_decl.specs.Decls.{declaration_of}
use Rattle.bus_bench.proofs.Addresses.{UnmaskedBelow}
use Rattle.bus_bench.proofs.shift_test.bad_shift.Given as goal

-- no cell so far shifts with a mask
abbrev pub invariant-loop-address : goal.invariant-loop-address
invariant-loop-address l = UnmaskedBelow l.words (declaration_of l.decl) l.address
