use Rattle.std.proofs.Common.{subst}
use Rattle.field_decl.specs.Decls.{declaration_of}
use Rattle.flow_sim.specs.Runs.{IsCause}
use Rattle.flow_sim.specs.declared.run_fault.RunFault.{RunFault}
use Rattle.bus_bench.specs.BadShift.{IsFirstBadShift}
use Rattle.bench_answers.specs.Running.{IsRun}
use Rattle.bench_answers.proofs.Replying.{trace_done, trace_failed, trace_wants}
use Rattle.bench_answers.proofs.traces.write_trace.Goals as goal

pub returns-in-Ok-clause-ends : goal.returns-in-Ok-clause-ends
returns-in-Ok-clause-ends g c =
    trace_done (declaration_of c.args.saved.now.decl) c.args.saved.now.words c.args.script.now c.args.clocks
    (g.K.Sink.state c.args.out.now) (g.K.Sink.state c.run.new.sink) c.requires.no_bad_shift c.in-Ok.ensures.ok

pub returns-in-Err-Failed-clause-ends : goal.returns-in-Err-Failed-clause-ends
returns-in-Err-Failed-clause-ends g c =
    let P : RunFault → Type 0 =
    λ fault. IsCause (IsFirstBadShift c.args.saved.now.words (declaration_of c.args.saved.now.decl)) (g.K.Sink.state c.args.out.now)
    (g.K.Sink.state c.run.new.sink) fault in
    trace_failed (declaration_of c.args.saved.now.decl) c.args.saved.now.words c.args.script.now c.args.clocks
    (g.K.Sink.state c.args.out.now) (g.K.Sink.state c.run.new.sink) c.requires.no_bad_shift
    (subst P c.in-Err-Failed.field-0-is c.in-Err-Failed.ensures.cause) c.in-Err-Failed.ensures.err

pub returns-in-Err-OutOfMemory-clause-ends : goal.returns-in-Err-OutOfMemory-clause-ends
returns-in-Err-OutOfMemory-clause-ends g c =
    let P : RunFault → Type 0 =
    λ fault. IsCause (IsFirstBadShift c.args.saved.now.words (declaration_of c.args.saved.now.decl)) (g.K.Sink.state c.args.out.now)
    (g.K.Sink.state c.run.new.sink) fault in
    trace_wants (IsRun (declaration_of c.args.saved.now.decl) c.args.saved.now.words c.args.script.now c.args.clocks)
    (g.K.Sink.state c.args.out.now) (g.K.Sink.state c.run.new.sink) (g.K.Sink.state c.say_no_memory.new.out) c.say_no_memory.result
    (subst P c.in-Err-OutOfMemory.field-0-is c.in-Err-OutOfMemory.ensures.cause) c.say_no_memory.ensures.says
