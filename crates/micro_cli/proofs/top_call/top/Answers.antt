use Rattle.std.proofs.Common.{map}
use Rattle.std.specs.Prelude.{string_bytes}
use Rattle.micro_cli.specs.Command.{command_of}
use Rattle.micro_cli.proofs.top_call.top.Goals as goal

pub returns-clause-images : goal.returns-clause-images
returns-clause-images g c =
    c.answers_keep_the_promises.ensures.images (command_of (map string_bytes c.args.words.now)) (g.S.Shelf.state c.args.shelf.now)
    (g.S.Shelf.state c.answer-status.new.shelf)
    (g.K.Sink.state c.args.out.now) (g.K.Sink.state c.answer-status.new.out) c.answer-status.result c.answer-status.ensures.ends

pub returns-clause-read_back : goal.returns-clause-read_back
returns-clause-read_back g c =
    c.answers_keep_the_promises.ensures.read_back (command_of (map string_bytes c.args.words.now)) (g.S.Shelf.state c.args.shelf.now)
    (g.S.Shelf.state c.answer-status.new.shelf)
    (g.K.Sink.state c.args.out.now) (g.K.Sink.state c.answer-status.new.out) c.answer-status.result c.answer-status.ensures.ends

pub returns-clause-refutation : goal.returns-clause-refutation
returns-clause-refutation g c =
    c.answers_keep_the_promises.ensures.refutation (command_of (map string_bytes c.args.words.now)) (g.S.Shelf.state c.args.shelf.now)
    (g.S.Shelf.state c.answer-status.new.shelf)
    (g.K.Sink.state c.args.out.now) (g.K.Sink.state c.answer-status.new.out) c.answer-status.result c.answer-status.ensures.ends

pub returns-clause-checking : goal.returns-clause-checking
returns-clause-checking g c =
    c.answers_keep_the_promises.ensures.checking (command_of (map string_bytes c.args.words.now)) (g.S.Shelf.state c.args.shelf.now)
    (g.S.Shelf.state c.answer-status.new.shelf)
    (g.K.Sink.state c.args.out.now) (g.K.Sink.state c.answer-status.new.out) c.answer-status.result c.answer-status.ensures.ends

pub returns-clause-budget : goal.returns-clause-budget
returns-clause-budget g c =
    c.answers_keep_the_promises.ensures.budget (command_of (map string_bytes c.args.words.now)) (g.S.Shelf.state c.args.shelf.now)
    (g.S.Shelf.state c.answer-status.new.shelf)
    (g.K.Sink.state c.args.out.now) (g.K.Sink.state c.answer-status.new.out) c.answer-status.result c.answer-status.ensures.ends

pub returns-clause-decides : goal.returns-clause-decides
returns-clause-decides g c =
    c.answers_keep_the_promises.ensures.decides (command_of (map string_bytes c.args.words.now)) (g.S.Shelf.state c.args.shelf.now)
    (g.S.Shelf.state c.answer-status.new.shelf)
    (g.K.Sink.state c.args.out.now) (g.K.Sink.state c.answer-status.new.out) c.answer-status.result c.answer-status.ensures.ends

pub returns-clause-acceptance : goal.returns-clause-acceptance
returns-clause-acceptance g c =
    c.answers_keep_the_promises.ensures.acceptance (command_of (map string_bytes c.args.words.now)) (g.S.Shelf.state c.args.shelf.now)
    (g.S.Shelf.state c.answer-status.new.shelf)
    (g.K.Sink.state c.args.out.now) (g.K.Sink.state c.answer-status.new.out) c.answer-status.result c.answer-status.ensures.ends

pub returns-clause-nothing : goal.returns-clause-nothing
returns-clause-nothing g c =
    c.answers_keep_the_promises.ensures.nothing (command_of (map string_bytes c.args.words.now)) (g.S.Shelf.state c.args.shelf.now)
    (g.S.Shelf.state c.answer-status.new.shelf)
    (g.K.Sink.state c.args.out.now) (g.K.Sink.state c.answer-status.new.out)
    c.answer-status.result c.answer-status.ensures.keeps c.answer-status.ensures.ends

pub returns-clause-replies : goal.returns-clause-replies
returns-clause-replies g c =
    c.answers_keep_the_promises.ensures.replies (command_of (map string_bytes c.args.words.now)) (g.S.Shelf.state c.args.shelf.now)
    (g.S.Shelf.state c.answer-status.new.shelf)
    (g.K.Sink.state c.args.out.now) (g.K.Sink.state c.answer-status.new.out) c.answer-status.result c.answer-status.ensures.ends

pub returns-clause-refuses : goal.returns-clause-refuses
returns-clause-refuses g c =
    c.answers_keep_the_promises.ensures.refuses (command_of (map string_bytes c.args.words.now)) (g.S.Shelf.state c.args.shelf.now)
    (g.S.Shelf.state c.answer-status.new.shelf)
    (g.K.Sink.state c.args.out.now) (g.K.Sink.state c.answer-status.new.out) c.answer-status.result c.answer-status.ensures.ends

pub returns-clause-prints : goal.returns-clause-prints
returns-clause-prints g c =
    c.answers_keep_the_promises.ensures.prints (command_of (map string_bytes c.args.words.now)) (g.S.Shelf.state c.args.shelf.now)
    (g.S.Shelf.state c.answer-status.new.shelf)
    (g.K.Sink.state c.args.out.now) (g.K.Sink.state c.answer-status.new.out) c.answer-status.result c.answer-status.ensures.ends

pub returns-clause-leaves : goal.returns-clause-leaves
returns-clause-leaves g c =
    c.answers_keep_the_promises.ensures.leaves (command_of (map string_bytes c.args.words.now)) (g.S.Shelf.state c.args.shelf.now)
    (g.S.Shelf.state c.answer-status.new.shelf)
    (g.K.Sink.state c.args.out.now) (g.K.Sink.state c.answer-status.new.out) c.answer-status.result c.answer-status.ensures.ends

pub returns-clause-no_part : goal.returns-clause-no_part
returns-clause-no_part g c =
    c.answers_keep_the_promises.ensures.no_part (command_of (map string_bytes c.args.words.now)) (g.S.Shelf.state c.args.shelf.now)
    (g.S.Shelf.state c.answer-status.new.shelf)
    (g.K.Sink.state c.args.out.now) (g.K.Sink.state c.answer-status.new.out) c.answer-status.result c.answer-status.ensures.ends

pub returns-clause-once : goal.returns-clause-once
returns-clause-once g c =
    c.answers_keep_the_promises.ensures.once (command_of (map string_bytes c.args.words.now)) (g.S.Shelf.state c.args.shelf.now)
    (g.S.Shelf.state c.answer-status.new.shelf)
    (g.K.Sink.state c.args.out.now) (g.K.Sink.state c.answer-status.new.out) c.answer-status.result c.answer-status.ensures.ends
