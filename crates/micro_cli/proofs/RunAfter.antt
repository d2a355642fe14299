-- What is replied after saving is what the run of the files as they stand replies.
use Rattle.std.proofs.Common.{ℕ, ◌≡◌, ◌≤◌, ◌⊎◌, inl, inr, List, ◌++◌, length, Option, Some, IsTrue, refl}
use Rattle.io_base.specs.Shelf.{ShelfState}
use Rattle.field_decl.specs.Declaration.{Declaration}
use Rattle.bus_bench.specs.Chip.{chip_text}
use Rattle.replies.specs.ScriptStep.{script_limit}
use Rattle.replies.specs.declared.status.Status.{Status}
use Rattle.replies.specs.declared.status.Status.TheVariants as status
use Rattle.bench_answers.specs.RunOrder.{RunOrder}
use Rattle.bench_answers.specs.ReadingBack.{placed_line, ShiftOrRun, WordsBack, BackReply}
use Rattle.micro_cli.specs.OverFiles.{LayoutDeclares, HoldsWords}
use Rattle.micro_cli.specs.After.{AfterReply}
use Rattle.micro_cli.proofs.OverFilesSteps.{OrFails, words_over, had_words}

-- a refused input, as the run of these files tells it
pub record IsRefusedRun (files : List ℕ → Option (List ℕ)) (out script bytes : List ℕ) (clocks : ℕ) (s : Status) (text : List ℕ)
    : Type 0 where
  pub status_is : s ≡ status.Input
  pub reply : AfterReply files out script bytes clocks s text

-- the line `placed`, and the text of the run of these files
pub record IsDoneRun (files : List ℕ → Option (List ℕ)) (out script bytes : List ℕ) (clocks : ℕ) (s : Status) (text : List ℕ)
    : Type 0 where
  pub status_is : s ≡ status.Done
  pub run : List ℕ
  pub reply : AfterReply files out script bytes clocks s run
  pub text_is : text ≡ placed_line ++ run

-- the run of these files, or a read failed
abbrev pub RunsOrFails : (List ℕ → Option (List ℕ)) → List ℕ → List ℕ → List ℕ → ℕ → Status → List ℕ → Type 0
RunsOrFails files out script bytes clocks s text =
    IsRefusedRun files out script bytes clocks s text
    ⊎ IsDoneRun files out script bytes clocks s text
    ⊎ (s ≡ status.ShelfFault)

-- what is replied to words and a script is a run, whose text follows the line `placed`
script_after : (files : List ℕ → Option (List ℕ)) (order : RunOrder) (decl : Declaration) (words : List ℕ)
    (s : Status) (text : List ℕ) → length order.bytes ≤ script_limit
    → LayoutDeclares files order.out decl → HoldsWords files order.out decl words → WordsBack order decl words s text
    → RunsOrFails files order.out order.script order.bytes order.clocks s text
script_after files order decl words s text fits declared holds (inl refused) =
    inl (record {
      status_is = refused.reply.status_is;
      reply = inr (
        decl,
        declared,
        inr (words, holds, inl (inr (record { bytes = order.bytes; held = record { there = refl; fits = fits }; told = refused }))),
      );
    })
script_after files order decl words s text fits declared holds (inr (said, meant, answer)) = go answer
  where
    go : ShiftOrRun order.out decl words said order.clocks s text → RunsOrFails files order.out order.script order.bytes order.clocks s text
    go (inl masked) =
        inl (record {
          status_is = masked.reply.status_is;
          reply = inr (
            decl,
            declared,
            inr (
              words,
              holds,
              inr (said, record { bytes = order.bytes; held = record { there = refl; fits = fits }; meant = meant }, inl masked),
            ),
          );
        })
    go (inr run) =
        inr (inl (record {
          status_is = run.status_is;
          run = chip_text words decl said order.clocks;
          reply = inr (
            decl,
            declared,
            inr (
              words,
              holds,
              inr (
                said,
                record { bytes = order.bytes; held = record { there = refl; fits = fits }; meant = meant },
                inr (record {
                  status_is = run.status_is;
                  no_bad_shift = run.no_bad_shift;
                  text_is = refl;
                }),
              ),
            ),
          );
          text_is = run.text_is;
        }))

pub back_is_run : (order : RunOrder) (old new : ShelfState) (s : Status) (text : List ℕ)
    → length order.bytes ≤ script_limit → IsTrue old.tells
    → BackReply order old new s text → RunsOrFails old.file order.out order.script order.bytes order.clocks s text
back_is_run order old new s text fits tells (inl reply) =
    go (words_over (λ _. Some order.bytes) order.out order.script order.clocks old new s text tells reply)
  where
    go : OrFails old new (AfterReply old.file order.out order.script order.bytes order.clocks s text) s → RunsOrFails old.file order.out order.script order.bytes order.clocks s text
    go (inl refused) = inl (record { status_is = refused.0; reply = refused.1 })
    go (inr failed) = inr (inr failed.status_is)
back_is_run order old new s text fits tells (inr (decl, words, has, answer)) =
    let gives = had_words order.out decl words old new tells has in
    script_after old.file order decl words s text fits gives.declared gives.holds answer
