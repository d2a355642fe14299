use Rattle.std.proofs.Common.{rules, ◌≡◌, map, sym, subst, arith, ◌≤◌, length}
use Rattle.std.proofs.lemmas.List.{length-map}
use Rattle.saved_files.specs.FilesOfAnswers.{placed_files}
use Rattle.saved_files.specs.Saving.{AreApart, AreShort}
use Rattle.saved_files.proofs.FileNameLemmas.{placed_apart, placed_short}
use Rattle.saved_files.proofs.placement_files.placed_files.Goals as goal

pub returns-clause-apart : goal.returns-clause-apart
returns-clause-apart c =
    let images = map (λ image. image.items) c.args.images.items in
    let is : c.add_images.new.files.items ≡ placed_files c.args.out.now c.args.map_text.items c.args.layout_text.items images =
    search rules in
    let few : length images ≤ 96 = omega (arith, length-map c.args.images.items (λ image. image.items), c.requires.few) in
    subst AreApart (sym is) (placed_apart c.args.out.now c.args.map_text.items c.args.layout_text.items images few)

pub returns-clause-short : goal.returns-clause-short
returns-clause-short c =
    let images = map (λ image. image.items) c.args.images.items in
    let is : c.add_images.new.files.items ≡ placed_files c.args.out.now c.args.map_text.items c.args.layout_text.items images =
    search rules in
    let few : length images ≤ 96 = omega (arith, length-map c.args.images.items (λ image. image.items), c.requires.few) in
    subst AreShort (sym is) (placed_short c.args.out.now c.args.map_text.items c.args.layout_text.items images c.requires.out_short few)
