use Rattle.std.proofs.Common.{◌≡◌, ◌≤◌, ◌+◌, ◌++◌, length, map}
use Rattle.std.specs.Vec.Iter.{into_iter_items}
use Rattle.saved_files.specs.FilesOfAnswers.{image_files}
use Rattle.saved_files.proofs.placement_files.add_images.Given as goal

-- what was added, followed by the files of the images that are left, is the whole
abbrev pub invariant-loop-image : goal.invariant-loop-image
invariant-loop-image l = record {
  so_far : l.files.items ++ image_files l.out l.number
      (map (λ image. image.items) (into_iter_items l.image-iterator)) ≡ l.initial.files.items ++ image_files l.out 0
      (map (λ image. image.items) (into_iter_items l.initial.image-iterator));
  few : l.number + length (into_iter_items l.image-iterator) ≤ 96;
}
