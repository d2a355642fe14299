use Rattle.std.proofs.Common.{rules, ℕ, ◌≡◌, ◌<◌, ◌+◌, ◌++◌, ◌∷◌, [], List, length, take, get_or, arith, sym, ap, ◌∙◌, subst, append_assoc, zero, suc}
use Rattle.std.proofs.lemmas.List.{append-nil}
use Rattle.std.specs.Prelude.{flat_map, decimal}
use Rattle.saved_files.specs.OneFile.{IsWritten}
use Rattle.saving_tests.proofs.files.growing.save_numbers.Goals as goal

abbrev line_of : ℕ → List ℕ
line_of number = decimal number ++ 10 ∷ []

-- the lines of one number more
lines_more : (numbers : List ℕ) (i : ℕ) → i < length numbers →
    flat_map line_of (take i numbers) ++ line_of (get_or numbers i 0) ≡ flat_map line_of (take (suc i) numbers)
lines_more [] i less = let none : ⊥ = omega (arith, less) in absurd none
lines_more (number ∷ numbers) zero less = sym (append-nil (line_of number))
lines_more (number ∷ numbers) (suc i) less =
    append_assoc (line_of number) (flat_map line_of (take i numbers)) (line_of (get_or numbers i 0))
    ∙ ap (λ (rest : List ℕ). line_of number ++ rest) (lines_more numbers i (omega (arith, less)))

pub loop-number-preserved : goal.loop-number-preserved
loop-number-preserved g c =
    let numbers = c.args.numbers.now in
    let so_far = flat_map line_of (take c.loop-number.number-index numbers) in
    let line : c.deref.result.now ≡ line_of (get_or numbers c.loop-number.number-index 0) = search rules in
    let next : suc c.loop-number.number-index ≡ c.loop-number.number-index + 1 = omega arith in
    let grown : so_far ++ c.deref.result.now ≡ flat_map line_of (take (c.loop-number.number-index + 1) numbers) =
    ap (λ (more : List ℕ). so_far ++ more) line
    ∙ lines_more numbers c.loop-number.number-index c.loop-number-test.true
    ∙ ap (λ (count : ℕ). flat_map line_of (take count numbers)) next in
    let P : List ℕ → Type 0 =
    λ text. IsWritten (g.S.Shelf.state c.args.shelf.now) (g.S.Shelf.state c.grow_file.new.shelf) c.args.name.now text in
    subst P grown (c.in-Ok-grow_file.ensures.ok (g.S.Shelf.state c.args.shelf.now) so_far c.loop-number.invariant)
