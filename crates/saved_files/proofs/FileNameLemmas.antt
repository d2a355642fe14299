-- The names of the files of a placement differ, and are short.
use Rattle.std.proofs.Common.{ℕ, ◌≡◌, ◌≢◌, ◌≤◌, ◌<◌, ◌+◌, ◌^◌, List, [], ◌∷◌, ◌++◌, length, Option, None, Some, refl, arith, sym, ap, ◌∙◌, suc, zero, slice_get, get_or, length-append, subst}
use Rattle.std.specs.Prelude.{codes, decimal}
use Rattle.std.proofs.lemmas.List.{append_cancel_left, append_cancel_right}
use Rattle.std.proofs.lemmas.Fmt.{decimal_injective, length-decimal-le}
use Rattle.std.proofs.lemmas.Option.{slice_get_within}
use Rattle.saved_files.specs.SavedFile.{SavedFile}
use Rattle.saved_files.specs.FileNames.{map_name, layout_name, image_name}
use Rattle.saved_files.specs.FilesOfAnswers.{image_files, placed_files}
use Rattle.saved_files.specs.Saving.{AreApart, AreShort}

-- the name of the file at a place
abbrev pub name_at : Option SavedFile → List ℕ
name_at None = []
name_at (Some x) = x.name

-- the letter after the point of a suffix
abbrev letter_of : List ℕ → ℕ
letter_of suffix = get_or suffix 1 0

map_is_no_layout : (out : List ℕ) → map_name out ≢ layout_name out
map_is_no_layout out e =
    let letters : 109 ≡ 108 = ap letter_of (append_cancel_left out (codes ".map") (codes ".lay") e) in omega (arith, letters)

map_is_no_image : (out : List ℕ) (i : ℕ) → map_name out ≢ image_name out i
map_is_no_image out i e =
    let letters : 109 ≡ 112 = ap letter_of (append_cancel_left out (codes ".map") (codes ".p" ++ (decimal i ++ codes ".bpnf")) e) in
    omega (arith, letters)

layout_is_no_image : (out : List ℕ) (i : ℕ) → layout_name out ≢ image_name out i
layout_is_no_image out i e =
    let letters : 108 ≡ 112 = ap letter_of (append_cancel_left out (codes ".lay") (codes ".p" ++ (decimal i ++ codes ".bpnf")) e) in
    omega (arith, letters)

-- a name of an image tells its number
same_image : (out : List ℕ) (i j : ℕ) → i < 2 ^ 64 → j < 2 ^ 64 → image_name out i ≡ image_name out j → i ≡ j
same_image out i j i_fits j_fits e =
    let after_out = append_cancel_left out (codes ".p" ++ (decimal i ++ codes ".bpnf")) (codes ".p" ++ (decimal j ++ codes ".bpnf")) e in
    let after_p = append_cancel_left (codes ".p") (decimal i ++ codes ".bpnf") (decimal j ++ codes ".bpnf") after_out in
    decimal_injective i j i_fits j_fits (append_cancel_right (decimal i) (decimal j) (codes ".bpnf") after_p)

name_of_image : (out : List ℕ) (number : ℕ) (images : List (List ℕ)) (i : ℕ) (x : SavedFile) →
    slice_get (image_files out number images) i ≡ Some x → x.name ≡ image_name out (number + i)
name_of_image out number [] i x at = cc
name_of_image out number (image ∷ images) zero x at =
    let e : number ≡ number + 0 = omega arith in sym (ap name_at at) ∙ ap (image_name out) e
name_of_image out number (image ∷ images) (suc i) x at =
    let e : number + 1 + i ≡ number + suc i = omega arith in name_of_image out (number + 1) images i x at ∙ ap (image_name out) e

-- there is a file for each image
pub length_image_files : (out : List ℕ) (number : ℕ) (images : List (List ℕ)) → length (image_files out number images) ≡ length images
length_image_files out number [] = refl
length_image_files out number (image ∷ images) = ap suc (length_image_files out (number + 1) images)

image_within : (out : List ℕ) (images : List (List ℕ)) (i : ℕ) (x : SavedFile) → slice_get (image_files out 0 images) i ≡ Some x
    → i < length images
image_within out images i x at =
    let within = slice_get_within (image_files out 0 images) i x at in
    let count = length_image_files out 0 images in
    omega (arith, within, count)

pub placed_apart : (out map layout : List ℕ) (images : List (List ℕ)) → length images ≤ 96 → AreApart (placed_files out map layout images)
placed_apart out map layout images few zero zero x y less a b = λ e. omega (arith, less)
placed_apart out map layout images few zero (suc zero) x y less a b = λ e. map_is_no_layout out (ap name_at a ∙ e ∙ sym (ap name_at b))
placed_apart out map layout images few zero (suc (suc j)) x y less a b =
    λ e. map_is_no_image out (0 + j) (ap name_at a ∙ e ∙ name_of_image out 0 images j y b)
placed_apart out map layout images few (suc i) zero x y less a b = λ e. omega (arith, less)
placed_apart out map layout images few (suc zero) (suc zero) x y less a b = λ e. omega (arith, less)
placed_apart out map layout images few (suc zero) (suc (suc j)) x y less a b =
    λ e. layout_is_no_image out (0 + j) (ap name_at a ∙ e ∙ name_of_image out 0 images j y b)
placed_apart out map layout images few (suc (suc i)) (suc zero) x y less a b = λ e. omega (arith, less)
placed_apart out map layout images few (suc (suc i)) (suc (suc j)) x y less a b = λ e.
    let m = image_within out images i x a in
    let n = image_within out images j y b in
    let same : 0 + i ≡ 0 + j = same_image out (0 + i) (0 + j) (omega (arith, m, few)) (omega (arith, n, few))
    (sym (name_of_image out 0 images i x a) ∙ e ∙ name_of_image out 0 images j y b) in
    omega (arith, same, less)

-- a name of an image with a number of at most three digits
pub image_name_short : (out : List ℕ) (number : ℕ) → number < 10 ^ 3 → length (image_name out number) ≤ length out + 10
image_name_short out number few =
    let digits = length-decimal-le 3 number (omega arith) few (omega (arith, few)) in
    let a = length-append out (codes ".p" ++ (decimal number ++ codes ".bpnf")) in
    let b = length-append (codes ".p") (decimal number ++ codes ".bpnf") in
    let d = length-append (decimal number) (codes ".bpnf") in
    omega (arith, digits, a, b, d)

pub placed_short : (out map layout : List ℕ) (images : List (List ℕ)) → length out ≤ 200 → length images ≤ 96
    → AreShort (placed_files out map layout images)
placed_short out map layout images short few zero x at =
    let size = length-append out (codes ".map") in
    let name : map_name out ≡ x.name = ap name_at at in
    subst (λ (n : List ℕ). length n ≤ 220) name (omega (arith, size, short))
placed_short out map layout images short few (suc zero) x at =
    let size = length-append out (codes ".lay") in
    let name : layout_name out ≡ x.name = ap name_at at in
    subst (λ (n : List ℕ). length n ≤ 220) name (omega (arith, size, short))
placed_short out map layout images short few (suc (suc i)) x at =
    let within = image_within out images i x at in
    let size = image_name_short out (0 + i) (omega (arith, within, few)) in
    subst (λ (n : List ℕ). length n ≤ 220) (sym (name_of_image out 0 images i x at)) (omega (arith, size, short))
