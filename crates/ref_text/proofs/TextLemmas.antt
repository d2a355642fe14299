-- What begins with a longer text begins with its front.
use Rattle.std.proofs.Common.{◌≡◌, ℕ, ◌≤◌, List, ◌++◌, length, take, sym, ap, subst, ◌∙◌, refl, arith}
use Rattle.std.proofs.lemmas.List.{take_at, take-take, length-append}
use Rattle.ref_text.specs.Begun.{Begins}

pub Begins-front : (old more mid new : List ℕ) → mid ≡ old ++ more → Begins mid new → Begins old new
Begins-front old more mid new e h =
    let b : Begins (old ++ more) new = subst (λ m. Begins m new) e h in
    let le : length old ≤ length (old ++ more) = omega (arith, length-append old more) in
    sym (take-take (length old) (length (old ++ more)) new le) ∙ ap (take (length old)) b ∙ take_at old more (length old) refl
