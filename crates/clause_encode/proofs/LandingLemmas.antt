-- The clause of a place among those that keep the labels from where a trap outcome lands.
use Rattle.std.proofs.Common.{◌≡◌, ◌≢◌, ℕ, ◌+◌, ◌-◌, ◌*◌, ◌/◌, ◌%◌, ◌<◌, ◌≤◌, length, sym, ap, subst, ◌∙◌, arith}
use Rattle.std.specs.Prelude.{slice_get}
use Rattle.std.proofs.lemmas.Nat.{div-add-mod', mod_below, div_below}
use Rattle.mcu_jumps.specs.declared.kinds.Kind.{Kind}
use Rattle.placement_clauses.specs.Upto.{upto}
use Rattle.placement_clauses.specs.Clauses.{trap_of, trap_pair}
use Rattle.placement_clauses.proofs.UptoLemmas.{slice_get-upto}
use Rattle.placement_clauses.proofs.CountLemmas.{length-free_landing, trap_of-other}
use Rattle.placement_clauses.proofs.NumberedLemmas.{length-before_label, length-after_label}

-- a place among the clauses of all labels but x, w for each: it is one of label z
pub record IsLanding (n : ℕ) (k : Kind) (x e o w place z : ℕ) : Type 0 where
  pub label_in : z < n
  pub apart : x ≢ z
  pub place_in : place % w < length (trap_pair n k x e o z)
  pub there : slice_get (upto n (trap_of n k x e o)) place ≡ slice_get (trap_pair n k x e o z) (place % w)

-- the blocks before that of z are as long as the place is deep
landing-at : (n : ℕ) (k : Kind) (x e o w place z : ℕ) → ((z : ℕ) → length (trap_pair n k x e o z) ≡ w) → 0 < w → z < n → z ≢ x
    → length (upto z (trap_of n k x e o)) + place % w ≡ place → IsLanding n k x e o w place z
landing-at n k x e o w place z each some z_in ne front =
    let below : place % w < w = mod_below place w some in
    let other = trap_of-other n k x e o z ne in
    let long : length (trap_of n k x e o z) ≡ w = ap length other ∙ each z in
    let pair : length (trap_pair n k x e o z) ≡ w = each z in
    record {
      label_in = z_in;
      apart = λ (same : x ≡ z). ne (sym same);
      place_in = omega arith;
      there = ap (slice_get (upto n (trap_of n k x e o))) (sym front)
          ∙ slice_get-upto n (trap_of n k x e o) z (place % w) z_in (omega arith) ∙ ap (λ l. slice_get l (place % w)) other;
    }

-- so many labels have clauses before the place
pub landing-below : (n : ℕ) (k : Kind) (x e o w place : ℕ) → ((z : ℕ) → length (trap_pair n k x e o z) ≡ w) → 0 < w → x < n
    → place < length (upto n (trap_of n k x e o)) → place / w < n - 1
landing-below n k x e o w place each some x_in place_in =
    div_below place w (n - 1) some (subst (λ (m : ℕ). place < m) (length-free_landing n k x e o w each x_in) place_in)

-- a label before x
pub landing-before : (n : ℕ) (k : Kind) (x e o w place : ℕ) → ((z : ℕ) → length (trap_pair n k x e o z) ≡ w) → 0 < w → x < n
    → place / w < x → IsLanding n k x e o w place (place / w)
landing-before n k x e o w place each some x_in before =
    let split : place / w * w + place % w ≡ place = div-add-mod' place w in
    let front : length (upto (place / w) (trap_of n k x e o)) ≡ place / w * w =
    length-before_label n k x e o w (place / w) each (omega arith) in
    landing-at n k x e o w place (place / w) each some (omega arith) (λ (same : place / w ≡ x). omega arith) (omega arith)

-- a label after x
pub landing-after : (n : ℕ) (k : Kind) (x e o w place : ℕ) → ((z : ℕ) → length (trap_pair n k x e o z) ≡ w) → 0 < w → x < n
    → place < length (upto n (trap_of n k x e o)) → x ≤ place / w → IsLanding n k x e o w place (place / w + 1)
landing-after n k x e o w place each some x_in place_in after =
    let below : place / w < n - 1 = landing-below n k x e o w place each some x_in place_in in
    let split : place / w * w + place % w ≡ place = div-add-mod' place w in
    let front : length (upto (place / w + 1) (trap_of n k x e o)) ≡ place / w * w =
    length-after_label n k x e o w (place / w) each after in
    landing-at n k x e o w place (place / w + 1) each some (omega arith) (λ (same : place / w + 1 ≡ x). omega arith) (omega arith)
