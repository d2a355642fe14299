-- A pool of literals cut at its starts: the piece at a place, and one piece more.

use Rattle.std.proofs.Common.{◌≡◌, ℕ, ℤ, suc, zero, ◌+◌, ◌-◌, ◌<◌, ◌≤◌, ◌^◌, List, [], ◌∷◌, ◌++◌, length, take, drop, get_or, Some, refl, sym, ap, subst, ◌∙◌, arith}
use Rattle.std.proofs.lemmas.List.{length-append, length-drop, length_push, take_all, drop_at, drop-append-le, take-append-le}
use Rattle.std.proofs.lemmas.List.Elements.{All-push}
use Rattle.std.proofs.lemmas.Option.{get_or_from_slice_get}
use Rattle.std.specs.Prelude.{slice_range, slice_get, slice_index, All}
use Rattle.clause_base.specs.Clauses.{IsClause}
use Rattle.clause_base.specs.Pool.{pieces, AreStarts, ArePool}

-- there is one start more than there are pieces
pub length-pieces : (lits : List ℤ) (end : ℕ) (starts : List ℕ) → AreStarts end starts → length (pieces lits starts) + 1 ≡ length starts
length-pieces lits end [] h = absurd h
length-pieces lits end (s ∷ []) h = omega arith
length-pieces lits end (s ∷ (t ∷ rest)) h = omega (arith, length-pieces lits end (t ∷ rest) h.2)

-- two starts that follow each other
pub starts-at : (end : ℕ) (starts : List ℕ) (i : ℕ) → AreStarts end starts → suc i < length starts
    → (get_or starts i 0 ≤ get_or starts (suc i) 0) × (get_or starts (suc i) 0 ≤ end)
starts-at end [] i h lt = absurd h
starts-at end (s ∷ []) i h lt = absurd (omega arith)
starts-at end (s ∷ (t ∷ rest)) zero h lt = (h.0, h.1)
starts-at end (s ∷ (t ∷ rest)) (suc i) h lt = starts-at end (t ∷ rest) i h.2 (omega arith)

-- the piece at a place
pub pieces-at : (lits : List ℤ) (starts : List ℕ) (i : ℕ) → suc i < length starts
    → slice_get (pieces lits starts) i ≡ Some (slice_range lits (get_or starts i 0) (get_or starts (suc i) 0))
pieces-at lits [] i lt = absurd (omega arith)
pieces-at lits (s ∷ []) i lt = absurd (omega arith)
pieces-at lits (s ∷ (t ∷ rest)) zero lt = refl
pieces-at lits (s ∷ (t ∷ rest)) (suc i) lt = pieces-at lits (t ∷ rest) i (omega arith)

-- one start more
pub AreStarts-push : (end more : ℕ) (starts : List ℕ) → end ≤ more → AreStarts end starts → AreStarts more (starts ++ more ∷ [])
AreStarts-push end more [] le h = absurd h
AreStarts-push end more (s ∷ []) le h = (omega arith, omega arith, refl)
AreStarts-push end more (s ∷ (t ∷ rest)) le h = (h.0, omega (arith, h.1), AreStarts-push end more (t ∷ rest) le h.2)

-- a piece of the front of a pool
range-front : (lits more : List ℤ) (s t : ℕ) → s ≤ t → t ≤ length lits → slice_range (lits ++ more) s t ≡ slice_range lits s t
range-front lits more s t st within =
    let le : s ≤ length lits = omega arith in
    let fits : t - s ≤ length (drop s lits) = omega (arith, length-drop s lits) in
    ap (take (t - s)) (drop-append-le s lits more le) ∙ take-append-le (t - s) (drop s lits) more fits

-- one piece more
pub pieces-push : (lits clause : List ℤ) (starts : List ℕ) → AreStarts (length lits) starts
    → pieces (lits ++ clause) (starts ++ (length lits + length clause) ∷ []) ≡ pieces lits starts ++ clause ∷ []
pieces-push lits clause [] h = absurd h
pieces-push lits clause (s ∷ []) h =
    let whole : slice_range (lits ++ clause) s (length lits + length clause) ≡ clause =
    ap (take (length lits + length clause - s)) (drop_at lits clause s (sym h))
    ∙ take_all (length lits + length clause - s) clause (omega arith) in
    ap (λ c. c ∷ []) whole
pieces-push lits clause (s ∷ (t ∷ rest)) h = λ j. range-front lits clause s t h.0 h.1 j ∷ pieces-push lits clause (t ∷ rest) h.2 j

-- a piece that lies within the pool
pub record PieceAt (lits : List ℤ) (starts : List ℕ) (n : ℕ) : Type 0 where
  pub within : n + 1 < length starts
  pub ordered : slice_index starts n ≤ slice_index starts (n + 1)
  pub ends : slice_index starts (n + 1) ≤ length lits
  pub there : slice_get (pieces lits starts) n ≡ Some (slice_range lits (slice_index starts n) (slice_index starts (n + 1)))

-- the piece at a place lies within the pool
pub piece-facts : (lits : List ℤ) (starts : List ℕ) (n : ℕ) → AreStarts (length lits) starts → n < length (pieces lits starts)
    → PieceAt lits starts n
piece-facts lits starts n h lt =
    let within : suc n < length starts = omega (arith, length-pieces lits (length lits) starts h) in
    let next : suc n ≡ n + 1 = omega arith in
    let two = starts-at (length lits) starts n h within in
    record {
      within = omega arith;
      ordered = subst (λ m. slice_index starts n ≤ slice_index starts m) next two.0;
      ends = subst (λ m. slice_index starts m ≤ length lits) next two.1;
      there = pieces-at lits starts n within ∙ ap (λ m. Some (slice_range lits (slice_index starts n) (slice_index starts m))) next;
    }

-- the piece at a place is a clause
pub clause-valid : (vars : ℕ) (lits : List ℤ) (starts : List ℕ) (n : ℕ) (c : List ℤ) → All (IsClause vars) (pieces lits starts)
    → n < length (pieces lits starts) → slice_get (pieces lits starts) n ≡ Some c → IsClause vars c
clause-valid vars lits starts n c valid lt there =
    subst (IsClause vars) (get_or_from_slice_get (pieces lits starts) n c c there) (valid n c lt)

-- one clause more
pub ArePool-push : (vars : ℕ) (lits : List ℤ) (starts : List ℕ) (clause : List ℤ) → ArePool vars lits starts → IsClause vars clause
    → length starts < 2 ^ 32 → ArePool vars (lits ++ clause) (starts ++ (length lits + length clause) ∷ [])
ArePool-push vars lits starts clause k valid few =
    let end : length (lits ++ clause) ≡ length lits + length clause = length-append lits clause in
    record {
      few_vars = k.few_vars;
      few = omega (arith, length_push starts (length lits + length clause), few);
      in_order = subst (λ n. AreStarts n (starts ++ (length lits + length clause) ∷ [])) (sym end)
          (AreStarts-push (length lits) (length lits + length clause) starts (omega arith) k.in_order);
      valid = subst (All (IsClause vars)) (sym (pieces-push lits clause starts k.in_order))
          (All-push (IsClause vars) (pieces lits starts) clause k.valid valid);
    }
