-- How a load begins and goes on, piece by piece.
use Rattle.std.proofs.Common.{ℕ, ◌≡◌, ◌≤◌, ◌+◌, ◌++◌, List, [], length, take, drop, Option, Some, None, Ok, IsTrue, refl, arith, sym, ap, ◌∙◌, length-append, subst}
use Rattle.std.proofs.Math.Seq.{take-add}
use Rattle.std.proofs.lemmas.List.{length-take-le}
use Rattle.io_base.specs.Causes.{counted}
use Rattle.io_base.specs.Shelf.{ShelfState, GoesOn, Reads, CountsRead, CountsNoChange}

-- the file begins with these bytes; where it is not there, none were read
abbrev pub Begins : Option (List ℕ) → List ℕ → Type 0
Begins None bytes = bytes ≡ []
Begins (Some file) bytes = take (length bytes) file ≡ bytes

-- a load that began at the old state has read these bytes so far
pub record IsLoading (old now : ShelfState) (name bytes : List ℕ) : Type 0 where
  pub goes_on : GoesOn old now
  pub same : now.file ≡ old.file
  pub taken : now.taken ≡ counted old.taken (length bytes)
  pub absent : now.absent ≡ old.absent
  pub last_failed : now.last_failed ≡ old.last_failed
  pub faults : now.faults ≡ old.faults
  pub no_change : CountsNoChange old now
  pub begins : IsTrue old.tells → Begins (old.file name) bytes

-- every file begins with no bytes
begins_empty : (file : Option (List ℕ)) → Begins file []
begins_empty None = refl
begins_empty (Some bytes) = refl

-- counting nothing leaves a count
counted-zero : (n : ℕ) → n ≡ counted n 0
counted-zero n = omega arith

-- two counts in a row are one count of the sum
counted-counted : (n a b : ℕ) → counted (counted n a) b ≡ counted n (a + b)
counted-counted n a b = omega arith

-- before the first read
pub loading_starts : (shelf : ShelfState) (name bytes : List ℕ) → bytes ≡ [] → IsLoading shelf shelf name bytes
loading_starts shelf name bytes is_empty =
    let P : List ℕ → Type 0 = λ b. IsLoading shelf shelf name b in
    subst P (sym is_empty) (record {
      goes_on = record {
        later = omega arith;
        taken = omega arith;
        absent = omega arith;
        creates = omega arith;
        appends = omega arith;
        tells = refl;
        honest = refl;
      };
      same = refl;
      taken = counted-zero shelf.taken;
      absent = refl;
      last_failed = refl;
      faults = refl;
      no_change = record { creates = refl; appends = refl };
      begins = λ _. begins_empty (shelf.file name);
    })

-- a read at the end of what was read so far gives the next bytes of the file
begins_more : (file : Option (List ℕ)) (bytes buf : List ℕ) (n : ℕ) →
    n ≤ length buf → Begins file bytes → Reads file (length bytes) (Some n) buf → Begins file (bytes ++ take n buf)
begins_more None bytes buf n within begins reads = absurd reads
begins_more (Some file) bytes buf n within begins reads =
    let size : length (bytes ++ take n buf) ≡ length bytes + n =
    omega (arith, length-append bytes (take n buf), length-take-le n buf within) in
    rw (size, take-add) (ap (λ (front : List ℕ). front ++ take n (drop (length bytes) file)) begins
    ∙ ap (λ (back : List ℕ). bytes ++ back) (sym reads.given))

-- after one more read
pub loading_goes_on : (old now new : ShelfState) (name bytes buf more : List ℕ) (at n : ℕ) → at ≡ length bytes →
    IsLoading old now name bytes → GoesOn now new → new.file ≡ now.file → CountsRead now new (Ok (Some n)) →
    CountsNoChange now new → new.last_failed ≡ now.last_failed → new.faults ≡ now.faults → n ≤ length buf →
    (IsTrue now.tells → Reads (now.file name) at (Some n) buf) →
    more ≡ bytes ++ take n buf → IsLoading old new name more
loading_goes_on old now new name bytes buf more at n here so_far goes_on same counts no_change last calm within reads grown =
    let P : List ℕ → Type 0 = λ b. IsLoading old new name b in
    let size : length (bytes ++ take n buf) ≡ length bytes + n =
    omega (arith, length-append bytes (take n buf), length-take-le n buf within) in
    subst P (sym grown) (record {
      goes_on = record {
        later = omega arith;
        taken = omega (arith, so_far.goes_on.taken, goes_on.taken);
        absent = omega (arith, so_far.goes_on.absent, goes_on.absent);
        creates = omega (arith, so_far.goes_on.creates, goes_on.creates);
        appends = omega (arith, so_far.goes_on.appends, goes_on.appends);
        tells = cc;
        honest = cc;
      };
      same = cc;
      taken = counts.0 ∙ ap (λ (t : ℕ). counted t n) so_far.taken ∙ counted-counted old.taken (length bytes) n
          ∙ ap (λ (k : ℕ). counted old.taken k) (sym size);
      absent = cc;
      last_failed = cc;
      faults = cc;
      no_change = record {
        creates = no_change.creates ∙ so_far.no_change.creates;
        appends = no_change.appends
            ∙ so_far.no_change.appends;
      };
      begins = λ t.
          let Q : (List ℕ → Option (List ℕ)) → Type 0 = λ f. Reads (f name) (length bytes) (Some n) buf in
          let R : ℕ → Type 0 = λ k. Reads (now.file name) k (Some n) buf in
          begins_more (old.file name) bytes buf n within (so_far.begins t)
          (subst Q so_far.same (subst R here (reads (so_far.goes_on.tells ∙ t))));
    })
