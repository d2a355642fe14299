-- The bytes that were taken of a file.
use Rattle.std.proofs.Common.{◌≡◌, ℕ, zero, suc, ◌+◌, ◌-◌, ◌<◌, ◌≤◌, Bool, true, false, List, [], ◌∷◌, ◌++◌, length, length-append, take, take-take, take_all, Option, Some, None, Ok, IsTrue, refl, sym, ap, subst, ◌∙◌, ◌⊎◌, inl, inr, arith}
use Rattle.std.specs.Prelude.{min}
use Rattle.std.proofs.lemmas.Bool.{cases_lt}
use Rattle.std.proofs.lemmas.List.{length-take-le}
use Rattle.clause_base.specs.Clauses.{Clauses}
use Rattle.io_base.specs.Causes.{end_of_count, counted}
use Rattle.io_base.specs.Shelf.{ShelfState, GoesOn, Reads, CountsRead, CountsTaken, CountsNoChange}
use Rattle.io_base.proofs.LoadSteps.{Begins, IsLoading, loading_starts, loading_goes_on}
use Rattle.refute_check.specs.Judging.{Spot, at_start, Goes}
use Rattle.refute_check.specs.Taken.{HasTaken, IsFront, HasGiven, IsTaken}
use Rattle.refute_check.proofs.JudgingLemmas.{goes_nowhere, goes_then}

pub length-take-min : (n : ℕ) (xs : List ℕ) → length (take n xs) ≤ n
length-take-min zero xs = omega arith
length-take-min (suc n) [] = omega arith
length-take-min (suc n) (x ∷ xs) = omega (arith, length-take-min n xs)

take_none : (n : ℕ) → take {A = ℕ} n [] ≡ []
take_none zero = refl
take_none (suc n) = refl

-- the count of bytes rose by more than the limit, or stands at its end
took_more : (before now n limit : ℕ) → now ≡ counted before n → limit < n → (limit < now - before) ⊎ (end_of_count ≤ now)
took_more before now n limit is lt = elim (cases_lt (before + n) end_of_count) [
  | inl below ↦ inl (omega (arith, is, below, lt))
  | inr past ↦ inr (omega (arith, is, past))
]

-- the front of what a file begins with
cut_front : (file : Option (List ℕ)) (bytes : List ℕ) (n : ℕ) → Begins file bytes → IsFront file (take n bytes)
cut_front None bytes n begins = ap (take n) begins ∙ take_none n
cut_front (Some file) bytes n begins = elim (cases_lt n (length bytes)) [
  | inl lt ↦
      let size : length (take n bytes) ≡ n = length-take-le n bytes (omega (arith, lt)) in
      ap (λ (k : ℕ). take k file) size ∙ sym (take-take n (length bytes) file (omega (arith, lt))) ∙ ap (take n) begins
  | inr le ↦
      let whole : take n bytes ≡ bytes = take_all n bytes le in
      subst (λ (bs : List ℕ). take (length bs) file ≡ bs) (sym whole) begins
]

pub front_of : (file : Option (List ℕ)) (bytes : List ℕ) → Begins file bytes → IsFront file bytes
front_of None bytes begins = begins
front_of (Some file) bytes begins = begins

-- what is within the limit of a piece behind other bytes
within_limit : (bytes buf : List ℕ) (at limit n within : ℕ) → at ≡ length bytes → at ≤ limit → within ≡ min (limit - at) n →
    bytes ++ take within buf ≡ take limit (bytes ++ take n buf)
within_limit [] buf at limit n within here le is = elim (cases_lt limit n) [
  | inl lt ↦ ap (λ (k : ℕ). take k buf) (omega arith) ∙ sym (take-take limit n buf (omega (arith, lt)))
  | inr more ↦ ap (λ (k : ℕ). take k buf) (omega arith) ∙ sym (take_all limit (take n buf) (omega (arith, length-take-min n buf, more)))
]
within_limit (b ∷ bytes) buf at zero n within here le is = absurd (omega arith)
within_limit (b ∷ bytes) buf at (suc limit) n within here le is =
    ap (λ (bs : List ℕ). b ∷ bs) (within_limit bytes buf (length bytes) limit n within refl (omega arith) (omega arith))

-- how far a file was read and judged: so many of its bytes, and no line of them is refused
pub record IsJudged (list : Clauses) (old now : ShelfState) (name : List ℕ) (before at : ℕ) (spot : Spot) (given : ℕ) : Type 0 where
  pub bytes : List ℕ
  pub here : at ≡ length bytes
  pub loading : IsLoading old now name bytes
  pub goes : Goes list at_start before bytes spot given

-- before the first read
pub judging_starts : (list : Clauses) (shelf : ShelfState) (name : List ℕ) (given : ℕ) (spot : Spot) → spot ≡ at_start →
    IsJudged list shelf shelf name given 0 spot given
judging_starts list shelf name given spot is = subst (λ (s : Spot). IsJudged list shelf shelf name given 0 s given) (sym is) (record {
  bytes = [];
  here = refl;
  loading = loading_starts shelf name [] refl;
  goes = goes_nowhere list at_start given;
})

-- the file is there, where the shelf tells its files
abbrev pub IsThere : Option (List ℕ) → Type 0
IsThere None = ⊥
IsThere (Some file) = Unit {0}

-- a read that gave so many bytes, behind what was judged
pub record HasRead (now new : ShelfState) (name : List ℕ) (at n : ℕ) (buf : List ℕ) : Type 0 where
  pub goes_on : GoesOn now new
  pub same : new.file ≡ now.file
  pub counts : CountsRead now new (Ok (Some n))
  pub no_change : CountsNoChange now new
  pub kept : new.last_failed ≡ now.last_failed
  pub calm : new.faults ≡ now.faults
  pub bound : n ≤ length buf
  pub told : IsTrue now.tells → Reads (now.file name) at (Some n) buf

-- what was read then
pub read_on : (list : Clauses) (old now new : ShelfState) (name : List ℕ) (before at n given : ℕ) (spot : Spot) (buf : List ℕ)
    → (j : IsJudged list old now name before at spot given) → HasRead now new name at n buf
    → IsLoading old new name (j.bytes ++ take n buf)
read_on list old now new name before at n given spot buf j r =
    loading_goes_on old now new name j.bytes buf (j.bytes ++ take n buf) at n j.here j.loading r.goes_on r.same r.counts r.no_change
    r.kept r.calm r.bound r.told refl

reads_there : (file : Option (List ℕ)) (at n : ℕ) (buf : List ℕ) → Reads file at (Some n) buf → IsThere file
reads_there None at n buf reads = absurd reads
reads_there (Some file) at n buf reads = tt

read_there : (list : Clauses) (old now new : ShelfState) (name : List ℕ) (before at n given : ℕ) (spot : Spot) (buf : List ℕ)
    → IsJudged list old now name before at spot given → HasRead now new name at n buf → IsTrue old.tells → IsThere (old.file name)
read_there list old now new name before at n given spot buf j r tells =
    let P : (List ℕ → Option (List ℕ)) → Type 0 = λ f. IsThere (f name) in
    subst P j.loading.same (reads_there (now.file name) at n buf (r.told (j.loading.goes_on.tells ∙ tells)))

-- the bytes within the limit, after a read
pub record HasFront (limit : ℕ) (old new : ShelfState) (name bytes : List ℕ) : Type 0 where
  pub longer : Bool
  pub fits : length bytes ≤ limit
  pub begins : IsTrue old.tells → IsFront (old.file name) bytes
  pub there : IsTrue old.tells → IsThere (old.file name)
  pub cause : HasTaken limit old new bytes longer

front_read : (limit : ℕ) (old new : ShelfState) (name bytes : List ℕ) → IsLoading old new name bytes
    → (IsTrue old.tells → IsThere (old.file name)) → HasFront limit old new name (take limit bytes)
front_read limit old new name bytes l there = elim (cases_lt limit (length bytes)) [
  | inl lt ↦ record {
    longer = true;
    fits = length-take-min limit bytes;
    begins = λ t. cut_front (old.file name) bytes limit (l.begins t);
    there = there;
    cause = (length-take-le limit bytes (omega (arith, lt)), took_more old.taken new.taken (length bytes) limit l.taken lt);
  }
  | inr le ↦
      let size : length (take limit bytes) ≡ length bytes = ap length (take_all limit bytes le) in
      record {
        longer = false;
        fits = length-take-min limit bytes;
        begins = λ t. cut_front (old.file name) bytes limit (l.begins t);
        there = there;
        cause = record { taken = l.taken ∙ ap (λ (k : ℕ). counted old.taken k) (sym size); absent = l.absent };
      }
]

pub has_front : (list : Clauses) (old now new : ShelfState) (name : List ℕ) (limit before at n within given : ℕ) (spot : Spot)
    (buf : List ℕ) → (j : IsJudged list old now name before at spot given) → HasRead now new name at n buf → at ≤ limit
    → within ≡ min (limit - at) n → HasFront limit old new name (j.bytes ++ take within buf)
has_front list old now new name limit before at n within given spot buf j r le is =
    subst (HasFront limit old new name) (sym (within_limit j.bytes buf at limit n within j.here le is))
    (front_read limit old new name (j.bytes ++ take n buf) (read_on list old now new name before at n given spot buf j r)
    (read_there list old now new name before at n given spot buf j r))

-- the file is longer than the limit
pub record IsLong (limit : ℕ) (old new : ShelfState) (name bytes : List ℕ) : Type 0 where
  pub is : length bytes ≡ limit
  pub more : (limit < new.taken - old.taken) ⊎ (end_of_count ≤ new.taken)
  pub begins : IsTrue old.tells → IsFront (old.file name) bytes
  pub beyond : IsTrue old.tells → (file : List ℕ) → old.file name ≡ Some file → limit < length file
  pub there : IsTrue old.tells → IsThere (old.file name)

length-take-all : (n : ℕ) (xs : List ℕ) → length (take n xs) ≤ length xs
length-take-all zero xs = omega arith
length-take-all (suc n) [] = omega arith
length-take-all (suc n) (x ∷ xs) = omega (arith, length-take-all n xs)

file_longer : (found : Option (List ℕ)) (bytes file : List ℕ) (limit : ℕ) → Begins found bytes → limit < length bytes
    → found ≡ Some file → limit < length file
file_longer None bytes file limit begins lt is = cc
file_longer (Some other) bytes file limit begins lt is =
    let same : other ≡ file = cc in
    let size : length (take (length bytes) other) ≡ length bytes = ap length begins in
    let fits : length bytes ≤ length other = omega (arith, size, length-take-all (length bytes) other) in
    omega (arith, fits, lt, ap length same)

pub is_long : (list : Clauses) (old now new : ShelfState) (name : List ℕ) (limit before at n within given : ℕ) (spot : Spot)
    (buf : List ℕ) → (j : IsJudged list old now name before at spot given) → HasRead now new name at n buf → at ≤ limit
    → within ≡ min (limit - at) n → within < n → IsLong limit old new name (j.bytes ++ take within buf)
is_long list old now new name limit before at n within given spot buf j r le is lt =
    let l = read_on list old now new name before at n given spot buf j r in
    let all : List ℕ = j.bytes ++ take n buf in
    let size : length all ≡ length j.bytes + n =
    omega (arith, length-append j.bytes (take n buf), length-take-le n buf r.bound) in
    let over : limit < length all = omega (arith, size, j.here, is, lt) in
    subst (IsLong limit old new name) (sym (within_limit j.bytes buf at limit n within j.here le is)) (record {
      is = length-take-le limit all (omega (arith, over));
      more = took_more old.taken new.taken (length all) limit l.taken over;
      begins = λ t. cut_front (old.file name) all limit (l.begins t);
      beyond = λ t file found. file_longer (old.file name) all file limit (l.begins t) over found;
      there = read_there list old now new name before at n given spot buf j r;
    })

-- the judging goes on behind a piece that is within the limit
pub judging_goes_on : (list : Clauses) (old now new : ShelfState) (name : List ℕ) (before at n within given after : ℕ) (spot next : Spot)
    (buf : List ℕ) → (j : IsJudged list old now name before at spot given) → HasRead now new name at n buf
    → within ≡ n → Goes list spot given (take within buf) next after → IsJudged list old new name before (at + n) next after
judging_goes_on list old now new name before at n within given after spot next buf j r is goes =
    record {
      bytes = j.bytes ++ take n buf;
      here = omega (arith, length-append j.bytes (take n buf), length-take-le n buf r.bound, j.here);
      loading = read_on list old now new name before at n given spot buf j r;
      goes = goes_then list at_start spot next before given after j.bytes (take n buf) j.goes
          (subst (λ (k : ℕ). Goes list spot given (take k buf) next after) is goes);
    }

-- the file has ended
pub record HasEnded (old new : ShelfState) (name bytes : List ℕ) : Type 0 where
  pub counts : CountsTaken old new (length bytes)
  pub whole : IsTrue old.tells → old.file name ≡ Some bytes

ended_file : (file : Option (List ℕ)) (bytes buf : List ℕ) (at : ℕ) → at ≡ length bytes → Begins file bytes → Reads file at (Some 0) buf
    → 0 < length buf → file ≡ Some bytes
ended_file None bytes buf at here begins reads some = absurd reads
ended_file (Some file) bytes buf at here begins reads some =
    let le : length file ≤ length bytes = omega (arith, reads.ended refl some, here) in
    ap Some (sym (take_all (length bytes) file le) ∙ begins)

pub has_ended : (list : Clauses) (old now new : ShelfState) (name : List ℕ) (before at given : ℕ) (spot : Spot) (buf : List ℕ)
    → (j : IsJudged list old now name before at spot given) → HasRead now new name at 0 buf → 0 < length buf
    → HasEnded old new name j.bytes
has_ended list old now new name before at given spot buf j r some =
    record {
      counts = record { taken = omega (arith, r.counts.0, j.loading.taken); absent = r.counts.1 ∙ j.loading.absent };
      whole = λ t.
          let P : (List ℕ → Option (List ℕ)) → Type 0 = λ f. Reads (f name) at (Some 0) buf in
          ended_file (old.file name) j.bytes buf at j.here (j.loading.begins t)
          (subst P j.loading.same (r.told (j.loading.goes_on.tells ∙ t))) some;
    }

-- what a source may be asked for by these bytes
given_of : (limit : ℕ) (old new : ShelfState) (bytes : List ℕ) (longer : Bool) → HasTaken limit old new bytes longer
    → HasGiven limit old new bytes longer
given_of limit old new bytes false cause = cause.taken
given_of limit old new bytes true cause = cause

pub front_taken : (limit : ℕ) (old new : ShelfState) (name bytes : List ℕ) → (f : HasFront limit old new name bytes)
    → IsTaken old new name limit bytes f.longer
front_taken limit old new name bytes f =
    record { fits = f.fits; told = f.begins; cause = given_of limit old new bytes f.longer f.cause }

pub long_taken : (limit : ℕ) (old new : ShelfState) (name bytes : List ℕ) → IsLong limit old new name bytes
    → IsTaken old new name limit bytes true
long_taken limit old new name bytes l = record { fits = omega (arith, l.is); told = l.begins; cause = (l.is, l.more) }

whole_front : (file : Option (List ℕ)) (bytes : List ℕ) → file ≡ Some bytes → IsFront file bytes
whole_front None bytes is = cc
whole_front (Some file) bytes is =
    let same : file ≡ bytes = cc in
    ap (λ (n : ℕ). take n file) (sym (ap length same)) ∙ take_all (length file) file (omega arith) ∙ same

pub ended_taken : (limit : ℕ) (old new : ShelfState) (name bytes : List ℕ) → length bytes ≤ limit → HasEnded old new name bytes
    → IsTaken old new name limit bytes false
ended_taken limit old new name bytes fits e =
    record { fits = fits; told = λ t. whole_front (old.file name) bytes (e.whole t); cause = e.counts.taken }

-- what was taken where a read did not succeed
pub unread_taken : (list : Clauses) (old now new : ShelfState) (name : List ℕ) (limit before at given : ℕ) (spot : Spot)
    → (j : IsJudged list old now name before at spot given) → at ≤ limit → new.taken ≡ now.taken
    → IsTaken old new name limit j.bytes false
unread_taken list old now new name limit before at given spot j le same =
    record {
      fits = omega (arith, j.here, le);
      told = λ t. front_of (old.file name) j.bytes (j.loading.begins t);
      cause = same ∙ j.loading.taken;
    }
