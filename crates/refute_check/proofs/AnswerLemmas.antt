-- What a file that was read in pieces says of the answer for it.
use Rattle.std.proofs.Common.{◌≡◌, ℕ, ◌+◌, ◌<◌, ◌≤◌, Bool, true, false, cond, List, ◌++◌, length, take, drop, take-take, take-append-drop, Option, Some, None, Ok, Err, IsTrue, refl, sym, ap, subst, ◌∙◌, arith}
use Rattle.std.specs.Prelude.{nat_le}
use Rattle.std.proofs.lemmas.Bool.Decides.{nat_tests}
use Rattle.clause_base.specs.Clauses.{Clauses}
use Rattle.io_base.specs.Shelf.{ShelfState}
use Rattle.clause_base.specs.TruthValues.{AllHold}
use Rattle.ref_text.specs.declared.why.Why.{Why}
use Rattle.refute_check.specs.Check.{lines_of, progress, has_begun, verdict_of, check}
use Rattle.refute_check.specs.Judging.{Spot, at_start, Goes, Refuses, StopsIn}
use Rattle.refute_check.specs.Taken.{IsFront, IsOfBytes, Explains, AsksWithin, refusal, refused_of, decided, check_file}
use Rattle.refute_check.specs.declared.checked.CheckFault.{CheckFault}
use Rattle.refute_check.specs.declared.checked.CheckFault.TheVariants as fault
use Rattle.refute_check.specs.declared.checked.Checked.{Checked}
use Rattle.refute_check.specs.declared.checked.Checked.TheVariants as checked
use Rattle.refute_check.proofs.CheckLemmas.{refuted_fails}
use Rattle.refute_check.proofs.JudgingLemmas.{HasNoLf}
use Rattle.refute_check.proofs.DecidingLemmas.{refused, goes_stop, stops_asks, asked_end, undecided, decided_bad, asked_bad}
use Rattle.refute_check.proofs.TakenLemmas.{IsJudged, IsThere, HasFront, IsLong, HasEnded, front_taken, long_taken, ended_taken, unread_taken}

-- a file within the limit, and one that goes on behind it
short_file : (limit : ℕ) (list : Clauses) (file : List ℕ) → length file ≤ limit → check_file limit list file ≡ Some (check list file)
short_file limit list file le =
    let all : nat_le (length file) limit ≡ true = grind (arith, nat_tests, le) in
    ap (λ b. cond b (decided list file false) (decided list (take limit file) true)) all

long_file : (limit : ℕ) (list : Clauses) (file : List ℕ) → limit < length file →
    check_file limit list file ≡ refusal (progress list 0 false (lines_of (take limit file)))
long_file limit list file lt =
    let over : nat_le (length file) limit ≡ false = grind (arith, nat_tests, lt) in
    ap (λ b. cond b (decided list file false) (decided list (take limit file) true)) over

-- the file has ended
pub end_of_bytes : (limit : ℕ) (list : Clauses) (old new : ShelfState) (name bytes : List ℕ) (answer : Checked) → length bytes ≤ limit
    → HasEnded old new name bytes → check list bytes ≡ answer → IsOfBytes limit list old new (Ok answer)
end_of_bytes limit list old new name bytes answer fits e is = (bytes, false, fits, e.counts, ap Some is)

pub end_told : (limit : ℕ) (list : Clauses) (old new : ShelfState) (name bytes : List ℕ) (answer : Checked) → length bytes ≤ limit
    → HasEnded old new name bytes → check list bytes ≡ answer → IsTrue old.tells → Explains (old.file name) limit list (Ok answer)
end_told limit list old new name bytes answer fits e is tells =
    subst (λ (f : Option (List ℕ)). Explains f limit list (Ok answer)) (sym (e.whole tells))
    (short_file limit list bytes fits ∙ ap Some is)

pub end_asks : (limit : ℕ) (list : Clauses) (old new : ShelfState) (name bytes : List ℕ) (spot : Spot) (answer : Checked)
    (before after : ℕ) → length bytes ≤ limit → HasEnded old new name bytes → Goes list at_start before bytes spot after
    → answer ≡ verdict_of (length spot.derived) spot.over None (has_begun spot.begun)
    → AsksWithin limit list old new name before after (Ok answer)
end_asks limit list old new name bytes spot answer before after fits e g is =
    (bytes, false, ended_taken limit old new name bytes fits e, asked_end list before after bytes spot answer g is)

-- a line is refused
pub bad_of_bytes : (limit : ℕ) (list : Clauses) (old new : ShelfState) (name bytes : List ℕ) (before after n : ℕ) (why : Why)
    → HasFront limit old new name bytes → Refuses list at_start before bytes why n after
    → IsOfBytes limit list old new (Ok (checked.Rejected (n + 1) why))
bad_of_bytes limit list old new name bytes before after n why f r =
    (bytes, f.longer, f.fits, f.cause, decided_bad list before after n bytes why f.longer r)

refused_file : (limit : ℕ) (list : Clauses) (file bytes : List ℕ) (before after n : ℕ) (why : Why) → length bytes ≤ limit
    → take (length bytes) file ≡ bytes → Refuses list at_start before bytes why n after
    → check_file limit list file ≡ Some (checked.Rejected (n + 1) why)
refused_file limit list file bytes before after n why fits front r = by (nat_le (length file) limit)
  where
    text : List ℕ → List ℕ
    text whole = bytes ++ drop (length bytes) whole

    is_text : (whole : List ℕ) → take (length bytes) whole ≡ bytes → whole ≡ text whole
    is_text whole is = sym (take-append-drop (length bytes) whole) ∙ ap (λ (bs : List ℕ). bs ++ drop (length bytes) whole) is

    within : take (length bytes) (take limit file) ≡ bytes
    within = take-take (length bytes) limit file fits ∙ front

    by : (b : Bool) → cond b (decided list file false) (decided list (take limit file) true) ≡ Some (checked.Rejected (n + 1) why)
    by true =
        ap (λ (bs : List ℕ). decided list bs false) (is_text file front)
        ∙ ap Some (refused list before after n bytes why r (drop (length bytes) file)).1
    by false =
        ap (λ (bs : List ℕ). decided list bs true) (is_text (take limit file) within)
        ∙ (refused list before after n bytes why r (drop (length bytes) (take limit file))).0

bad_explains : (limit : ℕ) (list : Clauses) (file : Option (List ℕ)) (bytes : List ℕ) (before after n : ℕ) (why : Why)
    → length bytes ≤ limit → IsThere file → IsFront file bytes → Refuses list at_start before bytes why n after
    → Explains file limit list (Ok (checked.Rejected (n + 1) why))
bad_explains limit list None bytes before after n why fits there front r = absurd there
bad_explains limit list (Some file) bytes before after n why fits there front r =
    refused_file limit list file bytes before after n why fits front r

pub bad_told : (limit : ℕ) (list : Clauses) (old new : ShelfState) (name bytes : List ℕ) (before after n : ℕ) (why : Why)
    → HasFront limit old new name bytes → Refuses list at_start before bytes why n after → IsTrue old.tells
    → Explains (old.file name) limit list (Ok (checked.Rejected (n + 1) why))
bad_told limit list old new name bytes before after n why f r tells =
    bad_explains limit list (old.file name) bytes before after n why f.fits (f.there tells) (f.begins tells) r

pub bad_asks : (limit : ℕ) (list : Clauses) (old new : ShelfState) (name bytes : List ℕ) (before after n : ℕ) (why : Why)
    → HasFront limit old new name bytes → Refuses list at_start before bytes why n after
    → AsksWithin limit list old new name before after (Ok (checked.Rejected (n + 1) why))
bad_asks limit list old new name bytes before after n why f r =
    (bytes, f.longer, front_taken limit old new name bytes f, asked_bad list before after n bytes why r)

-- the file is longer than the limit
pub long_of_bytes : (limit : ℕ) (list : Clauses) (old new : ShelfState) (name bytes : List ℕ) (spot : Spot) (before after : ℕ)
    → IsLong limit old new name bytes → HasNoLf spot.begun → Goes list at_start before bytes spot after
    → IsOfBytes limit list old new (Err fault.TooLong)
long_of_bytes limit list old new name bytes spot before after l none g =
    (bytes, omega (arith, l.is), (l.is, l.more), undecided list before after bytes spot none g)

long_explains : (limit : ℕ) (list : Clauses) (file : Option (List ℕ)) (bytes : List ℕ) (spot : Spot) (before after : ℕ)
    → length bytes ≡ limit → IsThere file → IsFront file bytes → ((f : List ℕ) → file ≡ Some f → limit < length f) → HasNoLf spot.begun
    → Goes list at_start before bytes spot after → Explains file limit list (Err fault.TooLong)
long_explains limit list None bytes spot before after is there front beyond none g = absurd there
long_explains limit list (Some file) bytes spot before after is there front beyond none g =
    let same : take limit file ≡ bytes = ap (λ (n : ℕ). take n file) (sym is) ∙ front in
    long_file limit list file (beyond file refl)
    ∙ ap (λ (bs : List ℕ). refusal (progress list 0 false (lines_of bs))) same ∙ undecided list before after bytes spot none g

pub long_told : (limit : ℕ) (list : Clauses) (old new : ShelfState) (name bytes : List ℕ) (spot : Spot) (before after : ℕ)
    → IsLong limit old new name bytes → HasNoLf spot.begun → Goes list at_start before bytes spot after → IsTrue old.tells
    → Explains (old.file name) limit list (Err fault.TooLong)
long_told limit list old new name bytes spot before after l none g tells =
    long_explains limit list (old.file name) bytes spot before after l.is (l.there tells) (l.begins tells) (l.beyond tells) none g

pub long_asks : (limit : ℕ) (list : Clauses) (old new : ShelfState) (name bytes : List ℕ) (spot : Spot) (before after : ℕ)
    → IsLong limit old new name bytes → Goes list at_start before bytes spot after
    → AsksWithin limit list old new name before after (Err fault.TooLong)
long_asks limit list old new name bytes spot before after l g =
    (bytes, true, long_taken limit old new name bytes l, stops_asks list before after bytes (goes_stop list before after bytes spot g))

-- memory was refused
pub stop_asks : (limit : ℕ) (list : Clauses) (old new : ShelfState) (name bytes : List ℕ) (before after : ℕ) (fault : CheckFault)
    → HasFront limit old new name bytes → StopsIn list at_start before bytes after
    → AsksWithin limit list old new name before after (Err fault)
stop_asks limit list old new name bytes before after fault f r =
    (bytes, f.longer, front_taken limit old new name bytes f, stops_asks list before after bytes r)

-- a read did not succeed
pub unread_asks : (limit : ℕ) (list : Clauses) (old now new : ShelfState) (name : List ℕ) (before at after : ℕ) (spot : Spot)
    (fault : CheckFault) → IsJudged list old now name before at spot after → at ≤ limit → new.taken ≡ now.taken
    → AsksWithin limit list old new name before after (Err fault)
unread_asks limit list old now new name before at after spot fault j le same = (
  j.bytes,
  false,
  unread_taken list old now new name limit before at after spot j le same,
  stops_asks list before after j.bytes (goes_stop list before after j.bytes spot j.goes),
)

refused_not : (count : ℕ) (bad : Option Why) (k : ℕ) → refused_of count bad ≡ Some (checked.Refutes k) → ⊥
refused_not count None k e = cc
refused_not count (Some why) k e = cc

-- that the clauses are refuted is decided by a whole file alone
refutes_whole : (list : Clauses) (bytes : List ℕ) (longer : Bool) (k : ℕ) → decided list bytes longer ≡ Some (checked.Refutes k)
    → check list bytes ≡ checked.Refutes k
refutes_whole list bytes false k e = cc
refutes_whole list bytes true k e =
    absurd (refused_not (progress list 0 false (lines_of bytes)).count (progress list 0 false (lines_of bytes)).bad k e)

-- a list that a file refutes is made true by no values
pub refutes_none : (limit : ℕ) (list : Clauses) (old new : ShelfState) (answer : Checked) → IsOfBytes limit list old new (Ok answer)
    → (k : ℕ) → answer ≡ checked.Refutes k → (values : ℕ → Bool) → AllHold values list.clauses → ⊥
refutes_none limit list old new answer of k refutes values all =
    refuted_fails values list of.0 k (refutes_whole list of.0 of.1 k (of.4 ∙ ap Some refutes)) all
