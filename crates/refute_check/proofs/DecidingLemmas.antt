-- What the bytes of a text decide, after its lines were judged.
use Rattle.std.proofs.Common.{◌≡◌, ℕ, zero, suc, ℤ, ◌+◌, ◌≤◌, Bool, true, false, List, [], ◌∷◌, ◌++◌, length, take, Option, Some, None, refl, sym, ap, subst, ◌∙◌, arith}
use Rattle.std.proofs.lemmas.List.{append-nil}
use Rattle.std.proofs.lemmas.List.Sums.{sum_by-append}
use Rattle.clause_base.specs.Clauses.{Clauses}
use Rattle.ref_text.specs.declared.why.Why.{Why}
use Rattle.refute_check.specs.Check.{Progress, lines_of, progress, has_begun, verdict_of, verdict, check}
use Rattle.refute_check.specs.Cost.{line_cost, lines_cost}
use Rattle.refute_check.specs.Judging.{Spot, at_start, further, Goes, Refuses, StopsIn, Judges}
use Rattle.refute_check.specs.Taken.{refused_of, refusal, decided, line_count}
use Rattle.refute_check.specs.declared.checked.Checked.{Checked}
use Rattle.refute_check.specs.declared.checked.Checked.TheVariants as checked
use Rattle.refute_check.proofs.JudgingLemmas.{HasNoLf, no_line, further_lines, goes_refuses, goes_stops, stops_here}

-- before the first line the list has just its clauses
start_is : (list : Clauses) (lines : List (List ℕ)) → further list at_start lines ≡ progress list 0 false lines
start_is list lines =
    ap (λ (cs : List (List ℤ)). let l : Clauses = record { vars = list.vars; clauses = cs } in progress l 0 false lines)
    (append-nil list.clauses)

-- how far the lines go where the text ends
pub ends : (list : Clauses) (before now : ℕ) (bytes : List ℕ) (spot : Spot) → HasNoLf spot.begun
    → Goes list at_start before bytes spot now →
    progress list 0 false
    (lines_of bytes) ≡ record { count = length spot.derived; over = spot.over; bad = None; begun = has_begun spot.begun }
unfolding progress
ends list before now bytes spot none g =
    let cut : lines_of bytes ≡ g.lines ++ lines_of spot.begun =
    ap lines_of (sym (append-nil bytes)) ∙ g.cut [] ∙ ap (λ (b : List ℕ). g.lines ++ lines_of b) (append-nil spot.begun) in
    sym (start_is list (lines_of bytes)) ∙ ap (further list at_start) cut ∙ further_lines list at_start before bytes spot now g spot.begun
    ∙ ap (further list spot) (no_line spot.begun none)

-- a line that is refused, whatever follows
pub refused : (list : Clauses) (before now n : ℕ) (bytes : List ℕ) (why : Why) → Refuses list at_start before bytes why n now
    → (more : List ℕ) →
    (refusal (progress list 0 false (lines_of (bytes ++ more))) ≡ Some (checked.Rejected (n + 1) why))
    × (check list (bytes ++ more) ≡ checked.Rejected (n + 1) why)
refused list before now n bytes why r more =
    let p = progress list 0 false (lines_of (bytes ++ more)) in
    let same : further list at_start (lines_of (bytes ++ more)) ≡ p = start_is list (lines_of (bytes ++ more)) in
    let count : p.count ≡ n = ap (λ (q : Progress). q.count) (sym same) ∙ r.count more ∙ omega arith in
    let bad : p.bad ≡ Some why = ap (λ (q : Progress). q.bad) (sym same) ∙ r.bad more in (
      ap (λ (k : ℕ). refused_of k p.bad) count ∙ ap (refused_of n) bad,
      ap (λ (k : ℕ). verdict_of k p.over p.bad p.begun) count ∙ ap (λ (o : Option Why). verdict_of n p.over o p.begun) bad,
    )

-- the cost of lines that a text begins with
front_cost : (clauses : List (List ℤ)) (xs ys : List (List ℕ)) (k : ℕ) → length xs ≤ k
    → lines_cost clauses xs ≤ lines_cost clauses (take k (xs ++ ys))
front_cost clauses [] ys k le = omega arith
front_cost clauses (x ∷ xs) ys zero le = absurd (omega arith)
front_cost clauses (x ∷ xs) ys (suc k) le =
    let rest = front_cost clauses xs ys k (omega arith) in
    let a = sum_by-append (line_cost clauses) (x ∷ []) xs in
    let b = sum_by-append (line_cost clauses) (x ∷ []) (take k (xs ++ ys)) in
    omega (arith, rest, a, b)

-- the cost of fewer lines
take_cost : (clauses : List (List ℤ)) (lines : List (List ℕ)) (n k : ℕ) → n ≤ k
    → lines_cost clauses (take n lines) ≤ lines_cost clauses (take k lines)
take_cost clauses lines zero k le = omega arith
take_cost clauses lines (suc n) zero le = absurd (omega arith)
take_cost clauses [] (suc n) (suc k) le = omega arith
take_cost clauses (l ∷ ls) (suc n) (suc k) le =
    let rest = take_cost clauses ls n k (omega arith) in
    let a = sum_by-append (line_cost clauses) (l ∷ []) (take n ls) in
    let b = sum_by-append (line_cost clauses) (l ∷ []) (take k ls) in
    omega (arith, rest, a, b)

-- nothing was asked for behind the lines that were gone through
pub goes_stop : (list : Clauses) (before now : ℕ) (bytes : List ℕ) (spot : Spot) → Goes list at_start before bytes spot now
    → StopsIn list at_start before bytes now
goes_stop list before now bytes spot g =
    subst (λ (bs : List ℕ). StopsIn list at_start before bs now) (append-nil bytes)
    (goes_stops list at_start spot before now now bytes [] g (stops_here list spot now now [] refl))

-- what was given where a fault came
pub stops_asks : (list : Clauses) (before now : ℕ) (bytes : List ℕ) → StopsIn list at_start before bytes now →
    now ≤ before + lines_cost list.clauses (take ((progress list 0 false (lines_of bytes)).count + 1) (lines_of bytes))
stops_asks list before now bytes r =
    let all : lines_of (bytes ++ []) ≡ lines_of bytes = ap lines_of (append-nil bytes) in
    let p : Progress = progress list 0 false (lines_of bytes) in
    let count : (further list at_start (lines_of (bytes ++ []))).count ≡ p.count =
    ap (λ (q : Progress). q.count) (start_is list (lines_of (bytes ++ [])) ∙ ap (progress list 0 false) all) in
    let reached : 0 + r.lines ≤ (further list at_start (lines_of (bytes ++ []))).count = r.reached [] in
    let cost = take_cost list.clauses (lines_of (bytes ++ [])) (r.lines + 1) (p.count + 1) (omega (arith, count, reached)) in
    subst (λ (ls : List (List ℕ)). now ≤ before + lines_cost list.clauses (take (p.count + 1) ls)) all
    (omega (arith, r.within [], cost))

-- what was given up to an answer behind the lines that were gone through
pub goes_up_to : (list : Clauses) (before now k : ℕ) (bytes : List ℕ) (spot : Spot) → Goes list at_start before bytes spot now
    → length spot.derived ≤ k → (more : List ℕ) → now ≤ before + lines_cost list.clauses (take k (lines_of (bytes ++ more)))
goes_up_to list before now k bytes spot g le more =
    let cost = front_cost list.clauses g.lines (lines_of (spot.begun ++ more)) k (omega (arith, g.counted, le)) in
    subst (λ (ls : List (List ℕ)). now ≤ before + lines_cost list.clauses (take k ls)) (sym (g.cut more)) (omega (arith, cost, g.within))

-- an answer at the end speaks of the lines that were read
counts : (count : ℕ) (over begun : Bool) → count ≤ line_count (verdict_of count over None begun)
counts count over true = omega arith
counts count true false = omega arith
counts count false false = omega arith

-- the answer at the end of a text
pub decided_end : (list : Clauses) (before now : ℕ) (bytes : List ℕ) (spot : Spot) (answer : Checked) → HasNoLf spot.begun
    → Goes list at_start before bytes spot now →
    answer ≡ verdict_of (length spot.derived) spot.over None (has_begun spot.begun) → check list bytes ≡ answer
decided_end list before now bytes spot answer none g is = ap verdict (ends list before now bytes spot none g) ∙ sym is

-- what was given up to that answer
pub asked_end : (list : Clauses) (before now : ℕ) (bytes : List ℕ) (spot : Spot) (answer : Checked)
    → Goes list at_start before bytes spot now →
    answer ≡ verdict_of (length spot.derived) spot.over None (has_begun spot.begun)
    → now ≤ before + lines_cost list.clauses (take (line_count answer) (lines_of bytes))
asked_end list before now bytes spot answer g is =
    let up = goes_up_to list before now (line_count answer) bytes spot g
    (subst (λ (a : Checked). length spot.derived ≤ line_count a) (sym is)
    (counts (length spot.derived) spot.over (has_begun spot.begun))) [] in
    subst (λ (bs : List ℕ). now ≤ before + lines_cost list.clauses (take (line_count answer) (lines_of bs))) (append-nil bytes) up

-- a text goes on behind its bytes, and none of its lines was refused
pub undecided : (list : Clauses) (before now : ℕ) (bytes : List ℕ) (spot : Spot) → HasNoLf spot.begun
    → Goes list at_start before bytes spot now → refusal (progress list 0 false (lines_of bytes)) ≡ None
undecided list before now bytes spot none g = ap refusal (ends list before now bytes spot none g)

-- the answer at a line that is refused
pub decided_bad : (list : Clauses) (before now n : ℕ) (bytes : List ℕ) (why : Why) (longer : Bool)
    → Refuses list at_start before bytes why n now → decided list bytes longer ≡ Some (checked.Rejected (n + 1) why)
decided_bad list before now n bytes why false r = ap (λ (bs : List ℕ). decided list bs false) (sym (append-nil bytes))
    ∙ ap Some (refused list before now n bytes why r []).1
decided_bad list before now n bytes why true r = ap (λ (bs : List ℕ). decided list bs true) (sym (append-nil bytes))
    ∙ (refused list before now n bytes why r []).0

-- what was given up to that line
pub asked_bad : (list : Clauses) (before now n : ℕ) (bytes : List ℕ) (why : Why) → Refuses list at_start before bytes why n now
    → now ≤ before + lines_cost list.clauses (take (n + 1) (lines_of bytes))
asked_bad list before now n bytes why r =
    subst (λ (bs : List ℕ). now ≤ before + lines_cost list.clauses (take (n + 1) (lines_of bs))) (append-nil bytes) (r.within [])

-- after a refused line: the answer, and what was given
pub bad_facts : (list : Clauses) (start b : Spot) (before now : ℕ) (bytes : List ℕ) (why : Why) (longer : Bool) → start ≡ at_start
    → Judges list start before bytes (Some why) b now →
    (decided list bytes longer ≡ Some (checked.Rejected (length b.derived + 1) why))
    × (now ≤ before + lines_cost list.clauses (take (length b.derived + 1) (lines_of bytes)))
bad_facts list start b before now bytes why longer is judges =
    let j : Judges list at_start before bytes (Some why) b now =
    subst (λ (s : Spot). Judges list s before bytes (Some why) b now) is judges in
    let n : j.0 ≡ length b.derived = omega (arith, j.1) in
    let r : Refuses list at_start before bytes why (length b.derived) now =
    subst (λ (k : ℕ). Refuses list at_start before bytes why k now) n j.2 in
    (decided_bad list before now (length b.derived) bytes why longer r, asked_bad list before now (length b.derived) bytes why r)

-- at the end of a text
pub end_facts : (list : Clauses) (start b : Spot) (before now : ℕ) (bytes : List ℕ) (answer : Checked) → start ≡ at_start
    → Goes list start before bytes b now → HasNoLf b.begun →
    answer ≡ verdict_of (length b.derived) b.over None (has_begun b.begun) →
    (check list bytes ≡ answer) × (now ≤ before + lines_cost list.clauses (take (line_count answer) (lines_of bytes)))
end_facts list start b before now bytes answer is goes none told =
    let g : Goes list at_start before bytes b now = subst (λ (s : Spot). Goes list s before bytes b now) is goes in
    (decided_end list before now bytes b answer none g told, asked_end list before now bytes b answer g told)

-- a line that is refused behind bytes that were gone through
pub judged_bad : (list : Clauses) (m b : Spot) (before mid now : ℕ) (bytes piece : List ℕ) (why : Why)
    → Goes list at_start before bytes m mid → Judges list m mid piece (Some why) b now
    → Refuses list at_start before (bytes ++ piece) why (length b.derived) now
judged_bad list m b before mid now bytes piece why g j =
    let n : length g.lines + j.0 ≡ length b.derived = omega (arith, g.counted, j.1) in
    subst (λ (k : ℕ). Refuses list at_start before (bytes ++ piece) why k now) n
    (goes_refuses list at_start m before mid now j.0 bytes piece why g j.2)
