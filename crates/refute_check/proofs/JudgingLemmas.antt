-- How the judging of a text goes on, piece by piece and line by line.
use Rattle.std.proofs.Common.{◌≡◌, ℕ, zero, suc, ℤ, ◌+◌, ◌-◌, ◌<◌, ◌≤◌, ◌==◌, Bool, false, List, [], ◌∷◌, ◌++◌, length, take, drop, get_or, Option, Some, None, Result, Ok, Err, refl, sym, ap, subst, ◌∙◌, arith, append_assoc, length-append}
use Rattle.std.specs.Prelude.{All, OnErr}
use Rattle.std.proofs.lemmas.List.{get_or-take, length-take-le, length-drop, take_all, take_more, take-append-drop}
use Rattle.std.proofs.lemmas.List.Elements.{All-append}
use Rattle.std.proofs.lemmas.List.Splits.{slice_split_none, slice_split_at, length-slice_split}
use Rattle.std.proofs.lemmas.List.Sums.{sum_by-append, fails_before_first, passes_at_first}
use Rattle.clause_base.specs.Clauses.{Clauses}
use Rattle.ref_text.specs.Form.{form}
use Rattle.ref_text.specs.Fault.{line_of, is_empty}
use Rattle.ref_text.specs.Reading.{lf_at}
use Rattle.ref_text.specs.declared.why.Why.{Why}
use Rattle.refute_check.specs.Check.{Progress, lines_of, line_fault, with_line, or_further, progress}
use Rattle.refute_check.specs.Cost.{line_cost, lines_cost}
use Rattle.refute_check.specs.Known.{with_derived}
use Rattle.refute_check.specs.Judging.{Spot, further, fault_at, Goes, Refuses, StopsIn, first_line, Brings}
use Rattle.refute_check.specs.declared.judge.NextLine.{NextLine}
use Rattle.refute_check.specs.declared.judge.NextLine.TheVariants as next

-- bytes without an LF
abbrev pub HasNoLf : List ℕ → Type 0
HasNoLf bytes = All (λ b. (b == 10) ≡ false) bytes

-- the bytes before the first LF have none
pub front_no_lf : (piece : List ℕ) → lf_at piece < length piece → HasNoLf (take (lf_at piece) piece)
front_no_lf piece lt k d within =
    let size : length (take (lf_at piece) piece) ≡ lf_at piece = length-take-le (lf_at piece) piece (omega (arith, lt)) in
    let below : k < lf_at piece = omega (arith, size, within) in
    ap (λ b. b == 10) (get_or-take (lf_at piece) piece k d below) ∙ fails_before_first (λ b. b == 10) piece k d below

-- a piece with no LF
pub all_no_lf : (piece : List ℕ) → lf_at piece ≡ length piece → HasNoLf piece
all_no_lf piece all k d within = fails_before_first (λ b. b == 10) piece k d (omega (arith, all, within))

-- a line ends at the first LF behind what was begun
pub line_cut : (begun piece more : List ℕ) → HasNoLf begun → lf_at piece < length piece →
    lines_of (begun ++ (take (lf_at piece + 1) piece ++ more)) ≡ (begun ++ take (lf_at piece) piece) ∷ lines_of more
line_cut begun piece more none lt =
    let y = get_or piece (lf_at piece) 0 in
    let front = take (lf_at piece) piece in
    let here : begun ++ (take (lf_at piece + 1) piece ++ more) ≡ (begun ++ front) ++ y ∷ more =
    ap (λ (p : List ℕ). begun ++ (p ++ more)) (take_more piece (lf_at piece) 0 lt)
    ∙ ap (λ (p : List ℕ). begun ++ p) (append_assoc front (y ∷ []) more)
    ∙ sym (append_assoc begun front (y ∷ more)) in
    ap lines_of here
    ∙ slice_split_at (λ b. b == 10) (begun ++ front) y more (All-append (λ b. (b == 10) ≡ false) begun front none (front_no_lf piece lt))
    (passes_at_first (λ b. b == 10) piece 0 lt)

-- a line whose piece goes on
line_first : (begun piece more : List ℕ) → HasNoLf begun → lf_at piece < length piece →
    lines_of (begun ++ (piece ++ more)) ≡ (begun ++ take (lf_at piece) piece) ∷ lines_of (drop (lf_at piece + 1) piece ++ more)
line_first begun piece more none lt =
    ap (λ (p : List ℕ). lines_of (begun ++ (p ++ more))) (sym (take-append-drop (lf_at piece + 1) piece))
    ∙ ap (λ (p : List ℕ). lines_of (begun ++ p)) (append_assoc (take (lf_at piece + 1) piece) (drop (lf_at piece + 1) piece) more)
    ∙ line_cut begun piece (drop (lf_at piece + 1) piece ++ more) none lt

-- bytes without an LF are one part
pub no_line : (begun : List ℕ) → HasNoLf begun → lines_of begun ≡ begun ∷ []
no_line begun none = slice_split_none (λ b. b == 10) begun none

lines_some : (bytes : List ℕ) → 0 < length (lines_of bytes)
lines_some bytes = omega (arith, length-slice_split (λ b. b == 10) bytes)

-- the lines of a text behind those that were gone through
pub further_lines : (list : Clauses) (old : Spot) (given : ℕ) (bytes : List ℕ) (new : Spot) (now : ℕ)
    (g : Goes list old given bytes new now) (text : List ℕ) →
    further list old (g.lines ++ lines_of text) ≡ further list new (lines_of text)
further_lines list old given bytes new now g text = by (lines_of text) (lines_some text)
  where
    by : (parts : List (List ℕ)) → 0 < length parts → further list old (g.lines ++ parts) ≡ further list new parts
    by [] some = absurd (omega arith)
    by (p ∷ ps) some = g.so_far p ps

-- no byte leads nowhere
pub goes_nowhere : (list : Clauses) (spot : Spot) (given : ℕ) → Goes list spot given [] spot given
goes_nowhere list spot given =
    record { lines = []; cut = λ more. refl; counted = omega arith; so_far = λ part parts. refl; within = omega arith }

-- one way and then another
pub goes_then : (list : Clauses) (a m b : Spot) (given mid now : ℕ) (xs ys : List ℕ) → Goes list a given xs m mid
    → Goes list m mid ys b now → Goes list a given (xs ++ ys) b now
goes_then list a m b given mid now xs ys g h = record {
  lines = g.lines ++ h.lines;
  cut = λ more.
      ap (λ (p : List ℕ). lines_of (a.begun ++ p)) (append_assoc xs ys more)
      ∙ g.cut (ys ++ more) ∙ ap (λ (ls : List (List ℕ)). g.lines ++ ls) (h.cut more)
      ∙ sym (append_assoc g.lines h.lines (lines_of (b.begun ++ more)));
  counted = omega (arith, g.counted, h.counted, length-append g.lines h.lines);
  so_far = λ part parts. ap (further list a) (append_assoc g.lines h.lines (part ∷ parts)) ∙ by part parts h.lines ∙ h.so_far part parts;
  within = let sum = sum_by-append (line_cost list.clauses) g.lines h.lines in omega (arith, g.within, h.within, sum);
}
  where
    by : (part : List ℕ) (parts ls : List (List ℕ))
        → further list a (g.lines ++ (ls ++ part ∷ parts)) ≡ further list m (ls ++ part ∷ parts)
    by part parts [] = g.so_far part parts
    by part parts (l ∷ ls) = g.so_far l (ls ++ part ∷ parts)

-- bytes of a line
pub goes_on : (list : Clauses) (old new : Spot) (given now : ℕ) (piece : List ℕ)
    → new ≡ record { begun = old.begun ++ piece; derived = old.derived; over = old.over } → now ≡ given
    → Goes list old given piece new now
goes_on list old new given now piece is same = subst (λ (s : Spot). Goes list old given piece s now) (sym is) (record {
  lines = [];
  cut = λ more. ap lines_of (sym (append_assoc old.begun piece more));
  counted = omega arith;
  so_far = λ part parts. refl;
  within = omega (arith, same);
})

with_derived-push : (list : Clauses) (derived : List (List ℤ)) (c : List ℤ)
    → with_derived list (derived ++ c ∷ []) ≡ record { vars = list.vars; clauses = (list.clauses ++ derived) ++ c ∷ [] }
with_derived-push list derived c =
    ap (λ (cs : List (List ℤ)). let l : Clauses = record { vars = list.vars; clauses = cs } in l)
    (sym (append_assoc list.clauses derived (c ∷ [])))

-- a derived line
pub goes_line : (list : Clauses) (old new : Spot) (given now : ℕ) (piece : List ℕ) → HasNoLf old.begun → lf_at piece < length piece →
    fault_at list old (first_line old piece) ≡ None →
    new ≡ record {
      begun = [];
      derived = old.derived ++ (line_of (form (first_line old piece))).clause ∷ [];
      over = is_empty (line_of (form (first_line old piece)));
    } →
    now ≤ given + line_cost list.clauses (first_line old piece) → Goes list old given (take (lf_at piece + 1) piece) new now
unfolding progress
goes_line list old new given now piece none lt right is le =
    subst (λ (s : Spot). Goes list old given (take (lf_at piece + 1) piece) s now) (sym is) (record {
      lines = line ∷ [];
      cut = λ more. line_cut old.begun piece more none lt;
      counted = omega (arith, length-append old.derived (clause ∷ []));
      so_far = λ part parts.
          ap (λ (o : Option Why). or_further (length old.derived) old.over o
          (progress (with_line (with_derived list old.derived) (line_of (form line))) (length old.derived + 1)
          (is_empty (line_of (form line))) (part ∷ parts))) right
          ∙ ap (λ (l : Clauses). progress l (length old.derived + 1) (is_empty (line_of (form line))) (part ∷ parts))
          (sym (with_derived-push list old.derived clause))
          ∙ ap (λ (n : ℕ). progress (with_derived list (old.derived ++ clause ∷ [])) n (is_empty (line_of (form line))) (part ∷ parts))
          (sym (length-append old.derived (clause ∷ [])));
      within = omega (arith, le);
    })
  where
    line : List ℕ
    line = first_line old piece

    clause : List ℤ
    clause = (line_of (form (first_line old piece))).clause

-- a line that is refused
pub refuses_line : (list : Clauses) (old : Spot) (given now : ℕ) (piece : List ℕ) (why : Why) → HasNoLf old.begun
    → lf_at piece < length piece →
    fault_at list old (first_line old piece) ≡ Some why → now ≤ given + line_cost list.clauses (first_line old piece)
    → Refuses list old given piece why 0 now
unfolding progress
refuses_line list old given now piece why none lt fault le = record {
  count = λ more. ap (λ (ls : List (List ℕ)). (further list old ls).count) (line_first old.begun piece more none lt)
      ∙ ap (λ (p : Progress). p.count) (by (lines_of (behind more)) (lines_some (behind more))) ∙ omega arith;
  bad = λ more. ap (λ (ls : List (List ℕ)). (further list old ls).bad) (line_first old.begun piece more none lt)
      ∙ ap (λ (p : Progress). p.bad) (by (lines_of (behind more)) (lines_some (behind more)));
  within = λ more. subst (λ (ls : List (List ℕ)). now ≤ given + lines_cost list.clauses (take 1 ls))
      (sym (line_first old.begun piece more none lt)) (omega (arith, le));
}
  where
    behind : List ℕ → List ℕ
    behind more = drop (lf_at piece + 1) piece ++ more

    by : (parts : List (List ℕ)) → 0 < length parts
        → further list old (first_line old piece ∷ parts)
        ≡ record { count = length old.derived; over = old.over; bad = Some why; begun = false }
    by [] some = absurd (omega arith)
    by (p ∷ ps) some = ap
        (λ (o : Option Why). or_further (length old.derived) old.over o
        (progress (with_line (with_derived list old.derived) (line_of (form (first_line old piece)))) (length old.derived + 1)
        (is_empty (line_of (form (first_line old piece)))) (p ∷ ps))) fault

-- the lines of a text through which bytes go, and those behind
goes_cut : (list : Clauses) (a m : Spot) (given mid : ℕ) (xs ys more : List ℕ) (g : Goes list a given xs m mid)
    → lines_of (a.begun ++ ((xs ++ ys) ++ more)) ≡ g.lines ++ lines_of (m.begun ++ (ys ++ more))
goes_cut list a m given mid xs ys more g = ap (λ (p : List ℕ). lines_of (a.begun ++ p)) (append_assoc xs ys more) ∙ g.cut (ys ++ more)

take_front : (xs ys : List (List ℕ)) (n : ℕ) → take (length xs + n + 1) (xs ++ ys) ≡ xs ++ take (n + 1) ys
take_front [] ys n = ap (λ (k : ℕ). take k ys) (omega arith)
take_front (x ∷ xs) ys n =
    let e : suc (length xs) + n + 1 ≡ suc (length xs + n + 1) = omega arith in
    ap (λ (k : ℕ). take k (x ∷ (xs ++ ys))) e ∙ ap (λ (ls : List (List ℕ)). x ∷ ls) (take_front xs ys n)

-- a line that is refused behind others
pub goes_refuses : (list : Clauses) (a m : Spot) (given mid now n : ℕ) (xs ys : List ℕ) (why : Why) (g : Goes list a given xs m mid)
    → Refuses list m mid ys why n now → Refuses list a given (xs ++ ys) why (length g.lines + n) now
goes_refuses list a m given mid now n xs ys why g r = record {
  count = λ more. ap (λ (p : Progress). p.count) (same more) ∙ r.count more ∙ omega (arith, g.counted);
  bad = λ more. ap (λ (p : Progress). p.bad) (same more) ∙ r.bad more;
  within = λ more.
      let ls = lines_of (m.begun ++ (ys ++ more)) in
      let sum = sum_by-append (line_cost list.clauses) g.lines (take (n + 1) ls) in
      let front : take (length g.lines + n + 1) (lines_of (a.begun ++ ((xs ++ ys) ++ more))) ≡ g.lines ++ take (n + 1) ls =
      ap (take (length g.lines + n + 1)) (goes_cut list a m given mid xs ys more g) ∙ take_front g.lines ls n in
      subst (λ (ks : List (List ℕ)). now ≤ given + lines_cost list.clauses ks) (sym front) (omega (arith, sum, g.within, r.within more));
}
  where
    same : (more : List ℕ)
        → further list a (lines_of (a.begun ++ ((xs ++ ys) ++ more))) ≡ further list m (lines_of (m.begun ++ (ys ++ more)))
    same more = ap (further list a) (goes_cut list a m given mid xs ys more g)
        ∙ further_lines list a given xs m mid g (m.begun ++ (ys ++ more))

-- the lines that are counted stay counted
count_stays : (list : Clauses) (count : ℕ) (over : Bool) (parts : List (List ℕ)) → count ≤ (progress list count over parts).count
unfolding progress
count_stays list count over [] = omega arith
count_stays list count over (rest ∷ []) = omega arith
count_stays list count over (line ∷ (next ∷ parts)) = by (line_fault list over line)
    (count_stays (with_line list (line_of (form line))) (count + 1) (is_empty (line_of (form line))) (next ∷ parts))
  where
    further_part : Progress
    further_part = progress (with_line list (line_of (form line))) (count + 1) (is_empty (line_of (form line))) (next ∷ parts)

    by : (o : Option Why) → count + 1 ≤ further_part.count → count ≤ (or_further count over o further_part).count
    by (Some why) le = omega arith
    by None le = omega (arith, le)

-- the lines that are derived already are reached
none_more : (list : Clauses) (old : Spot) (lines : List (List ℕ)) → length old.derived + 0 ≤ (further list old lines).count
none_more list old lines =
    let le : length old.derived ≤ (further list old lines).count =
    count_stays (with_derived list old.derived) (length old.derived) old.over lines in
    omega (arith, le)

-- memory was refused before anything more was given
pub stops_here : (list : Clauses) (old : Spot) (given now : ℕ) (piece : List ℕ) → now ≡ given → StopsIn list old given piece now
stops_here list old given now piece same = record {
  lines = 0;
  reached = λ more. none_more list old (lines_of (old.begun ++ (piece ++ more)));
  within = λ more. omega (arith, same);
}

-- memory was refused while the next line was judged
pub stops_line : (list : Clauses) (old : Spot) (given now : ℕ) (piece : List ℕ) → HasNoLf old.begun → lf_at piece < length piece →
    now ≤ given + line_cost list.clauses (first_line old piece) → StopsIn list old given piece now
stops_line list old given now piece none lt le = record {
  lines = 0;
  reached = λ more. none_more list old (lines_of (old.begun ++ (piece ++ more)));
  within = λ more. subst (λ (ls : List (List ℕ)). now ≤ given + lines_cost list.clauses (take 1 ls))
      (sym (line_first old.begun piece more none lt)) (omega (arith, le));
}

-- memory was refused in bytes behind others
pub goes_stops : (list : Clauses) (a m : Spot) (given mid now : ℕ) (xs ys : List ℕ) → Goes list a given xs m mid
    → StopsIn list m mid ys now → StopsIn list a given (xs ++ ys) now
goes_stops list a m given mid now xs ys g r = record {
  lines = length g.lines + r.lines;
  reached = λ more.
      let same : (further list a (lines_of (a.begun ++ ((xs ++ ys) ++ more)))).count
      ≡ (further list m (lines_of (m.begun ++ (ys ++ more)))).count =
      ap (λ (ls : List (List ℕ)). (further list a ls).count) (goes_cut list a m given mid xs ys more g)
      ∙ ap (λ (p : Progress). p.count) (further_lines list a given xs m mid g (m.begun ++ (ys ++ more))) in
      let behind : length m.derived + r.lines ≤ (further list m (lines_of (m.begun ++ (ys ++ more)))).count = r.reached more in
      omega (arith, same, behind, g.counted);
  within = λ more.
      let ls = lines_of (m.begun ++ (ys ++ more)) in
      let sum = sum_by-append (line_cost list.clauses) g.lines (take (r.lines + 1) ls) in
      let front : take (length g.lines + r.lines + 1) (lines_of (a.begun ++ ((xs ++ ys) ++ more))) ≡ g.lines ++ take (r.lines + 1) ls =
      ap (take (length g.lines + r.lines + 1)) (goes_cut list a m given mid xs ys more g) ∙ take_front g.lines ls r.lines in
      subst (λ (ks : List (List ℕ)). now ≤ given + lines_cost list.clauses ks) (sym front) (omega (arith, sum, g.within, r.within more));
}

-- what holds is said of an error too
pub on_err : {A E : Type 0} (P : Type 0) (r : Result A E) → P → OnErr r P
on_err P (Ok a) p = tt
on_err P (Err e) p = p

-- a statement of the rest of a piece, as a slice is seen
pub at_rest : (Q : Clauses → List ℕ → NextLine → Type 0) (a b : Clauses) (at : ℕ) (piece : List ℕ) (x y : NextLine) → a ≡ b → x ≡ y
    → Q a (take (length piece - at) (drop at piece)) x → Q b (drop at piece) y
at_rest Q a b at piece x y same is q =
    let all : take (length piece - at) (drop at piece) ≡ drop at piece =
    take_all (length piece - at) (drop at piece) (omega (arith, length-drop at piece)) in
    subst (Q b (drop at piece)) is
    (subst (λ (bs : List ℕ). Q b bs x) all (subst (λ (l : Clauses). Q l (take (length piece - at) (drop at piece)) x) same q))

take_nil : (n : ℕ) → take {A = ℕ} n [] ≡ []
take_nil zero = refl
take_nil (suc n) = refl

take_both : (n m : ℕ) (xs : List ℕ) → take n xs ++ take m (drop n xs) ≡ take (n + m) xs
take_both zero m xs = ap (λ (k : ℕ). take k xs) (omega arith)
take_both (suc n) m [] = take_nil m ∙ sym (take_nil (suc n + m))
take_both (suc n) m (x ∷ xs) =
    let e : suc n + m ≡ suc (n + m) = omega arith in
    ap (λ (ys : List ℕ). x ∷ ys) (take_both n m xs) ∙ ap (λ (k : ℕ). take k (x ∷ xs)) (sym e)

-- the next line of a piece is derived
pub take_line : (list : Clauses) (start m b : Spot) (given mid now at used : ℕ) (piece : List ℕ) → HasNoLf m.begun → at ≤ length piece
    → Goes list start given (take at piece) m mid →
    Brings list m mid (drop at piece) (next.Line used) b now
    → (at + used ≤ length piece) × Goes list start given (take (at + used) piece) b now
take_line list start m b given mid now at used piece none le g r =
    let step = goes_line list m b mid now (drop at piece) none r.0 r.2 r.3 r.4 in
    let bytes : take at piece ++ take (lf_at (drop at piece) + 1) (drop at piece) ≡ take (at + used) piece =
    take_both at (lf_at (drop at piece) + 1) piece ∙ ap (λ (n : ℕ). take (at + n) piece) (sym r.1) in (
      omega (arith, le, r.0, r.1, length-drop at piece),
      subst (λ (bs : List ℕ). Goes list start given bs b now) bytes
          (goes_then list start m b given mid now (take at piece) (take (lf_at (drop at piece) + 1) (drop at piece)) g step),
    )

-- the rest of a piece has no LF
pub take_end : (list : Clauses) (start m b : Spot) (given mid now at : ℕ) (piece : List ℕ) → Goes list start given (take at piece) m mid →
    Brings list m mid (drop at piece) next.End b now → Goes list start given piece b now
take_end list start m b given mid now at piece g r =
    subst (λ (bs : List ℕ). Goes list start given bs b now) (take-append-drop at piece)
    (goes_then list start m b given mid now (take at piece) (drop at piece) g (goes_on list m b mid now (drop at piece) r.1 r.2))

-- the next line of a piece is refused
pub take_bad : (list : Clauses) (start m b : Spot) (given mid now at : ℕ) (piece : List ℕ) (why : Why) → HasNoLf m.begun
    → Goes list start given (take at piece) m mid →
    Brings list m mid (drop at piece) (next.Bad why) b now
    → (n : ℕ) × (length b.derived ≡ length start.derived + n) × Refuses list start given piece why n now
take_bad list start m b given mid now at piece why none g r =
    let step = refuses_line list m mid now (drop at piece) why none r.0 r.1 r.3 in (
      length g.lines + 0,
      omega (arith, r.2, g.counted),
      subst (λ (bs : List ℕ). Refuses list start given bs why (length g.lines + 0) now) (take-append-drop at piece)
          (goes_refuses list start m given mid now 0 (take at piece) (drop at piece) why g step),
    )

-- memory was refused at the next line of a piece
pub take_fail : (list : Clauses) (start m : Spot) (given mid now at : ℕ) (piece : List ℕ) → Goes list start given (take at piece) m mid
    → StopsIn list m mid (drop at piece) now → StopsIn list start given piece now
take_fail list start m given mid now at piece g stops =
    subst (λ (bs : List ℕ). StopsIn list start given bs now) (take-append-drop at piece)
    (goes_stops list start m given mid now (take at piece) (drop at piece) g stops)
