-- What a board keeps through its calls.

use Rattle.std.proofs.Common.{◌≡◌, ℕ, ℤ, pos, true, ◌+◌, ◌*◌, ◌<◌, ◌≤◌, List, [], ◌∷◌, ◌++◌, length, take, drop, get_or, replicate, min, Some, sym, ap, subst, ◌∙◌, ⊎_elim, arith}
use Rattle.std.specs.Prelude.{slice_get, All, nat_le}
use Rattle.std.proofs.lemmas.Bool.{cases_lt, leb-true}
use Rattle.std.proofs.lemmas.List.{length-replicate, get_or-replicate, get_or_past, take-append-le, drop_at, length_push, length-take, length-drop, get_or-take, get_or-drop}
use Rattle.std.proofs.lemmas.List.Elements.{All-nil, All-cons, All-same, filter_passes}
use Rattle.std.proofs.lemmas.Option.{none-some}
use Rattle.clause_base.specs.declared.entry.Entry.{Entry}
use Rattle.trail.specs.Assignment.{level_of, IsTrail}
use Rattle.trail.proofs.Ends.{filter-low}
use Rattle.propagate.specs.Standing.{up_to}
use Rattle.propagate.specs.Lists.{list_at}
use Rattle.propagate.specs.Queue.{IsQueue}
use Rattle.propagate.specs.Watching.{IsEntry, AreLaid, AreGuarded}
use Rattle.propagate.specs.declared.watch_lists.Watch.{Watch}
use Rattle.propagate.specs.declared.pairs.Pair.{Pair}
use Rattle.propagate.proofs.Guarding.{are_guarded_append, are_guarded_back, queue_empty, seen_back}

-- each list is empty at first
list_none : (n code : ℕ) → list_at (replicate n []) code ≡ []
list_none n code = ⊎_elim
    (λ (lt : code < n). get_or-replicate n code [] [] lt)
    (λ (ge : n ≤ code). let past : length (replicate {A = List Watch} n []) ≤ code =
    omega (arith, length-replicate {A = List Watch} n []) in get_or_past (replicate n []) code [] past)
    (cases_lt code n)

-- nothing is watched at first
pub laid_none : (vars : ℕ) (clauses : List (List ℤ)) (lists : List (List Watch)) (pairs : List Pair) (count : ℕ)
    → lists ≡ replicate count [] → count ≡ 2 * vars + 2 → pairs ≡ [] → AreLaid vars clauses lists pairs
laid_none vars clauses lists pairs count is sized none = record {
  sized = ap length is ∙ length-replicate {A = List Watch} count [] ∙ sized;
  fewer = let n : length pairs ≡ 0 = ap length none in omega (arith, n);
  listed = λ code i w there. nothing code i w (ap (λ ls. slice_get (list_at ls code) i) (sym is) ∙ there);
  paired = λ n c p c_there p_there. absurd (none-some p (ap (λ ps. slice_get ps n) (sym none) ∙ p_there));
}
  where
    nothing : (code i : ℕ) (w : Watch) → slice_get (list_at (replicate count []) code) i ≡ Some w → IsEntry clauses w
    nothing code i w there = absurd (none-some w (ap (λ l. slice_get l i) (sym (list_none count code)) ∙ there))

-- and nothing is to be guarded
pub guarded_none : (clauses : List (List ℤ)) (lists : List (List Watch)) (pairs : List Pair) (seen es : List Entry) → pairs ≡ []
    → AreGuarded clauses lists pairs seen es
guarded_none clauses lists pairs seen es none n c p c_there p_there =
    absurd (none-some p (ap (λ ps. slice_get ps n) (sym none) ∙ p_there))

-- a decision is the whole queue
pub queue_decide : (es new : List Entry) (e : Entry) (head : ℕ) → head ≡ length es → new ≡ es ++ e ∷ [] → e.level ≡ level_of new
    → IsQueue head new
queue_decide es new e head all is level =
    let rest : drop head new ≡ e ∷ [] = ap (drop head) is ∙ drop_at es (e ∷ []) head (sym all) in
    record {
      within = omega (arith, all, ap length is, length_push es e);
      present =
          All-same (λ x. x.level ≡ level_of new) (drop head new) (e ∷ []) rest
          (All-cons (λ x. x.level ≡ level_of new) e [] level (All-nil (λ x. x.level ≡ level_of new)));
    }

-- all stays guarded where a decision is made
pub guarded_decide : (clauses : List (List ℤ)) (lists : List (List Watch)) (pairs : List Pair) (es new more : List Entry) (head : ℕ)
    → head ≡ length es → new ≡ es ++ more → AreGuarded clauses lists pairs (take head es) es
    → AreGuarded clauses lists pairs (take head new) new
guarded_decide clauses lists pairs es new more head all is k =
    let le : head ≤ length es = omega (arith, all) in
    let same : take head new ≡ take head es = ap (take head) is ∙ take-append-le head es more le in
    subst (λ (seen : List Entry). AreGuarded clauses lists pairs seen new) (sym same)
    (subst (λ (xs : List Entry). AreGuarded clauses lists pairs (take head es) xs) (sym is)
    (are_guarded_append clauses lists pairs (take head es) es more k))

-- after a return below the present level all of the rest was seen
shorter_back : (vars : ℕ) (es new : List Entry) (head level : ℕ) → IsTrail vars es → IsQueue head es → level < level_of es
    → new ≡ up_to level es → new ≡ take (length new) es → length new ≤ head
shorter_back vars es new head level t q lt kept front = ⊎_elim
    (λ (longer : head < length new). absurd (over longer))
    (λ (le : length new ≤ head). le)
    (cases_lt head (length new))
  where
    over : head < length new → ⊥
    over longer =
        let d : Entry = record { lit = pos 1; level = 0; reason = 0 } in
        let e = get_or new head d in
        let passes : nat_le e.level level ≡ true =
        subst (λ (xs : List Entry). All (λ x. nat_le x.level level ≡ true) xs) (sym kept)
        (filter_passes (λ x. nat_le x.level level) es) head d longer in
        let low : e.level ≤ level = leb-true e.level level passes in
        let inside : length new ≤ length es = omega (arith, ap length front, length-take (length new) es) in
        let same : e ≡ get_or es head d = ap (λ xs. get_or xs head d) front ∙ get_or-take (length new) es head d longer in
        let some : 0 < length (drop head es) = omega (arith, length-drop head es) in
        let place : head + 0 ≡ head = omega arith in
        let high : (get_or es head d).level ≡ level_of es =
        ap (λ (x : Entry). x.level) (sym (get_or-drop head es 0 d ∙ ap (λ k. get_or es k d) place)) ∙ q.present 0 d some in
        let own : e.level ≡ level_of es = ap (λ (x : Entry). x.level) same ∙ high in
        omega (arith, own, low, lt)

-- the queue after a return
pub queue_back : (vars : ℕ) (es new : List Entry) (head level : ℕ) → IsTrail vars es → IsQueue head es → level ≤ level_of es
    → new ≡ up_to level es → new ≡ take (length new) es → IsQueue (min head (length new)) new
queue_back vars es new head level t q le kept front = ⊎_elim
    (λ (lt : level < level_of es).
    let short : length new ≤ head = shorter_back vars es new head level t q lt kept front in
    let at : length new ≡ min head (length new) = omega arith in
    subst (λ (h : ℕ). IsQueue h new) at (queue_empty new))
    (λ (ge : level_of es ≤ level).
    let whole : es ≡ new = sym (kept ∙ filter-low vars es level t ge) in
    let within : head ≤ length es = q.within in
    let at : head ≡ min head (length new) = omega (arith, ap length whole) in
    subst (λ (h : ℕ). IsQueue h new) at (subst (λ (xs : List Entry). IsQueue head xs) whole q))
    (cases_lt level (level_of es))

-- all stays guarded where a return is made
pub guarded_back_to : (vars : ℕ) (clauses : List (List ℤ)) (lists : List (List Watch)) (pairs : List Pair) (es new : List Entry)
    (head level : ℕ)
    → IsTrail vars es → IsQueue head es → level ≤ level_of es → new ≡ up_to level es → new ≡ take (length new) es
    → AreGuarded clauses lists pairs (take head es) es
    → AreGuarded clauses lists pairs (take (min head (length new)) new) new
guarded_back_to vars clauses lists pairs es new head level t q le kept front k =
    let seen : take (min head (length new)) new ≡ up_to level (take head es) =
    seen_back vars es new head level (min head (length new)) t q le kept front
    (λ (lt : level < level_of es). let short : length new ≤ head = shorter_back vars es new head level t q lt kept front in omega arith)
    (λ (same : level ≡ level_of es). let ge : level_of es ≤ level = omega arith in
    let whole : length new ≡ length es = ap length (kept ∙ filter-low vars es level t ge) in
    let within : head ≤ length es = q.within in omega arith) in
    subst (λ (xs : List Entry). AreGuarded clauses lists pairs (take (min head (length new)) new) xs) (sym kept)
    (subst (λ (xs : List Entry). AreGuarded clauses lists pairs xs (up_to level es)) (sym seen)
    (are_guarded_back clauses lists pairs (take head es) es level k))
