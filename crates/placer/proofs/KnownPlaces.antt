-- Which places stay right while entries are added or taken back.

use Rattle.std.proofs.Common.{◌≡◌, ℕ, zero, suc, ◌<◌, ◌≤◌, Bool, true, false, cond, List, [], ◌∷◌, ◌++◌, length, take, Some, refl, sym, ap, subst, ◌∙◌, arith}
use Rattle.std.specs.Prelude.{slice_get, nat_le}
use Rattle.std.proofs.lemmas.Bool.Decides.{nat_tests}
use Rattle.std.proofs.lemmas.List.{get_or-take, length-append, length-take-le, take-append-le}
use Rattle.std.proofs.lemmas.Option.{slice_get-get_or, slice_get_within, get_or_from_slice_get}
use Rattle.clause_base.specs.Clauses.{Clauses}
use Rattle.clause_base.specs.declared.entry.Entry.{Entry}
use Rattle.propagate.specs.Propagation.{Extends}
use Rattle.propagate.specs.Standing.{Standing, up_to}
use Rattle.trail.specs.Assignment.{Assignment, IsLevelled}
use Rattle.placer.proofs.FalseEntries.{take_entry, level_rises}
use Rattle.placer.specs.Marking.{ArePlaces}
use Rattle.placer.specs.Ready.{IsReady}
use Rattle.placer.specs.declared.workspace.Workspace.{Workspace}

-- an entry below a place is among the first
pub among_first : (es : List Entry) (n i : ℕ) (e : Entry) → n ≤ length es → i < n → slice_get es i ≡ Some e
    → slice_get (take n es) i ≡ Some e
among_first es n i e le lt there =
    let size : length (take n es) ≡ n = length-take-le n es le in
    let within : i < length (take n es) = omega arith in
    slice_get-get_or (take n es) i e within ∙ ap Some (get_or-take n es i e lt ∙ get_or_from_slice_get es i e e there)

-- where all entries are above a level, none is kept
up_to_none : (l : ℕ) (es : List Entry) → ((i : ℕ) (e : Entry) → slice_get es i ≡ Some e → l < e.level) → up_to l es ≡ []
up_to_none l [] high = refl
up_to_none l (x ∷ es) high =
    let above : l < x.level = high 0 x refl in
    let no : nat_le x.level l ≡ false = grind (arith, nat_tests) in
    ap (λ b. cond b (x ∷ up_to l es) (up_to l es)) no ∙ up_to_none l es (λ i e there. high (suc i) e there)

-- there is no entry where there are none
no_entry : (k : ℕ) (e : Entry) → slice_get {X = Entry} [] k ≡ Some e → ⊥
no_entry k e h = let lt : k < length {A = Entry} [] = slice_get_within [] k e h in omega arith

-- where levels never fall, an entry that a return keeps keeps its place
pub kept_place : (l : ℕ) (es : List Entry)
    → ((i j : ℕ) (d e : Entry) → i < j → slice_get es i ≡ Some d → slice_get es j ≡ Some e → d.level ≤ e.level) → (i : ℕ) (e : Entry)
    → slice_get (up_to l es) i ≡ Some e → slice_get es i ≡ Some e
kept_place l [] rising i e there = there
kept_place l (x ∷ es) rising i e there = by (nat_le x.level l) refl
    (λ k h. kept_place l es (λ i j d e lt at there. rising (suc i) (suc j) d e (omega arith) at there) k e h) i there
  where
    by : (b : Bool) → nat_le x.level l ≡ b → ((k : ℕ) → slice_get (up_to l es) k ≡ Some e → slice_get es k ≡ Some e) → (k : ℕ)
        → slice_get (cond b (x ∷ up_to l es) (up_to l es)) k ≡ Some e → slice_get (x ∷ es) k ≡ Some e
    by true t rest zero h = h
    by true t rest (suc k) h = rest k h
    by false t rest k h =
        let above : l < x.level = grind (arith, nat_tests) in
        let high : (i : ℕ) (d : Entry) → slice_get es i ≡ Some d → l < d.level =
        λ i d at. let le : x.level ≤ d.level = rising 0 (suc i) x d (omega arith) refl at in omega arith in
        let none : slice_get {X = Entry} [] k ≡ Some e = ap (λ (xs : List Entry). slice_get xs k) (sym (up_to_none l es high)) ∙ h in
        absurd (no_entry k e none)

-- entries are added
pub IsReady_more : (vars : ℕ) (es more : List Entry) (w : Workspace) → IsReady vars es w → IsReady vars (es ++ more) w
IsReady_more vars es more w r =
    let le : w.known ≤ length es = r.within in
    record {
      within = omega (arith, length-append es more);
      told = subst (λ (xs : List Entry). ArePlaces vars xs w.places.items) (sym (take-append-le w.known es more le)) r.told;
      blank = r.blank;
    }

-- propagation adds entries
pub IsReady_settled : (old new : Standing) (w : Workspace) → IsReady old.list.vars old.trail.entries w → new.list ≡ old.list
    → Extends old.trail.entries new.trail.entries → IsReady new.list.vars new.trail.entries w
IsReady_settled old new w r list x =
    subst (λ (v : ℕ). IsReady v new.trail.entries w) (ap (λ (l : Clauses). l.vars) (sym list))
    (subst (λ (xs : List Entry). IsReady old.list.vars xs w) (sym x.split) (IsReady_more old.list.vars old.trail.entries x.added w r))

-- a decision adds one
pub IsReady_decided : (old new : Standing) (w : Workspace) (d : Entry) → IsReady old.list.vars old.trail.entries w → new.list ≡ old.list
    → new.trail ≡ record { vars = old.trail.vars; entries = old.trail.entries ++ d ∷ [] } → IsReady new.list.vars new.trail.entries w
IsReady_decided old new w d r list trail =
    subst (λ (v : ℕ). IsReady v new.trail.entries w) (ap (λ (l : Clauses). l.vars) (sym list))
    (subst (λ (xs : List Entry). IsReady old.list.vars xs w) (ap (λ (a : Assignment). a.entries) (sym trail))
    (IsReady_more old.list.vars old.trail.entries (d ∷ []) w r))

-- entries are taken back, and of the places those of the first ones stay noted
pub ArePlaces_back : (vars l n : ℕ) (es : List Entry) (places : List ℕ) → IsLevelled es → n ≤ length (up_to l es)
    → ArePlaces vars es places → ArePlaces vars (take n (up_to l es)) places
ArePlaces_back vars l n es places levelled le p = record {
  sized = p.sized;
  told = λ i e h.
      let at = take_entry (up_to l es) n i e le h in
      p.told i e (kept_place l es (λ i j d e lt at there. level_rises es levelled i j d e lt at there) i e at.1);
}
