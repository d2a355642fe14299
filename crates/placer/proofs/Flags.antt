-- What flags say of the entry at a place.

use Rattle.std.proofs.Common.{◌≡◌, ◌≢◌, ℕ, ◌<◌, ◌≤◌, ◌⊎◌, Bool, true, false, not, ◌==◌, List, length, get_or, Some, refl, sym, ap, ◌∙◌, ⊎_elim, inl, inr, arith}
use Rattle.std.specs.Prelude.{slice_get, nat_lt, ◌&&◌, ◌||◌}
use Rattle.std.proofs.lemmas.Bool.{cases_lt, lt-ltb, ltb-true, eqb-true, eqb-false, true≢false}
use Rattle.std.proofs.lemmas.List.{get_or_past}
use Rattle.std.proofs.lemmas.Option.{slice_get-get_or, get_or_from_slice_get}
use Rattle.clause_base.specs.Lit.{var_of}
use Rattle.clause_base.specs.declared.entry.Entry.{Entry}
use Rattle.trail.specs.Assignment.{IsTrail}
use Rattle.placer.specs.Learning.{level_at}
use Rattle.placer.specs.Marking.{ArePlaces, is_resolved, is_used, is_kept}
use Rattle.placer.proofs.FalseEntries.{level_there}

-- the flags of an entry's variable, by its place and level
pub kept_is : (vars : ℕ) (es : List Entry) (places : List ℕ) (marks : List Bool) (point i : ℕ) (e : Entry) → IsTrail vars es
    → ArePlaces vars es places → slice_get es i ≡ Some e
    → is_kept es places marks point (var_of e.lit) ≡ (get_or marks i false && not (is_resolved point i e.level))
kept_is vars es places marks point i e t p there =
    ap (λ x. get_or marks x false && not (is_resolved point x (level_at (var_of e.lit) es)))
    (get_or_from_slice_get places (var_of e.lit) i 0 (p.told i e there))
    ∙ ap (λ l. get_or marks i false && not (is_resolved point i l)) (level_there es i e (λ k d at. (t k d at).fresh) there)

-- whether an entry's reason is used, by its place and level
pub used_is : (vars : ℕ) (es : List Entry) (places : List ℕ) (marks : List Bool) (point i : ℕ) (e : Entry) → IsTrail vars es
    → ArePlaces vars es places → slice_get es i ≡ Some e
    → is_used es places marks point (var_of e.lit) ≡ (get_or marks i false && is_resolved point i e.level)
used_is vars es places marks point i e t p there =
    ap (λ x. get_or marks x false && is_resolved point x (level_at (var_of e.lit) es))
    (get_or_from_slice_get places (var_of e.lit) i 0 (p.told i e there))
    ∙ ap (λ l. get_or marks i false && is_resolved point i l) (level_there es i e (λ k d at. (t k d at).fresh) there)

-- no variable has both flags
pub one_flag : (es : List Entry) (places : List ℕ) (marks : List Bool) (point v : ℕ) → is_used es places marks point v ≡ true
    → is_kept es places marks point v ≡ false
one_flag es places marks point v h = by (get_or marks (get_or places v 0) false) (is_resolved point (get_or places v 0) (level_at v es)) h
  where
    by : (m r : Bool) → (m && r) ≡ true → (m && not r) ≡ false
    by true true h = refl
    by true false h = cc
    by false r h = refl

-- whether an entry is resolved
resolved_cases : (point i level : ℕ) → is_resolved point i level ≡ true → (point < i) ⊎ (level ≡ 0)
resolved_cases point i level h = by (nat_lt point i) refl h
  where
    by : (b : Bool) → nat_lt point i ≡ b → (b || (level == 0)) ≡ true → (point < i) ⊎ (level ≡ 0)
    by true t h = inl (ltb-true point i t)
    by false t h = inr (eqb-true level 0 h)

-- an entry that is not resolved
resolved_not : (point i level : ℕ) → is_resolved point i level ≡ false → (i ≤ point) × (0 < level)
resolved_not point i level h = by (nat_lt point i) refl h
  where
    by : (b : Bool) → nat_lt point i ≡ b → (b || (level == 0)) ≡ false → (i ≤ point) × (0 < level)
    by true t h = cc
    by false t h = (
      ⊎_elim
          (λ (lt : point < i). absurd (true≢false (sym (lt-ltb point i lt) ∙ t)))
          (λ (le : i ≤ point). le)
          (cases_lt point i),
      let ne : level ≢ 0 = eqb-false level 0 h in omega arith,
    )

-- an entry up to the point above level 0 is not resolved
unresolved : (point i level : ℕ) → i ≤ point → 0 < level → is_resolved point i level ≡ false
unresolved point i level le above = by (is_resolved point i level) refl
  where
    by : (b : Bool) → is_resolved point i level ≡ b → b ≡ false
    by false t = refl
    by true t = ⊎_elim (λ (lt : point < i). absurd (omega arith)) (λ (none : level ≡ 0). absurd (omega arith))
        (resolved_cases point i level t)

-- what is known of an entry that is kept
pub record IsKeptEntry (marks : List Bool) (point i : ℕ) (e : Entry) : Type 0 where
  pub marked : slice_get marks i ≡ Some true
  pub within : i ≤ point
  pub above : 0 < e.level

-- what is known of an entry whose reason is used
pub record IsUsedEntry (marks : List Bool) (point i : ℕ) (e : Entry) : Type 0 where
  pub marked : slice_get marks i ≡ Some true
  pub resolved : (point < i) ⊎ (e.level ≡ 0)

-- a mark that is read is there
on_there : (marks : List Bool) (i : ℕ) → get_or marks i false ≡ true → slice_get marks i ≡ Some true
on_there marks i h = ⊎_elim
    (λ (lt : i < length marks). slice_get-get_or marks i false lt ∙ ap Some h)
    (λ (past : length marks ≤ i). absurd (true≢false (sym h ∙ get_or_past marks i false past)))
    (cases_lt i (length marks))

-- an entry with the flag is kept
pub kept_entry : (vars : ℕ) (es : List Entry) (places : List ℕ) (marks : List Bool) (point i : ℕ) (e : Entry) → IsTrail vars es
    → ArePlaces vars es places → slice_get es i ≡ Some e → is_kept es places marks point (var_of e.lit) ≡ true
    → IsKeptEntry marks point i e
kept_entry vars es places marks point i e t p there h =
    by (get_or marks i false) (is_resolved point i e.level) refl refl (sym (kept_is vars es places marks point i e t p there) ∙ h)
  where
    by : (m r : Bool) → get_or marks i false ≡ m → is_resolved point i e.level ≡ r → (m && not r) ≡ true → IsKeptEntry marks point i e
    by true false on not_resolved h = let q : (i ≤ point) × (0 < e.level) = resolved_not point i e.level not_resolved in
        record { marked = on_there marks i on; within = q.0; above = q.1 }
    by true true on r h = cc
    by false r on s h = cc

-- an entry with the flag is used
pub used_entry : (vars : ℕ) (es : List Entry) (places : List ℕ) (marks : List Bool) (point i : ℕ) (e : Entry) → IsTrail vars es
    → ArePlaces vars es places → slice_get es i ≡ Some e → is_used es places marks point (var_of e.lit) ≡ true
    → IsUsedEntry marks point i e
used_entry vars es places marks point i e t p there h =
    by (get_or marks i false) (is_resolved point i e.level) refl refl (sym (used_is vars es places marks point i e t p there) ∙ h)
  where
    by : (m r : Bool) → get_or marks i false ≡ m → is_resolved point i e.level ≡ r → (m && r) ≡ true → IsUsedEntry marks point i e
    by true true on r h = record { marked = on_there marks i on; resolved = resolved_cases point i e.level r }
    by true false on r h = cc
    by false r on s h = cc

-- a kept entry has the flag
pub entry_kept : (vars : ℕ) (es : List Entry) (places : List ℕ) (marks : List Bool) (point i : ℕ) (e : Entry) → IsTrail vars es
    → ArePlaces vars es places → slice_get es i ≡ Some e → IsKeptEntry marks point i e
    → is_kept es places marks point (var_of e.lit) ≡ true
entry_kept vars es places marks point i e t p there k =
    kept_is vars es places marks point i e t p there
    ∙ ap (λ b. b && not (is_resolved point i e.level)) (get_or_from_slice_get marks i true false k.marked)
    ∙ ap not (unresolved point i e.level k.within k.above)

-- a marked entry has a flag
pub entry_flagged : (vars : ℕ) (es : List Entry) (places : List ℕ) (marks : List Bool) (point i : ℕ) (e : Entry) → IsTrail vars es
    → ArePlaces vars es places → slice_get es i ≡ Some e → slice_get marks i ≡ Some true
    → (is_kept es places marks point (var_of e.lit) || is_used es places marks point (var_of e.lit)) ≡ true
entry_flagged vars es places marks point i e t p there on =
    ap (λ b. b || is_used es places marks point (var_of e.lit)) (kept_is vars es places marks point i e t p there)
    ∙ ap (λ b. (get_or marks i false && not (is_resolved point i e.level)) || b) (used_is vars es places marks point i e t p there)
    ∙ ap (λ m. (m && not (is_resolved point i e.level)) || (m && is_resolved point i e.level))
    (get_or_from_slice_get marks i true false on)
    ∙ both (is_resolved point i e.level)
  where
    both : (r : Bool) → (not r || r) ≡ true
    both true = refl
    both false = refl
