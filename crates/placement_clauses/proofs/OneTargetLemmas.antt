-- A statement with one target has a jump exactly where the target stands as its clauses say.
use Rattle.std.proofs.Common.{◌≡◌, ℕ, ◌+◌, ◌*◌, ◌/◌, ◌%◌, ◌<◌, ◌⊎◌, inl, inr, Bool, true, List, ◌++◌, length, ℤ, Option, Some, refl, sym, ap, subst, ◌∙◌, arith}
use Rattle.std.specs.Prelude.{slice_get, is_some}
use Rattle.std.specs.List.{list_any}
use Rattle.std.proofs.lemmas.List.Elements.{All-nil, All-append}
use Rattle.std.proofs.lemmas.Option.{slice_get_within, same_Some}
use Rattle.std.proofs.lemmas.Bool.{eqb-true, eq-eqb}
use Rattle.mcu_jumps.specs.declared.codes.Code.{Code}
use Rattle.mcu_jumps.specs.declared.codes.Code.TheVariants as code
use Rattle.mcu_jumps.specs.declared.kinds.Kind.{Kind}
use Rattle.mcu_jumps.specs.declared.kinds.Kind.TheVariants as kind
use Rattle.mcu_jumps.specs.Position.{Position}
use Rattle.mcu_jumps.specs.JumpWord.{JumpWord, IsJump, operand_count}
use Rattle.mcu_jumps.specs.NextAddress.{row_after, col_after, lands}
use Rattle.mcu_jumps.specs.Landing.{Admits, AdmitsGoto}
use Rattle.place_model.specs.Cells.{IsAt}
use Rattle.clause_base.specs.TruthValues.{clause_holds, AllHold}
use Rattle.placement_clauses.specs.Number.{col_var}
use Rattle.placement_clauses.specs.Shape.{same}
use Rattle.placement_clauses.specs.FirstLabel.{first_real, first_label}
use Rattle.placement_clauses.specs.Reaching.{reaches}
use Rattle.placement_clauses.specs.Clauses.{reach_clauses, trap_outcome, trap_clauses}
use Rattle.placement_clauses.specs.Meaning.{row_at, col_at}
use Rattle.clause_base.proofs.ListLemmas.{All-append_left, All-append_right}
use Rattle.placement_clauses.proofs.TruthLemmas.{hot-here, hot-is, same-holds, holds-same}
use Rattle.placement_clauses.proofs.PlacedLemmas.{IsPlaced, GotoFits}
use Rattle.placement_clauses.proofs.FirstReal.{first-there}
use Rattle.placement_clauses.proofs.CanJump.{CanJump}
use Rattle.placement_clauses.proofs.TestLemmas.{holds-each, reach-holds, holds-reach}
use Rattle.placement_clauses.proofs.JumpLemmas.{row-of, col-of, same_cell, cell-at}

-- a statement at a cell with one target, the label m
pub record OneTarget (a : ℕ → Bool) (n : ℕ) (place : List Position) (s : ℕ) (from : Position) (ts : List (Option ℕ)) (m : ℕ)
    : Type 0 where
  pub placed : IsPlaced a n (row_at place) (col_at place)
  pub count : length place ≡ n
  pub at : slice_get place s ≡ Some from
  pub source : s < n
  pub target : m < n
  pub alone : (o : ℕ) (t : Option ℕ) → slice_get ts o ≡ Some t → t ≡ Some m
  pub first : slice_get ts 0 ≡ Some (Some m)

-- where there is one outcome, its target is the first label
pub first-target : (ts : List (Option ℕ)) → length ts ≡ 1 → list_any is_some ts ≡ true → slice_get ts 0 ≡ Some (Some (first_label ts))
first-target ts one_long some =
    let there = first-there ts some in
    let within : first_real ts < length ts = slice_get_within ts (first_real ts) (Some (first_label ts)) there in
    let zero : first_real ts ≡ 0 = omega arith in
    ap (slice_get ts) (sym zero) ∙ there

-- and there is no other target
pub only-target : (ts : List (Option ℕ)) → length ts ≡ 1 → list_any is_some ts ≡ true → (o : ℕ) (t : Option ℕ) → slice_get ts o ≡ Some t
    → t ≡ Some (first_label ts)
only-target ts one_long some o t e =
    let within : o < length ts = slice_get_within ts o t e in
    let zero : o ≡ 0 = omega arith in
    same_Some t (Some (first_label ts)) (sym e ∙ ap (slice_get ts) zero ∙ first-target ts one_long some)

-- no outcome is the trap, so class 5 has no clause
pub holds-no_traps : (a : ℕ → Bool) (n : ℕ) (k : Kind) (ts : List (Option ℕ)) (m : ℕ)
    → ((o : ℕ) (t : Option ℕ) → slice_get ts o ≡ Some t → t ≡ Some m) → AllHold a (trap_clauses n k ts)
unfolding trap_clauses
holds-no_traps a n k ts m alone =
    holds-each a ts (trap_outcome n k (first_label ts) (first_real ts)) (λ o t e.
    subst (λ (t : Option ℕ). AllHold a (trap_outcome n k (first_label ts) (first_real ts) o t)) (sym (alone o t e))
    (All-nil (λ c. clause_holds a c ≡ true)))

-- a jump that lands on the target
one-jump : (a : ℕ → Bool) (n : ℕ) (place : List Position) (s : ℕ) (from : Position) (ts : List (Option ℕ)) (m : ℕ) (k : Kind)
    (j : JumpWord) → OneTarget a n place s from ts m → IsJump j → Admits k j
    → row_at place m ≡ row_after j.code from.row j.operand → ((o : ℕ) → col_at place m ≡ col_after j.code from.col j.operand o)
    → (j : JumpWord) × CanJump place k ts from j
one-jump a n place s from ts m k j w jump admitted row col = (j, record { jump = jump; admitted = admitted; landings = land })
  where
    land : (o : ℕ) (t : Option ℕ) → slice_get ts o ≡ Some t → IsAt place t (lands from j o)
    land o t there =
        let p = cell-at place n m w.count w.target in
        subst (λ (t : Option ℕ). IsAt place t (lands from j o)) (sym (w.alone o t there))
        (p.1 ∙ ap Some (same_cell p.0 (lands from j o) (sym (row-of place m p.0 p.1) ∙ row) (sym (col-of place m p.0 p.1) ∙ col o)))

-- the row and the column of the target, by a jump
lands-row : (place : List Position) (from : Position) (ts : List (Option ℕ)) (m : ℕ) (k : Kind) (j : JumpWord)
    → slice_get ts 0 ≡ Some (Some m) → CanJump place k ts from j → row_at place m ≡ row_after j.code from.row j.operand
lands-row place from ts m k j first can = row-of place m (lands from j 0) (can.landings 0 (Some m) first)

-- the column of the target, by a jump
lands-col : (place : List Position) (from : Position) (ts : List (Option ℕ)) (m : ℕ) (k : Kind) (j : JumpWord)
    → slice_get ts 0 ≡ Some (Some m) → CanJump place k ts from j → col_at place m ≡ col_after j.code from.col j.operand 0
lands-col place from ts m k j first can = col-of place m (lands from j 0) (can.landings 0 (Some m) first)

-- `goto` becomes JCC within one column, JZR to row 0 below column 15, JCR within one row
pub can-goto : (a : ℕ → Bool) (n : ℕ) (place : List Position) (s : ℕ) (from : Position) (ts : List (Option ℕ)) (m : ℕ)
    → OneTarget a n place s from ts m → GotoFits (row_at place) (col_at place) s m → (j : JumpWord) × CanJump place kind.Goto ts from j
unfolding GotoFits
can-goto a n place s from ts m w (inl cols) =
    one-jump a n place s from ts m kind.Goto (record { code = code.Jcc; operand = row_at place m }) w
    (w.placed.rows m w.target).within tt refl (λ o. sym cols ∙ col-of place s from w.at)
can-goto a n place s from ts m w (inr (inl low)) =
    one-jump a n place s from ts m kind.Goto (record { code = code.Jzr; operand = col_at place m }) w
    (w.placed.cols m w.target).within low.1 low.0 (λ o. refl)
can-goto a n place s from ts m w (inr (inr rows)) =
    one-jump a n place s from ts m kind.Goto (record { code = code.Jcr; operand = col_at place m }) w (w.placed.cols m w.target).within tt
    (sym rows ∙ row-of place s from w.at) (λ o. refl)

-- and the other way round
pub goto-fits : (a : ℕ → Bool) (n : ℕ) (place : List Position) (s : ℕ) (from : Position) (ts : List (Option ℕ)) (m : ℕ) (j : JumpWord)
    → OneTarget a n place s from ts m → CanJump place kind.Goto ts from j → GotoFits (row_at place) (col_at place) s m
unfolding GotoFits
goto-fits a n place s from ts m j w can =
    by j.code j.operand can.admitted (lands-row place from ts m kind.Goto j w.first can)
    (lands-col place from ts m kind.Goto j w.first can)
  where
    by : (c : Code) (d : ℕ) → AdmitsGoto c d → row_at place m ≡ row_after c from.row d → col_at place m ≡ col_after c from.col d 0
        → (col_at place s ≡ col_at place m) ⊎ (((row_at place m ≡ 0) × (col_at place m < 15)) ⊎ (row_at place s ≡ row_at place m))
    by code.Jcc d h rows cols = inl (col-of place s from w.at ∙ sym cols)
    by code.Jzr d h rows cols = inr (inl (rows, subst (λ c. c < 15) (sym cols) h))
    by code.Jcr d h rows cols = inr (inr (row-of place s from w.at ∙ sym rows))
    by _ d h rows cols = absurd h

-- `strobe` becomes JZR 15, so its target is at row 0, column 15
pub can-strobe : (a : ℕ → Bool) (n : ℕ) (place : List Position) (s : ℕ) (from : Position) (ts : List (Option ℕ)) (m : ℕ)
    → OneTarget a n place s from ts m → row_at place m ≡ 0 → col_at place m ≡ 15 → (j : JumpWord) × CanJump place kind.Strobe ts from j
can-strobe a n place s from ts m w row col =
    one-jump a n place s from ts m kind.Strobe (record { code = code.Jzr; operand = 15 }) w (omega arith) (refl, refl) row (λ o. col)

-- and the other way round
pub strobe-fits : (place : List Position) (from : Position) (ts : List (Option ℕ)) (m : ℕ) (j : JumpWord) → slice_get ts 0 ≡ Some (Some m)
    → CanJump place kind.Strobe ts from j → (row_at place m ≡ 0) × (col_at place m ≡ 15)
strobe-fits place from ts m j first can = (
  lands-row place from ts m kind.Strobe j first can ∙ ap (λ c. row_after c from.row j.operand) can.admitted.0,
  lands-col place from ts m kind.Strobe j first can ∙ ap (λ c. col_after c from.col j.operand 0) can.admitted.0 ∙ can.admitted.1,
)

-- where the target of `enable` stands
pub record EnableFits (place : List Position) (s m : ℕ) : Type 0 where
  pub cols : col_at place s ≡ col_at place m
  pub reach : reaches kind.Enable (row_at place s) (row_at place m) ≡ true

-- `enable` becomes JCE, within one column and one group of eight rows
pub can-enable : (a : ℕ → Bool) (n : ℕ) (place : List Position) (s : ℕ) (from : Position) (ts : List (Option ℕ)) (m : ℕ)
    → OneTarget a n place s from ts m → EnableFits place s m → (j : JumpWord) × CanJump place kind.Enable ts from j
can-enable a n place s from ts m w fits =
    let group : row_at place m / 8 ≡ row_at place s / 8 = eqb-true (row_at place m / 8) (row_at place s / 8) fits.reach in
    let from_row : row_at place s ≡ from.row = row-of place s from w.at in
    one-jump a n place s from ts m kind.Enable (record { code = code.Jce; operand = row_at place m % 8 }) w (omega arith) refl
    (in_group (row_at place m) (row_at place s) from.row group from_row) (λ o. sym fits.cols ∙ col-of place s from w.at)
  where
    in_group : (q r f : ℕ) → q / 8 ≡ r / 8 → r ≡ f → q ≡ 8 * (f / 8) + q % 8
    in_group q r f group same = let g : q / 8 ≡ f / 8 = group ∙ ap (λ v. v / 8) same in omega arith

-- and the other way round
pub enable-fits : (a : ℕ → Bool) (n : ℕ) (place : List Position) (s : ℕ) (from : Position) (ts : List (Option ℕ)) (m : ℕ) (j : JumpWord)
    → OneTarget a n place s from ts m → CanJump place kind.Enable ts from j → EnableFits place s m
enable-fits a n place s from ts m j w can =
    let below : j.operand < 8 = subst (λ c. j.operand < operand_count c) can.admitted can.jump in
    let row : row_at place m ≡ 8 * (from.row / 8) + j.operand = lands-row place from ts m kind.Enable j w.first can
    ∙ ap (λ c. row_after c from.row j.operand) can.admitted in
    let col : col_at place m ≡ from.col = lands-col place from ts m kind.Enable j w.first can
    ∙ ap (λ c. col_after c from.col j.operand 0) can.admitted in
    record {
      cols = col-of place s from w.at ∙ sym col;
      reach = eq-eqb (row_at place m / 8) (row_at place s / 8)
          (in_group (row_at place m) (row_at place s) from.row j.operand row (row-of place s from w.at) below);
    }
  where
    in_group : (q r f d : ℕ) → q ≡ 8 * (f / 8) + d → r ≡ f → d < 8 → q / 8 ≡ r / 8
    in_group q r f d row same below = omega arith

-- the clauses of `enable` say where its target stands
pub enable-holds : (a : ℕ → Bool) (n : ℕ) (place : List Position) (s m : ℕ) → IsPlaced a n (row_at place) (col_at place) → s < n → m < n
    → AllHold a (same 16 (col_var s 0) (col_var m 0) ++ reach_clauses kind.Enable s m) → EnableFits place s m
enable-holds a n place s m p s_in m_in h =
    let P : List ℤ → Type 0 = λ c. clause_holds a c ≡ true in
    let cols = p.cols s s_in in
    let cols_hold : AllHold a (same 16 (col_var s 0) (col_var m 0)) =
    All-append_left P (same 16 (col_var s 0) (col_var m 0)) (reach_clauses kind.Enable s m) h in
    let here : a (col_var m 0 + col_at place s) ≡ true =
    same-holds a 16 (col_var s 0) (col_var m 0) cols.above cols_hold (col_at place s) cols.within
    (hot-here a 16 (col_var s 0) (col_at place s) (col_at place s) cols refl) in
    record {
      cols = sym (hot-is a 16 (col_var m 0) (col_at place m) (col_at place s) (p.cols m m_in) cols.within here);
      reach = reach-holds a kind.Enable s m (row_at place s) (row_at place m) (p.rows s s_in) (p.rows m m_in)
          (All-append_right P (same 16 (col_var s 0) (col_var m 0)) (reach_clauses kind.Enable s m) h);
    }

-- and the other way round
pub holds-enable : (a : ℕ → Bool) (n : ℕ) (place : List Position) (s m : ℕ) → IsPlaced a n (row_at place) (col_at place) → s < n → m < n
    → EnableFits place s m → AllHold a (same 16 (col_var s 0) (col_var m 0) ++ reach_clauses kind.Enable s m)
holds-enable a n place s m p s_in m_in fits =
    All-append (λ c. clause_holds a c ≡ true) (same 16 (col_var s 0) (col_var m 0)) (reach_clauses kind.Enable s m)
    (holds-same a 16 (col_var s 0) (col_var m 0) (p.cols s s_in).above (λ c lt here.
    hot-here a 16 (col_var m 0) (col_at place m) c (p.cols m m_in)
    (sym fits.cols ∙ hot-is a 16 (col_var s 0) (col_at place s) c (p.cols s s_in) lt here)))
    (holds-reach a kind.Enable s m (row_at place s) (row_at place m) (p.rows s s_in) (p.rows m m_in) fits.reach)
