-- A test has a jump exactly where its labels stand as its clauses say.
use Rattle.std.proofs.Common.{◌≡◌, ℕ, ◌<◌, inl, inr, true, List, length, get_or, Option, Some, None, sym, ap, subst, ◌∙◌, arith}
use Rattle.std.specs.Prelude.{slice_get}
use Rattle.std.specs.Option.{option_map_or}
use Rattle.std.proofs.lemmas.Option.{slice_get_within, slice_get-get_or, same_Some}
use Rattle.std.proofs.lemmas.Bool.{cases_eq}
use Rattle.mcu_jumps.specs.declared.codes.Code.{Code}
use Rattle.mcu_jumps.specs.declared.kinds.Kind.{Kind}
use Rattle.mcu_jumps.specs.Position.{Position, IsCell}
use Rattle.mcu_jumps.specs.JumpWord.{JumpWord, operand_count}
use Rattle.mcu_jumps.specs.NextAddress.{row_after, col_after, lands}
use Rattle.place_model.specs.Cells.{IsAt}
use Rattle.place_model.specs.Legal.{origin}
use Rattle.placement_clauses.proofs.CanJump.{CanJump}
use Rattle.placement_clauses.specs.Meaning.{row_at, col_at}
use Rattle.placement_clauses.specs.Reaching.{reaches, col_of}
use Rattle.placement_clauses.proofs.KindLemmas.{IsKindOf}
use Rattle.placement_clauses.proofs.TestLemmas.{TestFits, InRange}
use Rattle.placement_clauses.proofs.TrapLemmas.{TrapsFree}

-- the row of a label by its cell
pub row-of : (place : List Position) (i : ℕ) (p : Position) → slice_get place i ≡ Some p → row_at place i ≡ p.row
row-of place i p e = ap (λ (o : Option Position). option_map_or (λ (p : Position). p.row) o 0) e

-- the column of a label by its cell
pub col-of : (place : List Position) (i : ℕ) (p : Position) → slice_get place i ≡ Some p → col_at place i ≡ p.col
col-of place i p e = ap (λ (o : Option Position). option_map_or (λ (p : Position). p.col) o 0) e

-- each label has a cell
pub cell-at : (place : List Position) (n i : ℕ) → length place ≡ n → i < n → (p : Position) × (slice_get place i ≡ Some p)
cell-at place n i len lt = (get_or place i origin, slice_get-get_or place i origin (omega arith))

-- a cell by its row and column
pub same_cell : (p q : Position) → p.row ≡ q.row → p.col ≡ q.col → p ≡ q
same_cell p q e f = λ i. record { row = e i; col = f i }

-- the test's jump
pub can-test : (place : List Position) (n : ℕ) (k : Kind) (c : Code) (s : ℕ) (ts : List (Option ℕ)) (e x : ℕ) (from : Position)
    → IsKindOf k c → length place ≡ n → ((i : ℕ) (p : Position) → slice_get place i ≡ Some p → IsCell p)
    → slice_get place s ≡ Some from → slice_get ts e ≡ Some (Some x) → InRange ts n
    → TestFits k (row_at place) (col_at place) s ts x → TrapsFree k n (row_at place) (col_at place) s ts x
    → (j : JumpWord) × CanJump place k ts from j
unfolding InRange TrapsFree
can-test place n k c s ts e x from is len cells at first in_range fits free = (
  record { code = c; operand = d.0 },
  record {
    jump = d.1;
    admitted = is.admits d.0;
    landings = λ o t there. land o t there;
  },
)
  where
    x_in : x < n
    x_in = in_range e x first

    px : (p : Position) × (slice_get place x ≡ Some p)
    px = cell-at place n x len x_in

    from_row : row_at place s ≡ from.row
    from_row = row-of place s from at

    from_col : col_at place s ≡ from.col
    from_col = col-of place s from at

    x_row : row_at place x ≡ px.0.row
    x_row = row-of place x px.0 px.1

    reach : reaches k from.row (row_at place x) ≡ true
    reach = ap (λ r. reaches k r (row_at place x)) (sym from_row) ∙ fits.reach

    d : (d : ℕ) × (d < operand_count c) × (row_after c from.row d ≡ row_at place x)
    d = is.operand from.row (row_at place x) (cells s from at).row (subst (λ r. r < 32) (sym x_row) (cells x px.0 px.1).row) reach

    col : (o : ℕ) → col_after c from.col d.0 o ≡ col_of k o (col_at place s)
    col o = is.cols from.col d.0 o ∙ ap (col_of k o) (sym from_col)

    land : (o : ℕ) (t : Option ℕ) → slice_get ts o ≡ Some t
        → IsAt place t (record { row = row_after c from.row d.0; col = col_after c from.col d.0 o })
    land o (Some y) there =
        let py = cell-at place n y len (in_range o y there) in
        let to : Position = record { row = row_after c from.row d.0; col = col_after c from.col d.0 o } in
        py.1 ∙ ap Some (same_cell py.0 to (sym (row-of place y py.0 py.1) ∙ sym (fits.rows o y there) ∙ sym d.2)
        (sym (col-of place y py.0 py.1) ∙ fits.cols o y there ∙ sym (col o)))
    land o None there = λ (i : ℕ) (here : slice_get place i ≡ Some (record {
      row = row_after c from.row d.0;
      col = col_after c from.col d.0 o;
    })).
        let to : Position = record { row = row_after c from.row d.0; col = col_after c from.col d.0 o } in
        let i_row : row_at place i ≡ row_at place x = row-of place i to here ∙ d.2 in
        let i_col : col_at place i ≡ col_of k o (col_at place s) = col-of place i to here ∙ col o in
        elim (cases_eq i x) as (λ _. ⊥) [
          | inl is_x ↦
              let twice : col_of k e (col_at place s) ≡ col_of k o (col_at place s) = sym (fits.cols e x first)
              ∙ ap (col_at place) (sym is_x) ∙ i_col in
              let one : e ≡ o = is.one_col (col_at place s) e o twice in
              let both : Some (Some x) ≡ Some None = sym first ∙ ap (slice_get ts) one ∙ there in
              let inner : Some x ≡ None = same_Some (Some x) None both in
              cc
          | inr other ↦ let within : i < length place = slice_get_within place i to here in
              free o i there (omega arith) other (sym i_row) i_col
        ]

-- what a jump of a test says
pub test-fits : (place : List Position) (n : ℕ) (k : Kind) (c : Code) (s : ℕ) (ts : List (Option ℕ)) (e x : ℕ) (from : Position)
    (j : JumpWord) → IsKindOf k c → length place ≡ n → ((i : ℕ) (p : Position) → slice_get place i ≡ Some p → IsCell p)
    → slice_get place s ≡ Some from → slice_get ts e ≡ Some (Some x) → CanJump place k ts from j
    → TestFits k (row_at place) (col_at place) s ts x × TrapsFree k n (row_at place) (col_at place) s ts x
unfolding TrapsFree
test-fits place n k c s ts e x from j is len cells at first can = (
  record {
    reach = ap (λ r. reaches k r (row_at place x)) from_row ∙ ap (reaches k from.row) (row e x first)
        ∙ is.reached from.row j.operand (cells s from at).row d_in;
    rows = λ o y there. row e x first ∙ sym (row o y there);
    cols = λ o y there. col-of place y (lands from j o) (can.landings o (Some y) there) ∙ col o;
  },
  λ o z there z_in ne same_row same_col.
      let pz = cell-at place n z len z_in in
      can.landings o None there z (pz.1 ∙ ap Some (same_cell pz.0 (lands from j o)
      (sym (row-of place z pz.0 pz.1) ∙ sym same_row ∙ row e x first ∙ sym code_row)
      (sym (col-of place z pz.0 pz.1) ∙ same_col ∙ sym (col o)))),
)
  where
    is_code : j.code ≡ c
    is_code = is.admitted j can.admitted

    from_row : row_at place s ≡ from.row
    from_row = row-of place s from at

    from_col : col_at place s ≡ from.col
    from_col = col-of place s from at

    d_in : j.operand < operand_count c
    d_in = subst (λ c. j.operand < operand_count c) is_code can.jump

    code_row : row_after j.code from.row j.operand ≡ row_after c from.row j.operand
    code_row = ap (λ c. row_after c from.row j.operand) is_code

    row : (o y : ℕ) → slice_get ts o ≡ Some (Some y) → row_at place y ≡ row_after c from.row j.operand
    row o y there = row-of place y (lands from j o) (can.landings o (Some y) there) ∙ code_row

    col : (o : ℕ) → col_after j.code from.col j.operand o ≡ col_of k o (col_at place s)
    col o = ap (λ c. col_after c from.col j.operand o) is_code ∙ is.cols from.col j.operand o ∙ ap (col_of k o) (sym from_col)
