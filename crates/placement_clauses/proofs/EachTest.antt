-- Each kind of test at once.
use Rattle.std.proofs.Common.{◌≡◌, ◌≢◌, ℕ, ◌<◌, ◌≤◌, ◌⊎◌, inl, inr, Bool, true, false, List, length, Option, Some, refl, sym, subst, arith}
use Rattle.std.specs.Prelude.{slice_get, is_some}
use Rattle.std.specs.List.{list_any}
use Rattle.std.proofs.lemmas.Option.{slice_get_within}
use Rattle.mcu_jumps.specs.Position.{Position, IsCell}
use Rattle.mcu_jumps.specs.JumpWord.{JumpWord}
use Rattle.mcu_jumps.specs.declared.kinds.Kind.{Kind}
use Rattle.mcu_jumps.specs.declared.kinds.Kind.TheVariants as kind
use Rattle.mcu_jumps.specs.declared.codes.Code.{Code}
use Rattle.mcu_jumps.specs.declared.codes.Code.TheVariants as code
use Rattle.mcu_jumps.specs.Landing.{outcomes_of}
use Rattle.clause_base.specs.TruthValues.{AllHold}
use Rattle.placement_clauses.specs.Number.{pair_var}
use Rattle.placement_clauses.proofs.CanJump.{CanJump}
use Rattle.placement_clauses.specs.Meaning.{row_at, col_at}
use Rattle.placement_clauses.specs.Reaching.{keeps_half}
use Rattle.placement_clauses.specs.Clauses.{test_clauses, flow_clauses, trap_clauses}
use Rattle.placement_clauses.specs.FirstLabel.{first_label, first_real}
use Rattle.placement_clauses.proofs.PlacedLemmas.{IsPlaced, Differ}
use Rattle.placement_clauses.proofs.TestLemmas.{holds-test, InRange, test-holds, HasCols, TestFits}
use Rattle.placement_clauses.proofs.TrapLemmas.{hold-traps, traps-hold, apart-any, TrapsFree}
use Rattle.placement_clauses.proofs.KindLemmas.{IsKindOf, cols_iff, kind_iff, cols_ifc, kind_ifc, cols_ifz, kind_ifz, cols_onpr, kind_onpr, cols_onpx, kind_onpx, cols_onleft, kind_onleft, cols_onright, kind_onright}
use Rattle.placement_clauses.proofs.FirstReal.{first-there}
use Rattle.placement_clauses.proofs.JumpLemmas.{can-test, test-fits}

-- a kind of test: its code, its columns, and that its clauses are those of a test
pub record IsTest (k : Kind) (c : Code) : Type 0 where
  pub kind : IsKindOf k c
  pub cols : HasCols k (outcomes_of k)
  pub few : (outcomes_of k ≤ 6) ⊎ (keeps_half k ≡ false)
  pub clauses : (n s : ℕ) (ts : List (Option ℕ)) → flow_clauses n s k ts ≡ test_clauses k s ts (first_real ts) (first_label ts)

-- `iff` becomes JFL
pub test_iff : IsTest kind.IfF code.Jfl
unfolding flow_clauses
test_iff = record { kind = kind_iff; cols = cols_iff; few = inl (omega arith); clauses = λ n s ts. refl }

-- `ifc` becomes JCF
pub test_ifc : IsTest kind.IfC code.Jcf
unfolding flow_clauses
test_ifc = record { kind = kind_ifc; cols = cols_ifc; few = inl (omega arith); clauses = λ n s ts. refl }

-- `ifz` becomes JZF
pub test_ifz : IsTest kind.IfZ code.Jzf
unfolding flow_clauses
test_ifz = record { kind = kind_ifz; cols = cols_ifz; few = inl (omega arith); clauses = λ n s ts. refl }

-- `onpr` becomes JPR
pub test_onpr : IsTest kind.OnPr code.Jpr
unfolding flow_clauses
test_onpr = record { kind = kind_onpr; cols = cols_onpr; few = inr refl; clauses = λ n s ts. refl }

-- `onpx` becomes JPX
pub test_onpx : IsTest kind.OnPx code.Jpx
unfolding flow_clauses
test_onpx = record { kind = kind_onpx; cols = cols_onpx; few = inr refl; clauses = λ n s ts. refl }

-- `onleft` becomes JLL
pub test_onleft : IsTest kind.OnLeft code.Jll
unfolding flow_clauses
test_onleft = record { kind = kind_onleft; cols = cols_onleft; few = inr refl; clauses = λ n s ts. refl }

-- `onright` becomes JRL
pub test_onright : IsTest kind.OnRight code.Jrl
unfolding flow_clauses
test_onright = record { kind = kind_onright; cols = cols_onright; few = inr refl; clauses = λ n s ts. refl }

-- the jump of a test, by its clauses
pub test-jump : (a : ℕ → Bool) (n : ℕ) (place : List Position) (s : ℕ) (from : Position) (k : Kind) (c : Code) (ts : List (Option ℕ))
    → IsTest k c
    → IsPlaced a n (row_at place) (col_at place) → length place ≡ n → ((i : ℕ) (p : Position) → slice_get place i ≡ Some p → IsCell p)
    → ((i j : ℕ) → i < j → j < n → Differ a n (row_at place) (col_at place) i j) → slice_get place s ≡ Some from → s < n
    → length ts ≡ outcomes_of k → list_any is_some ts ≡ true → InRange ts n
    → AllHold a (flow_clauses n s k ts) → AllHold a (trap_clauses n k ts) → (j : JumpWord) × CanJump place k ts from j
unfolding InRange
test-jump a n place s from k c ts is p len cells differ at s_in count some in_range h traps =
    can-test place n k c s ts (first_real ts) (first_label ts) from is.kind len cells at there in_range fits
    (traps-hold a n (row_at place) (col_at place) k s ts p has s_in x_in
    (λ x z x_in z_in ne. apart-any a n (row_at place) (col_at place) differ x z x_in z_in ne)
    (fits.cols (first_real ts) (first_label ts) there) traps)
  where
    there : slice_get ts (first_real ts) ≡ Some (Some (first_label ts))
    there = first-there ts some

    x_in : first_label ts < n
    x_in = in_range (first_real ts) (first_label ts) there

    has : HasCols k (length ts)
    has = subst (HasCols k) (sym count) is.cols

    here : AllHold a (test_clauses k s ts (first_real ts) (first_label ts))
    here = subst (AllHold a) (is.clauses n s ts) h

    fits : TestFits k (row_at place) (col_at place) s ts (first_label ts)
    fits = test-holds a n (row_at place) (col_at place) k s ts (first_real ts) (first_label ts) p has s_in in_range there here

-- the clauses of a test, by its jump
pub test-sound : (a : ℕ → Bool) (n : ℕ) (place : List Position) (s : ℕ) (from : Position) (k : Kind) (c : Code) (ts : List (Option ℕ))
    (j : JumpWord) → IsTest k c
    → IsPlaced a n (row_at place) (col_at place) → length place ≡ n → ((i : ℕ) (p : Position) → slice_get place i ≡ Some p → IsCell p)
    → ((x z : ℕ) → x < n → z < n → x ≢ z → a (pair_var n x z) ≡ false → row_at place x ≡ row_at place z) → slice_get place s ≡ Some from
    → s < n
    → length ts ≡ outcomes_of k → list_any is_some ts ≡ true → InRange ts n
    → CanJump place k ts from j → AllHold a (flow_clauses n s k ts) × AllHold a (trap_clauses n k ts)
unfolding InRange
test-sound a n place s from k c ts j is p len cells same_rows at s_in count some in_range can = (
  subst (AllHold a) (sym (is.clauses n s ts))
      (holds-test a n (row_at place) (col_at place) k s ts (first_real ts) (first_label ts) p has s_in in_range x_in fits.0),
  hold-traps a n (row_at place) (col_at place) k s ts p has s_in x_in (slice_get_within ts (first_real ts) (Some (first_label ts)) there)
      few same_rows (fits.0.cols (first_real ts) (first_label ts) there) fits.1,
)
  where
    there : slice_get ts (first_real ts) ≡ Some (Some (first_label ts))
    there = first-there ts some

    x_in : first_label ts < n
    x_in = in_range (first_real ts) (first_label ts) there

    has : HasCols k (length ts)
    has = subst (HasCols k) (sym count) is.cols

    few : (length ts ≤ 6) ⊎ (keeps_half k ≡ false)
    few = subst (λ m. (m ≤ 6) ⊎ (keeps_half k ≡ false)) (sym count) is.few

    fits : TestFits k (row_at place) (col_at place) s ts (first_label ts)
        × TrapsFree k n (row_at place) (col_at place) s ts (first_label ts)
    fits = test-fits place n k c s ts (first_real ts) (first_label ts) from j is.kind len cells at there can

-- a statement with one target
abbrev pub IsSingle : Kind → Type 0
IsSingle kind.Goto = Unit {0}
IsSingle kind.Strobe = Unit {0}
IsSingle kind.Enable = Unit {0}
IsSingle _ = ⊥

-- a statement has one target or is a test
pub kind-cases : (k : Kind) → IsSingle k ⊎ ((c : Code) × IsTest k c)
kind-cases kind.Goto = inl tt
kind-cases kind.Strobe = inl tt
kind-cases kind.Enable = inl tt
kind-cases kind.IfF = inr (code.Jfl, test_iff)
kind-cases kind.IfC = inr (code.Jcf, test_ifc)
kind-cases kind.IfZ = inr (code.Jzf, test_ifz)
kind-cases kind.OnPr = inr (code.Jpr, test_onpr)
kind-cases kind.OnPx = inr (code.Jpx, test_onpx)
kind-cases kind.OnLeft = inr (code.Jll, test_onleft)
kind-cases kind.OnRight = inr (code.Jrl, test_onright)

-- a statement with one target has one outcome
pub single-outcome : (k : Kind) → IsSingle k → outcomes_of k ≡ 1
single-outcome kind.Goto h = refl
single-outcome kind.Strobe h = refl
single-outcome kind.Enable h = refl
single-outcome _ h = absurd h

-- the clauses of a statement that has more than one target are those of a test
pub flow-test : (n s : ℕ) (k : Kind) (ts : List (Option ℕ)) → k ≢ kind.Goto → k ≢ kind.Strobe → k ≢ kind.Enable
    → flow_clauses n s k ts ≡ test_clauses k s ts (first_real ts) (first_label ts)
unfolding flow_clauses
flow-test n s kind.Goto ts g t e = absurd (g refl)
flow-test n s kind.Strobe ts g t e = absurd (t refl)
flow-test n s kind.Enable ts g t e = absurd (e refl)
flow-test n s _ ts g t e = refl
