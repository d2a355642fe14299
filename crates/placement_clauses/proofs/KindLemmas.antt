-- The jump of each kind of test.
use Rattle.std.proofs.Common.{◌≡◌, ℕ, ◌+◌, ◌-◌, ◌*◌, ◌/◌, ◌%◌, ◌<◌, ◌≤◌, ◌⊎◌, inl, inr, true, refl, arith}
use Rattle.std.specs.Prelude.{◌==◌, nat_le}
use Rattle.std.proofs.lemmas.Bool.{cases_lt, eqb-true, eq-eqb, and_parts, and_from, leb-true, le-leb}
use Rattle.mcu_jumps.specs.declared.codes.Code.{Code}
use Rattle.mcu_jumps.specs.declared.codes.Code.TheVariants as code
use Rattle.mcu_jumps.specs.declared.kinds.Kind.{Kind}
use Rattle.mcu_jumps.specs.declared.kinds.Kind.TheVariants as kind
use Rattle.mcu_jumps.specs.JumpWord.{JumpWord, operand_count}
use Rattle.mcu_jumps.specs.Landing.{Admits}
use Rattle.mcu_jumps.specs.NextAddress.{row_after, col_after}
use Rattle.placement_clauses.specs.Reaching.{reaches, col_of}
use Rattle.placement_clauses.proofs.TestLemmas.{HasCols}

-- the jumps of a kind are those of a code
pub record IsKindOf (k : Kind) (c : Code) : Type 0 where
  pub operand : (r q : ℕ) → r < 32 → q < 32 → reaches k r q ≡ true → (d : ℕ) × (d < operand_count c) × (row_after c r d ≡ q)
  pub reached : (r d : ℕ) → r < 32 → d < operand_count c → reaches k r (row_after c r d) ≡ true
  pub cols : (col d o : ℕ) → col_after c col d o ≡ col_of k o col
  pub admits : (d : ℕ) → Admits k (record { code = c; operand = d })
  pub admitted : (j : JumpWord) → Admits k j → j.code ≡ c
  pub one_col : (col o p : ℕ) → col_of k o col ≡ col_of k p col → o ≡ p

-- the columns of `iff`
pub cols_iff : HasCols kind.IfF 2
cols_iff = record {
  below = λ c o c_in o_in. omega arith;
  fixed = λ e c o. cc;
  halves = λ e c c_in. elim (cases_lt c 8) as (λ _. ((o : ℕ) → 8 * (c / 8) + 2 + o ≡ 2 + o) ⊎ ((o : ℕ) → 8 * (c / 8) + 2 + o ≡ 10 + o)) [
    | inl low ↦ inl (λ o. omega arith)
    | inr high ↦ inr (λ o. omega arith)
  ];
}

-- the jumps of `iff`
pub kind_iff : IsKindOf kind.IfF code.Jfl
kind_iff = record {
  operand = λ r q r_in q_in e. let same : q / 16 ≡ r / 16 = eqb-true (q / 16) (r / 16) e in (q % 16, omega arith, omega arith);
  reached = λ r d r_in d_in. eq-eqb ((16 * (r / 16) + d) / 16) (r / 16) (omega arith);
  cols = λ col d o. refl;
  admits = λ d. refl;
  admitted = λ j h. h;
  one_col = λ col o p e. omega arith;
}

-- the columns of `ifc`
pub cols_ifc : HasCols kind.IfC 2
cols_ifc = record {
  below = λ c o c_in o_in. omega arith;
  fixed = λ e c o. cc;
  halves = λ e c c_in. elim (cases_lt c 8) as (λ _. ((o : ℕ) → 8 * (c / 8) + 2 + o ≡ 2 + o) ⊎ ((o : ℕ) → 8 * (c / 8) + 2 + o ≡ 10 + o)) [
    | inl low ↦ inl (λ o. omega arith)
    | inr high ↦ inr (λ o. omega arith)
  ];
}

-- the jumps of `ifc`
pub kind_ifc : IsKindOf kind.IfC code.Jcf
kind_ifc = record {
  operand = λ r q r_in q_in e. let same : q / 8 ≡ r / 8 = eqb-true (q / 8) (r / 8) e in (q % 8, omega arith, omega arith);
  reached = λ r d r_in d_in. eq-eqb ((8 * (r / 8) + d) / 8) (r / 8) (omega arith);
  cols = λ col d o. refl;
  admits = λ d. refl;
  admitted = λ j h. h;
  one_col = λ col o p e. omega arith;
}

-- the columns of `ifz`
pub cols_ifz : HasCols kind.IfZ 2
cols_ifz = record {
  below = λ c o c_in o_in. omega arith;
  fixed = λ e c o. cc;
  halves = λ e c c_in. elim (cases_lt c 8) as (λ _. ((o : ℕ) → 8 * (c / 8) + 2 + o ≡ 2 + o) ⊎ ((o : ℕ) → 8 * (c / 8) + 2 + o ≡ 10 + o)) [
    | inl low ↦ inl (λ o. omega arith)
    | inr high ↦ inr (λ o. omega arith)
  ];
}

-- the jumps of `ifz`
pub kind_ifz : IsKindOf kind.IfZ code.Jzf
kind_ifz = record {
  operand = λ r q r_in q_in e. let same : q / 8 ≡ r / 8 = eqb-true (q / 8) (r / 8) e in (q % 8, omega arith, omega arith);
  reached = λ r d r_in d_in. eq-eqb ((8 * (r / 8) + d) / 8) (r / 8) (omega arith);
  cols = λ col d o. refl;
  admits = λ d. refl;
  admitted = λ j h. h;
  one_col = λ col o p e. omega arith;
}

-- the columns of `onpr`
pub cols_onpr : HasCols kind.OnPr 16
cols_onpr = record {
  below = λ c o c_in o_in. omega arith;
  fixed = λ e c o. refl;
  halves = λ e c c_in. cc;
}

-- the jumps of `onpr`
pub kind_onpr : IsKindOf kind.OnPr code.Jpr
kind_onpr = record {
  operand = λ r q r_in q_in e. let same : q / 8 ≡ r / 8 = eqb-true (q / 8) (r / 8) e in (q % 8, omega arith, omega arith);
  reached = λ r d r_in d_in. eq-eqb ((8 * (r / 8) + d) / 8) (r / 8) (omega arith);
  cols = λ col d o. refl;
  admits = λ d. refl;
  admitted = λ j h. h;
  one_col = λ col o p e. omega arith;
}

-- the columns of `onpx`
pub cols_onpx : HasCols kind.OnPx 16
cols_onpx = record {
  below = λ c o c_in o_in. omega arith;
  fixed = λ e c o. refl;
  halves = λ e c c_in. cc;
}

-- the jumps of `onpx`
pub kind_onpx : IsKindOf kind.OnPx code.Jpx
kind_onpx = record {
  operand = λ r q r_in q_in e. let same : q / 4 ≡ r / 4 = eqb-true (q / 4) (r / 4) e in (q % 4, omega arith, omega arith);
  reached = λ r d r_in d_in. eq-eqb ((4 * (r / 4) + d) / 4) (r / 4) (omega arith);
  cols = λ col d o. refl;
  admits = λ d. refl;
  admitted = λ j h. h;
  one_col = λ col o p e. omega arith;
}

-- the columns of `onleft`
pub cols_onleft : HasCols kind.OnLeft 4
cols_onleft = record {
  below = λ c o c_in o_in. omega arith;
  fixed = λ e c o. refl;
  halves = λ e c c_in. cc;
}

-- the jumps of `onleft`
pub kind_onleft : IsKindOf kind.OnLeft code.Jll
kind_onleft = record {
  operand = λ r q r_in q_in e. let same : q / 8 ≡ r / 8 = eqb-true (q / 8) (r / 8) e in (q % 8, omega arith, omega arith);
  reached = λ r d r_in d_in. eq-eqb ((8 * (r / 8) + d) / 8) (r / 8) (omega arith);
  cols = λ col d o. refl;
  admits = λ d. refl;
  admitted = λ j h. h;
  one_col = λ col o p e. omega arith;
}

-- the columns of `onright`
pub cols_onright : HasCols kind.OnRight 4
cols_onright = record {
  below = λ c o c_in o_in. omega arith;
  fixed = λ e c o. refl;
  halves = λ e c c_in. cc;
}

-- the jumps of `onright`
pub kind_onright : IsKindOf kind.OnRight code.Jrl
kind_onright = record {
  operand = λ r q r_in q_in e.
      let two = and_parts (q / 8 == r / 8) (nat_le 4 (q % 8)) e in
      let same : q / 8 ≡ r / 8 = eqb-true (q / 8) (r / 8) two.0 in
      let high : 4 ≤ q % 8 = leb-true 4 (q % 8) two.1 in
      (q % 8 - 4, omega arith, omega arith);
  reached = λ r d r_in d_in. onright-reached r d d_in;
  cols = λ col d o. refl;
  admits = λ d. refl;
  admitted = λ j h. h;
  one_col = λ col o p e. omega arith;
}
  where
    onright-reached : (r d : ℕ) → d < 4 → reaches kind.OnRight r (8 * (r / 8) + 4 + d) ≡ true
    onright-reached r d d_in = and_from ((8 * (r / 8) + 4 + d) / 8 == r / 8) (nat_le 4 ((8 * (r / 8) + 4 + d) % 8))
        (eq-eqb ((8 * (r / 8) + 4 + d) / 8) (r / 8) (omega arith)) (le-leb 4 ((8 * (r / 8) + 4 + d) % 8) (omega arith))
