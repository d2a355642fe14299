use Rattle.std.proofs.Common.{◌≡◌, ◌+◌, ◌-◌, ◌<◌, ◌≤◌, length, Some, ap, sym, subst, ◌∙◌, arith, ⊎_elim, ℕ, ℤ, List}
use Rattle.std.specs.Prelude.{slice_get}
use Rattle.std.proofs.lemmas.Bool.{cases_lt, true≢false}
use Rattle.std.proofs.lemmas.Option.{slice_get_within, same_Some}
use Rattle.clause_base.specs.Truth.{lits_of, IsSettled}
use Rattle.clause_base.specs.declared.entry.Entry.{Entry}
use Rattle.propagate.proofs.Extending.{Extends_trans, longer_extends}
use Rattle.propagate.proofs.scan.scan_from.Goals as goal
use Rattle.propagate.proofs.scan.scan_from.Goals.{in-Quiet, in-Implied}

-- the clauses up to one more are settled
settled_more : (clauses : List (List ℤ)) (held : List ℤ) (from i : ℕ) (next : List ℤ)
    → ((n : ℕ) (c : List ℤ) → from ≤ n → n < i → slice_get clauses n ≡ Some c → IsSettled held c) → slice_get clauses i ≡ Some next
    → IsSettled held next
    → (n : ℕ) (c : List ℤ) → from ≤ n → n < i + 1 → slice_get clauses n ≡ Some c → IsSettled held c
settled_more clauses held from i next before there own n c ge lt is = ⊎_elim
    (λ (low : n < i). before n c ge low is)
    (λ (high : i ≤ n).
    let same : n ≡ i = omega arith in
    let next_is : next ≡ c = same_Some next c (sym there ∙ ap (slice_get clauses) (sym same) ∙ is) in
    subst (λ (x : List ℤ). IsSettled held x) next_is own)
    (cases_lt n i)

pub loop-index-preserved : goal.loop-index-preserved
loop-index-preserved c =
    let k = c.loop-index.invariant in
    let first = c.args.trail.now.entries in
    let old = c.loop-index.trail.entries in
    let new = c.imply_unit.new.trail.entries in
    let clauses = c.args.list.now.clauses in
    let e = c.imply_unit.ensures in
    let at : c.loop-index.index ≡ c.loop-index.index + 1 - 1 = omega arith in
    let next_there : slice_get clauses c.loop-index.index ≡ Some c.get.result.now = ap (slice_get clauses) at ∙ c.get.ensures.clause in
    record {
      vars = e.vars ∙ k.vars;
      forced = e.forced;
      extends = Extends_trans first old new k.extends e.extends;
      same = λ none. elim c.match-imply_unit.branch [
        | in-Quiet w ↦ w.in-Quiet.ensures.told.0 ∙ k.same (sym w.implied-is ∙ none)
        | in-Implied w ↦ absurd (true≢false (sym w.implied-is ∙ none))
      ];
      settled = λ none n clause ge lt there. elim c.match-imply_unit.branch [
        | in-Quiet w ↦ subst (λ (es : List Entry). IsSettled (lits_of es) clause) (sym w.in-Quiet.ensures.told.0)
            (settled_more clauses (lits_of old) c.args.from c.loop-index.index c.get.result.now
            (k.settled (sym w.implied-is ∙ none)) next_there w.in-Quiet.ensures.told.1 n clause ge lt there)
        | in-Implied w ↦ absurd (true≢false (sym w.implied-is ∙ none))
      ];
      longer = λ some. elim c.match-imply_unit.branch [
        | in-Quiet w ↦ (let before : length first < length old = k.longer (sym w.implied-is ∙ some) in
            omega (arith, before, ap length w.in-Quiet.ensures.told.0))
        | in-Implied w ↦ (let more : length old < length new = w.in-Implied.ensures.told in
            omega (arith, more, longer_extends first old k.extends))
      ];
    }

pub returns-else-implied-clause-told : goal.returns-else-implied-clause-told
returns-else-implied-clause-told c =
    let k = c.loop-index.invariant in (
      k.same c.if-implied.false,
      λ n clause ge there.
          let within : n < length c.args.list.now.clauses = slice_get_within c.args.list.now.clauses n clause there in
          k.settled c.if-implied.false n clause ge (omega (arith, within, c.len-index-end.ensures)) there,
    )
