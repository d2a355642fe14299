use Rattle.std.proofs.Common.{◌≡◌, ◌≢◌, zero, suc, ℤ, ◌<◌, List, [], ◌∷◌, length, ◌++◌, ◌+◌, not, Some, None, refl, sym, ap, subst, ◌∙◌, inr, arith}
use Rattle.std.specs.Prelude.{neg_ℤ}
use Rattle.std.proofs.lemmas.Option.{slice_get_within, same_Some}
use Rattle.std.specs.Bool.{if◌then◌else◌}
use Rattle.std.specs.Option.{option_map}
use Rattle.std.proofs.lemmas.Bool.{ne_eqb}
use Rattle.clause_base.specs.Lit.{var_of, is_positive}
use Rattle.clause_base.specs.Truth.{lits_of, value_in, IsSettled, AreSettled}
use Rattle.clause_base.specs.declared.entry.Entry.{Entry}
use Rattle.trail.specs.Assignment.{level_of}
use Rattle.clause_base.proofs.LiteralLemmas.{var_neg}
use Rattle.search_tests.proofs.watches.decide_unsettled.Goals as goal

-- the clauses are settled where the one that there is is
one_settled : (held clause : List ℤ) → IsSettled held clause → AreSettled held (clause ∷ [])
one_settled held clause own zero c there = subst (λ (x : List ℤ). IsSettled held x) (same_Some clause c there) own
one_settled held clause own (suc n) c there =
    let within : suc n < length (clause ∷ []) = slice_get_within (clause ∷ []) (suc n) c there in absurd (omega arith)

pub decide-requires-clause-settled : goal.decide-requires-clause-settled
decide-requires-clause-settled c =
    rw (c.requires.nothing, c.requires.clause)
    (one_settled [] (c.args.first ∷ c.args.second ∷ c.args.third ∷ []) (inr (record {
      first = 0;
      second = 1;
      lit = c.args.first;
      other = c.args.second;
      apart = omega arith;
      there = refl;
      next = refl;
      unassigned = refl;
      too = refl;
    })))

-- where the negation of a literal holds alone, a literal of another variable is unassigned
unassigned_beside : (z y : ℤ) → var_of z ≢ var_of y → value_in y (neg_ℤ z ∷ []) ≡ None
unassigned_beside z y apart =
    ap (λ b. option_map (λ s. if is_positive y then s else not s) (if b then Some (is_positive (neg_ℤ z)) else None))
    (ne_eqb (var_of (neg_ℤ z)) (var_of y) (λ e. apart (sym (var_neg z) ∙ e)))

pub decide-requires-2-clause-settled : goal.decide-requires-2-clause-settled
decide-requires-2-clause-settled c =
    let first = c.args.first in
    let clause : List ℤ = first ∷ c.args.second ∷ c.args.third ∷ [] in
    let e : Entry = record { lit = c.negated.result; level = level_of c.args.board.now.trail.entries + 1; reason = 0 } in
    let held : lits_of c.decide.new.self.trail.entries ≡ neg_ℤ first ∷ [] =
    ap (λ t. lits_of t.entries) c.decide.ensures.trail ∙ ap (λ es. lits_of (es ++ e ∷ [])) c.requires.nothing
    ∙ ap (λ z. z ∷ []) c.negated.ensures in
    let clauses : c.decide.new.self.list.clauses ≡ clause ∷ [] = ap (λ l. l.clauses) c.decide.ensures.list ∙ c.requires.clause in
    subst (λ (zs : List ℤ). AreSettled zs c.decide.new.self.list.clauses) (sym held)
    (subst (λ (cs : List (List ℤ)). AreSettled (neg_ℤ first ∷ []) cs) (sym clauses)
    (one_settled (neg_ℤ first ∷ []) clause (inr (record {
      first = 1;
      second = 2;
      lit = c.args.second;
      other = c.args.third;
      apart = omega arith;
      there = refl;
      next = refl;
      unassigned = unassigned_beside first c.args.second c.requires.apart.0;
      too = unassigned_beside first c.args.third c.requires.apart.1;
    }))))
