-- One clause of a source is asked for.
use Rattle.std.proofs.Common.{◌≡◌, ℕ, zero, suc, ℤ, ◌+◌, ◌-◌, ◌<◌, ◌≤◌, ⊎_elim, List, [], ◌∷◌, ◌++◌, length, map, neg_ℤ, take, drop, get_or, Option, Some, sym, ap, subst, ◌∙◌, arith}
use Rattle.std.specs.Prelude.{slice_get, slice_set, All}
use Rattle.std.proofs.lemmas.Bool.{cases_eq, cases_lt}
use Rattle.std.proofs.lemmas.List.{length-set, take_more}
use Rattle.std.proofs.lemmas.List.Elements.{All-push}
use Rattle.std.proofs.lemmas.List.Sums.{sum_by-append}
use Rattle.std.proofs.lemmas.Option.{get_or_from_slice_get}
use Rattle.clause_base.specs.Clauses.{Clauses}
use Rattle.ref_text.specs.declared.why.Why.{Why}
use Rattle.refute_check.specs.Hints.{clause_at, judged}
use Rattle.refute_check.specs.Known.{Known, known_clauses, IsKnown, Agrees}
use Rattle.refute_check.specs.Cost.{hint_cost, hints_cost}
use Rattle.refute_check.proofs.KnownLemmas.{asked_agrees, derived_agrees, set_other, set_there, judged_same}

-- what is known after one clause more
abbrev pub with_asked : Known → ℕ → List ℤ → Known
with_asked k m c = record { vars = k.vars; asked = slice_set k.asked m (Some c); count = k.count + 1; derived = k.derived }

pub ask_agrees : (list : Clauses) (k new : Known) (given hint : ℕ) (c : List ℤ) → IsKnown list k given → 0 < hint → hint ≤ length k.asked
    → slice_get list.clauses (hint - 1) ≡ Some c →
    new ≡ with_asked k (hint - 1) c → Agrees list new hint
ask_agrees list k new given hint c known some le there is =
    let size : length (slice_set k.asked (hint - 1) (Some c)) ≡ length list.clauses = length-set k.asked _ _ ∙ known.sized in
    subst (λ (n : Known). Agrees list n hint) (sym is)
    (asked_agrees (slice_set k.asked (hint - 1) (Some c)) list.clauses k.derived (hint - 1) c size
    (set_there k.asked (hint - 1) (Some c) (omega arith)) there)

pub ask_keeps : (list : Clauses) (k new : Known) (given hint : ℕ) (c : List ℤ) → IsKnown list k given → 0 < hint → hint ≤ length k.asked
    → slice_get list.clauses (hint - 1) ≡ Some c →
    new ≡ with_asked k (hint - 1) c → (other : ℕ) → Agrees list k other → Agrees list new other
ask_keeps list k new given hint c known some le there is other agrees = ⊎_elim
    (λ same. subst (λ (m : ℕ). get_or (known_clauses new) m [] ≡ get_or (list.clauses ++ new.derived) m []) (sym same)
    (ask_agrees list k new given hint c known some le there is))
    (λ differ. subst (λ (n : Known). Agrees list n other) (sym is)
    (set_other k.asked k.derived (hint - 1) (other - 1) (Some c) differ ∙ agrees))
    (cases_eq (other - 1) (hint - 1))

-- a clause that need not be asked for
pub need_not_ask : (list : Clauses) (k : Known) (given hint : ℕ) → IsKnown list k given → 0 < hint →
    (hint ≤ length k.asked → slice_get k.asked (hint - 1) ≡ Some (Some (clause_at (known_clauses k) hint))) → Agrees list k hint
need_not_ask list k given hint known some has = ⊎_elim
    (λ below. let le : hint ≤ length k.asked = omega (arith, below) in
    asked_agrees k.asked list.clauses k.derived (hint - 1) (clause_at (known_clauses k) hint) known.sized (has le)
    (known.told (hint - 1) (clause_at (known_clauses k) hint) (has le)))
    (λ above. derived_agrees k.asked list.clauses k.derived (hint - 1) known.sized (omega (arith, above, known.sized)))
    (cases_lt (hint - 1) (length k.asked))

-- the cost of a hint is the length of its clause
pub cost_is : (clauses : List (List ℤ)) (hint : ℕ) (c : List ℤ) → slice_get clauses (hint - 1) ≡ Some c
    → hint_cost clauses hint ≡ length c
cost_is clauses hint c there = ap length (get_or_from_slice_get clauses (hint - 1) c [] there)

-- one hint more
pub agree_more : (P Q : ℕ → Type 0) (hints : List ℕ) (i : ℕ) → i < length hints → All P (take i hints) → ((h : ℕ) → P h → Q h)
    → Q (get_or hints i 0) → All Q (take (i + 1) hints)
agree_more P Q hints i lt all keeps here =
    subst (All Q) (sym (take_more hints i 0 lt))
    (All-push Q (take i hints) (get_or hints i 0) (λ k d h. keeps (get_or (take i hints) k d) (all k d h)) here)

pub cost_more : (clauses : List (List ℤ)) (hints : List ℕ) (i : ℕ) → i < length hints
    → hints_cost clauses (drop i hints) ≡ hint_cost clauses (get_or hints i 0) + hints_cost clauses (drop (i + 1) hints)
cost_more clauses [] i lt = absurd (omega arith)
cost_more clauses (h ∷ hs) zero lt = omega (arith, sum_by-append (hint_cost clauses) (h ∷ []) hs)
cost_more clauses (h ∷ hs) (suc i) lt =
    let next : suc i + 1 ≡ suc (i + 1) = omega arith in
    cost_more clauses hs i (omega arith)
    ∙ ap (λ (n : ℕ). hint_cost clauses (get_or hs i 0) + hints_cost clauses (drop n (h ∷ hs))) (sym next)

-- what was judged by the known clauses is judged by all
pub judged_by_all : (list : Clauses) (old new : Known) (bad : Option Why) (clause : List ℤ) (hints : List ℕ) → new.derived ≡ old.derived
    → 0 < length hints → All (Agrees list new) hints →
    bad ≡ judged (known_clauses new) (map neg_ℤ clause) hints → bad ≡ judged (list.clauses ++ old.derived) (map neg_ℤ clause) hints
judged_by_all list old new bad clause hints same some agree is =
    is ∙ judged_same (known_clauses new) (list.clauses ++ new.derived) (map neg_ℤ clause) hints some agree
    ∙ ap (λ (d : List (List ℤ)). judged (list.clauses ++ d) (map neg_ℤ clause) hints) same
