-- What a piece brings to a judge.
use Rattle.std.proofs.Common.{◌≡◌, ℕ, ℤ, ◌+◌, ◌-◌, ◌<◌, ◌≤◌, ◌^◌, ◌==◌, Bool, false, List, [], ◌∷◌, ◌++◌, length, take, None, sym, ap, subst, ◌∙◌, arith, length-append}
use Rattle.std.specs.Prelude.{All}
use Rattle.std.proofs.lemmas.List.Elements.{All-append, All-nil}
use Rattle.clause_base.specs.Clauses.{Clauses}
use Rattle.clause_base.specs.declared.line.Line.{Line}
use Rattle.ref_text.specs.Form.{form}
use Rattle.ref_text.specs.Fault.{text_fault, line_of, is_empty}
use Rattle.ref_text.specs.Fits.{IsRight}
use Rattle.ref_text.specs.Reading.{Reader, first, lf_at, with_line, with_bytes}
use Rattle.ref_text.proofs.RightLemmas.{text_right}
use Rattle.refute_check.specs.Known.{Known, IsKnown}
use Rattle.refute_check.specs.Held.{Held}
use Rattle.refute_check.specs.Judging.{spot_of, first_line, Stands}
use Rattle.refute_check.specs.declared.judge.Judge.{Judge}
use Rattle.refute_check.proofs.KnownLemmas.{told_none}
use Rattle.refute_check.proofs.JudgingLemmas.{HasNoLf, all_no_lf}

-- a judge of these parts
abbrev pub judge_of : Known → Held → Reader → Bool → Judge
judge_of known signs reader over = record { known = known; signs = signs; reader = reader; over = over }

-- bytes of a line
pub stands_more : (list : Clauses) (j : Judge) (given : ℕ) (r : Reader) (piece : List ℕ) → Stands list j given
    → lf_at piece ≡ length piece → r ≡ with_bytes j.reader piece →
    Stands list (judge_of j.known j.signs r j.over) given
stands_more list j given r piece s all is = record {
  known = s.known;
  signs = s.signs;
  vars = ap (λ (x : Reader). x.vars) is ∙ s.vars;
  number = ap (λ (x : Reader). x.number) is ∙ s.number;
  counted = ap (λ (x : Reader). x.count) is ∙ s.counted;
  few = s.few;
  over_is = ap (λ (x : Reader). x.over) is ∙ s.over_is;
  bad = ap (λ (x : Reader). x.bad) is ∙ s.bad;
  failed = ap (λ (x : Reader). x.failed) is ∙ s.failed;
  no_lf = subst (λ (bs : List ℕ). HasNoLf bs) (sym (ap (λ (x : Reader). x.begun) is))
      (All-append (λ b. (b == 10) ≡ false) j.reader.begun piece s.no_lf (all_no_lf piece all));
}

-- the line that a reader gives
pub line_given : (r new : Reader) (line : List ℕ) (clause : List ℤ) (hints : List ℕ) → new ≡ with_line r (line_of (form line))
    → clause ≡ new.last.clause → hints ≡ new.last.hints →
    record { clause = clause; hints = hints } ≡ line_of (form line)
line_given r new line clause hints is clause_is hints_is =
    let last : new.last ≡ line_of (form line) = ap (λ (s : Reader). s.last) is in
    ap (λ (zs : List ℤ). let l : Line = record { clause = zs; hints = hints } in l) (clause_is ∙ ap (λ (k : Line). k.clause) last)
    ∙ ap (λ (hs : List ℕ). let l : Line = record { clause = (line_of (form line)).clause; hints = hs } in l)
    (hints_is ∙ ap (λ (k : Line). k.hints) last)

-- a line of right text is right
pub line_right : (list : Clauses) (j : Judge) (given : ℕ) (piece : List ℕ) (clause : List ℤ) (hints : List ℕ) → Stands list j given →
    text_fault j.reader.number j.reader.vars j.reader.over (j.reader.begun ++ take (lf_at piece) piece) ≡ None →
    record { clause = clause; hints = hints } ≡ line_of (form (first_line (spot_of j) piece)) →
    IsRight (length list.clauses + length j.known.derived + 1) list.vars (record { clause = clause; hints = hints })
line_right list j given piece clause hints s right is =
    let text = text_right j.reader.number j.reader.vars j.reader.over (first_line (spot_of j) piece) right in
    let P : ℕ → Type 0 = λ n. IsRight n j.reader.vars (line_of (form (first_line (spot_of j) piece))) in
    let Q : ℕ → Type 0 =
    λ v. IsRight (length list.clauses + length j.known.derived + 1) v (line_of (form (first_line (spot_of j) piece))) in
    subst (IsRight (length list.clauses + length j.known.derived + 1) list.vars) (sym is) (subst Q s.vars (subst P s.number text))

-- after a derived line
pub stands_line : (list : Clauses) (j : Judge) (given now : ℕ) (known : Known) (signs : Held) (r : Reader) (over : Bool) (clause : List ℤ)
    (line : List ℕ) → Stands list j given →
    r ≡ with_line j.reader (line_of (form line)) → IsKnown list known now → signs.vars ≡ list.vars
    → known.derived ≡ j.known.derived ++ clause ∷ [] → r.number ≤ 2 ^ 32 →
    over ≡ is_empty (line_of (form line)) → Stands list (judge_of known signs r over) now
stands_line list j given now known signs r over clause line s is known_is signs_is derived small over_is =
    let more : length known.derived ≡ length j.known.derived + 1 = ap length derived ∙ length-append j.known.derived (clause ∷ []) in
    let number : r.number ≡ j.reader.number + 1 = ap (λ (x : Reader). x.number) is in
    let count : r.count ≡ j.reader.count + 1 = ap (λ (x : Reader). x.count) is in
    record {
      known = known_is;
      signs = signs_is;
      vars = ap (λ (x : Reader). x.vars) is ∙ s.vars;
      number = omega (arith, number, s.number, more);
      counted = omega (arith, count, s.counted, more);
      few = omega (arith, number, s.number, more, small);
      over_is = ap (λ (x : Reader). x.over) is ∙ sym over_is;
      bad = ap (λ (x : Reader). x.bad) is;
      failed = ap (λ (x : Reader). x.failed) is ∙ s.failed;
      no_lf = subst (λ (bs : List ℕ). HasNoLf bs) (sym (ap (λ (x : Reader). x.begun) is)) (All-nil (λ b. (b == 10) ≡ false));
    }

-- before the first byte of a text
pub stands_new : (list : Clauses) (known : Known) (signs : Held) (r : Reader) (given vars len : ℕ) → known.vars ≡ vars
    → length known.asked ≡ len → All (λ c. c ≡ None) known.asked →
    known.count ≡ 0 → known.derived ≡ [] → signs ≡ record { vars = vars; held = [] } → r ≡ first (len + 1) vars → vars ≡ list.vars
    → len ≡ length list.clauses →
    given < 2 ^ 64 → length list.clauses < 2 ^ 32 - 1 → Stands list (judge_of known signs r false) given
stands_new list known signs r given vars len vars_is sized none count derived signs_is is same_vars same_len small few =
    let nothing : length known.derived ≡ 0 = ap length derived in
    let number : r.number ≡ len + 1 = ap (λ (x : Reader). x.number) is in
    let counted : r.count ≡ 0 = ap (λ (x : Reader). x.count) is in
    record {
      known = record {
        vars = vars_is ∙ same_vars;
        sized = sized ∙ same_len;
        told = told_none known.asked list.clauses none;
        count_few = omega (arith, count);
        given_few = omega (arith, count, small);
      };
      signs = ap (λ (h : Held). h.vars) signs_is ∙ same_vars;
      vars = ap (λ (x : Reader). x.vars) is ∙ same_vars;
      number = omega (arith, number, same_len, nothing);
      counted = omega (arith, counted, nothing);
      few = omega (arith, few, nothing);
      over_is = ap (λ (x : Reader). x.over) is;
      bad = ap (λ (x : Reader). x.bad) is;
      failed = ap (λ (x : Reader). x.failed) is;
      no_lf = subst (λ (bs : List ℕ). HasNoLf bs) (sym (ap (λ (x : Reader). x.begun) is)) (All-nil (λ b. (b == 10) ≡ false));
    }
