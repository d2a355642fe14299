-- The bytes of a name and zeros behind them fill the array.
use Rattle.std.proofs.Common.{ℕ, ◌≤◌, List, ◌++◌, length, drop, sym, ap, subst, arith}
use Rattle.std.specs.Prelude.{replicate}
use Rattle.std.proofs.Math.Seq.{take-append_seam}
use Rattle.std.proofs.lemmas.List.{length-append, length-drop, drop-replicate}
use Rattle.micro_lex.specs.Names.{IsName}
use Rattle.field_decl.specs.NameBytes.{IsPadded}

-- a name padded with zeros
pub name_pads : (text : List ℕ) → IsName text → IsPadded (text ++ drop (length text) (replicate 32 0)) (length text)
name_pads text name = record {
  short = name.short;
  full = (let short : length text ≤ 32 = name.short in
      omega (arith, short, length-append text (drop (length text) (replicate 32 0)), length-drop {A = ℕ} (length text) (replicate 32 0)));
  whole = rw (take-append_seam text (drop (length text) (replicate 32 0)))
      (ap (λ (zeros : List ℕ). text ++ zeros) (drop-replicate (length text) 32 0));
  name = subst (λ (bytes : List ℕ). IsName bytes) (sym (take-append_seam text (drop (length text) (replicate 32 0)))) name;
}
