-- A name in a fixed array of 32 bytes, with zeros behind it.
use Rattle.std.proofs.Common.{◌≡◌, ℕ, ◌-◌, ◌≤◌, List, ◌++◌, length, take, sym, ap, ◌∙◌, arith}
use Rattle.std.specs.Prelude.{replicate}
use Rattle.std.proofs.lemmas.List.{length-take}
use Rattle.micro_lex.specs.Names.{IsName}
use Rattle.field_decl.specs.declared.name.Name.TheInside.{Inside}

-- the bytes of a name and zeros up to 32
abbrev pub padded : List ℕ → List ℕ
padded text = text ++ replicate (32 - length text) 0

-- the first bytes are a name, and all others are 0
pub record IsPadded (bytes : List ℕ) (len : ℕ) : Type 0 where
  pub short : len ≤ 32
  pub full : length bytes ≡ 32
  pub whole : bytes ≡ padded (take len bytes)
  pub name : IsName (take len bytes)

abbrev inside : List ℕ → ℕ → Inside
inside bytes len = record { bytes = bytes; len = len }

-- the array can be had back from the name
pub gives_back : (n : Inside) → IsPadded n.bytes n.len → inside (padded (take n.len n.bytes)) (length (take n.len n.bytes)) ≡ n
gives_back n h =
    let len : length (take n.len n.bytes) ≡ n.len = omega (arith, length-take n.len n.bytes, h.full, h.short) in
    ap (inside (padded (take n.len n.bytes))) len ∙ ap (λ (bytes : List ℕ). inside bytes n.len) (sym h.whole)
