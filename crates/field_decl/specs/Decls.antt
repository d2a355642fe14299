-- What a `Decl` says, and how many PROMs a microword needs.
use Rattle.std.specs.Prelude.{ℕ, ◌+◌, ◌-◌, ◌/◌}
use Rattle.field_decl.specs.declared.decl.Decl.{Decl}
use Rattle.field_decl.specs.Declaration.{Declaration}

-- the declaration without the proof that its parts fit together
abbrev pub declaration_of : Decl → Declaration
declaration_of decl =
    record {
      slices = decl.slices;
      kbus = decl.kbus;
      fields = decl.fields;
      prom_words = decl.prom_words;
      prom_bits = decl.prom_bits;
      write = decl.write;
    }

-- as many PROMs side by side as the microword needs
abbrev pub proms_for : ℕ → ℕ → ℕ
proms_for width bits = (width + bits - 1) / bits
