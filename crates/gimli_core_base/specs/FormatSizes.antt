use Rattle.std.specs.Prelude.{ℕ}
use Rattle.gimli_core_base.specs.declared.common.Format.{Format}
use Rattle.gimli_core_base.specs.declared.common.Format.TheVariants.{Dwarf32, Dwarf64}

-- the bytes of an initial length (DWARF 5, 7.4)
abbrev pub initial_length_size : Format → ℕ
initial_length_size Dwarf64 = 12
initial_length_size Dwarf32 = 4

-- the bytes of an offset or a length (DWARF 5, 7.4)
abbrev pub word_size : Format → ℕ
word_size Dwarf64 = 8
word_size Dwarf32 = 4
