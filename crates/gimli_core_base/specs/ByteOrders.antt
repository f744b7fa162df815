-- The orders of the bytes of a number (DWARF 5, 7.1).
use Rattle.std.specs.Prelude.{Bool, true, false}
use Rattle.gimli_core_base.specs.declared.order.RunTimeEndian.{RunTimeEndian}
use Rattle.gimli_core_base.specs.declared.order.RunTimeEndian.TheVariants.{Little, Big}

-- whether the more significant byte of a number comes first
abbrev pub is_big_endian : RunTimeEndian → Bool
is_big_endian Little = false
is_big_endian Big = true
