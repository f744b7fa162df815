use Rattle.std.proofs.Common.{◌≡◌, length, drop, option_map}
use Rattle.gimli_core_base.specs.Leb128.{leb_string}
use Rattle.gimli_core_base.proofs.LebStrings.{length_from}
use Rattle.gimli_core_base.proofs.leb128.skip.Given as goal

-- the string is the bytes so far and the string at the front of the rest
abbrev pub invariant-loop-i : goal.invariant-loop-i
invariant-loop-i l = length_from l.i (drop l.i l.bytes) ≡ option_map length (leb_string l.bytes)
