use Rattle.std.proofs.Common.{◌≡◌, ◌-◌, ◌≤◌, take, drop}
use Rattle.gimli_core_base.specs.Leb128.{unsigned_number, bounded_string}
use Rattle.gimli_core_base.proofs.LebStrings.{judged_from}
use Rattle.gimli_core_base.proofs.leb128.unsigned.Given as goal

-- the bytes so far go on, and the number is that of their digits
abbrev pub invariant-loop-i : goal.invariant-loop-i
invariant-loop-i l = record {
  short : l.i ≤ 9;
  judges : judged_from (10 - l.i) (take l.i l.bytes) (drop l.i l.bytes) ≡ bounded_string 10 l.bytes;
  number : l.number ≡ unsigned_number (take l.i l.bytes);
}
