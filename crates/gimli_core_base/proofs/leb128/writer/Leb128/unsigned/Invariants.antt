use Rattle.std.proofs.Common.{◌≡◌, ◌-◌, ◌^◌, ◌<◌, ◌≤◌, ◌++◌, length, take}
use Rattle.gimli_core_base.specs.Spelling.{unsigned_within, unsigned_string}
use Rattle.gimli_core_base.proofs.leb128.writer.Leb128.unsigned.Given as goal

-- the bytes so far, and then the string of the rest
abbrev pub invariant-loop-rest : goal.invariant-loop-rest
invariant-loop-rest l = record {
  ten : length l.bytes ≡ 10;
  short : l.len ≤ 9;
  below : l.rest < 128 ^ (10 - l.len);
  string : take l.len l.bytes ++ unsigned_within (10 - l.len) l.rest ≡ unsigned_string l.number;
}

abbrev pub decreases-loop-rest : goal.decreases-loop-rest
decreases-loop-rest l = l.rest
