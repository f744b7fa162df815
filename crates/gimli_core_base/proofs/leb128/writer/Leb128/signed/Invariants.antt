use Rattle.std.proofs.Common.{◌≡◌, ◌-◌, ◌*◌, ◌^◌, ◌<◌, ◌≤◌, ◌++◌, length, take}
use lib.Signed.{mag}
use Rattle.gimli_core_base.specs.Spelling.{signed_within, signed_string}
use Rattle.gimli_core_base.proofs.leb128.writer.Leb128.signed.Given as goal

-- the bytes so far, and then the string of the rest
abbrev pub invariant-loop-bytes : goal.invariant-loop-bytes
invariant-loop-bytes l = record {
  ten : length l.bytes ≡ 10;
  short : l.len ≤ 9;
  below : mag l.rest < 64 * 128 ^ (9 - l.len);
  string : take l.len l.bytes ++ signed_within (10 - l.len) l.rest ≡ signed_string l.number;
}

abbrev pub decreases-loop-bytes : goal.decreases-loop-bytes
decreases-loop-bytes l = mag l.rest
