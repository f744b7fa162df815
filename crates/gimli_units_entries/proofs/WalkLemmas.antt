-- What holds of a walk still holds of it with fewer bytes left.
use Rattle.std.proofs.Common.{◌≤◌, Result, Ok, Err, ap, arith}
use Rattle.std.proofs.lemmas.Int.{ints}
use Rattle.gimli_core_base.specs.declared.error.Error.{Error}
use Rattle.gimli_core_base.specs.View.{View, bytes_left}
use Rattle.gimli_core_base.specs.Calls.{ReadsAs, ReadsAsOrNoMemory}
use Rattle.gimli_core_base.proofs.StepSizes.{AtMost}
use Rattle.gimli_units_entries.specs.EntryWalks.{Walk, IsWithin, walk_with_rest}

pub IsWithin-with_left : (w : Walk) (v : View) → IsWithin w → bytes_left v ≤ bytes_left w.rest
    → IsWithin (walk_with_rest v w)
IsWithin-with_left w v h le = record {
  is_before = omega (arith, h.is_before);
  not_low = omega (arith, ints, h.not_low);
  not_high = omega (arith, ints, h.not_high);
}

-- a read leaves at most what there was, where what is read does
pub Reads-fewer : {A B : Type 0} (see : A → B) (r : Result A Error) (v v' : View) (read : Result (B × View) Error)
    → ReadsAs see r v v' read → AtMost bytes_left (bytes_left v) read → bytes_left v' ≤ bytes_left v
Reads-fewer see (Ok x) v v' read h most = most.left (see x) v' h
Reads-fewer see (Err e) v v' read h most = let same = ap bytes_left h.1 in omega (arith, same)

pub Takes-fewer : {A B : Type 0} (see : A → B) (r : Result A Error) (v v' : View) (read : Result (B × View) Error)
    → ReadsAsOrNoMemory see r v v' read → AtMost bytes_left (bytes_left v) read → bytes_left v' ≤ bytes_left v
Takes-fewer see (Ok x) v v' read h most = most.left (see x) v' h
Takes-fewer see (Err e) v v' read h most = let same = ap bytes_left h.1 in omega (arith, same)
