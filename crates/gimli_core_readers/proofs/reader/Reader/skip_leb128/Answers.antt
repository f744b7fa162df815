-- A string at the front is no longer than the bytes.
use Rattle.std.proofs.Common.{sym, ap, length, arith}
use Rattle.gimli_core_readers.proofs.LebStringFits.{skipped_fits}
use Rattle.gimli_core_readers.proofs.reader.Reader.skip_leb128.Goals as goal

pub advance-requires : goal.advance-requires
advance-requires g c =
    let h = skipped_fits c.as_bytes.result.now c.in-Some.len (sym c.in-Some.ensures) in omega
    (arith, ap length c.as_bytes.ensures.value)
