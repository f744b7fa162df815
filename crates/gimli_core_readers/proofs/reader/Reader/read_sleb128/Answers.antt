-- A signed number's string is no longer than the bytes.
use Rattle.std.proofs.Common.{sym, ap, length, arith}
use Rattle.gimli_core_readers.proofs.LebStringFits.{signed_fits}
use Rattle.gimli_core_readers.proofs.reader.Reader.read_sleb128.Goals as goal

pub advance-requires : goal.advance-requires
advance-requires g c =
    let h = signed_fits c.as_bytes.result.now c.in-Ok.value c.in-Ok.len (sym c.in-Ok.ensures) in omega
    (arith, ap length c.as_bytes.ensures.value)
