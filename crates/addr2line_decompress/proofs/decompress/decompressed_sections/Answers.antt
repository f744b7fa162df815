use Rattle.std.proofs.Common.{ℕ, option_map, Vec, Global, ap, subst}
use Rattle.addr2line_decompress.specs.Decompression.{AreBytes}
use Rattle.addr2line_decompress.proofs.SectionLoops.{some_bytes, no_bytes}
use Rattle.addr2line_decompress.proofs.ReadAgain.{decompresses}
use Rattle.addr2line_decompress.proofs.decompress.decompressed_sections.Goals as goal

pub returns-in_ok-from_vec-in-Some-clause-image : goal.returns-in_ok-from_vec-in-Some-clause-image
returns-in_ok-from_vec-in-Some-clause-image c =
    decompresses c.args.which c.args.image c.in_ok-from_vec-in-Some.field-0
    (subst AreBytes c.as_slice.ensures c.all_bytes.ensures)
    (some_bytes c.args.which c.args.image _ c.in-Some.bytes.items c.in_ok-from_vec-in-Some.field-0 c.in_ok-bytes.ensures
    (ap (option_map (λ (v : Vec ℕ Global). v.items)) c.in-Some.is) c.in_ok-from_vec-in-Some.ensures.ok)

pub returns-in-None-clause-image : goal.returns-in-None-clause-image
returns-in-None-clause-image c =
    decompresses c.args.which c.args.image c.args.image (subst AreBytes c.as_slice.ensures c.all_bytes.ensures)
    (no_bytes c.args.which c.args.image _ c.in_ok-bytes.ensures
    (ap (option_map (λ (v : Vec ℕ Global). v.items)) c.in-None.is))
