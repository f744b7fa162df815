use Rattle.std.proofs.Common.{◌≡◌, ◌∙◌, sym, true, false}
use Rattle.gimli_core_base.proofs.ByteWeights.{big-at_end, little-at_start}
use Rattle.gimli_core_base.proofs.order.Endianity.read_uint.Goals as goal

pub returns-then-is_big_endian : goal.returns-then-is_big_endian
returns-then-is_big_endian g c =
    let order : true ≡ g.Self.Endianity.is_big c.args.self = sym c.if-is_big_endian.true ∙ c.is_big_endian.ensures in
    rw (← order) (c.from_be_bytes.ensures ∙ rw c.copy_from_slice.ensures.after (big-at_end c.args.buf.now c.requires))

pub returns-else-is_big_endian : goal.returns-else-is_big_endian
returns-else-is_big_endian g c =
    let order : false ≡ g.Self.Endianity.is_big c.args.self = sym c.if-is_big_endian.false ∙ c.is_big_endian.ensures in
    rw (← order) (c.from_le_bytes.ensures ∙ rw c.copy_from_slice-else-is_big_endian.ensures.after
    (little-at_start c.args.buf.now c.requires))
