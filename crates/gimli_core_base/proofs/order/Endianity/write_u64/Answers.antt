use Rattle.std.proofs.Common.{refl, ◌∙◌}
use Rattle.std.proofs.lemmas.List.{length-take-le}
use Rattle.gimli_core_base.proofs.order.Endianity.write_u64.Goals as goal
use Rattle.gimli_core_base.proofs.order.Endianity.write_u64.Goals.{then-is_big_endian, else-is_big_endian}

pub copy_from_slice-requires : goal.copy_from_slice-requires
copy_from_slice-requires g c =
    length-take-le 8 c.args.buf.now c.requires
    ∙ elim c.if-is_big_endian.branch [
      | then-is_big_endian w ↦ rw (w.bytes-is, w.to_be_bytes-bytes.ensures) refl
      | else-is_big_endian w ↦ rw (w.bytes-is, w.to_le_bytes-bytes.ensures) refl
    ]
