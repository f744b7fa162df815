-- When readers are equal.
use Rattle.std.proofs.Common.{◌≡◌, nat_eq}
use Rattle.std.specs.Prelude.{IsTrue, ◌↔◌}
use Rattle.std.specs.Cmp.{booleans_Decides}
use Rattle.std.specs.Cmp.Lexicographic.{pointwise, bytes_decides}
use Rattle.std.proofs.Math.Bool.{beq}
use Rattle.std.proofs.lemmas.Bool.{and_parts, and_from}
use Rattle.gimli_core_base.specs.View.{View}
use Rattle.gimli_core_readers.specs.Readers.{is_same, hash_bytes, equal_hash_alike}

pub same_decides : (a b : View) → IsTrue (is_same a b) ↔ ((a.bytes ≡ b.bytes) × (a.is_big ≡ b.is_big))
same_decides a b =
    let bytes = bytes_decides a.bytes b.bytes in
    let order = booleans_Decides a.is_big b.is_big in (
      (λ h. let parts = and_parts (pointwise nat_eq a.bytes b.bytes) (beq a.is_big b.is_big) h
          in (bytes.0 parts.0, order.0 parts.1)),
      (λ h. and_from (pointwise nat_eq a.bytes b.bytes) (beq a.is_big b.is_big) (bytes.1 h.0) (order.1 h.1)),
    )

pub same_hashed : (a b : View) → IsTrue (is_same a b) → hash_bytes a ≡ hash_bytes b
same_hashed a b h = equal_hash_alike.fed a b h
