-- What was written, and the fields that are left, are the whole.
use Rattle.std.proofs.Common.{◌≡◌, ◌++◌, drop, map}
use Rattle.linemap_elf.specs.SpelledImages.{spelled_fields}
use Rattle.linemap_elf.specs.WrittenImages.{field_of}
use Rattle.linemap_elf.proofs.writer.ImageWriter.fields.Given as goal

abbrev pub invariant-loop-field : goal.invariant-loop-field
invariant-loop-field l =
    (l.self.is_big ≡ l.fn.self.is_big) × (l.self.class ≡ l.fn.self.class)
    × (l.self.bytes ++ spelled_fields l.fn.self.is_big (map field_of (drop l.field-index l.fields))
    ≡ l.fn.self.bytes ++ spelled_fields l.fn.self.is_big (map field_of l.fields))
