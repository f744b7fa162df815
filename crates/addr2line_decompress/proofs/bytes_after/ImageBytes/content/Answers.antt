use Rattle.std.proofs.Common.{ℕ, List, Result, Ok, Some, sym, ap, ◌∙◌}
use Rattle.addr2line_decompress.specs.declared.error.DecompressError.{DecompressError}
use Rattle.addr2line_decompress.proofs.SectionLoops.{stream_text, plain_text}
use Rattle.addr2line_decompress.proofs.bytes_after.ImageBytes.content.Goals as goal

pub returns-in_ok-write-in-Some : goal.returns-in_ok-write-in-Some
returns-in_ok-write-in-Some c = (
  Some c.deref.result.now,
  stream_text c.args.index c.args.content.now c.in-Some.size c.deref.result.now (sym c.in-Some.ensures)
      (c.in_ok-text-in-Some.ensures ∙ ap ok (sym c.deref.ensures.value)),
  c.in_ok-write-in-Some.ensures,
)
  where
    ok : List ℕ → Result (List ℕ) DecompressError
    ok text = Ok text

pub returns-in_ok-write-in-None : goal.returns-in_ok-write-in-None
returns-in_ok-write-in-None c = (
  Some c.bytes.result.now,
  plain_text c.args.index c.args.content.now c.bytes.result.now (sym c.in-None.ensures) c.bytes.ensures,
  c.in_ok-write-in-None.ensures,
)
