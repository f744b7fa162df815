use Rattle.std.proofs.Common.{◌∷◌, [], ◌++◌}
use Rattle.addr2line_decompress.proofs.SectionLoops.{split_at, texts_more, bytes_more}
use Rattle.addr2line_decompress.proofs.bytes_after.ImageBytes.texts.Goals as goal

pub loop-index-preserved : goal.loop-index-preserved
loop-index-preserved c =
    let so_far = c.loop-index.invariant in
    let more = c.in_ok-text.ensures in (
      so_far.0 ++ more.0 ∷ [],
      texts_more c.args.sections.now c.loop-index.index c.index-sections-index.result so_far.0 more.0 _
          (split_at c.args.sections.now c.loop-index.index c.index-sections-index.result c.loop-index-test.true
          c.index-sections-index.is) more.1 so_far.1,
      bytes_more _ _ so_far.0 more.0 _ so_far.2 more.2,
    )
