use Rattle.std.proofs.Common.{ℕ, ◌+◌, drop, map}
use Rattle.std.specs.Global.{Vec}
use Rattle.gimli_lines_write_tables.proofs.SectionWrites.{one_done, all_done, next_bytes, none_left}
use Rattle.gimli_lines_write_tables.proofs.string_tables.write_texts.Goals as goal

pub loop-text-preserved : goal.loop-text-preserved
loop-text-preserved g c =
    one_done (g.W.Writer.contents c.args.w.now) (g.W.Writer.contents c.loop-text.w)
    (map (λ (t : Vec ℕ). t.items) c.args.texts.now) c.as_slice.result.now
    (map (λ (t : Vec ℕ). t.items) (drop (c.loop-text.text-index + 1) c.args.texts.now))
    (map (λ (t : Vec ℕ). t.items) (drop c.loop-text.text-index c.args.texts.now)) c.loop-text.invariant
    (next_bytes c.args.texts.now c.loop-text.text-index c.text-item.result c.as_slice.result.now
    c.loop-text-test.true c.text-item.is c.as_slice.ensures.value)
    (g.W.Writer.contents c.write_text.new.w) c.in_ok-write_text.ensures

pub returns : goal.returns
returns g c = all_done (g.W.Writer.contents c.args.w.now) (g.W.Writer.contents c.loop-text.w)
    (map (λ (t : Vec ℕ). t.items) c.args.texts.now)
    (rw (← none_left c.args.texts.now c.loop-text.text-index c.loop-text-test.false) c.loop-text.invariant)
