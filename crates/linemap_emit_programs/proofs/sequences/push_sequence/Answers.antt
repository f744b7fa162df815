use Rattle.linemap_emit_rows.specs.TableViews.{row_part}
use Rattle.linemap_emit_programs.specs.EmittedFiles.{place_in}
use Rattle.linemap_emit_programs.proofs.WholeSequences.{sequence_whole}
use Rattle.linemap_emit_programs.proofs.sequences.push_sequence.Goals as goal

pub returns-clause-ok : goal.returns-clause-ok
returns-clause-ok c =
    let s = c.args.sequence.now in
    sequence_whole row_part (place_in c.args.files.now) s.rows.items c.deref.result.now c.deref-2.result.now
    c.in-Some.first.now
    s.end c.args.program.now c.begin_sequence.new.self c.push_rows.new.program c.requires.idle c.deref.ensures.value
    c.in-Some.ensures.value c.deref-2.ensures.value c.in_ok-begin_sequence.ensures.ok c.in_ok-push_rows.ensures.ok
