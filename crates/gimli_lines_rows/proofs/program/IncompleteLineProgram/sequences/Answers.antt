use Rattle.std.proofs.Common.{rules, ◌∙◌, sym, subst, refl, List}
use Rattle.gimli_lines_header.specs.LineHeaders.{LineHeader}
use Rattle.gimli_lines_rows.specs.ProgramRows.{RemainingRows, stays}
use Rattle.gimli_lines_rows.specs.RowSequences.{RowSequence, program_rows}
use Rattle.gimli_lines_rows.proofs.SequenceLoops.{FindsSequences, sequences_none, sequences_more, pieces_found_all, sequences_fault, piece_smaller, next_some, next_ended, rows_are, memory_refused}
use Rattle.gimli_lines_rows.proofs.program.IncompleteLineProgram.sequences.Goals as goal

pub loop-sequences-init : goal.loop-sequences-init
loop-sequences-init g c =
    let limit = g.R.Offset.ReaderOffset.limit in
    let begun = program_rows c.args.self in
    subst (λ (t : RemainingRows). FindsSequences limit begun t c.new-sequences.result.items)
    (rows_are begun c.in_ok-rows.rows c.in_ok-rows.ensures.value)
    (subst (λ (qs : List RowSequence). FindsSequences limit begun begun qs) (sym c.new-sequences.ensures.items)
    (sequences_none limit begun (stays begun) refl))

pub loop-sequences-preserved : goal.loop-sequences-preserved
loop-sequences-preserved g c =
    let limit = g.R.Offset.ReaderOffset.limit in
    sequences_more limit (program_rows c.args.self) c.loop-sequences.rows c.next_sequence.new.rows
    c.loop-sequences.sequences.items _ c.in-Some.sequence c.loop-sequences.invariant
    (next_some limit _ c.in-Some.sequence c.loop-sequences.rows c.next_sequence.new.rows c.in-Some.is
    c.in_ok-sequence.ensures) c.in_ok-push.ensures.items

pub loop-sequences-smaller : goal.loop-sequences-smaller
loop-sequences-smaller g c =
    let limit = g.R.Offset.ReaderOffset.limit in
    piece_smaller limit c.in-Some.sequence c.loop-sequences.rows c.next_sequence.new.rows
    (next_some limit _ c.in-Some.sequence c.loop-sequences.rows c.next_sequence.new.rows c.in-Some.is
    c.in_ok-sequence.ensures)

pub returns-in_err-sequence : goal.returns-in_err-sequence
returns-in_err-sequence g c =
    sequences_fault g.R.Offset.ReaderOffset.limit (λ p. (p.0, p.1.items)) c.from_residual-in_err-sequence.result
    c.args.self c.loop-sequences.rows c.next_sequence.new.rows c.loop-sequences.sequences.items _
    c.from_residual-in_err-sequence.ensures.1 c.loop-sequences.invariant c.in_err-sequence.ensures

pub returns-in_err-push : goal.returns-in_err-push
returns-in_err-push g c =
    memory_refused g.R.Offset.ReaderOffset.limit (λ p. (p.0, p.1.items)) _ c.args.self (search rules)

abbrev as_it_is : LineHeader × List RowSequence → LineHeader × List RowSequence
as_it_is p = p

pub returns : goal.returns
returns g c =
    let limit = g.R.Offset.ReaderOffset.limit in
    pieces_found_all limit as_it_is (c.complete.result, c.loop-sequences.sequences.items) c.args.self
    c.loop-sequences.rows c.next_sequence.new.rows c.loop-sequences.sequences.items c.loop-sequences.invariant
    (next_ended limit _ c.loop-sequences.rows c.next_sequence.new.rows c.in_default.is c.in_ok-sequence.ensures)
    (c.complete.ensures ∙ c.into_program.ensures) refl
