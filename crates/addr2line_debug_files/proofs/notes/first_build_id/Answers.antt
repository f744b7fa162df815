use Rattle.std.proofs.Common.{◌∙◌, sym}
use Rattle.addr2line_debug_files.proofs.NoteLemmas.{no_note, cut_note, identifying_note, other_note, note-shorter}
use Rattle.addr2line_debug_files.proofs.notes.first_build_id.Goals as goal

pub returns-in_default : goal.returns-in_default
returns-in_default c =
    sym (cut_note c.loop-rest.rest _ (sym c.loop-rest-test.ensures) c.in_default.ensures) ∙ c.loop-rest.invariant

pub returns-then-is_build_id : goal.returns-then-is_build_id
returns-then-is_build_id c =
    sym (identifying_note c.loop-rest.rest c.parse.new.input c.in-Ok.note (sym c.loop-rest-test.ensures) c.in-Ok.ensures
    (sym c.if-is_build_id.ensures)) ∙ c.loop-rest.invariant

pub loop-rest-smaller : goal.loop-rest-smaller
loop-rest-smaller c = note-shorter c.loop-rest.rest c.parse.new.input c.in-Ok.note c.in-Ok.ensures

pub loop-rest-preserved : goal.loop-rest-preserved
loop-rest-preserved c =
    sym (other_note c.loop-rest.rest c.parse.new.input c.in-Ok.note (sym c.loop-rest-test.ensures) c.in-Ok.ensures
    (sym c.if-is_build_id.ensures)) ∙ c.loop-rest.invariant

pub returns : goal.returns
returns c = sym (no_note c.loop-rest.rest (sym c.loop-rest-test.ensures)) ∙ c.loop-rest.invariant
