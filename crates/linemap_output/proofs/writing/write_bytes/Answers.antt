use Rattle.std.proofs.Common.{rules, arith, [], ◌++◌, append_assoc}
use Rattle.std.proofs.lemmas.List.{append-nil, take_rest, take-append-drop}
use Rattle.linemap_output.proofs.WritingLemmas.{appends_then_keeps, appends_more, prefix_before}
use Rattle.linemap_output.proofs.writing.write_bytes.Goals as goal

pub returns-in-Ok-eq0-clause-prefix : goal.returns-in-Ok-eq0-clause-prefix
returns-in-Ok-eq0-clause-prefix g c =
    let w = c.write.invariant.prefix_written in
    let extends = appends_more _ _ _ w.0 [] w.1 (search rules) in
    prefix_before _ _ (w.0 ++ []) c.write.rest.now c.args.bytes.now extends (rw (append-nil w.0) w.2)

pub write-preserved-in-Ok : goal.write-preserved-in-Ok
write-preserved-in-Ok g c =
    let w = c.write.invariant.prefix_written in
    let more = appends_more _ _ _ w.0 _ w.1 c.in-Ok.ensures.bytes in
    record { prefix_written = (_, more, rw (take_rest, append_assoc, take-append-drop) w.2); tries_left = omega arith }

pub returns-in_err-interruptions-in-Err-clause-prefix : goal.returns-in_err-interruptions-in-Err-clause-prefix
returns-in_err-interruptions-in-Err-clause-prefix g c =
    let w = c.write.invariant.prefix_written in
    prefix_before _ _ w.0 c.write.rest.now c.args.bytes.now (appends_then_keeps _ _ _ w.0 w.1 c.in-Err.ensures.bytes)
    w.2

pub returns-clause-prefix : goal.returns-clause-prefix
returns-clause-prefix g c =
    let w = c.write.invariant.prefix_written in
    prefix_before _ _ w.0 c.write.rest.now c.args.bytes.now w.1 w.2
