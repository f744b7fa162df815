use Rattle.std.proofs.Common.{ap}
use Rattle.std.proofs.lemmas.Result.{err_from_is_err_and}
use Rattle.linemap_lookup.proofs.LineRuns.{lines_end, lines_more, lines_none, lines_out_of_memory, lines_stop}
use Rattle.linemap_lookup.proofs.engine.Engine.write_lines.Goals as goal

pub line-init : goal.line-init
line-init g c = lines_none c.new-buffer.ensures.start

pub line-preserved : goal.line-preserved
line-preserved g c =
    lines_more c.next_address.new.buffer c.line.invariant (ap g.E.Write.contents c.in_ok-address.ensures.same)
    c.in_ok-address.ensures.address c.in-Some.is c.in_ok-write.ensures.whole

pub returns-in_err-address-clause-stop : goal.returns-in_err-address-clause-stop
returns-in_err-address-clause-stop g c =
    let p = err_from_is_err_and c.from_residual.result c.from_residual.ensures.1 in
    rw (p.1, p.2)
    (lines_out_of_memory c.line.invariant c.next_address.ensures.taken c.in_err-address.ensures.memory)

pub returns-in_err-write-clause-stop : goal.returns-in_err-write-clause-stop
returns-in_err-write-clause-stop g c =
    let p = err_from_is_err_and c.from_residual-in_err-write.result c.from_residual-in_err-write.ensures.1 in
    rw (p.1, p.2)
    (lines_stop c.next_address.new.buffer c.line.invariant (ap g.E.Write.contents c.in_ok-address.ensures.same)
    c.in_ok-address.ensures.address c.in-Some.is c.in_err-write.ensures.stop)

pub returns-clause-whole : goal.returns-clause-whole
returns-clause-whole g c =
    lines_end c.next_address.new.buffer c.line.invariant (ap g.E.Write.contents c.in_ok-address.ensures.same)
    c.in_ok-address.ensures.address c.in_default.is
