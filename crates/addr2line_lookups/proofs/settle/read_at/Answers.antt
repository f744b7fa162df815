use Rattle.std.proofs.Common.{◌<◌, length, arith}
use Rattle.std.proofs.lemmas.Result.{on_ok_weaker}
use Rattle.addr2line_unit.specs.ResolvedUnits.{KeepsLines}
use Rattle.addr2line_lookups.proofs.AskedLines.{reads_set, no_stop_of}
use Rattle.addr2line_lookups.proofs.CallsOfUnits.{if_here}
use Rattle.addr2line_lookups.proofs.KeptLines.{keeps_set}
use Rattle.addr2line_lookups.proofs.ReadLines.{lines_set}
use Rattle.addr2line_lookups.proofs.UnitProbes.{keeps_still}
use Rattle.addr2line_lookups.proofs.settle.read_at.Goals as goal

pub returns : goal.returns
returns g c =
    let us = c.args.units.now.items in
    let n = c.args.number in
    let unit = c.index_mut-unit.result.now in
    let is = c.index_mut-unit.ensures.value in
    let new = c.read_lines.new.self in
    let read = c.read_lines.ensures in
    let below : n < length us = omega arith in
    record {
      change =
          lines_set us n unit new below is read.unit (keeps_still c.read_lines.result unit new read.kept read.free);
      kept = on_ok_weaker c.read_lines.result (keeps_set us n new) read.kept;
      reads = reads_set us n new;
      refusal = read.refusal;
      free = λ kept. no_stop_of c.read_lines.result (read.free (if_here us n unit below is KeepsLines kept));
    }
