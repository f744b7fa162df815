use Rattle.addr2line_lookups.proofs.units.Units.settle_unit.Goals as goal

pub returns : goal.returns
returns g c =
    let r = c.settle.ensures in
    record {
      values = r.change.values;
      calls = r.change.calls;
      found = r.found;
      cost = r.change.cost;
      reads = r.change.reads;
      functions = r.change.functions;
      asked = r.asked;
      passed = r.passed;
      kept = r.kept;
    }
