use Rattle.std.proofs.Common.{inr, subst}
use Rattle.linemap_output.specs.WriterBytes.{AppendsPrefix}
use Rattle.std.specs.Io.KnownBytes.{Appends}
use Rattle.linemap_lookup.proofs.write.write_answer.Goals as goal

pub returns-in-Ok-clause-whole : goal.returns-in-Ok-clause-whole
returns-in-Ok-clause-whole g c = record {
  out = subst (Appends _ _) c.deref.ensures c.in-Ok.ensures.whole;
  err = c.report.ensures.err;
  flags = c.report.ensures.flags;
}

pub returns-in-Err-clause-stop : goal.returns-in-Err-clause-stop
returns-in-Err-clause-stop g c = record {
  mid = g.E.Write.contents c.report.new.err;
  noted = c.report.new.ended;
  last = c.output_failed.result;
  out = subst (AppendsPrefix _ _) c.deref.ensures c.in-Err.ensures.prefix;
  err = c.report.ensures.err;
  flags = c.report.ensures.flags;
  reports = inr (c.in-Err.fault, c.output_failed.ensures);
  end = c.with_flags.ensures;
}
