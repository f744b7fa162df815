-- The ranges of a set are no more than its bytes.
use Rattle.std.proofs.Common.{rules}
use Rattle.gimli_units_headers.proofs.ArangeSetLemmas.{few_in_set}
use Rattle.gimli_units_headers.proofs.arange_set.ArangeHeader.entries.Goals as goal

pub returns-clause-few : goal.returns-clause-few
returns-clause-few g c = few_in_set c.args.self.now c.new.result (search rules) (search rules)
