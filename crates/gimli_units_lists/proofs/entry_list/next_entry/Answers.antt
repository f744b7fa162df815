-- Each answer is what was to come.
use Rattle.std.proofs.Common.{rules, ap, length}
use Rattle.std.proofs.lemmas.Bool.{eqb-true}
use Rattle.gimli_core_readers.specs.View.{bytes_left}
use Rattle.gimli_units_lists.proofs.RawListSteps.{takes, come_item, come_end, come_fault, no_more}
use Rattle.gimli_units_lists.proofs.entry_list.next_entry.Goals as goal

pub returns-then-is_empty-clause-next : goal.returns-then-is_empty-clause-next
returns-then-is_empty-clause-next g c =
    let none = no_more (g.E.ListEntry.entry c.args.how) (g.R.Reader.view c.args.input.now) (search rules) in
    (none, none)

pub returns-in-Ok-Some-clause-next : goal.returns-in-Ok-Some-clause-next
returns-in-Ok-Some-clause-next g c =
    come_item (takes c.in-Ok-Some.ensures.takes) (g.R.Reader.view c.args.input.now) (g.R.Reader.view c.parse.new.input)
    (g.E.ListEntry.see c.in-Ok-Some.entry) (search rules) (search rules)

pub returns-in-Ok-None-clause-next : goal.returns-in-Ok-None-clause-next
returns-in-Ok-None-clause-next g c = (
  come_end (takes c.in-Ok-None.ensures.takes) (g.R.Reader.view c.args.input.now) (g.R.Reader.view c.parse.new.input)
      (search rules) (search rules),
  no_more (g.E.ListEntry.entry c.args.how) (g.R.Reader.view c.empty.new.self) (search rules),
)

pub returns-in-Err-clause-next : goal.returns-in-Err-clause-next
returns-in-Err-clause-next g c = (
  (λ ne. come_fault (takes c.in-Err.ensures.takes) (g.R.Reader.view c.args.input.now)
      (g.R.Reader.view c.empty-in-Err.new.self) c.in-Err.fault (search rules) (search (rules, ne)) (search rules)),
  search rules,
)

pub returns-then-is_empty-clause-rest : goal.returns-then-is_empty-clause-rest
returns-then-is_empty-clause-rest g c =
    eqb-true (length (g.R.Reader.view c.args.input.now).bytes) 0 (search rules)

pub returns-in-Ok-None-clause-rest : goal.returns-in-Ok-None-clause-rest
returns-in-Ok-None-clause-rest g c = ap bytes_left c.empty.ensures

pub returns-in-Err-clause-rest : goal.returns-in-Err-clause-rest
returns-in-Err-clause-rest g c = ((λ ne. (search (rules, ne), ap bytes_left c.empty-in-Err.ensures)), search rules)
