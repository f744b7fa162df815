-- Each answer is what was to come.
use Rattle.std.proofs.Common.{rules, Ok, Err, Some, None, refl}
use Rattle.gimli_core_readers.proofs.AddressSetLemmas.{address_comes_next}
use Rattle.gimli_core_readers.proofs.address_entries.AddrEntryIter.next.Goals as goal

pub returns-then-is_empty-clause-order : goal.returns-then-is_empty-clause-order
returns-then-is_empty-clause-order g c =
    address_comes_next (Ok None) c.args.self.now c.args.self.now refl (search rules)

pub returns-in-Ok-clause-order : goal.returns-in-Ok-clause-order
returns-in-Ok-clause-order g c =
    address_comes_next (Ok (Some c.in-Ok.address)) c.args.self.now
    (record { address_size = c.self.inside.address_size; rest = g.R.Reader.view c.read_address.new.self })
    (search rules) (search rules)

pub returns-in-Err-clause-order : goal.returns-in-Err-clause-order
returns-in-Err-clause-order g c =
    address_comes_next (Err c.in-Err.fault) c.args.self.now
    (record { address_size = c.self.inside.address_size; rest = g.R.Reader.view c.empty.new.self })
    (search rules) (search rules)
