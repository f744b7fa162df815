-- After a set there are no more bytes than before it; and each answer is what was to come.
use Rattle.std.proofs.Common.{rules, Ok, Err, Some, None, refl}
use Rattle.gimli_core_readers.proofs.TilingLemmas.{part_leaves_within, part_comes_next}
use Rattle.gimli_core_readers.proofs.AddressSetLemmas.{sets_are_parts}
use Rattle.gimli_core_readers.proofs.address_sets.AddrHeaderIter.next.Goals as goal

pub invariant_of-self : goal.invariant_of-self
invariant_of-self g c =
    part_leaves_within (sets_are_parts g.R.Offset.ReaderOffset.limit) _ _ _ _ _ _ c.self.invariant
    c.in_ok-input.ensures.value c.in-Ok.ensures.value

pub returns-then-is_empty-clause-order : goal.returns-then-is_empty-clause-order
returns-then-is_empty-clause-order g c =
    part_comes_next (sets_are_parts g.R.Offset.ReaderOffset.limit) (Ok None) c.args.self.now c.args.self.now refl
    (search rules)

pub returns-in-Ok-clause-order : goal.returns-in-Ok-clause-order
returns-in-Ok-clause-order g c =
    part_comes_next (sets_are_parts g.R.Offset.ReaderOffset.limit) (Ok (Some c.in-Ok.header)) c.args.self.now
    (record {
      section_length = g.R.Offset.ReaderOffset.count c.self.inside.section_len;
      rest = g.R.Reader.view
          c.parse_header.new.input;
    })
    (search rules) (search rules)

pub returns-clause-order : goal.returns-clause-order
returns-clause-order g c =
    part_comes_next (sets_are_parts g.R.Offset.ReaderOffset.limit) (Err c.in-Err.fault) c.args.self.now
    (record {
      section_length = g.R.Offset.ReaderOffset.count c.self.inside.section_len;
      rest = g.R.Reader.view
          c.empty.new.self;
    })
    (search rules) (search rules)
