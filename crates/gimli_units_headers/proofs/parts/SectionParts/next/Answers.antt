-- A part takes its bytes; and each answer is what was to come.
use Rattle.std.proofs.Common.{rules, arith, Ok, Err, Some, ap, ◌∙◌}
use Rattle.gimli_core_base.specs.View.{after}
use Rattle.gimli_core_base.specs.Repetition.{fault_of}
use Rattle.gimli_core_readers.proofs.TilingLemmas.{part_comes_next}
use Rattle.gimli_units_headers.specs.SectionParts.{counted_part}
use Rattle.gimli_units_headers.proofs.PartLemmas.{left_of_copy, none_to_come, part_within, part_is_next, fault_is_next}
use Rattle.gimli_units_headers.proofs.parts.SectionParts.next.Goals as goal

pub returns-then-is_empty-clause-order : goal.returns-then-is_empty-clause-order
returns-then-is_empty-clause-order g c =
    let none =
    none_to_come (counted_part g.R.Offset.ReaderOffset.limit g.P.SectionPart.read_in) c.args.self.now (search rules) in
    (ap (λ l. l.items) none, ap fault_of none)

pub parse-requires : goal.parse-requires
parse-requires g c =
    let same = left_of_copy c.args.self.now.rest (g.R.Reader.view c.in_ok-bytes.bytes) (search rules) in
    let below = c.next_offset.ensures.below in omega arith

pub size-requires : goal.size-requires
size-requires g c =
    let within = part_within c.requires (g.R.Offset.ReaderOffset.count c.next_offset.result)
    c.args.self.now.rest (g.R.Reader.view c.in_ok-bytes.bytes) c.in-Ok.part (search rules) c.in-Ok.ensures.value in
    let below = c.next_offset.ensures.below in omega arith

pub advance-requires : goal.advance-requires
advance-requires g c =
    let within = part_within c.requires (g.R.Offset.ReaderOffset.count c.next_offset.result)
    (g.R.Reader.view c.self.inside.input) (g.R.Reader.view c.in_ok-bytes.bytes) c.in-Ok.part (search rules)
    c.in-Ok.ensures.value in
    omega (arith, c.into_u64.ensures.value, c.size.ensures, within)

pub returns-in-Ok-clause-value : goal.returns-in-Ok-clause-value
returns-in-Ok-clause-value g c =
    part_is_next c.requires c.args.self.now (g.R.Offset.ReaderOffset.count c.next_offset.result)
    (g.R.Reader.view c.in_ok-bytes.bytes) c.in-Ok.part (g.R.Reader.view c.advance.new.self) (search rules)
    (search rules) c.next_offset.ensures.value c.in-Ok.ensures.value
    (c.advance.ensures ∙ ap (λ n. after n (g.R.Reader.view c.self.inside.input))
    (c.into_u64.ensures.value ∙ c.size.ensures) ∙ search rules)

pub returns-in-Ok-clause-order : goal.returns-in-Ok-clause-order
returns-in-Ok-clause-order g c =
    part_comes_next c.requires (Ok (Some c.in-Ok.part)) c.args.self.now
    (record {
      section_length = g.R.Offset.ReaderOffset.count c.self.inside.section_len;
      rest = g.R.Reader.view c.advance.new.self;
    })
    (search rules)
    (part_is_next c.requires c.args.self.now (g.R.Offset.ReaderOffset.count c.next_offset.result)
    (g.R.Reader.view c.in_ok-bytes.bytes) c.in-Ok.part (g.R.Reader.view c.advance.new.self) (search rules)
    (search rules) c.next_offset.ensures.value c.in-Ok.ensures.value
    (c.advance.ensures ∙ ap (λ n. after n (g.R.Reader.view c.self.inside.input))
    (c.into_u64.ensures.value ∙ c.size.ensures) ∙ search rules))

pub returns-in-Err-clause-order : goal.returns-in-Err-clause-order
returns-in-Err-clause-order g c =
    part_comes_next c.requires (Err c.in-Err.fault) c.args.self.now
    (record {
      section_length = g.R.Offset.ReaderOffset.count c.self.inside.section_len;
      rest = g.R.Reader.view c.empty.new.self;
    })
    (search rules)
    (λ ne. fault_is_next (counted_part g.R.Offset.ReaderOffset.limit g.P.SectionPart.read_in) c.args.self.now
    (g.R.Offset.ReaderOffset.count c.next_offset.result)
    (g.R.Reader.view c.in_ok-bytes.bytes) c.in-Err.fault (search rules) (search rules) c.next_offset.ensures.value
    c.in-Err.ensures.value)
