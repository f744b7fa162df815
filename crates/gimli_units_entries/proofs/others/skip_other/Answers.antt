use Rattle.std.proofs.Common.{◌≡◌, false, eqb, ℤ, None, Some, arith, rules, ap, sym, ◌∙◌, w64, to_z, of_z}
use Rattle.std.proofs.lemmas.Bool.Decides.{nat_tests}
use Rattle.std.proofs.lemmas.Int.{to_z-of_z}
use Rattle.gimli_core_base.proofs.StepParts.{read}
use Rattle.gimli_units_entries.specs.EntryWalks.{depth_after}
use Rattle.gimli_units_entries.specs.OtherEntries.{is_tag_of, walk_at}
use Rattle.gimli_units_entries.proofs.OtherEntryLemmas.{some_walk, no_code, null_is_skipped, unknown_code, chosen_stays, refused_stays, other_is_skipped}
use Rattle.gimli_units_entries.proofs.others.skip_other.Goals as goal

pub returns-in_default : goal.returns-in_default
returns-in_default g c = λ end_offset.
    no_code (is_tag_of c.args.tags.now)
    (walk_at c.args.encoding c.args.table.now end_offset c.args.depth (g.R.Reader.view c.args.place.now)) _
    c.in_default.ensures.value

pub returns-then-code-eq0 : goal.returns-then-code-eq0
returns-then-code-eq0 g c = λ end_offset.
    let w = walk_at c.args.encoding c.args.table.now end_offset c.args.depth (g.R.Reader.view c.args.place.now) in
    let zero_is : c.in-Ok.code ≡ 0 = grind (arith, nat_tests) in
    let reads = c.in-Ok.ensures.value ∙ ap (read c.in-Ok.code) (sym c.advance.ensures) in
    let skipped = null_is_skipped (is_tag_of c.args.tags.now) w c.in-Ok.code (g.R.Reader.view c.advance.new.self) reads
    zero_is in
    let depth : to_z w64 (of_z w64 c.depth_after_null.result) ≡ c.depth_after_null.result =
    to_z-of_z w64 c.depth_after_null.result (search rules) in
    let start : to_z w64 (of_z w64 c.args.depth) ≡ c.args.depth = to_z-of_z w64 c.args.depth c.ranges.depth in
    skipped
    ∙ ap (λ (d : ℤ). some_walk (walk_at c.args.encoding c.args.table.now end_offset d
    (g.R.Reader.view c.advance.new.self)))
    (sym (depth ∙ c.depth_after_null.ensures ∙ ap (λ (d : ℤ). depth_after d None) start))

pub returns-in_default-get : goal.returns-in_default-get
returns-in_default-get g c = λ end_offset.
    let w = walk_at c.args.encoding c.args.table.now end_offset c.args.depth (g.R.Reader.view c.args.place.now) in
    let nonzero : eqb c.in-Ok.code 0 ≡ false = grind (arith, nat_tests) in
    unknown_code (is_tag_of c.args.tags.now) w c.in-Ok.code _ c.in-Ok.ensures.value nonzero
    (sym c.in_default-get.ensures)

pub returns-then-is_one_of : goal.returns-then-is_one_of
returns-then-is_one_of g c = λ end_offset.
    let w = walk_at c.args.encoding c.args.table.now end_offset c.args.depth (g.R.Reader.view c.args.place.now) in
    let nonzero : eqb c.in-Ok.code 0 ≡ false = grind (arith, nat_tests) in
    chosen_stays (is_tag_of c.args.tags.now) w c.in-Ok.code c.in-Some.abbreviation _
    c.in-Ok.ensures.value nonzero (sym c.in-Some.ensures)
    (ap (is_tag_of c.args.tags.now) (sym c.tag.ensures) ∙ sym c.is_one_of.ensures ∙ c.if-is_one_of.true)

pub returns-in_default-skip_declared : goal.returns-in_default-skip_declared
returns-in_default-skip_declared g c = λ end_offset.
    let w = walk_at c.args.encoding c.args.table.now end_offset c.args.depth (g.R.Reader.view c.args.place.now) in
    let nonzero : eqb c.in-Ok.code 0 ≡ false = grind (arith, nat_tests) in
    refused_stays (is_tag_of c.args.tags.now) w c.in-Ok.code c.in-Some.abbreviation
    (g.R.Reader.view c.advance.new.self) _
    (c.in-Ok.ensures.value ∙ ap (read c.in-Ok.code) (sym c.advance.ensures)) nonzero (sym c.in-Some.ensures)
    (ap (is_tag_of c.args.tags.now) (sym c.tag.ensures) ∙ sym c.is_one_of.ensures ∙ c.if-is_one_of.false)
    c.in_default-skip_declared.ensures

pub returns : goal.returns
returns g c = λ end_offset.
    let w = walk_at c.args.encoding c.args.table.now end_offset c.args.depth (g.R.Reader.view c.args.place.now) in
    let nonzero : eqb c.in-Ok.code 0 ≡ false = grind (arith, nat_tests) in
    let skipped = other_is_skipped (is_tag_of c.args.tags.now) w c.in-Ok.code
    c.in-Some.abbreviation (g.R.Reader.view c.advance.new.self)
    (g.R.Reader.view c.skip_declared.new.place)
    (c.in-Ok.ensures.value ∙ ap (read c.in-Ok.code) (sym c.advance.ensures)) nonzero (sym c.in-Some.ensures)
    (ap (is_tag_of c.args.tags.now) (sym c.tag.ensures) ∙ sym c.is_one_of.ensures ∙ c.if-is_one_of.false)
    c.in-Ok-skip_declared.ensures in
    let depth : to_z w64 (of_z w64 c.depth_after.result) ≡ c.depth_after.result =
    to_z-of_z w64 c.depth_after.result (search rules) in
    let start : to_z w64 (of_z w64 c.args.depth) ≡ c.args.depth = to_z-of_z w64 c.args.depth c.ranges.depth in
    skipped
    ∙ ap (λ (d : ℤ). some_walk (walk_at c.args.encoding c.args.table.now end_offset d
    (g.R.Reader.view c.skip_declared.new.place)))
    (sym (depth ∙ c.depth_after.ensures
    ∙ ap (λ (d : ℤ). depth_after d (Some c.in-Some.abbreviation)) start))
