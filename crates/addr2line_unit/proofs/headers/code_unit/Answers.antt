use Rattle.std.proofs.Common.{◌≡◌, ◌≢◌, Bool, sym, ap, ◌∙◌, rules}
use Rattle.std.proofs.lemmas.Result.{err_from_is_err_and}
use Rattle.addr2line_functions.specs.Error.TheVariants.{Memory}
use Rattle.addr2line_functions.specs.DwarfFiles.{DwarfFile}
use Rattle.addr2line_functions.specs.EntryViews.{entry_of}
use Rattle.addr2line_functions.specs.UnitFacts.{UnitFacts, unit_facts}
use Rattle.addr2line_root.specs.BareUnits.{unit_facts_or_bare}
use Rattle.addr2line_root.specs.CachedFiles.{CachedFile}
use Rattle.addr2line_root.proofs.ReadUnits.{read_facts}
use Rattle.addr2line_unit.proofs.CodeUnits.{bare_in_shared, has_facts, has_none, found_in, has_root, has_header}
use Rattle.addr2line_unit.proofs.headers.code_unit.Goals as goal

pub returns-in_err-share-in-Ok-clause-unit : goal.returns-in_err-share-in-Ok-clause-unit
returns-in_err-share-in-Ok-clause-unit g c =
    let p = err_from_is_err_and c.from_residual.result c.from_residual.ensures.1 in
    rw (p.1, p.2) (λ m. cc (c.in_err-share-in-Ok.ensures m))

pub new-requires : goal.new-requires
new-requires g c =
    let file : DwarfFile = c.args.sections.now.value.file in
    let unit : UnitFacts = c.in-Ok.unit in
    let is_whole : Bool = c.in-Ok.is_whole in
    let borrowed = c.as_ref.ensures in
    let was_read = c.in-Ok.ensures.unit in
    let was_shared = c.in_ok-share-in-Ok.ensures in
    let read : unit_facts_or_bare is_whole file c.args.header ≡ read_facts unit = cc in
    let same : c.in_ok-share-in-Ok.field-0.value.file ≡ file = cc in
    bare_in_shared file c.in_ok-share-in-Ok.field-0.value.file c.args.header is_whole unit read same

pub returns-in_ok-new-in-Ok-clause-unit : goal.returns-in_ok-new-in-Ok-clause-unit
returns-in_ok-new-in-Ok-clause-unit g c =
    let file : DwarfFile = c.args.sections.now.value.file in
    let unit : UnitFacts = c.in-Ok.unit in
    let is_whole : Bool = c.in-Ok.is_whole in
    let borrowed = c.as_ref.ensures in
    let was_read = c.in-Ok.ensures.unit in
    let was_shared = c.in_ok-share-in-Ok.ensures in
    let read : unit_facts_or_bare is_whole file c.args.header ≡ read_facts unit = cc in
    let same : c.in_ok-share-in-Ok.field-0.value.file ≡ file = cc in
    has_facts file c.in_ok-share-in-Ok.field-0.value.file c.args.header is_whole unit read same
    c.in_ok-new-in-Ok.field-0.counted.unit c.in_ok-new-in-Ok.ensures.unit
    (sym c.is_of_types.ensures ∙ c.if-is_of_types.false)

pub returns-in_ok-new-in-Ok-clause-root : goal.returns-in_ok-new-in-Ok-clause-root
returns-in_ok-new-in-Ok-clause-root g c =
    let file : DwarfFile = c.args.sections.now.value.file in
    let unit : UnitFacts = c.in-Ok.unit in
    let is_whole : Bool = c.in-Ok.is_whole in
    let borrowed = c.as_ref.ensures in
    let was_read = c.in-Ok.ensures.unit in
    let was_shared = c.in_ok-share-in-Ok.ensures in
    let read : unit_facts_or_bare is_whole file c.args.header ≡ read_facts unit = cc in
    let same : c.in_ok-share-in-Ok.field-0.value.file ≡ file = cc in
    has_root file c.in_ok-share-in-Ok.field-0.value.file c.args.header is_whole unit read same
    c.in_ok-new-in-Ok.field-0.counted.unit c.in_ok-new-in-Ok.ensures.unit
    (entry_of g.R.Reader.view g.R.Offset.ReaderOffset.count c.unit_or_bare_with_root.new.entry)
    (found_in file c.as_ref.result.now.file c.args.header _ (ap (λ (d : CachedFile). d.file) c.as_ref.ensures)
    c.in-Ok.ensures.root)

pub returns-in_ok-new-in-Ok-clause-header : goal.returns-in_ok-new-in-Ok-clause-header
returns-in_ok-new-in-Ok-clause-header g c =
    let file : DwarfFile = c.args.sections.now.value.file in
    let unit : UnitFacts = c.in-Ok.unit in
    let is_whole : Bool = c.in-Ok.is_whole in
    let borrowed = c.as_ref.ensures in
    let was_read = c.in-Ok.ensures.unit in
    let was_shared = c.in_ok-share-in-Ok.ensures in
    let read : unit_facts_or_bare is_whole file c.args.header ≡ read_facts unit = cc in
    let same : c.in_ok-share-in-Ok.field-0.value.file ≡ file = cc in
    has_header file c.in_ok-share-in-Ok.field-0.value.file c.args.header is_whole unit read same
    c.in_ok-new-in-Ok.field-0.counted.unit c.in_ok-new-in-Ok.ensures.unit

pub returns-in-Err-clause-unit : goal.returns-in-Err-clause-unit
returns-in-Err-clause-unit g c =
    let other : c.in-Err.field-0 ≢ Memory = search rules in
    has_none c.args.sections.now.value.file c.args.header c.in-Err.field-0
    (sym (ap (λ (d : CachedFile). unit_facts d.file c.args.header) c.as_ref.ensures)
    ∙ c.in-Err.ensures.refusal other)
