use Rattle.std.proofs.lemmas.Result.{err_from_is_err_and}
use Rattle.gimli_dwarf.proofs.BareUnitSteps.{root-of_alone, root-of_table, refused-of_root, bare-of_root, whole-of_root, root-of_unit, refused-of_bare}
use Rattle.gimli_dwarf.proofs.unit.Unit.or_bare_with_root.Goals as goal

-- ---- the table was only checked

pub returns-in_err-read_root-clause-refusal : goal.returns-in_err-read_root-clause-refusal
returns-in_err-read_root-clause-refusal g c =
    let p = err_from_is_err_and c.from_residual-in_err-read_root.result c.from_residual-in_err-read_root.ensures.1 in
    rw (p.1, p.2) (λ m.
    refused-of_root c.args.dwarf.now.file c.args.header
    (root-of_alone c.args.dwarf.now.file c.args.header c.in-Some.is c.in_ok-declarations.ensures.value
    c.in_ok-declarations.ensures.limit (c.in_err-read_root.ensures m)))

pub returns-in_err-unit-clause-refusal : goal.returns-in_err-unit-clause-refusal
returns-in_err-unit-clause-refusal g c =
    let p = err_from_is_err_and c.from_residual-in_err-unit.result c.from_residual-in_err-unit.ensures.1 in
    rw (p.1, p.2) (λ m.
    refused-of_bare c.args.dwarf.now.file c.args.header
    (root-of_alone c.args.dwarf.now.file c.args.header c.in-Some.is c.in_ok-declarations.ensures.value
    c.in_ok-declarations.ensures.limit c.in_ok-read_root.ensures) c.attrs.ensures (c.in_err-unit.ensures m))

pub returns-in-Some-clause-unit : goal.returns-in-Some-clause-unit
returns-in-Some-clause-unit g c =
    bare-of_root c.args.dwarf.now.file c.args.header
    (root-of_alone c.args.dwarf.now.file c.args.header c.in-Some.is c.in_ok-declarations.ensures.value
    c.in_ok-declarations.ensures.limit c.in_ok-read_root.ensures) c.attrs.ensures c.in_ok-unit.ensures

pub returns-in-Some-clause-root : goal.returns-in-Some-clause-root
returns-in-Some-clause-root g c =
    root-of_unit c.args.dwarf.now.file c.args.header
    (root-of_alone c.args.dwarf.now.file c.args.header c.in-Some.is c.in_ok-declarations.ensures.value
    c.in_ok-declarations.ensures.limit c.in_ok-read_root.ensures)

-- ---- it wasn't, and the root names a line number program

pub returns-in_err-unit-2-clause-refusal : goal.returns-in_err-unit-2-clause-refusal
returns-in_err-unit-2-clause-refusal g c =
    let p = err_from_is_err_and c.from_residual-in_err-unit-2.result c.from_residual-in_err-unit-2.ensures.1 in
    rw (p.1, p.2) (λ m.
    refused-of_bare c.args.dwarf.now.file c.args.header
    (root-of_table c.args.dwarf.now.file c.args.header c.debug_abbrev_offset.ensures c.in_ok-abbreviations.ensures.value
    c.deref.ensures c.in_ok-abbreviations.ensures.limit c.in_ok-read_root-2.ensures) c.attrs-then-has_attr.ensures
    (c.in_err-unit-2.ensures m))

pub returns-then-has_attr-clause-unit : goal.returns-then-has_attr-clause-unit
returns-then-has_attr-clause-unit g c =
    bare-of_root c.args.dwarf.now.file c.args.header
    (root-of_table c.args.dwarf.now.file c.args.header c.debug_abbrev_offset.ensures c.in_ok-abbreviations.ensures.value
    c.deref.ensures c.in_ok-abbreviations.ensures.limit c.in_ok-read_root-2.ensures) c.attrs-then-has_attr.ensures
    c.in_ok-unit-2.ensures

pub returns-then-has_attr-clause-root : goal.returns-then-has_attr-clause-root
returns-then-has_attr-clause-root g c =
    root-of_unit c.args.dwarf.now.file c.args.header
    (root-of_table c.args.dwarf.now.file c.args.header c.debug_abbrev_offset.ensures c.in_ok-abbreviations.ensures.value
    c.deref.ensures c.in_ok-abbreviations.ensures.limit c.in_ok-read_root-2.ensures)

-- ---- it names none

pub returns-in_err-unit-3-clause-refusal : goal.returns-in_err-unit-3-clause-refusal
returns-in_err-unit-3-clause-refusal g c =
    let p = err_from_is_err_and c.from_residual-in_err-unit-3.result c.from_residual-in_err-unit-3.ensures.1 in
    rw (p.1, p.2) (λ m.
    whole-of_root c.args.dwarf.now.file c.args.header c.debug_abbrev_offset.ensures c.in_ok-abbreviations.ensures.value
    c.deref.ensures c.in_ok-abbreviations.ensures.limit c.in_ok-read_root-2.ensures c.attrs-2.ensures
    (c.in_err-unit-3.ensures m))

pub returns-clause-root : goal.returns-clause-root
returns-clause-root g c =
    root-of_unit c.args.dwarf.now.file c.args.header
    (root-of_table c.args.dwarf.now.file c.args.header c.debug_abbrev_offset.ensures c.in_ok-abbreviations.ensures.value
    c.deref.ensures c.in_ok-abbreviations.ensures.limit c.in_ok-read_root-2.ensures)
