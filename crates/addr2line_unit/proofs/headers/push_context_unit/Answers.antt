use Rattle.std.proofs.Common.{◌≡◌, subst, sym, ap, ◌∙◌, List, Option, Some, None, option_map, map, Result}
use Rattle.std.proofs.lemmas.Result.{err_from_is_err_and}
use Rattle.addr2line_functions.specs.Error.{Error}
use Rattle.addr2line_functions.specs.Calls.{ReturnsAsOrNoMemory}
use Rattle.addr2line_functions.specs.Contexts.{facts_of_code_unit}
use Rattle.addr2line_functions.specs.UnitFacts.{UnitFacts, UnitInFile, in_file}
use Rattle.addr2line_functions.specs.DwarfFiles.{DwarfFile}
use Rattle.addr2line_root.specs.ArangeIndexes.{IsIndexOf}
use Rattle.addr2line_root.specs.LastRanges.{AreLastOf}
use Rattle.addr2line_root.specs.MainUnits.{MainUnit}
use Rattle.addr2line_unit.specs.ResolvedUnits.{AnsweredUnit, value_of_unit, new_unit}
use Rattle.addr2line_unit.proofs.UnitReading.{ok_of, append_some, append_none}
use Rattle.addr2line_unit.proofs.headers.push_context_unit.Goals as goal

pub returns-in_err-main-clause-units : goal.returns-in_err-main-clause-units
returns-in_err-main-clause-units g c =
    let p = err_from_is_err_and c.from_residual.result c.from_residual.ensures.1 in
    rw (p.1, p.2) (λ m. cc (c.in_err-main.ensures.unit m))

abbrev unit_of : MainUnit → UnitInFile
unit_of u = u.counted.unit

-- a unit, or none, that was answered
one_of : (o found : Option UnitInFile) → ok_of o ≡ ok_of found → o ≡ found
one_of o found e = cc

-- the unit of a header is the one that was read
found : (o : Option UnitInFile) (read unit : Option MainUnit) → ok_of o ≡ ok_of (option_map unit_of read)
    → read ≡ unit → o ≡ option_map unit_of unit
found o read unit is same = one_of o (option_map unit_of read) is ∙ ap (option_map unit_of) same

-- a unit in a file is in that file
file_of : (file : DwarfFile) (o : Option UnitFacts) (u : UnitInFile) → option_map (in_file file) o ≡ Some u
    → file ≡ u.file
file_of file None u h = absurd cc
file_of file (Some facts) u h =
    let same : in_file file facts ≡ u = cc in
    ap (λ (x : UnitInFile). x.file) same

pub returns-in-Some-clause-units : goal.returns-in-Some-clause-units
returns-in-Some-clause-units g c =
    let file : DwarfFile = c.args.sections.now.value.file in
    let facts : Option UnitFacts = facts_of_code_unit file c.args.header in
    let P : Result (List AnsweredUnit) Error → Type 0 =
    λ x. ReturnsAsOrNoMemory (λ _. map value_of_unit c.push_unit.new.units.items) c.push_unit.result x in
    subst P
    (sym (append_some (in_file file) new_unit (map value_of_unit c.args.units.now.items) facts
    c.in-Some.main.counted.unit
    (found (option_map (in_file file) facts) c.in_ok-main.field-0 (Some c.in-Some.main) c.in_ok-main.ensures.unit
    c.in-Some.is)))
    c.push_unit.ensures.units

pub push_unit-requires-clause-index : goal.push_unit-requires-clause-index
push_unit-requires-clause-index g c =
    let file : DwarfFile = c.args.sections.now.value.file in
    let facts : Option UnitFacts = facts_of_code_unit file c.args.header in
    subst (λ (f : DwarfFile). IsIndexOf f c.args.aranges.now)
    (file_of file facts c.in-Some.main.counted.unit
    (found (option_map (in_file file) facts) c.in_ok-main.field-0 (Some c.in-Some.main) c.in_ok-main.ensures.unit
    c.in-Some.is))
    c.requires.index

pub push_unit-requires-clause-last : goal.push_unit-requires-clause-last
push_unit-requires-clause-last g c =
    let file : DwarfFile = c.args.sections.now.value.file in
    let facts : Option UnitFacts = facts_of_code_unit file c.args.header in
    subst (λ (f : DwarfFile). AreLastOf f c.args.last.now)
    (file_of file facts c.in-Some.main.counted.unit
    (found (option_map (in_file file) facts) c.in_ok-main.field-0 (Some c.in-Some.main) c.in_ok-main.ensures.unit
    c.in-Some.is))
    c.requires.last

pub returns-in-Some-clause-last : goal.returns-in-Some-clause-last
returns-in-Some-clause-last g c =
    let file : DwarfFile = c.args.sections.now.value.file in
    let facts : Option UnitFacts = facts_of_code_unit file c.args.header in
    subst (λ (f : DwarfFile). AreLastOf f c.push_unit.new.last)
    (sym (file_of file facts c.in-Some.main.counted.unit
    (found (option_map (in_file file) facts) c.in_ok-main.field-0 (Some c.in-Some.main) c.in_ok-main.ensures.unit
    c.in-Some.is)))
    c.push_unit.ensures.last

pub returns-in-None-clause-units : goal.returns-in-None-clause-units
returns-in-None-clause-units g c =
    let file : DwarfFile = c.args.sections.now.value.file in
    let facts : Option UnitFacts = facts_of_code_unit file c.args.header in
    append_none (in_file file) new_unit (map value_of_unit c.args.units.now.items) facts
    (found (option_map (in_file file) facts) c.in_ok-main.field-0 None c.in_ok-main.ensures.unit c.in-None.is)
