-- The units that are made for a context are the definition's.
use Rattle.std.proofs.Common.{◌≡◌, List, [], ◌∷◌, map, Option, None, Some, Result, Ok, Err, refl, ap, ◌∙◌}
use Rattle.std.specs.List.{filter_map}
use Rattle.addr2line_functions.specs.Error.{Error}
use Rattle.addr2line_functions.specs.Repetition.{fault_of}
use Rattle.addr2line_functions.specs.Results.{and_then, unless, each}
use Rattle.addr2line_functions.specs.DwarfFiles.{DwarfFile}
use Rattle.addr2line_functions.specs.EntryRows.{Row}
use Rattle.addr2line_functions.specs.UnitFacts.{UnitFacts, UnitInFile, in_file}
use Rattle.addr2line_functions.specs.UnitLines.{lines_of_unit}
use Rattle.addr2line_functions.specs.Contexts.{ContextUnit, context_unit, unit_of_entry, facts_of_code_unit, headers_of, units_of_file}
use Rattle.addr2line_unit.specs.ResolvedUnits.{AnsweredUnit, HasRoot, without_answer, new_unit, new_units}

-- a unit of a context, by its root
pub unit_by_root : (u : UnitInFile) (r : Row) → HasRoot u r
    → context_unit u ≡ unit_of_entry u (lines_of_unit u) r
unit_by_root u r is = ap (λ o. and_then o (λ r. unit_of_entry u (lines_of_unit u) r)) is

abbrev pub unit_of : AnsweredUnit → ContextUnit
unit_of v = v.unit

abbrev pub units_alone : Result (List AnsweredUnit) Error → Result (List ContextUnit) Error
units_alone r = and_then r (λ us. Ok (map unit_of us))

one_unit : (file : DwarfFile) (r : Result ContextUnit Error) (rest : Result (List AnsweredUnit) Error)
    (plain : Result (List ContextUnit) Error) → units_alone rest ≡ plain
    → units_alone
    (and_then (and_then r (λ c. Ok (without_answer file c))) (λ y. and_then rest (λ ys. Ok (y ∷ ys))))
    ≡ and_then r (λ y. and_then plain (λ ys. Ok (y ∷ ys)))
one_unit file (Err e) rest plain h = refl
one_unit file (Ok c) (Ok us) plain h = ap (λ p. and_then p (λ ys. Ok (c ∷ ys))) h
one_unit file (Ok c) (Err e) plain h = ap (λ p. and_then p (λ ys. Ok (c ∷ ys))) h

each_unit : (file : DwarfFile) (xs : List UnitFacts)
    → units_alone (each (λ u. new_unit (in_file file u)) xs) ≡ each (λ u. context_unit (in_file file u)) xs
each_unit file [] = refl
each_unit file (x ∷ xs) =
    one_unit file (context_unit (in_file file x)) (each (λ u. new_unit (in_file file u)) xs)
    (each (λ u. context_unit (in_file file u)) xs) (each_unit file xs)

unless_fault : (fault : Option Error) (r : Result (List AnsweredUnit) Error)
    → units_alone (and_then r (λ us. unless fault (Ok us))) ≡ and_then (units_alone r) (λ us. unless fault (Ok us))
unless_fault None (Ok us) = refl
unless_fault (Some e) (Ok us) = refl
unless_fault None (Err e) = refl
unless_fault (Some d) (Err e) = refl

-- the units without their answers are a context's
pub units_of_new : (file : DwarfFile) → units_alone (new_units file) ≡ units_of_file file
units_of_new file =
    let facts = filter_map (facts_of_code_unit file) (headers_of file).items in
    unless_fault (fault_of (headers_of file)) (each (λ u. new_unit (in_file file u)) facts)
    ∙ ap (λ r. and_then r (λ us. unless (fault_of (headers_of file)) (Ok us))) (each_unit file facts)
