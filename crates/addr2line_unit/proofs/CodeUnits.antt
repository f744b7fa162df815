-- The unit of a header that was read whole or bare.
use Rattle.std.proofs.Common.{◌≡◌, Bool, true, false, Option, Some, None, option_map, Result, Ok, Err, refl, sym, ap, subst, ◌∙◌, if◌then◌else◌}
use Rattle.addr2line_functions.specs.Error.{Error}
use Rattle.addr2line_functions.specs.DwarfFiles.{DwarfFile}
use Rattle.addr2line_functions.specs.EntryRows.{Row}
use Rattle.addr2line_functions.specs.UnitHeaders.{DebugUnit}
use Rattle.addr2line_functions.specs.UnitFacts.{UnitFacts, UnitInFile, in_file, unit_facts, root}
use Rattle.addr2line_functions.specs.Contexts.{is_of_types, readable_facts, facts_of_code_unit}
use Rattle.addr2line_root.specs.BareUnits.{unit_facts_or_bare}
use Rattle.addr2line_root.specs.WholeUnits.{IsBareIn, whole_facts}
use Rattle.addr2line_root.specs.MainUnits.{unit_of_kept}
use Rattle.addr2line_root.specs.LastPrograms.{HasHeaderInFile}
use Rattle.addr2line_root.proofs.HeadersInFiles.{header_in_file}
use Rattle.addr2line_root.proofs.ReadUnits.{read_facts, is_bare, is_whole as whole_of_bare}
use Rattle.addr2line_unit.specs.ResolvedUnits.{HasRoot}

abbrev pub found_unit : Option UnitInFile → Result (Option UnitInFile) Error
found_unit u = Ok u

abbrev pub ok_row : Row → Result Row Error
ok_row r = Ok r

-- the root that a file's unit of a header has, in the same file
abbrev pub IsRootIn : DwarfFile → DebugUnit → Row → Type 0
IsRootIn file h r =
    (u : UnitFacts) → unit_facts file h ≡ read_facts u → root file.offset_limit u.header u.table ≡ ok_row r

pub found_in : (file lent : DwarfFile) (h : DebugUnit) (r : Row) → lent ≡ file → IsRootIn lent h r → IsRootIn file h r
found_in file lent h r same found = subst (λ (f : DwarfFile). IsRootIn f h r) same found

-- a header of which the unit is refused has no unit
pub has_none : (file : DwarfFile) (h : DebugUnit) (e : Error) → unit_facts file h ≡ Err e
    → found_unit (option_map (in_file file) (facts_of_code_unit file h)) ≡ found_unit None
has_none file h e refused = by (is_of_types h.kind)
  where
    by : (b : Bool)
        → found_unit (option_map (in_file file) (if b then None else readable_facts (unit_facts file h)))
        ≡ found_unit None
    by true = refl
    by false = ap (λ r. found_unit (option_map (in_file file) (readable_facts r))) refused

-- the facts of a unit of which these were read, whole or bare
abbrev facts_of_kept : Bool → DwarfFile → UnitFacts → UnitFacts
facts_of_kept true file u = u
facts_of_kept false file u = whole_facts file u

-- a unit of a file, which is whole or bare, and whose sections are shared
module _ (file shared : DwarfFile) (h : DebugUnit) (is_whole : Bool) (u : UnitFacts)
    (read : unit_facts_or_bare is_whole file h ≡ read_facts u) (same : shared ≡ file) where
  pub bare_in_shared : is_whole ≡ false → IsBareIn shared u
  bare_in_shared bare =
      subst (λ (f : DwarfFile). IsBareIn f u) (sym same)
      (is_bare file h u (subst (λ b. unit_facts_or_bare b file h ≡ read_facts u) bare read))

  in_kept : (b : Bool) → unit_of_kept b (in_file file u) ≡ in_file file (facts_of_kept b file u)
  in_kept true = refl
  in_kept false = refl

  facts_are : (b : Bool) → unit_facts_or_bare b file h ≡ read_facts u
      → unit_facts file h ≡ read_facts (facts_of_kept b file u)
  facts_are true read = read
  facts_are false read = whole_of_bare file h u read

  -- the unit that is made of it
  module _ (main : UnitInFile) (is : main ≡ unit_of_kept is_whole (in_file shared u)) where
    main_is : main ≡ in_file file (facts_of_kept is_whole file u)
    main_is = is ∙ ap (λ (f : DwarfFile). unit_of_kept is_whole (in_file f u)) same ∙ in_kept is_whole

    pub has_facts : is_of_types h.kind ≡ false
        → found_unit (option_map (in_file file) (facts_of_code_unit file h)) ≡ found_unit (Some main)
    has_facts code =
        ap (λ (b : Bool).
        found_unit (option_map (in_file file) (if b then None else readable_facts (unit_facts file h)))) code
        ∙ ap (λ r. found_unit (option_map (in_file file) (readable_facts r))) (facts_are is_whole read)
        ∙ ap (λ (m : UnitInFile). found_unit (Some m)) (sym main_is)

    pub has_root : (r : Row) → IsRootIn file h r → HasRoot main r
    has_root r found =
        subst (λ (m : UnitInFile). HasRoot m r) (sym main_is)
        (found (facts_of_kept is_whole file u) (facts_are is_whole read))

    pub has_header : HasHeaderInFile main
    has_header =
        subst HasHeaderInFile (sym main_is)
        (header_in_file file h (facts_of_kept is_whole file u) (facts_are is_whole read))
