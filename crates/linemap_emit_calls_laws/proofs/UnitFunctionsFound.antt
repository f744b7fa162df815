-- The functions of a unit of a table whose conditions hold are found.
use Rattle.std.proofs.Common.{◌≡◌, ℕ, Bool, false, ◌||◌, List, [], ◌∷◌, length, Option, refl, ap, ◌∙◌}
use Rattle.std.specs.Prelude.{◌==◌}
use Rattle.std.specs.List.{list_any}
use Rattle.std.proofs.lemmas.Bool.{or_parts}
use Rattle.linemap_emit_units.specs.View.{View}
use Rattle.linemap_emit_units.specs.DwarfFileType.TheVariants.{Main}
use Rattle.linemap_emit_units.specs.Encoding.{Encoding}
use Rattle.linemap_emit_units.specs.Attributes.{Bases}
use Rattle.linemap_emit_units.specs.DwarfFiles.{DwarfFile}
use Rattle.linemap_emit_units.specs.LineHeaders.{LineHeader}
use Rattle.linemap_emit_units.specs.UnitFacts.{in_file}
use Rattle.linemap_emit_units.specs.TableParts.{FunctionPart, UnitPart}
use Rattle.linemap_emit_units.specs.Conditions.{any_call, is_bad_number, has_no_range, has_bad_line_or_column}
use Rattle.linemap_emit_units.specs.Entry.{Entry}
use Rattle.linemap_emit_units.specs.Entry.TheVariants.{CompileUnit}
use Rattle.linemap_emit_units.specs.EmittedUnits.{IsWritten}
use Rattle.addr2line_functions.specs.ContextNames.{naming_from}
use Rattle.addr2line_functions.specs.EntryReferences.{KnownUnits, HoldingUnit}
use Rattle.linemap_emit_calls_laws.specs.RecordedFunctions.{RecordsFunctions}
use Rattle.linemap_emit_calls_laws.specs.FunctionLaws.{written_facts, FunctionsFound}
use Rattle.linemap_emit_calls_laws.proofs.FunctionEntriesRead.{unit_functions_read}

-- no item passes the first of two tests where none passes one of them
first_fails : {X : Type 0} (p q : X → Bool) (xs : List X) → list_any (λ x. p x || q x) xs ≡ false
    → list_any p xs ≡ false
first_fails p q [] none = refl
first_fails p q (x ∷ xs) none =
    let parts = or_parts (p x || q x) (list_any (λ y. p y || q y) xs) none in
    let own = or_parts (p x) (q x) parts.0 in
    ap (λ b. b || list_any p xs) own.0 ∙ first_fails p q xs parts.1

pub functions_found : (e : Encoding) (is_big : Bool) (s : DwarfFile) (offset first : ℕ)
    (name directory line_program range_list : ℕ) (others : List Entry) (b : Bases)
    (unit_name unit_directory : Option View) (header : Option LineHeader) (known : KnownUnits)
    (h : HoldingUnit) (number : ℕ → ℕ) (u : UnitPart) → IsWritten e → s.sections.file_type ≡ Main → b.encoding ≡ e
    → b.low_pc ≡ 0
    → h.unit ≡ in_file s (written_facts e is_big offset first
    (CompileUnit name directory line_program range_list ∷ others) b unit_name unit_directory header)
    → has_no_range u ≡ false → has_bad_line_or_column u ≡ false
    → RecordsFunctions e s number u.functions (CompileUnit name directory line_program range_list) others
    → FunctionsFound number u.functions (in_file s (written_facts e is_big offset first
    (CompileUnit name directory line_program range_list ∷ others) b unit_name unit_directory header))
    (naming_from known h)
functions_found e is_big s offset first name directory line_program range_list others b unit_name unit_directory header
    known h number u w main encoding low holds ranges numbers recorded =
    let calls_plain = or_parts _ (list_any (λ f. any_call
    (λ c. is_bad_number c.line || is_bad_number c.column) f.calls) u.functions) numbers in
    let some =
    or_parts (length u.ranges == 0)
    (list_any (λ f. (length f.ranges == 0) || any_call (λ c. length c.ranges == 0) f.calls) u.functions) ranges in
    let read =
    unit_functions_read e is_big s offset first
    (CompileUnit name directory line_program range_list ∷ others) b unit_name
    unit_directory header known h number w.has_address_size recorded.fit main encoding low holds u.functions name
    directory line_program range_list others refl recorded
    (first_fails (λ (f : FunctionPart). length f.ranges == 0)
    (λ (f : FunctionPart). any_call (λ c. length c.ranges == 0) f.calls) u.functions some.1) calls_plain.1 in
    record { found = read.gs; are_functions = read.are; agree = read.agree }
