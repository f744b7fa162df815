-- A program that was written is read as it was built.
use Rattle.std.proofs.Common.{◌≡◌, ℕ, ◌<◌, ◌^◌, Bool, true, List, [], length, Result, Ok, refl, sym, ap, subst}
use Rattle.std.specs.Prelude.{All}
use Rattle.gimli_lines_write_unit.specs.LineRules.{LineRules}
use Rattle.gimli_lines_write_unit.specs.LineEntry.{LineEntry}
use Rattle.gimli_lines_write_unit.specs.WriteError.{Error}
use Rattle.gimli_lines_write_unit.specs.Address.{Address}
use Rattle.gimli_lines_write_unit.specs.Address.TheVariants.{Constant}
use Rattle.gimli_lines_write_unit.specs.BuiltRows.{first_row, follows, rows_of, IsReadable}
use Rattle.gimli_lines_write_unit.specs.RowPieces.{IsBuildable}
use Rattle.gimli_lines_write_unit.specs.StringSections.{IsText}
use Rattle.gimli_lines_write_unit.specs.FileTables.{in_header, ProgramFiles, IsConsistent}
use Rattle.gimli_lines_write_unit.specs.HeaderSpelling.{fields_at, directories_at, files_at, header_value}
use Rattle.gimli_lines_write_unit.specs.declared.details.FileDetails.{FileDetails}
use Rattle.gimli_lines_write_unit.specs.HeaderContents.{empty_form_of, strings_after, line_strings_after, empty_text, header_tables, AllKnown}
use Rattle.gimli_lines_write_unit.specs.UnitBytes.{unit_bytes}
use Rattle.gimli_lines_write_unit.proofs.EmptyTexts.{known_with_longer}
use Rattle.gimli_lines_write_laws.specs.UnitReadBack.{TablesReadBack}
use Rattle.gimli_lines_write_laws.specs.ProgramReadBack.{InfoFits, SourceHasNoZero, ProgramReadsAs}
use Rattle.gimli_lines_write_laws.proofs.ReadTexts.{empty_is_empty, empty_zero_free}
use Rattle.gimli_lines_write_laws.proofs.StoredFiles.{tables_read_back, directories_below, files_below, directories_read, files_read}
use Rattle.gimli_lines_write_laws.proofs.UnitReading.{unit_reads_back}

-- what holds of the parameters of a program that is built
pub record CanBuild (rules : LineRules) : Type 0 where
  pub buildable : IsBuildable rules
  pub least : rules.line_encoding.minimum_instruction_length < 256
  pub most : rules.line_encoding.maximum_operations_per_instruction < 256

-- what holds of the tables of a program that is built, and of the string tables after it was written
pub record IsBuilt (s l : List (List ℕ)) (k : ProgramFiles) (d : FileDetails) : Type 0 where
  pub consistent : IsConsistent k.version k.directories k.files k.infos
  pub fit : All InfoFits k.infos
  pub few : length k.directories < 2 ^ 64
  pub known : AllKnown s l k d (in_header [])
  pub texts : All IsText (strings_after (empty_form_of k d) s)
  pub line_texts : All IsText (line_strings_after (empty_form_of k d) l)

module _ (s l : List (List ℕ)) (rules : LineRules) (k : ProgramFiles) (d : FileDetails) (entries : List LineEntry)
    (is_big : Bool) (can : CanBuild rules) (same : k.version ≡ rules.encoding.version) (built : IsBuilt s l k d) where
  pub program_reads_back : (address_of : Address → Result ℕ Error) → ((n : ℕ) → address_of (Constant n) ≡ Ok n)
      → follows rules (first_row rules) entries ≡ true → IsReadable rules 0 (first_row rules) entries
      → All SourceHasNoZero k.infos → (bytes : List ℕ)
      → unit_bytes address_of is_big rules (header_tables s l k d) entries ≡ Ok bytes
      → ProgramReadsAs (strings_after (empty_form_of k d) s) (line_strings_after (empty_form_of k d) l) rules k d
      (rows_of rules entries) is_big bytes
  program_reads_back address_of constants f readable sources_free bytes e =
      let s' = strings_after (empty_form_of k d) s in
      let l' = line_strings_after (empty_form_of k d) l in
      let empty = empty_text s l (empty_form_of k d) in
      let t = header_tables s l k d in
      let known = known_with_longer s l k d built.known in
      let read_back = tables_read_back s' l' k d empty built.consistent built.fit sources_free
      (empty_zero_free s l (empty_form_of k d)) built.few in
      let unit = unit_reads_back address_of rules t entries is_big bytes constants can.buildable can.least can.most
      (subst (λ v. TablesReadBack v t) same read_back) f readable e in
      λ limit offset first line_unit rest holds sized.
      let fields = fields_at rules is_big first t unit.program in
      let h = header_value rules is_big offset fields line_unit t unit.program in
      let rules_are = ap (λ b. record rules { opcode_base = b }) (sym can.buildable.first_special) in (
        h,
        unit.header limit offset first line_unit rest holds.unit_fits
            (directories_below s' l' k d empty known limit holds.strings_fit holds.line_strings_fit)
            (files_below s' l' k d empty known limit holds.strings_fit holds.line_strings_fit) sized,
        record {
          rules_are = rules_are;
          directories = λ str line_str in_str in_line_str. directories_read s' l' k d empty known built.texts
              built.line_texts (empty_is_empty s l (empty_form_of k d)) str line_str in_str in_line_str rules.encoding
              is_big (directories_at rules fields);
          files = λ str line_str in_str in_line_str. files_read s' l' k d empty known built.texts
              built.line_texts (empty_is_empty s l (empty_form_of k d)) str line_str in_str in_line_str rules.encoding
              is_big (files_at rules is_big fields t) (sym same);
        },
        λ takes_files. unit.runs limit takes_files h holds.wide rules_are refl refl,
      )
