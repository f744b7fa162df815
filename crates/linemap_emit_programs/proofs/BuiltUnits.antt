-- The ids of a unit's files, and the texts that a program leaves as they are.
use Rattle.std.proofs.Common.{◌≡◌, ℕ, suc, Bool, true, false, cond, not, ◌&&◌, List, [], ◌∷◌, length, Option, None, refl, ap, ◌∙◌}
use Rattle.std.specs.Prelude.{nat_le, is_none}
use Rattle.std.specs.List.{list_any}
use Rattle.gimli_lines_write_laws.specs.FileTables.{Text, Info}
use Rattle.gimli_lines_write_laws.specs.FileDetails.{FileDetails}
use Rattle.gimli_lines_write_laws.specs.HeaderContents.{empty_form, first_source, line_strings_after}
use Rattle.gimli_lines_write_program.specs.BuiltPrograms.{Program, no_details, line_strings_with}
use Rattle.linemap_emit_rows.specs.TableParts.{FilePart}
use Rattle.linemap_emit_programs.specs.EmittedFiles.{EmittedFiles, with_table_file, table_file_ids}

-- as many ids as files
pub ids_counted : (fs : List FilePart) (st : EmittedFiles) → length (table_file_ids fs st) ≡ length fs
unfolding table_file_ids
ids_counted [] st = refl
ids_counted (f ∷ fs) st = ap suc (ids_counted fs (with_table_file f st))

-- no file's own text is recorded
pub none_is_empty : (version : ℕ) (infos : List Info) → empty_form version no_details infos ≡ None
none_is_empty version infos = by (nat_le version 4)
  where
    by : (b : Bool) → cond ((not b && false) && list_any (λ (i : Info). is_none i.source) infos) (first_source infos)
        None ≡ None
    by true = refl
    by false = refl

-- so no text is added
pub texts_stay : (p : Program) (line_texts : List (List ℕ)) → p.details ≡ no_details
    → line_strings_with line_texts p ≡ line_texts
texts_stay p line_texts plain =
    ap (λ (d : FileDetails). line_strings_after (empty_form p.tables.version d p.tables.infos) line_texts) plain
    ∙ ap (λ (o : Option Text). line_strings_after o line_texts) (none_is_empty p.tables.version p.tables.infos)
