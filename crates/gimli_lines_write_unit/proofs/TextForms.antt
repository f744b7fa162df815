-- The form of a text doesn't depend on what its tables hold.
use Rattle.std.proofs.Common.{◌≡◌, ℕ, List, [], refl}
use Rattle.gimli_lines_write_tables.specs.FileTables.{Text, in_header, of_strings, of_line_strings}
use Rattle.gimli_lines_write_spec.specs.HeaderTexts.{form_of}
use Rattle.gimli_lines_write_unit.specs.HeaderContents.{header_text}

pub same_form : (strings line_strings : List (List ℕ)) (t : Text) → form_of (header_text strings line_strings t)
    ≡ form_of (header_text [] [] t)
same_form strings line_strings (in_header bytes) = refl
same_form strings line_strings (of_strings place) = refl
same_form strings line_strings (of_line_strings place) = refl
