use Rattle.std.proofs.Common.{map, sym, ap, ◌∙◌}
use Rattle.gimli_units_forms.specs.AttributeValues.{raw_value_of}
use Rattle.gimli_lines_header.proofs.HeaderCopies.{copy_result, copy_fault, header_copy}
use Rattle.gimli_lines_header.proofs.header.LineProgramHeader.copy.Goals as goal

pub returns-in_err-include_directories : goal.returns-in_err-include_directories
returns-in_err-include_directories g c = copy_fault _ c.from_residual-in_err-include_directories.result _ _ _
    c.from_residual-in_err-include_directories.ensures.1 c.in_err-include_directories.ensures

pub returns-in_err-file_names : goal.returns-in_err-file_names
returns-in_err-file_names g c = copy_fault _ c.from_residual-in_err-file_names.result _ _ _
    c.from_residual-in_err-file_names.ensures.1 c.in_err-file_names.ensures

pub returns-in_err-comp_dir : goal.returns-in_err-comp_dir
returns-in_err-comp_dir g c = copy_fault _ c.from_residual-in_err-comp_dir.result _ _ _
    c.from_residual-in_err-comp_dir.ensures.1 c.in_err-comp_dir.ensures

pub returns-in_err-comp_file : goal.returns-in_err-comp_file
returns-in_err-comp_file g c = copy_fault _ c.from_residual-in_err-comp_file.result _ _ _
    c.from_residual-in_err-comp_file.ensures.1 c.in_err-comp_file.ensures

pub returns : goal.returns
returns g c =
    let see = raw_value_of g.R.Reader.view g.R.Offset.ReaderOffset.count in
    ap copy_result
    (sym c.self.view_is
    ∙ header_copy _ _ _ _ _ _ _ _ _ c.in_ok-standard_opcode_lengths.ensures.value c.in_ok-program_buf.ensures.value
    (ap copy_result (sym c.deref.ensures.value) ∙ c.in_ok-directory_entry_format.ensures)
    (ap copy_result (sym c.deref-2.ensures.value) ∙ c.in_ok-file_name_entry_format.ensures)
    (ap (λ xs. copy_result (map see xs)) (sym c.deref-3.ensures.value) ∙ c.in_ok-include_directories.ensures)
    (ap copy_result (sym c.deref-4.ensures.value) ∙ c.in_ok-file_names.ensures)
    c.in_ok-comp_dir.ensures c.in_ok-comp_file.ensures)
