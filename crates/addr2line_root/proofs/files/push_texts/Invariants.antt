use Rattle.std.proofs.Common.{◌≡◌, map, drop}
use Rattle.std.specs.String.{string_bytes}
use Rattle.gimli_lines_rows.specs.Results.{each}
use Rattle.addr2line_index.specs.FileTexts.{text_of_file}
use Rattle.addr2line_root.proofs.FileTextLemmas.{append_texts}
use Rattle.addr2line_root.proofs.files.push_texts.Given as goal

-- the texts so far, and after them those of the files that are left, are all
abbrev pub invariant-loop-file : goal.invariant-loop-file
invariant-loop-file g l =
    let text = text_of_file l.unit l.header in
    append_texts (map string_bytes l.texts.items) (each text (drop l.file-index l.files))
    ≡ append_texts (map string_bytes l.fn.texts.items) (each text l.files)
