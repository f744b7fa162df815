-- Worked values: what the definitions say of small texts, by computation.
use Rattle.std.proofs.Common.{◌≡◌, [], Some, None, refl, codes}
use Rattle.addr2line_paths.specs.FilePaths.{join, file_text}

drive_joined : join (codes "C:\\p") (codes "a.c") ≡ codes "C:\\p\\a.c"
drive_joined = refl

rooted_text_replaces_path : join (codes "/w") (codes "/w") ≡ codes "/w"
rooted_text_replaces_path = refl

empty_path_needs_no_separator : join [] (codes "a.c") ≡ codes "a.c"
empty_path_needs_no_separator = refl

slash_stays_single : join (codes "/w/") (codes "a.c") ≡ codes "/w/a.c"
slash_stays_single = refl

in_both_directories : file_text (Some (codes "/w")) (Some (codes "src")) (codes "a.c") ≡ codes "/w/src/a.c"
in_both_directories = refl

in_no_directory : file_text None None (codes "a.c") ≡ codes "a.c"
in_no_directory = refl
