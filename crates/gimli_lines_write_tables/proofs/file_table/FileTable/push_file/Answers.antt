use Rattle.std.proofs.Common.{◌≡◌, ℕ, ◌<◌, ◌≤◌, false, List, [], ◌∷◌, ◌++◌, length, map, refl, sym, subst, ap, ◌∙◌, arith}
use Rattle.std.specs.List.{list_any}
use Rattle.std.proofs.lemmas.List.{map-append, length-append, length-map}
use Rattle.gimli_lines_write_tables.specs.FileTables.{ProgramFiles, File, text_of, file_of, info_of, is_same_file, HasBytes}
use Rattle.gimli_lines_write_tables.specs.declared.file.FileInfo.{FileInfo}
use Rattle.gimli_lines_write_tables.proofs.Keys.{equal_is_same_file, inserted, with_new}
use Rattle.gimli_lines_write_tables.proofs.Additions.{consistent_with_file}
use Rattle.gimli_lines_write_tables.proofs.file_table.FileTable.push_file.Goals as goal

files_then : goal.In-Ok → Type 0
files_then c = map file_of c.insert.new.self.keys ≡ map file_of c.self.inside.files.keys ++ file_of c.args.key ∷ []

then_files : (c : goal.In-Ok) → files_then c
unfolding files_then
then_files c =
    ap (map file_of) c.in-Ok.ensures.keys
    ∙ inserted _ file_of is_same_file equal_is_same_file c.args.key c.self.inside.files.keys
    ∙ with_new is_same_file (map file_of c.self.inside.files.keys) (file_of c.args.key)
    (subst (λ (k : ProgramFiles). list_any (is_same_file (file_of c.args.key)) k.files ≡ false) (sym c.self.view_is)
    c.requires.absent)

infos_then : goal.In-Ok → Type 0
infos_then c = map info_of c.push.new.self.items ≡ map info_of c.self.inside.infos.items ++ info_of c.args.info ∷ []

then_infos : (c : goal.In-Ok) → infos_then c
unfolding infos_then
then_infos c =
    ap (map info_of) c.in_ok-push.ensures.items ∙ map-append info_of c.self.inside.infos.items (c.args.info ∷ [])

pub invariant_of-self-in-Ok : goal.invariant_of-self-in-Ok
unfolding files_then infos_then
invariant_of-self-in-Ok c =
    rw (then_files c, then_infos c)
    (consistent_with_file c.self.inside.version (map text_of c.self.inside.directories.keys)
    (map file_of c.self.inside.files.keys) (map info_of c.self.inside.infos.items) (file_of c.args.key)
    (info_of c.args.info) c.self.invariant c.requires.zero_free
    (subst (λ (k : ProgramFiles). c.args.key.directory.0 < length k.directories) (sym c.self.view_is)
    c.requires.directory)
    (subst (λ (k : ProgramFiles). k.version ≤ 4 → HasBytes (text_of c.args.key.path)) (sym c.self.view_is)
    c.requires.not_empty))

pub returns-in-Ok-clause-ok : goal.returns-in-Ok-clause-ok
unfolding files_then infos_then
returns-in-Ok-clause-ok c = rw (← c.self.view_is) (rw (then_files c, then_infos c) refl)

before_last : (n : ℕ) (infos : List FileInfo) (files : List File) (f : File) → n ≡ length infos
    → length (map info_of infos) ≡ length files → n < length (files ++ f ∷ [])
before_last n infos files f place same =
    omega (arith, place, same, length-map infos info_of, length-append files (f ∷ []))

pub returns-in-Ok-clause-within : goal.returns-in-Ok-clause-within
unfolding files_then
returns-in-Ok-clause-within c =
    rw (then_files c) (before_last c.len-place.result c.self.inside.infos.items (map file_of c.self.inside.files.keys)
    (file_of c.args.key) (c.len-place.ensures ∙ c.self.inside.infos.ok.0) c.self.invariant.same_length)
