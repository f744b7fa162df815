use Rattle.std.proofs.Common.{◌≡◌, ◌≢◌, ◌≤◌, [], map, refl, sym, subst, ap, ◌∙◌}
use Rattle.gimli_lines_write_tables.specs.FileTables.{ProgramFiles, text_of, file_of, info_of, is_same, HasBytes, IsConsistent}
use Rattle.gimli_lines_write_tables.specs.StringSections.{with_item}
use Rattle.gimli_lines_write_tables.proofs.Keys.{equal_is_same, inserted, place_seen}
use Rattle.gimli_lines_write_tables.proofs.Additions.{place_within, consistent_with_directory}
use Rattle.gimli_lines_write_tables.proofs.file_table.FileTable.add_directory.Goals as goal

directories_then : goal.In_ok-place → Type 0
directories_then c = map text_of c.insert_full.new.self.keys
    ≡ with_item is_same (map text_of c.self.inside.directories.keys) (text_of c.args.directory)

then_directories : (c : goal.In_ok-place) → directories_then c
unfolding directories_then
then_directories c = ap (map text_of) c.in_ok-place.ensures.keys
    ∙ inserted _ text_of is_same equal_is_same c.args.directory c.self.inside.directories.keys

pub invariant_of-self-2 : goal.invariant_of-self-2
unfolding directories_then
invariant_of-self-2 c =
    subst (λ ds. IsConsistent c.self.inside.version ds (map file_of c.self.inside.files.keys)
    (map info_of c.self.inside.infos.items)) (sym (then_directories c))
    (consistent_with_directory c.self.inside.version (map text_of c.self.inside.directories.keys)
    (map file_of c.self.inside.files.keys) (map info_of c.self.inside.infos.items) (text_of c.args.directory)
    c.self.invariant c.requires.zero_free
    (subst (λ (k : ProgramFiles). k.version ≤ 4 → k.directories ≢ [] → HasBytes (text_of c.args.directory))
    (sym c.self.view_is) c.requires.not_empty))

pub returns-clause-ok : goal.returns-clause-ok
unfolding directories_then
returns-clause-ok c = rw (← c.self.view_is) (rw (then_directories c) refl)

pub returns-clause-place : goal.returns-clause-place
returns-clause-place c = rw (← c.self.view_is) (c.in_ok-place.ensures.index
    ∙ place_seen _ text_of is_same equal_is_same c.args.directory c.self.inside.directories.keys)

pub returns-clause-within : goal.returns-clause-within
unfolding directories_then
returns-clause-within c =
    rw (
      c.in_ok-place.ensures.index
          ∙ place_seen _ text_of is_same equal_is_same c.args.directory c.self.inside.directories.keys,
      then_directories c,
    )
    (place_within is_same (map text_of c.self.inside.directories.keys) (text_of c.args.directory))
