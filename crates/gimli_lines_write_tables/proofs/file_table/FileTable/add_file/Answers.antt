use Rattle.std.proofs.Common.{◌≡◌, ℕ, true, false, [], ◌∷◌, ◌++◌, Option, Some, None, option_map, unwrap_or, is_some, refl, sym, ap, ◌∙◌}
use Rattle.std.specs.List.{list_any}
use Rattle.std.specs.Option.{UnwrapsOrElse}
use Rattle.gimli_lines_write_tables.specs.declared.file.FileInfo.{FileInfo}
use Rattle.std.proofs.lemmas.Result.{IfOk-weaker}
use Rattle.gimli_lines_write_tables.specs.FileTables.{ProgramFiles, File, Info, text_of, file_of, info_of, is_same_file, with_file, with_info, no_info}
use Rattle.gimli_lines_write_tables.specs.StringSections.{item_index}
use Rattle.gimli_lines_write_tables.proofs.Keys.{equal_is_same_file, any_seen, place_seen, with_new, with_old}
use Rattle.gimli_lines_write_tables.proofs.TextTableLemmas.{position-index, index-none}
use Rattle.gimli_lines_write_tables.proofs.file_table.FileTable.add_file.Goals as goal

pub push_file-requires-clause-absent : goal.push_file-requires-clause-absent
push_file-requires-clause-absent c =
    rw (← c.self.view_is) (sym (any_seen _ file_of is_same_file equal_is_same_file
    (record { path = c.args.path; directory = c.args.directory }) c.self.inside.files.keys)
    ∙ sym c.get_index_of.ensures.found ∙ ap is_some c.in-None.is)

pub returns-in-Some-clause-place : goal.returns-in-Some-clause-place
returns-in-Some-clause-place c =
    rw (← c.self.view_is) (position-index _ c.self.inside.files.keys c.in-Some.place (sym c.get_index_of.ensures.index
    ∙ c.in-Some.is)
    ∙ place_seen _ file_of is_same_file equal_is_same_file (record { path = c.args.path; directory = c.args.directory })
    c.self.inside.files.keys)

-- a file that is there
old_file : (k : ProgramFiles) (file : File) (info : Option Info) (place : ℕ) → list_any (is_same_file file) k.files
    ≡ true → place ≡ item_index is_same_file k.files file → record k { infos = with_info k.infos place true info }
    ≡ with_file file info k
old_file k file info place there same =
    ap (λ n. record k { infos = with_info k.infos n true info }) same
    ∙ ap (λ b. record k { infos = with_info k.infos (item_index is_same_file k.files file) b info }) (sym there)
    ∙ ap (λ fs. record k {
      files = fs;
      infos = with_info k.infos (item_index is_same_file k.files file)
          (list_any (is_same_file file) k.files) info;
    }) (sym (with_old is_same_file k.files file there))

-- one that is new
new_file : (k : ProgramFiles) (file : File) (info : Option Info) (facts : Info) → list_any (is_same_file file) k.files
    ≡ false → facts ≡ unwrap_or info no_info → record k { files = k.files ++ file ∷ []; infos = k.infos ++ facts ∷ [] }
    ≡ with_file file info k
new_file k file info facts absent same =
    ap (λ t. record k { files = k.files ++ file ∷ []; infos = k.infos ++ t ∷ [] }) same
    ∙ ap (λ is. record k { files = k.files ++ file ∷ []; infos = is }) (by info)
    ∙ ap (λ b. record k {
      files = k.files ++ file ∷ [];
      infos = with_info k.infos (item_index is_same_file k.files file) b info;
    }) (sym absent)
    ∙ ap (λ fs. record k {
      files = fs;
      infos = with_info k.infos (item_index is_same_file k.files file)
          (list_any (is_same_file file) k.files) info;
    }) (sym (with_new is_same_file k.files file absent))
  where
    by : (o : Option Info) → k.infos ++ unwrap_or o no_info ∷ []
        ≡ with_info k.infos (item_index is_same_file k.files file) false o
    by (Some i) = refl
    by None = refl

pub returns-in-Some-clause-ok : goal.returns-in-Some-clause-ok
returns-in-Some-clause-ok c =
    c.update_info.ensures ∙ old_file c.args.self.now
    (record { path = text_of c.args.path; directory = c.args.directory.0 }) (option_map info_of c.args.info)
    c.in-Some.place
    (rw (← c.self.view_is) (sym (any_seen _ file_of is_same_file equal_is_same_file
    (record { path = c.args.path; directory = c.args.directory }) c.self.inside.files.keys)
    ∙ sym c.get_index_of.ensures.found ∙ ap is_some c.in-Some.is))
    (rw (← c.self.view_is) (position-index _ c.self.inside.files.keys c.in-Some.place (sym c.get_index_of.ensures.index
    ∙ c.in-Some.is)
    ∙ place_seen _ file_of is_same_file equal_is_same_file (record { path = c.args.path; directory = c.args.directory })
    c.self.inside.files.keys))

pub returns-in-None-clause-place : goal.returns-in-None-clause-place
returns-in-None-clause-place c =
    IfOk-weaker c.push_file.result _ _ (λ x h. h
    ∙ sym (index-none (is_same_file (record { path = text_of c.args.path; directory = c.args.directory.0 }))
    c.args.self.now.files
    (rw (← c.self.view_is) (sym (any_seen _ file_of is_same_file equal_is_same_file
    (record { path = c.args.path; directory = c.args.directory }) c.self.inside.files.keys)
    ∙ sym c.get_index_of.ensures.found ∙ ap is_some c.in-None.is)))) c.push_file.ensures.place

-- what is recorded of a new file
recorded_is : (o : Option FileInfo) (t : FileInfo) → UnwrapsOrElse o (λ i. info_of i ≡ no_info) t
    → info_of t ≡ unwrap_or (option_map info_of o) no_info
recorded_is (Some i) t h = ap info_of h
recorded_is None t h = h

pub returns-in-None-clause-ok : goal.returns-in-None-clause-ok
returns-in-None-clause-ok c =
    IfOk-weaker c.push_file.result _ _ (λ x h. h
    ∙ new_file c.args.self.now (record { path = text_of c.args.path; directory = c.args.directory.0 })
    (option_map info_of c.args.info) (info_of c.unwrap_or_default.result)
    (rw (← c.self.view_is) (sym (any_seen _ file_of is_same_file equal_is_same_file
    (record { path = c.args.path; directory = c.args.directory }) c.self.inside.files.keys)
    ∙ sym c.get_index_of.ensures.found ∙ ap is_some c.in-None.is))
    (recorded_is c.args.info c.unwrap_or_default.result c.unwrap_or_default.ensures)) c.push_file.ensures.ok
