use Rattle.std.proofs.Common.{◌<◌, length, Some, option_map, refl, sym, subst, ap, ◌∙◌}
use Rattle.std.proofs.lemmas.List.{map-set, length-map}
use Rattle.std.proofs.lemmas.Option.{slice_get-map, slice_get-get_or}
use Rattle.gimli_lines_write_tables.specs.FileTables.{ProgramFiles, info_of}
use Rattle.gimli_lines_write_tables.proofs.file_table.FileTable.info_mut.Goals as goal

pub returns : goal.returns
returns c = (
  (refl, λ w. rw (← c.self.view_is) (rw (map-set info_of c.self.inside.infos.items c.args.id.0 w) refl)),
  record {
    value = rw (← c.self.view_is) (slice_get-map info_of c.self.inside.infos.items c.args.id.0
        ∙ ap (option_map info_of) (slice_get-get_or c.self.inside.infos.items c.args.id.0 c.index_mut.result.now
        (subst (λ n. c.args.id.0 < n) (sym c.self.invariant.same_length ∙ length-map c.self.inside.infos.items info_of)
        (subst (λ (k : ProgramFiles). c.args.id.0 < length k.files) (sym c.self.view_is) c.requires))
        ∙ ap Some (sym c.index_mut.ensures.value)));
    after = tt;
  },
)
