use Rattle.std.proofs.Common.{Bool, List, ℕ, [], ◌++◌, subst, append_assoc}
use Rattle.gimli_lines_write_tables.specs.EntryBytes.{Continues}
use Rattle.gimli_lines_write_spec.specs.HeaderSpelling.{spelled_parameters, spelled_opcodes, spelled_directories, spelled_files}
use Rattle.gimli_lines_write_unit.specs.HeaderBytes.{bytes_or_refusal, directories_refusals, files_refusals, header_refusals, header_bytes}
use Rattle.gimli_lines_write_unit.proofs.WrittenLists.{then_continues, refused_later}
use Rattle.gimli_lines_write_unit.proofs.header.HeaderTables.write_header.Goals as goal

pub returns : goal.returns
unfolding header_bytes
returns g c =
    let e = c.args.rules.encoding in
    let t = c.args.self.now.listed in
    let directories : Bool → List ℕ = λ b. spelled_directories e b t.directories in
    let files : Bool → List ℕ = λ b. spelled_files e b t in
    let old = g.W.Writer.contents c.args.w.now in
    let new = g.W.Writer.contents c.write_files.new.w in
    subst (λ l. Continues c.write_files.result old new (bytes_or_refusal (header_refusals e t) l))
    (append_assoc (spelled_parameters c.args.rules) spelled_opcodes (directories old.is_big ++ files old.is_big))
    (then_continues c.write_files.result old (g.W.Writer.contents c.write_start.new.w) new [] (header_refusals e t)
    (λ b. spelled_parameters c.args.rules ++ spelled_opcodes) (λ b. directories b ++ files b)
    c.in_ok-write_start.ensures
    (then_continues c.write_files.result (g.W.Writer.contents c.write_start.new.w)
    (g.W.Writer.contents c.write_directories.new.w) new (directories_refusals e t.directories) (files_refusals e t)
    directories files c.in_ok-write_directories.ensures c.write_files.ensures))

pub returns-in_err-write_directories : goal.returns-in_err-write_directories
unfolding header_bytes
returns-in_err-write_directories g c =
    refused_later c.from_residual-in_err-write_directories.result _ (g.W.Writer.contents c.args.w.now)
    (g.W.Writer.contents c.write_start.new.w) (g.W.Writer.contents c.write_directories.new.w) [] _ _ _ _ _
    c.in_ok-write_start.ensures c.from_residual-in_err-write_directories.ensures.1
    c.in_err-write_directories.ensures
