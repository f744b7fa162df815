use Rattle.std.proofs.lemmas.Result.{on_ok_weaker}
use Rattle.linemap_elf.proofs.WrittenParts.{body_written}
use Rattle.linemap_elf.proofs.sections.write_body.Goals as goal

pub returns : goal.returns
returns c =
    on_ok_weaker c.write_name.result
    (body_written c.args.sections.now c.args.w.now c.write_bytes.new.w c.write.new.self c.write_names.new.w
    c.write_name.new.w c.in_ok-write_bytes.ensures c.in_ok-write.ensures c.in_ok-write_names.ensures)
    c.write_name.ensures
