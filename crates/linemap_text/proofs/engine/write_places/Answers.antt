use Rattle.std.proofs.Common.{map, string_bytes, subst}
use Rattle.std.specs.Prelude.{OnOk}
use Rattle.std.specs.Io.KnownBytes.{Appends}
use Rattle.linemap_output.specs.WriterBytes.{AppendsPrefix}
use Rattle.linemap_text.proofs.SectionAnswersPrinted.{context_from, answers_from}
use Rattle.linemap_text.proofs.engine.write_places.Goals as goal

pub context_of-requires : goal.context_of-requires
context_of-requires g c =
    context_from _ _ c.args.sections.now c.requires.0 _ c.dwarf_of-dwarf.ensures c.endian.ensures c.target.ensures.order
    c.requires.1

pub write_answers-requires : goal.write_answers-requires
write_answers-requires g c =
    (answers_from _ _ c.args.sections.now c.requires.0 _ _ c.dwarf_of-dwarf.ensures c.endian.ensures
    c.target.ensures.order
    c.requires.1 c.in-Ok.ensures).never_refuses

pub returns-in-Ok-clause-whole : goal.returns-in-Ok-clause-whole
returns-in-Ok-clause-whole g c = λ us are.
    subst (λ t. OnOk c.write_answers.result
    (Appends (g.W.Write.contents c.args.out.now) (g.W.Write.contents c.write_answers.new.out) t))
    ((answers_from _ _ c.args.sections.now us _ _ c.dwarf_of-dwarf.ensures c.endian.ensures c.target.ensures.order are
    c.in-Ok.ensures).texts (map string_bytes c.args.words.now))
    c.write_answers.ensures.whole

pub returns-in-Ok-clause-prefix : goal.returns-in-Ok-clause-prefix
returns-in-Ok-clause-prefix g c = λ us are.
    subst (AppendsPrefix (g.W.Write.contents c.args.out.now) (g.W.Write.contents c.write_answers.new.out))
    ((answers_from _ _ c.args.sections.now us _ _ c.dwarf_of-dwarf.ensures c.endian.ensures c.target.ensures.order are
    c.in-Ok.ensures).texts (map string_bytes c.args.words.now))
    c.write_answers.ensures.prefix
