use Rattle.std.proofs.Common.{◌≡◌, ◌+◌, ◌-◌, length, take, drop, sym, subst}
use Rattle.std.proofs.lemmas.List.{take_rest}
use Rattle.addr2line_elf.specs.NameParts.{AreNamePartsTo, IsLongestText, IsLastZero}
use Rattle.addr2line_elf.proofs.NamePartLemmas.{parts_step}
use Rattle.addr2line_elf.proofs.names.add_part.Goals as goal

pub returns-clause-ok : goal.returns-clause-ok
returns-clause-ok c = λ so_far.
    let texts = c.args.texts.now in
    let begin = c.args.begin in
    let len = c.text_len-len.result in
    let rest : take (length texts - begin) (drop begin texts) ≡ drop begin texts = take_rest texts begin in
    subst (AreNamePartsTo (begin + len + 1) texts) (sym c.in_ok-push_part.ensures.ok)
    (parts_step texts begin len c.len_to_last_zero.result c.args.parts.now.items
    (subst (λ bs. IsLongestText bs len) rest c.text_len-len.ensures)
    (subst (λ bs. IsLastZero (take len bs) c.len_to_last_zero.result) rest c.len_to_last_zero.ensures) so_far)
