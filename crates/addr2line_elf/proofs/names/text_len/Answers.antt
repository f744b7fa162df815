use Rattle.std.proofs.Common.{sym, subst, arith}
use Rattle.addr2line_elf.specs.NameParts.{IsLongestText}
use Rattle.addr2line_elf.proofs.names.text_len.Goals as goal

pub returns-in-Err : goal.returns-in-Err
returns-in-Err c =
    let bytes = c.args.bytes.now in
    let valid = c.in-Err.ensures.cases.1 in
    let short = valid.short in
    subst (IsLongestText bytes) (sym c.valid_up_to.ensures) (record {
      within = omega arith;
      valid = valid.front;
      longest = λ m more le. valid.longest m more;
    })
