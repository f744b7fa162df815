use Rattle.std.proofs.Common.{◌≡◌, true, false, rules}
use Rattle.addr2line_demangle.proofs.LlvmSuffixes.{llvm_cut, llvm_other, llvm_none}
use Rattle.addr2line_demangle.specs.LegacyNames.{is_mark}
use Rattle.addr2line_demangle.proofs.names.without_llvm.Goals as goal

pub returns-then-is_mark : goal.returns-then-is_mark
returns-then-is_mark c =
    let m : is_mark c.in-Some.mark.now ≡ true = search rules in
    llvm_cut c.args.name.now c.in-Some.before.now c.in-Some.mark.now c.in-Some.ensures.cases m

pub returns-else-is_mark : goal.returns-else-is_mark
returns-else-is_mark c =
    let m : is_mark c.in-Some.mark.now ≡ false = search rules in
    llvm_other c.args.name.now c.in-Some.before.now c.in-Some.mark.now c.in-Some.ensures.cases m

pub returns-in-None : goal.returns-in-None
returns-in-None c = llvm_none c.args.name.now c.in-None.ensures.cases
