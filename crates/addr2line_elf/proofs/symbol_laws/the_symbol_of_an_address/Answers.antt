use Rattle.addr2line_elf.proofs.FirstHighestSymbol.{first_highest_holds, none_holds}
use Rattle.addr2line_elf.proofs.symbol_laws.the_symbol_of_an_address.Goals as goal

pub returns-clause-found : goal.returns-clause-found
returns-clause-found c = first_highest_holds

pub returns-clause-none : goal.returns-clause-none
returns-clause-none c = none_holds
