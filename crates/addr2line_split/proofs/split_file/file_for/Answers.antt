use Rattle.std.proofs.Common.{◌≡◌, Ok, Some, option_map, rules, subst}
use Rattle.std.specs.Option.{option_and_then}
use Rattle.std.specs.Result.{result_ok}
use Rattle.addr2line_unit.specs.Calls.{ReturnsAsOrNoMemory}
use Rattle.addr2line_split.specs.SplitLoading.{sections_in, if_of_load}
use Rattle.addr2line_split.proofs.split_file.file_for.Goals as goal

pub returns-in-Some-clause-file : goal.returns-in-Some-clause-file
returns-in-Some-clause-file c =
    let found : Some c.in-Some.dwarf.file ≡ result_ok (sections_in c.args.bytes) = grind (rules) in
    subst (λ file. ReturnsAsOrNoMemory (option_map (λ d. d.value.file)) c.if_of_load.result
    (Ok (option_and_then (if_of_load c.args.load.now) file))) found c.if_of_load.ensures.file
