use Rattle.std.proofs.Common.{rules, ltb}
use Rattle.std.proofs.lemmas.Result.{IfOk-weaker}
use Rattle.std.proofs.lemmas.List.Sorted.{answers_always, IsStrictWeakOrder-flip, IsStrictWeakOrder-by_number}
use Rattle.addr2line_elf.specs.declared.symbol_entries.SymbolEntry.{SymbolEntry}
use Rattle.addr2line_elf.proofs.SymbolChoice.{comes_before, Falls-from_sorted, stretches_divide}
use Rattle.addr2line_elf.proofs.sweep.stretches_of.Goals as goal

pub sweep_all-requires : goal.sweep_all-requires
sweep_all-requires c =
    let sort = c.in_ok-sort_by.ensures in
    let value = λ (e : SymbolEntry). e.value in
    let order = IsStrictWeakOrder-flip (λ x y. ltb (value x) (value y)) (IsStrictWeakOrder-by_number value) in
    Falls-from_sorted c.sort_by.new.self.items
    (sort.sorted comes_before order (answers_always _ _ _ (λ f a r q k. search rules)))

pub returns-clause-ok : goal.returns-clause-ok
returns-clause-ok c =
    let sort = c.in_ok-sort_by.ensures in
    let sorted = c.sort_by.new.self.items in
    let value = λ (e : SymbolEntry). e.value in
    let order = IsStrictWeakOrder-flip (λ x y. ltb (value x) (value y)) (IsStrictWeakOrder-by_number value) in
    IfOk-weaker c.sweep_all.result _ _ (λ stretches answer texts named.
    stretches_divide texts c.args.entries.items sorted stretches.items
    (sort.sorted comes_before order (answers_always _ _ _ (λ f a r q k. search rules)))
    (sort.stable comes_before order (answers_always _ _ _ (λ f a r q k. search rules)))
    answer named) c.sweep_all.ensures.ok
