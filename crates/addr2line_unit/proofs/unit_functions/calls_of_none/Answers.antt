use Rattle.std.proofs.Common.{◌≡◌, ℕ, ◌≤◌, List, Option, Ok, ap, sym, ◌∙◌, arith}
use Rattle.addr2line_unit.specs.KeptFunctions.{calls_of_none}
use Rattle.addr2line_unit.proofs.unit_functions.calls_of_none.Goals as goal

-- all of them are none
none_read_all : {A : Type 0} (xs : List (Option A)) (n m : ℕ) → xs ≡ calls_of_none n → n ≤ m → m ≤ n
    → xs ≡ calls_of_none m
none_read_all xs n m is most least = let same : n ≡ m = omega arith in is ∙ ap (λ k. calls_of_none k) same

pub returns : goal.returns
returns g c =
    ap Ok (sym (none_read_all c.loop-function.calls.items c.loop-function._function c.args.count
    c.loop-function.invariant c.loop-function.auto._function-end c.loop-function-test.false))
