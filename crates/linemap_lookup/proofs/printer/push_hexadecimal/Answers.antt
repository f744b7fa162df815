use Rattle.std.proofs.Common.{◌≡◌, ◌++◌, ℕ, List, Result, false, sym, subst}
use Rattle.std.specs.Prelude.{OnOk, if◌then◌else◌}
use Rattle.std.specs.Fmt.{digits}
use Rattle.linemap_lookup.specs.AddressTexts.{hexadecimal, hexadecimal_16, printed_address}
use Rattle.linemap_output.specs.declared.options.Options.{Options}
use Rattle.linemap_lookup.proofs.HexadecimalTexts.{padded_to_16}
use Rattle.linemap_lookup.proofs.printer.push_hexadecimal.Goals as goal

-- that text, where the other form isn't asked for
is_printed : (o : Options) (a : ℕ) (old new : List ℕ) {E : Type 0} (r : Result (Unit {0}) E) → o.llvm ≡ false
    → OnOk r (new ≡ old ++ hexadecimal_16 a) → OnOk r (new ≡ old ++ printed_address o a)
is_printed o a old new r is done =
    subst (λ b. OnOk r (new ≡ old ++ (if b then hexadecimal a else hexadecimal_16 a))) (sym is) done

pub returns-else-options : goal.returns-else-options
returns-else-options c =
    let h = rw c.laid_out.ensures at (rw c.in_radix-else-options.ensures at c.write-else-options.ensures.bytes) in
    is_printed c.args.options.now c.args.address _ _ _ c.if-options.false
    (rw (padded_to_16 (digits 16 false c.args.address)) at h)
