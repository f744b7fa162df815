-- What a write left after the writer's bytes is read again.
use Rattle.std.proofs.Common.{◌≡◌, ◌⊎◌, ℕ, Bool, List, ◌++◌, Result, Ok, Err, refl, sym, ap}
use Rattle.std.specs.Prelude.{All}
use Rattle.gimli_lines_write_laws.specs.WriteError.{Error}
use Rattle.gimli_lines_write_laws.specs.Address.{Address}
use Rattle.gimli_lines_write_laws.specs.Address.TheVariants.{Constant}
use Rattle.gimli_lines_write_laws.specs.OutputBytes.{WriterContents, append, append_result}
use Rattle.gimli_lines_write_laws.specs.BuiltRows.{rows_of}
use Rattle.gimli_lines_write_laws.specs.ProgramReadBack.{ProgramReadsAs}
use Rattle.gimli_lines_write_laws.proofs.ProgramReading.{program_reads_back}
use Rattle.gimli_lines_write_laws.proofs.WrittenForms.{expressible_if_written}
use Rattle.gimli_lines_write_laws.proofs.ExpressedPrograms.{expressible_refusals}
use Rattle.gimli_lines_write_laws.specs.ExpressiblePrograms.{IsExpressible, IsTooLarge}
use Rattle.gimli_lines_write_laws.specs.StringSections.{IsText}
use Rattle.gimli_lines_write_program.specs.BuiltPrograms.{Program, IsBuilt, HasItsTexts, program_bytes, strings_with, line_strings_with, ReadsBack, RefusesRows}

pub written_reads_back : (address_of : Address → Result ℕ Error) → ((n : ℕ) → address_of (Constant n) ≡ Ok n)
    → (s l : List (List ℕ)) (p : Program) (old new : WriterContents) → IsBuilt p → HasItsTexts s l p
    → All IsText (strings_with s p) → All IsText (line_strings_with l p)
    → append_result (program_bytes address_of old.is_big s l p) old ≡ Ok new
    → ReadsBack (strings_with s p) (line_strings_with l p) p old new
written_reads_back address_of constants s l p old new built known texts line_texts h readable free =
    by (program_bytes address_of old.is_big s l p) refl h
  where
    by : (r : Result (List ℕ) Error) → program_bytes address_of old.is_big s l p ≡ r → append_result r old ≡ Ok new
        → (unit : List ℕ) × (new.bytes ≡ old.bytes ++ unit)
        × ProgramReadsAs (strings_with s p) (line_strings_with l p) p.rows.rules p.tables p.details
        (rows_of p.rows.rules p.rows.entries) old.is_big unit
    by (Err d) is k = absurd (cc)
    by (Ok bytes) is k =
        let there : append bytes old ≡ new = cc in (
          bytes,
          ap (λ (w : WriterContents). w.bytes) (sym there),
          program_reads_back s l p.rows.rules p.tables p.details p.rows.entries old.is_big
              (record { buildable = built.buildable; least = built.least; most = built.most }) built.same_version
              (record {
                consistent = built.consistent;
                fit = built.fit;
                few = built.few;
                known = known;
                texts = texts;
                line_texts = line_texts;
              })
              address_of constants built.in_order readable free bytes is,
        )

-- what was written is of a program that a header can express
pub written_is_expressible : (address_of : Address → Result ℕ Error) (s l : List (List ℕ)) (p : Program)
    (old new : WriterContents) → IsBuilt p → append_result (program_bytes address_of old.is_big s l p) old ≡ Ok new
    → IsExpressible p.rows.rules p.tables p.details
written_is_expressible address_of s l p old new built h = by (program_bytes address_of old.is_big s l p) refl h
  where
    by : (r : Result (List ℕ) Error) → program_bytes address_of old.is_big s l p ≡ r → append_result r old ≡ Ok new
        → IsExpressible p.rows.rules p.tables p.details
    by (Err d) is k = absurd (cc)
    by (Ok bytes) is k =
        expressible_if_written s l p.rows.rules p.tables p.details built.same_version built.consistent.same_length
        address_of old.is_big p.rows.entries bytes is

-- such a program is refused for a number that doesn't fit, or as its rows are
pub refused_for_numbers : (address_of : Address → Result ℕ Error) (is_big : Bool) (s l : List (List ℕ)) (p : Program)
    → IsBuilt p → IsExpressible p.rows.rules p.tables p.details → (e : Error)
    → program_bytes address_of is_big s l p ≡ Err e → IsTooLarge e ⊎ RefusesRows address_of is_big p e
refused_for_numbers address_of is_big s l p built can e is =
    expressible_refusals s l p.rows.rules p.tables p.details built.same_version built.consistent.same_length can
    address_of is_big p.rows.entries e is
