-- What `emit` makes of a text, and how it reports that it makes nothing.
use Rattle.std.specs.Prelude.{◌≡◌, ◌^◌, ℕ, List, [], Bool, true, false, ⊤, Option, Some, None, Result, Ok, Err, codes, nat_lt, if◌then◌else◌}
use Rattle.linemap_image.specs.ImageAnswers.{FileAnswers}
use Rattle.linemap_image.specs.TableImages.{emitted_image}
use Rattle.linemap_image.specs.Encoding.{Encoding}
use Rattle.linemap_image.specs.EncodingFits.{fits}
use Rattle.linemap_image.specs.EmittedSections.{emitted_sections}
use Rattle.linemap_image.specs.EmitError.{EmitError}
use Rattle.linemap_image.specs.EmitError.TheVariants.{Memory as NoRoom, TooLarge as TooHeavy}
use Rattle.linemap_output.specs.declared.ended.Ended.{Ended}
use Rattle.linemap_output.specs.ErrorLine.{Fails, emission_line, error_line, table_line}
use Rattle.linemap_image.specs.TableErrorCodes.{table_error_code}
use Rattle.linemap_image.specs.TableError.{TableError}
use Rattle.linemap_image.specs.TableError.TheVariants.{Memory as NoMemory}
use Rattle.linemap_image.specs.TableParts.{UnitPart}
use Rattle.linemap_image.specs.TableWeight.{table_weight}
use Rattle.linemap_commands.specs.declared.images.Refusal.{Refusal}
use Rattle.linemap_commands.specs.declared.images.Refusal.TheVariants.{TableMemory, Table, DoesNotFit, EmissionMemory, TooLarge}

-- ---- what is refused

-- the refusal of a text, memory aside: it isn't a table, the table doesn't fit, or weighs 2^31 or
-- more
abbrev pub refusal_of : Encoding → Result (List UnitPart) TableError → Option Refusal
refusal_of e (Err error) = Some (Table error)
refusal_of e (Ok units) = if fits e.address_size units
    then (if nat_lt (table_weight units) (2 ^ 31) then None else Some TooLarge)
    else Some DoesNotFit

-- memory that is refused for a table is not a refusal of the table
abbrev pub table_refusal : TableError → Refusal
table_refusal NoMemory = TableMemory
table_refusal e = Table e

-- nor is a table that is too large one that memory is refused for
abbrev pub emission_refusal : EmitError → Refusal
emission_refusal NoRoom = EmissionMemory
emission_refusal TooHeavy = TooLarge

-- the text is a table that fits the target
abbrev pub IsFitting : Encoding → Result (List UnitPart) TableError → Type 0
IsFitting e (Err error) = ⊥
IsFitting e (Ok units) = fits e.address_size units ≡ true

-- the refusal is the text's own, or memory is refused: for the table, or for the emission of one
-- that fits
abbrev pub RefusesTable : Encoding → Result (List UnitPart) TableError → Refusal → Type 0
RefusesTable e table TableMemory = ⊤
RefusesTable e table (Table error) = refusal_of e table ≡ Some (Table error)
RefusesTable e table DoesNotFit = refusal_of e table ≡ Some DoesNotFit
RefusesTable e table EmissionMemory = IsFitting e table
RefusesTable e table TooLarge = refusal_of e table ≡ Some TooLarge

-- ---- what is made

-- the bytes are the image of the table, which nothing refuses, and loaded they answer the table
abbrev pub IsImage : Encoding → Bool → Result (List UnitPart) TableError → List ℕ → Type 0
IsImage e is_big (Err error) bytes = ⊥
IsImage e is_big (Ok units) bytes = (refusal_of e (Ok units) ≡ None)
    × (bytes ≡ emitted_image e is_big (emitted_sections e is_big units)) × FileAnswers bytes units

-- ---- how a refusal is reported

-- the error line of a refusal
abbrev pub refusal_line : Refusal → List ℕ
refusal_line TableMemory = table_line (codes "B1")
refusal_line (Table error) = table_line (table_error_code error)
refusal_line DoesNotFit = error_line (codes "table does not fit the target") []
refusal_line EmissionMemory = emission_line (codes "M1")
refusal_line TooLarge = emission_line (codes "M2")

-- whether memory is refused, which sets its flag
abbrev pub is_memory : Refusal → Bool
is_memory TableMemory = true
is_memory EmissionMemory = true
is_memory _ = false

-- an error line and status 1
abbrev pub Reports : Refusal → Option (List ℕ) → Option (List ℕ) → Ended → Type 0
Reports refusal old new e =
    Fails (refusal_line refusal) old new e × (e.memory ≡ is_memory refusal)

-- the text's refusal is reported, or one for memory
pub record EndsRefused (encoding : Encoding) (table : Result (List UnitPart) TableError)
    (old new : Option (List ℕ)) (e : Ended) : Type 0 where
  pub why : Refusal
  pub refuses : RefusesTable encoding table why
  pub reports : Reports why old new e
