-- What follows for a run over the image of a table: it prints what the table says.
use Rattle.std.specs.Prelude.{◌≡◌, ℕ, Bool, List, [], Option, None, option_map, Result, Ok}
use Rattle.std.specs.String.{string_bytes}
use Rattle.linemap_image.specs.ImageAnswers.{FileAnswers}
use Rattle.linemap_image.specs.TableParts.{UnitPart}
use Rattle.linemap_lookup.specs.Error.{Error}
use Rattle.linemap_lookup.specs.Options.{Options}
use Rattle.linemap_lookup.specs.Outcome.{Outcome}
use Rattle.linemap_lookup.specs.Programs.{Asks, Prints, question, section_if_any, words_of}
use Rattle.linemap_lookup.specs.Range.{Range}
use Rattle.linemap_lookup_laws.specs.TableTexts.{all_addresses, table_text}

-- The text of a table for the addresses that are asked for (all, those of words, or those of the
-- lines of an input), no error line, and status 0.
pub record PrintsTable (o : Options) (us : List UnitPart) (section : Option Range)
    (input_old input_new : Option (List ℕ)) (is_cut : Bool) (p : Outcome) : Type 0 where
  pub addresses : List (Option ℕ)
  pub are_asked : Asks (all_addresses o us) (words_of o) input_old input_new is_cut addresses
  pub is_text : p ≡ record { out = table_text o us section addresses; err = []; status = 0 }

-- Over an image that answers a table, `run` prints the table's text, with any options, as long as
-- the section that addresses count from is there, if one is asked for.
abbrev pub TablePrinted : {S : Type 0}
    → (S → List ℕ → List ℕ → Result (Option (List ℕ)) Error → S → Type 0) → Type 0
TablePrinted {S} answers =
    (image : List ℕ) (us : List UnitPart) (file : FileAnswers image us) (o : Options)
    (section : Option Range) (source : S) (input_old input_new : Option (List ℕ)) (is_cut : Bool)
    (p : Outcome)
    → section_if_any (option_map string_bytes o.section) file.loaded.image ≡ Ok section
    → Prints answers o source input_old input_new (question o image None) is_cut p
    → PrintsTable o us section input_old input_new is_cut p
