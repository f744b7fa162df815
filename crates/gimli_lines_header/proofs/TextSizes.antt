-- Directories and files up to version 4 take some of the bytes.
use Rattle.std.proofs.Common.{◌≡◌, ℕ, ◌≤◌, ◌<◌, arith, Option, Ok}
use Rattle.gimli_units_headers.specs.View.{View, bytes_left}
use Rattle.gimli_units_headers.proofs.StepSizes.{sizes, Below, Below-proceed, Below-Ok}
use Rattle.gimli_units_headers.proofs.Listings.{Shrinks}
use Rattle.gimli_units_headers.proofs.NumberReadSizes.{number_sizes, Below-unsigned}
use Rattle.gimli_units_forms.specs.AttributeValues.{RawValue}
use Rattle.gimli_lines_header.specs.LineFiles.{FileFacts}
use Rattle.gimli_lines_header.specs.HeaderTables.{directory_text, file_after_path, file_text}

pub directory_text-shrinks : Shrinks bytes_left directory_text
unfolding directory_text
directory_text-shrinks = record { smaller = λ v n h. search (arith, sizes, number_sizes) depth 40 }

pub file_rest-below : (path v : View) (n : ℕ) → bytes_left v < n → Below bytes_left n (file_after_path path v)
unfolding file_after_path
file_rest-below path v n h =
    Below-proceed (Below-unsigned v (omega arith)) (λ directory s s_less.
    Below-proceed (Below-unsigned s (omega arith)) (λ time t t_less.
    Below-proceed (Below-unsigned t (omega arith)) (λ size u u_less. Below-Ok u_less)))

pub file_text-shrinks : Shrinks bytes_left file_text
unfolding file_text
file_text-shrinks = record { smaller = λ v n h. search (arith, sizes, number_sizes, file_rest-below) depth 40 }

directory_text-below : (v : View) (n : ℕ) → bytes_left v ≤ n → Below bytes_left n (directory_text v)
unfolding directory_text
directory_text-below v n h = search (arith, sizes, number_sizes) depth 40

file_text-below : (v : View) (n : ℕ) → bytes_left v ≤ n → Below bytes_left n (file_text v)
unfolding file_text
file_text-below v n h = search (arith, sizes, number_sizes, file_rest-below) depth 40

-- an item, or the text that ends them, takes a byte
pub directory_text-takes : (v w : View) (o : Option RawValue) → directory_text v ≡ Ok (o, w)
    → bytes_left w < bytes_left v
directory_text-takes v w o read = (directory_text-below v (bytes_left v) (omega arith)).left o w read

pub file_text-takes : (v w : View) (o : Option FileFacts) → file_text v ≡ Ok (o, w) → bytes_left w < bytes_left v
file_text-takes v w o read = (file_text-below v (bytes_left v) (omega arith)).left o w read
