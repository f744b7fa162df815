-- Laws of legacy names.
use Rattle.std.specs.Prelude.{◌≡◌, ℕ, ◌<◌, true, false, not, ◌&&◌, ◌==◌, List, [], ◌∷◌, ◌++◌, length, slice_index, Some}
use Rattle.std.specs.Char.{is_ascii_digit}
use Rattle.std.specs.List.{list_all}
use Rattle.std.specs.Str.Parse.{digits_value}
use Rattle.addr2line_demangle.specs.LegacyElements.{dollar, dot, element_text}
use Rattle.addr2line_demangle.specs.LegacyNames.{MangledPath, end_of_path, path_of}

-- a text is decimal digits, as many as there are, then an element of the length that they write,
-- and a rest
pub record IsElementAndRest (text element rest : List ℕ) : Type 0 where
  pub digits : List ℕ
  pub split : text ≡ digits ++ (element ++ rest)
  pub some : 0 < length digits
  pub decimal : list_all is_ascii_digit digits ≡ true
  pub states : digits_value 10 digits ≡ length element
  pub all : is_ascii_digit (slice_index (element ++ rest) 0) ≡ false

-- a text is a path as compilers write it: elements, each after its length, then an 'E' and a suffix
abbrev pub IsPath : List ℕ → List (List ℕ) → List ℕ → Type 0
IsPath text [] suffix = text ≡ (end_of_path ∷ suffix)
IsPath text (e ∷ es) suffix =
    (rest : List ℕ) × IsElementAndRest text e rest × IsPath rest es suffix

-- each such path is read as it is written
abbrev pub PathsAreRead : Type 0
PathsAreRead =
    (text : List ℕ) (elements : List (List ℕ)) (suffix : List ℕ)
    → IsPath text elements suffix
    → path_of text ≡ Some (record { elements = elements; suffix = suffix })

-- and nothing else is read
abbrev pub OnlyPathsAreRead : Type 0
OnlyPathsAreRead =
    (text : List ℕ) (path : MangledPath) → path_of text ≡ Some path
    → IsPath text path.elements path.suffix

-- the text of an element without dollar signs and dots is the element
abbrev pub PlainElementsAreUnchanged : Type 0
PlainElementsAreUnchanged =
    (element : List ℕ) → list_all (λ b. not (b == dollar) && not (b == dot)) element ≡ true
    → element_text element ≡ element
