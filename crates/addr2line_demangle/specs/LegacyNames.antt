-- Legacy names of Rust: a path's elements, each after its length, and the text that they mean.
use Rattle.std.specs.Prelude.{ℕ, zero, suc, Bool, ◌&&◌, ◌||◌, ◌==◌, nat_lt, nat_le, List, [], ◌∷◌, ◌++◌, length, take, drop, slice_index, flat_map, codes, bytes_eq, Option, Some, None, option_map, option_and_then, unwrap_or, if◌then◌else◌}
use Rattle.std.specs.Char.{is_ascii, is_ascii_digit, is_ascii_hexdigit, is_ascii_graphic}
use Rattle.std.specs.Int.{is_in_range}
use Rattle.std.specs.List.{list_all, prefix_len}
use Rattle.std.specs.Option.{option_or}
use Rattle.std.specs.Str.Parse.{digits_value}
use Rattle.gimli_core_base.specs.declared.constants.TheConstants.{DW_LANG_Rust}
use Rattle.addr2line_demangle.specs.LegacyElements.{dot, element_text}

-- '@'
abbrev pub at_sign : ℕ
at_sign = 0x40

-- 'E', with which a path ends
abbrev pub end_of_path : ℕ
end_of_path = 0x45

-- 'h', with which a hash begins
abbrev pub letter_h : ℕ
letter_h = 0x68

-- ---- before the path

-- the text after a prefix, if it begins with the prefix
abbrev pub after_prefix : List ℕ → List ℕ → Option (List ℕ)
after_prefix prefix text =
    if bytes_eq (take (length prefix) text) prefix then Some (drop (length prefix) text) else None

abbrev pub path_bytes : List ℕ → Option (List ℕ)
path_bytes name =
    option_or (after_prefix (codes "_ZN") name)
    (option_or (after_prefix (codes "ZN") name) (after_prefix (codes "__ZN") name))

-- ---- after it

-- 'A' to 'F', '0' to '9' and '@' only
abbrev pub is_mark : List ℕ → Bool
is_mark text =
    list_all (λ b. is_in_range 0x41 0x46 b || is_in_range 0x30 0x39 b || (b == at_sign)) text

-- ".llvm." and a mark up to the end
abbrev pub is_llvm_suffix : List ℕ → Bool
is_llvm_suffix text = bytes_eq (take 6 text) (codes ".llvm.") && is_mark (drop 6 text)

-- the name up to the first place where such a suffix begins
abbrev pub without_llvm : List ℕ → List ℕ
without_llvm [] = []
without_llvm (b ∷ text) = if is_llvm_suffix (b ∷ text) then [] else b ∷ without_llvm text

-- nothing, or a dot and visible bytes
abbrev pub is_suffix : List ℕ → Bool
is_suffix suffix =
    (length suffix == 0) || ((slice_index suffix 0 == dot) && list_all is_ascii_graphic suffix)

-- ---- the path

-- the decimal digits that a text begins with, all of them, and the text after them
abbrev pub length_digits : List ℕ → List ℕ
length_digits text = take (prefix_len is_ascii_digit text) text

abbrev pub after_digits : List ℕ → List ℕ
after_digits text = drop (prefix_len is_ascii_digit text) text

-- the length that they write
abbrev pub stated_length : List ℕ → ℕ
stated_length text = digits_value 10 (length_digits text)

-- an element, and the text after it
pub record Element : Type 0 where
  pub text : List ℕ
  pub rest : List ℕ

-- as many bytes as the length before them says, if there is a length and there are that many bytes
abbrev pub first_element : List ℕ → Option Element
first_element text =
    if nat_lt 0 (prefix_len is_ascii_digit text)
    && nat_le (stated_length text) (length (after_digits text))
    then Some (record {
      text = take (stated_length text) (after_digits text);
      rest = drop (stated_length text) (after_digits text);
    })
    else None

-- a path's elements, and the text after its end
pub record MangledPath : Type 0 where
  pub elements : List (List ℕ)
  pub suffix : List ℕ

abbrev pub add_first : List ℕ → MangledPath → MangledPath
add_first element path = record { elements = element ∷ path.elements; suffix = path.suffix }

-- the path's end
abbrev pub path_end : List ℕ → Option MangledPath
path_end text =
    if slice_index text 0 == end_of_path then Some (record { elements = []; suffix = drop 1 text })
    else None

-- an element and the path after it, or the path's end
abbrev pub element_or_end : Option Element → Option MangledPath → (List ℕ → Option MangledPath)
    → Option MangledPath
element_or_end None end rest = end
element_or_end (Some e) end rest = option_map (add_first e.text) (rest e.rest)

-- a path of fewer than n elements: as many as there are, and an 'E'
unfoldable pub path_within : ℕ → List ℕ → Option MangledPath
path_within zero text = None
path_within (suc n) text = element_or_end (first_element text) (path_end text) (path_within n)

-- each element takes a byte or more, so there are fewer of them than bytes
abbrev pub path_of : List ℕ → Option MangledPath
path_of text = path_within (length text) text

-- ---- the whole name

-- 'h' and hexadecimal digits, or no digits
abbrev pub is_hash : List ℕ → Bool
is_hash element =
    (slice_index element 0 == letter_h) && list_all is_ascii_hexdigit (drop 1 element)

-- the elements, without a hash at the end
abbrev pub without_hash : List (List ℕ) → List (List ℕ)
without_hash [] = []
without_hash (e ∷ []) = if is_hash e then [] else e ∷ []
without_hash (e ∷ f ∷ es) = e ∷ without_hash (f ∷ es)

-- the elements' texts, with two colons between each two
abbrev pub elements_text : List (List ℕ) → List ℕ
elements_text [] = []
elements_text (e ∷ es) = element_text e ++ flat_map (λ f. codes "::" ++ element_text f) es

-- the text of a path of one element or more, with its suffix
abbrev pub path_text : MangledPath → Option (List ℕ)
path_text path =
    if nat_lt 0 (length path.elements) && is_suffix path.suffix
    then Some (elements_text (without_hash path.elements) ++ path.suffix)
    else None

-- the text of a legacy Rust name; none for any other name
abbrev pub rust_text : List ℕ → Option (List ℕ)
rust_text name =
    if list_all is_ascii name
    then option_and_then path_text (option_and_then path_of (path_bytes (without_llvm name)))
    else None

-- names of the language Rust (DWARF 5, 7.12), and of no other
abbrev pub demangle : ℕ → List ℕ → Option (List ℕ)
demangle language name = if language == DW_LANG_Rust.0 then rust_text name else None

-- the text of a name of a language, or of Rust if no language is known; the name itself if it has
-- no other text
abbrev pub demangle_or_name : Option ℕ → List ℕ → List ℕ
demangle_or_name language name =
    unwrap_or (demangle (unwrap_or language DW_LANG_Rust.0) name) name
