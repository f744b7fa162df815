-- The laws of joined texts.
use Rattle.std.proofs.Common.{◌≡◌, true, List, ℕ, ◌∷◌, ◌++◌, Option, Some, None, IfSome, option_map, ap, refl, ◌∙◌, if◌then◌else◌}
use Rattle.std.specs.Str.{IsUtf8}
use Rattle.std.specs.Str.Lossy.{utf8_lossy}
use Rattle.std.proofs.lemmas.Bool.{cond-true}
use Rattle.std.proofs.lemmas.Str.{utf8_lossy-IsUtf8}
use Rattle.addr2line_paths.specs.FilePaths.{is_rooted, join, separator, needs_no_separator, file_text, file_text_of_bytes}

pub rooted_text_replaces_path : (path text : List ℕ) → is_rooted text ≡ true → join path text ≡ text
rooted_text_replaces_path path text h =
    cond-true (is_rooted text) text (if needs_no_separator path then path ++ text else path ++ separator path ∷ text) h

-- a text that is UTF-8, where there is one, is unchanged
lossy_of_utf8 : (o : Option (List ℕ)) → IfSome o IsUtf8 → option_map utf8_lossy o ≡ o
lossy_of_utf8 None h = refl
lossy_of_utf8 (Some text) h = ap Some (utf8_lossy-IsUtf8 text h)

pub utf8_text_is_unchanged : (unit_directory directory : Option (List ℕ)) (name : List ℕ)
    → IfSome unit_directory IsUtf8 → IfSome directory IsUtf8 → IsUtf8 name
    → file_text_of_bytes unit_directory directory name ≡ file_text unit_directory directory name
utf8_text_is_unchanged unit_directory directory name u d n =
    ap (λ (t : Option (List ℕ)). file_text t (option_map utf8_lossy directory) (utf8_lossy name))
    (lossy_of_utf8 unit_directory u)
    ∙ ap (λ (t : Option (List ℕ)). file_text unit_directory t (utf8_lossy name)) (lossy_of_utf8 directory d)
    ∙ ap (λ (t : List ℕ). file_text unit_directory directory t) (utf8_lossy-IsUtf8 name n)
