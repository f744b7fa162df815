-- A whole name, from its path.
use Rattle.std.proofs.Common.{◌≡◌, ℕ, suc, true, false, cond, List, [], ◌∷◌, length, take, drop, codes, bytes_eq, IsAscii, Option, Some, None, option_and_then, refl, sym, ap, subst, ◌∙◌}
use Rattle.std.specs.Char.{is_ascii}
use Rattle.std.specs.List.{list_all}
use Rattle.std.specs.Option.{option_or}
use Rattle.std.proofs.lemmas.Bool.{and_from, lt-ltb, cond-true}
use Rattle.std.proofs.lemmas.Str.{IsAscii-take, IsAscii-drop}
use Rattle.addr2line_demangle.specs.LegacyNames.{MangledPath, after_prefix, path_bytes, is_llvm_suffix, without_llvm, path_of, path_text, rust_text}

all_ascii : (name : List ℕ) → IsAscii name → list_all is_ascii name ≡ true
all_ascii [] h = refl
all_ascii (b ∷ name) h =
    and_from (is_ascii b) (list_all is_ascii name) (lt-ltb b 128 (h 0))
    (all_ascii name (λ i. h (suc i)))

-- ---- what is cut from an ASCII text is ASCII

abbrev IsPrefix : List ℕ → List ℕ → Type 0
IsPrefix name text = (n : ℕ) × (text ≡ take n name)

llvm_prefix : (name : List ℕ) → IsPrefix name (without_llvm name)
llvm_prefix [] = (0, refl)
llvm_prefix (b ∷ name) =
    let rest = llvm_prefix name in
    elim (is_llvm_suffix (b ∷ name)) as
    (λ t. IsPrefix (b ∷ name) (cond t [] (b ∷ without_llvm name))) [
      | true ↦ (0, refl)
      | false ↦ (suc rest.0, ap (λ (t : List ℕ). b ∷ t) rest.1)
    ]

ascii_prefix : (name : List ℕ) → IsAscii name → IsAscii (without_llvm name)
ascii_prefix name h =
    let front = llvm_prefix name in subst IsAscii (sym front.1) (IsAscii-take name front.0 h)

abbrev IsAsciiIfSome : Option (List ℕ) → Type 0
IsAsciiIfSome None = Unit {0}
IsAsciiIfSome (Some text) = IsAscii text

ascii_rest : (front text : List ℕ) → IsAscii text → IsAsciiIfSome (after_prefix front text)
ascii_rest front text h =
    elim (bytes_eq (take (length front) text) front) as
    (λ b. IsAsciiIfSome (cond b (Some (drop (length front) text)) None)) [
      | true ↦ IsAscii-drop text (length front) h
      | false ↦ tt
    ]

ascii_or : (o p : Option (List ℕ)) → IsAsciiIfSome o → IsAsciiIfSome p
    → IsAsciiIfSome (option_or o p)
ascii_or None p h k = k
ascii_or (Some text) p h k = h

ascii_path_bytes : (text : List ℕ) → IsAscii text → IsAsciiIfSome (path_bytes text)
ascii_path_bytes text h =
    ascii_or (after_prefix (codes "_ZN") text)
    (option_or (after_prefix (codes "ZN") text) (after_prefix (codes "__ZN") text))
    (ascii_rest (codes "_ZN") text h)
    (ascii_or (after_prefix (codes "ZN") text) (after_prefix (codes "__ZN") text)
    (ascii_rest (codes "ZN") text h) (ascii_rest (codes "__ZN") text h))

pub ascii_path : (name path : List ℕ) → IsAscii name → Some path ≡ path_bytes (without_llvm name)
    → IsAscii path
ascii_path name path h e =
    subst IsAsciiIfSome (sym e) (ascii_path_bytes (without_llvm name) (ascii_prefix name h))

-- ---- the name's text

pub whole_text : (name path : List ℕ) (p : MangledPath) → IsAscii name
    → Some path ≡ path_bytes (without_llvm name) → path_of path ≡ Some p
    → path_text p ≡ rust_text name
whole_text name path p h e k =
    sym (cond-true (list_all is_ascii name) _ None (all_ascii name h)
    ∙ ap (λ (o : Option (List ℕ)). option_and_then path_text (option_and_then path_of o)) (sym e)
    ∙ ap (option_and_then path_text) k)
