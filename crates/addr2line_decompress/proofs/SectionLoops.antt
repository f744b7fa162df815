-- Results for each section, one after the other, in a loop.
use Rattle.std.proofs.Common.{◌≡◌, ℕ, ◌+◌, ◌<◌, List, [], ◌∷◌, ◌++◌, length, drop, get_or, flat_map, nat_lt, unwrap_or, Option, Some, None, Result, Ok, Err, refl, sym, ap, ◌∙◌, append_assoc, append-nil}
use Rattle.gimli_core_readers.specs.Results.{and_then, some_of}
use Rattle.addr2line_inflate.specs.Streams.{inflated}
use Rattle.std.proofs.lemmas.List.{drop_more}
use Rattle.std.proofs.lemmas.List.Concat.{flat_map-append}
use Rattle.addr2line_decompress.specs.declared.error.DecompressError.{DecompressError}
use Rattle.addr2line_decompress.specs.declared.error.DecompressError.TheVariants.{OverlappingHeaders}
use Rattle.addr2line_decompress.specs.declared.sections.DebugSections.{DebugSections}
use Rattle.addr2line_decompress.specs.DecompressResults.{refuse_if, or_stream}
use Rattle.addr2line_decompress.specs.Compression.{Content, Change}
use Rattle.addr2line_decompress.specs.ImageTables.{ImageTable, file_header_size}
use Rattle.addr2line_decompress.specs.CompressedSections.{text_from, new_names, names_start, refuse_new_names, Section, refuse_all_names, sections_from, text_of, text_if_any, texts_from}
use Rattle.addr2line_decompress.specs.DecompressedBytes.{text_bytes, bytes_after, SectionTexts, texts_if_small, with_texts, new_image, new_image_if_any, decompressed}
use Rattle.addr2line_decompress.specs.WrittenBytes.{ImageBytes, append}

-- further items in front of those that follow
abbrev pub prepend : {A : Type 0} → List A → Result (List A) DecompressError → Result (List A) DecompressError
prepend xs (Ok ys) = Ok (xs ++ ys)
prepend xs (Err e) = Err e

-- an item, and those after it
abbrev pub cons_all : {A : Type 0} → Result A DecompressError → Result (List A) DecompressError
    → Result (List A) DecompressError
cons_all r rest = and_then r (λ x. and_then rest (λ xs. Ok (x ∷ xs)))

pub one_more : {A : Type 0} (xs : List A) (x : A) (rest : Result (List A) DecompressError)
    → prepend xs (cons_all (Ok x) rest) ≡ prepend (xs ++ x ∷ []) rest
one_more {A} xs x (Ok ys) = ap (λ (zs : List A). ok zs) (sym (append_assoc xs (x ∷ []) ys))
  where
    ok : List A → Result (List A) DecompressError
    ok zs = Ok zs
one_more xs x (Err e) = refl

pub item_more : {A : Type 0} (xs : List A) (x : A) (r : Result A DecompressError)
    (rest all : Result (List A) DecompressError) → r ≡ Ok x → prepend xs (cons_all r rest) ≡ all
    → prepend (xs ++ x ∷ []) rest ≡ all
item_more {A} xs x r rest all is so_far =
    sym (one_more xs x rest)
    ∙ ap (λ (q : Result A DecompressError). prepend xs (cons_all q rest)) (sym is) ∙ so_far

pub no_more : {A : Type 0} (xs : List A) (all : Result (List A) DecompressError) → prepend xs (Ok []) ≡ all
    → all ≡ Ok xs
no_more {A} xs all so_far = sym so_far ∙ ap ok (append-nil xs)
  where
    ok : List A → Result (List A) DecompressError
    ok zs = Ok zs

-- a further text, in front of those that are left
pub texts_more : (sections : List Section) (i : ℕ) (s : Section) (texts : List (Option (List ℕ)))
    (t : Option (List ℕ)) (all : Result (List (Option (List ℕ))) DecompressError)
    → drop i sections ≡ s ∷ drop (i + 1) sections → text_if_any i s.change ≡ Ok t
    → prepend texts (texts_from i (drop i sections)) ≡ all
    → prepend (texts ++ t ∷ []) (texts_from (i + 1) (drop (i + 1) sections)) ≡ all
texts_more sections i s texts t all split is so_far =
    item_more texts t (text_if_any i s.change) (texts_from (i + 1) (drop (i + 1) sections)) all is
    (ap (λ (l : List Section). prepend texts (texts_from i l)) (sym split) ∙ so_far)

-- and its bytes after theirs
pub bytes_more : (w old : ImageBytes) (texts : List (Option (List ℕ))) (t : Option (List ℕ)) (new : ImageBytes)
    → w ≡ append (flat_map text_bytes texts) old → new ≡ append (text_bytes t) w
    → new ≡ append (flat_map text_bytes (texts ++ t ∷ [])) old
bytes_more w old texts t new before last =
    last ∙ ap (append (text_bytes t)) before
    ∙ ap (with_bytes old)
    (append_assoc old.bytes (flat_map text_bytes texts) (text_bytes t)
    ∙ ap (λ (l : List ℕ). old.bytes ++ (flat_map text_bytes texts ++ l)) (sym (append-nil (text_bytes t)))
    ∙ ap (λ (l : List ℕ). old.bytes ++ l) (sym (flat_map-append text_bytes texts (t ∷ []))))
  where
    with_bytes : ImageBytes → List ℕ → ImageBytes
    with_bytes o bytes = record { bytes = bytes; class = o.class; is_big = o.is_big }

-- an image that isn't refused is written
pub new_image_is : (which : DebugSections) (table : ImageTable) (names : Option (List ℕ)) (start : ℕ)
    (sections : List Section)
    → refuse_if (nat_lt table.offset (file_header_size table.image.class)) OverlappingHeaders ≡ Ok tt
    → refuse_all_names which table ≡ Ok tt
    → new_names which table.image ≡ names → refuse_new_names table names ≡ Ok tt
    → start ≡ names_start table.image names
    → sections_from which table names 0 start table.image.sections ≡ Ok sections
    → new_image which table ≡ with_texts table sections
new_image_is which table names start sections apart stay names_are fit start_is all =
    ap (λ (r : Result (Unit {0}) DecompressError). and_then (and_then r (λ _.
    and_then (refuse_all_names which table) (λ _. from_names (new_names which table.image)))) bytes_of) apart
    ∙ ap (λ (r : Result (Unit {0}) DecompressError). and_then (and_then r (λ _.
    from_names (new_names which table.image))) bytes_of) stay
    ∙ ap (λ (n : Option (List ℕ)). and_then (from_names n) bytes_of) names_are
    ∙ ap (λ (r : Result (Unit {0}) DecompressError). and_then (and_then r (λ _.
    and_then (sections_from which table names 0 (names_start table.image names) table.image.sections) texts_after))
    bytes_of) fit
    ∙ ap (λ (n : ℕ). and_then
    (and_then (sections_from which table names 0 n table.image.sections) texts_after) bytes_of)
    (sym start_is)
    ∙ ap (λ (r : Result (List Section) DecompressError). and_then (and_then r texts_after) bytes_of) all
    ∙ flatten (texts_if_small table sections)
  where
    texts_after : List Section → Result SectionTexts DecompressError
    texts_after ss = and_then (texts_if_small table ss) (λ ts. Ok (record { sections = ss; texts = ts }))

    from_names : Option (List ℕ) → Result SectionTexts DecompressError
    from_names n = and_then (refuse_new_names table n) (λ _.
        and_then (sections_from which table n 0 (names_start table.image n) table.image.sections) texts_after)

    bytes_of : SectionTexts → Result (List ℕ) DecompressError
    bytes_of found = Ok (bytes_after table found.sections found.texts)

    flatten : (r : Result (List (Option (List ℕ))) DecompressError)
        → and_then (and_then r (λ ts. Ok (record { sections = sections; texts = ts }))) bytes_of
        ≡ and_then r (λ ts. Ok (bytes_after table sections ts))
    flatten (Ok ts) = refl
    flatten (Err e) = refl

-- an element, and those after it
pub split_at : {A : Type 0} (xs : List A) (i : ℕ) (x : A) → i < length xs → x ≡ get_or xs i x
    → drop i xs ≡ x ∷ drop (i + 1) xs
split_at {A} xs i x within is = drop_more xs i x within ∙ ap (λ (y : A). y ∷ drop (i + 1) xs) (sym is)

-- the text of a change
pub text_some : (index : ℕ) (o : Option Change) (c : Change) (t : List ℕ) → o ≡ Some c → text_of index c.content ≡ Ok t
    → text_if_any index o ≡ Ok (Some t)
text_some index o c t is text =
    ap (text_if_any index) is
    ∙ ap (λ (r : Result (List ℕ) DecompressError). and_then r (λ x. Ok (Some x))) text

-- the text of a stream, and bytes as they are
pub stream_text : (index : ℕ) (x : Content) (size : ℕ) (t : List ℕ) → x.text_size ≡ Some size
    → or_stream index (inflated x.bytes size) ≡ Ok t → some_of (text_of index x) ≡ Ok (Some t)
stream_text index x size t is text =
    ap (λ (o : Option ℕ). some_of (text_from index x.bytes o)) is
    ∙ ap (λ (r : Result (List ℕ) DecompressError). some_of r) text

pub plain_text : (index : ℕ) (x : Content) (t : List ℕ) → x.text_size ≡ None → t ≡ x.bytes
    → some_of (text_of index x) ≡ Ok (Some t)
plain_text index x t is same =
    ap (λ (o : Option ℕ). some_of (text_from index x.bytes o)) is ∙ ap ok (sym same)
  where
    ok : List ℕ → Result (Option (List ℕ)) DecompressError
    ok l = Ok (Some l)

-- ---- the bytes after decompression, from those that are written

abbrev bytes_or : List ℕ → Result (Option (List ℕ)) DecompressError → Result (List ℕ) DecompressError
bytes_or file r = and_then r (λ o. Ok (unwrap_or o file))

pub some_bytes : (which : DebugSections) (file : List ℕ) (o : Option (List ℕ)) (bytes after : List ℕ)
    → new_image_if_any which file ≡ Ok o → o ≡ Some bytes → after ≡ bytes → decompressed which file ≡ Ok after
some_bytes which file o bytes after is some same =
    ap (bytes_or file) is ∙ ap (λ (p : Option (List ℕ)). bytes_or file (Ok p)) some
    ∙ ap (λ (l : List ℕ). bytes_or file (Ok (Some l))) (sym same)

pub no_bytes : (which : DebugSections) (file : List ℕ) (o : Option (List ℕ)) → new_image_if_any which file ≡ Ok o
    → o ≡ None → decompressed which file ≡ Ok file
no_bytes which file o is none = ap (bytes_or file) is ∙ ap (λ (p : Option (List ℕ)). bytes_or file (Ok p)) none
