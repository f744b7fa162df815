-- The image of a file after decompression.
use Rattle.std.proofs.Common.{◌≡◌, ℕ, ◌+◌, ◌*◌, ◌<◌, ◌≤◌, ◌&&◌, not, Bool, true, false, cond, eqb, ltb, nat_lt, List, [], ◌∷◌, ◌++◌, length, take, drop, Option, Some, None, unwrap_or, Result, Ok, refl, sym, ap, subst, ◌∙◌, arith, append_assoc}
use Rattle.std.specs.Prelude.{flat_map, sum_by}
use Rattle.std.specs.Option.{is_some}
use Rattle.std.specs.List.{slice_get}
use Rattle.std.proofs.lemmas.Bool.{ltb-false, eq-eqb}
use Rattle.std.proofs.lemmas.List.{length-append, length-take, take-append-drop, drop-drop}
use Rattle.gimli_core_readers.specs.Error.{Error}
use Rattle.gimli_core_readers.specs.View.{View, prefix}
use Rattle.gimli_core_readers.specs.Parsers.{Parser, proceed, skip, value_of}
use Rattle.gimli_core_readers.specs.Repetition.{times}
use Rattle.gimli_core_readers.specs.Results.{◌>>=◌}
use Rattle.gimli_core_readers.proofs.StepParts.{begins}
use Rattle.gimli_lines_write_bytes.specs.BytesAt.{bytes_at}
use Rattle.gimli_lines_write_bytes.proofs.FollowedReads.{Again}
use Rattle.addr2line_elf.specs.declared.class.Class.{Class}
use Rattle.addr2line_elf.specs.declared.class.Class.TheVariants.{Elf32, Elf64}
use Rattle.addr2line_elf.specs.declared.error.LoadError.{LoadError}
use Rattle.addr2line_elf.specs.declared.headers.FileHeader.{FileHeader}
use Rattle.addr2line_elf.specs.declared.headers.SectionHeader.{SectionHeader}
use Rattle.addr2line_elf.specs.ElfClasses.{section_header_size}
use Rattle.addr2line_elf.specs.ElfHeaders.{file_header, section_header, header_at, headers_at}
use Rattle.addr2line_elf.specs.ImageLoading.{or_truncated, read_in}
use Rattle.addr2line_elf.specs.ElfSymbols.{symbol_table}
use Rattle.addr2line_elf.specs.ElfImages.{Image, Identification, identification, Sections, section_count, names_index, contents, contents_of, linked_contents, sections_of, image_of, image_in, image_with_headers}
use Rattle.addr2line_decompress.specs.declared.error.DecompressError.TheVariants.{SectionCut, OverlappingSection, CompressedNames, SharedNames}
use Rattle.addr2line_decompress.specs.declared.sections.DebugSections.{DebugSections}
use Rattle.addr2line_decompress.specs.DecompressResults.{refuse_if}
use Rattle.addr2line_decompress.specs.ImageTables.{ImageTable, file_header_size}
use Rattle.addr2line_decompress.specs.CompressedSections.{text_of, is_flagged, is_compressed, new_name_of, added_names, with_added, new_names, names_start, holds, overlaps, refuse_staying, refuse_names, link_of, refuse_new_names, Section, entry_of}
use Rattle.addr2line_decompress.specs.Compression.{size_of, Change}
use Rattle.addr2line_decompress.specs.DecompressedBytes.{new_size, changed_header, headers_after, table_bytes, text_bytes, size_limit, bytes_after}
use Rattle.addr2line_decompress.proofs.EntryReads.{Determined, determined_file_header, again_skip}
use Rattle.addr2line_decompress.proofs.EntryChanges.{AreBytes, header_of}
use Rattle.addr2line_decompress.proofs.TableReads.{SectionsRead, ok_parts, read_parts, read_first, skipped}
use Rattle.addr2line_decompress.proofs.ContentReads.{contents_in, contents_nobits, Agree, same_part, appended_part}
use Rattle.addr2line_decompress.proofs.SectionsAfter.{SectionsOf, end, stay, change, entry_is, Changes, flagged, renamed, named}
use Rattle.addr2line_decompress.proofs.TablesAfter.{table_again, table_size, stays_again}
use Rattle.addr2line_decompress.proofs.IndexedSections.{AtIndex, missing, stays, changed, same_index, at_index, IsIn, changed_is, AllKept}
use Rattle.addr2line_decompress.proofs.NewNames.{Placed, nothing, placed}
use Rattle.addr2line_decompress.proofs.KeptNames.{test_fails, true_or, or_true, either_false, ok_view_same, ok_text_same, some_same, none_added, none_kept, later_kept, all_named, fits}

-- ---- the start of a file

same_identification : (xs x y : List ℕ) → 6 ≤ length xs → identification (xs ++ x) ≡ identification (xs ++ y)
same_identification (a ∷ b ∷ c ∷ d ∷ e ∷ f ∷ xs) x y long = refl
same_identification [] x y long = absurd (omega arith)
same_identification (a ∷ []) x y long = absurd (omega arith)
same_identification (a ∷ b ∷ []) x y long = absurd (omega arith)
same_identification (a ∷ b ∷ c ∷ []) x y long = absurd (omega arith)
same_identification (a ∷ b ∷ c ∷ d ∷ []) x y long = absurd (omega arith)
same_identification (a ∷ b ∷ c ∷ d ∷ e ∷ []) x y long = absurd (omega arith)

module _ {A : Type 0} (k : ℕ) (p : Parser A) (d : Determined k p) (is_big : Bool) (xs : List ℕ) (long : k ≤ length xs)
  where
    start_size : length (take k xs) ≡ k
    start_size = omega (arith, length-take k xs)

    start_reads : (x : List ℕ) → read_in (bytes_at is_big 0 (xs ++ x)) p
        ≡ Ok (d.reads is_big 0 (take k xs) start_size).0
    start_reads x =
        ap (λ (l : List ℕ). or_truncated (value_of (p (bytes_at is_big 0 l))))
        (sym (ap (λ (l : List ℕ). l ++ x) (take-append-drop k xs)) ∙ append_assoc (take k xs) (drop k xs) x)
        ∙ ap (λ (r : Result (A × View) Error). or_truncated (value_of r))
        ((d.reads is_big 0 (take k xs) start_size).1.again (drop k xs ++ x))

    pub same_start : (x y : List ℕ) → read_in (bytes_at is_big 0 (xs ++ x)) p ≡ read_in (bytes_at is_big 0 (xs ++ y)) p
    same_start x y = start_reads x ∙ sym (start_reads y)

-- ---- the file

module _ (which : DebugSections) (class : Class) (is_big : Bool) (file : List ℕ) (file_type : ℕ)
    (headers : List SectionHeader) (names : View) (header : FileHeader) (first : SectionHeader)
    (fresh : Option (List ℕ)) (sections : List Section) (texts : List (Option (List ℕ))) where
  abbrev pub view : View
  view = bytes_at is_big 0 file

  abbrev pub before : Image
  before = record { file = view; class = class; file_type = file_type; sections = headers; names = names }

  abbrev pub table : ImageTable
  table = record { image = before; offset = header.table_offset; names_index = names_index header first }

  abbrev pub file_after : List ℕ
  file_after = bytes_after table sections texts

  abbrev pub view_after : View
  view_after = bytes_at is_big 0 file_after

  abbrev pub new_headers : List SectionHeader
  new_headers = headers_after (length file) sections

  -- all names
  abbrev pub all_names : List ℕ
  all_names = unwrap_or fresh names.bytes

  abbrev names_at : ℕ
  names_at = names_index header first

  abbrev start : ℕ
  start = header.table_offset

  abbrev table_len : ℕ
  table_len = length headers * section_header_size class

  abbrev front : List ℕ
  front = take start file

  abbrev old : List ℕ
  old = take table_len (drop start file)

  abbrev new : List ℕ
  new = table_bytes class is_big (length file) sections

  abbrev back : List ℕ
  back = drop (start + table_len) file

  abbrev more : List ℕ
  more = flat_map text_bytes texts

  -- what is known of it
  pub record Known : Type 0 where
    pub identified : identification file ≡ Ok (record { class = class; is_big = is_big })
    pub header_is : read_in view (file_header class) ≡ Ok header
    pub type_is : header.file_type ≡ file_type
    pub first_is : read_in view (header_at class start) ≡ Ok first
    pub read : SectionsRead class is_big file header first (record { headers = headers; names = names })
    pub apart : file_header_size class ≤ start
    pub fresh_are : new_names which before ≡ fresh
    pub names_stay : refuse_names which before names_at (slice_get headers names_at) ≡ Ok tt
    pub fit : refuse_new_names table fresh ≡ Ok tt
    pub all : SectionsOf which table fresh 0 (names_start before fresh) headers sections texts
    pub room : length file + sum_by (λ (s : Section). new_size s.change) sections < size_limit class
    pub are_bytes : AreBytes file

  module _ (k : Known) where
    -- ---- its parts

    front_size : length front ≡ start
    front_size = let h = k.read.in_file in omega (arith, length-take start file)

    table_room : table_len ≤ length (drop start file)
    table_room =
        subst (λ (n : ℕ). n * section_header_size class ≤ length (drop start file)) (sym k.read.read.count)
        k.read.read.room

    old_size : length old ≡ table_len
    old_size = let h = table_room in omega (arith, length-take table_len (drop start file))

    new_length : length new ≡ table_len
    new_length = table_size table k.are_bytes which fresh 0 (names_start before fresh) headers sections texts
        (length file) k.all

    file_is : file ≡ front ++ (old ++ back)
    file_is =
        sym (take-append-drop start file)
        ∙ ap (λ (l : List ℕ). front ++ l)
        (sym (take-append-drop table_len (drop start file))
        ∙ ap (λ (l : List ℕ). old ++ l) (drop-drop table_len start file))

    agree : Agree file file_after start (start + table_len)
    agree = record {
      front = front;
      old = old;
      new = new;
      back = back;
      more = more;
      old_is = file_is;
      new_is = refl;
      start_is = front_size;
      old_end = let h = front_size in let i = old_size in omega arith;
      new_end = let h = front_size in let i = new_length in omega arith;
    }

    -- the bytes before the texts
    texts_at : file_after ≡ (front ++ (new ++ back)) ++ more
    texts_at =
        sym (append_assoc front (new ++ back) more ∙ ap (λ (l : List ℕ). front ++ l) (append_assoc new back more))

    whole_size : length (front ++ (new ++ back)) ≡ length file
    whole_size =
        let a = front_size in
        let b = old_size in
        let c = new_length in
        let d = ap length file_is in
        omega (
          arith,
          length-append front (new ++ back),
          length-append new back,
          length-append front (old ++ back),
          length-append old back,
        )

    longer : length file ≤ length file_after
    longer =
        let a = whole_size in
        let b = ap length texts_at in
        omega (arith, length-append (front ++ (new ++ back)) more)

    -- ---- the section of an index

    pub section_of_index : (i : ℕ)
        → AtIndex which table fresh file_after i (slice_get headers i) (slice_get new_headers i) (slice_get texts i)
    section_of_index i =
        same_index which table fresh file_after (0 + i) i _ _ _ (omega arith)
        (at_index which table fresh file_after (front ++ (new ++ back)) 0
        (names_start before fresh) headers sections texts
        (length file) k.all texts_at whole_size i)

    -- ---- the bytes of a section that stays

    in_file_same : (h : SectionHeader) (i : ℕ) → eqb h.section_type 8 ≡ false
        → (refuse_if (nat_lt (length file) (h.offset + h.size)) (SectionCut i) >>= λ x.
        refuse_if (overlaps table h) (OverlappingSection i)) ≡ Ok tt
        → contents h view_after ≡ contents h view
    in_file_same h i some is =
        let a = ok_parts (refuse_if (nat_lt (length file) (h.offset + h.size)) (SectionCut i)) _ tt is in
        let within : h.offset + h.size ≤ length file =
        ltb-false (length file) (h.offset + h.size) (test_fails _ (SectionCut i) a.1) in
        let apart = test_fails (overlaps table h) (OverlappingSection i) a.2 in
        let parts = same_part file file_after start (start + table_len) h.offset h.size agree within in
        let same : take h.size (drop h.offset file_after) ≡ take h.size (drop h.offset file) =
        either_false (ltb start (h.offset + h.size)) (ltb h.offset (start + table_len)) _ apart parts.0 parts.1 in
        let long = longer in
        let within_after : h.offset + h.size ≤ length file_after = omega arith in
        contents_in is_big file_after h some within_after
        ∙ ap (λ (l : List ℕ). ok (bytes_at is_big (0 + h.offset) l)) same
        ∙ sym (contents_in is_big file h some within)
      where
        ok : View → Result View LoadError
        ok v = Ok v

    pub contents_same : (i : ℕ) (h : SectionHeader) → refuse_staying table i h ≡ Ok tt
        → contents h view_after ≡ contents h view
    contents_same i h is = cases (eqb h.section_type 8) refl is
      where
        cases : (b : Bool) → eqb h.section_type 8 ≡ b
            → cond b (Ok tt) (refuse_if (nat_lt (length file) (h.offset + h.size)) (SectionCut i) >>= λ x.
            refuse_if (overlaps table h) (OverlappingSection i)) ≡ Ok tt
            → contents h view_after ≡ contents h view
        cases true b x = contents_nobits is_big file_after file h b
        cases false b x = in_file_same h i b x

    -- ---- the bytes of a section that changes

    pub contents_changed : (i at : ℕ) (h : SectionHeader) (c : Change) (t : List ℕ) (offset : ℕ)
        → Changes which table fresh i at h c → length t ≡ size_of c.content → IsIn file_after offset t
        → contents (changed_header h offset (Some c)) view_after ≡ Ok (bytes_at is_big (0 + offset) t)
    contents_changed i at h c t offset ch size place =
        let g = changed_header h offset (Some c) in
        let some = (changed_is which table fresh i at h c ch).plain.no_nobits in
        let long = ap length place.whole in
        let within : offset + size_of c.content ≤ length file_after =
        ends offset (size_of c.content) (length place.before) (length t) (length place.after)
        (length file_after) place.place
        size (long ∙ length-append place.before (t ++ place.after)
        ∙ ap (λ (n : ℕ). length place.before + n) (length-append t place.after)) in
        let part : take (size_of c.content) (drop offset file_after) ≡ t =
        ap (λ (l : List ℕ). take (size_of c.content) (drop offset l)) place.whole
        ∙ appended_part place.before t place.after offset (size_of c.content) place.place size in
        contents_in is_big file_after g some within ∙ ap (λ (l : List ℕ). ok (bytes_at is_big (0 + offset) l)) part
      where
        ok : View → Result View LoadError
        ok v = Ok v

        ends : (o s b u a n : ℕ) → b ≡ o → u ≡ s → n ≡ b + (u + a) → o + s ≤ n
        ends o s b u a n p q r = omega arith

    -- ---- sections that hold names

    -- a section that isn't compressed, and doesn't get new names
    not_changed : (i at : ℕ) (h : SectionHeader) (c : Change) → Changes which table fresh i at h c
        → refuse_names which before i (Some h) ≡ Ok tt → holds names_at i fresh ≡ false → ⊥
    not_changed i at h c (flagged x is none) stays_is apart =
        let yes : true ≡ false =
        sym (true_or (is_flagged which before i h) (is_some (new_name_of which before i h)) is)
        ∙ test_fails (is_compressed which before i h) (CompressedNames i) stays_is in
        absurd cc
    not_changed i at h c (renamed x n new) stays_is apart =
        let yes : true ≡ false =
        sym (or_true (is_flagged which before i h) (is_some (new_name_of which before i h))
        (ap (λ (o : Option (List ℕ)). is_some o) new))
        ∙ test_fails (is_compressed which before i h) (CompressedNames i) stays_is in
        absurd cc
    not_changed i at h c (named n some is other none) stays_is apart =
        let yes : true ≡ false = sym is ∙ apart in absurd cc

    names_of_index : (i : ℕ) (a b : Option SectionHeader) (t : Option (Option (List ℕ)))
        → AtIndex which table fresh file_after i a b t → refuse_names which before i a ≡ Ok tt
        → holds names_at i fresh ≡ false → contents_of b view_after ≡ contents_of a view
    names_of_index i a b t missing is apart = refl
    names_of_index i a b t (stays h s) is apart = contents_same i h s.stays
    names_of_index i a b t (changed at h c u offset ch text place) is apart =
        absurd (not_changed i at h c ch is apart)

    pub linked_same : (i : ℕ) → refuse_names which before i (slice_get headers i) ≡ Ok tt
        → holds names_at i fresh ≡ false
        → linked_contents i new_headers view_after ≡ linked_contents i headers view
    linked_same i is apart =
        ap (λ (r : Result View LoadError). cond (eqb i 0) (Ok (prefix 0 view)) r)
        (names_of_index i _ _ _ (section_of_index i) is apart)

    -- the names after decompression
    pub record NamesNow (all : List ℕ) : Type 0 where
      pub view_now : View
      pub linked : linked_contents names_at new_headers view_after ≡ Ok view_now
      pub bytes : view_now.bytes ≡ all

    -- the section of new names isn't that at index 0, without names
    has_names : (n : List ℕ) → fresh ≡ Some n → eqb names_at 0 ≡ false
    has_names n some = of (eqb names_at 0) refl
      where
        of : (b : Bool) → eqb names_at 0 ≡ b → b ≡ false
        of false h = refl
        of true h =
            let empty_is : prefix 0 view ≡ names = ok_view_same (prefix 0 view) names
            (sym (ap (λ (t : Bool). cond t (Ok (prefix 0 view)) (contents_of (slice_get headers names_at) view)) h)
            ∙ k.read.names) in
            let none : added_names which before 0 headers ≡ [] =
            none_added which before (sym (ap (λ (v : View). v.bytes) empty_is)) 0 headers in
            let both : None ≡ Some n = ap (with_added names.bytes) (sym none) ∙ k.fresh_are ∙ some in
            absurd cc

    names_changed : (n : List ℕ) → fresh ≡ Some n → (a b : Option SectionHeader) (t : Option (Option (List ℕ)))
        → AtIndex which table fresh file_after names_at a b t → refuse_names which before names_at a ≡ Ok tt
        → contents_of a view ≡ Ok names
        → (v : View) × (contents_of b view_after ≡ Ok v) × (v.bytes ≡ n)
    names_changed n some a b t missing is read = let no : contents_of None view ≡ Ok names = read in absurd cc
    names_changed n some a b t (stays h s) is read =
        let yes : true ≡ false =
        sym (ap (λ (t : Bool). not t && eqb names_at names_at) (has_names n some)
        ∙ eq-eqb names_at names_at refl) ∙ sym (ap (holds names_at names_at) some) ∙ s.other in
        absurd cc
    names_changed n some a b t (changed at h c u offset ch text place) is read = (
      bytes_at is_big (0 + offset) u,
      contents_changed names_at at h c u offset ch text.size place,
      text_is c ch text.text,
    )
      where
        text_is : (c : Change) → Changes which table fresh names_at at h c → text_of names_at c.content ≡ Ok u → u ≡ n
        text_is c (flagged x f none) has =
            let yes : true ≡ false =
            sym (true_or (is_flagged which before names_at h) (is_some (new_name_of which before names_at h)) f)
            ∙ test_fails (is_compressed which before names_at h) (CompressedNames names_at) is in
            absurd cc
        text_is c (renamed x m new) has =
            let yes : true ≡ false =
            sym (or_true (is_flagged which before names_at h) (is_some (new_name_of which before names_at h))
            (ap (λ (o : Option (List ℕ)). is_some o) new))
            ∙ test_fails (is_compressed which before names_at h) (CompressedNames names_at) is in
            absurd cc
        text_is c (named m m_is f other none) has =
            let same : m ≡ u = ok_text_same m u has in
            let names_are : Some m ≡ Some n = sym m_is ∙ some in
            sym same ∙ some_same m n names_are

    pub names_now : NamesNow all_names
    names_now = of fresh refl
      where
        of : (o : Option (List ℕ)) → fresh ≡ o → NamesNow (unwrap_or o names.bytes)
        of None none =
            record {
              view_now = names;
              linked = linked_same names_at k.names_stay (ap (holds names_at names_at) none) ∙ k.read.names;
              bytes = refl;
            }
        of (Some n) some =
            let later = has_names n some in
            let read : contents_of (slice_get headers names_at) view ≡ Ok names =
            sym (ap (λ (t : Bool). cond t (Ok (prefix 0 view)) (contents_of (slice_get headers names_at) view)) later)
            ∙ k.read.names in
            let r = names_changed n some _ _ _ (section_of_index names_at) k.names_stay read in
            record {
              view_now = r.0;
              linked = ap (λ (t : Bool). cond t (Ok (prefix 0 view))
                  (contents_of (slice_get new_headers names_at) view_after))
                  later ∙ r.1;
              bytes = r.2;
            }

    abbrev pub after : Image
    after = record {
      file = view_after;
      class = class;
      file_type = header.file_type;
      sections = new_headers;
      names = names_now.view_now;
    }

    pub names_bytes : after.names.bytes ≡ all_names
    names_bytes = names_now.bytes

    -- ---- where new names are, and that the old ones stay

    pub names_placed : Placed all_names (names_start before fresh) (added_names which before 0 headers)
    names_placed = of fresh (added_names which before 0 headers) k.fresh_are k.fit
      where
        of : (o : Option (List ℕ)) (added : List ℕ) → with_added names.bytes added ≡ o
            → refuse_new_names table o ≡ Ok tt → Placed (unwrap_or o names.bytes) (names_start before o) added
        of None [] is fit = nothing refl
        of None (b ∷ bs) is fit = absurd cc
        of (Some n) [] is fit = absurd cc
        of (Some n) (b ∷ bs) is fit =
            let whole : names.bytes ++ b ∷ bs ≡ n = some_same (names.bytes ++ b ∷ bs) n is in
            placed names.bytes (sym whole) refl (fits table n fit)

    pub names_kept : AllKept all_names before (drop 1 headers)
    names_kept = of fresh (added_names which before 0 headers) k.fresh_are k.fit
      where
        of : (o : Option (List ℕ)) (added : List ℕ) → with_added names.bytes added ≡ o
            → refuse_new_names table o ≡ Ok tt → AllKept (unwrap_or o names.bytes) before (drop 1 headers)
        of None added is fit = none_kept before (drop 1 headers)
        of (Some n) [] is fit = absurd cc
        of (Some n) (b ∷ bs) is fit =
            let whole : names.bytes ++ b ∷ bs ≡ n = some_same (names.bytes ++ b ∷ bs) n is in
            subst (λ (l : List ℕ). AllKept l before (drop 1 headers)) whole
            (later_kept before (b ∷ bs) headers (all_named table n fit))

    -- new names aren't in the section of the symbols' names
    pub symbols_apart : holds names_at (link_of (symbol_table headers)) fresh ≡ false
    symbols_apart = of fresh k.fit
      where
        of : (o : Option (List ℕ)) → refuse_new_names table o ≡ Ok tt
            → holds names_at (link_of (symbol_table headers)) o ≡ false
        of None fit = refl
        of (Some n) fit =
            let link = link_of (symbol_table headers) in
            let a = ok_parts (refuse_if (eqb link names_at) (SharedNames names_at)) _ tt fit in
            ap (λ (t : Bool). not (eqb link 0) && t) (test_fails (eqb link names_at) (SharedNames names_at) a.1)
            ∙ and_false (not (eqb link 0))
          where
            and_false : (b : Bool) → (b && false) ≡ false
            and_false true = refl
            and_false false = refl

    -- ---- the headers

    front_skipped : (rest : List ℕ)
        → skip start (bytes_at is_big 0 (front ++ rest)) ≡ Ok (tt, bytes_at is_big (0 + length front) rest)
    front_skipped rest = (again_skip is_big 0 start front front_size).again rest

    table_reads : Again is_big (0 + length front) (times (length headers) (section_header class)) new_headers new
    table_reads =
        table_again table k.are_bytes which fresh all_names 0 (names_start before fresh) headers sections texts
        (length file)
        (0 + length front) k.all names_placed k.room

    headers_are : read_in view_after (headers_at class start (length headers)) ≡ Ok new_headers
    headers_are =
        ap (λ (r : Result (Unit {0} × View) Error).
        or_truncated (value_of (proceed r (λ _. times (length headers) (section_header class)))))
        (front_skipped (new ++ (back ++ more)))
        ∙ ap (λ (r : Result (List SectionHeader × View) Error). or_truncated (value_of r))
        (table_reads.again (back ++ more))

    -- the first header stays, since the section at index 0 is skipped
    first_of : (at_name : ℕ) (hs : List SectionHeader) (ss : List Section) (ts : List (Option (List ℕ)))
        → SectionsOf which table fresh 0 at_name hs ss ts → (h : SectionHeader) (rest : List SectionHeader)
        → hs ≡ h ∷ rest
        → entry_is table 0 h × ((at : ℕ) (last : List ℕ) → (v : View)
        × (section_header class (bytes_at is_big at (table_bytes class is_big (length file) ss ++ last)) ≡ Ok (h, v)))
    first_of at_name hs ss ts (end _ _) h rest is = absurd cc
    first_of at_name hs ss ts (stay _ _ g gs ss' ts' e s others) h rest is =
        let same : g ≡ h = cc in
        subst (λ (x : SectionHeader). entry_is table 0 x × ((at : ℕ) (last : List ℕ) → (v : View)
        × (section_header class (bytes_at is_big at
        ((entry_of table 0 ++ table_bytes class is_big (length file + 0) ss') ++ last)) ≡ Ok (x, v)))) same (
          e,
          λ at last.
              let entry = entry_of table 0 in
              let table_rest = table_bytes class is_big (length file + 0) ss' in (
                bytes_at is_big (at + length entry) (table_rest ++ last),
                ap (λ (l : List ℕ). section_header class (bytes_at is_big at l)) (append_assoc entry table_rest last)
                    ∙ (stays_again table k.are_bytes 0 g at e).again (table_rest ++ last),
              ),
        )
    first_of at_name hs ss ts (change _ _ g gs ss' ts' c t e ch text others) h rest is =
        let yes : true ≡ false = (changed_is which table fresh 0 at_name g c ch).later in absurd cc

    module _ (h : SectionHeader) (rest : List SectionHeader) (some : headers ≡ h ∷ rest) where
      first_is_first : h ≡ first
      first_is_first =
          let e = (first_of _ headers sections texts k.all h rest some).0 in
          let a = read_parts (header_at class start view) first k.first_is in
          let b = begins (skip start view) (λ _. section_header class) first a.0 a.1 in
          let v = skipped is_big file start b.1 b.2 in
          let n = section_header_size class in
          let c = read_first class is_big (0 + start) (drop start file) first a.0
          (ap (section_header class) (sym v.1) ∙ b.3) in
          let at_start : start + 0 * n ≡ start = omega arith in
          e.header ∙ ap (λ (m : ℕ). header_of class is_big (take n (drop m file))) at_start ∙ sym c.entry.header

      first_again : read_in view_after (header_at class start) ≡ Ok first
      first_again =
          let f = (first_of _ headers sections texts k.all h rest some).1 (0 + length front) (back ++ more) in
          ap (λ (r : Result (Unit {0} × View) Error). or_truncated (value_of (proceed r (λ _. section_header class))))
          (front_skipped (new ++ (back ++ more)))
          ∙ ap (λ (r : Result (SectionHeader × View) Error). or_truncated (value_of r)) f.1
          ∙ ap ok first_is_first
        where
          ok : SectionHeader → Result SectionHeader LoadError
          ok x = Ok x

      -- ---- the image

      header_again : read_in view_after (file_header class) ≡ Ok header
      header_again =
          let long : file_header_size class ≤ length front = let a = front_size in let b = k.apart in omega arith in
          same_start (file_header_size class) (file_header class) (determined_file_header class) is_big front long
          (new ++ (back ++ more)) (old ++ back)
          ∙ ap (λ (l : List ℕ). read_in (bytes_at is_big 0 l) (file_header class)) (sym file_is) ∙ k.header_is

      identified_again : identification file_after ≡ Ok (record { class = class; is_big = is_big })
      identified_again =
          let long : 6 ≤ length front = six class start _ k.apart front_size in
          same_identification front (new ++ (back ++ more)) (old ++ back) long
          ∙ ap identification (sym file_is) ∙ k.identified
        where
          six : (c : Class) (n m : ℕ) → file_header_size c ≤ n → m ≡ n → 6 ≤ m
          six Elf32 n m a b = omega arith
          six Elf64 n m a b = omega arith

      abbrev found : List SectionHeader → View → Result Sections LoadError
      found hs n = Ok (record { headers = hs; names = n })

      table_after : (read_in view_after (header_at class start) >>= λ f.
          read_in view_after (headers_at class start (section_count header f)) >>= λ hs.
          linked_contents (names_index header f) hs view_after >>= λ n. found hs n)
          ≡ found new_headers names_now.view_now
      table_after =
          ap (λ (r : Result SectionHeader LoadError). r >>= λ f.
          read_in view_after (headers_at class start (section_count header f)) >>= λ hs.
          linked_contents (names_index header f) hs view_after >>= λ n. found hs n) first_again
          ∙ ap (λ (n : ℕ). read_in view_after (headers_at class start n) >>= λ hs.
          linked_contents (names_index header first) hs view_after >>= λ m. found hs m) (sym k.read.read.count)
          ∙ ap (λ (r : Result (List SectionHeader) LoadError). r >>= λ hs.
          linked_contents (names_index header first) hs view_after >>= λ m. found hs m) headers_are
          ∙ ap (λ (r : Result View LoadError). r >>= λ m. found new_headers m) names_now.linked

      sections_after : sections_of class header view_after ≡ found new_headers names_now.view_now
      sections_after = rw k.read.some (rw k.read.sized table_after)

      pub image_is : image_of file_after ≡ Ok after
      image_is =
          ap (λ (r : Result Identification LoadError). r >>= λ id. image_in id.class (bytes_at id.is_big 0 file_after))
          identified_again
          ∙ ap (λ (r : Result FileHeader LoadError). r >>= λ f. of_sections f (sections_of class f view_after))
          header_again
          ∙ ap (of_sections header) sections_after
        where
          of_sections : FileHeader → Result Sections LoadError → Result Image LoadError
          of_sections f r = r >>= λ s. Ok (image_with_headers class view_after f s)
