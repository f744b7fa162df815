-- The sections of an image with what changes of them and their texts, and their headers after decompression.
use Rattle.std.proofs.Common.{◌≡◌, ℕ, ◌+◌, ◌*◌, ◌||◌, Bool, true, false, cond, List, [], ◌∷◌, length, take, drop, Option, Some, None, option_map, Result, Ok, Err, refl, sym, ap, subst, ◌∙◌, arith}
use Rattle.std.specs.Prelude.{bit_xor}
use Rattle.std.specs.Option.{is_some}
use Rattle.std.proofs.lemmas.List.{drop-drop}
use Rattle.gimli_core_readers.specs.View.{View}
use Rattle.gimli_core_readers.specs.Results.{◌>>=◌, some_of}
use Rattle.addr2line_elf.specs.declared.class.Class.{Class}
use Rattle.addr2line_elf.specs.declared.class.Class.TheVariants.{Elf32, Elf64}
use Rattle.addr2line_elf.specs.declared.headers.SectionHeader.{SectionHeader}
use Rattle.addr2line_elf.specs.ElfClasses.{section_header_size}
use Rattle.addr2line_elf.specs.ElfImages.{contents}
use Rattle.addr2line_inflate.specs.declared.error.InflateError.{InflateError}
use Rattle.addr2line_inflate.specs.Streams.{inflated}
use Rattle.addr2line_decompress.specs.declared.error.DecompressError.{DecompressError}
use Rattle.addr2line_decompress.specs.declared.error.DecompressError.TheVariants.{SharedNames}
use Rattle.addr2line_decompress.specs.declared.sections.DebugSections.{DebugSections}
use Rattle.addr2line_decompress.specs.Compression.{Content, size_or, size_of, Change}
use Rattle.addr2line_decompress.specs.DecompressResults.{refuse_if, or_image, or_stream}
use Rattle.addr2line_decompress.specs.ImageTables.{ImageTable, file_bytes}
use Rattle.addr2line_decompress.specs.CompressedSections.{is_flagged, is_compressed, new_name_of, ended, holds, refuse_staying, Section, entry_of, stream_of, old_content, text_from, text_of, flagged_change, old_change, is_fixed, names_change, other_change, section_change, section_of, sections_from, text_if_any, texts_from}
use Rattle.addr2line_decompress.proofs.InflatedSizes.{inflated_size}
use Rattle.addr2line_decompress.proofs.TableReads.{IsEntry, Entries, next, ok_parts}
use Rattle.addr2line_decompress.proofs.NewNames.{no_new_name}

-- ---- sections, each of which stays or changes

abbrev pub entry_is : ImageTable → ℕ → SectionHeader → Type 0
entry_is table i h = IsEntry table.image.class table.image.file.is_big h (entry_of table i)

abbrev pub section_with : ImageTable → ℕ → SectionHeader → Option Change → Section
section_with table i h o = record { header = h; entry = entry_of table i; change = o }

-- where the next new name begins
abbrev pub next_name : DebugSections → ImageTable → ℕ → ℕ → SectionHeader → ℕ
next_name which table i at h = at + length (ended (new_name_of which table.image i h))

pub record Stays (which : DebugSections) (table : ImageTable) (names : Option (List ℕ)) (i : ℕ) (h : SectionHeader)
    : Type 0 where
  pub plain : is_compressed which table.image i h ≡ false
  pub unnamed : new_name_of which table.image i h ≡ None
  pub other : holds table.names_index i names ≡ false
  pub stays : refuse_staying table i h ≡ Ok tt

pub data Changes (which : DebugSections) (table : ImageTable) (names : Option (List ℕ)) (i at : ℕ) (h : SectionHeader)
    : Change → Type 0 where
  flagged : (x : Content) → is_flagged which table.image i h ≡ true → new_name_of which table.image i h ≡ None
      → Changes which table names i at h (record { name = h.name; flags = bit_xor h.flags 0x800; content = x })
  renamed : (x : Content) (n : List ℕ) → new_name_of which table.image i h ≡ Some n
      → Changes which table names i at h (record { name = at; flags = h.flags; content = x })
  named : (n : List ℕ) → names ≡ Some n → holds table.names_index i names ≡ true → is_fixed h ≡ false
      → new_name_of which table.image i h ≡ None → Changes which table names i at h (names_change n h)

-- a change has a text
pub record HasText (i : ℕ) (c : Change) (t : List ℕ) : Type 0 where
  pub text : text_of i c.content ≡ Ok t
  pub size : length t ≡ size_of c.content

pub data SectionsOf (which : DebugSections) (table : ImageTable) (names : Option (List ℕ)) : ℕ → ℕ → List SectionHeader
    → List Section → List (Option (List ℕ)) → Type 0 where
  end : (i at : ℕ) → SectionsOf which table names i at [] [] []
  stay : (i at : ℕ) (h : SectionHeader) (hs : List SectionHeader) (ss : List Section) (ts : List (Option (List ℕ)))
      → entry_is table i h → Stays which table names i h
      → SectionsOf which table names (i + 1) (next_name which table i at h) hs ss ts
      → SectionsOf which table names i at (h ∷ hs) (section_with table i h None ∷ ss) (None ∷ ts)
  change : (i at : ℕ) (h : SectionHeader) (hs : List SectionHeader) (ss : List Section) (ts : List (Option (List ℕ)))
      (c : Change) (t : List ℕ) → entry_is table i h → Changes which table names i at h c → HasText i c t
      → SectionsOf which table names (i + 1) (next_name which table i at h) hs ss ts
      → SectionsOf which table names i at (h ∷ hs) (section_with table i h (Some c) ∷ ss) (Some t ∷ ts)

entries_head : (class : Class) (is_big : Bool) (h : SectionHeader) (hs : List SectionHeader) (xs : List ℕ)
    → Entries class is_big (h ∷ hs) xs
    → IsEntry class is_big h (take (section_header_size class) xs)
    × Entries class is_big hs (drop (section_header_size class) xs)
entries_head class is_big h hs xs (next _ _ _ e rest) = (e, rest)

-- the value of one result
abbrev ok : {A : Type 0} → A → Result A DecompressError
ok x = Ok x

ok_same : {A : Type 0} (x y : A) → ok x ≡ ok y → x ≡ y
ok_same x y is = cc

stream_parts : {A : Type 0} (i : ℕ) (r : Result A InflateError) (x : A) → or_stream i r ≡ Ok x → r ≡ Ok x
stream_parts i (Ok y) x is = cc
stream_parts i (Err e) x is = absurd cc

test_fails : (b : Bool) (e : DecompressError) → refuse_if b e ≡ Ok tt → b ≡ false
test_fails true e is = absurd cc
test_fails false e is = refl

text_size : (i : ℕ) (bytes : List ℕ) (o : Option ℕ) (t : List ℕ) → text_from i bytes o ≡ Ok t
    → length t ≡ size_or o (length bytes)
text_size i bytes None t is = let same : bytes ≡ t = ok_same bytes t is in ap length (sym same)
text_size i bytes (Some size) t is = inflated_size bytes size t (stream_parts i (inflated bytes size) t is)

-- the names of an index that holds some
holds_some : (names : Option (List ℕ)) (k i : ℕ) → holds k i names ≡ true → (n : List ℕ) × (names ≡ Some n)
holds_some None k i is = absurd cc
holds_some (Some n) k i is = (n, refl)

-- what a section is
data OneOf (which : DebugSections) (table : ImageTable) (names : Option (List ℕ)) (i at : ℕ) (h : SectionHeader)
    : Option Change → Option (List ℕ) → Type 0 where
  stays : Stays which table names i h → OneOf which table names i at h None None
  changes : (c : Change) (t : List ℕ) → Changes which table names i at h c → HasText i c t
      → OneOf which table names i at h (Some c) (Some t)

module _ (which : DebugSections) (table : ImageTable) (names : Option (List ℕ)) (i at : ℕ) (h : SectionHeader) where
  of_change : (c : Change) (o : Option Change) (t : Option (List ℕ)) → Changes which table names i at h c
      → Some c ≡ o → text_if_any i o ≡ Ok t → OneOf which table names i at h o t
  of_change c o t ch same is =
      let now : text_if_any i (Some c) ≡ Ok t = ap (text_if_any i) same ∙ is in
      let a = ok_parts (text_of i c.content) _ t now in
      let text_is : Some a.0 ≡ t = ok_same (Some a.0) t a.2 in
      let text : HasText i c a.0 = record {
        text = a.1;
        size = text_size i c.content.bytes c.content.text_size a.0 a.1;
      } in
      subst (λ (p : Option Change). OneOf which table names i at h p t) same
      (subst (λ (p : Option (List ℕ)). OneOf which table names i at h (Some c) p) text_is (changes c a.0 ch text))

  of_none : (o : Option Change) (t : Option (List ℕ)) → Stays which table names i h → None ≡ o
      → text_if_any i o ≡ Ok t → OneOf which table names i at h o t
  of_none o t s same is =
      let now : text_if_any i None ≡ Ok t = ap (text_if_any i) same ∙ is in
      let text_is : None ≡ t = ok_same None t now in
      subst (λ (p : Option Change). OneOf which table names i at h p t) same
      (subst (λ (p : Option (List ℕ)). OneOf which table names i at h None p) text_is (stays s))

  flagged_is : (c : Change) → is_flagged which table.image i h ≡ true → new_name_of which table.image i h ≡ None
      → flagged_change table i h ≡ Ok c → Changes which table names i at h c
  flagged_is c b none is =
      let p = ok_parts (or_image (contents h table.image.file)) _ c is in
      let q = ok_parts (stream_of i table.image.class p.0) _ c p.2 in
      let same : (record { name = h.name; flags = bit_xor h.flags 0x800; content = q.0 }) ≡ c = ok_same _ c q.2 in
      subst (λ (d : Change). Changes which table names i at h d) same (flagged q.0 b none)

  renamed_is : (c : Change) (n : List ℕ) → new_name_of which table.image i h ≡ Some n → old_change table i at h ≡ Ok c
      → Changes which table names i at h c
  renamed_is c n new is =
      let p = ok_parts (or_image (contents h table.image.file)) _ c is in
      let q = ok_parts (old_content i p.0.bytes) _ c p.2 in
      let same : (record { name = at; flags = h.flags; content = q.0 }) ≡ c = ok_same _ c q.2 in
      subst (λ (d : Change). Changes which table names i at h d) same (renamed q.0 n new)

  of_other : (o : Option Change) (t : Option (List ℕ)) → is_flagged which table.image i h ≡ false
      → new_name_of which table.image i h ≡ None → other_change table names i h ≡ Ok o → text_if_any i o ≡ Ok t
      → OneOf which table names i at h o t
  of_other o t plain none is text = cases (holds table.names_index i names) refl is
    where
      cases : (b : Bool) → holds table.names_index i names ≡ b
          → cond b (refuse_if (is_fixed h) (SharedNames i) >>= λ x. Ok (option_map (λ n. names_change n h) names))
          (refuse_staying table i h >>= λ x. Ok None) ≡ Ok o → OneOf which table names i at h o t
      cases true b k =
          let n = holds_some names table.names_index i b in
          let p = ok_parts (refuse_if (is_fixed h) (SharedNames i)) _ o k in
          let same : option_map (λ m. names_change m h) names ≡ o =
          ok_same (option_map (λ m. names_change m h) names) o p.2 in
          of_change (names_change n.0 h) o t (named n.0 n.1 b (test_fails (is_fixed h) (SharedNames i) p.1) none)
          (ap (option_map (λ m. names_change m h)) (sym n.1) ∙ same) text
      cases false b k =
          let p = ok_parts (refuse_staying table i h) _ o k in
          let same : None ≡ o = ok_same None o p.2 in
          of_none o t
          (record {
            plain = ap (λ (f : Bool). f || is_some (new_name_of which table.image i h)) plain
                ∙ ap (λ (m : Option (List ℕ)). is_some m) none;
            unnamed = none;
            other = b;
            stays = p.1;
          }) same text

  of_unflagged : (o : Option Change) (t : Option (List ℕ)) → is_flagged which table.image i h ≡ false
      → (m : Option (List ℕ)) → new_name_of which table.image i h ≡ m
      → cond (is_some m) (some_of (old_change table i at h)) (other_change table names i h) ≡ Ok o
      → text_if_any i o ≡ Ok t → OneOf which table names i at h o t
  of_unflagged o t plain None none is text = of_other o t plain none is text
  of_unflagged o t plain (Some n) new is text =
      let p = ok_parts (old_change table i at h) (λ x. Ok (Some x)) o is in
      of_change p.0 o t (renamed_is p.0 n new p.1) (ok_same (Some p.0) o p.2) text

  of_option : (o : Option Change) (t : Option (List ℕ)) → section_change which table names i at h ≡ Ok o
      → text_if_any i o ≡ Ok t → OneOf which table names i at h o t
  of_option o t is text = cases (is_flagged which table.image i h) refl is
    where
      cases : (b : Bool) → is_flagged which table.image i h ≡ b
          → cond b (some_of (flagged_change table i h))
          (cond (is_some (new_name_of which table.image i h)) (some_of (old_change table i at h))
          (other_change table names i h)) ≡ Ok o → OneOf which table names i at h o t
      cases true b k =
          let p = ok_parts (flagged_change table i h) (λ x. Ok (Some x)) o k in
          of_change p.0 o t (flagged_is p.0 b (no_new_name which table.image i h b) p.1) (ok_same (Some p.0) o p.2) text
      cases false b k = of_unflagged o t b (new_name_of which table.image i h) refl k text

  add_one : (hs : List SectionHeader) (ss : List Section) (ts : List (Option (List ℕ))) (s : Section)
      (t : Option (List ℕ)) → entry_is table i h → section_of which table names i at h ≡ Ok s
      → text_if_any i s.change ≡ Ok t → SectionsOf which table names (i + 1) (next_name which table i at h) hs ss ts
      → SectionsOf which table names i at (h ∷ hs) (s ∷ ss) (t ∷ ts)
  add_one hs ss ts s t e is text rest =
      let p = ok_parts (section_change which table names i at h) _ s is in
      let same : section_with table i h p.0 ≡ s = ok_same (section_with table i h p.0) s p.2 in
      let now : text_if_any i p.0 ≡ Ok t = ap (λ (q : Section). text_if_any i q.change) same ∙ text in
      subst (λ (q : Section). SectionsOf which table names i at (h ∷ hs) (q ∷ ss) (t ∷ ts)) same
      (of_one p.0 t (of_option p.0 t p.1 now))
    where
      of_one : (o : Option Change) (u : Option (List ℕ)) → OneOf which table names i at h o u
          → SectionsOf which table names i at (h ∷ hs) (section_with table i h o ∷ ss) (u ∷ ts)
      of_one o u (stays s) = stay i at h hs ss ts e s rest
      of_one o u (changes c x ch has) = change i at h hs ss ts c x e ch has rest

next_entry : (class : Class) (start i : ℕ) (xs : List ℕ)
    → drop (section_header_size class) (drop (start + i * section_header_size class) xs)
    ≡ drop (start + (i + 1) * section_header_size class) xs
next_entry class start i xs =
    drop-drop (section_header_size class) (start + i * section_header_size class) xs
    ∙ ap (λ (n : ℕ). drop n xs) (sums class start i)
  where
    sums : (class : Class) (start i : ℕ) → start + i * section_header_size class + section_header_size class
        ≡ start + (i + 1) * section_header_size class
    sums Elf32 start i = omega arith
    sums Elf64 start i = omega arith

pub sections_all : (which : DebugSections) (table : ImageTable) (names : Option (List ℕ)) (i at : ℕ)
    (hs : List SectionHeader) (sections : List Section) (texts : List (Option (List ℕ)))
    → Entries table.image.class table.image.file.is_big hs
    (drop (table.offset + i * section_header_size table.image.class) (file_bytes table))
    → sections_from which table names i at hs ≡ Ok sections → texts_from i sections ≡ Ok texts
    → SectionsOf which table names i at hs sections texts
sections_all which table names i at [] sections texts entries is texts_is =
    let same : [] ≡ sections = ok_same [] sections is in
    let none_is : [] ≡ texts = ok_same [] texts (ap (texts_from i) same ∙ texts_is) in
    subst (λ (ss : List Section). SectionsOf which table names i at [] ss texts) same
    (subst (λ (ts : List (Option (List ℕ))). SectionsOf which table names i at [] [] ts) none_is (end i at))
sections_all which table names i at (h ∷ hs) sections texts entries is texts_is =
    let class = table.image.class in
    let a = ok_parts (section_of which table names i at h) _ sections is in
    let b = ok_parts (sections_from which table names (i + 1) (next_name which table i at h) hs) _ sections a.2 in
    let same : a.0 ∷ b.0 ≡ sections = ok_same (a.0 ∷ b.0) sections b.2 in
    let now : texts_from i (a.0 ∷ b.0) ≡ Ok texts = ap (texts_from i) same ∙ texts_is in
    let c = ok_parts (text_if_any i a.0.change) _ texts now in
    let d = ok_parts (texts_from (i + 1) b.0) _ texts c.2 in
    let all : c.0 ∷ d.0 ≡ texts = ok_same (c.0 ∷ d.0) texts d.2 in
    let e = entries_head class table.image.file.is_big h hs _ entries in
    let rest = sections_all which table names (i + 1) (next_name which table i at h) hs b.0 d.0
    (subst (λ (xs : List ℕ). Entries class table.image.file.is_big hs xs)
    (next_entry class table.offset i (file_bytes table)) e.1) b.1 d.1 in
    subst (λ (ss : List Section). SectionsOf which table names i at (h ∷ hs) ss texts) same
    (subst (λ (ts : List (Option (List ℕ))). SectionsOf which table names i at (h ∷ hs) (a.0 ∷ b.0) ts) all
    (add_one which table names i at h hs b.0 d.0 a.0 c.0 e.0 a.1 c.1 rest))
