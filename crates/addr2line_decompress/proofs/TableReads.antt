-- What is known of the section headers of an image that is loaded.
use Rattle.std.proofs.Common.{◌≡◌, ℕ, zero, suc, ◌+◌, ◌-◌, ◌*◌, ◌≤◌, Bool, true, false, cond, eqb, ltb, List, [], ◌∷◌, length, take, drop, Option, Some, None, Result, Ok, Err, refl, sym, ap, subst, ◌∙◌, arith, length-drop}
use Rattle.std.specs.Prelude.{IfOk}
use Rattle.std.proofs.lemmas.Bool.{ltb-false, eqb-true}
use Rattle.std.proofs.lemmas.List.{length-take, take-append-drop}
use Rattle.gimli_core_readers.specs.Error.{Error}
use Rattle.gimli_core_readers.specs.View.{View, after, prefix, bytes_left, unexpected_end}
use Rattle.gimli_core_readers.specs.Parsers.{Step, proceed, give, skip, value_of}
use Rattle.gimli_core_readers.specs.Repetition.{times}
use Rattle.gimli_core_readers.specs.Results.{◌>>=◌}
use Rattle.gimli_core_readers.proofs.StepParts.{begins, value_is, state_is}
use Rattle.gimli_core_readers.specs.Fixed.{number}
use Rattle.gimli_core_readers.specs.NumberParsers.{fixed}
use Rattle.gimli_lines_write_bytes.specs.BytesAt.{bytes_at}
use Rattle.addr2line_elf.specs.declared.class.Class.{Class}
use Rattle.addr2line_elf.specs.declared.class.Class.TheVariants.{Elf32, Elf64}
use Rattle.addr2line_elf.specs.declared.error.LoadError.{LoadError}
use Rattle.addr2line_elf.specs.declared.error.LoadError.TheVariants.{UnsupportedElf}
use Rattle.addr2line_elf.specs.declared.headers.FileHeader.{FileHeader}
use Rattle.addr2line_elf.specs.declared.headers.SectionHeader.{SectionHeader}
use Rattle.addr2line_elf.specs.ElfClasses.{word_size, section_header_size}
use Rattle.addr2line_elf.specs.ElfHeaders.{file_header, section_header, header_at, headers_at}
use Rattle.addr2line_elf.specs.ImageLoading.{or_truncated, read_in, LoadsAsOrNoMemory}
use Rattle.addr2line_elf.specs.ElfImages.{Image, Identification, identification, Sections, section_count, names_index, linked_contents, table, sections_of, image_in, image_of, image_with_headers}
use Rattle.addr2line_decompress.specs.ImageTables.{ImageTable, table_of, file_bytes, table_end}
use Rattle.addr2line_decompress.proofs.EntryChanges.{header_of, entry_again}

-- ---- a value leaves at most n of the bytes with k more

record Leaves {A : Type 0} (k n : ℕ) (r : Result (A × View) Error) : Type 0 where
  pub room : (x : A) (w : View) → r ≡ Ok (x, w) → bytes_left w + k ≤ n

cut_leaves : {A : Type 0} (k : ℕ) (v : View) (y : A) (e : Error) (b : Bool) → ltb (length v.bytes) k ≡ b
    → Leaves {A = A} k (bytes_left v) (cond {A = Result (A × View) Error} b (Err e) (Ok (y, after k v)))
cut_leaves k v y e true short = record { room = λ x w is. absurd cc }
cut_leaves {A} k v y e false long =
    record {
      room =
          λ x w is. let rest : after k v ≡ w =
          state_is y x (after k v) w is in
          omega (arith, ltb-false (length v.bytes) k long, length-drop k v.bytes, ap bytes_left rest);
    }

Leaves-fixed : (k : ℕ) (v : View) → Leaves k (bytes_left v) (fixed k v)
unfolding fixed
Leaves-fixed k v = cut_leaves k v (number v.is_big (take k v.bytes)) (unexpected_end v) (ltb (length v.bytes) k) refl

Leaves-skip : (k : ℕ) (v : View) → Leaves k (bytes_left v) (skip k v)
Leaves-skip k v = cut_leaves {A = Unit {0}} k v tt (unexpected_end v) (ltb (length v.bytes) k) refl

Leaves-give : {A : Type 0} (x : A) (v : View) → Leaves {A = A} 0 (bytes_left v) (Ok (x, v))
Leaves-give {A} x v =
    record { room = λ y w is. let same : v ≡ w = state_is x y v w is in omega (arith, ap bytes_left same) }

Leaves-proceed : {A B : Type 0} (j k : ℕ) {n : ℕ} {r : Result (A × View) Error} {f : A → Step View B} → Leaves j n r
    → ((x : A) (s : View) → Leaves k (bytes_left s) (f x s)) → Leaves (j + k) n (proceed r f)
Leaves-proceed {A} {B} j k {n} {r} {f} h t =
    record {
      room =
          λ y w is. let b =
          begins r f y w is in let first = h.room b.0 b.1 b.2 in let second = (t b.0 b.1).room y w b.3 in omega arith;
    }

same_room : {A : Type 0} {n : ℕ} {r : Result (A × View) Error} (j k : ℕ) → j ≡ k → Leaves j n r → Leaves k n r
same_room j k same h = record { room = λ x w is. let left = h.room x w is in omega arith }

fields_size : (class : Class) → (w : ℕ) → word_size class ≡ w
    → 4 + (4 + (w + (w + (w + (w + (4 + (4 + (2 * w + 0)))))))) ≡ section_header_size class
fields_size Elf32 w is = omega arith
fields_size Elf64 w is = omega arith

Leaves-section_header : (class : Class) (v : View)
    → Leaves (section_header_size class) (bytes_left v) (section_header class v)
unfolding section_header
Leaves-section_header class v =
    let w : ℕ = word_size class in
    same_room _ _ (fields_size class w refl)
    (Leaves-proceed 4 _ (Leaves-fixed 4 v) (λ name a. Leaves-proceed 4 _ (Leaves-fixed 4 a) (λ section_type b.
    Leaves-proceed w _ (Leaves-fixed w b) (λ flags c. Leaves-proceed w _ (Leaves-fixed w c) (λ address d.
    Leaves-proceed w _ (Leaves-fixed w d) (λ offset e. Leaves-proceed w _ (Leaves-fixed w e) (λ size f.
    Leaves-proceed 4 _ (Leaves-fixed 4 f) (λ link g. Leaves-proceed 4 _ (Leaves-fixed 4 g) (λ info h.
    Leaves-proceed (2 * w) 0 (Leaves-skip (2 * w) h) (λ rest i. Leaves-give _ i))))))))))

-- ---- the entries of section headers that are read

-- the bytes are those of an entry, and its header is this one
pub record IsEntry (class : Class) (is_big : Bool) (h : SectionHeader) (entry : List ℕ) : Type 0 where
  pub size : length entry ≡ section_header_size class
  pub header : h ≡ header_of class is_big entry

-- bytes begin with the entries of headers
pub data Entries (class : Class) (is_big : Bool) : List SectionHeader → List ℕ → Type 0 where
  none : (xs : List ℕ) → Entries class is_big [] xs
  next : (h : SectionHeader) (hs : List SectionHeader) (xs : List ℕ)
      → IsEntry class is_big h (take (section_header_size class) xs)
      → Entries class is_big hs (drop (section_header_size class) xs) → Entries class is_big (h ∷ hs) xs

pub record AreRead (class : Class) (is_big : Bool) (n : ℕ) (hs : List SectionHeader) (xs : List ℕ) : Type 0 where
  pub count : length hs ≡ n
  pub room : n * section_header_size class ≤ length xs
  pub entries : Entries class is_big hs xs

-- a header that is read, and the view after it
pub record IsRead (class : Class) (is_big : Bool) (first : ℕ) (xs : List ℕ) (h : SectionHeader) (w : View) : Type 0
  where
    pub room : section_header_size class ≤ length xs
    pub entry : IsEntry class is_big h (take (section_header_size class) xs)
    pub rest : w ≡ bytes_at is_big (first + section_header_size class) (drop (section_header_size class) xs)

entry_size : (n : ℕ) (xs : List ℕ) → n ≤ length xs → length (take n xs) ≡ n
entry_size n xs enough = omega (arith, length-take n xs)

entry_in : (class : Class) (is_big : Bool) (first : ℕ) (xs : List ℕ) → section_header_size class ≤ length xs
    → section_header class (bytes_at is_big first xs)
    ≡ Ok (
      header_of class is_big (take (section_header_size class) xs),
      bytes_at is_big (first + section_header_size class) (drop (section_header_size class) xs),
    )
entry_in class is_big first xs enough =
    let n = section_header_size class in
    let size = entry_size n xs enough in
    ap (λ (ys : List ℕ). section_header class (bytes_at is_big first ys)) (sym (take-append-drop n xs))
    ∙ (entry_again class is_big first (take n xs) size).again (drop n xs)
    ∙ ap (λ (m : ℕ). read (header_of class is_big (take n xs)) (bytes_at is_big (first + m) (drop n xs))) size
  where
    read : SectionHeader → View → Result (SectionHeader × View) Error
    read h v = Ok (h, v)

pub read_first : (class : Class) (is_big : Bool) (first : ℕ) (xs : List ℕ) (h : SectionHeader) (w : View)
    → section_header class (bytes_at is_big first xs) ≡ Ok (h, w) → IsRead class is_big first xs h w
read_first class is_big first xs h w is =
    let left = (Leaves-section_header class (bytes_at is_big first xs)).room h w is in
    let enough : section_header_size class ≤ length xs = omega arith in
    let same = sym (entry_in class is_big first xs enough) ∙ is in
    record {
      room = enough;
      entry = record {
        size = entry_size _ xs enough;
        header = sym (value_is _ h _ w same);
      };
      rest = sym (state_is _ h _ w same);
    }

pub entries_read : (class : Class) (is_big : Bool) (n first : ℕ) (xs : List ℕ) (hs : List SectionHeader) (w : View)
    → times n (section_header class) (bytes_at is_big first xs) ≡ Ok (hs, w) → AreRead class is_big n hs xs
unfolding times
entries_read class is_big zero first xs hs w is =
    let e : [] ≡ hs = value_is [] hs _ w is in
    subst (λ (l : List SectionHeader). AreRead class is_big 0 l xs) e
    (record { count = refl; room = omega arith; entries = none xs })
entries_read class is_big (suc n) first xs hs w is =
    let a = begins (section_header class (bytes_at is_big first xs)) _ hs w is in
    let r = read_first class is_big first xs a.0 a.1 a.2 in
    let b = begins (times n (section_header class) a.1) (λ ys. give (a.0 ∷ ys)) hs w a.3 in
    let m = section_header_size class in
    let more = entries_read class is_big n (first + m) (drop m xs) b.0 b.1
    (ap (times n (section_header class)) (sym r.rest) ∙ b.2) in
    let e : a.0 ∷ b.0 ≡ hs = value_is (a.0 ∷ b.0) hs b.1 w b.3 in
    subst (λ (l : List SectionHeader). AreRead class is_big (suc n) l xs) e
    (record {
      count = ap suc more.count;
      room = room_more class n (length xs) (length (drop m xs)) r.room more.room (length-drop m xs);
      entries = next a.0 b.0 xs r.entry more.entries;
    })
  where
    room_more : (class : Class) (n k j : ℕ) → section_header_size class ≤ k → n * section_header_size class ≤ j
        → j ≡ k - section_header_size class → suc n * section_header_size class ≤ k
    room_more Elf32 n k j h i e = omega arith
    room_more Elf64 n k j h i e = omega arith

-- ---- the parts of an image that is loaded

pub record Parts (file : List ℕ) (image : Image) : Type 0 where
  pub header : FileHeader
  pub identified : identification file ≡ Ok (record { class = image.class; is_big = image.file.is_big })
  pub file_is : image.file ≡ bytes_at image.file.is_big 0 file
  pub header_is : read_in image.file (file_header image.class) ≡ Ok header
  pub sections_are : sections_of image.class header image.file
      ≡ Ok (record { headers = image.sections; names = image.names })
  pub type_is : header.file_type ≡ image.file_type

abbrev image_after : Class → View → FileHeader → Result Sections LoadError → Result Image LoadError
image_after class view header r = r >>= λ s. Ok (image_with_headers class view header s)

module _ (file : List ℕ) (image : Image) where
  of_sections : (id : Identification) (header : FileHeader) (r : Result Sections LoadError)
      → identification file ≡ Ok id → read_in (bytes_at id.is_big 0 file) (file_header id.class) ≡ Ok header
      → sections_of id.class header (bytes_at id.is_big 0 file) ≡ r
      → image_after id.class (bytes_at id.is_big 0 file) header r ≡ Ok image → Parts file image
  of_sections id header (Ok s) identified header_is sections_are is =
      let same : image_with_headers id.class (bytes_at id.is_big 0 file) header s ≡ image = cc in
      subst (λ (i : Image). Parts file i) same
      (record {
        header = header;
        identified = identified;
        file_is = refl;
        header_is = header_is;
        sections_are = sections_are;
        type_is = refl;
      })
  of_sections id header (Err e) identified header_is sections_are is = absurd cc

  of_header : (id : Identification) (r : Result FileHeader LoadError)
      → identification file ≡ Ok id → read_in (bytes_at id.is_big 0 file) (file_header id.class) ≡ r
      → (r >>= λ h. image_after id.class (bytes_at id.is_big 0 file) h
      (sections_of id.class h (bytes_at id.is_big 0 file))) ≡ Ok image → Parts file image
  of_header id (Ok h) identified header_is is =
      of_sections id h (sections_of id.class h (bytes_at id.is_big 0 file)) identified header_is refl is
  of_header id (Err e) identified header_is is = absurd cc

  of_identification : (r : Result Identification LoadError) → identification file ≡ r
      → (r >>= λ id. image_in id.class (bytes_at id.is_big 0 file)) ≡ Ok image → Parts file image
  of_identification (Ok id) identified is =
      of_header id (read_in (bytes_at id.is_big 0 file) (file_header id.class)) identified refl is
  of_identification (Err e) identified is = absurd cc

  pub image_parts : image_of file ≡ Ok image → Parts file image
  image_parts is = of_identification (identification file) refl is

-- ---- steps that gave a value

abbrev ok : {A : Type 0} → A → Result A LoadError
ok x = Ok x

same_ok : {A : Type 0} (x y : A) → ok x ≡ ok y → x ≡ y
same_ok x y e = cc

pub ok_parts : {A B E : Type 0} (r : Result A E) (f : A → Result B E) (y : B) → (r >>= f) ≡ Ok y
    → (x : A) × (r ≡ Ok x) × (f x ≡ Ok y)
ok_parts (Ok x) f y is = (x, refl, is)
ok_parts (Err e) f y is = absurd cc

pub read_parts : {A : Type 0} (r : Result (A × View) Error) (x : A) → or_truncated (value_of r) ≡ Ok x
    → (w : View) × (r ≡ Ok (x, w))
read_parts {A} (Ok r) x is = let e : r.0 ≡ x = cc in (r.1, ap (λ (y : A). read y r.1) e)
  where
    read : A → View → Result (A × View) Error
    read y w = Ok (y, w)
read_parts (Err e) x is = absurd cc

-- ---- the parts of a table

pub record TableParts (file : List ℕ) (t : ImageTable) : Type 0 where
  pub image_is : image_of file ≡ Ok t.image
  pub parts : Parts file t.image
  pub offset_is : t.offset ≡ parts.header.table_offset
  pub first : SectionHeader
  pub first_is : read_in t.image.file (header_at t.image.class parts.header.table_offset) ≡ Ok first
  pub names_are : t.names_index ≡ names_index parts.header first

pub table_parts : (file : List ℕ) (t : ImageTable) → table_of file ≡ Ok t → TableParts file t
table_parts file t is =
    let a = ok_parts (image_of file) _ t is in
    let p = image_parts file a.0 a.1 in
    let b = ok_parts (read_in a.0.file (file_header a.0.class)) _ t a.2 in
    let c = ok_parts (read_in a.0.file (header_at a.0.class b.0.table_offset)) _ t b.2 in
    let header_same : b.0 ≡ p.header = same_ok b.0 p.header (sym b.1 ∙ p.header_is) in
    let whole : (record { image = a.0; offset = b.0.table_offset; names_index = names_index b.0 c.0 }) ≡ t = cc in
    subst (λ (u : ImageTable). TableParts file u) whole
    (record {
      image_is = a.1;
      parts = p;
      offset_is = ap (λ (h : FileHeader). h.table_offset) header_same;
      first = c.0;
      first_is = ap (λ (h : FileHeader). read_in a.0.file (header_at a.0.class h.table_offset)) (sym header_same)
          ∙ c.1;
      names_are = ap (λ (h : FileHeader). names_index h c.0) header_same;
    })

-- the section headers of a file that has a table of them
pub record SectionsRead (class : Class) (is_big : Bool) (file : List ℕ) (header : FileHeader) (first : SectionHeader)
    (s : Sections) : Type 0 where
  pub some : eqb header.table_offset 0 ≡ false
  pub sized : eqb header.entry_size (section_header_size class) ≡ true
  pub in_file : header.table_offset ≤ length file
  pub read : AreRead class is_big (section_count header first) s.headers (drop header.table_offset file)
  pub names : linked_contents (names_index header first) s.headers (bytes_at is_big 0 file) ≡ Ok s.names

-- or there is none
pub data MayBeRead (class : Class) (is_big : Bool) (file : List ℕ) (header : FileHeader) (first : SectionHeader)
    (s : Sections) : Type 0 where
  no_table : eqb header.table_offset 0 ≡ true → s.headers ≡ [] → MayBeRead class is_big file header first s
  some_table : SectionsRead class is_big file header first s → MayBeRead class is_big file header first s

pub skipped : (is_big : Bool) (file : List ℕ) (n : ℕ) (w : View) → skip n (bytes_at is_big 0 file) ≡ Ok (tt, w)
    → (n ≤ length file) × (w ≡ bytes_at is_big (0 + n) (drop n file))
skipped is_big file n w is = cases (ltb (length file) n) refl is
  where
    cases : (b : Bool) → ltb (length file) n ≡ b
        → cond {A = Result (Unit {0} × View) Error} b (Err (unexpected_end (bytes_at is_big 0 file)))
        (Ok (tt, after n (bytes_at is_big 0 file))) ≡ Ok (tt, w)
        → (n ≤ length file) × (w ≡ bytes_at is_big (0 + n) (drop n file))
    cases true short h = absurd cc
    cases false long h = (ltb-false (length file) n long, sym (state_is tt tt _ w h))

module _ (class : Class) (is_big : Bool) (file : List ℕ) (header : FileHeader) (first : SectionHeader) (s : Sections)
    (first_is : read_in (bytes_at is_big 0 file) (header_at class header.table_offset) ≡ Ok first) where
  abbrev view : View
  view = bytes_at is_big 0 file

  of_table : eqb header.table_offset 0 ≡ false → eqb header.entry_size (section_header_size class) ≡ true
      → table class header view ≡ Ok s → SectionsRead class is_big file header first s
  of_table some sized is =
      let a = ok_parts (read_in view (header_at class header.table_offset)) _ s is in
      let same : a.0 ≡ first = same_ok a.0 first (sym a.1 ∙ first_is) in
      let n = section_count header first in
      let b = ok_parts (read_in view (headers_at class header.table_offset (section_count header a.0))) _ s a.2 in
      let c = ok_parts (linked_contents (names_index header a.0) b.0 view) _ s b.2 in
      let r = read_parts (headers_at class header.table_offset (section_count header a.0) view) b.0 b.1 in
      let d = begins (skip header.table_offset view)
      (λ _. times (section_count header a.0) (section_header class)) b.0 r.0 r.1 in
      let k = skipped is_big file header.table_offset d.1 d.2 in
      let read = entries_read class is_big (section_count header a.0) (0 + header.table_offset)
      (drop header.table_offset file) b.0 r.0
      (ap (times (section_count header a.0) (section_header class)) (sym k.1) ∙ d.3) in
      let whole : (record { headers = b.0; names = c.0 }) ≡ s = cc in
      subst (λ (t : Sections). SectionsRead class is_big file header first t) whole
      (record {
        some = some;
        sized = sized;
        in_file = k.0;
        read = subst (λ (f : SectionHeader). AreRead class is_big (section_count header f) b.0
            (drop header.table_offset file)) same read;
        names = ap (λ (f : SectionHeader). linked_contents (names_index header f) b.0 view) (sym same) ∙ c.1;
      })

  pub sections_read : sections_of class header view ≡ Ok s → MayBeRead class is_big file header first s
  sections_read is = cases (eqb header.table_offset 0) (eqb header.entry_size (section_header_size class)) refl refl is
    where
      cases : (a b : Bool) → eqb header.table_offset 0 ≡ a → eqb header.entry_size (section_header_size class) ≡ b
          → cond a (Ok (record { headers = []; names = prefix 0 view }))
          (cond b (table class header view) (Err UnsupportedElf)) ≡ Ok s
          → MayBeRead class is_big file header first s
      cases true b at_zero sized h =
          let whole : (record { headers = []; names = prefix 0 view }) ≡ s = cc in
          no_table at_zero (sym (ap (λ (t : Sections). t.headers) whole))
      cases false true some sized h = some_table (of_table some sized h)
      cases false false some sized h = absurd cc

-- the section headers of a table
pub table_sections : (file : List ℕ) (t : ImageTable) (p : TableParts file t)
    → MayBeRead t.image.class t.image.file.is_big file p.parts.header p.first
    (record { headers = t.image.sections; names = t.image.names })
table_sections file t p =
    let view_is = p.parts.file_is in
    let header = p.parts.header in
    sections_read t.image.class t.image.file.is_big file header p.first
    (record { headers = t.image.sections; names = t.image.names })
    (ap (λ (v : View). read_in v (header_at t.image.class header.table_offset)) (sym view_is) ∙ p.first_is)
    (ap (λ (v : View). sections_of t.image.class header v) (sym view_is) ∙ p.parts.sections_are)

-- the room that the section headers have
pub table_room : (file : List ℕ) (t : ImageTable) → table_of file ≡ Ok t → table_end t ≤ length (file_bytes t)
table_room file t is =
    let p = table_parts file t is in
    let bytes_are : length (file_bytes t) ≡ length file = ap (λ (v : View). length v.bytes) p.parts.file_is in
    let at = p.offset_is in
    elim (table_sections file t p) [
      | no_table at_zero none_are ↦
          let zero_is : p.parts.header.table_offset ≡ 0 = eqb-true _ 0 at_zero in
          let count : length t.image.sections ≡ 0 = ap length none_are in
          none_room t.image.class _ _ _ _ at zero_is count
      | some_table r ↦
          some_room (length t.image.sections * section_header_size t.image.class) t.offset _ _ _ _ at r.in_file
          (subst (λ (n : ℕ). n * section_header_size t.image.class ≤ length (drop p.parts.header.table_offset file))
          (sym r.read.count) r.read.room)
          (length-drop p.parts.header.table_offset file) bytes_are
    ]
  where
    none_room : (class : Class) (o h n len : ℕ) → o ≡ h → h ≡ 0 → n ≡ 0 → o + n * section_header_size class ≤ len
    none_room Elf32 o h n len a b c = omega arith
    none_room Elf64 o h n len a b c = omega arith

    some_room : (k o h len j all : ℕ) → o ≡ h → h ≤ len → k ≤ j → j ≡ len - h → all ≡ len → o + k ≤ all
    some_room k o h len j all a b c d e = omega arith

pub room_if_loaded : (file : List ℕ) (r : Result ImageTable LoadError) → LoadsAsOrNoMemory (λ t. t) r (table_of file)
    → IfOk r (λ t. table_end t ≤ length (file_bytes t))
room_if_loaded file (Ok t) is = table_room file t is
room_if_loaded file (Err e) is = tt
