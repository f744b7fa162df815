-- Reads of a range of a file: a header, or a table of headers, is read from its own bytes alone.
use Rattle.std.proofs.Common.{◌≡◌, ◌≢◌, ℕ, zero, suc, ◌+◌, ◌*◌, ◌<◌, ◌≤◌, ◌⊎◌, inl, inr, Bool, cond, eqb, List, [], ◌∷◌, length, take, drop, Option, Result, Ok, Err, IfOk, IfErr, refl, sym, ap, ◌∙◌, subst, arith}
use Rattle.std.specs.List.{slice_get}
use Rattle.std.specs.Cmp.Lexicographic.{pointwise}
use Rattle.std.proofs.lemmas.List.{take-take, take_all, drop-take, drop-drop, length-take-le, length-drop}
use Rattle.std.proofs.lemmas.Bool.{cases_lt, lt-ltb, le-ltb, le-leb, lt-leb}
use Rattle.gimli_core_readers.specs.Error.{Error}
use Rattle.gimli_core_readers.specs.View.{View, after, prefix, bytes_left, unexpected_end}
use Rattle.gimli_core_readers.specs.Parsers.{Step, ◌>>◌, proceed, give, skip, truncate, here, value_of}
use Rattle.gimli_core_readers.specs.Repetition.{times}
use Rattle.gimli_core_readers.specs.Results.{and_then}
use Rattle.gimli_core_readers.specs.Fixed.{number}
use Rattle.gimli_core_readers.specs.NumberParsers.{fixed}
use Rattle.addr2line_elf.specs.declared.class.Class.{Class}
use Rattle.addr2line_elf.specs.declared.class.Class.TheVariants.{Elf32, Elf64}
use Rattle.addr2line_elf.specs.declared.error.LoadError.{LoadError}
use Rattle.addr2line_elf.specs.declared.error.LoadError.TheVariants.{Memory, Truncated, NotElf}
use Rattle.addr2line_elf.specs.ElfClasses.{word_size, file_header_size, section_header_size}
use Rattle.addr2line_elf.specs.ElfHeaders.{file_header, section_header, header_at, headers_at}
use Rattle.addr2line_elf.specs.ElfImages.{Identification, magic, class_of, is_big_of, identification}
use Rattle.addr2line_elf.specs.FileParts.{range_in}
use Rattle.addr2line_elf.specs.ImageLoading.{or_truncated, read_in, bytes_at, LoadsAsOrNoMemory}

-- ---- the bytes of a range

abbrev view_of : List ℕ → Bool → ℕ → View
view_of bytes is_big first = record { bytes = bytes; is_big = is_big; first = first }

-- with the order of the file's bytes, and the offset as the first identifier
abbrev pub or_view : ℕ → View → Result (List ℕ) LoadError → Result View LoadError
or_view offset file (Ok bytes) = Ok (view_of bytes file.is_big (file.first + offset))
or_view offset file (Err e) = Err e

abbrev skipped : ℕ → View → Bool → Result (Unit {0} × View) Error
skipped n v b = cond b (Err (unexpected_end v)) (Ok (tt, after n v))

abbrev cut : ℕ → View → Bool → Result (Unit {0} × View) Error
cut n v b = cond b (Err (unexpected_end v)) (Ok (tt, prefix n v))

abbrev after_skip : ℕ → Result (Unit {0} × View) Error → Result View LoadError
after_skip size r = or_truncated (value_of (proceed (proceed r (λ _. truncate size)) (λ _. here)))

abbrev after_cut : Result (Unit {0} × View) Error → Result View LoadError
after_cut r = or_truncated (value_of (proceed r (λ _. here)))

abbrev in_range : ℕ → ℕ → View → Bool → Result View LoadError
in_range offset size file b = or_view offset file (cond b (Ok (take size (drop offset file.bytes))) (Err Truncated))

pub range_read : (offset size : ℕ) (file : View)
    → read_in file (bytes_at offset size) ≡ or_view offset file (range_in offset size file.bytes)
range_read offset size file =
    at (cases_lt (length file.bytes) (offset + size)) (cases_lt (length file.bytes) offset)
  where
    at : (length file.bytes < offset + size) ⊎ (offset + size ≤ length file.bytes)
        → (length file.bytes < offset) ⊎ (offset ≤ length file.bytes)
        → read_in file (bytes_at offset size) ≡ or_view offset file (range_in offset size file.bytes)
    at (inl short) (inl none) =
        ap (λ (b : Bool). after_skip size (skipped offset file b)) (lt-ltb _ _ none)
        ∙ sym (ap (in_range offset size file) (lt-leb _ _ short))
    at (inl short) (inr some) =
        let few : length (drop offset file.bytes) < size = omega (arith, length-drop offset file.bytes) in
        ap (λ (b : Bool). after_skip size (skipped offset file b)) (le-ltb _ _ some)
        ∙ ap (λ (b : Bool). after_cut (cut size (after offset file) b)) (lt-ltb _ _ few)
        ∙ sym (ap (in_range offset size file) (lt-leb _ _ short))
    at (inr full) (inl none) = absurd (omega arith)
    at (inr full) (inr some) =
        let enough : size ≤ length (drop offset file.bytes) = omega (arith, length-drop offset file.bytes) in
        ap (λ (b : Bool). after_skip size (skipped offset file b)) (le-ltb _ _ some)
        ∙ ap (λ (b : Bool). after_cut (cut size (after offset file) b)) (le-ltb _ _ enough)
        ∙ sym (ap (in_range offset size file) (le-leb _ _ full))

range_full : (offset size : ℕ) (file : View) → offset + size ≤ length file.bytes
    → read_in file (bytes_at offset size)
    ≡ Ok (view_of (take size (drop offset file.bytes)) file.is_big (file.first + offset))
range_full offset size file full =
    range_read offset size file ∙ ap (in_range offset size file) (le-leb _ _ full)

range_short : (offset size : ℕ) (file : View) → length file.bytes < offset + size
    → read_in file (bytes_at offset size) ≡ Err Truncated
range_short offset size file short =
    range_read offset size file ∙ ap (in_range offset size file) (lt-leb _ _ short)

-- ---- parsers that read a number of bytes, and look at no others

record Fails {A : Type 0} (r : Result (A × View) Error) : Type 0 where
  pub fault : Error
  pub is : r ≡ Err fault

-- both give the same value, and leave what is after k bytes
record Gives {A : Type 0} (k : ℕ) (p : Step View A) (v w : View) : Type 0 where
  pub value : A
  pub first : p v ≡ Ok (value, after k v)
  pub second : p w ≡ Ok (value, after k w)

-- the first k bytes are there, and the same in both
record Alike (k : ℕ) (v w : View) : Type 0 where
  pub order : v.is_big ≡ w.is_big
  pub enough : k ≤ bytes_left v
  pub enough_too : k ≤ bytes_left w
  pub same : take k v.bytes ≡ take k w.bytes

record Takes {A : Type 0} (k : ℕ) (p : Step View A) : Type 0 where
  pub short : (v : View) → bytes_left v < k → Fails (p v)
  pub full : (v w : View) → Alike k v w → Gives k p v w

abbrev done : {A : Type 0} → A → View → Result (A × View) Error
done x v = Ok (x, v)

itself : (k : ℕ) (v : View) → k ≤ bytes_left v → Alike k v v
itself k v enough = record { order = refl; enough = enough; enough_too = enough; same = refl }

after_both : (j k : ℕ) (v : View) → after k (after j v) ≡ after (j + k) v
after_both j k v =
    ap (λ (bytes : List ℕ). view_of bytes v.is_big (v.first + j + k)) (drop-drop k j v.bytes)
    ∙ ap (view_of (drop (j + k) v.bytes) v.is_big) (sums v.first)
  where
    sums : (n : ℕ) → n + j + k ≡ n + (j + k)
    sums n = omega arith

after_none : (v : View) → v ≡ after 0 v
after_none v = ap (view_of v.bytes v.is_big) (none v.first)
  where
    none : (n : ℕ) → n ≡ n + 0
    none n = omega arith

Takes-fixed : (k : ℕ) → Takes k (fixed k)
unfolding fixed
Takes-fixed k = record {
  short = λ v few. record { fault = unexpected_end v; is = ap (read v) (lt-ltb _ _ few) };
  full = λ v w h. record {
    value = number v.is_big (take k v.bytes);
    first = ap (read v) (le-ltb _ _ h.enough);
    second =
        ap (read w) (le-ltb _ _ h.enough_too)
        ∙ ap (λ (xs : List ℕ). done (number w.is_big xs) (after k w)) (sym h.same)
        ∙ ap (λ (b : Bool). done (number b (take k v.bytes)) (after k w)) (sym h.order);
  };
}
  where
    read : View → Bool → Result (ℕ × View) Error
    read v b = cond b (Err (unexpected_end v)) (Ok (number v.is_big (take k v.bytes), after k v))

Takes-skip : (k : ℕ) → Takes k (skip k)
Takes-skip k = record {
  short = λ v few. record { fault = unexpected_end v; is = ap (skipped k v) (lt-ltb _ _ few) };
  full = λ v w h. record {
    value = tt;
    first = ap (skipped k v) (le-ltb _ _ h.enough);
    second = ap (skipped k w) (le-ltb _ _ h.enough_too);
  };
}

Takes-give : {A : Type 0} (x : A) → Takes {A = A} 0 (give x)
Takes-give {A} x = record {
  short = λ v few. absurd (omega arith);
  full = λ v w h. record {
    value = x;
    first = ap (done x) (after_none v);
    second = ap (done x) (after_none w);
  };
}

-- the first j of j + k bytes, and the others
alike_first : (j k : ℕ) (v w : View) → Alike (j + k) v w → Alike j v w
alike_first j k v w h = record {
  order = h.order;
  enough = omega (arith, h.enough);
  enough_too = omega (arith, h.enough_too);
  same =
      sym (take-take j (j + k) v.bytes (omega arith)) ∙ ap (take j) h.same
      ∙ take-take j (j + k) w.bytes (omega arith);
}

alike_rest : (j k : ℕ) (v w : View) → Alike (j + k) v w → Alike k (after j v) (after j w)
alike_rest j k v w h = record {
  order = h.order;
  enough = omega (arith, h.enough, length-drop j v.bytes);
  enough_too = omega (arith, h.enough_too, length-drop j w.bytes);
  same = sym (drop-take j k v.bytes) ∙ ap (drop j) h.same ∙ drop-take j k w.bytes;
}

Takes-then : {A B : Type 0} (j k : ℕ) {p : Step View A} {f : A → Step View B} → Takes j p
    → ((x : A) → Takes k (f x)) → Takes (j + k) (λ v. proceed (p v) f)
Takes-then {A} {B} j k {p} {f} h t = record { short = short_of; full = full_of }
  where
    onward : Result (A × View) Error → Result (B × View) Error
    onward r = proceed r f

    rest_short : (v : View) → bytes_left v < j + k → j ≤ bytes_left v → Gives j p v v → Fails (onward (p v))
    rest_short v few some g =
        let left : bytes_left (after j v) < k = omega (arith, length-drop j v.bytes) in
        let e = (t g.value).short (after j v) left in
        record { fault = e.fault; is = ap onward g.first ∙ e.is }

    short_of : (v : View) → bytes_left v < j + k → Fails (onward (p v))
    short_of v few = at (cases_lt (bytes_left v) j)
      where
        at : (bytes_left v < j) ⊎ (j ≤ bytes_left v) → Fails (onward (p v))
        at (inl none) = let e = h.short v none in record { fault = e.fault; is = ap onward e.is }
        at (inr some) = rest_short v few some (h.full v v (itself j v some))

    full_of : (v w : View) → Alike (j + k) v w → Gives (j + k) (λ u. onward (p u)) v w
    full_of v w a =
        let g = h.full v w (alike_first j k v w a) in
        let r = (t g.value).full (after j v) (after j w) (alike_rest j k v w a) in
        record {
          value = r.value;
          first = ap onward g.first ∙ r.first ∙ ap (done r.value) (after_both j k v);
          second = ap onward g.second ∙ r.second ∙ ap (done r.value) (after_both j k w);
        }

same_size : {A : Type 0} (j k : ℕ) (p : Step View A) → j ≡ k → Takes j p → Takes k p
same_size {A} j k p is h = subst (λ (n : ℕ). Takes n p) is h

Takes-times : {A : Type 0} (k : ℕ) (p : Step View A) → Takes k p → (n : ℕ) → Takes (n * k) (times n p)
unfolding times
Takes-times {A} k p h zero = same_size 0 (0 * k) _ (omega arith) (Takes-give {A = List A} [])
Takes-times {A} k p h (suc n) =
    same_size (k + (n * k + 0)) (suc n * k) _ (omega arith)
    (Takes-then k (n * k + 0) h (λ x. Takes-then (n * k) 0 (Takes-times k p h n) (λ xs. Takes-give (x ∷ xs))))

-- ---- the headers

-- the fields of a file's header after its identification, and those of a section's header
file_fields : (class : Class) → (w : ℕ) → word_size class ≡ w
    → 16 + (2 + (6 + (w + (w + (w + (10 + (2 + (2 + (2 + 0))))))))) ≡ file_header_size class
file_fields Elf32 w is = omega arith
file_fields Elf64 w is = omega arith

section_fields : (class : Class) → (w : ℕ) → word_size class ≡ w
    → 4 + (4 + (w + (w + (w + (w + (4 + (4 + (2 * w + 0)))))))) ≡ section_header_size class
section_fields Elf32 w is = omega arith
section_fields Elf64 w is = omega arith

Takes-file_header : (class : Class) → Takes (file_header_size class) (file_header class)
unfolding file_header
Takes-file_header class =
    let w : ℕ = word_size class in
    same_size _ _ _ (file_fields class w refl)
    (Takes-then 16 _ (Takes-skip 16) (λ identification. Takes-then 2 _ (Takes-fixed 2) (λ file_type.
    Takes-then 6 _ (Takes-skip 6) (λ machine. Takes-then w _ (Takes-skip w) (λ entry.
    Takes-then w _ (Takes-skip w) (λ program_headers. Takes-then w _ (Takes-fixed w) (λ table_offset.
    Takes-then 10 _ (Takes-skip 10) (λ flags. Takes-then 2 _ (Takes-fixed 2) (λ entry_size.
    Takes-then 2 _ (Takes-fixed 2) (λ count. Takes-then 2 0 (Takes-fixed 2) (λ names. Takes-give _)))))))))))

Takes-section_header : (class : Class) → Takes (section_header_size class) (section_header class)
unfolding section_header
Takes-section_header class =
    let w : ℕ = word_size class in
    same_size _ _ _ (section_fields class w refl)
    (Takes-then 4 _ (Takes-fixed 4) (λ name. Takes-then 4 _ (Takes-fixed 4) (λ section_type.
    Takes-then w _ (Takes-fixed w) (λ flags. Takes-then w _ (Takes-fixed w) (λ address.
    Takes-then w _ (Takes-fixed w) (λ offset. Takes-then w _ (Takes-fixed w) (λ size.
    Takes-then 4 _ (Takes-fixed 4) (λ link. Takes-then 4 _ (Takes-fixed 4) (λ info.
    Takes-then (2 * w) 0 (Takes-skip (2 * w)) (λ rest. Takes-give _))))))))))

-- ---- reads from a range

abbrev pub parsed : {A : Type 0} → Step View A → View → Result A LoadError
parsed p part = or_truncated (value_of (p part))

abbrev after_start : {A : Type 0} → Step View A → Result (Unit {0} × View) Error → Result A LoadError
after_start p r = or_truncated (value_of (proceed r (λ _. p)))

abbrev outcome : {A : Type 0} → Result (A × View) Error → Result A LoadError
outcome r = or_truncated (value_of r)

-- what is read of k bytes at an offset is read from them alone
part_read : {A : Type 0} (k : ℕ) (p : Step View A) → Takes k p → (offset : ℕ) (file : View)
    → read_in file (skip offset >> p) ≡ and_then (read_in file (bytes_at offset k)) (parsed p)
part_read {A} k p h offset file =
    at (cases_lt (length file.bytes) (offset + k)) (cases_lt (length file.bytes) offset)
  where
    right : Result View LoadError → Result A LoadError
    right r = and_then r (parsed p)

    at : (length file.bytes < offset + k) ⊎ (offset + k ≤ length file.bytes)
        → (length file.bytes < offset) ⊎ (offset ≤ length file.bytes)
        → read_in file (skip offset >> p) ≡ and_then (read_in file (bytes_at offset k)) (parsed p)
    at (inl short) (inl none) =
        ap (λ (b : Bool). after_start p (skipped offset file b)) (lt-ltb _ _ none)
        ∙ sym (ap right (range_short offset k file short))
    at (inl short) (inr some) =
        let few : bytes_left (after offset file) < k = omega (arith, length-drop offset file.bytes) in
        let e = h.short (after offset file) few in
        ap (λ (b : Bool). after_start p (skipped offset file b)) (le-ltb _ _ some)
        ∙ ap outcome e.is ∙ sym (ap right (range_short offset k file short))
    at (inr full) (inl none) = absurd (omega arith)
    at (inr full) (inr some) =
        let enough : k ≤ length (drop offset file.bytes) = omega (arith, length-drop offset file.bytes) in
        let part : View = view_of (take k (drop offset file.bytes)) file.is_big (file.first + offset) in
        let size : length (take k (drop offset file.bytes)) ≡ k = length-take-le k (drop offset file.bytes) enough in
        let alike : Alike k (after offset file) part =
        record {
          order = refl;
          enough = enough;
          enough_too = omega (arith, size);
          same = sym (take-take k k (drop offset file.bytes) (omega arith));
        } in
        let g = h.full (after offset file) part alike in
        ap (λ (b : Bool). after_start p (skipped offset file b)) (le-ltb _ _ some)
        ∙ ap outcome g.first ∙ sym (ap right (range_full offset k file full) ∙ ap outcome g.second)

-- the header of the file, of a section, and a number of them
pub file_header_read : (class : Class) (file : View)
    → read_in file (file_header class)
    ≡ and_then (read_in file (bytes_at 0 (file_header_size class))) (parsed (file_header class))
file_header_read class file =
    ap (parsed (file_header class)) (after_none file)
    ∙ sym (ap (λ (b : Bool). after_start (file_header class) (skipped 0 file b))
    (le-ltb (length file.bytes) 0 (omega arith)))
    ∙ part_read (file_header_size class) (file_header class) (Takes-file_header class) 0 file

pub header_read : (class : Class) (offset : ℕ) (file : View)
    → read_in file (header_at class offset)
    ≡ and_then (read_in file (bytes_at offset (section_header_size class))) (parsed (section_header class))
header_read class offset file =
    part_read (section_header_size class) (section_header class) (Takes-section_header class) offset file

pub headers_read : (class : Class) (offset count : ℕ) (file : View)
    → read_in file (headers_at class offset count)
    ≡ and_then (read_in file (bytes_at offset (count * section_header_size class)))
    (parsed (times count (section_header class)))
headers_read class offset count file =
    part_read (count * section_header_size class) (times count (section_header class))
    (Takes-times (section_header_size class) (section_header class) (Takes-section_header class) count) offset file

-- a table that doesn't end in the file is refused
pub no_room : (class : Class) (offset count : ℕ) (file : View)
    → bytes_left file < offset + count * section_header_size class
    → read_in file (headers_at class offset count) ≡ Err Truncated
no_room class offset count file short =
    headers_read class offset count file
    ∙ ap (λ (r : Result View LoadError). and_then r (parsed (times count (section_header class))))
    (range_short offset (count * section_header_size class) file short)

-- ---- the identification

slice_get-take : (n i : ℕ) (xs : List ℕ) → i < n → slice_get (take n xs) i ≡ slice_get xs i
slice_get-take zero i xs less = absurd (omega arith)
slice_get-take (suc n) i [] less = refl
slice_get-take (suc n) zero (x ∷ xs) less = refl
slice_get-take (suc n) (suc i) (x ∷ xs) less = slice_get-take n i xs (omega arith)

-- the first bytes say it, if they are at least six, or all that there are
pub identified_by : (n : ℕ) (bytes : List ℕ) → (n < 6 → length bytes ≤ n)
    → identification (take n bytes) ≡ identification bytes
identified_by n bytes enough = at (cases_lt n 6)
  where
    order : Class → Option ℕ → Result Identification LoadError
    order class d = and_then (is_big_of d) (λ is_big. Ok (record { class = class; is_big = is_big }))

    said : Bool → Option ℕ → Option ℕ → Result Identification LoadError
    said b c d = cond b (and_then (class_of c) (λ class. order class d)) (Err NotElf)

    at : (n < 6) ⊎ (6 ≤ n) → identification (take n bytes) ≡ identification bytes
    at (inl few) = ap identification (take_all n bytes (enough few))
    at (inr six) =
        ap (λ (front : List ℕ). said (pointwise eqb magic front) (slice_get (take n bytes) 4)
        (slice_get (take n bytes) 5))
        (take-take 4 n bytes (omega arith))
        ∙ ap (λ (c : Option ℕ). said (pointwise eqb magic (take 4 bytes)) c (slice_get (take n bytes) 5))
        (slice_get-take n 4 bytes (omega arith))
        ∙ ap (said (pointwise eqb magic (take 4 bytes)) (slice_get bytes 4)) (slice_get-take n 5 bytes (omega arith))

abbrev given : List ℕ → Result (List ℕ) LoadError
given bytes = Ok bytes

abbrev refused : LoadError → Result (List ℕ) LoadError
refused e = Err e

front_is : (n : ℕ) (bytes : List ℕ) → n ≤ length bytes → range_in 0 n bytes ≡ given (take n bytes)
front_is n bytes some =
    ap (λ (b : Bool). cond b (given (take n bytes)) (refused Truncated)) (le-leb (0 + n) (length bytes) (omega arith))

-- the first bytes, as a call gives them
pub head_is : {A : Type 0} (see : A → List ℕ) (r : Result A LoadError) (n : ℕ) (bytes : List ℕ) → n ≤ length bytes
    → (n < 6 → length bytes ≤ n) → LoadsAsOrNoMemory see r (range_in 0 n bytes)
    → IfOk r (λ x. identification (see x) ≡ identification bytes)
head_is see (Ok x) n bytes some enough h =
    let same : given (take n bytes) ≡ given (see x) = sym (front_is n bytes some) ∙ h in
    let is : take n bytes ≡ see x = cc in
    ap identification (sym is) ∙ identified_by n bytes enough
head_is see (Err e) n bytes some enough h = tt

pub head_refused : {A : Type 0} (see : A → List ℕ) (r : Result A LoadError) (n : ℕ) (bytes : List ℕ)
    → n ≤ length bytes → LoadsAsOrNoMemory see r (range_in 0 n bytes)
    → IfErr r (λ e. e ≢ Memory → identification bytes ≡ Err e)
head_refused see (Ok x) n bytes some h = tt
head_refused see (Err e) n bytes some h = λ ne.
    let w : given (take n bytes) ≡ refused e = sym (front_is n bytes some) ∙ h ne in absurd cc
