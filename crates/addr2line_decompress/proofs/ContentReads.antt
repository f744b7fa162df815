-- The bytes of sections, in a file and in one that agrees with it.
use Rattle.std.proofs.Common.{◌≡◌, ℕ, ◌+◌, ◌-◌, ◌≤◌, Bool, true, false, cond, eqb, ltb, List, [], ◌++◌, length, take, drop, Result, Ok, Err, refl, sym, ap, ◌∙◌, arith, append_assoc, append-nil, length-drop}
use Rattle.std.proofs.lemmas.Bool.{le-ltb, ltb-false}
use Rattle.std.proofs.lemmas.List.{length-append, take-append-le, drop-append-le, drop-drop, drop_at, take_at}
use Rattle.gimli_core_readers.specs.Error.{Error}
use Rattle.gimli_core_readers.specs.View.{View, prefix, unexpected_end}
use Rattle.gimli_core_readers.specs.Parsers.{proceed, truncate, here, value_of}
use Rattle.gimli_lines_write_bytes.specs.BytesAt.{bytes_at}
use Rattle.addr2line_elf.specs.declared.headers.SectionHeader.{SectionHeader}
use Rattle.addr2line_elf.specs.ImageLoading.{or_truncated}
use Rattle.addr2line_elf.specs.ElfImages.{contents}

-- ---- a section whose bytes are in the file

abbrev part_of : ℕ → ℕ → List ℕ → List ℕ
part_of offset size bytes = take size (drop offset bytes)

pub contents_in : (is_big : Bool) (bytes : List ℕ) (h : SectionHeader) → eqb h.section_type 8 ≡ false
    → h.offset + h.size ≤ length bytes
    → contents h (bytes_at is_big 0 bytes) ≡ Ok (bytes_at is_big (0 + h.offset) (take h.size (drop h.offset bytes)))
contents_in is_big bytes h some within =
    let v = bytes_at is_big 0 bytes in
    let w = bytes_at is_big (0 + h.offset) (drop h.offset bytes) in
    let starts : h.offset ≤ length bytes = omega arith in
    let ends : h.size ≤ length (drop h.offset bytes) = omega (arith, length-drop h.offset bytes) in
    rw some
    (ap (λ (b : Bool). or_truncated (value_of (proceed (proceed
    (cond {A = Result (Unit {0} × View) Error} b (Err (unexpected_end v)) (Ok (tt, w))) (λ _. truncate h.size))
    (λ _. here)))) (le-ltb _ _ starts)
    ∙ ap (λ (b : Bool). or_truncated (value_of (proceed
    (cond {A = Result (Unit {0} × View) Error} b (Err (unexpected_end w)) (Ok (tt, prefix h.size w)))
    (λ _. here)))) (le-ltb _ _ ends))

-- a section without bytes in the file has none wherever it is
pub contents_nobits : (is_big : Bool) (xs ys : List ℕ) (h : SectionHeader) → eqb h.section_type 8 ≡ true
    → contents h (bytes_at is_big 0 xs) ≡ contents h (bytes_at is_big 0 ys)
contents_nobits is_big xs ys h nobits = rw nobits refl

-- ---- parts of a file before and after what is changed

take_front : (offset size : ℕ) (front rest : List ℕ) → offset + size ≤ length front
    → take size (drop offset (front ++ rest)) ≡ take size (drop offset front)
take_front offset size front rest within =
    let starts : offset ≤ length front = omega arith in
    let ends : size ≤ length (drop offset front) = omega (arith, length-drop offset front) in
    ap (take size) (drop-append-le offset front rest starts) ∙ take-append-le size (drop offset front) rest ends

-- in a part between, wherever that begins
take_between : (offset size : ℕ) (front middle rest : List ℕ) → length front ≤ offset
    → offset + size ≤ length front + length middle
    → take size (drop offset (front ++ (middle ++ rest))) ≡ take size (drop (offset - length front) middle)
take_between offset size front middle rest starts ends =
    let more : length front + (offset - length front) ≡ offset = omega arith in
    ap (take size)
    (sym (ap (λ (n : ℕ). drop n (front ++ (middle ++ rest))) more)
    ∙ sym (drop-drop (offset - length front) (length front) (front ++ (middle ++ rest)))
    ∙ ap (drop (offset - length front)) (drop_at front (middle ++ rest) (length front) refl))
    ∙ take_front (offset - length front) size middle rest (omega arith)

-- Two files that differ between a start and an end, and after the end of the first.
pub record Agree (xs ys : List ℕ) (start end : ℕ) : Type 0 where
  pub front : List ℕ
  pub old : List ℕ
  pub new : List ℕ
  pub back : List ℕ
  pub more : List ℕ
  pub old_is : xs ≡ front ++ (old ++ back)
  pub new_is : ys ≡ front ++ (new ++ (back ++ more))
  pub start_is : length front ≡ start
  pub old_end : length front + length old ≡ end
  pub new_end : length front + length new ≡ end

-- a part that is in the first, and not between, is the same in both
pub same_part : (xs ys : List ℕ) (start end offset size : ℕ) → Agree xs ys start end → offset + size ≤ length xs
    → (ltb start (offset + size) ≡ false → take size (drop offset ys) ≡ take size (drop offset xs))
    × (ltb offset end ≡ false → take size (drop offset ys) ≡ take size (drop offset xs))
same_part xs ys start end offset size a within = (
  λ before.
      let le : offset + size ≤ start = ltb-false start (offset + size) before in
      let room : offset + size ≤ length a.front = omega (arith, a.start_is) in
      ap (λ (l : List ℕ). take size (drop offset l)) a.new_is
      ∙ take_front offset size a.front (a.new ++ (a.back ++ a.more)) room
      ∙ sym (ap (λ (l : List ℕ). take size (drop offset l)) a.old_is
      ∙ take_front offset size a.front (a.old ++ a.back) room),
  λ after_end.
      let le : end ≤ offset = ltb-false offset end after_end in
      let whole : length xs ≡ length a.front + (length a.old + length a.back) =
      ap length a.old_is ∙ length-append a.front (a.old ++ a.back)
      ∙ ap (λ n. length a.front + n) (length-append a.old a.back) in
      ap (λ (l : List ℕ). take size (drop offset l)) (a.new_is ∙ sym (append_assoc a.front a.new (a.back ++ a.more)))
      ∙ take_between offset size (a.front ++ a.new) a.back a.more
      (omega (arith, length-append a.front a.new, a.new_end))
      (omega (arith, length-append a.front a.new, a.new_end, a.old_end))
      ∙ ap (λ (n : ℕ). take size (drop (offset - n) a.back))
      (omega (arith, length-append a.front a.new, length-append a.front a.old, a.new_end, a.old_end))
      ∙ sym (ap (λ (l : List ℕ). take size (drop offset l))
      (a.old_is ∙ sym (append_assoc a.front a.old a.back)
      ∙ sym (ap (λ (l : List ℕ). (a.front ++ a.old) ++ l) (append-nil a.back)))
      ∙ take_between offset size (a.front ++ a.old) a.back []
      (omega (arith, length-append a.front a.old, a.old_end))
      (omega (arith, length-append a.front a.old, a.old_end))),
)

-- a part after the whole first
pub appended_part : (front text rest : List ℕ) (offset size : ℕ) → length front ≡ offset → length text ≡ size
    → take size (drop offset (front ++ (text ++ rest))) ≡ text
appended_part front text rest offset size at long =
    ap (take size) (drop_at front (text ++ rest) offset at) ∙ take_at text rest size long
