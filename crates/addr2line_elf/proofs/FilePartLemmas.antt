-- A file's bytes where a part is written over them, and what a part has of them.
use Rattle.std.proofs.Common.{◌≡◌, ℕ, ◌+◌, ◌-◌, ◌≤◌, ◌⊎◌, inl, inr, Bool, true, false, cond, ltb, leb, ◌&&◌, ◌||◌, List, [], ◌∷◌, ◌++◌, length, take, drop, replicate, Option, Some, Result, Ok, Err, refl, sym, ap, ◌∙◌, arith, append_assoc, append-nil, subst}
use Rattle.std.specs.List.{find, list_any}
use Rattle.std.proofs.lemmas.List.{take_at, drop_at, take-take, take-append-le, drop-append-le, drop-take, drop-drop, drop_all, length-take-le, length-drop, length-append, length-replicate, take_all}
use Rattle.std.proofs.lemmas.Slice.{drop-append-drop}
use Rattle.std.proofs.lemmas.Bool.{and_cases, and_parts, or_parts, cases_Bool, ltb-false, leb-true, le-leb, le-ltb}
use Rattle.addr2line_elf.specs.declared.file_parts.FilePart.{FilePart}
use Rattle.addr2line_elf.specs.declared.error.LoadError.{LoadError}
use Rattle.addr2line_elf.specs.declared.error.LoadError.TheVariants.{Truncated}
use Rattle.addr2line_elf.specs.FileParts.{end_of, overwrite, overwrite_all, file_bytes, range_in, has, overlaps, IsThere, AreThere, AreApart, HasParts, PartialFile, ReadsParts}

-- ---- bytes that are written over others

length-overwrite : (bytes : List ℕ) (p : FilePart) → end_of p ≤ length bytes
    → length (overwrite bytes p) ≡ length bytes
length-overwrite bytes p within =
    let start : length (take p.offset bytes) ≡ p.offset = length-take-le p.offset bytes (omega arith) in
    omega (
      arith,
      length-append (take p.offset bytes ++ p.bytes) (drop (end_of p) bytes),
      length-append (take p.offset bytes) p.bytes,
      length-drop (end_of p) bytes,
    )

-- the bytes themselves
there_itself : (bytes : List ℕ) (p : FilePart) → end_of p ≤ length bytes → IsThere (overwrite bytes p) p
there_itself bytes p within =
    let start : length (take p.offset bytes) ≡ p.offset = length-take-le p.offset bytes (omega arith) in
    let rest : List ℕ = drop (end_of p) bytes in
    record {
      within = omega (arith, length-overwrite bytes p within);
      same =
          ap (λ (xs : List ℕ). take (length p.bytes) (drop p.offset xs))
          (append_assoc (take p.offset bytes) p.bytes rest)
          ∙ ap (take (length p.bytes)) (drop_at (take p.offset bytes) (p.bytes ++ rest) p.offset start)
          ∙ take_at p.bytes rest (length p.bytes) refl;
    }

-- bytes before them
before : (m k n : ℕ) (bytes rest : List ℕ) → n ≤ k → m + k ≤ length bytes
    → take n (drop m (take (m + k) bytes ++ rest)) ≡ take n (drop m bytes)
before m k n bytes rest short within =
    let front : length (take (m + k) bytes) ≡ m + k = length-take-le (m + k) bytes within in
    let there : m ≤ length (take (m + k) bytes) = omega arith in
    let enough : n ≤ length (drop m (take (m + k) bytes)) = omega (arith, length-drop m (take (m + k) bytes)) in
    ap (take n) (drop-append-le m (take (m + k) bytes) rest there)
    ∙ take-append-le n (drop m (take (m + k) bytes)) rest enough
    ∙ ap (take n) (drop-take m k bytes)
    ∙ take-take n k (drop m bytes) short

-- another part that shares no bytes with them
there_still : (bytes : List ℕ) (p q : FilePart) → end_of p ≤ length bytes
    → overlaps p.offset (length p.bytes) q ≡ false → IsThere bytes q → IsThere (overwrite bytes p) q
there_still bytes p q within apart h =
    record {
      within = omega (arith, h.within, length-overwrite bytes p within);
      same =
          at (and_cases (ltb q.offset (p.offset + length p.bytes))
          (ltb p.offset q.offset || ltb (p.offset - q.offset) (length q.bytes)) apart)
          ∙ h.same;
    }
  where
    n : ℕ
    n = length q.bytes

    at : (ltb q.offset (p.offset + length p.bytes) ≡ false)
        ⊎ ((ltb p.offset q.offset || ltb (p.offset - q.offset) n) ≡ false)
        → take n (drop q.offset (overwrite bytes p)) ≡ take n (drop q.offset bytes)
    at (inl late) =
        let after : end_of p ≤ q.offset = ltb-false q.offset (p.offset + length p.bytes) late in
        let start : length (take p.offset bytes) ≡ p.offset = length-take-le p.offset bytes (omega arith) in
        let long : length (take p.offset bytes ++ p.bytes) ≡ end_of p =
        omega (arith, length-append (take p.offset bytes) p.bytes) in
        ap (take n) (drop-append-drop (end_of p) bytes (take p.offset bytes ++ p.bytes) q.offset after long)
    at (inr early) =
        let parts = or_parts (ltb p.offset q.offset) (ltb (p.offset - q.offset) n) early in
        let begins : q.offset ≤ p.offset = ltb-false p.offset q.offset parts.0 in
        let ends : n ≤ p.offset - q.offset = ltb-false (p.offset - q.offset) n parts.1 in
        let whole : p.offset ≡ q.offset + (p.offset - q.offset) = omega arith in
        let rest : List ℕ = drop (end_of p) bytes in
        ap (λ (xs : List ℕ). take n (drop q.offset xs)) (append_assoc (take p.offset bytes) p.bytes rest)
        ∙ ap (λ (o : ℕ). take n (drop q.offset (take o bytes ++ (p.bytes ++ rest)))) whole
        ∙ before q.offset (p.offset - q.offset) n bytes (p.bytes ++ rest) ends (omega arith)

all_there : (bytes : List ℕ) (p : FilePart) (ps : List FilePart) → end_of p ≤ length bytes
    → list_any (overlaps p.offset (length p.bytes)) ps ≡ false → AreThere bytes ps
    → AreThere (overwrite bytes p) (ps ++ p ∷ [])
all_there bytes p [] within apart h = (there_itself bytes p within, tt)
all_there bytes p (q ∷ qs) within apart h =
    let parts =
    or_parts (overlaps p.offset (length p.bytes) q) (list_any (overlaps p.offset (length p.bytes)) qs) apart in
    (there_still bytes p q within parts.0 h.0, all_there bytes p qs within parts.1 h.1)

-- ---- parts that share no bytes

and_none : (b : Bool) → (b && false) ≡ false
and_none true = refl
and_none false = refl

-- the one is apart from the other, and the other from it
apart_from : (p q : FilePart) → overlaps p.offset (length p.bytes) q ≡ false
    → overlaps q.offset (length q.bytes) p ≡ false
apart_from p q apart =
    at (and_cases (ltb q.offset (p.offset + length p.bytes))
    (ltb p.offset q.offset || ltb (p.offset - q.offset) (length q.bytes)) apart)
  where
    both : Bool → Bool → Bool → Bool
    both ends begins inside = ends && (begins || inside)

    at : (ltb q.offset (p.offset + length p.bytes) ≡ false)
        ⊎ ((ltb p.offset q.offset || ltb (p.offset - q.offset) (length q.bytes)) ≡ false)
        → overlaps q.offset (length q.bytes) p ≡ false
    at (inl late) =
        let after : p.offset + length p.bytes ≤ q.offset = ltb-false q.offset (p.offset + length p.bytes) late in
        let begins : ltb q.offset p.offset ≡ false = le-ltb q.offset p.offset (omega arith) in
        let inside : ltb (q.offset - p.offset) (length p.bytes) ≡ false =
        le-ltb (q.offset - p.offset) (length p.bytes) (omega arith) in
        ap (λ (b : Bool).
        both (ltb p.offset (q.offset + length q.bytes)) b (ltb (q.offset - p.offset) (length p.bytes))) begins
        ∙ ap (λ (b : Bool). both (ltb p.offset (q.offset + length q.bytes)) false b) inside
        ∙ and_none (ltb p.offset (q.offset + length q.bytes))
    at (inr early) =
        let parts = or_parts (ltb p.offset q.offset) (ltb (p.offset - q.offset) (length q.bytes)) early in
        let begins : q.offset ≤ p.offset = ltb-false p.offset q.offset parts.0 in
        let short : length q.bytes ≤ p.offset - q.offset = ltb-false (p.offset - q.offset) (length q.bytes) parts.1 in
        let ends : ltb p.offset (q.offset + length q.bytes) ≡ false =
        le-ltb p.offset (q.offset + length q.bytes) (omega arith) in
        ap (λ (b : Bool). both b (ltb q.offset p.offset) (ltb (q.offset - p.offset) (length p.bytes))) ends

none_push : (test : FilePart → Bool) (ps : List FilePart) (p : FilePart) → list_any test ps ≡ false → test p ≡ false
    → list_any test (ps ++ p ∷ []) ≡ false
none_push test [] p none last = ap (λ (b : Bool). b || false) last
none_push test (q ∷ qs) p none last =
    let parts = or_parts (test q) (list_any test qs) none in
    ap (λ (b : Bool). b || list_any test (qs ++ p ∷ [])) parts.0 ∙ none_push test qs p parts.1 last

all_apart : (p : FilePart) (ps : List FilePart) → list_any (overlaps p.offset (length p.bytes)) ps ≡ false
    → AreApart ps → AreApart (ps ++ p ∷ [])
all_apart p [] apart all = (refl, tt)
all_apart p (q ∷ qs) apart all =
    let parts =
    or_parts (overlaps p.offset (length p.bytes) q) (list_any (overlaps p.offset (length p.bytes)) qs) apart in (
      none_push (overlaps q.offset (length q.bytes)) qs p all.0 (apart_from p q parts.0),
      all_apart p qs parts.1 all.1,
    )

overwrite_all-push : (bytes : List ℕ) (ps : List FilePart) (p : FilePart)
    → overwrite_all bytes (ps ++ p ∷ []) ≡ overwrite (overwrite_all bytes ps) p
overwrite_all-push bytes [] p = refl
overwrite_all-push bytes (q ∷ qs) p = overwrite_all-push (overwrite bytes q) qs p

-- ---- files

-- one of which nothing is in memory
pub has_none : (len : ℕ) → HasParts len [] (file_bytes len [])
has_none len = record { length_is = length-replicate len 0; there = tt; apart = tt }

-- one more part
pub length_push : (len : ℕ) (ps : List FilePart) (p : FilePart) → end_of p ≤ len → HasParts len ps (file_bytes len ps)
    → length (file_bytes len (ps ++ p ∷ [])) ≡ len
length_push len ps p within h =
    ap length (overwrite_all-push (replicate len 0) ps p)
    ∙ length-overwrite (file_bytes len ps) p (omega (arith, h.length_is)) ∙ h.length_is

pub has_push : (len : ℕ) (ps : List FilePart) (p : FilePart) → end_of p ≤ len
    → list_any (overlaps p.offset (length p.bytes)) ps ≡ false → HasParts len ps (file_bytes len ps)
    → HasParts len (ps ++ p ∷ []) (file_bytes len (ps ++ p ∷ []))
has_push len ps p within apart h =
    let inside : end_of p ≤ length (file_bytes len ps) = omega (arith, h.length_is) in
    record {
      length_is = length_push len ps p within h;
      there =
          subst (λ (bytes : List ℕ). AreThere bytes (ps ++ p ∷ [])) (sym (overwrite_all-push (replicate len 0) ps p))
          (all_there (file_bytes len ps) p ps inside apart h.there);
      apart = all_apart p ps apart h.apart;
    }

-- one that is all in memory
abbrev whole_part : List ℕ → FilePart
whole_part bytes = record { offset = 0; bytes = bytes }

pub whole_is : (bytes : List ℕ) → file_bytes (length bytes) (whole_part bytes ∷ []) ≡ bytes
whole_is bytes =
    ap (λ (xs : List ℕ). bytes ++ xs)
    (drop_all (0 + length bytes) (replicate (length bytes) 0)
    (omega (arith, length-replicate {A = ℕ} (length bytes) 0)))
    ∙ append-nil bytes

pub has_whole : (bytes : List ℕ)
    → HasParts (length bytes) (whole_part bytes ∷ []) (file_bytes (length bytes) (whole_part bytes ∷ []))
has_whole bytes =
    has_push (length bytes) [] (whole_part bytes) (omega arith) refl (has_none (length bytes))

-- what is known of a file that is one part
pub ruleset whole_file = (whole_is, has_whole)

-- ---- a part that has the bytes of a range

pub found : (offset size : ℕ) (bytes : List ℕ) (p : FilePart) (ps : List FilePart)
    → find (has offset size) ps ≡ Some p → AreThere bytes ps → IsThere bytes p × (has offset size p ≡ true)
found offset size bytes p [] is h = absurd cc
found offset size bytes p (q ∷ qs) is h =
    at (cases_Bool (has offset size q)) (λ other. found offset size bytes p qs other h.1)
  where
    first : Bool → Option FilePart
    first b = cond b (Some q) (find (has offset size) qs)

    at : (has offset size q ≡ true) ⊎ (has offset size q ≡ false)
        → (find (has offset size) qs ≡ Some p → IsThere bytes p × (has offset size p ≡ true))
        → IsThere bytes p × (has offset size p ≡ true)
    at (inl it_has) later =
        let same : Some q ≡ Some p = sym (ap first it_has) ∙ is in
        let it : q ≡ p = cc in (
          subst (λ (r : FilePart). IsThere bytes r) it h.0,
          subst (λ (r : FilePart). has offset size r ≡ true) it it_has,
        )
    at (inr it_lacks) later = later (sym (ap first it_lacks) ∙ is)

-- where the range is in the part
pub record IsInPart (offset size : ℕ) (bytes : List ℕ) (p : FilePart) : Type 0 where
  pub begins : p.offset ≤ offset
  pub ends : offset - p.offset + size ≤ length p.bytes
  pub same : take size (drop (offset - p.offset) p.bytes) ≡ take size (drop offset bytes)

pub in_part : (offset size : ℕ) (bytes : List ℕ) (p : FilePart) → IsThere bytes p → has offset size p ≡ true
    → IsInPart offset size bytes p
in_part offset size bytes p h it_has =
    let parts = and_parts (leb p.offset offset) (leb (offset + size - p.offset) (length p.bytes)) it_has in
    let begins : p.offset ≤ offset = leb-true p.offset offset parts.0 in
    let last : offset + size - p.offset ≤ length p.bytes =
    leb-true (offset + size - p.offset) (length p.bytes) parts.1 in
    let d : ℕ = offset - p.offset in
    let k : ℕ = length p.bytes - (offset - p.offset) in
    let whole : length p.bytes ≡ (offset - p.offset) + (length p.bytes - (offset - p.offset)) = omega arith in
    let place : p.offset + (offset - p.offset) ≡ offset = omega arith in
    let short : size ≤ length p.bytes - (offset - p.offset) = omega arith in
    record {
      begins = begins;
      ends = omega arith;
      same =
          ap (λ (xs : List ℕ). take size (drop d xs)) (sym h.same)
          ∙ ap (λ (m : ℕ). take size (drop d (take m (drop p.offset bytes)))) whole
          ∙ ap (take size) (drop-take d k (drop p.offset bytes))
          ∙ take-take size k (drop d (drop p.offset bytes)) short
          ∙ ap (take size) (drop-drop d p.offset bytes)
          ∙ ap (λ (m : ℕ). take size (drop m bytes)) place;
    }

pub found_in : (len offset size : ℕ) (ps qs : List FilePart) (p : FilePart) → qs ≡ ps
    → Some p ≡ find (has offset size) qs → HasParts len ps (file_bytes len ps)
    → IsInPart offset size (file_bytes len ps) p
found_in len offset size ps qs p same is h =
    let at = found offset size (file_bytes len ps) p ps (sym (is ∙ ap (find (has offset size)) same)) h.there in
    in_part offset size (file_bytes len ps) p at.0 at.1

-- all bytes, as a range
pub all_in_range : (bytes : List ℕ) → range_in 0 (length bytes) bytes ≡ Ok bytes
all_in_range bytes =
    ap (λ (b : Bool). cond b (given (take (length bytes) bytes)) (Err Truncated))
    (le-leb (0 + length bytes) (length bytes) (omega arith))
    ∙ ap given (take_all (length bytes) bytes (omega arith))
  where
    given : List ℕ → Result (List ℕ) LoadError
    given xs = Ok xs

-- ---- reads

pub are_there_push : (bytes : List ℕ) (ps : List FilePart) (p : FilePart) → AreThere bytes ps → IsThere bytes p
    → AreThere bytes (ps ++ p ∷ [])
are_there_push bytes [] p all it = (it, tt)
are_there_push bytes (q ∷ qs) p all it = (all.0, are_there_push bytes qs p all.1 it)

pub reads_none : {S : Type 0} (is_file : S → List ℕ → Type 0) (s : S) (f : PartialFile) → ReadsParts is_file s f s f
reads_none is_file s f = record {
  same_length = refl;
  same_file = λ bytes is. is;
  there = λ bytes is all. all;
}

pub reads_then : {S : Type 0} (is_file : S → List ℕ → Type 0) (s t u : S) (f g h : PartialFile)
    → ReadsParts is_file s f t g → ReadsParts is_file t g u h → ReadsParts is_file s f u h
reads_then is_file s t u f g h first second = record {
  same_length = second.same_length ∙ first.same_length;
  same_file = λ bytes is. second.same_file bytes (first.same_file bytes is);
  there = λ bytes is all. second.there bytes (first.same_file bytes is) (first.there bytes is all);
}
