-- The lines of what is taken of an input.
use Rattle.std.proofs.Common.{◌≡◌, ◌≢◌, ◌∙◌, ℕ, ◌+◌, ◌-◌, ◌<◌, Bool, true, false, List, [], ◌∷◌, ◌++◌, All, length, take, Option, None, Some, cond, refl, sym, ap, arith, eqb-true, get_or, ne_eqb, append_assoc, append-nil, take_all, true≢false}
use Rattle.std.specs.Prelude.{◌==◌, ◌||◌}
use Rattle.std.specs.Str.Lines.{lines, lines_of_parts, strip_carriage_return}
use Rattle.std.specs.List.{slice_split}
use Rattle.std.specs.Io.{StopsAt}
use Rattle.std.specs.Io.BufRead.{ends_with_byte, strip_last}
use Rattle.std.proofs.lemmas.List.{take_more}
use Rattle.std.proofs.lemmas.List.Splits.{length-slice_split, slice_split_at, slice_split_none}
use Rattle.linemap_lookup.specs.LineReads.{HasAddress, ReadsLine, YieldsAddress, carriage_return, line_feed, without_end}
use Rattle.linemap_lookup.specs.declared.lines.LineBuffer.{LineBuffer}
use Rattle.linemap_lookup.proofs.LineParts.{last_byte, others}

fails : (xs : List ℕ) → All (λ x. x ≢ line_feed) xs → All (λ x. (x == line_feed) ≡ false) xs
fails xs none = λ k d l. ne_eqb (get_or xs k d) line_feed (none k d l)

before_others : (x : List ℕ) (parts : List (List ℕ)) → 0 < length parts
    → lines_of_parts (x ∷ parts) ≡ strip_carriage_return x ∷ lines_of_parts parts
before_others x [] some = absurd (omega arith)
before_others x (y ∷ more) some = refl

same_strip : (xs : List ℕ) → strip_last carriage_return xs ≡ strip_carriage_return xs
same_strip [] = refl
same_strip (x ∷ xs) =
    ap (λ b. cond b (take (length (x ∷ xs) - 1) (x ∷ xs)) (x ∷ xs)) (last_byte carriage_return x xs)

-- a line that has its end
body_and_end : (xs : List ℕ) → ends_with_byte line_feed xs ≡ true → xs ≡ take (length xs - 1) xs ++ line_feed ∷ []
body_and_end [] ends = absurd (let no : true ≡ false = sym ends in cc)
body_and_end (x ∷ xs) ends =
    let all = x ∷ xs in
    sym (take_all (length all - 1 + 1) all (omega arith)) ∙ take_more all (length all - 1) 0 (omega arith)
    ∙ ap (λ y. take (length all - 1) all ++ y ∷ [])
    (eqb-true (get_or all (length all - 1) 0) line_feed (sym (last_byte line_feed x xs) ∙ ends))

stripped : (xs : List ℕ) → ends_with_byte line_feed xs ≡ true
    → strip_carriage_return (take (length xs - 1) xs) ≡ without_end xs
stripped xs ends =
    let body : strip_last line_feed xs ≡ take (length xs - 1) xs =
    ap (λ b. cond b (take (length xs - 1) xs) xs) ends in
    sym (same_strip (take (length xs - 1) xs)) ∙ ap (strip_last carriage_return) (sym body)
    ∙ sym (ap (λ b. cond b (strip_last carriage_return (strip_last line_feed xs)) xs) ends)

-- it is the first line before what follows
pub line_before : (xs rest : List ℕ) → StopsAt xs line_feed → ends_with_byte line_feed xs ≡ true
    → lines (xs ++ rest) ≡ without_end xs ∷ lines rest
line_before xs rest stops ends =
    let body = take (length xs - 1) xs in
    let joined : xs ++ rest ≡ body ++ line_feed ∷ rest =
    ap (λ l. l ++ rest) (body_and_end xs ends) ∙ append_assoc body (line_feed ∷ []) rest in
    ap lines joined
    ∙ ap lines_of_parts (slice_split_at (λ b. b == line_feed) body line_feed rest (fails body stops) refl)
    ∙ before_others body (slice_split (λ b. b == line_feed) rest)
    (omega (arith, length-slice_split (λ b. b == line_feed) rest))
    ∙ ap (λ l. l ∷ lines rest) (stripped xs ends)

by_end : (xs : List ℕ) (b : Bool) → ends_with_byte line_feed xs ≡ b → StopsAt xs line_feed → 0 < length xs
    → lines xs ≡ without_end xs ∷ []
by_end xs true ends stops some =
    ap lines (sym (append-nil xs)) ∙ line_before xs [] stops ends
by_end xs false ends stops some =
    ap lines_of_parts (slice_split_none (λ b. b == line_feed) xs (fails xs (others xs stops ends)))
    ∙ ap (λ b. cond b [] (xs ∷ [])) (ne_eqb (length xs) 0 (λ z. omega arith))
    ∙ ap (λ l. l ∷ []) (sym (ap (λ b. cond b (strip_last carriage_return (strip_last line_feed xs)) xs) ends))

-- it is a line
pub one_line : (xs : List ℕ) → StopsAt xs line_feed → 0 < length xs → lines xs ≡ without_end xs ∷ []
one_line xs stops some = by_end xs _ refl stops some

-- ---- its address

second : (a b : Bool) → (a || b) ≡ true → a ≡ false → b ≡ true
second true b either not = absurd (true≢false not)
second false b either not = either

pub yields : (a b : Option (List ℕ)) (before mid after : LineBuffer) (found : Option (Option ℕ)) → ReadsLine a b mid
    → 0 < length mid.line.items → HasAddress mid after found → before.is_at_end ≡ false
    → mid.has_failed ≡ before.has_failed → mid.tries_left < before.tries_left → YieldsAddress a b before after found
yields a b before mid after None reads some has unfinished failed fewer = record {
  rest = mid.line.items;
  consumes = reads.consumes;
  none = λ clear. absurd (true≢false (sym has.0 ∙ clear));
}
yields a b before mid after (Some address) reads some has unfinished failed fewer =
    let same : after ≡ mid = has.2 in
    let at_end : after.is_at_end ≡ mid.is_at_end = ap (λ (x : LineBuffer). x.is_at_end) same in
    let tries : after.tries_left ≡ mid.tries_left = ap (λ (x : LineBuffer). x.tries_left) same in (
      without_end mid.line.items,
      record {
        taken = mid.line.items;
        consumes = reads.consumes;
        is_line = one_line mid.line.items reads.one_end some;
        is_text = has.0;
        first = λ not rest.
            line_before mid.line.items rest reads.one_end
            (second mid.is_at_end (ends_with_byte line_feed mid.line.items) reads.whole (sym at_end ∙ not));
        last = λ last. reads.end (sym at_end ∙ last);
      },
      has.1,
      unfinished,
      ap (λ (x : LineBuffer). x.has_failed) same ∙ failed,
      omega arith,
    )
