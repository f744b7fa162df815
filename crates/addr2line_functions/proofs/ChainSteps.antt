-- The chain of the calls of an address, one depth further, by the calls' numbers.
use Rattle.std.proofs.Common.{◌≡◌, ℕ, ◌+◌, ◌==◌, List, [], ◌∷◌, ◌++◌, length, map, slice_get, Option, Some, None, option_map, MatchOption, refl, sym, ap, subst, ◌∙◌, append_assoc, append-nil, length-append, arith}
use Rattle.std.specs.List.{cons_option}
use Rattle.std.proofs.lemmas.List.{map-append, length-map}
use Rattle.std.proofs.lemmas.List.Elements.{filter_map-append}
use Rattle.addr2line_ranges.specs.Choice.{holder}
use Rattle.addr2line_ranges.specs.Pairs.{Pair}
use Rattle.addr2line_ranges.specs.InlinedCalls.{Call, ranges_of_call, call_ranges, call_at_depth, chain_from, chain_at}
use Rattle.addr2line_ranges.proofs.CallChains.{chain_step}
use Rattle.addr2line_functions.specs.CallNumbers.{calls_of_numbers}
use Rattle.addr2line_functions.specs.CountedFunctions.{depth_of_call}
use Rattle.addr2line_functions.specs.RangesByNumber.{numbered_ranges, number_at}
use Rattle.addr2line_functions.proofs.PairNumbers.{item_at, no_item}
use Rattle.addr2line_functions.proofs.RangeNumbers.{number_at-is}

-- ---- the calls of numbers, by the last number

module _ (cs : List Call) (ns before : List ℕ) (n : ℕ) (is : ns ≡ before ++ n ∷ []) where
  numbers_and : (o : Option Call) → slice_get cs n ≡ o
      → calls_of_numbers cs ns ≡ calls_of_numbers cs before ++ cons_option o []
  numbers_and o found =
      ap (calls_of_numbers cs) is
      ∙ filter_map-append (slice_get cs) before (n ∷ [])
      ∙ ap (λ x. calls_of_numbers cs before ++ cons_option x []) found

  -- with the call of the last number
  pub numbers_more : (c : Call) → slice_get cs n ≡ Some c
      → calls_of_numbers cs ns ≡ calls_of_numbers cs before ++ c ∷ []
  numbers_more c found = numbers_and (Some c) found

  -- which may be that of none
  pub numbers_skip : slice_get cs n ≡ None → calls_of_numbers cs ns ≡ calls_of_numbers cs before
  numbers_skip none = numbers_and None none ∙ append-nil (calls_of_numbers cs before)

-- ---- one depth further

module _ (cs : List Call) (a : ℕ) where
  abbrev Goes : ℕ → Option Call → Type 0
  Goes depth o =
      MatchOption o (chain_from cs a depth ≡ []) (λ c. chain_from cs a depth ≡ c ∷ chain_from cs a (depth + 1))

  -- the number that a search of the ranges of a depth finds
  abbrev pub found_at : ℕ → Option ℕ
  found_at depth = number_at depth a (numbered_ranges depth_of_call ranges_of_call cs)

  -- the range that holds the address
  abbrev held : ℕ → Option (Pair Call)
  held depth = holder (λ (p : Pair Call). p.range) a (call_ranges depth cs)

  number_held : (depth : ℕ) (o : Option ℕ) → found_at depth ≡ o
      → option_map (λ (p : Pair Call). p.number) (held depth) ≡ o
  number_held depth o e = sym (number_at-is depth_of_call ranges_of_call depth a cs) ∙ e

  -- it is that of the next call
  pub found_call : (depth n : ℕ) → found_at depth ≡ Some n
      → (c : Call) × (slice_get cs n ≡ Some c) × (chain_from cs a depth ≡ c ∷ chain_from cs a (depth + 1))
  found_call depth n e = by (held depth) refl (number_held depth (Some n) e)
    where
      by : (o : Option (Pair Call)) → held depth ≡ o → option_map (λ (p : Pair Call). p.number) o ≡ Some n
          → (c : Call) × (slice_get cs n ≡ Some c) × (chain_from cs a depth ≡ c ∷ chain_from cs a (depth + 1))
      by None is none = absurd cc
      by (Some p) is some =
          let at : call_at_depth cs a depth ≡ Some p.unit = ap (option_map (λ (q : Pair Call). q.unit)) is in (
            p.unit,
            item_at ranges_of_call (λ (q : Pair Call). q.unit.depth == depth) a cs n (number_held depth (Some n) e)
                ∙ at,
            subst (Goes depth) at (chain_step cs a depth),
          )

  -- where there is none, the chain ends
  pub found_none : (depth : ℕ) → found_at depth ≡ None → chain_from cs a depth ≡ []
  found_none depth e =
      let none : call_at_depth cs a depth ≡ None =
      no_item ranges_of_call (λ (q : Pair Call). q.unit.depth == depth) a cs (number_held depth None e) in
      subst (Goes depth) none (chain_step cs a depth)

  -- ---- the call of each number so far, and the calls that are left

  abbrev pub chain_with : List ℕ → List (Option Call)
  chain_with ns = map (slice_get cs) ns ++ map Some (chain_from cs a (length ns))

  pub chain_more : (ns : List ℕ) (n : ℕ) → found_at (length ns) ≡ Some n → chain_with (ns ++ n ∷ []) ≡ chain_with ns
  chain_more ns n e =
      let f = found_call (length ns) n e in
      let before = map (slice_get cs) ns in
      ap (λ k. map (slice_get cs) (ns ++ n ∷ []) ++ map Some (chain_from cs a k)) (length-append ns (n ∷ []))
      ∙ ap (λ l. l ++ map Some (chain_from cs a (length ns + 1)))
      (map-append (slice_get cs) ns (n ∷ []) ∙ ap (λ o. before ++ o ∷ []) f.1)
      ∙ append_assoc before (Some f.0 ∷ []) (map Some (chain_from cs a (length ns + 1)))
      ∙ ap (λ l. before ++ map Some l) (sym f.2)

  pub chain_whole : (ns : List ℕ) → found_at (length ns) ≡ None → map (slice_get cs) ns ≡ chain_with ns
  chain_whole ns e =
      sym (append-nil (map (slice_get cs) ns))
      ∙ ap (λ l. map (slice_get cs) ns ++ map Some l) (sym (found_none (length ns) e))

  pub left_more : (ns : List ℕ) (n : ℕ) → found_at (length ns) ≡ Some n
      → length (chain_from cs a (length ns)) ≡ length (chain_from cs a (length (ns ++ n ∷ []))) + 1
  left_more ns n e =
      let next = ap length (found_call (length ns) n e).2 in
      let same = ap (λ k. length (chain_from cs a k)) (length-append ns (n ∷ [])) in
      omega (arith, next, same)

  -- there are as many numbers so far, with the calls that are left, as calls in all
  pub chain_length : (ns : List ℕ) → chain_with ns ≡ map Some (chain_at cs a)
      → length ns + length (chain_from cs a (length ns)) ≡ length (chain_at cs a)
  chain_length ns whole =
      let left = chain_from cs a (length ns) in
      let same = ap length whole in
      let both = length-append (map (slice_get cs) ns) (map Some left) in
      let numbers = length-map ns (slice_get cs) in
      let calls = length-map left Some in
      let all = length-map (chain_at cs a) Some in
      omega (arith, same, both, numbers, calls, all)
