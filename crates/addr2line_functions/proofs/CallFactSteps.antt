-- The name and the facts of a call, found by a loop over its attributes that keeps of each kind of fact the last.
use Rattle.std.proofs.Common.{◌≡◌, ℕ, ◌+◌, ◌<◌, ◌≤◌, List, [], ◌∷◌, ◌++◌, length, get_or, drop, map, Option, Some, None, Result, Ok, Err, refl, sym, ap, ◌∙◌}
use Rattle.std.specs.List.{filter_map, last_or}
use Rattle.std.proofs.lemmas.List.{at_drop_more, at_drop_all}
use Rattle.std.proofs.lemmas.List.Elements.{filter_map-append}
use Rattle.gimli_units_entries.specs.Error.{Error}
use Rattle.gimli_units_entries.specs.View.{View}
use Rattle.gimli_units_entries.specs.Range.{Range}
use Rattle.gimli_units_entries.specs.AttributeValues.{RawAttribute}
use Rattle.gimli_units_entries.specs.EntryRows.{Row}
use Rattle.gimli_units_entries.specs.Results.{and_then}
use Rattle.addr2line_names.specs.UnitFacts.{UnitInFile}
use Rattle.addr2line_ranges.specs.EntryRanges.{ranges_of_facts}
use Rattle.addr2line_ranges.specs.UnitRanges.{RangeFact, begins_at, ends_at, has_size, has_list, no_fact, fact_of, begin_in, end_in, size_in, list_in, last_of}
use Rattle.addr2line_ranges.specs.LastFacts.{LastFacts, no_facts, with_fact, last_facts, entry_ranges_by}
use Rattle.addr2line_ranges.specs.InlinedCalls.{Naming, Call, CallFacts, no_call_facts, call_facts, call_at, call_file, is_call_line, is_call_column, number_or_0}
use Rattle.addr2line_ranges.proofs.UnitRangeLemmas.{entry_by_list}
use Rattle.addr2line_functions.specs.LastCallFacts.{LastCallFacts, last_of_call, last_call_facts, with_fact_of}

-- ---- one fact more

last_or-append : {A : Type 0} (o : Option A) (xs ys : List A) → last_or o (xs ++ ys) ≡ last_or (last_or o xs) ys
last_or-append o [] ys = refl
last_or-append o (x ∷ xs) ys = last_or-append (Some x) xs ys

one_more_kind : {A : Type 0} (kind : RangeFact → Option A) (facts : List RangeFact) (f : RangeFact)
    → last_of kind (facts ++ f ∷ []) ≡ last_or (last_of kind facts) (filter_map kind (f ∷ []))
one_more_kind kind facts f =
    ap (last_or None) (filter_map-append kind facts (f ∷ []))
    ∙ last_or-append None (filter_map kind facts) (filter_map kind (f ∷ []))

-- facts by their kinds
abbrev of_kinds : Option ℕ → Option ℕ → Option ℕ → Option (Option ℕ) → LastFacts
of_kinds begin end size list = record { begin = begin; end = end; size = size; list = list }

-- further facts of each kind, after the last of each
abbrev after : LastFacts → List RangeFact → LastFacts
after last facts =
    of_kinds (last_or last.begin (filter_map begin_in facts)) (last_or last.end (filter_map end_in facts))
    (last_or last.size (filter_map size_in facts)) (last_or last.list (filter_map list_in facts))

after_one : (last : LastFacts) (f : RangeFact) → after last (f ∷ []) ≡ with_fact f last
after_one last (begins_at a) = refl
after_one last (ends_at a) = refl
after_one last (has_size n) = refl
after_one last (has_list o) = refl
after_one last no_fact = refl

last_facts-append : (facts : List RangeFact) (f : RangeFact)
    → last_facts (facts ++ f ∷ []) ≡ with_fact f (last_facts facts)
last_facts-append facts f =
    let all = facts ++ f ∷ [] in
    let one = f ∷ [] in
    let last = last_facts facts in
    let begin = last_or last.begin (filter_map begin_in one) in
    let end = last_or last.end (filter_map end_in one) in
    let size = last_or last.size (filter_map size_in one) in
    ap (λ b. of_kinds b (last_of end_in all) (last_of size_in all) (last_of list_in all))
    (one_more_kind begin_in facts f)
    ∙ ap (λ e. of_kinds begin e (last_of size_in all) (last_of list_in all)) (one_more_kind end_in facts f)
    ∙ ap (λ s. of_kinds begin end s (last_of list_in all)) (one_more_kind size_in facts f)
    ∙ ap (λ l. of_kinds begin end size l) (one_more_kind list_in facts f)
    ∙ after_one last f

-- ---- the attributes to come

module _ (u : UnitInFile) (naming : Naming) where
  -- the name and the last facts so far, with those of further attributes
  abbrev pub last_from : Option View → LastFacts → List RawAttribute → Result LastCallFacts Error
  last_from name last [] = Ok (record { name = name; ranges = last })
  last_from name last (a ∷ rest) =
      and_then (naming name a) (λ more. and_then (with_fact_of u a last) (λ next. last_from more next rest))

  -- with one more attribute, if that holds of all facts with those that follow
  with_one_fact : (facts : CallFacts) (rest : List RawAttribute) (name : Option View) (y : Result RangeFact Error)
      → ((g : CallFacts) → and_then (call_facts u naming g rest) (λ f. Ok (last_of_call f))
      ≡ last_from g.name (last_facts g.ranges) rest)
      → and_then (and_then (and_then y (λ fact. Ok (record { name = name; ranges = facts.ranges ++ fact ∷ [] })))
      (λ more. call_facts u naming more rest)) (λ f. Ok (last_of_call f))
      ≡ and_then (and_then y (λ f. Ok (with_fact f (last_facts facts.ranges)))) (λ next. last_from name next rest)
  with_one_fact facts rest name (Ok f) again =
      again (record { name = name; ranges = facts.ranges ++ f ∷ [] })
      ∙ ap (λ last. last_from name last rest) (last_facts-append facts.ranges f)
  with_one_fact facts rest name (Err e) again = refl

  with_name_of : (facts : CallFacts) (a : RawAttribute) (rest : List RawAttribute) (x : Result (Option View) Error)
      → ((g : CallFacts) → and_then (call_facts u naming g rest) (λ f. Ok (last_of_call f))
      ≡ last_from g.name (last_facts g.ranges) rest)
      → and_then (and_then (and_then x (λ name. and_then (fact_of u a)
      (λ fact. Ok (record { name = name; ranges = facts.ranges ++ fact ∷ [] }))))
      (λ more. call_facts u naming more rest)) (λ f. Ok (last_of_call f))
      ≡ and_then x
      (λ name. and_then (with_fact_of u a (last_facts facts.ranges)) (λ next. last_from name next rest))
  with_name_of facts a rest (Ok name) again = with_one_fact facts rest name (fact_of u a) again
  with_name_of facts a rest (Err e) again = refl

  -- as the definition has them
  keeps_last : (facts : CallFacts) (attributes : List RawAttribute)
      → and_then (call_facts u naming facts attributes) (λ f. Ok (last_of_call f))
      ≡ last_from facts.name (last_facts facts.ranges) attributes
  keeps_last facts [] = refl
  keeps_last facts (a ∷ rest) = with_name_of facts a rest (naming facts.name a) (λ g. keeps_last g rest)

  pub from_start : (attributes : List RawAttribute)
      → last_from None no_facts attributes ≡ last_call_facts u naming attributes
  from_start attributes = sym (keeps_last no_call_facts attributes)

  module _ {X : Type 0} (view : X → RawAttribute) where
    -- the same from a place of a list on
    abbrev pub last_from_place : Option View → LastFacts → List X → ℕ → Result LastCallFacts Error
    last_from_place name last xs i = last_from name last (map view (drop i xs))

    by_first : (name : Option View) (last : LastFacts) (xs : List X) (i : ℕ) (x : X) → i < length xs → x ≡ get_or xs i x
        → last_from_place name last xs i
        ≡ and_then (naming name (view x)) (λ more. and_then (with_fact_of u (view x) last)
        (λ next. last_from_place more next xs (i + 1)))
    by_first name last xs i x below here =
        at_drop_more (λ (ys : List X). last_from name last (map view ys)) xs i x below
        ∙ ap (λ y. last_from name last (view y ∷ map view (drop (i + 1) xs))) (sym here)

    -- one step on, what all give is the same
    pub last_from_place-more : (name more : Option View) (last next : LastFacts) (xs : List X) (i : ℕ) (x : X)
        (all : Result LastCallFacts Error) → i < length xs → x ≡ get_or xs i x → naming name (view x) ≡ Ok more
        → with_fact_of u (view x) last ≡ Ok next → last_from_place name last xs i ≡ all
        → last_from_place more next xs (i + 1) ≡ all
    last_from_place-more name more last next xs i x all below here named fact before =
        sym (ap (λ r. and_then r (λ l. last_from_place more l xs (i + 1))) fact)
        ∙ sym (ap (λ r. and_then r (λ m. and_then (with_fact_of u (view x) last)
        (λ l. last_from_place m l xs (i + 1)))) named)
        ∙ sym (by_first name last xs i x below here) ∙ before

    -- a refused name is the refusal of all
    pub name-refused : (name : Option View) (last : LastFacts) (e : Error) (xs : List X) (i : ℕ) (x : X)
        (all : Result LastCallFacts Error) → i < length xs → x ≡ get_or xs i x
        → naming name (view x) ≡ Err e → last_from_place name last xs i ≡ all → all ≡ Err e
    name-refused name last e xs i x all below here refused before =
        sym before ∙ by_first name last xs i x below here
        ∙ ap (λ r. and_then r (λ m. and_then (with_fact_of u (view x) last)
        (λ l. last_from_place m l xs (i + 1)))) refused

    -- and so is a refused fact
    pub fact-refused : (name more : Option View) (last : LastFacts) (e : Error) (xs : List X) (i : ℕ) (x : X)
        (all : Result LastCallFacts Error) → i < length xs → x ≡ get_or xs i x
        → naming name (view x) ≡ Ok more → with_fact_of u (view x) last ≡ Err e
        → last_from_place name last xs i ≡ all → all ≡ Err e
    fact-refused name more last e xs i x all below here named refused before =
        sym before ∙ by_first name last xs i x below here
        ∙ ap (λ r. and_then r (λ m. and_then (with_fact_of u (view x) last)
        (λ l. last_from_place m l xs (i + 1)))) named
        ∙ ap (λ r. and_then r (λ l. last_from_place more l xs (i + 1))) refused

    -- after the last attribute, they are those so far
    pub last_from_place-end : (name : Option View) (last : LastFacts) (xs : List X) (i : ℕ)
        (all : Result LastCallFacts Error) → length xs ≤ i
        → last_from_place name last xs i ≡ all → all ≡ Ok (record { name = name; ranges = last })
    last_from_place-end name last xs i all past before =
        sym before ∙ at_drop_all (λ (ys : List X). last_from name last (map view ys)) xs i past

  -- ---- the call of these facts

  -- the call of an entry with this name and these ranges
  abbrev pub call_with : ℕ → Row → Option View → List Range → Call
  call_with depth r name ranges = record {
    depth = depth;
    offset = r.offset;
    ranges = ranges;
    name = name;
    file = call_file u.facts.header.encoding.version r.attributes;
    line = number_or_0 is_call_line r.attributes;
    column = number_or_0 is_call_column r.attributes;
  }

  pub call_by_last : (depth : ℕ) (r : Row)
      → call_at u naming depth r
      ≡ and_then (last_call_facts u naming r.attributes) (λ last. and_then (entry_ranges_by u last.ranges)
      (λ rs. Ok (call_with depth r last.name rs)))
  call_by_last depth r = by (call_facts u naming no_call_facts r.attributes)
    where
      by : (x : Result CallFacts Error)
          → and_then x (λ facts. and_then (ranges_of_facts u facts.ranges (last_of list_in facts.ranges))
          (λ rs. Ok (call_with depth r facts.name rs)))
          ≡ and_then (and_then x (λ f. Ok (last_of_call f))) (λ last. and_then (entry_ranges_by u last.ranges)
          (λ rs. Ok (call_with depth r last.name rs)))
      by (Ok facts) =
          ap (λ x. and_then x (λ rs. Ok (call_with depth r facts.name rs)))
          (entry_by_list u facts.ranges (last_of list_in facts.ranges))
      by (Err e) = refl

  module _ (depth : ℕ) (r : Row) where
    pub facts_refused : (e : Error) → last_call_facts u naming r.attributes ≡ Err e → call_at u naming depth r ≡ Err e
    facts_refused e h =
        call_by_last depth r
        ∙ ap (λ x. and_then x (λ last. and_then (entry_ranges_by u last.ranges)
        (λ rs. Ok (call_with depth r last.name rs)))) h

    by_read_facts : (last : LastCallFacts) → last_call_facts u naming r.attributes ≡ Ok last
        → call_at u naming depth r
        ≡ and_then (entry_ranges_by u last.ranges) (λ rs. Ok (call_with depth r last.name rs))
    by_read_facts last h =
        call_by_last depth r
        ∙ ap (λ x. and_then x (λ l. and_then (entry_ranges_by u l.ranges)
        (λ rs. Ok (call_with depth r l.name rs)))) h

    pub ranges_refused : (last : LastCallFacts) (e : Error) → last_call_facts u naming r.attributes ≡ Ok last
        → entry_ranges_by u last.ranges ≡ Err e → call_at u naming depth r ≡ Err e
    ranges_refused last e h k =
        by_read_facts last h ∙ ap (λ x. and_then x (λ rs. Ok (call_with depth r last.name rs))) k

    pub call_read : (last : LastCallFacts) (rs : List Range) (file : Option ℕ) (line column : ℕ)
        → last_call_facts u naming r.attributes ≡ Ok last → entry_ranges_by u last.ranges ≡ Ok rs
        → file ≡ call_file u.facts.header.encoding.version r.attributes
        → line ≡ number_or_0 is_call_line r.attributes → column ≡ number_or_0 is_call_column r.attributes
        → call_at u naming depth r
        ≡ Ok (record {
          depth = depth;
          offset = r.offset;
          ranges = rs;
          name = last.name;
          file = file;
          line = line;
          column = column;
        })
    call_read last rs file line column h k f l d =
        by_read_facts last h ∙ ap (λ x. and_then x (λ all. Ok (call_with depth r last.name all))) k
        ∙ ap (λ n. call_of_parts n (number_or_0 is_call_line r.attributes) (number_or_0 is_call_column r.attributes))
        (sym f)
        ∙ ap (λ n. call_of_parts file n (number_or_0 is_call_column r.attributes)) (sym l)
        ∙ ap (λ n. call_of_parts file line n) (sym d)
      where
        call_of_parts : Option ℕ → ℕ → ℕ → Result Call Error
        call_of_parts x y z =
            Ok (record {
              depth = depth;
              offset = r.offset;
              ranges = rs;
              name = last.name;
              file = x;
              line = y;
              column = z;
            })
