-- What the attributes of a root say, taken from one after the other.
use Rattle.std.proofs.Common.{◌≡◌, ℕ, ◌+◌, ◌<◌, ◌≤◌, List, ◌∷◌, length, get_or, drop, map, Option, Some, None, Result, Ok, refl, sym, ap, ◌∙◌}
use Rattle.std.specs.List.{filter_map, last_or, cons_option}
use Rattle.std.specs.Option.{option_or}
use Rattle.std.proofs.lemmas.List.{at_drop_more, at_drop_all}
use Rattle.gimli_dwarf_spec.specs.Error.{Error}
use Rattle.gimli_dwarf_spec.specs.AttributeValues.{RawValue, RawAttribute}
use Rattle.gimli_dwarf_spec.specs.UnitFacts.{value_of_kind, any_value, is_name, is_comp_dir, is_low_pc, is_dwo_id, is_stmt_list, is_str_offsets_base, is_addr_base, is_loclists_base, is_rnglists_base, line_reference_of, string_offsets_base_of, address_base_of, location_lists_base_of, range_lists_base_of}
use Rattle.gimli_dwarf.specs.RootValues.{RootValues, with_attribute}

-- values by their parts
abbrev values : (name comp_dir low_pc dwo_id : Option RawValue) (line str_offsets addr loclists rnglists : Option ℕ)
    → RootValues
values name comp_dir low_pc dwo_id line str_offsets addr loclists rnglists = record {
  name = name;
  comp_dir = comp_dir;
  low_pc = low_pc;
  dwo_id = dwo_id;
  line = line;
  str_offsets = str_offsets;
  addr = addr;
  loclists = loclists;
  rnglists = rnglists;
}

-- the last of what was found and what these attributes give
abbrev last_of : {N : Type 0} → (RawAttribute → Option N) → Option N → List RawAttribute → Option N
last_of give found attributes = last_or found (filter_map give attributes)

-- what was found, and what these attributes say
abbrev pub values_from : RootValues → List RawAttribute → RootValues
values_from r attributes =
    values (last_of (value_of_kind any_value is_name) r.name attributes)
    (last_of (value_of_kind any_value is_comp_dir) r.comp_dir attributes)
    (last_of (value_of_kind any_value is_low_pc) r.low_pc attributes)
    (last_of (value_of_kind any_value is_dwo_id) r.dwo_id attributes)
    (last_of (value_of_kind line_reference_of is_stmt_list) r.line attributes)
    (last_of (value_of_kind string_offsets_base_of is_str_offsets_base) r.str_offsets attributes)
    (last_of (value_of_kind address_base_of is_addr_base) r.addr attributes)
    (last_of (value_of_kind location_lists_base_of is_loclists_base) r.loclists attributes)
    (last_of (value_of_kind range_lists_base_of is_rnglists_base) r.rnglists attributes)

later : {N : Type 0} (next found : Option N) (rest : List N)
    → last_or (option_or next found) rest ≡ last_or found (cons_option next rest)
later None found rest = refl
later (Some x) found rest = refl

-- one more attribute is taken
later_of : {N : Type 0} (give : RawAttribute → Option N) (a : RawAttribute) (found : Option N)
    (attributes : List RawAttribute)
    → last_of give (option_or (give a) found) attributes ≡ last_of give found (a ∷ attributes)
later_of give a found attributes = later (give a) found (filter_map give attributes)

module _ {n n' c c' l l' d d' : Option RawValue} {p p' s s' a a' o o' r r' : Option ℕ} where
  same_values : n ≡ n' → c ≡ c' → l ≡ l' → d ≡ d' → p ≡ p' → s ≡ s' → a ≡ a' → o ≡ o' → r ≡ r'
      → values n c l d p s a o r ≡ values n' c' l' d' p' s' a' o' r'
  same_values hn hc hl hd hp hs ha ho hr =
      ap (λ (x : Option RawValue). values x c l d p s a o r) hn
      ∙ ap (λ (x : Option RawValue). values n' x l d p s a o r) hc
      ∙ ap (λ (x : Option RawValue). values n' c' x d p s a o r) hl
      ∙ ap (λ (x : Option RawValue). values n' c' l' x p s a o r) hd
      ∙ ap (λ (x : Option ℕ). values n' c' l' d' x s a o r) hp
      ∙ ap (λ (x : Option ℕ). values n' c' l' d' p' x a o r) hs
      ∙ ap (λ (x : Option ℕ). values n' c' l' d' p' s' x o r) ha
      ∙ ap (λ (x : Option ℕ). values n' c' l' d' p' s' a' x r) ho
      ∙ ap (λ (x : Option ℕ). values n' c' l' d' p' s' a' o' x) hr

values_from-more : (a : RawAttribute) (attributes : List RawAttribute) (r : RootValues)
    → values_from (with_attribute a r) attributes ≡ values_from r (a ∷ attributes)
values_from-more a attributes r =
    same_values (later_of (value_of_kind any_value is_name) a r.name attributes)
    (later_of (value_of_kind any_value is_comp_dir) a r.comp_dir attributes)
    (later_of (value_of_kind any_value is_low_pc) a r.low_pc attributes)
    (later_of (value_of_kind any_value is_dwo_id) a r.dwo_id attributes)
    (later_of (value_of_kind line_reference_of is_stmt_list) a r.line attributes)
    (later_of (value_of_kind string_offsets_base_of is_str_offsets_base) a r.str_offsets attributes)
    (later_of (value_of_kind address_base_of is_addr_base) a r.addr attributes)
    (later_of (value_of_kind location_lists_base_of is_loclists_base) a r.loclists attributes)
    (later_of (value_of_kind range_lists_base_of is_rnglists_base) a r.rnglists attributes)

-- values that were read
abbrev pub ok_values : RootValues → Result RootValues Error
ok_values r = Ok r

module _ {X : Type 0} (view : X → RawAttribute) (xs : List X) (i : ℕ) (whole : RootValues) where
  pub read-more : (x : X) (found next : RootValues) → i < length xs → x ≡ get_or xs i x
      → ok_values (with_attribute (view x) found) ≡ ok_values next
      → values_from found (map view (drop i xs)) ≡ whole → values_from next (map view (drop (i + 1) xs)) ≡ whole
  read-more x found next below here gives before =
      let rest = map view (drop (i + 1) xs) in
      let same : with_attribute (view x) found ≡ next = cc in
      ap (λ (r : RootValues). values_from r rest) (sym same)
      ∙ values_from-more (view x) rest found
      ∙ ap (λ (y : X). values_from found (view y ∷ rest)) here
      ∙ sym (at_drop_more (λ (ys : List X). values_from found (map view ys)) xs i x below)
      ∙ before

  pub read-end : (found : RootValues) → length xs ≤ i → values_from found (map view (drop i xs)) ≡ whole
      → ok_values whole ≡ ok_values found
  read-end found over before =
      ap ok_values (sym before ∙ at_drop_all (λ (ys : List X). values_from found (map view ys)) xs i over)
