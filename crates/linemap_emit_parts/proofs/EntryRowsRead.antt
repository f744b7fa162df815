-- The bytes of entries are read as their rows.
use Rattle.std.proofs.Common.{◌≡◌, ℕ, ◌<◌, ◌^◌, ◌+◌, ◌-◌, Bool, true, false, List, [], ◌++◌, length, map, Option, Result, Ok, refl, ap, ◌∙◌, arith, append_assoc}
use Rattle.std.specs.Prelude.{flat_map, ℤ}
use Rattle.std.proofs.lemmas.List.{length-append}
use Rattle.gimli_lines_write_bytes.specs.Error.{Error}
use Rattle.gimli_lines_write_bytes.specs.View.{View}
use Rattle.gimli_lines_write_bytes.specs.Parsers.{Step, proceed, give, lift, ◌>>=◌}
use Rattle.gimli_lines_write_bytes.specs.Encoding.{Encoding}
use Rattle.gimli_lines_write_bytes.specs.NumberParsers.{is_address_size}
use Rattle.gimli_lines_write_bytes.specs.Spelling.{unsigned_string}
use Rattle.gimli_lines_header.specs.Declarations.{Declaration}
use Rattle.gimli_lines_header.specs.AttributeValues.{RawAttribute}
use Rattle.gimli_units_entries.specs.EntryWalks.{Walk, entry_head, values, read_in_walk, declaration_of_code, change_depth, depth_after}
use Rattle.gimli_units_entries.specs.EntryRows.{Row, row, row_of, all_contents}
use Rattle.linemap_emit_parts.specs.declared.entries.Entry.{Entry}
use Rattle.linemap_emit_parts.specs.declared.entries.Entry.TheVariants.{CompileUnit, AbstractFunction, Function, Call, EndOfChildren}
use Rattle.linemap_emit_parts.specs.EmittedEntries.{EmittedAttribute, AllFit, declared_attribute, raw_attribute_of, spelled_value, spelled_entry, attributes_of, abbreviation_code, declaration_of, declarations}
use Rattle.linemap_emit_parts.specs.EmittedEntryRows.{walk_at, row_for}
use Rattle.gimli_lines_write_bytes.proofs.FollowedReads.{again_unsigned}
use Rattle.linemap_emit_parts.proofs.EntryAttributesRead.{attributes_again}
use Rattle.gimli_lines_write_bytes.specs.BytesAt.{bytes_at}

-- the code of a declaration
pub head_again : (e : Encoding) (end_offset : ℕ) (depth : ℤ) (is_big : Bool) (first code : ℕ) (d : Option Declaration)
    (rest : List ℕ) → code < 2 ^ 64 → declaration_of_code code (declarations e) ≡ Ok d
    → entry_head (walk_at e end_offset depth (bytes_at is_big first (unsigned_string code ++ rest)))
    ≡ Ok (d, walk_at e end_offset (depth_after depth d) (bytes_at is_big (first + length (unsigned_string code)) rest))
unfolding entry_head
head_again e end_offset depth is_big first code d rest small known =
    let w = walk_at e end_offset depth (bytes_at is_big first (unsigned_string code ++ rest)) in
    let u = walk_at e end_offset depth (bytes_at is_big (first + length (unsigned_string code)) rest) in
    ap (λ (r : Result (ℕ × View) Error). proceed (read_in_walk w r)
    (λ c. λ (x : Walk). proceed (lift (declaration_of_code c x.table) x) change_depth))
    ((again_unsigned is_big first code small).again rest)
    ∙ ap (λ (r : Result (Option Declaration) Error). proceed (lift r u) change_depth) known

-- the declaration of an entry
pub known_code : (e : Encoding) (x : Entry)
    → declaration_of_code (abbreviation_code x) (declarations e) ≡ Ok (declaration_of e x)
known_code e (CompileUnit name directory line_program ranges) = refl
known_code e (Function true name ranges) = refl
known_code e (Function false name ranges) = refl
known_code e (Call true name ranges file line column) = refl
known_code e (Call false name ranges file line column) = refl
known_code e (AbstractFunction name) = refl
known_code e EndOfChildren = refl

pub small_code : (x : Entry) → abbreviation_code x < 2 ^ 64
small_code (CompileUnit name directory line_program ranges) = omega arith
small_code (Function true name ranges) = omega arith
small_code (Function false name ranges) = omega arith
small_code (Call true name ranges file line column) = omega arith
small_code (Call false name ranges file line column) = omega arith
small_code (AbstractFunction name) = omega arith
small_code EndOfChildren = omega arith

-- the attributes of an entry
attribute_list_again : (limit : ℕ) (e : Encoding) (end_offset : ℕ) (depth : ℤ) (is_big : Bool) (first : ℕ)
    (ss : List EmittedAttribute) (rest : List ℕ) → is_address_size e.address_size ≡ true → AllFit limit e ss
    → values limit (map (declared_attribute e) ss)
    (walk_at e end_offset depth (bytes_at is_big first (flat_map (λ s. spelled_value e is_big s.value) ss ++ rest)))
    ≡ Ok (
      map (raw_attribute_of e) ss,
      walk_at e end_offset depth
          (bytes_at is_big (first + length (flat_map (λ s. spelled_value e is_big s.value) ss)) rest),
    )
unfolding values
attribute_list_again limit e end_offset depth is_big first ss rest is_size fit =
    ap (read_in_walk
    (walk_at e end_offset depth (bytes_at is_big first (flat_map (λ s. spelled_value e is_big s.value) ss ++ rest))))
    ((attributes_again limit e is_big first ss is_size fit).again rest)

contents_again : (limit : ℕ) (e : Encoding) (end_offset : ℕ) (depth : ℤ) (is_big : Bool) (first : ℕ) (x : Entry)
    (rest : List ℕ) → is_address_size e.address_size ≡ true → AllFit limit e (attributes_of x)
    → all_contents limit (declaration_of e x)
    (walk_at e end_offset depth
    (bytes_at is_big first (flat_map (λ s. spelled_value e is_big s.value) (attributes_of x) ++ rest)))
    ≡ Ok (
      map (raw_attribute_of e) (attributes_of x),
      walk_at e end_offset depth
          (bytes_at is_big (first + length (flat_map (λ s. spelled_value e is_big s.value) (attributes_of x))) rest),
    )
contents_again limit e end_offset depth is_big first (CompileUnit name directory line_program ranges) rest is_size fit =
    attribute_list_again limit e end_offset depth is_big first
    (attributes_of (CompileUnit name directory line_program ranges)) rest is_size fit
contents_again limit e end_offset depth is_big first (Function has_children name ranges) rest is_size fit =
    attribute_list_again limit e end_offset depth is_big first (attributes_of (Function has_children name ranges)) rest
    is_size fit
contents_again limit e end_offset depth is_big first (Call has_children name ranges file line column) rest is_size fit =
    attribute_list_again limit e end_offset depth is_big first
    (attributes_of (Call has_children name ranges file line column)) rest is_size fit
contents_again limit e end_offset depth is_big first (AbstractFunction name) rest is_size fit =
    attribute_list_again limit e end_offset depth is_big first (attributes_of (AbstractFunction name)) rest is_size fit
contents_again limit e end_offset depth is_big first EndOfChildren rest is_size fit =
    let same : first ≡ first + 0 = omega arith in
    ap (λ (n : ℕ). Ok ([], walk_at e end_offset depth (bytes_at is_big n rest))) same

-- the next row
pub row_again : (limit : ℕ) (e : Encoding) (end_offset : ℕ) (depth : ℤ) (is_big : Bool) (first : ℕ) (x : Entry)
    (rest : List ℕ) → is_address_size e.address_size ≡ true → AllFit limit e (attributes_of x)
    → row limit (walk_at e end_offset depth (bytes_at is_big first (spelled_entry e is_big x ++ rest)))
    ≡ Ok (
      row_for e (end_offset - length (spelled_entry e is_big x ++ rest)) depth x,
      walk_at e end_offset (depth_after depth (declaration_of e x))
          (bytes_at is_big (first + length (spelled_entry e is_big x)) rest),
    )
unfolding row
row_again limit e end_offset depth is_big first x rest is_size fit =
    let code = unsigned_string (abbreviation_code x) in
    let values_of = flat_map (λ s. spelled_value e is_big s.value) (attributes_of x) in
    let offset = end_offset - length (spelled_entry e is_big x ++ rest) in
    let after : Option Declaration → Step Walk Row =
    λ d. all_contents limit d >>= λ found. give (row_of offset depth d found) in
    let long : first + length code + length values_of ≡ first + length (code ++ values_of) =
    omega (arith, length-append code values_of) in
    ap (λ (bytes : List ℕ). proceed (entry_head (walk_at e end_offset depth (bytes_at is_big first bytes))) after)
    (append_assoc code values_of rest)
    ∙ ap (λ (r : Result (Option Declaration × Walk) Error). proceed r after)
    (head_again e end_offset depth is_big first (abbreviation_code x) (declaration_of e x) (values_of ++ rest)
    (small_code x) (known_code e x))
    ∙ ap (λ (r : Result (List RawAttribute × Walk) Error). proceed r
    (λ found. give (row_of offset depth (declaration_of e x) found)))
    (contents_again limit e end_offset (depth_after depth (declaration_of e x)) is_big (first + length code) x rest
    is_size fit)
    ∙ ap (λ (n : ℕ). Ok (
      row_for e offset depth x,
      walk_at e end_offset (depth_after depth (declaration_of e x)) (bytes_at is_big n rest),
    )) long
