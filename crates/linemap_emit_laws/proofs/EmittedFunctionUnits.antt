-- The entries of a unit that was emitted say what the functions of the table's unit say.
use Rattle.std.proofs.Common.{◌≡◌, ℕ, ◌+◌, ◌<◌, ◌≤◌, ◌%◌, ◌^◌, ◌≢◌, ◌==◌, ◌&&◌, Bool, true, false, cond, Option, Some, None, nat_lt, nat_le, List, [], ◌∷◌, ◌++◌, All, length, map, refl, ap, subst, ◌∙◌, arith, append_assoc}
use Rattle.std.proofs.Math.Nat.{mod-eq_of_lt}
use Rattle.std.proofs.lemmas.Bool.{ne_eqb, leb-false, le-ltb}
use Rattle.linemap_emit_units.specs.Encoding.{Encoding}
use Rattle.linemap_emit_units.specs.StringSections.{IsText as HasNoZero, text_index}
use Rattle.linemap_emit_units.proofs.SectionTexts.{added_text-index}
use Rattle.linemap_emit_units.proofs.InlinedNameLemmas.{unit_names_are}
use Rattle.linemap_emit_units.specs.DwarfFiles.{DwarfFile}
use Rattle.linemap_emit_units.specs.TableParts.{UnitPart}
use Rattle.linemap_emit_units.specs.Entry.{Entry}
use Rattle.linemap_emit_units.specs.Entry.TheVariants.{CompileUnit, AbstractFunction, EndOfChildren}
use Rattle.linemap_emit_units.specs.EmittedEntryLaws.{AllEntriesFit}
use Rattle.linemap_emit_units.specs.EmittedEntryRows.{spelled_entries}
use Rattle.linemap_emit_units.specs.EmittedUnits.{IsWritten, entries_start, abstract_offset}
use Rattle.linemap_emit_units.specs.InlinedNames.{inlined_names, IsAmong}
use Rattle.linemap_emit_units.specs.UnitEmission.{EmittedUnit, text_offset, list_offset, with_name, with_abstract_functions, with_functions, with_unit_entry, origin_of}
use Rattle.linemap_emit_units.specs.EmittedSections.{HoldTable}
use Rattle.linemap_emit_units.specs.TableEmission.{EmittedTable, number_of, before_entries, after_entries, with_emitted_unit}
use Rattle.linemap_emit_units.specs.EmittedFiles.{unit_file_ids, place_in}
use Rattle.linemap_emit_units.specs.BuiltRows.{raw_file}
use Rattle.linemap_emit_units.proofs.PlacedFiles.{place_is_low}
use Rattle.linemap_emit_calls_laws.specs.InlinedCalls.{file_number}
use Rattle.linemap_emit_units.specs.FittingUnits.{UnitFits}
use Rattle.linemap_emit_calls_laws.specs.RecordedFunctions.{entries_of_functions, HasOrigin, RecordsFunctions}
use Rattle.linemap_emit_laws.proofs.EmissionGrowth.{Grows, grows_on, entry_grows, functions_grow, unit_grows, Extends}
use Rattle.linemap_emit_laws.proofs.EmittedFunctionLemmas.{entries_below, all_refs, abstract_texts, abstract_entries, functions_entries, root_takes, origin_there, functions_recorded}

-- a number by which rows and calls name a file
numbers_count : (version place : ℕ) → place < 2 ^ 63
    → file_number version (raw_file version place) ≡ Some (raw_file version place)
numbers_count version place low = by (nat_le version 4) refl
  where
    next : (place + 1) % 2 ^ 64 ≡ place + 1
    next = mod-eq_of_lt (let small : place + 1 < 2 ^ 64 = omega arith in small)

    some : (place + 1) % 2 ^ 64 ≢ 0
    some = omega (arith, next)

    number_at : Bool → ℕ
    number_at b = cond b ((place + 1) % 2 ^ 64) place

    first : (b : Bool) → cond {A = Option ℕ} (b && false) None (Some ((place + 1) % 2 ^ 64))
        ≡ Some ((place + 1) % 2 ^ 64)
    first true = refl
    first false = refl

    by : (b : Bool) → nat_le version 4 ≡ b
        → cond {A = Option ℕ} (nat_lt version 5 && (number_at b == 0)) None (Some (number_at b)) ≡ Some (number_at b)
    by true old =
        ap (λ c. cond {A = Option ℕ} (nat_lt version 5 && c) None (Some ((place + 1) % 2 ^ 64)))
        (ne_eqb ((place + 1) % 2 ^ 64) 0 some) ∙ first (nat_lt version 5)
    by false new =
        let later = leb-false version 4 new in
        ap (λ c. cond {A = Option ℕ} (c && (place == 0)) None (Some place)) (le-ltb version 5 (omega arith))

module _ (e : Encoding) (is_big : Bool) (u : UnitPart) (st : EmittedTable) where
  -- the numbers of its files
  abbrev number : ℕ → ℕ
  number = number_of e u st

  abbrev before : EmittedUnit
  before = before_entries e is_big st

  abbrev root : EmittedUnit
  root = with_unit_entry (length st.lines) u before

  abbrev named : EmittedUnit
  named = with_abstract_functions (inlined_names u) root

  abbrev after : EmittedUnit
  after = with_functions number (inlined_names u) u.functions named

  abbrev last : EmittedUnit
  last = after_entries e is_big u st

  -- the entry of the unit
  abbrev pub root_entry : Entry
  root_entry =
      CompileUnit (text_offset u.name before) (text_offset u.directory (with_name u.name before)) (length st.lines)
      (list_offset before)

  -- those after it
  abbrev pub other_entries : List Entry
  other_entries =
      map AbstractFunction (abstract_texts (inlined_names u) root)
      ++ (entries_of_functions u.functions (all_refs number (inlined_names u) u.functions named) ++ EndOfChildren ∷ [])

  pub unit_entries : last.entries ≡ root_entry ∷ other_entries
  unit_entries =
      ap (λ (l : List Entry). l ++ EndOfChildren ∷ [])
      (functions_entries number (inlined_names u) u.functions named
      ∙ ap (λ (l : List Entry). l ++ entries_of_functions u.functions
      (all_refs number (inlined_names u) u.functions named))
      (abstract_entries (inlined_names u) root))
      ∙ regroup (root_entry ∷ []) (map AbstractFunction (abstract_texts (inlined_names u) root))
      (entries_of_functions u.functions (all_refs number (inlined_names u) u.functions named)) (EndOfChildren ∷ [])
    where
      regroup : (x a f n : List Entry) → ((x ++ a) ++ f) ++ n ≡ x ++ (a ++ (f ++ n))
      regroup x a f n = simp append_assoc

  pub functions_are_recorded : (final : EmittedTable) (s : DwarfFile) → IsWritten e → 2 ^ 31 ≤ s.offset_limit
      → UnitFits e is_big u st → HoldTable e is_big final s → All HasNoZero final.texts
      → Extends (with_emitted_unit e is_big u st) final
      → RecordsFunctions e s number u.functions root_entry other_entries
  functions_are_recorded final s served wide fit hold no_zeros extends =
      record {
        abstract_names = abstract_texts (inlined_names u) root;
        refs = all_refs number (inlined_names u) u.functions named;
        entries_are = refl;
        fit = entries_below s.offset_limit e all wide
            (subst (λ (l : List Entry). AllEntriesFit (2 ^ 31) e l) unit_entries fit.entries_fit);
        are_recorded =
            functions_recorded e is_big s last final hold no_zeros served.has_address_size encoding order extends.texts
            extends.more_ranges extends.ranges number counts (inlined_names u) all origins (length u.files)
            u.functions named
            (entry_grows EndOfChildren after) fit.can_emit.2 (unit_names_are u);
      }
    where
      all : List Entry
      all = root_entry ∷ other_entries

      counts : (n : ℕ) → file_number e.version (number n) ≡ Some (number n)
      counts n =
          numbers_count e.version (place_in (unit_file_ids e u st.line_texts) n)
          (place_is_low e u st.line_texts fit.few_files n)

      encoding : last.encoding ≡ e
      encoding = (unit_grows number (length st.lines) u before).same_encoding

      order : last.ranges.is_big ≡ is_big
      order = (unit_grows number (length st.lines) u before).same_order

      named_grows : Grows named last
      named_grows = grows_on named after last (functions_grow number (inlined_names u) u.functions named)
          (entry_grows EndOfChildren after)

      rest : List Entry
      rest =
          entries_of_functions u.functions (all_refs number (inlined_names u) u.functions named)
          ++ EndOfChildren ∷ []

      place : (big : Bool) → abstract_offset e 0 ≡ entries_start e + length (spelled_entries e big (root_entry ∷ []))
      place big =
          let size =
          root_takes e big (text_offset u.name before) (text_offset u.directory (with_name u.name before))
          (length st.lines) (list_offset before) in
          omega (arith, size)

      origins : (t : List ℕ) → IsAmong (inlined_names u) t → HasOrigin e s all (origin_of e (inlined_names u) t) t
      origins t among =
          let i = text_index (inlined_names u) t in
          let same : 0 + i ≡ i = omega arith in
          subst (λ n. HasOrigin e s all (abstract_offset e n) t) same
          (origin_there e is_big s last final hold no_zeros served.has_address_size encoding order extends.texts
          extends.more_ranges extends.ranges all (inlined_names u) root (root_entry ∷ []) rest 0 i t
          refl place named_grows
          (added_text-index (inlined_names u) t among))
