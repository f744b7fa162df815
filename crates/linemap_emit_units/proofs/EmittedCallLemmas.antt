-- Calls, one level at a time.
use Rattle.std.proofs.Common.{◌≡◌, ℕ, ◌+◌, drop, Bool, true, false, not, eqb, List, [], ◌∷◌, length, slice_get, Some, ap, refl, sym, ◌∙◌, arith}
use Rattle.std.proofs.lemmas.Bool.{ne_eqb}
use Rattle.std.proofs.lemmas.Option.{slice_get_within, get_or_from_slice_get}
use Rattle.linemap_emit_programs.specs.TableViews.{call_part, calls_part}
use Rattle.linemap_emit_programs.specs.TableCall.{TableCall}
use Rattle.linemap_emit_programs.specs.TableCall.TheViews.{out-TableCall}
use Rattle.linemap_emit_programs.proofs.AddedFiles.{first_left}
use Rattle.linemap_emit_programs.proofs.TableViewLemmas.{inner-out}
use Rattle.linemap_emit_programs.specs.TableParts.{Calls, no_calls, more_calls, FunctionPart}
use Rattle.linemap_emit_units.specs.InlinedNames.{call_names, with_texts, NamesAre, FunctionNamesAre, IsAmong}
use Rattle.linemap_emit_units.proofs.InlinedNameLemmas.{with_texts-append}
use Rattle.gimli_lines_write_tables.specs.StringSections.{IsText, with_text}
use Rattle.linemap_emit_programs.specs.Entry.TheVariants.{AbstractFunction}
use Rattle.linemap_emit_units.specs.UnitEmission.{EmittedUnit, text_offset, with_name, with_entry, with_abstract_functions, has_calls, with_end_of_children, with_call, with_calls, with_function_entry, with_function, with_functions, CanEmitCalls, CanEmitFunctions}

-- there are some
pub some_calls : (cs : List TableCall) → has_calls (calls_part cs) ≡ not (eqb (length cs) 0)
some_calls [] = refl
some_calls (c ∷ cs) = sym (ap not (ne_eqb (length (c ∷ cs)) 0 (omega arith)))

-- some in a call
pub some_in : (c : TableCall) → has_calls (call_part c).inner ≡ not (eqb (length (out-TableCall c).calls.items) 0)
some_in c = ap has_calls (inner-out c) ∙ some_calls (out-TableCall c).calls.items

-- ---- what stays

closed_keeps : (b : Bool) (st : EmittedUnit) → (with_end_of_children b st).encoding ≡ st.encoding
closed_keeps true st = refl
closed_keeps false st = refl

pub calls_keep : (number : ℕ → ℕ) (names : List (List ℕ)) (cs : Calls) (st : EmittedUnit)
    → (with_calls number names cs st).encoding ≡ st.encoding
unfolding with_calls
calls_keep number names no_calls st = refl
calls_keep number names (more_calls site inner others) st =
    let head = with_call number names (has_calls inner) site st in
    calls_keep number names others (with_end_of_children (has_calls inner) (with_calls number names inner head))
    ∙ closed_keeps (has_calls inner) (with_calls number names inner head)
    ∙ calls_keep number names inner head

pub abstract_keeps : (names : List (List ℕ)) (st : EmittedUnit)
    → (with_abstract_functions names st).encoding ≡ st.encoding
abstract_keeps [] st = refl
abstract_keeps (name ∷ names) st =
    abstract_keeps names (with_entry (AbstractFunction (text_offset name st)) (with_name name st))

-- ---- one of several abstract functions

pub abstract_emitted : (names : List (List ℕ)) (i : ℕ) (name : List ℕ) (offset : ℕ) (st st1 st2 final : EmittedUnit)
    → slice_get names i ≡ Some name → offset ≡ text_offset name st → st1 ≡ with_name name st
    → st2 ≡ with_entry (AbstractFunction offset) st1 → with_abstract_functions (drop i names) st ≡ final
    → with_abstract_functions (drop (i + 1) names) st2 ≡ final
abstract_emitted names i name offset st st1 st2 final there place named entered whole =
    let here =
    first_left names i name (slice_get_within names i name there) (sym
    (get_or_from_slice_get names i name name there)) in
    ap (with_abstract_functions (drop (i + 1) names))
    (entered ∙ ap (λ (o : ℕ). with_entry (AbstractFunction o) st1) place
    ∙ ap (with_entry (AbstractFunction (text_offset name st))) named)
    ∙ ap (λ l. with_abstract_functions l st) (sym here) ∙ whole

-- ---- one call of several

-- the entries of a call, of those in it, and the end of them
pub call_emitted : (size files : ℕ) (number : ℕ → ℕ) (names : List (List ℕ)) (c : TableCall) (rest : List TableCall)
    (st st1 st2 st3 final : EmittedUnit) (children : Bool)
    → children ≡ has_calls (call_part c).inner → st1 ≡ with_call number names children (call_part c).site st
    → st2 ≡ with_calls number names (calls_part (out-TableCall c).calls.items) st1
    → st3 ≡ with_end_of_children children st2
    → CanEmitCalls size files (calls_part (c ∷ rest)) → NamesAre (IsAmong names) (calls_part (c ∷ rest))
    → with_calls number names (calls_part (c ∷ rest)) st ≡ final
    → (st3.encoding ≡ st.encoding) × CanEmitCalls size files (calls_part rest)
    × NamesAre (IsAmong names) (calls_part rest)
    × (with_calls number names (calls_part rest) st3 ≡ final)
unfolding with_calls CanEmitCalls NamesAre
call_emitted size files number names c rest st st1 st2 st3 final children some head inner end can among whole =
    let called = with_call number names (has_calls (call_part c).inner) (call_part c).site st in
    let after : st3 ≡ with_end_of_children (has_calls (call_part c).inner)
    (with_calls number names (call_part c).inner called) =
    end ∙ ap (with_end_of_children children)
    (inner ∙ ap (λ cs. with_calls number names cs st1) (sym (inner-out c))
    ∙ ap (with_calls number names (call_part c).inner) head)
    ∙ ap (λ b. with_end_of_children b (with_calls number names (call_part c).inner
    (with_call number names b (call_part c).site st))) some in
    let same =
    ap (λ x. x.encoding) after
    ∙ closed_keeps (has_calls (call_part c).inner) (with_calls number names (call_part c).inner called)
    ∙ calls_keep number names (call_part c).inner called in
    (same, can.3, among.2, ap (with_calls number names (calls_part rest)) after ∙ whole)

-- the names of one call, and then those of others
pub call_named : (c : TableCall) (rest : List TableCall) (texts texts1 texts2 final : List (List ℕ))
    → texts1 ≡ with_text texts (call_part c).site.name
    → texts2 ≡ with_texts texts1 (call_names (calls_part (out-TableCall c).calls.items))
    → NamesAre IsText (calls_part (c ∷ rest))
    → with_texts texts (call_names (calls_part (c ∷ rest))) ≡ final
    → NamesAre IsText (calls_part rest) × (with_texts texts2 (call_names (calls_part rest)) ≡ final)
unfolding call_names NamesAre
call_named c rest texts texts1 texts2 final first inner all whole =
    let within = call_names (call_part c).inner in
    let later = call_names (calls_part rest) in
    let after : texts2 ≡ with_texts (with_text texts (call_part c).site.name) within =
    inner ∙ ap (λ cs. with_texts texts1 (call_names cs)) (sym (inner-out c))
    ∙ ap (λ ts. with_texts ts within) first in (
      all.2,
      ap (λ ts. with_texts ts later) after
          ∙ sym (with_texts-append (with_text texts (call_part c).site.name) within later) ∙ whole,
    )

-- the same of a function
pub function_emitted : (size files : ℕ) (number : ℕ → ℕ) (names : List (List ℕ)) (f : FunctionPart)
    (rest : List FunctionPart)
    (st st1 st2 st3 final : EmittedUnit) (children : Bool)
    → children ≡ has_calls f.calls → st1 ≡ with_function_entry f st → st2 ≡ with_calls number names f.calls st1
    → st3 ≡ with_end_of_children children st2
    → CanEmitFunctions size files (f ∷ rest) → FunctionNamesAre (IsAmong names) (f ∷ rest)
    → with_functions number names (f ∷ rest) st ≡ final
    → (st3.encoding ≡ st.encoding) × CanEmitFunctions size files rest × FunctionNamesAre (IsAmong names) rest
    × (with_functions number names rest st3 ≡ final)
function_emitted size files number names f rest st st1 st2 st3 final children some head inner end can among whole =
    let after : st3 ≡ with_function number names f st =
    end ∙ ap (with_end_of_children children) (inner ∙ ap (with_calls number names f.calls) head)
    ∙ ap (λ b. with_end_of_children b (with_calls number names f.calls (with_function_entry f st))) some in
    let same =
    ap (λ x. x.encoding) after
    ∙ closed_keeps (has_calls f.calls) (with_calls number names f.calls (with_function_entry f st))
    ∙ calls_keep number names f.calls (with_function_entry f st) in (
      same,
      can.2,
      among.1,
      ap (with_functions number names rest) after ∙ whole,
    )
