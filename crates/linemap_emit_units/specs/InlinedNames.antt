-- The names of the functions that are inlined into those of a unit, each once.
use Rattle.std.specs.Prelude.{◌≡◌, ℕ, true, List, [], ◌∷◌, ◌++◌, flat_map}
use Rattle.std.specs.List.{list_any}
use Rattle.gimli_lines_write_tables.specs.StringSections.{same_bytes, with_text}
use Rattle.linemap_emit_programs.specs.TableParts.{Calls, no_calls, more_calls, FunctionPart, UnitPart}

-- the names of calls in order of appearance: each, then those inlined into it, then those after it
unfoldable pub call_names : Calls → List (List ℕ)
call_names no_calls = []
call_names (more_calls site inner others) = site.name ∷ (call_names inner ++ call_names others)

-- those of all calls in functions
abbrev pub called_names : List FunctionPart → List (List ℕ)
called_names fs = flat_map (λ f. call_names f.calls) fs

-- texts, with others after them, each once, by first use
abbrev pub with_texts : List (List ℕ) → List (List ℕ) → List (List ℕ)
with_texts texts [] = texts
with_texts texts (t ∷ ts) = with_texts (with_text texts t) ts

-- the names of all calls in a unit, each once, by first use
abbrev pub inlined_names : UnitPart → List (List ℕ)
inlined_names u = with_texts [] (called_names u.functions)

-- each name of calls is such that something holds of it
unfoldable pub NamesAre : (List ℕ → Type 0) → Calls → Type 0
NamesAre P no_calls = Unit {0}
NamesAre P (more_calls site inner others) = P site.name × NamesAre P inner × NamesAre P others

abbrev pub FunctionNamesAre : (List ℕ → Type 0) → List FunctionPart → Type 0
FunctionNamesAre P [] = Unit {0}
FunctionNamesAre P (f ∷ fs) = NamesAre P f.calls × FunctionNamesAre P fs

-- a text is among others
abbrev pub IsAmong : List (List ℕ) → List ℕ → Type 0
IsAmong texts t = list_any (same_bytes t) texts ≡ true
