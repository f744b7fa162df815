-- The text of the frames of an address: the functions that it is in, with their places.
use Rattle.std.specs.Prelude.{ℕ, List, [], ◌∷◌, ◌++◌, codes, Option, Some, None, if◌then◌else◌}
use Rattle.std.specs.Str.Lossy.{utf8_lossy}
use Rattle.addr2line_demangle.specs.LegacyNames.{demangle_or_name}
use Rattle.addr2line_context.specs.Frames.{Frame, FunctionName}
use Rattle.addr2line_context.specs.Lines.{Location}
use Rattle.linemap_meaning.specs.AnswerTexts.{unknown_text}
use Rattle.linemap_output.specs.declared.options.Options.{Options}
use Rattle.linemap_lookup.specs.AddressTexts.{location_text_if_any}

-- ---- names

-- a name of a language, as people read it where that is asked for
abbrev pub name_text : Options → Option ℕ → List ℕ → List ℕ
name_text o language name = if o.demangle then demangle_or_name language name else name

-- the name of a function; "??" where it isn't known
abbrev pub function_text : Options → Option FunctionName → List ℕ
function_text o None = unknown_text
function_text o (Some f) = name_text o f.language (utf8_lossy f.name.bytes)

-- that of a symbol, whose language isn't known, or else that of the function
abbrev pub symbol_or_function : Options → Option (List ℕ) → Option FunctionName → List ℕ
symbol_or_function o None f = function_text o f
symbol_or_function o (Some symbol) f = name_text o None symbol

-- ---- frames

-- what follows a name: its place, on the same line or on the next
abbrev pub after_name : Options → List ℕ
after_name o = if o.pretty then codes " at " else codes "\n"

-- a name, where names are asked for, and the line of a place
abbrev pub frame_line : Options → List ℕ → Option Location → List ℕ
frame_line o name place =
    (if o.functions then name ++ after_name o else [])
    ++ (location_text_if_any o place ++ codes "\n")

abbrev pub frame_text : Options → Option (List ℕ) → Frame → List ℕ
frame_text o symbol f = frame_line o (symbol_or_function o symbol f.function) f.location

-- a symbol is the name of the last frame alone
abbrev pub symbol_of_last : Option (List ℕ) → List Frame → Option (List ℕ)
symbol_of_last symbol [] = symbol
symbol_of_last symbol (f ∷ fs) = None

-- a frame before another has no symbol's name
abbrev pub symbol_before : Option Frame → Option (List ℕ) → Option (List ℕ)
symbol_before None symbol = symbol
symbol_before (Some f) symbol = None

-- what goes before the frame of a function that a call is inlined into
abbrev pub inlined_by : Options → List ℕ
inlined_by o = if o.pretty then codes " (inlined by) " else []

-- the frames after the first
abbrev pub outer_frames_text : Options → Option (List ℕ) → List Frame → List ℕ
outer_frames_text o symbol [] = []
outer_frames_text o symbol (f ∷ fs) =
    (inlined_by o ++ frame_text o (symbol_of_last symbol fs) f) ++ outer_frames_text o symbol fs

-- All frames, or the first alone where calls aren't asked for. Where there is none, a name and a
-- place that aren't known, unless a symbol has a name.
abbrev pub frames_text : Options → Option (List ℕ) → List Frame → List ℕ
frames_text o symbol [] = frame_line o (symbol_or_function o symbol None) None
frames_text o symbol (f ∷ fs) =
    frame_text o (symbol_of_last symbol fs) f
    ++ (if o.inlines then outer_frames_text o symbol fs else [])
