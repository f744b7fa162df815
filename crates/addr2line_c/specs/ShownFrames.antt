-- Frames as they are shown to C: by a text of the function's name.
use Rattle.std.specs.Prelude.{ℕ, zero, suc, List, Option, option_map, option_and_then}
use Rattle.std.specs.Str.Lossy.{utf8_lossy}
use Rattle.addr2line_context.specs.Lines.{Location}
use Rattle.addr2line_context.specs.Frames.{Frame, FunctionName}
use Rattle.addr2line_demangle.specs.LegacyNames.{demangle_or_name}

-- A text of a name of a language: for 0 the name itself, and else what it means there.
abbrev pub name_text : ℕ → Option ℕ → List ℕ → List ℕ
name_text zero language name = name
name_text (suc n) language name = demangle_or_name language name

-- a function's name, in which each sequence that isn't UTF-8 is U+FFFD
abbrev pub function_text : ℕ → FunctionName → List ℕ
function_text names f = name_text names f.language (utf8_lossy f.name.bytes)

-- a frame with the text of its function's name
pub record ShownFrame : Type 0 where
  pub name : Option (List ℕ)
  pub language : Option ℕ
  pub offset : Option ℕ
  pub location : Option Location

-- what is shown of a frame, by the names that are asked for
abbrev pub shown_frame : ℕ → Frame → ShownFrame
shown_frame names f =
    record {
      name = option_map (function_text names) f.function;
      language = option_and_then (λ n. n.language) f.function;
      offset = f.offset;
      location = f.location;
    }
