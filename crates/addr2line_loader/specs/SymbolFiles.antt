-- Symbols that come from another file than the one with the debugging information.
use Rattle.std.specs.Prelude.{ℕ, List, [], ◌∷◌, codes, Result, Ok}
use Rattle.addr2line_context.specs.Results.{◌>>=◌}
use Rattle.addr2line_split.specs.ElfImages.{image_of, section_named}
use Rattle.addr2line_split.specs.ElfSymbols.{NamedSymbol, symbols_of}
use Rattle.addr2line_split.specs.LoadError.{LoadError}
use Rattle.addr2line_loader.specs.LoadedFiles.{LoadedFile}

-- the symbols of the file of some bytes
abbrev pub symbols_in : List ℕ → Result (List NamedSymbol) LoadError
symbols_in bytes = do
  image ← image_of bytes
  symbols_of image

-- a file's symbols, by the bytes of its section of all symbols: its own, or if there are no bytes,
-- those of another file
abbrev pub symbols_or : List ℕ → List NamedSymbol → List ℕ → Result (List NamedSymbol) LoadError
symbols_or [] symbols other = symbols_in other
symbols_or (b ∷ bs) symbols other = Ok symbols

-- a file with its own symbols, or those of another file (System V ABI, "Special Sections")
abbrev pub with_symbols_of : List ℕ → LoadedFile → Result LoadedFile LoadError
with_symbols_of other file = do
  table ← section_named (codes ".symtab") file.image
  symbols ← symbols_or table.bytes file.symbols other
  Ok (record file { symbols = symbols })
