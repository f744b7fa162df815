-- Results of decompressing, and how the result of a call relates to them.
use Rattle.std.specs.Prelude.{◌≡◌, ◌≢◌, ℕ, Bool, Result, Ok, Err, if◌then◌else◌}
use Rattle.gimli_core_readers.specs.Error.{Error}
use Rattle.addr2line_elf.specs.declared.error.LoadError.{LoadError}
use Rattle.addr2line_elf.specs.declared.error.LoadError.TheVariants as load
use Rattle.addr2line_inflate.specs.declared.error.InflateError.{InflateError}
use Rattle.addr2line_inflate.specs.declared.error.InflateError.TheVariants as inflate
use Rattle.addr2line_decompress.specs.declared.error.DecompressError.{DecompressError}
use Rattle.addr2line_decompress.specs.declared.error.DecompressError.TheVariants.{Memory, Image, HeaderCut, Stream}

-- the refusal where a test holds
abbrev pub refuse_if : Bool → DecompressError → Result (Unit {0}) DecompressError
refuse_if test refusal = if test then Err refusal else Ok tt

-- the refusals of an image, of a compression header, and of the stream of a section
abbrev pub or_image : {A : Type 0} → Result A LoadError → Result A DecompressError
or_image (Ok x) = Ok x
or_image (Err e) = Err (Image e)

abbrev pub or_header_cut : {A : Type 0} → ℕ → Result A Error → Result A DecompressError
or_header_cut index (Ok x) = Ok x
or_header_cut index (Err e) = Err (HeaderCut index)

abbrev pub or_stream : {A : Type 0} → ℕ → Result A InflateError → Result A DecompressError
or_stream index (Ok x) = Ok x
or_stream index (Err e) = Err (Stream index e)

-- the refusal of an image, and of the stream of a section; out of memory stays the same
abbrev pub image_refusal : LoadError → DecompressError
image_refusal load.Memory = Memory
image_refusal e = Image e

abbrev pub stream_refusal : ℕ → InflateError → DecompressError
stream_refusal index inflate.Memory = Memory
stream_refusal index e = Stream index e

-- The definition's value, or its refusal, or out of memory. `see` is what a contract sees of a
-- value.
abbrev pub DecompressesAsOrNoMemory : {A B : Type 0} → (A → B) → Result A DecompressError
    → Result B DecompressError → Type 0
DecompressesAsOrNoMemory see (Ok x) meaning = meaning ≡ Ok (see x)
DecompressesAsOrNoMemory see (Err e) meaning = e ≢ Memory → meaning ≡ Err e
