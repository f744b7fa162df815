-- Numbers of files that are opened decompressed, or as they are.
use Rattle.std.proofs.Common.{◌≡◌, inl, inr, ℤ, Bool, true, false, List, ℕ, Option, Result, Ok, Err, refl, sym, ◌∙◌, subst}
use Rattle.addr2line_split.specs.LoadError.{LoadError}
use Rattle.addr2line_loader.specs.DecompressResults.{or_image}
use Rattle.addr2line_loader.specs.LoadedFiles.{LoadedFile, loaded_file}
use Rattle.addr2line_c.specs.Numbers.{loaded_number, decompressed_number, IsLoadedOrNoMemory, IsDecompressedOrNoMemory}
use Rattle.addr2line_c.specs.OpenHandles.{file_over}

-- a file as it is has the number that it has where none is decompressed
same_number : {A : Type 0} (x : Result A LoadError) → loaded_number x ≡ decompressed_number (or_image x)
same_number (Ok x) = refl
same_number (Err e) = refl

pub number_as_it_is : (decompress : Bool) → decompress ≡ false → (image : List ℕ) (supplement : Option (List ℕ))
    (number : ℤ) → IsLoadedOrNoMemory number (loaded_file image supplement)
    → IsDecompressedOrNoMemory number (file_over decompress image supplement)
number_as_it_is decompress is image supplement number h =
    subst (λ (b : Bool). IsDecompressedOrNoMemory number (file_over b image supplement)) (sym is) (by h)
  where
    by : IsLoadedOrNoMemory number (loaded_file image supplement)
        → IsDecompressedOrNoMemory number (or_image (loaded_file image supplement))
    by (inl same) = inl (same ∙ same_number (loaded_file image supplement))
    by (inr none) = inr none
