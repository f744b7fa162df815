-- The image of few enough sections fits the fields of its headers.
use Rattle.std.proofs.Common.{◌≡◌, ℕ, ◌+◌, ◌<◌, ◌≤◌, ◌^◌, Bool, true, false, cond, List, [], length, refl, sym, ap, subst, arith}
use Rattle.std.specs.Prelude.{nat_le}
use Rattle.std.specs.List.{list_all}
use Rattle.std.proofs.lemmas.List.Concat.{length-flat_map}
use Rattle.gimli_core_base.specs.declared.common.Encoding.{Encoding}
use Rattle.linemap_elf.specs.Class.{Class}
use Rattle.linemap_elf.specs.Class.TheVariants.{Elf32, Elf64}
use Rattle.linemap_elf.specs.ElfClasses.{word_size}
use Rattle.linemap_elf.specs.ImageLaws.{is_name, ImageFits}
use Rattle.linemap_elf.specs.SpelledImages.{NamedBytes, names_section, header_count, body, image_size}
use Rattle.linemap_elf.proofs.WrittenParts.{length_body}
use Rattle.linemap_emit.specs.EmissionBounds.{sections_size}
use Rattle.linemap_emit.specs.EmittedSections.{SectionBytes, emitted_sections}
use Rattle.linemap_emit.proofs.EmissionSums.{no_line_texts}
use Rattle.linemap_emit.specs.TableParts.{UnitPart}
use Rattle.linemap_image.specs.TableImages.{class_of, image_sections}
use Rattle.linemap_image.proofs.LoadedImages.{IsOfVersion, sections_by, of_image}

nothing_if : (b : Bool) (xs : List ℕ) → b ≡ true → cond b [] xs ≡ []
nothing_if b xs is = ap (λ (c : Bool). cond c [] xs) is

nothing_unless : (b : Bool) (xs : List ℕ) → b ≡ false → cond b xs [] ≡ []
nothing_unless b xs is = ap (λ (c : Bool). cond c xs []) is

-- what is emitted is of its version
pub of_version : (e : Encoding) (is_big : Bool) (us : List UnitPart)
    → IsOfVersion e.version (emitted_sections e is_big us)
of_version e is_big us = record {
  no_lists = λ h. nothing_if (nat_le e.version 4) _ h;
  no_ranges = λ h. nothing_unless (nat_le e.version 4) _ h;
  no_line_texts = no_line_texts e is_big us;
}

are_names : (bytes : SectionBytes) (b : Bool) → list_all (λ s. is_name s.name) (sections_by bytes b) ≡ true
are_names bytes true = refl
are_names bytes false = refl

few : (bytes : SectionBytes) (b : Bool) → header_count (sections_by bytes b) < 0xff00
few bytes true = omega arith
few bytes false = omega arith

names_few : (bytes : SectionBytes) (b : Bool) → length (names_section (sections_by bytes b)).bytes ≤ 92
names_few bytes true = omega arith
names_few bytes false = omega arith

-- the bytes of all sections
body_few : (bytes : SectionBytes) (b : Bool)
    → length (body (sections_by bytes b)) ≤ sections_size bytes + 92
body_few bytes true =
    let whole = length_body (sections_by bytes true) in
    let joined = length-flat_map (λ (s : NamedBytes). s.bytes) (sections_by bytes true) in
    let names = names_few bytes true in
    omega arith
body_few bytes false =
    let whole = length_body (sections_by bytes false) in
    let joined = length-flat_map (λ (s : NamedBytes). s.bytes) (sections_by bytes false) in
    let names = names_few bytes false in
    omega arith

size_fits : (bytes : SectionBytes) (class : Class) (b : Bool) → sections_size bytes < 2 ^ 31
    → image_size class (sections_by bytes b) < 256 ^ word_size class
size_fits bytes Elf32 true small = let whole = body_few bytes true in omega arith
size_fits bytes Elf32 false small = let whole = body_few bytes false in omega arith
size_fits bytes Elf64 true small = let whole = body_few bytes true in omega arith
size_fits bytes Elf64 false small = let whole = body_few bytes false in omega arith

fits_by : (bytes : SectionBytes) (class : Class) (b : Bool) → sections_size bytes < 2 ^ 31
    → ImageFits class (sections_by bytes b)
fits_by bytes class b small =
    let names = names_few bytes b in
    record {
      are_names = are_names bytes b;
      few = few bytes b;
      names_fit = omega arith;
      size_fits = size_fits bytes class b small;
    }

pub image_fits : (e : Encoding) (bytes : SectionBytes) → sections_size bytes < 2 ^ 31
    → ImageFits (class_of e.address_size) (image_sections e bytes)
image_fits e bytes small =
    subst (λ (ss : List NamedBytes). ImageFits (class_of e.address_size) ss) (sym (of_image e bytes))
    (fits_by bytes (class_of e.address_size) (nat_le e.version 4) small)
