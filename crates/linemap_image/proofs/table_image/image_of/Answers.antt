use Rattle.std.proofs.Common.{◌≡◌, ℕ, Bool, List, ap, ◌∙◌, subst}
use Rattle.std.specs.Prelude.{IfOk}
use Rattle.linemap_elf.specs.Class.{Class}
use Rattle.linemap_elf.specs.SpelledImages.{NamedBytes, spelled_image}
use Rattle.linemap_emit.specs.EmissionTargets.{encoding_of, is_big_of}
use Rattle.linemap_emit.specs.EmittedSections.{SectionBytes}
use Rattle.linemap_image.specs.Encoding.{Encoding}
use Rattle.linemap_image.specs.TableImages.{class_of, section_ids, named_sections, emitted_image}
use Rattle.linemap_image.proofs.table_image.image_of.Goals as goal

-- the image of the sections by their names
image_is : (e t : Encoding) (class : Class) (big is_big : Bool) (bytes : SectionBytes)
    (slice named : List NamedBytes)
    → e ≡ t → class ≡ class_of e.address_size → big ≡ is_big → slice ≡ named
    → named ≡ named_sections bytes (section_ids e.version)
    → spelled_image class big slice ≡ emitted_image t is_big bytes
unfolding emitted_image
image_is e t class big is_big bytes slice named same class_is order_is slice_is named_are =
    let of_class = class_of t.address_size in
    let by_name = named_sections bytes (section_ids t.version) in
    let a : class ≡ of_class = class_is ∙ ap (λ (x : Encoding). class_of x.address_size) same in
    let b : slice ≡ by_name =
    slice_is ∙ named_are ∙ ap (λ (x : Encoding). named_sections bytes (section_ids x.version)) same in
    ap (λ (x : Class). spelled_image x big slice) a
    ∙ ap (λ (x : Bool). spelled_image of_class x slice) order_is
    ∙ ap (λ (x : List NamedBytes). spelled_image of_class is_big x) b

pub returns-clause-image : goal.returns-clause-image
returns-clause-image c =
    subst (λ (image : List ℕ). IfOk c.write_image.result (λ bytes. bytes.items ≡ image))
    (image_is c.encoding-encoding.result (encoding_of c.args.target) _ _ (is_big_of c.args.target)
    c.args.sections.now _ c.in_ok-named.named.items c.encoding-encoding.ensures.value c.class_of-class.ensures
    c.endian.ensures c.deref.ensures.value c.in_ok-named.ensures)
    c.write_image.ensures.image
