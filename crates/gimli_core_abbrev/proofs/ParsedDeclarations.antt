-- The declaration that a call parsed, where there is one.
use Rattle.std.proofs.Common.{◌≡◌, ◌<◌, List, Option, Some, option_map, Result, Ok, ap, subst, ◌∙◌}
use Rattle.std.specs.Prelude.{IfSome}
use Rattle.gimli_core_readers.specs.Error.{Error}
use Rattle.gimli_core_readers.specs.View.{View}
use Rattle.gimli_core_abbrev.specs.Declarations.{Attribute, Declaration}
use Rattle.gimli_core_abbrev.specs.TableParsing.{declaration}
use Rattle.gimli_core_abbrev.specs.AbbreviationViews.{with_attributes}
use Rattle.gimli_core_abbrev.specs.declared.declaration.CodedHead.{CodedHead}
use Rattle.gimli_core_abbrev.proofs.TableCollection.{declaration-coded}

abbrev ok_read : Option Declaration → View → Result (Option Declaration × View) Error
ok_read o v = Ok (o, v)

pub parsed_item : {o : Option CodedHead} {head : CodedHead} (v place : View) (attributes : List Attribute)
    → o ≡ Some head → declaration v ≡ ok_read (option_map (with_attributes attributes) o) place
    → declaration v ≡ ok_read (Some (with_attributes attributes head)) place
parsed_item v place attributes is reads =
    reads ∙ ap (λ (o : Option CodedHead). ok_read (option_map (with_attributes attributes) o) place) is

-- what is known of it
pub of_parsed : {o : Option CodedHead} {head : CodedHead} (P : CodedHead → Type 0) → o ≡ Some head → IfSome o P
    → P head
of_parsed P is knows = subst (λ (o : Option CodedHead). IfSome o P) is knows

-- its code is above 0
pub parsed-coded : {o : Option CodedHead} {head : CodedHead} (v place : View) (attributes : List Attribute)
    → o ≡ Some head → declaration v ≡ ok_read (option_map (with_attributes attributes) o) place → 0 < head.code
parsed-coded {o} {head} v place attributes is reads =
    declaration-coded v (with_attributes attributes head) place (parsed_item v place attributes is reads)
