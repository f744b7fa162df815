-- The name that a reference leads to, where a number of references may be followed.
use Rattle.std.proofs.Common.{◌≡◌, ℕ, zero, suc, ◌-◌, ◌<◌, Option, Some, None, Result, Ok, Err, refl, ap, ◌∙◌, arith}
use Rattle.gimli_dwarf.specs.Error.{Error}
use Rattle.gimli_dwarf.specs.AttributeValues.{RawValue}
use Rattle.gimli_dwarf.specs.Results.{and_then}
use Rattle.addr2line_names.specs.EntryReferences.{KnownUnits, HoldingUnit, ReferredEntry, referred_entry}
use Rattle.addr2line_names.specs.EntryNamings.{EntryNaming, naming_at}
use Rattle.addr2line_names.specs.FunctionNames.{name_by_reference, name_or_follow, name_of_entry}

-- with no more references, nothing
pub by_no_reference : (known : KnownUnits) (left : ℕ) (h : HoldingUnit) (v : RawValue) → left ≡ 0
    → name_by_reference known left h v ≡ Ok None
unfolding name_by_reference
by_no_reference known zero h v none = refl
by_no_reference known (suc more) h v none = absurd (omega arith)

-- with some, the name by the naming of the entry
pub by_some_reference : (known : KnownUnits) (left : ℕ) (h : HoldingUnit) (v : RawValue) → 0 < left
    → name_by_reference known left h v
    ≡ and_then (referred_entry known h v) (name_of_entry (name_by_reference known (left - 1)))
unfolding name_by_reference
by_some_reference known zero h v some = absurd (omega arith)
by_some_reference known (suc more) h v some =
    let same : more ≡ suc more - 1 = omega arith in
    ap (λ n. and_then (referred_entry known h v) (name_of_entry (name_by_reference known n))) same

-- what follows from a result
then_ok : {A B : Type 0} (r : Result A Error) (f : A → Result B Error) (x : A) → r ≡ Ok x → and_then r f ≡ f x
then_ok r f x h = ap (λ (q : Result _ Error). and_then q f) h

then_err : {A B : Type 0} (r : Result A Error) (f : A → Result B Error) (e : Error) → r ≡ Err e → and_then r f ≡ Err e
then_err r f e h = ap (λ (q : Result _ Error). and_then q f) h

module _ (known : KnownUnits) (left : ℕ) (h : HoldingUnit) (v : RawValue) where
  -- the reference is refused
  pub by_refused_reference : (e : Error) → 0 < left → referred_entry known h v ≡ Err e
      → name_by_reference known left h v ≡ Err e
  by_refused_reference e some is =
      by_some_reference known left h v some
      ∙ then_err (referred_entry known h v) (name_of_entry (name_by_reference known (left - 1))) e is

  -- it leads to no entry
  pub by_reference_to_nothing : (o : Option ReferredEntry) → 0 < left → referred_entry known h v ≡ Ok o → o ≡ None
      → name_by_reference known left h v ≡ Ok None
  by_reference_to_nothing o some is none =
      by_some_reference known left h v some
      ∙ then_ok (referred_entry known h v) (name_of_entry (name_by_reference known (left - 1))) o is
      ∙ ap (name_of_entry (name_by_reference known (left - 1))) none

  -- it leads to an entry
  pub by_reference_to_entry : (o : Option ReferredEntry) (e : ReferredEntry) → 0 < left
      → referred_entry known h v ≡ Ok o → o ≡ Some e
      → name_by_reference known left h v
      ≡ and_then (naming_at e) (name_or_follow (name_by_reference known (left - 1) e.holder))
  by_reference_to_entry o e some is found =
      by_some_reference known left h v some
      ∙ then_ok (referred_entry known h v) (name_of_entry (name_by_reference known (left - 1))) o is
      ∙ ap (name_of_entry (name_by_reference known (left - 1))) found

  -- which is refused
  pub by_reference_to_fault : (o : Option ReferredEntry) (e : ReferredEntry) (fault : Error) → 0 < left
      → referred_entry known h v ≡ Ok o → o ≡ Some e
      → naming_at e ≡ Err fault → name_by_reference known left h v ≡ Err fault
  by_reference_to_fault o e fault some is found refuses =
      by_reference_to_entry o e some is found
      ∙ then_err (naming_at e)
      (name_or_follow (name_by_reference known (left - 1) e.holder)) fault refuses

  -- which has a naming
  pub by_reference_to_naming : (o : Option ReferredEntry) (e : ReferredEntry) (n m : EntryNaming) → 0 < left
      → referred_entry known h v ≡ Ok o → o ≡ Some e
      → naming_at e ≡ Ok n → n ≡ m
      → name_by_reference known left h v
      ≡ name_or_follow (name_by_reference known (left - 1) e.holder) m
  by_reference_to_naming o e n m some is found says same =
      by_reference_to_entry o e some is found
      ∙ then_ok (naming_at e) (name_or_follow (name_by_reference known (left - 1) e.holder)) n says
      ∙ ap (name_or_follow (name_by_reference known (left - 1) e.holder)) same
