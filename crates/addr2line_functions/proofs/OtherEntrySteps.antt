-- Entries that are skipped, as rows whose attributes are skipped.
use Rattle.std.proofs.Common.{◌≡◌, ℕ, ◌≤◌, ℤ, Bool, true, false, cond, List, [], Option, Some, None, Result, Ok, Err, refl, ap, ◌∙◌, arith}
use Rattle.gimli_units_entries.specs.Error.{Error}
use Rattle.gimli_units_entries.specs.View.{View, bytes_left}
use Rattle.gimli_units_entries.specs.Parsers.{proceed, give}
use Rattle.addr2line_ranges.specs.Declarations.{Declaration}
use Rattle.gimli_units_entries.specs.AttributeValues.{RawAttribute}
use Rattle.gimli_units_entries.specs.AttributeSkipping as form_skips
use Rattle.gimli_units_entries.specs.AttributeReading as forms
use Rattle.gimli_units_entries.specs.EntryWalks.{Walk, next_offset, walk_with_rest, entry_head, skip_values}
use Rattle.gimli_units_entries.specs.EntryRows.{Row, row_of, row_choosing}
use Rattle.gimli_units_entries.specs.OtherEntries.{after_attributes, after_unless, after_code, after_other, skip_others}
use Rattle.gimli_units_entries.proofs.RowParts.{HasHead, walk_after_code, entry_head-parts, read_in_walk-Ok, row-from}
use Rattle.gimli_units_entries.proofs.OtherEntryLemmas.{other-parts, skips-fewer, skip_others-keeps}

-- the row of an entry that is skipped, after which a walk goes on
pub record OtherRow (limit : ℕ) (chosen choice : ℕ → Bool) (w t : Walk) : Type 0 where
  pub row : Row
  pub read : row_choosing limit chosen w ≡ Ok (row, t)
  pub is_other : choice row.tag ≡ false

abbrev no_walk : Option Walk
no_walk = None

abbrev no_attributes : List RawAttribute
no_attributes = []

-- null entries aren't chosen, and what is read is chosen
module _ (limit : ℕ) (chosen choice : ℕ → Bool) (null : choice 0 ≡ false)
    (less : (n : ℕ) → choice n ≡ false → chosen n ≡ false) where
  null_row : (w s t : Walk) (v : View) → HasHead w None v → walk_after_code w None v ≡ s → s ≡ t
      → OtherRow limit chosen choice w t
  null_row w s t v head at to =
      let r = row_of (next_offset w) w.depth None no_attributes in
      record {
        row = r;
        read = row-from limit chosen w t r (record {
          declaration = None;
          after_its_code = v;
          rest = v;
          found = [];
          has_head = head;
          has_contents = refl;
          is_row = refl;
          leads = at ∙ to;
        });
        is_other = null;
      }

  skipped_values : (w s t : Walk) (d : Declaration) (v u : View) → HasHead w (Some d) v
      → walk_after_code w (Some d) v ≡ s → form_skips.skip_values s.encoding d.attributes s.rest ≡ Ok (tt, u)
      → walk_with_rest u s ≡ t → choice d.tag ≡ false → OtherRow limit chosen choice w t
  skipped_values w s t d v u head at skips to other =
      let r = row_of (next_offset w) w.depth (Some d) no_attributes in
      record {
        row = r;
        read = row-from limit chosen w t r (record {
          declaration = Some d;
          after_its_code = v;
          rest = u;
          found = [];
          has_head = head;
          has_contents =
              ap (λ (b : Bool). cond b (forms.attributes limit w.encoding d.attributes v)
              (proceed (form_skips.skip_values w.encoding d.attributes v) (λ _. give no_attributes)))
              (less d.tag other)
              ∙ ap (λ (x : Result (Unit {0} × View) Error). proceed x (λ _. give no_attributes))
              (ap (λ (x : Walk). form_skips.skip_values x.encoding d.attributes x.rest) at ∙ skips);
          is_row = refl;
          leads = ap (walk_with_rest u) at ∙ to;
        });
        is_other = other;
      }

  by_values : (w s t : Walk) (d : Declaration) (v : View) → HasHead w (Some d) v
      → walk_after_code w (Some d) v ≡ s → choice d.tag ≡ false
      → (r : Result (Unit {0} × Walk) Error) → skip_values d.attributes s ≡ r → after_attributes r ≡ Some t
      → OtherRow limit chosen choice w t
  unfolding skip_values
  by_values w s t d v head at other (Err e) k is = absurd cc
  by_values w s t d v head at other (Ok p) k is =
      let to : p.1 ≡ t = cc in
      let c = read_in_walk-Ok s (form_skips.skip_values s.encoding d.attributes s.rest) p.0 p.1 k in
      skipped_values w s t d v c.0 head at c.1 (c.2 ∙ to) other

  by_declaration : (w s t : Walk) (o : Option Declaration) (v : View) → HasHead w o v → walk_after_code w o v ≡ s
      → after_unless choice o s ≡ Some t → OtherRow limit chosen choice w t
  by_declaration w s t None v head at is = let to : s ≡ t = cc in null_row w s t v head at to
  by_declaration w s t (Some d) v head at is = by_choice (choice d.tag) refl is
    where
      by_choice : (b : Bool) → choice d.tag ≡ b
          → cond b no_walk (after_attributes (skip_values d.attributes s)) ≡ Some t
          → OtherRow limit chosen choice w t
      by_choice true other e = absurd cc
      by_choice false other e = by_values w s t d v head at other (skip_values d.attributes s) refl e

  pub other_row : (w t : Walk) → after_other choice w ≡ Some t → OtherRow limit chosen choice w t
  unfolding after_other
  other_row w t h = by_head (entry_head w) refl h
    where
      by_head : (r : Result (Option Declaration × Walk) Error) → entry_head w ≡ r → after_code choice r ≡ Some t
          → OtherRow limit chosen choice w t
      by_head (Err e) k is = absurd cc
      by_head (Ok p) k is =
          let c = entry_head-parts w p.1 p.0 k in
          by_declaration w p.1 t p.0 c.0 c.1 c.2 is

-- no more bytes are left than before
pub others_within : (choice : ℕ → Bool) (bound : ℤ) (w : Walk)
    → bytes_left (skip_others choice bound w).rest ≤ bytes_left w.rest
others_within choice bound w =
    skip_others-keeps (λ (x : Walk). bytes_left x.rest ≤ bytes_left w.rest) choice bound
    (λ x t above next le. let fewer = skips-fewer x t (other-parts choice x t next) in omega (arith, fewer, le))
    w (omega arith)
