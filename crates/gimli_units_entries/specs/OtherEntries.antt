-- Entries that are skipped up to one that is looked for.
use Rattle.std.specs.Prelude.{ℕ, zero, suc, ◌^◌, ℤ, pos, ◌+ℤ◌, ◌≤ℤ◌, ◌<ℤ◌, ◌==◌, int_lt, Bool, List, Option, Some, None, Result, Ok, Err, if◌then◌else◌}
use Rattle.std.specs.List.{list_any}
use Rattle.gimli_core_base.specs.declared.error.Error.{Error}
use Rattle.gimli_core_base.specs.declared.constants.DwTag.{DwTag}
use Rattle.gimli_core_base.specs.declared.common.Encoding.{Encoding}
use Rattle.gimli_core_base.specs.View.{View, bytes_left}
use Rattle.gimli_units_forms.specs.Declarations.{Declaration}
use Rattle.gimli_units_entries.specs.EntryWalks.{Walk, entry_head, skip_values}

-- a tag is one of these
abbrev pub is_tag_of : List DwTag → ℕ → Bool
is_tag_of tags tag = list_any (λ t. t.0 == tag) tags

-- a walk, by the depth of its next entry and the bytes that are left
abbrev pub walk_at : Encoding → List Declaration → ℕ → ℤ → View → Walk
walk_at encoding table end_offset depth v =
    record { encoding = encoding; table = table; end_offset = end_offset; depth = depth; rest = v }

-- the depth stays within 64 bits, since each byte changes it by one at most
pub record DepthFits (depth : ℤ) (v : View) : Type 0 where
  pub not_low : pos (bytes_left v) ≤ℤ (depth +ℤ pos (2 ^ 63))
  pub not_high : (depth +ℤ pos (bytes_left v)) <ℤ pos (2 ^ 63)

-- the walk after attributes that can be skipped
abbrev pub after_attributes : Result (Unit {0} × Walk) Error → Option Walk
after_attributes (Ok r) = Some r.1
after_attributes (Err e) = None

-- the walk after an entry of a declaration, unless it is chosen; a null entry never is
abbrev pub after_unless : (ℕ → Bool) → Option Declaration → Walk → Option Walk
after_unless choice None w = Some w
after_unless choice (Some d) w =
    if choice d.tag then None else after_attributes (skip_values d.attributes w)

abbrev pub after_code : (ℕ → Bool) → Result (Option Declaration × Walk) Error → Option Walk
after_code choice (Ok r) = after_unless choice r.0 r.1
after_code choice (Err e) = None

-- The walk after the next entry, with its attributes skipped; none where its tag is chosen, or it
-- can't be read or skipped.
unfoldable pub after_other : (ℕ → Bool) → Walk → Option Walk
after_other choice w = after_code choice (entry_head w)

-- the walk further on, where there is one
abbrev pub further : (Walk → Walk) → Walk → Option Walk → Walk
further skip w None = w
further skip w (Some t) = skip t

-- up to n entries skipped, as long as the depth of the next one is above a bound
unfoldable pub skip_within : ℕ → (ℕ → Bool) → ℤ → Walk → Walk
skip_within zero choice bound w = w
skip_within (suc n) choice bound w =
    if int_lt bound w.depth then further (skip_within n choice bound) w (after_other choice w)
    else w

-- All of them, up to a chosen one, one that can't be read or skipped, or the unit's end: each takes
-- a byte at least.
unfoldable pub skip_others : (ℕ → Bool) → ℤ → Walk → Walk
skip_others choice bound w = skip_within (bytes_left w.rest) choice bound w
