-- The parts of a row that was read, and a row from its parts.
use Rattle.std.proofs.Common.{◌≡◌, ℕ, ◌≤◌, ◌<◌, Bool, true, false, cond, List, [], Option, Some, None, Result, Ok, Err, refl, sym, ◌∙◌, ap, arith}
use Rattle.gimli_core_base.specs.declared.error.Error.{Error}
use Rattle.gimli_core_base.specs.View.{View, bytes_left}
use Rattle.gimli_core_base.specs.Parsers.{proceed, give, lift, here}
use Rattle.gimli_core_base.proofs.StepParts.{begins, value_is, state_is, lift-Ok, read}
use Rattle.gimli_core_base.proofs.StepSizes.{AtMost, AtMost-Ok, AtMost-cond, AtMost-proceed}
use Rattle.gimli_core_base.specs.declared.common.Encoding.{Encoding}
use Rattle.gimli_core_base.specs.NumberParsers.{unsigned}
use Rattle.gimli_core_base.proofs.NumberReadSizes.{Below-unsigned}
use Rattle.gimli_units_forms.specs.Declarations.{Declaration}
use Rattle.gimli_units_forms.specs.AttributeValues.{RawAttribute}
use Rattle.gimli_units_forms.specs.AttributeReading as forms
use Rattle.gimli_units_forms.specs.AttributeSkipping as form_skips
use Rattle.gimli_units_forms.proofs.FormSizes.{AtMost-attributes, AtMost-skip_values}
use Rattle.gimli_units_entries.specs.EntryWalks.{Walk, walk_with_rest, read_in_walk, declaration_of_code, depth_after, change_depth, next_offset, entry_head, values, skip_values}
use Rattle.gimli_units_entries.specs.EntryRows.{Row, row_of, skip_attributes_of, contents, row_choosing}

-- what a walk makes of what was read of its bytes
pub read_in_walk-Ok : {A : Type 0} (w : Walk) (r : Result (A × View) Error) (x : A) (t : Walk)
    → read_in_walk w r ≡ Ok (x, t) → (v : View) × (r ≡ Ok (x, v)) × (walk_with_rest v w ≡ t)
read_in_walk-Ok {A} w (Ok p) x t e = (p.1, ap (λ (y : A). read y p.1) (value_is p.0 x _ t e), state_is p.0 x _ t e)
read_in_walk-Ok w (Err d) x t e = absurd cc

-- ---- the code

-- the walk after a code
abbrev pub walk_after_code : Walk → Option Declaration → View → Walk
walk_after_code w d v =
    record
    { encoding = w.encoding; table = w.table; end_offset = w.end_offset; depth = depth_after w.depth d; rest = v }

-- a code was read, and is that of a declaration
pub record HasHead (w : Walk) (d : Option Declaration) (v : View) : Type 0 where
  pub code : ℕ
  pub reads_code : unsigned w.rest ≡ Ok (code, v)
  pub declares : declaration_of_code code w.table ≡ Ok d

pub entry_head-from : (w : Walk) (d : Option Declaration) (v : View) → HasHead w d v
    → entry_head w ≡ Ok (d, walk_after_code w d v)
unfolding entry_head
entry_head-from w d v h =
    ap (λ (r : Result (ℕ × View) Error). proceed (read_in_walk w r)
    (λ code s. proceed (here s) (λ x y. proceed (lift (declaration_of_code code x.table) y) change_depth))) h.reads_code
    ∙ ap (λ (r : Result (Option Declaration) Error). proceed (lift r (walk_with_rest v w)) change_depth) h.declares

pub entry_head-parts : (w t : Walk) (d : Option Declaration) → entry_head w ≡ Ok (d, t)
    → (v : View) × HasHead w d v × (walk_after_code w d v ≡ t)
unfolding entry_head
entry_head-parts w t d e =
    let b = begins (read_in_walk w (unsigned w.rest))
    (λ code s. proceed (here s) (λ x y. proceed (lift (declaration_of_code code x.table) y) change_depth)) d t e in
    let c = read_in_walk-Ok w (unsigned w.rest) b.0 b.1 b.2 in
    let k = begins (lift (declaration_of_code b.0 b.1.table) b.1) change_depth d t b.3 in
    let l = lift-Ok (declaration_of_code b.0 b.1.table) b.1 k.0 k.1 k.2 in
    let same : k.0 ≡ d = value_is _ _ _ _ k.3 in
    let is : walk_after_code k.1 k.0 k.1.rest ≡ t = state_is _ _ _ _ k.3 in
    let at : k.1 ≡ walk_with_rest c.0 w = l.1 ∙ sym c.2 in (
      c.0,
      record {
        code = b.0;
        reads_code = c.1;
        declares = ap (λ (x : Walk). declaration_of_code b.0 x.table) c.2 ∙ l.0
            ∙ ap ok same;
      },
      ap (λ (x : Walk). walk_after_code x d x.rest) (sym at)
          ∙ ap (λ (o : Option Declaration). walk_after_code k.1 o k.1.rest) (sym same) ∙ is,
    )
  where
    ok : Option Declaration → Result (Option Declaration) Error
    ok o = Ok o

-- ---- the attributes

-- the attributes of an entry, from the bytes after its code
abbrev pub contents_in : ℕ → (ℕ → Bool) → Encoding → Option Declaration → View → Result (List RawAttribute × View) Error
contents_in limit chosen e None v = Ok ([], v)
contents_in limit chosen e (Some d) v =
    cond (chosen d.tag) (forms.attributes limit e d.attributes v)
    (proceed (form_skips.skip_values e d.attributes v) (λ _. give []))

abbrev no_attributes : List RawAttribute
no_attributes = []

read_in_walk-drop : (w : Walk) (r : Result (Unit {0} × View) Error)
    → proceed (read_in_walk w r) (λ _. give no_attributes) ≡ read_in_walk w (proceed r (λ _. give no_attributes))
read_in_walk-drop w (Ok p) = refl
read_in_walk-drop w (Err d) = refl

contents-is : (limit : ℕ) (chosen : ℕ → Bool) (d : Option Declaration) (w : Walk)
    → contents limit chosen d w ≡ read_in_walk w (contents_in limit chosen w.encoding d w.rest)
unfolding values skip_values
contents-is limit chosen None w = refl
contents-is limit chosen (Some d) w =
    elim (chosen d.tag) as (λ b. cond b (values limit d.attributes w) (skip_attributes_of d w)
    ≡ read_in_walk w
    (cond b (forms.attributes limit w.encoding d.attributes w.rest)
    (proceed (form_skips.skip_values w.encoding d.attributes w.rest) (λ _. give [])))) [
      | true ↦ refl
      | false ↦ read_in_walk-drop w (form_skips.skip_values w.encoding d.attributes w.rest)
    ]

contents_in-AtMost : (limit : ℕ) (chosen : ℕ → Bool) (e : Encoding) (d : Option Declaration) (v : View)
    → AtMost bytes_left (bytes_left v) (contents_in limit chosen e d v)
contents_in-AtMost limit chosen e None v = AtMost-Ok (omega arith)
contents_in-AtMost limit chosen e (Some d) v =
    AtMost-cond (chosen d.tag) (AtMost-attributes limit e d.attributes v (omega arith))
    (AtMost-proceed (AtMost-skip_values e d.attributes v (omega arith)) (λ x s le. AtMost-Ok le))

-- ---- rows

-- a row was read: its code, and its attributes after that
pub record HasRow (limit : ℕ) (chosen : ℕ → Bool) (w : Walk) (r : Row) (t : Walk) : Type 0 where
  pub declaration : Option Declaration
  pub after_its_code : View
  pub rest : View
  pub found : List RawAttribute
  pub has_head : HasHead w declaration after_its_code
  pub has_contents : contents_in limit chosen w.encoding declaration after_its_code ≡ Ok (found, rest)
  pub is_row : row_of (next_offset w) w.depth declaration found ≡ r
  pub leads : walk_after_code w declaration rest ≡ t

pub row-parts : (limit : ℕ) (chosen : ℕ → Bool) (w t : Walk) (r : Row) → row_choosing limit chosen w ≡ Ok (r, t)
    → HasRow limit chosen w r t
unfolding row_choosing
row-parts limit chosen w t r e =
    let row_with = λ (d : Option Declaration) (found : List RawAttribute). row_of (next_offset w) w.depth d found in
    let b = begins (entry_head w)
    (λ d s. proceed (contents limit chosen d s) (λ found. give (row_with d found))) r t e in
    let h = entry_head-parts w b.1 b.0 b.2 in
    let k = begins (contents limit chosen b.0 b.1) (λ found. give (row_with b.0 found)) r t b.3 in
    let c = read_in_walk-Ok (walk_after_code w b.0 h.0) (contents_in limit chosen w.encoding b.0 h.0) k.0 k.1
    (sym (contents-is limit chosen b.0 (walk_after_code w b.0 h.0)) ∙ ap (contents limit chosen b.0) h.2 ∙ k.2) in
    record {
      declaration = b.0;
      after_its_code = h.0;
      rest = c.0;
      found = k.0;
      has_head = h.1;
      has_contents = c.1;
      is_row = value_is _ _ _ _ k.3;
      leads = c.2 ∙ state_is _ _ _ _ k.3;
    }

pub row-from : (limit : ℕ) (chosen : ℕ → Bool) (w t : Walk) (r : Row) → HasRow limit chosen w r t
    → row_choosing limit chosen w ≡ Ok (r, t)
unfolding row_choosing
row-from limit chosen w t r h =
    let d = h.declaration in
    let row_with = λ (o : Option Declaration) (found : List RawAttribute). row_of (next_offset w) w.depth o found in
    ap (λ (x : Result (Option Declaration × Walk) Error). proceed x
    (λ o s. proceed (contents limit chosen o s) (λ found. give (row_with o found))))
    (entry_head-from w d h.after_its_code h.has_head)
    ∙ ap (λ (x : Result (List RawAttribute × Walk) Error). proceed x (λ found. give (row_with d found)))
    (contents-is limit chosen d (walk_after_code w d h.after_its_code)
    ∙ ap (read_in_walk (walk_after_code w d h.after_its_code)) h.has_contents)
    ∙ ap (λ (x : Row). read x (walk_after_code w d h.rest)) h.is_row
    ∙ ap (read r) h.leads

-- a row takes a byte at least
pub row-takes : (limit : ℕ) (chosen : ℕ → Bool) (w t : Walk) (r : Row) → HasRow limit chosen w r t
    → bytes_left t.rest < bytes_left w.rest
row-takes limit chosen w t r h =
    let code : bytes_left h.after_its_code < bytes_left w.rest = (Below-unsigned w.rest (omega arith)).left _ _
    h.has_head.reads_code in
    let attributes : bytes_left h.rest
    ≤ bytes_left h.after_its_code = (contents_in-AtMost limit chosen w.encoding h.declaration h.after_its_code).left _
    _ h.has_contents in
    let same : bytes_left h.rest ≡ bytes_left t.rest = ap (λ (x : Walk). bytes_left x.rest) h.leads in
    omega arith
