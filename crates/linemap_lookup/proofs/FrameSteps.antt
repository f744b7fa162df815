-- The text of frames that are printed one after the other.
use Rattle.std.proofs.Common.{◌≡◌, ◌∙◌, Bool, true, false, List, [], ◌∷◌, ◌++◌, Option, Some, None, Result, Ok, Err, ℕ, refl, sym, ap, subst, append-nil, append_assoc}
use Rattle.std.specs.Prelude.{OnOk, if◌then◌else◌}
use Rattle.addr2line_context.specs.Frames.{Frame}
use Rattle.linemap_output.specs.declared.options.Options.{Options}
use Rattle.linemap_lookup.specs.FirstFrames.{PrintsFrames, PrintsOuter, TakesNext}
use Rattle.linemap_lookup.specs.FrameTexts.{frame_text, inlined_by, outer_frames_text, symbol_before, symbol_of_last}

module _ (o : Options) (symbol : Option (List ℕ)) where
  -- a frame after those that others follow
  pub outer_push : (fs : List Frame) (f : Frame) → outer_frames_text o symbol (fs ++ f ∷ [])
      ≡ outer_frames_text o None fs ++ (inlined_by o ++ frame_text o symbol f)
  outer_push [] f = append-nil (inlined_by o ++ frame_text o symbol f)
  outer_push (g ∷ []) f =
      let x = inlined_by o ++ frame_text o None g in
      let y = inlined_by o ++ frame_text o symbol f in
      ap (λ t. x ++ t) (append-nil y) ∙ ap (λ t. t ++ y) (sym (append-nil x))
  outer_push (g ∷ h ∷ fs) f =
      let x = inlined_by o ++ frame_text o None g in
      let y = inlined_by o ++ frame_text o symbol f in
      ap (λ t. x ++ t) (outer_push (h ∷ fs) f)
      ∙ sym (append_assoc x (outer_frames_text o None (h ∷ fs)) y)

first_is : (f g : Frame) (fs gs : List Frame) → f ∷ fs ≡ g ∷ gs → (f ≡ g) × (fs ≡ gs)
first_is f g fs gs is = (ap (head_or f) is, ap tail is)
  where
    head_or : Frame → List Frame → Frame
    head_or d [] = d
    head_or d (x ∷ xs) = x

    tail : List Frame → List Frame
    tail [] = []
    tail (x ∷ xs) = xs

module _ (o : Options) (symbol : Option (List ℕ)) (first : Frame) (others : List Frame) (before : List ℕ) where
  -- The frames before this one are printed; where there is none, all that were read are.
  abbrev pub IsAt : Option Frame → List Frame → Bool → List ℕ → Type 0
  IsAt (Some f) left is_refused now =
      (fs : List Frame) × (fs ++ f ∷ left ≡ first ∷ others) × (now ≡ before ++ outer_frames_text o None fs)
  IsAt None left is_refused now = PrintsOuter o symbol first others is_refused before now

  -- one more of them
  one_more : (s : Option (List ℕ)) (fs : List Frame) (f : Frame) (now after : List ℕ)
      → now ≡ before ++ outer_frames_text o None fs
      → after ≡ now ++ (inlined_by o ++ frame_text o s f)
      → after ≡ before ++ outer_frames_text o s (fs ++ f ∷ [])
  one_more s fs f now after is more =
      let y = inlined_by o ++ frame_text o s f in
      more ∙ ap (λ t. t ++ y) is ∙ append_assoc before (outer_frames_text o None fs) y
      ∙ ap (λ t. before ++ t) (sym (outer_push o s fs f))

  -- the last of them
  all_printed : (fs : List Frame) (f : Frame) (rest : List Frame) (s : Bool) (after : List ℕ)
      → fs ++ f ∷ rest ≡ first ∷ others → (s ≡ false → rest ≡ [])
      → after ≡ before ++ outer_frames_text o symbol (fs ++ f ∷ [])
      → PrintsOuter o symbol first others s before after
  all_printed [] f rest s after whole ends text =
      let is = first_is f first rest others whole in
      record {
        frames = [];
        are_first = record { rest = rest; whole = is.1; ends = ends };
        text = subst (λ g. after ≡ before ++ outer_frames_text o symbol (g ∷ [])) is.0 text;
      }
  all_printed (g ∷ gs) f rest s after whole ends text =
      let is = first_is g first (gs ++ f ∷ rest) others whole in
      record {
        frames = gs ++ f ∷ [];
        are_first = record { rest = rest; whole = append_assoc gs (f ∷ []) rest ∙ is.1; ends = ends };
        text = subst (λ h. after ≡ before ++ outer_frames_text o symbol (h ∷ (gs ++ f ∷ []))) is.0 text;
      }

  at_next : (f : Frame) (next : Option Frame) (left more : List Frame) (r s : Bool) (now after : List ℕ)
      → IsAt (Some f) left r now → TakesNext (λ x. x) next left r more s
      → after ≡ now ++ (inlined_by o ++ frame_text o (symbol_before next symbol) f)
      → IsAt next more s after
  at_next f (Some g) left more r s now after at takes is = (
    at.0 ++ f ∷ [],
    append_assoc at.0 (f ∷ []) (g ∷ more) ∙ ap (λ t. at.0 ++ f ∷ t) (sym takes.0) ∙ at.1,
    one_more None at.0 f now after at.2 is,
  )
  at_next f None left more r s now after at takes is =
      all_printed at.0 f takes.1.rest s after
      (ap (λ t. at.0 ++ f ∷ t) (takes.1.whole ∙ takes.0) ∙ at.1) takes.1.ends
      (one_more symbol at.0 f now after at.2 is)

  pub at_first : (left : List Frame) (r : Bool) → left ≡ others → IsAt (Some first) left r before
  at_first left r is = ([], ap (λ t. first ∷ t) is, sym (append-nil before))

  pub at_step : (current next : Option Frame) (f : Frame) (left more : List Frame) (r s : Bool)
      (now after : List ℕ) (name : Option (List ℕ)) → IsAt current left r now → current ≡ Some f
      → TakesNext (λ x. x) next left r more s → name ≡ symbol_before next symbol
      → after ≡ now ++ (inlined_by o ++ frame_text o name f) → IsAt next more s after
  at_step current next f left more r s now after name at is takes named text =
      at_next f next left more r s now after (subst (λ x. IsAt x left r now) is at) takes
      (text ∙ ap (λ n. now ++ (inlined_by o ++ frame_text o n f)) named)

module _ (o : Options) (symbol : Option (List ℕ)) (first : Frame) (old mid : List ℕ) where
  abbrev frames_with : (frames : List Frame) → Bool → List ℕ
  frames_with frames b = frame_text o (symbol_of_last symbol frames) first
      ++ (if b then outer_frames_text o symbol frames else [])

  -- the first frame alone
  only_first : (second : Option Frame) (name : Option (List ℕ)) (left more : List Frame) (r s : Bool)
      → TakesNext (λ x. x) second left r more s → name ≡ symbol_before second symbol
      → mid ≡ old ++ frame_text o name first → ((f : Frame) → second ≡ Some f → o.inlines ≡ false)
      → PrintsFrames o symbol (first ∷ left) s old mid
  only_first None name left more r s takes named text alone = record {
    frames = first ∷ [];
    are_first = record {
      rest = takes.1.rest;
      whole = ap (λ t. first ∷ t) (takes.1.whole ∙ takes.0);
      ends = takes.1.ends;
    };
    text =
        text ∙ ap (λ n. old ++ frame_text o n first) named
        ∙ ap (λ t. old ++ t) (sym (append-nil (frame_text o symbol first)))
        ∙ ap (λ t. old ++ (frame_text o symbol first ++ t)) (sym (nothing o.inlines));
  }
    where
      nothing : (b : Bool) → (if b then outer_frames_text o symbol [] else []) ≡ []
      nothing true = refl
      nothing false = refl
  only_first (Some f) name left more r s takes named text alone = record {
    frames = first ∷ left;
    are_first = record { rest = []; whole = append-nil (first ∷ left); ends = λ _. refl };
    text =
        text ∙ ap (λ n. old ++ frame_text o n first) named
        ∙ ap (λ t. old ++ t) (sym (append-nil (frame_text o None first)))
        ∙ ap (λ b. old ++ frames_with (f ∷ more) b) (sym (alone f refl))
        ∙ ap (λ l. old ++ frames_with l o.inlines) (sym takes.0);
  }

  pub only_first_none : (second : Option Frame) (name : Option (List ℕ)) (left more : List Frame) (r s : Bool)
      → TakesNext (λ x. x) second left r more s → name ≡ symbol_before second symbol
      → mid ≡ old ++ frame_text o name first → second ≡ None → PrintsFrames o symbol (first ∷ left) s old mid
  only_first_none second name left more r s takes named text none =
      only_first second name left more r s takes named text
      (λ f is. absurd (let no : None ≡ Some f = sym none ∙ is in cc))

  pub only_first_alone : (second : Option Frame) (name : Option (List ℕ)) (left more : List Frame) (r s : Bool)
      → TakesNext (λ x. x) second left r more s → name ≡ symbol_before second symbol
      → mid ≡ old ++ frame_text o name first → o.inlines ≡ false → PrintsFrames o symbol (first ∷ left) s old mid
  only_first_alone second name left more r s takes named text alone =
      only_first second name left more r s takes named text (λ f is. alone)

  -- the first frame and those after it
  pub first_and_outer : (second : Option Frame) (f : Frame) (name : Option (List ℕ)) (left more : List Frame)
      (r s t : Bool) (new : List ℕ) → second ≡ Some f → TakesNext (λ x. x) second left r more s
      → name ≡ symbol_before second symbol → mid ≡ old ++ frame_text o name first → o.inlines ≡ true
      → PrintsOuter o symbol f more t mid new → PrintsFrames o symbol (first ∷ left) t old new
  first_and_outer second f name left more r s t new is takes named text inlines outer =
      let taken = subst (λ x. TakesNext (λ y. y) x left r more s) is takes in
      let no_name = named ∙ ap (λ x. symbol_before x symbol) is in
      record {
        frames = first ∷ f ∷ outer.frames;
        are_first = record {
          rest = outer.are_first.rest;
          whole = ap (λ l. first ∷ f ∷ l) outer.are_first.whole ∙ ap (λ l. first ∷ l) (sym taken.0);
          ends = outer.are_first.ends;
        };
        text =
            outer.text
            ∙ ap (λ m. m ++ outer_frames_text o symbol (f ∷ outer.frames))
            (text ∙ ap (λ n. old ++ frame_text o n first) no_name)
            ∙ append_assoc old (frame_text o None first) (outer_frames_text o symbol (f ∷ outer.frames))
            ∙ ap (λ b. old ++ frames_with (f ∷ outer.frames) b) (sym inlines);
      }

pub on_ok : {T E : Type 0} (r : Result T E) {P Q : Type 0} → (P → Q) → OnOk r P → OnOk r Q
on_ok (Ok x) f p = f p
on_ok (Err e) f p = tt
