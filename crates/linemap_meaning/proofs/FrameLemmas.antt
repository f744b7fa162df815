-- The names and locations of frames.
use Rattle.std.proofs.Common.{◌≡◌, ℕ, List, [], ◌∷◌, ◌++◌, map, reverse, Option, Some, None, refl, sym, ap, ◌∙◌}
use Rattle.std.proofs.lemmas.List.{map-append, reverse-append}
use Rattle.linemap_meaning.specs.TableParts.{Site, FunctionPart, UnitPart}
use Rattle.linemap_meaning.specs.Meaning.{Location, Frame, call_location, frame, frames_in, frame_without_function, frames_of_function, frames_of_unit, frames_at, function_at, chain, place_in, unit_at, location_at}
use Rattle.std.specs.Option.{option_and_then}

abbrev name_of : Frame → Option (List ℕ)
name_of f = f.function

abbrev place_of : Frame → Option Location
place_of f = f.location

pub frames_in_order : (u : UnitPart) (here : Option Location) (name : List ℕ) (calls : List Site)
    → map name_of (frames_in u here name calls) ≡ map Some (reverse (name ∷ map (λ s. s.name) calls))
frames_in_order u here name [] = refl
frames_in_order u here name (s ∷ calls) =
    let names : List (List ℕ) = s.name ∷ map (λ (t : Site). t.name) calls in
    map-append name_of (frames_in u here s.name calls) (frame name (Some (call_location u s)) ∷ [])
    ∙ ap (λ fs. fs ++ Some name ∷ []) (frames_in_order u here s.name calls)
    ∙ sym (ap (λ ns. map Some ns) (reverse-append (name ∷ []) names) ∙ map-append Some (reverse names) (name ∷ []))

pub frames_at_calls : (u : UnitPart) (here : Option Location) (name : List ℕ) (calls : List Site)
    → map place_of (frames_in u here name calls) ≡ (here ∷ map (λ s. Some (call_location u s)) (reverse calls))
frames_at_calls u here name [] = refl
frames_at_calls u here name (s ∷ calls) =
    let call_place : Site → Option Location = λ t. Some (call_location u t) in
    map-append place_of (frames_in u here s.name calls) (frame name (Some (call_location u s)) ∷ [])
    ∙ ap (λ ps. ps ++ call_place s ∷ []) (frames_at_calls u here s.name calls)
    ∙ ap (λ ps. here ∷ ps)
    (sym (ap (λ ss. map call_place ss) (reverse-append (s ∷ []) calls) ∙ map-append call_place (reverse calls)
    (s ∷ [])))

head_of : {A : Type 0} (x y : A) (xs ys : List A) → (x ∷ xs) ≡ (y ∷ ys) → x ≡ y
head_of x y xs ys e = cc

first_without_function : (p : Option Location) (f : Frame) (fs : List Frame) → frame_without_function p ≡ (f ∷ fs)
    → f.location ≡ p
first_without_function None f fs e = cc
first_without_function (Some l) f fs e = sym (ap place_of (head_of _ _ _ _ e))

first_of_function : (u : UnitPart) (a : ℕ) (g : Option FunctionPart) (f : Frame) (fs : List Frame)
    → frames_of_function u a g ≡ (f ∷ fs) → f.location ≡ place_in u a
first_of_function u a None f fs e = first_without_function (place_in u a) f fs e
first_of_function u a (Some g) f fs e =
    head_of _ _ _ _ (sym (ap (λ xs. map place_of xs) e) ∙ frames_at_calls u (place_in u a) g.name (chain a g.calls))

first_of_unit : (a : ℕ) (o : Option UnitPart) (f : Frame) (fs : List Frame)
    → frames_of_unit a o ≡ (f ∷ fs) → f.location ≡ option_and_then (λ u. place_in u a) o
first_of_unit a None f fs e = cc
first_of_unit a (Some u) f fs e = first_of_function u a (function_at u a) f fs e

pub first_frame : (us : List UnitPart) (a : ℕ) (f : Frame) (fs : List Frame) → frames_at us a ≡ (f ∷ fs)
    → f.location ≡ location_at us a
first_frame us a f fs e = first_of_unit a (unit_at us a) f fs e

none_without_function : (p : Option Location) → frame_without_function p ≡ [] → p ≡ None
none_without_function None e = refl
none_without_function (Some l) e = cc

none_of_function : (u : UnitPart) (a : ℕ) (g : Option FunctionPart) → frames_of_function u a g ≡ []
    → place_in u a ≡ None
none_of_function u a None e = none_without_function (place_in u a) e
none_of_function u a (Some g) e =
    let f : (place_in u a ∷ map (λ s. Some (call_location u s)) (reverse (chain a g.calls))) ≡ [] =
    sym (frames_at_calls u (place_in u a) g.name (chain a g.calls)) ∙ ap (λ xs. map place_of xs) e in
    cc

none_of_unit : (a : ℕ) (o : Option UnitPart) → frames_of_unit a o ≡ [] → option_and_then (λ u. place_in u a) o ≡ None
none_of_unit a None e = refl
none_of_unit a (Some u) e = none_of_function u a (function_at u a) e

pub no_frame : (us : List UnitPart) (a : ℕ) → frames_at us a ≡ [] → location_at us a ≡ None
no_frame us a e = none_of_unit a (unit_at us a) e
