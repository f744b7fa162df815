-- Tables that differ in one unit alone, and files that answer them.
use Rattle.std.proofs.Common.{◌≡◌, ◌∙◌, ℕ, Bool, false, List, [], ◌∷◌, ◌++◌, Option, Some, option_map, Ok, sym, ap, subst}
use Rattle.std.specs.Prelude.{find, if◌then◌else◌, option_and_then}
use Rattle.linemap_emit_units.specs.DwarfFiles.{DwarfFile}
use Rattle.linemap_emit_units.specs.Contexts.{location}
use Rattle.linemap_emit_units.specs.LookupAgreement.{lookup_location}
use Rattle.linemap_emit_units.specs.TableParts.{UnitPart}
use Rattle.linemap_emit_units.specs.Meaning as table
use Rattle.linemap_emit_calls_laws.specs.FirstAnswers.{FirstAnswers}
use Rattle.linemap_emit_calls_laws.specs.CallAgreement.{OneByOne}
use Rattle.linemap_emit_calls_laws.specs.LookupFrameLaws.{FrameAgrees}
use Rattle.linemap_emit_laws.specs.RecordedTableLaws.{AnswersTable, SameFrame}
use Rattle.linemap_emit_laws.specs.UnitDifferences.{IsOutside}
use Rattle.linemap_emit_laws.proofs.RecordedFrames.{frames_alike}

-- what is found first, beside an item that doesn't pass the test
found_beside : {A : Type 0} (test : A → Bool) (before after : List A) (x : A) → test x ≡ false
    → find test (before ++ x ∷ after) ≡ find test (before ++ after)
found_beside test [] after x fails = ap (λ b. if b then Some x else find test after) fails
found_beside test (y ∷ ys) after x fails =
    ap (λ found. if test y then Some y else found) (found_beside test ys after x fails)

-- the unit of an address outside
same_unit : (before after : List UnitPart) (u v : UnitPart) (a : ℕ) → IsOutside a u → IsOutside a v
    → table.unit_at (before ++ u ∷ after) a ≡ table.unit_at (before ++ v ∷ after) a
same_unit before after u v a outside outside_too =
    let test : UnitPart → Bool = λ w. table.any_holds a w.ranges in
    found_beside test before after u outside ∙ sym (found_beside test before after v outside_too)

-- its place, and its frames
pub tables_agree : (before after : List UnitPart) (u v : UnitPart) (a : ℕ) → IsOutside a u → IsOutside a v
    → (table.location_at (before ++ u ∷ after) a ≡ table.location_at (before ++ v ∷ after) a)
    × (table.frames_at (before ++ u ∷ after) a ≡ table.frames_at (before ++ v ∷ after) a)
tables_agree before after u v a outside outside_too =
    let same = same_unit before after u v a outside outside_too in (
      ap (λ w. option_and_then (λ x. table.place_in x a) w) same,
      ap (table.frames_of_unit a) same,
    )

-- what files answer there
pub files_agree : (s t : DwarfFile) (before after : List UnitPart) (u v : UnitPart)
    (x : AnswersTable s (before ++ u ∷ after)) (y : AnswersTable t (before ++ v ∷ after))
    (answers other_answers : FirstAnswers) (a : ℕ) → IsOutside a u → IsOutside a v
    → (location x.found a ≡ location y.found a)
    × OneByOne SameFrame (x.frames_are answers a).list (y.frames_are other_answers a).list
files_agree s t before after u v x y answers other_answers a outside outside_too =
    let same = tables_agree before after u v a outside outside_too in (
      x.places a ∙ ap (λ (place : Option table.Location). Ok (option_map lookup_location place)) same.0
          ∙ sym (y.places a),
      frames_alike (table.frames_at (before ++ v ∷ after) a) (x.frames_are answers a).list
          (y.frames_are other_answers a).list
          (subst (λ fs. OneByOne FrameAgrees fs (x.frames_are answers a).list) same.1 (x.frames_are answers a).agree)
          (y.frames_are other_answers a).agree,
    )
