use Rattle.std.proofs.Common.{refl, subst, sym, ap, ◌∙◌, Ok}
use Rattle.addr2line_lookups.specs.BorrowedFrames.{frames_left}
use Rattle.addr2line_lookups.specs.FirstAnswers.{output}
use Rattle.addr2line_lookups.specs.UnitLookups.{IsPending, FoundFrames, SettlesFrames}
use Rattle.addr2line_context.specs.KeptContexts.{ResolvedContext}
use Rattle.addr2line_context.specs.ContextCosts.{frame_search}
use Rattle.addr2line_context.specs.SettledLookups.{frames_in}
use Rattle.addr2line_context.proofs.AnsweredFirst.{frames_have_load}
use Rattle.addr2line_context.proofs.LookupResults.{frames_lent}
use Rattle.addr2line_context.proofs.SkippedLoads.{frames_still_found, finds_ok, finds_err, finds_there}
use Rattle.addr2line_lookups.proofs.AskedFunctions.{is_value}
use Rattle.addr2line_context.proofs.ResumedLookups.{with_memory, search_of, refused_with_memory}
use Rattle.addr2line_context.proofs.context.Context.find_frames.Goals as goal

pub returns-in-Ok-Waits : goal.returns-in-Ok-Waits
returns-in-Ok-Waits g c =
    let old = c.args.self.now.value in
    let a = c.args.probe in
    let meaning = frames_in old a in
    let after = c.in-Ok-Waits.ensures.after in
    let found_after = with_memory frame_search (Unit {0}) _ a c.args.self.now _ (λ has. is_value _) after in
    let waits : IsPending meaning =
    subst (λ o. SettlesFrames c.settle_frames.new.self.units meaning (Ok o)) c.in-Ok-Waits.field-0-is
    c.in-Ok-Waits.ensures.found in (
      (
        refl,
        λ w. refl,
        with_memory frame_search _ _ a c.args.self.now _ (λ has. is_value _) after,
      ),
      record {
        found = waits;
        waits = record { after = found_after; place = refl; has_load = frames_have_load old a waits };
        skips = finds_there frames_left frames_in frames_still_found old _ a _ after.value refl;
        after = tt;
      },
    )

pub returns-in-Ok-Found : goal.returns-in-Ok-Found
returns-in-Ok-Found g c =
    let old = c.args.self.now in
    let a = c.args.probe in
    let us = c.self.inside.units in
    let place = c.in-Ok-Found.place in
    let meaning = frames_in old.value a in
    let found : FoundFrames us meaning place =
    subst (λ o. SettlesFrames us meaning (Ok o)) c.in-Ok-Found.field-0-is
    (subst (λ (x : ResolvedContext). SettlesFrames x.units meaning (Ok c.in-Ok-Found.field-0)) (sym c.self.view_is)
    c.in-Ok-Found.ensures.found) in
    let lent = frames_lent us meaning place (frames_left c.frames_at_place.result) c.frames_at_place.ensures found in (
      (
        refl,
        λ w. tt,
        search_of frame_search a old c.self.view_is (λ has. is_value _) c.in-Ok-Found.ensures.after,
      ),
      record {
        found = lent;
        waits = tt;
        skips = finds_ok frames_left frames_in frames_still_found old.value a c.frames_at_place.result lent;
        after = tt;
      },
    )

pub returns-in-Ok-Nothing : goal.returns-in-Ok-Nothing
returns-in-Ok-Nothing g c =
    let old = c.args.self.now.value in
    let a = c.args.probe in
    let none =
    subst (λ o. SettlesFrames c.settle_frames.new.self.units (frames_in old a) (Ok o)) c.in-Ok-Nothing.field-0-is
    c.in-Ok-Nothing.ensures.found
    ∙ ap (λ fs. output (Ok fs)) (sym c.frame_without_function.ensures) in (
      (
        refl,
        λ w. tt,
        with_memory frame_search _ _ a c.args.self.now _ (λ has. is_value _) c.in-Ok-Nothing.ensures.after,
      ),
      record {
        found = none;
        waits = tt;
        skips = finds_ok frames_left frames_in frames_still_found old a c.frame_without_function.result none;
        after = tt;
      },
    )

pub returns-in-Err : goal.returns-in-Err
returns-in-Err g c = (
  (
    refl,
    λ w. tt,
    with_memory frame_search _ _ c.args.probe c.args.self.now _ (refused_with_memory _) c.in-Err.ensures.after,
  ),
  record {
    found = c.in-Err.ensures.found;
    waits = tt;
    skips =
        finds_err frames_left frames_in frames_still_found c.args.self.now.value c.args.probe _ c.in-Err.ensures.found;
    after = tt;
  },
)
