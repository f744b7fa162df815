use Rattle.std.proofs.Common.{◌≢◌, Err, option_map, refl, subst}
use Rattle.addr2line_context.specs.BorrowedLocations.{location_value}
use Rattle.addr2line_context.specs.Calls.{ReturnsAsOrNoMemory}
use Rattle.addr2line_context.specs.ContextCosts.{AsksForPlace}
use Rattle.addr2line_context.specs.Contexts.{location}
use Rattle.addr2line_context.specs.Error.TheVariants.{Memory}
use Rattle.addr2line_context.specs.KeptUnits.{KeepsAsked}
use Rattle.addr2line_loader.specs.ResolvedFiles.{answered_context}
use Rattle.addr2line_c.specs.Answers.{LeavesPlace}
use Rattle.addr2line_c.specs.declared.open_file.OpenFile.{OpenFile}
use Rattle.addr2line_c.proofs.handle.Handle.find_place.Goals as goal

pub returns : goal.returns
returns c =
    let a = c.args.address in
    let lent = c.file_mut.result.now in
    let same = c.file_mut.ensures.file in
    let found = c.find_location.result in
    let left : OpenFile = record lent { loader = c.find_location.follows.lender-at-none } in (
      (
        refl,
        λ _. tt,
        (
          refl,
          subst (λ (f : OpenFile). LeavesPlace a found f left) same
              (record { loader = c.find_location.follows.holds-at-none; same = refl }),
        ),
      ),
      record {
        place =
            subst (λ (f : OpenFile). ReturnsAsOrNoMemory (option_map location_value) found
            (location f.loader.file.context.context a)) same c.find_location.ensures.place;
        free =
            subst (λ (f : OpenFile). KeepsAsked (AsksForPlace (answered_context f.loader.file) a) f.loader.units
            → found ≢ Err Memory) same c.find_location.ensures.free;
        after = tt;
      },
    )
