use Rattle.std.proofs.Common.{refl, subst, option_map}
use Rattle.addr2line_context.specs.BorrowedLocations.{location_value}
use Rattle.addr2line_context.specs.Calls.{ReturnsAsOrNoMemory}
use Rattle.addr2line_context.specs.ContextCosts.{AsksForPlace}
use Rattle.addr2line_context.specs.Contexts.{location}
use Rattle.addr2line_loader.specs.LoadedFiles.{LoadedFile}
use Rattle.addr2line_loader.specs.ResolvedFiles.{ResolvedFile}
use Rattle.addr2line_loader.proofs.FoundPlaces.{after_place, free_of}
use Rattle.addr2line_loader.proofs.loader.Loader.find_location.Goals as goal

pub returns : goal.returns
returns c =
    let file : LoadedFile = record {
      image = c.self.inside.elf;
      symbols = c.self.inside.symbols;
      sections = c.self.inside.sections.value.file;
      context = c.self.inside.context.value.plain;
      answers = c.self.inside.context.value.answers;
    } in (
      (
        refl,
        λ _. tt,
        after_place file c.self.inside.context c.find_location.follows.lender-at-none c.args.probe _
            c.find_location.follows.holds-at-none c.args.self.now c.self.view_is,
      ),
      record {
        place =
            subst (λ (x : ResolvedFile). ReturnsAsOrNoMemory (option_map location_value) c.find_location.result
            (location x.file.context.context c.args.probe)) c.self.view_is c.find_location.ensures.place;
        free =
            free_of (λ v. AsksForPlace v c.args.probe) file c.self.inside.context _ c.find_location.ensures.free
            c.args.self.now c.self.view_is;
        after = tt;
      },
    )
