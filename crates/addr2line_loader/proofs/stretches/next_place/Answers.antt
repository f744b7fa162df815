use Rattle.std.proofs.Common.{refl, subst}
use Rattle.addr2line_context.specs.ContextCosts.{AsksForNext}
use Rattle.addr2line_context.specs.RangeItems.{stretch_of_item}
use Rattle.addr2line_context.specs.RangeWalks.{stretches_left}
use Rattle.addr2line_context.specs.StretchesLeft.{StretchComesNext}
use Rattle.addr2line_loader.specs.LoadedFiles.{LoadedFile}
use Rattle.addr2line_loader.specs.ResolvedFiles.{ResolvedFile}
use Rattle.addr2line_loader.proofs.FoundPlaces.{after_stretch, free_of}
use Rattle.addr2line_loader.proofs.stretches.next_place.Goals as goal

pub returns : goal.returns
returns c =
    let file : LoadedFile = record {
      image = c.loader.inside.elf;
      symbols = c.loader.inside.symbols;
      sections = c.loader.inside.sections.value.file;
      context = c.loader.inside.context.value.plain;
      answers = c.loader.inside.context.value.answers;
    } in (
      (
        refl,
        λ _. tt,
        after_stretch file c.loader.inside.context c.next_place.follows.lender-at-none _ c.args.walk.now
            c.next_place.new.walk c.next_place.follows.holds-at-none c.args.loader.now c.loader.view_is,
      ),
      record {
        stretch =
            subst (λ (x : ResolvedFile). StretchComesNext stretch_of_item c.next_place.result
            (stretches_left x.file.context.context.units c.args.walk.now)
            (stretches_left x.file.context.context.units c.next_place.new.walk)) c.loader.view_is
            c.next_place.ensures.stretch;
        free =
            free_of (λ v. AsksForNext v c.args.walk.now) file c.loader.inside.context _ c.next_place.ensures.free
            c.args.loader.now c.loader.view_is;
        after = tt;
      },
    )
