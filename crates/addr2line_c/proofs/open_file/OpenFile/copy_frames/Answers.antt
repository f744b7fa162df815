use Rattle.std.proofs.Common.{Ok, Err, refl, subst}
use Rattle.addr2line_context.specs.BorrowedFrames.{frames_left}
use Rattle.addr2line_loader.specs.SourceAnswers.{SourceFindsFrames}
use Rattle.addr2line_c.specs.Sources.{answers_none, no_files}
use Rattle.addr2line_c.proofs.KeptAnswers.{shows_copies}
use Rattle.addr2line_c.proofs.open_file.OpenFile.copy_frames.Goals as goal

pub returns-in-Ok : goal.returns-in-Ok
returns-in-Ok c =
    let finds =
    subst (λ r. SourceFindsFrames answers_none c.args.address frames_left c.args.self.now.loader.file no_files r
    c.find_frames.follows.lender-at-none.file no_files) c.in-Ok.is c.find_frames.follows.holds-at-none.found in
    record {
      found = Ok (frames_left c.in-Ok.frames);
      finds = record { same = finds.same; finds = finds.finds };
      shows =
          shows_copies c.args.names _ _ c.push_frames.result c.push_frames.ensures.copies
          c.push_frames.ensures.memory;
      same = refl;
    }

pub returns-in-Err : goal.returns-in-Err
returns-in-Err c =
    let finds =
    subst (λ r. SourceFindsFrames answers_none c.args.address frames_left c.args.self.now.loader.file no_files r
    c.find_frames.follows.lender-at-none.file no_files) c.in-Err.is c.find_frames.follows.holds-at-none.found in
    record {
      found = Err c.in-Err.error;
      finds = record { same = finds.same; finds = finds.finds };
      shows = refl;
      same = refl;
    }
