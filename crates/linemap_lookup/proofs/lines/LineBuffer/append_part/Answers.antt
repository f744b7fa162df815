use Rattle.std.proofs.Common.{subst, rules, refl}
use Rattle.std.specs.Io.BufRead.{FillKeeps}
use Rattle.linemap_lookup.proofs.LineParts.{after_interruption, takes_part, whole_if_empty}
use Rattle.linemap_lookup.proofs.lines.LineBuffer.append_part.Goals as goal

pub returns-in_ok-extend_from_slice-in-Ok-clause-part :
    goal.returns-in_ok-extend_from_slice-in-Ok-clause-part
returns-in_ok-extend_from_slice-in-Ok-clause-part g c =
    let rested = c.fill_buf.follows.lender-at-none in
    let filled =
    subst (FillKeeps _ (g.R.Read.remaining rested) (g.R.BufRead.consumable_len rested)) c.in-Ok.is
    c.fill_buf.follows.holds-at-none in
    let part = c.part_of_line-part in
    record {
      part = part.result.now;
      consumes =
          takes_part _ _ _ _ _ _ part.ensures c.in-Ok.ensures.front c.in-Ok.ensures.end filled.0 filled.1
          c.consume.ensures.bytes;
      line = c.in_ok-extend_from_slice-in-Ok.ensures.items;
      one_end = part.ensures.one_end;
      end = λ empty _. whole_if_empty _ _ _ part.ensures (search rules) c.in-Ok.ensures.end;
      same = (refl, refl);
    }

pub returns-in_ok-extend_from_slice-in-Ok-clause-taken :
    goal.returns-in_ok-extend_from_slice-in-Ok-clause-taken
returns-in_ok-extend_from_slice-in-Ok-clause-taken g c =
    let rested = c.fill_buf.follows.lender-at-none in
    let filled =
    subst (FillKeeps _ (g.R.Read.remaining rested) (g.R.BufRead.consumable_len rested)) c.in-Ok.is
    c.fill_buf.follows.holds-at-none in
    let part = c.part_of_line-part in (
      part.result.now,
      takes_part _ _ _ _ _ _ part.ensures c.in-Ok.ensures.front c.in-Ok.ensures.end filled.0 filled.1
          c.consume.ensures.bytes,
    )

pub returns-in-Err-clause-part : goal.returns-in-Err-clause-part
returns-in-Err-clause-part g c =
    after_interruption _ _ _ _ c.count_interruption.result c.fill_buf.follows.holds-at-none.0
    c.count_interruption.ensures.same
