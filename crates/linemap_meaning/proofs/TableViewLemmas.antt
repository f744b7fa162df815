-- The equations of a call's part, one level at a time.
use Rattle.std.proofs.Common.{◌≡◌, map, string_bytes, ap}
use Rattle.linemap_meaning.specs.TableParts.{CallPart}
use Rattle.linemap_meaning.specs.TableViews.{range_part, call_step, call_part, calls_part}
use Rattle.linemap_meaning.specs.declared.table.TableCall.{TableCall}
use Rattle.linemap_meaning.specs.declared.table.TableCall.TheOpen.{TableCall-F}
use Rattle.linemap_meaning.specs.declared.table.TableCall.TheViews.{out-TableCall}
use Rattle.linemap_meaning.specs.declared.table.TableCall.TheFolds.{fold_out-TableCall}

-- a call, one level of its struct
abbrev pub call_of_level : TableCall-F TableCall → CallPart
call_of_level c = record {
  site =
      record {
        name = string_bytes c.name;
        ranges = map range_part c.ranges.items;
        file = c.file;
        line = c.line;
        column = c.column;
      };
  inner = calls_part c.calls.items;
}

pub call_part-out : (c : TableCall) → call_part c ≡ call_of_level (out-TableCall c)
call_part-out = fold_out-TableCall CallPart call_step

pub site-out : (c : TableCall) → (call_part c).site ≡ (call_of_level (out-TableCall c)).site
site-out c = ap (λ p. p.site) (call_part-out c)

pub inner-out : (c : TableCall) → (call_part c).inner ≡ calls_part (out-TableCall c).calls.items
inner-out c = ap (λ p. p.inner) (call_part-out c)
