use Rattle.std.proofs.Common.{option_map}
use Rattle.std.specs.String.{string_bytes}
use Rattle.linemap_lookup.proofs.FrameSteps.{first_and_outer, on_ok, only_first_alone, only_first_none}
use Rattle.linemap_lookup.proofs.frames.Frames.push_all.Goals as goal

pub returns-in-None : goal.returns-in-None
returns-in-None g c =
    only_first_none _ _ _ _ _ c.next-second.result _ _ _ _ _ c.next-second.ensures c.symbol_before.ensures
    c.in_ok-push_frame.ensures c.in-None.is

pub returns-in-Some : goal.returns-in-Some
returns-in-Some g c =
    only_first_alone _ _ _ _ _ c.next-second.result _ _ _ _ _ c.next-second.ensures c.symbol_before.ensures
    c.in_ok-push_frame.ensures c.if-not-options.true

pub returns-in-Some-2 : goal.returns-in-Some-2
returns-in-Some-2 g c =
    on_ok c.push_outer.result
    (λ outer. first_and_outer c.args.options.now (option_map (λ s. s.now) c.args.symbol) c.args.first.now
    (string_bytes c.args.text.now) (string_bytes c.push_frame.new.text) c.next-second.result c.in-Some.field-0
    _ _ _ _ _ _ _ c.in-Some.is
    c.next-second.ensures c.symbol_before.ensures c.in_ok-push_frame.ensures c.if-not-options.false outer)
    c.push_outer.ensures
