use Rattle.addr2line_context.proofs.SettledContexts.{kept_calls, frames_go_on, frames_kept, frames_hold, after_frames, frames_settled}
use Rattle.addr2line_context.proofs.context.Context.settle_frames.Goals as goal

pub settle_frames-settled-requires-clause-calls : goal.settle_frames-settled-requires-clause-calls
settle_frames-settled-requires-clause-calls g c =
    kept_calls _ _ _ c.self.invariant _ c.as_slice-supplement_units.ensures.value

pub settle_frames-settled-requires-clause-passed : goal.settle_frames-settled-requires-clause-passed
settle_frames-settled-requires-clause-passed g c =
    frames_go_on _ _ _ c.self.invariant _ c.as_slice-supplement_units.ensures.value c.args.probe _
    c.index_for-index.ensures

pub settle_frames-settled-requires-clause-kept : goal.settle_frames-settled-requires-clause-kept
settle_frames-settled-requires-clause-kept g c =
    frames_kept _ _ _ c.self.invariant _ c.as_slice-supplement_units.ensures.value c.args.probe _
    c.index_for-index.ensures

pub invariant_of-self : goal.invariant_of-self
invariant_of-self g c =
    frames_hold _ _ _ c.self.invariant _ c.as_slice-supplement_units.ensures.value _
    c.settle_frames-settled.ensures.values c.settle_frames-settled.ensures.calls
    c.settle_frames-settled.ensures.cost.functions c.args.probe _ c.settle_frames-settled.ensures.passed
    c.settle_frames-settled.ensures.kept

pub returns-clause-found : goal.returns-clause-found
returns-clause-found g c =
    frames_settled _ _ _ c.self.invariant _ c.as_slice-supplement_units.ensures.value _
    c.settle_frames-settled.ensures.values c.args.probe _ c.self.view_is c.settle_frames-settled.result
    c.settle_frames-settled.ensures.found

pub returns-clause-after : goal.returns-clause-after
returns-clause-after g c =
    after_frames _ _ _ c.self.invariant _ c.as_slice-supplement_units.ensures.value _
    c.settle_frames-settled.ensures.values c.args.probe _ c.self.view_is _ c.settle_frames-settled.ensures.cost
    c.settle_frames-settled.ensures.reads c.settle_frames-settled.ensures.functions
    c.settle_frames-settled.ensures.asked
