use Rattle.std.proofs.Common.{◌∷◌, ◌∙◌, ap, sym}
use Rattle.datum_reader.specs.Open.{ended, reopened, state}
use Rattle.datum_reader.specs.Views.{data_of}
use Rattle.datum_reader.specs.OpenViews.{tail_datum, spot_of, frame_of, stack_of}
use Rattle.datum_reader.specs.declared.tail.Tail.{Tail}
use Rattle.datum_reader.specs.declared.open.Opener.TheVariants as openers
use Rattle.datum_reader.proofs.StepLaws.{completed_top, mark_step}
use Rattle.datum_reader.proofs.step.complete_open.Goals as goal

pub loop-frame-preserved : goal.loop-frame-preserved
loop-frame-preserved c =
    mark_step c.loop-frame.read c.in_ok-read-in-Mark.read c.replace-items.result.items c.loop-frame.state.items.items c.replace-items.new.dest.items c.loop-frame.state.stack.items c.pop.new.self.items
    c.in-Some.frame c.in-Some.ensures.items c.in-Mark.is (ap (λ v. v.items) c.replace-items.ensures.value) (ap (λ v. v.items) c.replace-items.ensures.after) c.in_ok-read-in-Mark.ensures
    ∙ c.loop-frame.invariant

pub returns-in-Skip : goal.returns-in-Skip
returns-in-Skip c =
    sym (completed_top (tail_datum c.loop-frame.read) (data_of c.loop-frame.state.items.items) c.loop-frame.state.stack.items c.pop.new.self.items c.in-Some.frame openers.Skip c.in-Some.ensures.items c.in-Skip.is)
    ∙ c.loop-frame.invariant

pub returns-in-Dotted : goal.returns-in-Dotted
returns-in-Dotted c =
    c.in_ok-reopen-in-Dotted.ensures
    ∙ ap (λ (t : Tail). state (data_of c.loop-frame.state.items.items) (reopened (ended (spot_of c.in-Dotted.dot) (tail_datum t)) (frame_of c.in-Some.frame) ∷ stack_of c.pop.new.self.items)) c.in_ok-new-in-Dotted.ensures.ok
    ∙ sym (completed_top (tail_datum c.loop-frame.read) (data_of c.loop-frame.state.items.items) c.loop-frame.state.stack.items c.pop.new.self.items c.in-Some.frame _ c.in-Some.ensures.items c.in-Dotted.is)
    ∙ c.loop-frame.invariant

pub returns-in-List : goal.returns-in-List
returns-in-List c =
    c.in_ok-keep-in-List.ensures
    ∙ sym (completed_top (tail_datum c.loop-frame.read) (data_of c.loop-frame.state.items.items) c.loop-frame.state.stack.items c.pop.new.self.items c.in-Some.frame _ c.in-Some.ensures.items c.in-List.is)
    ∙ c.loop-frame.invariant

pub returns-in-Ended : goal.returns-in-Ended
returns-in-Ended c =
    c.in_ok-keep-in-Ended.ensures
    ∙ sym (completed_top (tail_datum c.loop-frame.read) (data_of c.loop-frame.state.items.items) c.loop-frame.state.stack.items c.pop.new.self.items c.in-Some.frame _ c.in-Some.ensures.items c.in-Ended.is)
    ∙ c.loop-frame.invariant

pub returns-in-Vector : goal.returns-in-Vector
returns-in-Vector c =
    c.in_ok-keep-in-Vector.ensures
    ∙ sym (completed_top (tail_datum c.loop-frame.read) (data_of c.loop-frame.state.items.items) c.loop-frame.state.stack.items c.pop.new.self.items c.in-Some.frame _ c.in-Some.ensures.items c.in-Vector.is)
    ∙ c.loop-frame.invariant

pub returns-in-Bytes : goal.returns-in-Bytes
returns-in-Bytes c =
    c.in_ok-keep-in-Bytes.ensures
    ∙ sym (completed_top (tail_datum c.loop-frame.read) (data_of c.loop-frame.state.items.items) c.loop-frame.state.stack.items c.pop.new.self.items c.in-Some.frame _ c.in-Some.ensures.items c.in-Bytes.is)
    ∙ c.loop-frame.invariant
