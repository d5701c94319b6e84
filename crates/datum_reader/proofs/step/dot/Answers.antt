use Rattle.std.proofs.Common.{◌∙◌, ◌==◌, ap, sym, length, true, false, Ok}
use Rattle.datum_reader.specs.Views.{data_of}
use Rattle.datum_reader.specs.OpenViews.{spot_of, frame_of}
use Rattle.datum_reader.proofs.StackLaws.{told_fails}
use Rattle.datum_reader.proofs.StepLaws.{dots_top, none_before, first_dot}
use Rattle.datum_reader.proofs.step.dot.Goals as goal

pub returns-then-is_empty : goal.returns-then-is_empty
returns-then-is_empty c =
    let some = none_before c.args.state.now.items.items true (sym (ap (λ q. length q == 0) c.as_slice.ensures.value) ∙ sym c.is_empty.ensures ∙ c.if-is_empty.true) in
    told_fails c.fault-then-is_empty.result _ c.args.spot _ c.fault-then-is_empty.ensures
    (dots_top (spot_of c.args.spot) (data_of c.args.state.now.items.items) c.args.state.now.stack.items c.pop.new.self.items c.in-Some.frame _ c.in-Some.ensures.items c.in-List.is ∙ first_dot true _ _ (frame_of c.in-Some.frame) _ some)

pub returns-in_ok-reopen-in-List : goal.returns-in_ok-reopen-in-List
returns-in_ok-reopen-in-List c =
    let some = none_before c.args.state.now.items.items false (sym (ap (λ q. length q == 0) c.as_slice.ensures.value) ∙ sym c.is_empty.ensures ∙ c.if-is_empty.false) in
    dots_top (spot_of c.args.spot) (data_of c.args.state.now.items.items) c.args.state.now.stack.items c.pop.new.self.items c.in-Some.frame _ c.in-Some.ensures.items c.in-List.is ∙ first_dot false _ _ (frame_of c.in-Some.frame) _ some ∙ ap (λ q. Ok q) (sym c.in_ok-reopen-in-List.ensures)

pub returns-in-Bytes : goal.returns-in-Bytes
returns-in-Bytes c = told_fails c.fault-in-Bytes.result _ c.args.spot _ c.fault-in-Bytes.ensures (dots_top (spot_of c.args.spot) (data_of c.args.state.now.items.items) c.args.state.now.stack.items c.pop.new.self.items c.in-Some.frame _ c.in-Some.ensures.items c.in-Bytes.is)

pub returns-in-Dotted : goal.returns-in-Dotted
returns-in-Dotted c = told_fails c.fault-in-Dotted.result _ c.args.spot _ c.fault-in-Dotted.ensures (dots_top (spot_of c.args.spot) (data_of c.args.state.now.items.items) c.args.state.now.stack.items c.pop.new.self.items c.in-Some.frame _ c.in-Some.ensures.items c.in-Dotted.is)

pub returns-in-Ended : goal.returns-in-Ended
returns-in-Ended c = told_fails c.fault-in-Ended.result _ c.args.spot _ c.fault-in-Ended.ensures (dots_top (spot_of c.args.spot) (data_of c.args.state.now.items.items) c.args.state.now.stack.items c.pop.new.self.items c.in-Some.frame _ c.in-Some.ensures.items c.in-Ended.is)

pub returns-in-Vector : goal.returns-in-Vector
returns-in-Vector c = told_fails c.fault-in-Vector.result _ c.args.spot _ c.fault-in-Vector.ensures (dots_top (spot_of c.args.spot) (data_of c.args.state.now.items.items) c.args.state.now.stack.items c.pop.new.self.items c.in-Some.frame _ c.in-Some.ensures.items c.in-Vector.is)

pub returns-in-Mark : goal.returns-in-Mark
returns-in-Mark c = told_fails c.fault-in-Mark.result _ c.args.spot _ c.fault-in-Mark.ensures (dots_top (spot_of c.args.spot) (data_of c.args.state.now.items.items) c.args.state.now.stack.items c.pop.new.self.items c.in-Some.frame _ c.in-Some.ensures.items c.in-Mark.is)

pub returns-in-Skip : goal.returns-in-Skip
returns-in-Skip c = told_fails c.fault-in-Skip.result _ c.args.spot _ c.fault-in-Skip.ensures (dots_top (spot_of c.args.spot) (data_of c.args.state.now.items.items) c.args.state.now.stack.items c.pop.new.self.items c.in-Some.frame _ c.in-Some.ensures.items c.in-Skip.is)
