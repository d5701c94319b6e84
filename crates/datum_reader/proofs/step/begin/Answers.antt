use Rattle.std.proofs.Common.{◌∙◌, ap, sym}
use Rattle.datum_reader.specs.Open.{refused_by}
use Rattle.datum_reader.specs.OpenViews.{spot_of, opener_of}
use Rattle.datum_reader.proofs.StackLaws.{refused_last, told_refused}
use Rattle.datum_reader.proofs.step.begin.Goals as goal

pub returns-in-Ended : goal.returns-in-Ended
returns-in-Ended c =
    told_refused c.fault.result _ c.in-Ended.dot _ c.fault.ensures
    (refused_last c.args.stack.now c.in-Some.frame.now (spot_of c.args.spot) (sym c.in-Some.ensures.value) ∙ ap (λ o. refused_by (opener_of o) (spot_of c.args.spot)) c.in-Ended.is)

pub returns-in-Bytes : goal.returns-in-Bytes
returns-in-Bytes c =
    told_refused c.fault-in-Bytes.result _ c.args.spot _ c.fault-in-Bytes.ensures
    (refused_last c.args.stack.now c.in-Some.frame.now (spot_of c.args.spot) (sym c.in-Some.ensures.value) ∙ ap (λ o. refused_by (opener_of o) (spot_of c.args.spot)) c.in-Bytes.is)

pub returns-in-List : goal.returns-in-List
returns-in-List c =
    refused_last c.args.stack.now c.in-Some.frame.now (spot_of c.args.spot) (sym c.in-Some.ensures.value) ∙ ap (λ o. refused_by (opener_of o) (spot_of c.args.spot)) c.in-List.is

pub returns-in-Dotted : goal.returns-in-Dotted
returns-in-Dotted c =
    refused_last c.args.stack.now c.in-Some.frame.now (spot_of c.args.spot) (sym c.in-Some.ensures.value) ∙ ap (λ o. refused_by (opener_of o) (spot_of c.args.spot)) c.in-Dotted.is

pub returns-in-Vector : goal.returns-in-Vector
returns-in-Vector c =
    refused_last c.args.stack.now c.in-Some.frame.now (spot_of c.args.spot) (sym c.in-Some.ensures.value) ∙ ap (λ o. refused_by (opener_of o) (spot_of c.args.spot)) c.in-Vector.is

pub returns-in-Mark : goal.returns-in-Mark
returns-in-Mark c =
    refused_last c.args.stack.now c.in-Some.frame.now (spot_of c.args.spot) (sym c.in-Some.ensures.value) ∙ ap (λ o. refused_by (opener_of o) (spot_of c.args.spot)) c.in-Mark.is

pub returns-in-Skip : goal.returns-in-Skip
returns-in-Skip c =
    refused_last c.args.stack.now c.in-Some.frame.now (spot_of c.args.spot) (sym c.in-Some.ensures.value) ∙ ap (λ o. refused_by (opener_of o) (spot_of c.args.spot)) c.in-Skip.is
