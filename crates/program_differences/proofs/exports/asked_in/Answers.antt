use Rattle.std.proofs.Common.{List, [], ◌∷◌, ap, ◌∙◌, arith}
use Rattle.std.specs.BTreeMap.{get_by_text}
use Rattle.std.proofs.lemmas.List.{take_all}
use Rattle.program_differences.specs.declared.plan.ExportChange.{ExportChange}
use Rattle.program_differences.specs.Exported.{asked_at, first_given}
use Rattle.program_differences.proofs.ExportLaws.{asked_more}
use Rattle.program_differences.proofs.exports.asked_in.Goals as goal

pub loop-change-preserved : goal.loop-change-preserved
loop-change-preserved c = λ s.
    asked_more c.args.unit c.args.changes.now c.loop-change.change-index c.change-item.result s (get_by_text c.loop-change.asked s) (get_by_text c.ask_in.new.asked s) (omega arith) (c.loop-change.invariant s) (c.in_ok-ask_in.ensures s ∙ ap (λ (x : ExportChange). first_given (get_by_text c.loop-change.asked s) (asked_at c.args.unit (x ∷ []) s)) c.change-item.is)

pub returns : goal.returns
returns c = λ s. c.loop-change.invariant s ∙ ap (λ (cs : List ExportChange). asked_at c.args.unit cs s) (take_all c.loop-change.change-index c.args.changes.now (omega arith))
