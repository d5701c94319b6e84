use Rattle.std.proofs.Common.{◌≡◌, Ok, refl, sym, ap, ◌∙◌, subst}
use Rattle.std.specs.FinMap.{entries}
use Rattle.program_answers.proofs.TextLists.{some_row}
use Rattle.program_answers.specs.ToldAnswers.{name_there}
use Rattle.rename_conditions.proofs.ReaderLaws.{reader_is_there}
use Rattle.rename_planner.specs.Planning.{ComesTo, IsNamed, IsPlanned, named_in, planned_in}
use Rattle.rename_answers.specs.ReadDocuments.{read_as}
use Rattle.rename_planner.proofs.BindLaws.{comes_ok, err_goes}
use Rattle.rename_planner.proofs.PlannedLaws.{all_hold, an_error, clash, too_long}
use Rattle.rename_planner.proofs.planning.plan_rename.Goals as goal

pub returns-in_err-no_clash-clause-exact : goal.returns-in_err-no_clash-clause-exact
returns-in_err-no_clash-clause-exact c = λ r rs is are.
    let ds = entries c.args.ws.now.texts in
    let e = c.args.ws.now.encoding in
    let w = read_as ds rs in
    let at = name_there e ds rs c.args.uri.now c.args.position in
    let spelled = r.symbol c.args.new_name.now in
    let n = c.in_ok-class.field-0 in
    let h1 = c.in_ok-class.ensures.exact r rs is are in
    err_goes e ds (IsPlanned e ds w) (planned_in w at spelled) c.from_residual-in_err-no_clash.result c.in_err-no_clash.field-0.0 c.from_residual-in_err-no_clash.ensures.1
    (clash e ds rs at spelled n h1 c.in_err-no_clash.field-0.0 (λ o k. c.in_err-no_clash.ensures.exact rs o are k))

pub returns-in_err-all_whole-clause-exact : goal.returns-in_err-all_whole-clause-exact
returns-in_err-all_whole-clause-exact c = λ r rs is are.
    let ds = entries c.args.ws.now.texts in
    let e = c.args.ws.now.encoding in
    let w = read_as ds rs in
    let at = name_there e ds rs c.args.uri.now c.args.position in
    let spelled = r.symbol c.args.new_name.now in
    let n = c.in_ok-class.field-0 in
    let h1 = c.in_ok-class.ensures.exact r rs is are in
    err_goes e ds (IsPlanned e ds w) (planned_in w at spelled) c.from_residual-in_err-all_whole.result c.in_err-all_whole.field-0.0 c.from_residual-in_err-all_whole.ensures.1
    (an_error e ds rs at spelled n h1 (λ o k. c.in_ok-no_clash.ensures.exact rs o are k) c.in_err-all_whole.field-0.0 (λ o k. c.in_err-all_whole.ensures rs o are k))

pub returns-in_err-all-clause-exact : goal.returns-in_err-all-clause-exact
returns-in_err-all-clause-exact c = λ r rs is are.
    let ds = entries c.args.ws.now.texts in
    let e = c.args.ws.now.encoding in
    let w = read_as ds rs in
    let at = name_there e ds rs c.args.uri.now c.args.position in
    let spelled = r.symbol c.args.new_name.now in
    let n = c.in_ok-class.field-0 in
    let h1 = c.in_ok-class.ensures.exact r rs is are in
    err_goes e ds (IsPlanned e ds w) (planned_in w at spelled) c.from_residual-in_err-all.result c.in_err-all.field-0.0 c.from_residual-in_err-all.ensures.1
    (too_long e ds rs at spelled n h1 (λ o k. c.in_ok-no_clash.ensures.exact rs o are k) (λ o k. c.in_ok-all_whole.ensures rs o are k) _ c.in_err-all.field-0.0 (λ o k. c.in_err-all.ensures.exact rs o n.stem are ((rw c.as_str.ensures at c.in_ok-members.ensures) ds rs o k (c.in_ok-no_clash.ensures.apart rs o are k))))

pub returns-clause-exact : goal.returns-clause-exact
returns-clause-exact c = λ r rs is are.
    let ds = entries c.args.ws.now.texts in
    let e = c.args.ws.now.encoding in
    let w = read_as ds rs in
    let at = name_there e ds rs c.args.uri.now c.args.position in
    let spelled = r.symbol c.args.new_name.now in
    let n = c.in_ok-class.field-0 in
    let h1 = c.in_ok-class.ensures.exact r rs is are in
    all_hold e ds rs at spelled n h1 (λ o k. c.in_ok-no_clash.ensures.exact rs o are k) (λ o k. c.in_ok-all_whole.ensures rs o are k) _ c.in_ok-all.all (Ok c.in_ok-planned.planned)
    (λ o k. c.in_ok-all.ensures.exact rs o n.stem are ((rw c.as_str.ensures at c.in_ok-members.ensures) ds rs o k (c.in_ok-no_clash.ensures.apart rs o are k)))
    (λ o k.
    let named = (rw c.as_str.ensures at c.in_ok-members.ensures) ds rs o k (c.in_ok-no_clash.ensures.apart rs o are k) in
    (rw c.as_slice.ensures at c.in_ok-planned.ensures.exact) rs o n.stem are k named (c.in_ok-all.ensures.edits rs o n.stem are named))

pub returns-clause-tried : goal.returns-clause-tried
returns-clause-tried c =
    let reader = reader_is_there in
    let r = reader.0 in
    let is = reader.1 in
    let row = some_row (entries c.args.ws.now.texts) in
    let rs = row.0 in
    let are = row.1 in
    let ds = entries c.args.ws.now.texts in
    let e = c.args.ws.now.encoding in
    let w = read_as ds rs in
    let at = name_there e ds rs c.args.uri.now c.args.position in
    let spelled = r.symbol c.args.new_name.now in
    let n = c.in_ok-class.field-0 in
    let h1 = c.in_ok-class.ensures.exact r rs is are in
    let it = comes_ok e ds (IsNamed ds rs) (named_in w at spelled) n h1 in
    let o = it.0.0 in
    let k = it.2.class in
    let named = (rw c.as_str.ensures at c.in_ok-members.ensures) ds rs o k (c.in_ok-no_clash.ensures.apart rs o are k) in
    (rw c.as_slice.ensures at c.in_ok-planned.ensures.tried) rs o n.stem are (c.in_ok-all.ensures.edits rs o n.stem are named)
