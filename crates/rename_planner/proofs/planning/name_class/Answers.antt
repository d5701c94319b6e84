use Rattle.std.specs.FinMap.{entries}
use Rattle.program_answers.proofs.TextLists.{some_row}
use Rattle.program_answers.specs.ToldAnswers.{name_there}
use Rattle.rename_planner.specs.Planning.{IsNamed, named_in}
use Rattle.rename_answers.specs.ReadDocuments.{read_as}
use Rattle.rename_planner.proofs.BindLaws.{err_goes}
use Rattle.rename_planner.proofs.NamedLaws.{all_hold, bad_name, is_standard, lost, unread}
use Rattle.rename_planner.proofs.StepLaws.{bound_document}
use Rattle.rename_planner.proofs.planning.name_class.Goals as goal

pub returns-in_err-no_standard-clause-exact : goal.returns-in_err-no_standard-clause-exact
returns-in_err-no_standard-clause-exact c = λ r rs is are.
    let ds = entries c.args.ws.now.texts in
    let e = c.args.ws.now.encoding in
    let at = name_there e ds rs c.args.uri.now c.args.position in
    let spelled = r.symbol c.args.new_name.now in
    let h1 = c.in_ok-class.ensures.exact rs are in
    err_goes e ds (IsNamed ds rs) (named_in (read_as ds rs) at spelled) c.from_residual-in_err-no_standard.result c.in_err-no_standard.field-0.0 c.from_residual-in_err-no_standard.ensures.1
    (is_standard e ds rs at spelled c.in_ok-class.class h1 c.in_err-no_standard.field-0.0 (λ o k. c.in_err-no_standard.ensures e ds rs o k))

pub returns-in_err-symbol-clause-exact : goal.returns-in_err-symbol-clause-exact
returns-in_err-symbol-clause-exact c = λ r rs is are.
    let ds = entries c.args.ws.now.texts in
    let e = c.args.ws.now.encoding in
    let at = name_there e ds rs c.args.uri.now c.args.position in
    let spelled = r.symbol c.args.new_name.now in
    let h1 = c.in_ok-class.ensures.exact rs are in
    err_goes e ds (IsNamed ds rs) (named_in (read_as ds rs) at spelled) c.from_residual-in_err-symbol.result c.in_err-symbol.field-0.0 c.from_residual-in_err-symbol.ensures.1
    (bad_name e ds rs at spelled c.in_ok-class.class h1 (λ o k. c.in_ok-no_standard.ensures e ds rs o k) c.in_err-symbol.field-0.0 (c.in_err-symbol.ensures e ds r is))

pub returns-in_err-all_read-clause-exact : goal.returns-in_err-all_read-clause-exact
returns-in_err-all_read-clause-exact c = λ r rs is are.
    let ds = entries c.args.ws.now.texts in
    let e = c.args.ws.now.encoding in
    let at = name_there e ds rs c.args.uri.now c.args.position in
    let spelled = r.symbol c.args.new_name.now in
    let h1 = c.in_ok-class.ensures.exact rs are in
    let h3 = c.in_ok-symbol.ensures e ds r is in
    err_goes e ds (IsNamed ds rs) (named_in (read_as ds rs) at spelled) c.from_residual-in_err-all_read.result c.in_err-all_read.field-0.0 c.from_residual-in_err-all_read.ensures.1
    (unread e ds rs at spelled c.in_ok-class.class h1 (λ o k. c.in_ok-no_standard.ensures e ds rs o k) c.in_ok-symbol.symbol h3 c.in_err-all_read.field-0.0 (c.in_err-all_read.ensures rs are))

pub returns-in_err-stem-clause-exact : goal.returns-in_err-stem-clause-exact
returns-in_err-stem-clause-exact c = λ r rs is are.
    let ds = entries c.args.ws.now.texts in
    let e = c.args.ws.now.encoding in
    let at = name_there e ds rs c.args.uri.now c.args.position in
    let spelled = r.symbol c.args.new_name.now in
    let h1 = c.in_ok-class.ensures.exact rs are in
    let h3 = c.in_ok-symbol.ensures e ds r is in
    let h4 = c.in_ok-all_read.ensures rs are in
    let h5 = (rw (c.as_str.ensures, c.as_str-2.ensures) at c.in_err-stem.ensures) e ds in
    err_goes e ds (IsNamed ds rs) (named_in (read_as ds rs) at spelled) c.from_residual-in_err-stem.result c.in_err-stem.field-0.0 c.from_residual-in_err-stem.ensures.1
    (lost e ds rs at spelled c.in_ok-class.class h1 (λ o k. c.in_ok-no_standard.ensures e ds rs o k) c.in_ok-symbol.symbol h3 h4 c.in_err-stem.field-0.0 h5)

pub returns-clause-exact : goal.returns-clause-exact
returns-clause-exact c = λ r rs is are.
    let ds = entries c.args.ws.now.texts in
    let e = c.args.ws.now.encoding in
    let at = name_there e ds rs c.args.uri.now c.args.position in
    let spelled = r.symbol c.args.new_name.now in
    let h1 = c.in_ok-class.ensures.exact rs are in
    let h3 = c.in_ok-symbol.ensures e ds r is in
    let h4 = c.in_ok-all_read.ensures rs are in
    let h5 = (rw (c.as_str.ensures, c.as_str-2.ensures) at c.in_ok-stem.ensures) e ds in
    all_hold e ds rs at spelled c.in_ok-class.class h1 (λ o k. c.in_ok-no_standard.ensures e ds rs o k) c.in_ok-symbol.symbol h3 h4 c.in_ok-stem.stem h5

pub returns-clause-documents : goal.returns-clause-documents
returns-clause-documents c =
    let ds = entries c.args.ws.now.texts in
    let rs = some_row ds in
    bound_document c.args.ws.now.encoding ds rs.0 c.args.uri.now c.args.position c.in_ok-class.class (c.in_ok-class.ensures.exact rs.0 rs.1)
