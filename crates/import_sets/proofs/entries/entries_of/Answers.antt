use Rattle.std.proofs.Common.{Bool, cond, Err, Ok, sym, subst}
use Rattle.std.proofs.lemmas.Result.{err_from_is_err_and}
use Rattle.scheme_model.specs.Entries as model
use Rattle.import_sets.specs.Sets.{Answers}
use Rattle.import_sets.specs.Given.{given}
use Rattle.import_sets.specs.declared.fault.ImportFault.TheVariants as fault
use Rattle.import_sets.proofs.SetLaws.{set_stands, same_answers}
use Rattle.import_sets.proofs.entries.entries_of.Goals as goal

pub returns-then-has_bad : goal.returns-then-has_bad
returns-then-has_bad c names apart s is es stand =
    let set = c.args.set.now in
    let exports = c.args.exports.now in
    subst (λ (b : Bool). Answers names (cond b (Err fault.BadSet) (given set exports)) (model.entries_of s es)) (sym c.if-has_bad.ensures) (set_stands names apart set s exports es is stand)

pub returns-in_err-given : goal.returns-in_err-given
returns-in_err-given c names apart s is es stand =
    let set = c.args.set.now in
    let exports = c.args.exports.now in
    let p = err_from_is_err_and c.from_residual.result c.from_residual.ensures.1 in
    rw (p.1, p.2)
    (same_answers names (Err c.in_err-given.field-0.0) (given set exports) (model.entries_of s es) c.in_err-given.ensures
    (subst (λ (b : Bool). Answers names (cond b (Err fault.BadSet) (given set exports)) (model.entries_of s es)) (sym c.if-has_bad.ensures) (set_stands names apart set s exports es is stand)))

pub returns : goal.returns
returns c names apart s is es stand =
    let set = c.args.set.now in
    let exports = c.args.exports.now in
    same_answers names (Ok c.in_ok-given.field-0) (given set exports) (model.entries_of s es) c.in_ok-given.ensures
    (subst (λ (b : Bool). Answers names (cond b (Err fault.BadSet) (given set exports)) (model.entries_of s es)) (sym c.if-has_bad.ensures) (set_stands names apart set s exports es is stand))
