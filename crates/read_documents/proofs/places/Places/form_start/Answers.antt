-- A form that there is begins at its first token, and else the unit's is taken.
use Rattle.std.proofs.Common.{◌≡◌, sym, ap, ◌∙◌, length, nat_lt, true, false, arith}
use Rattle.std.proofs.lemmas.Bool.Decides.{nat_tests}
use Rattle.read_documents.specs.Places.{bytes_at}
use Rattle.read_documents.proofs.Nths.{get_some, get_none}
use Rattle.read_documents.proofs.PlaceLaws.{form_is, form_isnt, form_no_unit}
use Rattle.read_documents.proofs.places.Places.form_start.Goals as goal

pub returns-in_default-clause-exact : goal.returns-in_default-clause-exact
returns-in_default-clause-exact c = λ rs us are.
    ap bytes_at c.nowhere.ensures ∙ form_no_unit c.args.self.now rs us are c.args.unit c.args.form (get_none c.args.self.now.heads.now c.args.unit (sym c.in_default.ensures.lookup.0))

pub returns-then-form-len-clause-exact : goal.returns-then-form-len-clause-exact
returns-then-form-len-clause-exact c = λ rs us are.
    let less : nat_lt c.args.form (length c.in-Some.head.now.firsts.items) ≡ true = grind (arith, nat_tests, c.len.ensures, c.if-form-len.true, c.in-Some.head.now.firsts.ok) in
    form_is c.args.self.now rs us are (bytes_at c.at_or_form.result) c.args.unit c.args.form c.in-Some.head.now
    (get_some c.args.self.now.heads.now c.args.unit c.in-Some.head.now (sym c.in-Some.ensures.lookup.0) c.in-Some.ensures.lookup.1) less (c.at_or_form.ensures.exact rs us are)

pub returns-else-form-len-clause-exact : goal.returns-else-form-len-clause-exact
returns-else-form-len-clause-exact c = λ rs us are.
    let less : nat_lt c.args.form (length c.in-Some.head.now.firsts.items) ≡ false = grind (arith, nat_tests, c.len.ensures, c.if-form-len.false, c.in-Some.head.now.firsts.ok) in
    form_isnt c.args.self.now rs us are (bytes_at c.start.result) c.args.unit c.args.form c.in-Some.head.now
    (get_some c.args.self.now.heads.now c.args.unit c.in-Some.head.now (sym c.in-Some.ensures.lookup.0) c.in-Some.ensures.lookup.1) less (c.start.ensures.exact rs us are)
