use Rattle.std.proofs.Common.{◌≡◌, ◌<◌, length, sym, ◌∙◌, arith}
use Rattle.std.proofs.lemmas.Bool.Decides.{nat_tests}
use Rattle.datum_reader.specs.Views.{datum_of}
use Rattle.datum_reader.proofs.LookLaws.{nothing_in}
use Rattle.included_strings.proofs.StringLaws.{included_empty, included_other, included_all}
use Rattle.included_strings.proofs.strings.included_by.Goals as goal

pub returns-then-is_empty : goal.returns-then-is_empty
returns-then-is_empty c =
    let none : length c.behind_first-strings.result.now ≡ 0 = grind (arith, nat_tests) in
    included_empty c.args.word.now (datum_of c.args.datum.now) c.behind_first-strings.result.now (sym c.is_headed.ensures ∙ c.if-not-is_headed.false) c.behind_first-strings.ensures (nothing_in c.behind_first-strings.result.now none)

pub returns-then-not-are_strings : goal.returns-then-not-are_strings
returns-then-not-are_strings c =
    included_other c.args.word.now (datum_of c.args.datum.now) c.behind_first-strings.result.now (sym c.is_headed.ensures ∙ c.if-not-is_headed.false) c.behind_first-strings.ensures (sym c.are_strings.ensures ∙ c.if-not-are_strings.true)

pub returns : goal.returns
returns c =
    let some : 0 < length c.behind_first-strings.result.now = grind (arith, nat_tests) in
    included_all c.args.word.now (datum_of c.args.datum.now) c.behind_first-strings.result (sym c.is_headed.ensures ∙ c.if-not-is_headed.false) c.behind_first-strings.ensures some (sym c.are_strings.ensures ∙ c.if-not-are_strings.false)
