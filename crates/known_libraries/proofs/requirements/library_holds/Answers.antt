use Rattle.std.proofs.Common.{◌≡◌, ◌<◌, length, ap, ◌∙◌, arith}
use Rattle.std.specs.BTreeSet.{contains_text}
use Rattle.std.proofs.lemmas.Bool.Decides.{nat_tests}
use Rattle.known_libraries.proofs.RequirementRows.{library_long}
use Rattle.known_libraries.proofs.ProperNames.{library_known}
use Rattle.known_libraries.proofs.requirements.library_holds.Goals as goal

pub returns-then-not-is_empty : goal.returns-then-not-is_empty
returns-then-not-is_empty c = λ has k at.
    let some : 0 < length c.in-Parts.rest.now = grind (arith, nat_tests) in
    library_long has at c.args.parts.now c.in-Parts.first.now c.in-Parts.rest.now c.in-Parts.ensures some

pub returns-in_ok-name-in-Parts : goal.returns-in_ok-name-in-Parts
returns-in_ok-name-in-Parts c = λ has k at.
    let one : length c.in-Parts.rest.now ≡ 0 = grind (arith, nat_tests) in
    library_known c.args.known.now has at c.args.parts.now c.in-Parts.first.now c.in-Parts.rest.now c.in_ok-name-in-Parts.name c.contains.result k c.in-Parts.ensures one (c.in_ok-name-in-Parts.ensures at)
    (c.contains.ensures ∙ ap (contains_text c.args.known.now) c.as_str.ensures)
