use Rattle.std.proofs.Common.{◌≡◌, true, false, Some, sym, ap, ◌∙◌, arith}
use Rattle.std.specs.HashSet.{contains_text}
use Rattle.import_sets.specs.Given.{has_name}
use Rattle.import_sets.proofs.NameLaws.{missing_there, missing_here}
use Rattle.import_sets.proofs.names.missing.Goals as goal

pub returns-then-not-contains : goal.returns-then-not-contains
returns-then-not-contains c =
    let none : has_name c.args.entries.now c.name-item.result.name ≡ false = sym (c.in_ok-there.ensures c.name-item.result.name) ∙ ap (contains_text c.in_ok-there.there) (sym c.as_str.ensures) ∙ sym c.contains.ensures ∙ c.if-not-contains.true in
    ap Some c.in_ok-copy_of_name.ensures ∙ sym (missing_here c.args.names.now c.args.entries.now c.loop-name.name-index c.name-item.result (omega arith) c.name-item.is none) ∙ c.loop-name.invariant

pub loop-name-preserved : goal.loop-name-preserved
loop-name-preserved c =
    let has : has_name c.args.entries.now c.name-item.result.name ≡ true = sym (c.in_ok-there.ensures c.name-item.result.name) ∙ ap (contains_text c.in_ok-there.there) (sym c.as_str.ensures) ∙ sym c.contains.ensures ∙ c.if-not-contains.false in
    missing_there c.args.names.now c.args.entries.now c.loop-name.name-index c.name-item.result (omega arith) c.name-item.is has ∙ c.loop-name.invariant
