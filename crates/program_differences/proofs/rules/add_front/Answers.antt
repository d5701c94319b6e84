use Rattle.std.proofs.Common.{◌++◌, length}
use Rattle.std.specs.Prelude.{is_some}
use Rattle.program_leaves.proofs.AddLaws.{adds_both, adds_same}
use Rattle.alpha_equal.specs.Slots.{IsSlot}
use Rattle.program_differences.specs.Variables.{heading, literals}
use Rattle.program_differences.proofs.rules.add_front.Goals as goal

pub returns : goal.returns
returns c = λ names unit form.
    let P = IsSlot names unit form in
    let old = c.args.slots.now.items in
    let new = c.add_literals.new.slots.items in
    let ls = length c.as_slice-listed.result.now in
    let rs = length c.as_slice-all.result.now in
    let own = c.is_some-own.result in
    adds_same P old new (heading own ls rs ++ literals ls) (heading (is_some c.args.rules.now.ellipsis) (length c.args.rules.now.literals) (length c.args.rules.now.rules) ++ literals (length c.args.rules.now.literals))
    (λ j. heading (c.is_some-own.ensures j) (length (c.as_slice-listed.ensures j)) (length (c.as_slice-all.ensures j)) ++ literals (length (c.as_slice-listed.ensures j)))
    (adds_both P old c.add_heading.new.slots.items new (heading own ls rs) (literals ls) (c.in_ok-add_heading.ensures names unit form) (c.in_ok-add_literals.ensures names unit form))
