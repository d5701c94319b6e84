use Rattle.std.proofs.Common.{◌<◌, ◌≤◌, length, arith}
use Rattle.std.proofs.lemmas.List.{get_or_default}
use Rattle.moved_numbers.specs.Standing.{FormMoves}
use Rattle.moves.specs.Numbers.{numbers_of}
use Rattle.moved_numbers.proofs.Fronts.{front_more, front_all}
use Rattle.moved_numbers.proofs.FormLaws.{all_values}
use Rattle.moved_numbers.proofs.program.unit_forms.Goals as goal

pub loop-i-preserved : goal.loop-i-preserved
loop-i-preserved c =
    let r = numbers_of c.args.moves.now in
    let lt : c.loop-i.i < length c.loop-i.all = omega (arith, c.loop-i.invariant.length_is) in
    let form = c.unit_form.ensures in
    front_more (FormMoves r) c.args.all.now c.loop-i.all c.loop-i.i _ c.unit_form.new.form c.loop-i.invariant lt (get_or_default c.loop-i.all c.loop-i.i _ _ lt) (record { result = form.result; blank = form.blank; value = form.value })

pub returns-clause-forms : goal.returns-clause-forms
returns-clause-forms c =
    let end : length c.loop-i.all ≤ c.loop-i.i = omega (arith, c.loop-i.invariant.length_is) in
    front_all (FormMoves (numbers_of c.args.moves.now)) c.args.all.now c.loop-i.all c.loop-i.i c.loop-i.invariant end

pub returns-clause-value : goal.returns-clause-value
returns-clause-value c =
    let r = numbers_of c.args.moves.now in
    let end : length c.loop-i.all ≤ c.loop-i.i = omega (arith, c.loop-i.invariant.length_is) in
    all_values r c.args.all.now c.loop-i.all (front_all (FormMoves r) c.args.all.now c.loop-i.all c.loop-i.i c.loop-i.invariant end)
