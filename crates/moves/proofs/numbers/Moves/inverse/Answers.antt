use Rattle.std.proofs.Common.{◌≡◌, ℕ, List, length, ap, subst, ◌∙◌, arith}
use Rattle.moves.specs.Numbers.{moved}
use Rattle.moves.proofs.TableLaws.{forms_lead_back}
use Rattle.moves.proofs.numbers.Moves.inverse.Goals as goal

pub returns : goal.returns
returns c =
    let old = c.args.self.now in
    let units = c.in_ok-units.units.items in
    let view = c.as_slice.ensures.value in
    let back = subst (λ (ns : List ℕ). (u : ℕ) → moved units (moved ns u) ≡ u) view c.in_ok-units.ensures.back in
    let len : length units ≡ length old.units.items = c.in_ok-units.ensures.length ∙ ap (λ (l : List ℕ). length l) view in
    let more : length c.loop-unit.forms.items ≡ length units = omega (arith, c.loop-unit.invariant.length, c.loop-unit-test.false, c.len-unit-end.ensures) in
    record {
      unit = back;
      form = forms_lead_back old.units.items units old.forms.items c.loop-unit.forms.items len c.requires.within more c.requires.units back (λ v lt f. c.loop-unit.invariant.back v (omega (arith, lt, more, c.loop-unit.invariant.length)) f);
    }
