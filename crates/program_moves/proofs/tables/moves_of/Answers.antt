use Rattle.std.proofs.Common.{◌≡◌, ℕ, List, inl, inr, arith, ap, subst, sym, length, true, false}
use Rattle.std.proofs.lemmas.Bool.{cases_lt}
use Rattle.moves.specs.Numbers.{moved, forms_at, IsPermutation}
use Rattle.moves.proofs.TableLaws.{forms_past}
use Rattle.program_moves.specs.Sent.{renumbering_of, is_home, IsForm}
use Rattle.program_moves.proofs.PairLaws.{forms_step}
use Rattle.program_moves.proofs.PermutationLaws.{none_permutes}
use Rattle.program_moves.proofs.tables.moves_of.Goals as goal

pub loop-unit-preserved : goal.loop-unit-preserved
loop-unit-preserved c =
    let made = c.in_ok-forms_of.ensures in
    let len = c.loop-unit.invariant.length in
    record {
      length = omega (arith, len, c.in_ok-push.ensures);
      permutes = rw c.in_ok-push.ensures.items (forms_step (λ u ns. IsPermutation ns) c.loop-unit.forms.items c.in_ok-forms_of.field-0 c.loop-unit.unit len c.loop-unit.invariant.permutes made.permutes);
      home = rw c.in_ok-push.ensures.items (forms_step (λ u ns. is_home c.args.homes.now u ≡ true → (f : ℕ) → moved ns f ≡ f) c.loop-unit.forms.items c.in_ok-forms_of.field-0 c.loop-unit.unit len c.loop-unit.invariant.home made.home);
      sent = rw c.in_ok-push.ensures.items (forms_step (λ u ns. is_home c.args.homes.now u ≡ false → (f : ℕ) → IsForm c.args.pairs.now u f → moved ns f ≡ (renumbering_of c.args.pairs.now).form u f) c.loop-unit.forms.items c.in_ok-forms_of.field-0 c.loop-unit.unit len c.loop-unit.invariant.sent made.sent);
    }

pub returns-clause-permutes : goal.returns-clause-permutes
returns-clause-permutes c = record {
  units = c.in_ok-units.ensures.permutes;
  forms = λ u.
      elim (cases_lt u c.loop-unit.unit) [
        | inl lt ↦ c.loop-unit.invariant.permutes u lt
        | inr le ↦ subst IsPermutation (sym (forms_past c.loop-unit.forms.items u (omega (arith, le, c.loop-unit.invariant.length)))) none_permutes
      ];
  within = omega (arith, c.loop-unit.invariant.length, c.in_ok-units.ensures.length, c.loop-unit-test.false);
}

pub returns-clause-prelude : goal.returns-clause-prelude
returns-clause-prelude c f = ap (λ (ns : List ℕ). moved ns f) (forms_past c.loop-unit.forms.items 128 (omega (arith, c.loop-unit.invariant.length, c.loop-unit-test.false)))
