-- A definition is refused by the form's own notes, or by those of its unit before the form.
use Rattle.std.proofs.Common.{◌≡◌, List, [], ◌∷◌, ◌++◌, Bool, true, false, refl, ap, ◌∙◌}
use Rattle.std.specs.Prelude.{◌||◌}
use Rattle.scheme_model.specs.Substitution.{any}
use Rattle.scheme_model.specs.Questions.{Outcome, Stands, Redefines, StoodBefore, outcome_by}

either : (a b c : Bool) → (a || (b || c)) ≡ ((a || b) || c)
either true b c = refl
either false b c = refl

pub any_both : {X : Type 0} (f : X → Bool) (xs ys : List X) → any f (xs ++ ys) ≡ (any f xs || any f ys)
any_both f [] ys = refl
any_both f (x ∷ xs) ys = ap (λ b. f x || b) (any_both f xs ys) ∙ either (f x) (any f xs) (any f ys)

pub refused_first : (a b c : Bool) → Redefines ≡ outcome_by a c → Redefines ≡ outcome_by (a || b) c
refused_first true b c h = refl
refused_first false b true h = absurd cc
refused_first false b false h = absurd cc

pub stood_first : (a b c : Bool) (o : Outcome) → StoodBefore ≡ outcome_by a c → o ≡ outcome_by b c → o ≡ outcome_by (a || b) c
stood_first true b c o h e = absurd cc
stood_first false b c o h e = e

pub stands_first : (a b c : Bool) (o : Outcome) → Stands ≡ outcome_by a c → o ≡ outcome_by b c → o ≡ outcome_by (a || b) c
stands_first true b c o h e = absurd cc
stands_first false b c o h e = e
