use Rattle.std.proofs.Common.{◌≡◌, List, [], ◌∷◌, ◌++◌, length, reverse, ap, ◌∙◌, subst, arith}
use Rattle.std.proofs.lemmas.List.{reverse-append}
use Rattle.unit_scopes.specs.declared.scope.UnitScope.{UnitScope}
use Rattle.declared_parts.specs.Undone.{IsBack, AreDefined}
use Rattle.declared_parts.specs.declared.undoing.Made.{Made}
use Rattle.declared_parts.proofs.UndoneLaws.{defined_on}
use Rattle.declared_parts.proofs.undoing.take_back.Goals as goal

-- the last of the code's list is the first
last_first : (old u : UnitScope) (before after : List Made) (x : Made) → before ≡ after ++ x ∷ [] → AreDefined old u (reverse before) → AreDefined old u (x ∷ reverse after)
last_first old u before after x e h = subst (AreDefined old u) (ap reverse e ∙ reverse-append after (x ∷ [])) h

pub loop-last-init : goal.loop-last-init
loop-last-init c = record { some = c.requires; all = λ old h. h }

pub take_one-requires : goal.take_one-requires
take_one-requires c =
    let q = c.loop-last.invariant.some in
    let h = last_first q.0 c.loop-last.units c.loop-last.left.items c.pop.new.self.items c.in-Some.last c.in-Some.ensures.items q.1 in
    (h.0, h.2)

pub loop-last-preserved : goal.loop-last-preserved
loop-last-preserved c =
    let q = c.loop-last.invariant.some in let u = c.loop-last.units in let before = c.loop-last.left.items in let after = c.pop.new.self.items in let x = c.in-Some.last in
    let back : (old : UnitScope) → AreDefined old u (reverse before) → AreDefined old c.take_one.new.units (reverse after) =
    λ old h. let l = last_first old u before after x c.in-Some.ensures.items h in defined_on old l.0 c.take_one.new.units (reverse after) l.1 (c.take_one.ensures l.0 l.2) in
    record {
      some = (q.0, back q.0 q.1);
      all = λ old h. back old (c.loop-last.invariant.all old h);
    }

pub returns : goal.returns
returns c = λ old h.
    let gone : length c.loop-last.left.items ≡ 0 = let z = c.in_default.ensures.cases.0 in let items = c.loop-last.left.ok.0 in omega arith in
    none_left old c.loop-last.units c.loop-last.left.items gone (c.loop-last.invariant.all old h)
  where
    none_left : (old u : UnitScope) (xs : List Made) → length xs ≡ 0 → AreDefined old u (reverse xs) → IsBack old u
    none_left old u [] e h = h
    none_left old u (x ∷ xs) e h = absurd (omega (arith, e))
