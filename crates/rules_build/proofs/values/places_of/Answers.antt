use Rattle.std.proofs.Common.{◌+◌, List, drop, sym, ap, ◌∙◌, subst, arith}
use Rattle.std.specs.Prelude.{None}
use Rattle.scheme_model.specs.Matching.{Binding}
use Rattle.scheme_model.specs.Building.{places_of, agree_with}
use Rattle.scheme_model.specs.Ident.{Ident as Identifier}
use Rattle.rules_build.specs.declared.values.Bound as code
use Rattle.rules_build.specs.Values.{IsBound}
use Rattle.rules_build.proofs.PairLaws.{there, past}
use Rattle.rules_build.proofs.ValueLaws.{places_failed, places_step, or_zero_is}
use Rattle.rules_build.proofs.values.places_of.Goals as goal

pub returns-in_err-places : goal.returns-in_err-places
returns-in_err-places c = λ work region ms are.
    let k = c.loop-bound.bound-index in
    let b = c.bound-item.result in
    let p = there (IsBound work region) k c.args.bounds.now ms b are c.loop-bound-test.true in
    let r = subst (λ (x : code.Bound). IsBound work region x p.here) (sym c.bound-item.is) p.related in
    places_failed (agree_with c.loop-bound.places p.here.value) (places_of None ms) c.from_residual.result c.in_err-places.field-0.0 c.from_residual.ensures.1
    (λ n. c.loop-bound.invariant work region ms are ∙ places_step c.loop-bound.places (drop k ms) p.here (drop (k + 1) ms) None p.split n) (c.in_err-places.ensures work region p.here.value r.1)

pub loop-bound-preserved : goal.loop-bound-preserved
loop-bound-preserved c = λ work region ms are.
    let k = c.loop-bound.bound-index in
    let b = c.bound-item.result in
    let p = there (IsBound work region) k c.args.bounds.now ms b are c.loop-bound-test.true in
    let r = subst (λ (x : code.Bound). IsBound work region x p.here) (sym c.bound-item.is) p.related in
    c.loop-bound.invariant work region ms are ∙ places_step c.loop-bound.places (drop k ms) p.here (drop (k + 1) ms) _ p.split (c.in_ok-places.ensures work region p.here.value r.1)

pub returns : goal.returns
returns c = λ work region ms are.
    let gone = past (IsBound work region) c.loop-bound.bound-index c.args.bounds.now ms are (omega arith) in (
      c.loop-bound.places,
      c.loop-bound.invariant work region ms are ∙ ap (λ (xs : List (Binding Identifier Identifier)). places_of c.loop-bound.places xs) gone,
      c.unwrap_or.ensures ∙ or_zero_is c.loop-bound.places,
    )
