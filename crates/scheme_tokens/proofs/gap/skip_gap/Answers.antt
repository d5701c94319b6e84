use Rattle.std.proofs.Common.{Ok, List, ℕ, ◌∙◌, sym, ap, arith}
use Rattle.std.specs.Str.{chars}
use Rattle.std.proofs.lemmas.Bool.{eq-eqb, ne_eqb}
use Rattle.scheme_tokens.specs.Mirror.Gaps.{between, behind_gap}
use Rattle.scheme_tokens.proofs.GapLaws.{between_none, between_white, between_line, between_opens, between_token}
use Rattle.scheme_tokens.proofs.gap.skip_gap.Goals as goal

pub loop-c-preserved-then-is_whitespace : goal.loop-c-preserved-then-is_whitespace
loop-c-preserved-then-is_whitespace c = record {
  utf8 = c.in-Some.ensures.utf8;
  within = omega (arith, c.in-Some.ensures.within, c.loop-c.invariant.within);
  goes = between_white c.in-Some.c (chars c.loop-c.rest.now) (chars c.in-Some.more.now) c.in-Some.ensures.some (sym c.is_whitespace.ensures ∙ c.if-is_whitespace.true) ∙ c.loop-c.invariant.goes;
}

pub loop-c-preserved-then-c-eq59 : goal.loop-c-preserved-then-c-eq59
loop-c-preserved-then-c-eq59 c = record {
  utf8 = c.skip_line-rest.utf8;
  within = omega (arith, c.in-Some.ensures.within, c.loop-c.invariant.within, c.skip_line-rest.ensures.within);
  goes = sym c.skip_line-rest.ensures.rest
      ∙ between_line c.in-Some.c (chars c.loop-c.rest.now) (chars c.in-Some.more.now) c.in-Some.ensures.some (sym c.is_whitespace.ensures ∙ c.if-is_whitespace.false) (eq-eqb c.in-Some.c 59 c.if-c-eq59.true)
      ∙ c.loop-c.invariant.goes;
}

pub returns-in_default-behind_opening-clause-gap : goal.returns-in_default-behind_opening-clause-gap
returns-in_default-behind_opening-clause-gap c =
    sym c.loop-c.invariant.goes
    ∙ between_token c.in-Some.c (chars c.loop-c.rest.now) (chars c.in-Some.more.now) c.in-Some.ensures.some (sym c.is_whitespace.ensures ∙ c.if-is_whitespace.false) (ne_eqb c.in-Some.c 59 c.if-c-eq59.false)
    c.in_default-behind_opening.ensures.none

pub returns-in_default-skip_block-clause-gap : goal.returns-in_default-skip_block-clause-gap
returns-in_default-skip_block-clause-gap c =
    let body = c.in-Some-behind_opening.ensures.some in
    sym c.loop-c.invariant.goes
    ∙ sym (between_opens c.in-Some.c body.0 (chars c.loop-c.rest.now) (chars c.in-Some.more.now) (chars c.in-Some-behind_opening.body.now)
    c.in-Some.ensures.some body.1 (sym c.is_whitespace.ensures ∙ c.if-is_whitespace.false) (ne_eqb c.in-Some.c 59 c.if-c-eq59.false) body.2)
    ∙ c.in_default-skip_block.ensures.none (chars c.loop-c.rest.now)

pub loop-c-preserved : goal.loop-c-preserved
loop-c-preserved c =
    let body = c.in-Some-behind_opening.ensures.some in
    record {
      utf8 = c.in-Some-skip_block.ensures.utf8;
      within = omega (arith, c.in-Some.ensures.within, c.loop-c.invariant.within, c.in-Some-behind_opening.ensures.within, c.in-Some-skip_block.ensures.within);
      goes = sym (c.in-Some-skip_block.ensures.some (chars c.loop-c.rest.now))
          ∙ between_opens c.in-Some.c body.0 (chars c.loop-c.rest.now) (chars c.in-Some.more.now) (chars c.in-Some-behind_opening.body.now)
          c.in-Some.ensures.some body.1 (sym c.is_whitespace.ensures ∙ c.if-is_whitespace.false) (ne_eqb c.in-Some.c 59 c.if-c-eq59.false) body.2
          ∙ c.loop-c.invariant.goes;
    }

pub returns-clause-gap : goal.returns-clause-gap
returns-clause-gap c =
    sym c.loop-c.invariant.goes ∙ ap (behind_gap between) c.in_default.ensures.none ∙ between_none ∙ ap (λ (q : List ℕ). Ok q) (sym c.in_default.ensures.none)
