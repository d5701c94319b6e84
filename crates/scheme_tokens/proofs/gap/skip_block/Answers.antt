use Rattle.std.proofs.Common.{◌∙◌, sym, ap, arith}
use Rattle.std.specs.Str.{chars}
use Rattle.scheme_tokens.specs.Mirror.Gaps.{block, behind_gap}
use Rattle.scheme_tokens.proofs.GapLaws.{block_none, block_opens, block_closes_last, block_closes, block_goes, block_ends}
use Rattle.scheme_tokens.proofs.gap.skip_block.Goals as goal

pub returns-in_err-d-clause-none : goal.returns-in_err-d-clause-none
returns-in_err-d-clause-none c =
    rw c.from_residual.ensures (λ start. sym (c.loop-c.invariant.goes start)
    ∙ block_ends start c.loop-c.outer c.in-Some.c (chars c.loop-c.rest.now) (chars c.in-Some.more.now) c.in-Some.ensures.some c.in_err-d.ensures.none)

pub loop-c-preserved-then-opens : goal.loop-c-preserved-then-opens
loop-c-preserved-then-opens c = record {
  utf8 = c.in_ok-d.ensures.utf8;
  within = omega (arith, c.in-Some.ensures.within, c.in_ok-d.ensures.within, c.loop-c.invariant.within);
  goes = λ start. block_opens start c.loop-c.outer c.in-Some.c c.in_ok-d.d (chars c.loop-c.rest.now) (chars c.in-Some.more.now) (chars c.in_ok-d.behind.now)
      c.in-Some.ensures.some c.in_ok-d.ensures.some (sym c.opens.ensures ∙ c.if-opens.true) ∙ c.loop-c.invariant.goes start;
}

pub returns-then-outer-eq0-clause-some : goal.returns-then-outer-eq0-clause-some
returns-then-outer-eq0-clause-some c = λ start.
    sym (c.loop-c.invariant.goes start) ∙ block_closes_last start c.loop-c.outer c.in-Some.c c.in_ok-d.d (chars c.loop-c.rest.now) (chars c.in-Some.more.now) (chars c.in_ok-d.behind.now)
    c.in-Some.ensures.some c.in_ok-d.ensures.some (sym c.opens.ensures ∙ c.if-opens.false) (sym c.closes.ensures ∙ c.if-closes.true) c.if-outer-eq0.true

pub loop-c-preserved-then-closes : goal.loop-c-preserved-then-closes
loop-c-preserved-then-closes c = record {
  utf8 = c.in_ok-d.ensures.utf8;
  within = omega (arith, c.in-Some.ensures.within, c.in_ok-d.ensures.within, c.loop-c.invariant.within);
  goes = λ start. block_closes start c.loop-c.outer c.in-Some.c c.in_ok-d.d (chars c.loop-c.rest.now) (chars c.in-Some.more.now) (chars c.in_ok-d.behind.now)
      c.in-Some.ensures.some c.in_ok-d.ensures.some (sym c.opens.ensures ∙ c.if-opens.false) (sym c.closes.ensures ∙ c.if-closes.true) c.if-outer-eq0.false ∙ c.loop-c.invariant.goes start;
}

pub loop-c-preserved : goal.loop-c-preserved
loop-c-preserved c = record {
  utf8 = c.in-Some.ensures.utf8;
  within = omega (arith, c.in-Some.ensures.within, c.loop-c.invariant.within);
  goes = λ start. block_goes start c.loop-c.outer c.in-Some.c c.in_ok-d.d (chars c.loop-c.rest.now) (chars c.in-Some.more.now) (chars c.in_ok-d.behind.now)
      c.in-Some.ensures.some c.in_ok-d.ensures.some (sym c.opens.ensures ∙ c.if-opens.false) (sym c.closes.ensures ∙ c.if-closes.false) ∙ c.loop-c.invariant.goes start;
}

pub returns-clause-none : goal.returns-clause-none
returns-clause-none c = λ start. sym (c.loop-c.invariant.goes start) ∙ ap (behind_gap (block start c.loop-c.outer)) c.in_default.ensures.none ∙ block_none start c.loop-c.outer
