use Rattle.std.proofs.Common.{◌∙◌, sym, ap, arith}
use Rattle.std.specs.Str.{chars}
use Rattle.scheme_tokens.specs.Mirror.Gaps.{between, line, behind_gap}
use Rattle.scheme_tokens.proofs.GapLaws.{line_none, between_none, line_ends, line_goes}
use Rattle.scheme_tokens.proofs.gap.skip_line.Goals as goal

pub returns-then-is_line_end-clause-rest : goal.returns-then-is_line_end-clause-rest
returns-then-is_line_end-clause-rest c =
    sym c.loop-c.invariant.goes ∙ line_ends c.in-Some.c (chars c.loop-c.rest.now) (chars c.in-Some.more.now) c.in-Some.ensures.some (sym c.is_line_end.ensures ∙ c.if-is_line_end.true)

pub loop-c-preserved : goal.loop-c-preserved
loop-c-preserved c = record {
  utf8 = c.in-Some.ensures.utf8;
  within = omega (arith, c.in-Some.ensures.within, c.loop-c.invariant.within);
  goes = line_goes c.in-Some.c (chars c.loop-c.rest.now) (chars c.in-Some.more.now) c.in-Some.ensures.some (sym c.is_line_end.ensures ∙ c.if-is_line_end.false) ∙ c.loop-c.invariant.goes;
}

pub returns-clause-rest : goal.returns-clause-rest
returns-clause-rest c =
    sym c.loop-c.invariant.goes ∙ ap (behind_gap line) c.in_default.ensures.none ∙ line_none ∙ sym between_none ∙ ap (behind_gap between) (sym c.in_default.ensures.none)
