use Rattle.std.proofs.Common.{sym, subst, arith}
use Rattle.std.proofs.lemmas.Grind.{common_steps}
use Rattle.text_parts.specs.Parts.{IsReach}
use Rattle.text_parts.specs.Places.{Each}
use Rattle.text_parts.proofs.EachLaws.{each_more, each_none}
use Rattle.text_parts.proofs.reaches.reaches.Goals as goal

pub loop-document-preserved : goal.loop-document-preserved
loop-document-preserved c = (
  grind (arith, common_steps),
  λ all h. subst (Each (IsReach all)) (sym c.in_ok-push.ensures.items)
      (each_more (IsReach all) c.loop-document.reaches.items c.in_ok-reach_of.field-0 (c.loop-document.invariant.1 all h)
      (subst (λ n. IsReach all n c.in_ok-reach_of.field-0) (sym c.loop-document.invariant.0) (c.in_ok-reach_of.ensures all h))),
)
