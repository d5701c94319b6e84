use Rattle.std.proofs.Common.{◌≡◌, ◌⊎◌, inl, inr, ◌+◌, ◌<◌, ◌≤◌, ℕ, List, length, slice_get, Some, arith, subst}
use Rattle.std.specs.FinMap.{entries}
use Rattle.std.proofs.lemmas.Option.{slice_get_within}
use Rattle.document_store.specs.Texts.{Document}
use Rattle.rename_planner.specs.Planning.{IsOpenText}
use Rattle.rename_planner.proofs.LoopLaws.{seen_more}
use Rattle.rename_planner.proofs.planning.see_texts.Goals as goal

pub loop-n-preserved : goal.loop-n-preserved
loop-n-preserved c = record {
  seen = seen_more (entries c.args.texts.now) c.loop-n.n c.loop-n.invariant.seen c.see_text.ensures.text;
  few = λ _. c.see_text.ensures.few;
}

pub returns : goal.returns
returns c = λ n d at.
    let within = slice_get_within (entries c.args.texts.now) n d at in
    let some : 0 < c.loop-n.n = omega arith in
    let few = c.loop-n.invariant.few some in
    c.loop-n.invariant.seen n d (omega (arith, within, few)) at
