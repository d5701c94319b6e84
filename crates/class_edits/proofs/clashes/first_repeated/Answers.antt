use Rattle.std.proofs.Common.{◌+◌, ◌<◌, Option, Some, length, IfSome, sym, ap, ◌∙◌, subst, arith, map, drop}
use Rattle.std.specs.FinMap.{entries}
use Rattle.std.specs.Option.{option_map}
use Rattle.read_documents.specs.Places.{bytes_at}
use Rattle.read_documents.specs.declared.findings.At.{At}
use Rattle.program_answers.specs.ToldAnswers.{facts_in}
use Rattle.class_edits.specs.FirstBytes.{earlier, first_of, repeated}
use Rattle.class_edits.proofs.FirstLaws.{none_left, step_again, step_over}
use Rattle.class_edits.proofs.clashes.first_repeated.Goals as goal
use Rattle.class_edits.proofs.clashes.first_repeated.Goals.{then-is_same, else-is_same}

pub loop-part-preserved : goal.loop-part-preserved
loop-part-preserved c =
    let p = c.part-item.result in
    let parts = c.args.parts.now in
    let i = c.loop-part.part-index in
    let count = length (entries c.args.texts.now) in
    let last = c.loop-part.last in
    let first = c.loop-part.first in
    elim c.if-is_same.branch [
      | then-is_same w ↦ record {
        inside = subst (λ (o : Option At). IfSome o (λ (at : At). at.document < count)) (sym w.first-is) (w.earlier.ensures.inside count (w.bytes_of.ensures.inside c.requires) c.loop-part.invariant.inside);
        exact = λ rs are.
            step_again (facts_in rs).bytes parts i p last (option_map bytes_at first) (option_map bytes_at c.if-is_same.first) (omega arith) c.part-item.is (sym c.is_same.ensures ∙ w.if-is_same.true)
            (ap (option_map bytes_at) w.first-is ∙ ap Some (w.earlier.ensures.exact ∙ ap (earlier (option_map bytes_at first)) (w.bytes_of.ensures.exact rs are)))
            ∙ c.loop-part.invariant.exact rs are;
      }
      | else-is_same w ↦ record {
        inside = subst (λ (o : Option At). IfSome o (λ (at : At). at.document < count)) (sym w.first-is) c.loop-part.invariant.inside;
        exact = λ rs are.
            ap (λ (o : Option At). first_of (option_map bytes_at o) (map (facts_in rs).bytes (repeated (Some p.occ) (drop (i + 1) parts)))) w.first-is
            ∙ step_over (facts_in rs).bytes parts i p last (option_map bytes_at first) (omega arith) c.part-item.is (sym c.is_same.ensures ∙ w.if-is_same.false) ∙ c.loop-part.invariant.exact rs are;
      }
    ]

pub returns-clause-exact : goal.returns-clause-exact
returns-clause-exact c = λ rs are.
    sym (none_left (facts_in rs).bytes c.args.parts.now c.loop-part.part-index c.loop-part.last (option_map bytes_at c.loop-part.first) (omega arith)) ∙ c.loop-part.invariant.exact rs are
