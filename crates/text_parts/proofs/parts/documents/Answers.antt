use Rattle.std.proofs.Common.{◌<◌, length, sym, ap, ◌∙◌, subst, arith}
use Rattle.std.proofs.lemmas.Grind.{common_steps}
use Rattle.scheme_model.specs.Includes.{naming}
use Rattle.text_parts.specs.declared.texts.TextRead.{TextRead}
use Rattle.text_parts.specs.Documents.{documents_in}
use Rattle.text_parts.specs.Parts.{IsReach, IsTextPart}
use Rattle.text_parts.specs.Places.{Each}
use Rattle.text_parts.specs.Programs.{IsProgramPlace}
use Rattle.text_parts.proofs.EachLaws.{each_more}
use Rattle.text_parts.proofs.NameLaws.{length_documents, reads_there}
use Rattle.text_parts.proofs.parts.documents.Goals as goal

pub loop-place-preserved : goal.loop-place-preserved
loop-place-preserved c =
    let i = c.loop-place.place in
    let ts = c.args.texts.now in (
      grind (arith, common_steps),
      λ uris h reached placed.
          let ds = documents_in uris ts in
          let there : i < length ds = omega (arith, length_documents uris ts) in
          let here = c.part_of.ensures ds there h (ap (λ (t : TextRead). t.reads) (sym c.index-texts-place.is) ∙ reads_there uris ts i c.index-texts-place.result (omega arith) c.index-texts-place.is) (reached i _ (omega (arith, c.requires.reaches))) (placed i _ (omega (arith, c.requires.programs))) in
          subst (Each (IsTextPart ds)) (sym c.in_ok-push.ensures.items)
          (each_more (IsTextPart ds) c.loop-place.parts.items c.part_of.result (c.loop-place.invariant.1 uris h reached placed) (subst (λ n. IsTextPart ds n c.part_of.result) (sym c.loop-place.invariant.0) here)),
    )
