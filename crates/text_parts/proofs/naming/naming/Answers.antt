use Rattle.std.proofs.Common.{◌≡◌, ℕ, List, length, sym, ap, ◌∙◌, subst, arith}
use Rattle.std.proofs.lemmas.Grind.{common_steps}
use Rattle.std.specs.Prelude.{Bool}
use Rattle.scheme_model.specs.Includes.{named_by, naming}
use Rattle.text_parts.specs.Documents.{documents_in}
use Rattle.text_parts.specs.Marks.{Marks}
use Rattle.text_parts.specs.Places.{Each}
use Rattle.text_parts.proofs.EachLaws.{each_more}
use Rattle.text_parts.proofs.NameLaws.{length_documents, length_naming, named_there}
use Rattle.text_parts.proofs.naming.naming.Goals as goal

pub loop-document-preserved : goal.loop-document-preserved
loop-document-preserved c =
    let uris = c.args.uris.now in
    let ts = c.args.texts.now in
    let i = c.loop-document.document in
    let t = c.index-texts-document.result in
    let all = naming (documents_in uris ts) in
    let row = c.in_ok-names_in.field-0 in
    let size : length ts ≡ length all = sym (length_naming (documents_in uris ts) ∙ length_documents uris ts) in
    let here : Marks row (length all) (named_by all i) = subst (λ (n : ℕ). Marks row n (named_by all i)) size
    (subst (λ (ns : List ℕ). Marks row (length ts) ns) (named_there uris ts i t (omega arith) c.index-texts-document.is) c.in_ok-names_in.ensures) in (
      grind (arith, common_steps),
      subst (Each (λ n (r : List Bool). Marks r (length all) (named_by all n))) (sym c.in_ok-push.ensures.items)
          (each_more (λ n (r : List Bool). Marks r (length all) (named_by all n)) c.loop-document.rows.items row c.loop-document.invariant.1 (subst (λ n. Marks row (length all) (named_by all n)) (sym c.loop-document.invariant.0) here)),
    )

pub returns : goal.returns
returns c =
    let size = length_naming (documents_in c.args.uris.now c.args.texts.now) ∙ length_documents c.args.uris.now c.args.texts.now in
    record { size = omega (arith, size, c.loop-document.invariant.0); each = c.loop-document.invariant.1 }
