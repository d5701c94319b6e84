-- Each turn copies one more document, and there are no more than turns.
use Rattle.std.proofs.Common.{◌≤◌, sym, ap, ◌∙◌, length, arith, add-one, refl, nat_cmp}
use Rattle.std.specs.FinMap.{entries, len-entries, len-empty, empty}
use Rattle.std.specs.Cmp.Lexicographic.{slice_cmp}
use Rattle.std.proofs.lemmas.List.{nil_from_length}
use Rattle.document_store.specs.Texts.{Document, Texts}
use Rattle.read_documents.proofs.Copies.{copied_more, copied_all}
use Rattle.document_changes.proofs.texts.copy_of.Goals as goal

pub loop-n-init : goal.loop-n-init
loop-n-init c = record {
  front = ap (λ (m : Texts). entries m) c.new-copy.ensures ∙ nil_from_length (entries (empty {X = Document} {R = slice_cmp nat_cmp})) (sym (len-entries (empty {X = Document} {R = slice_cmp nat_cmp})) ∙ len-empty (slice_cmp nat_cmp) Document);
  few = λ h. absurd (omega arith);
}

pub loop-n-preserved : goal.loop-n-preserved
loop-n-preserved c = record {
  front = rw add-one (copied_more c.args.store.now c.loop-n.copy c.copy_document.new.copy c.loop-n.n _ c.loop-n.invariant.front refl c.in_ok-copy_document.ensures.copies);
  few = λ _. c.in_ok-copy_document.ensures.few;
}

pub returns : goal.returns
returns c =
    let few : length (entries c.args.store.now) ≤ c.loop-n.n = omega (arith, c.loop-n.invariant.few) in
    copied_all c.args.store.now c.loop-n.copy c.loop-n.n c.loop-n.invariant.front few
