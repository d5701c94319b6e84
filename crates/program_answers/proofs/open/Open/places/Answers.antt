-- The documents are as many as the texts, and the units stand in them.
use Rattle.std.proofs.Common.{◌≡◌, ◌<◌, length, slice_get, Some, sym, ap, ◌∙◌, subst, arith, List}
use Rattle.std.specs.FinMap.{entries}
use Rattle.document_store.specs.Texts.{Texts}
use Rattle.read_documents.specs.declared.documents.Document.{Document}
use Rattle.read_documents.specs.declared.heads.Head.{Head}
use Rattle.read_documents.specs.Places.{AreHeads, HaveTokens}
use Rattle.read_documents.specs.Readings.{AreReadAs, program_in}
use Rattle.program_answers.proofs.TextLaws.{as_many}
use Rattle.program_answers.proofs.open.Open.places.Goals as goal

pub returns-clause-documents : goal.returns-clause-documents
returns-clause-documents c =
    ap length c.as_slice.ensures.value ∙ as_many (entries c.self.inside.store) c.self.inside.documents.items c.self.invariant.documents ∙ ap (λ (t : Texts). length (entries t)) c.self.view_is

pub returns-clause-places : goal.returns-clause-places
returns-clause-places c = λ n h at.
    let there : slice_get c.self.inside.heads.items n ≡ Some h = ap (λ (hs : List Head). slice_get hs n) (sym c.as_slice-2.ensures.value) ∙ at in
    let below : h.document < length c.self.inside.documents.items = c.self.invariant.heads n h there in
    omega (arith, below, ap length c.as_slice.ensures.value)

pub returns-clause-exact : goal.returns-clause-exact
returns-clause-exact c = λ rs are.
    let us = (program_in rs).units in
    let u = c.self.invariant.units rs (subst (λ (t : Texts). AreReadAs (entries t) rs) (sym c.self.view_is) are) in
    record {
      heads = subst (λ (hs : List Head). AreHeads rs 0 hs us) (sym c.as_slice-2.ensures.value) u.heads;
      spans = subst (λ (cs : List Document). HaveTokens cs rs) (sym c.as_slice.ensures.value) u.tokens;
    }
