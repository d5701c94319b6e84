-- Each turn reads one more document, and there are no more than turns.
use Rattle.std.proofs.Common.{◌≤◌, List, [], length, arith, add-one, refl, sym, subst}
use Rattle.std.specs.FinMap.{entries}
use Rattle.read_documents.specs.Readings.{AreDocuments}
use Rattle.read_documents.specs.declared.documents.Document.{Document}
use Rattle.read_documents.proofs.DocumentLaws.{added_more, added_all, none_read}
use Rattle.read_documents.proofs.documents.read.Goals as goal

pub loop-n-init : goal.loop-n-init
loop-n-init c = record {
  front = subst (λ (cs : List Document). AreDocuments [] cs) (sym c.new-documents.ensures.items) tt;
  read = none_read c.new-documents.result.items c.new-documents.ensures.items;
  few = λ h. absurd (omega arith);
}

pub loop-n-preserved : goal.loop-n-preserved
loop-n-preserved c = record {
  front = rw add-one (added_more (entries c.args.store.now) c.loop-n.documents.items c.add_document.new.documents.items c.loop-n.n _ c.loop-n.invariant.front refl c.in_ok-add_document.ensures.adds);
  read = c.in_ok-add_document.ensures.read c.loop-n.invariant.read;
  few = λ _. c.in_ok-add_document.ensures.few;
}

pub returns : goal.returns
returns c =
    let few : length (entries c.args.store.now) ≤ c.loop-n.n = omega (arith, c.loop-n.invariant.few) in
    record { documents = added_all (entries c.args.store.now) c.loop-n.documents.items c.loop-n.n c.loop-n.invariant.front few; read = c.loop-n.invariant.read; few = omega (arith, c.loop-n.invariant.few) }
