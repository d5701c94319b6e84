use Rattle.std.proofs.Common.{◌≡◌, ◌<◌, Some, Bool, length, slice_get, refl, ◌∙◌, subst, arith}
use Rattle.std.specs.Bool.{OnTrue}
use Rattle.std.specs.Vec.{with_item}
use Rattle.std.proofs.lemmas.Bool.Decides.{nat_tests}
use Rattle.std.proofs.lemmas.Option.{slice_get_read}
use Rattle.included_forms.specs.declared.resolving.Standing.TheVariants as standing
use Rattle.included_forms.specs.Built.{IsText}
use Rattle.included_forms.specs.Tables.{IsPlaced}
use Rattle.included_forms.proofs.BuildLaws.{table_more}
use Rattle.included_forms.proofs.tables.add.Goals as goal

pub returns : goal.returns
returns c = λ o docs h.
    let n = c.args.document in
    let texts = c.args.documents.now.texts.now in
    let text = c.index-documents-document.result in
    let low : n < length texts = grind (arith, nat_tests) in
    let there : slice_get texts n ≡ Some text = slice_get_read texts (length texts) n text refl low c.index-documents-document.is in
    let later : slice_get c.as_slice.result.now n ≡ Some standing.Later = subst (λ (b : Bool). OnTrue b (slice_get c.as_slice.result.now n ≡ Some standing.Later)) c.if-not-comes_later.false c.comes_later.ensures in
    let later_here : slice_get c.args.table.now.places.items n ≡ Some standing.Later = subst (λ xs. slice_get xs n ≡ Some standing.Later) c.as_slice.ensures.value later in
    table_more o c.args.table.now (record { parts = c.push.new.self; places = with_item c.args.table.now.places n (standing.At c.len-place.result) }) n c.len-place.result c.in_ok-part.part h
    later_here c.in_ok-push.ensures.items (c.len-place.ensures ∙ c.args.table.now.parts.ok.0) refl
    (λ t s. c.in_ok-part.ensures o t docs (subst (IsText o n) c.index-documents-document.is (docs.texts n text there (subst (IsPlaced o.usable h.members n) later_here ((h.stand t s).placed n)))) s h.members (h.stand t s))
