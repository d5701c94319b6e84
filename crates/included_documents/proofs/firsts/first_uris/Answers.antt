use Rattle.std.proofs.Common.{ap, ◌∙◌, arith}
use Rattle.std.specs.BTreeMap.{get_by_text}
use Rattle.std.specs.Option.{option_or}
use Rattle.std.specs.Str.{bytes_eq}
use Rattle.included_documents.specs.Kept.{place_if}
use Rattle.included_documents.proofs.FirstPlaces.{first_step}
use Rattle.included_documents.proofs.firsts.first_uris.Goals as goal

pub loop-place-preserved : goal.loop-place-preserved
loop-place-preserved c = λ s.
    let old = get_by_text c.loop-place.firsts s in
    first_step (bytes_eq s) c.args.documents.now c.loop-place.place c.index-documents-place.result old (get_by_text c.note.new.firsts s) (omega arith) c.index-documents-place.is
    (c.loop-place.invariant s) (c.in_ok-note.ensures s ∙ ap (λ t. option_or old (place_if (bytes_eq s t) c.loop-place.place)) c.as_str.ensures)
