use Rattle.std.proofs.Common.{sym, ap, ◌∙◌, subst, arith}
use Rattle.std.specs.BTreeMap.{get_by_text}
use Rattle.std.specs.Option.{option_or}
use Rattle.included_documents.specs.Meant.{is_at}
use Rattle.included_documents.specs.Kept.{place_if, IsRead}
use Rattle.included_documents.proofs.FirstPlaces.{first_step, url_at}
use Rattle.included_documents.proofs.firsts.first_urls.Goals as goal

pub loop-place-preserved : goal.loop-place-preserved
loop-place-preserved c = λ s.
    let old = get_by_text c.loop-place.firsts s in
    let document = c.index-documents-place.result in
    let read : IsRead document = subst IsRead (sym c.index-documents-place.is) (c.requires c.loop-place.place document (omega arith)) in
    first_step (is_at s) c.args.documents.now c.loop-place.place document old (get_by_text c.note_url.new.firsts s) (omega arith) c.index-documents-place.is
    (c.loop-place.invariant s) (c.in_ok-note_url.ensures s ∙ ap (λ b. option_or old (place_if b c.loop-place.place)) (url_at s document read))
