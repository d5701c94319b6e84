-- There is a list for each document.
use Rattle.std.proofs.Common.{◌≡◌, ◌<◌, ◌+◌, length, refl, arith, add-one}
use Rattle.std.proofs.lemmas.Option.{slice_get_read}
use Rattle.program_findings.proofs.StopsLaws.{none_told, more_told, all_told}
use Rattle.program_findings.proofs.diagnosing.tell_unread.Goals as goal

pub loop-place-init : goal.loop-place-init
loop-place-init c = record { count = c.requires; told = none_told c.args.documents.now c.args.findings.now.items }

pub loop-place-preserved : goal.loop-place-preserved
loop-place-preserved c = record {
  count = c.loop-place.invariant.count;
  told =
      let cs = c.args.documents.now in
      let n = c.loop-place.place in
      let ms = c.loop-place.findings.items in
      let below : n < length cs = omega arith in
      let doc = c.index-documents-place.result in
      let m = c.index_mut.result.now in
      more_told cs c.args.findings.now.items ms n (n + 1) doc m c.tell_stop.new.findings (add-one n)
      (slice_get_read cs (length cs) n doc refl below c.index-documents-place.is) c.loop-place.invariant.told (slice_get_read ms (length ms) n m refl (omega (arith, c.loop-place.invariant.count, c.loop-place.findings.ok.0)) c.index_mut.ensures.value) c.in_ok-tell_stop.ensures;
}

pub returns : goal.returns
returns c = all_told c.args.documents.now c.args.findings.now.items c.loop-place.findings.items c.loop-place.place (omega (arith, c.loop-place.invariant.count, c.loop-place.findings.ok.0)) c.loop-place.invariant.told
