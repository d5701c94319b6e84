use Rattle.std.proofs.Common.{◌<◌, get_or, length, sym, ap, ◌∙◌, subst, arith}
use Rattle.std.specs.FinMap.{entries}
use Rattle.scheme_model.specs.Diagnostics.{Bytes}
use Rattle.program_answers.specs.BytesKept.{bytes_seen}
use Rattle.program_answers.specs.ToldAnswers.{place_told}
use Rattle.program_answers.specs.declared.bytes.Bytes as code_bytes
use Rattle.program_answers.proofs.ListedLaws.{item_in, twice_all, twice_more}
use Rattle.program_answers.proofs.answers.places_at.Goals as goal

pub loop-bytes-init : goal.loop-bytes-init
loop-bytes-init c = c.new-places.ensures

pub place-requires : goal.place-requires
place-requires c =
    let count = length (entries c.args.asked.now.texts.now) in
    let none : code_bytes.Bytes = record { document = 0; start = 0; end = 0 } in
    let b = get_or c.args.all.now c.loop-bytes.bytes-index none in
    subst (λ (x : Bytes). x.document < count) (sym c.at.ensures) (c.requires (bytes_seen b) (item_in bytes_seen c.args.all.now c.loop-bytes.bytes-index none (omega arith)))

pub loop-bytes-preserved : goal.loop-bytes-preserved
loop-bytes-preserved c =
    let told = place_told c.args.asked.now.encoding (entries c.args.asked.now.texts.now) in
    let none : code_bytes.Bytes = record { document = 0; start = 0; end = 0 } in
    twice_more told bytes_seen c.args.all.now c.loop-bytes.bytes-index none c.loop-bytes.places c.push.new.self c.in_ok-place.field-0 (omega arith) c.loop-bytes.invariant c.in_ok-push.ensures.ok (c.in_ok-place.ensures.told ∙ ap told c.at.ensures)

pub returns : goal.returns
returns c =
    twice_all (place_told c.args.asked.now.encoding (entries c.args.asked.now.texts.now)) bytes_seen c.args.all.now c.loop-bytes.bytes-index c.loop-bytes.places (omega arith) c.loop-bytes.invariant
