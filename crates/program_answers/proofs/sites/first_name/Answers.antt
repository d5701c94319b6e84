-- The unit at hand has the first, or those behind it have.
use Rattle.std.proofs.Common.{◌<◌, length, refl, arith}
use Rattle.std.proofs.lemmas.Option.{slice_get_read}
use Rattle.program_answers.proofs.SiteLaws.{head_found, head_passed}
use Rattle.program_answers.proofs.sites.first_name.Goals as goal

pub returns-in-Some : goal.returns-in-Some
returns-in-Some c = λ rs us are.
    let hs = c.args.places.heads.now in
    let n = c.loop-head.head-index in
    let below : n < length hs = omega arith in
    head_found c.args.document _ hs n c.head-item.result c.in-Some.occ _ (slice_get_read hs (length hs) n c.head-item.result refl below c.head-item.is) (c.loop-head.invariant rs us are) (c.in-Some.ensures rs us are)

pub loop-head-preserved : goal.loop-head-preserved
loop-head-preserved c = λ rs us are.
    let hs = c.args.places.heads.now in
    let n = c.loop-head.head-index in
    let below : n < length hs = omega arith in
    head_passed c.args.document _ hs n c.head-item.result _ (slice_get_read hs (length hs) n c.head-item.result refl below c.head-item.is) (c.loop-head.invariant rs us are) (c.in_default.ensures rs us are)
