use Rattle.std.proofs.Common.{◌+◌, List, map, sym, subst, ◌∙◌, arith}
use Rattle.scheme_model.specs.Entries.{pair_of, pairs_of}
use Rattle.import_sets.specs.Sets.{paired}
use Rattle.import_sets.specs.declared.set.NamePair.{NamePair}
use Rattle.datum_reader.specs.Looks.{trees_at}
use Rattle.datum_reader.specs.Forms.{place}
use Rattle.unit_sources.proofs.Chaining.{reads_err, fails_same, each_of, front_none}
use Rattle.unit_sources.proofs.TreeRows.{UpTo, up_more, up_fails, up_all, pairs_each}
use Rattle.unit_sources.proofs.names.pairs_of.Goals as goal

pub loop-datum-init : goal.loop-datum-init
loop-datum-init c =
    subst (λ (xs : List NamePair). UpTo paired pair_of (place c.args.home) c.args.parts.now 0 xs) (sym c.new-pairs.ensures) (front_none (each_of pair_of (trees_at (place c.args.home) c.args.parts.now)))

pub returns-in_err-pair : goal.returns-in_err-pair
returns-in_err-pair c =
    let at = place c.args.home in
    let ds = c.args.parts.now in
    let e = c.in_err-pair.field-0.0 in
    reads_err (λ xs. map paired xs) c.from_residual.result e (pairs_of (trees_at at ds)) c.from_residual.ensures.1
    (fails_same e (each_of pair_of (trees_at at ds)) (pairs_of (trees_at at ds)) (pairs_each (trees_at at ds))
    (up_fails paired pair_of at ds c.loop-datum.datum-index c.datum-item.result c.loop-datum.pairs e (omega arith) c.datum-item.is c.loop-datum.invariant c.in_err-pair.ensures))

pub loop-datum-preserved : goal.loop-datum-preserved
loop-datum-preserved c =
    let at = place c.args.home in
    let ds = c.args.parts.now in
    let i = c.loop-datum.datum-index in
    subst (λ (xs : List NamePair). UpTo paired pair_of at ds (i + 1) xs) (sym c.in_ok-push.ensures.ok)
    (up_more paired pair_of at ds i c.datum-item.result c.loop-datum.pairs c.in_ok-pair.pair (omega arith) c.datum-item.is c.loop-datum.invariant c.in_ok-pair.ensures)

pub returns : goal.returns
returns c =
    let at = place c.args.home in
    let ds = c.args.parts.now in
    pairs_each (trees_at at ds) ∙ up_all paired pair_of at ds c.loop-datum.datum-index c.loop-datum.pairs (omega arith) c.loop-datum.invariant
