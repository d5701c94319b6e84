use Rattle.std.proofs.Common.{◌+◌, List, map, sym, subst, ◌∙◌, arith}
use Rattle.scheme_model.specs.Shapes.{name_of, names_of}
use Rattle.import_sets.specs.Sets.{named}
use Rattle.import_sets.specs.declared.set.SetName.{SetName}
use Rattle.datum_reader.specs.Looks.{trees_at}
use Rattle.datum_reader.specs.Forms.{place}
use Rattle.unit_sources.proofs.Chaining.{reads_err, fails_same, each_of, front_none}
use Rattle.unit_sources.proofs.TreeRows.{UpTo, up_more, up_fails, up_all, names_each}
use Rattle.unit_sources.proofs.names.names_of.Goals as goal

pub loop-datum-init : goal.loop-datum-init
loop-datum-init c =
    subst (λ (xs : List SetName). UpTo named name_of (place c.args.home) c.args.parts.now 0 xs) (sym c.new-names.ensures) (front_none (each_of name_of (trees_at (place c.args.home) c.args.parts.now)))

pub returns-in_err-name : goal.returns-in_err-name
returns-in_err-name c =
    let at = place c.args.home in
    let ds = c.args.parts.now in
    let e = c.in_err-name.field-0.0 in
    reads_err (λ xs. map named xs) c.from_residual.result e (names_of (trees_at at ds)) c.from_residual.ensures.1
    (fails_same e (each_of name_of (trees_at at ds)) (names_of (trees_at at ds)) (names_each (trees_at at ds))
    (up_fails named name_of at ds c.loop-datum.datum-index c.datum-item.result c.loop-datum.names e (omega arith) c.datum-item.is c.loop-datum.invariant c.in_err-name.ensures))

pub loop-datum-preserved : goal.loop-datum-preserved
loop-datum-preserved c =
    let at = place c.args.home in
    let ds = c.args.parts.now in
    let i = c.loop-datum.datum-index in
    subst (λ (xs : List SetName). UpTo named name_of at ds (i + 1) xs) (sym c.in_ok-push.ensures.ok)
    (up_more named name_of at ds i c.datum-item.result c.loop-datum.names c.in_ok-name.name (omega arith) c.datum-item.is c.loop-datum.invariant c.in_ok-name.ensures)

pub returns : goal.returns
returns c =
    let at = place c.args.home in
    let ds = c.args.parts.now in
    names_each (trees_at at ds) ∙ up_all named name_of at ds c.loop-datum.datum-index c.loop-datum.names (omega arith) c.loop-datum.invariant
