use Rattle.std.proofs.Common.{◌+◌, [], take, arith, get_or}
use Rattle.syntax_tree.specs.declared.trees.faults.PoolFault.TheVariants as fault
use Rattle.datum_reader.proofs.Growing.{fails_more}
use Rattle.base_library.specs.declared.sketch.Sketch.{Sketch}
use Rattle.base_library.specs.Macros.{Each}
use Rattle.base_library.specs.Sketched.{IsSketched, sketch_size, sketches_size}
use Rattle.base_library.proofs.MacroLaws.{each_next, sketched_kept, small_at, size_more, size_fits, begun_more, made_on, made_begun, makes_begun}
use Rattle.base_library.proofs.macros.add_macros.Goals as goal

abbrev none : Sketch
none = record { name = record { ref_ptr = (0, 0); now = [] }; literals = record { ref_ptr = (0, 0); now = [] }; steps = record { ref_ptr = (0, 0); now = [] } }

pub add_macro-requires-clause-small : goal.add_macro-requires-clause-small
add_macro-requires-clause-small c = small_at c.args.sketches.now c.loop-sketch.sketch-index none (omega arith) c.requires.small

pub returns-in_err-made : goal.returns-in_err-made
returns-in_err-made c =
    let w = c.args.work.now in
    let l = c.loop-sketch in
    let new = c.add_macro.new.work in
    let r = c.args.region.now in
    let ss = c.args.sketches.now in
    let i = l.sketch-index in
    let e = c.in_err-made.field-0.0 in
    let part = sketch_size (get_or ss i none) in
    let done = sketches_size (take i ss) in
    let fits = size_fits ss i none (omega arith) in
    makes_begun w new r (sketches_size ss) (λ ms. Each (IsSketched new r) ms ss) c.from_residual.result e c.from_residual.ensures.1
    (begun_more w l.work new r done part (sketches_size ss) l.invariant.0 c.in_err-made.ensures.0 fits)
    (fails_more w l.work done part (sketches_size ss) e l.invariant.0.nodes fits c.in_err-made.ensures.1)

pub returns-in_err-push : goal.returns-in_err-push
returns-in_err-push c =
    let w = c.args.work.now in
    let l = c.loop-sketch in
    let new = c.add_macro.new.work in
    let r = c.args.region.now in
    let ss = c.args.sketches.now in
    let i = l.sketch-index in
    let part = sketch_size (get_or ss i none) in
    let done = sketches_size (take i ss) in
    let fits = size_fits ss i none (omega arith) in
    makes_begun w new r (sketches_size ss) (λ ms. Each (IsSketched new r) ms ss) c.from_residual-in_err-push.result fault.Memory c.from_residual-in_err-push.ensures.1
    (made_begun w new r (done + part) (sketches_size ss) (made_on w l.work new r done part (done + part) l.invariant.0 c.in_ok-made.ensures.0 (omega arith)) fits) tt

pub loop-sketch-preserved : goal.loop-sketch-preserved
loop-sketch-preserved c =
    let w = c.args.work.now in
    let l = c.loop-sketch in
    let new = c.add_macro.new.work in
    let r = c.args.region.now in
    let ss = c.args.sketches.now in
    let i = l.sketch-index in
    let one = c.in_ok-made.ensures in (
      made_on w l.work new r (sketches_size (take i ss)) (sketch_size (get_or ss i none)) (sketches_size (take (i + 1) ss)) l.invariant.0 one.0 (size_more ss i none (omega arith)),
      each_next (IsSketched new r) ss i none (omega arith) l.macros c.push.new.self c.in_ok-made.made c.in_ok-push.ensures.ok (sketched_kept l.work new r one.0.grows l.macros (take i ss) l.invariant.1) one.1,
    )
