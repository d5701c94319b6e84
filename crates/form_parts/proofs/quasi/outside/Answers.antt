use Rattle.std.proofs.Common.{◌+◌, ◌<◌, ◌^◌, ap, subst, arith}
use Rattle.scheme_model.specs.Trees.{Tree}
use Rattle.scheme_model.specs.Measures.{tree_size}
use Rattle.scheme_model.specs.Ident.{Ident as Identifier}
use Rattle.syntax_tree.proofs.WorkLaws.{stands_once}
use Rattle.form_parts.proofs.QuasiReads.{sizes, outside_fits, hole_there, holes_past, sizes_there}
use Rattle.form_parts.proofs.quasi.outside.Goals as goal

pub size-count-requires : goal.size-count-requires
size-count-requires c = (c.requires.tree, c.requires.stands)

pub overflow_add-count : goal.overflow_add-count
overflow_add-count c =
    let q = c.requires in
    let e = c.size-count.ensures q.tree q.stands in
    let s = q.small in
    omega arith

pub loop-part-init : goal.loop-part-init
loop-part-init c = λ q.
    let e = c.size-count.ensures q.tree q.stands in
    let f = outside_fits q.mark q.tree q.pieces q.read in
    omega arith

pub size-count-requires-in-loop-part : goal.size-count-requires-in-loop-part
size-count-requires-in-loop-part c =
    let h = hole_there c.args.work.now c.loop-part.part-index c.args.parts.now c.requires.pieces.holes (record { number = 0 }) c.requires.holes c.loop-part-test.true in
    (h.tree, h.stands)

pub overflow_sub-count : goal.overflow_sub-count
overflow_sub-count c =
    let q = c.requires in
    let h = hole_there c.args.work.now c.loop-part.part-index c.args.parts.now q.pieces.holes (record { number = 0 }) q.holes c.loop-part-test.true in
    let e = c.size-count-in-loop-part.ensures h.tree h.stands in
    let i = c.loop-part.invariant q in
    let s = sizes_there c.args.work.now c.loop-part.part-index q.pieces.holes _ h in
    omega arith

pub loop-part-preserved : goal.loop-part-preserved
loop-part-preserved c = λ q.
    let h = hole_there c.args.work.now c.loop-part.part-index c.args.parts.now q.pieces.holes (record { number = 0 }) q.holes c.loop-part-test.true in
    let e = c.size-count-in-loop-part.ensures h.tree h.stands in
    let i = c.loop-part.invariant q in
    let s = sizes_there c.args.work.now c.loop-part.part-index q.pieces.holes _ h in
    omega arith

pub returns : goal.returns
returns c = λ mark t p stands holes read.
    let w = c.args.work.now in
    let small : tree_size t + 1 < 2 ^ 32 = subst (λ (x : Tree Identifier). tree_size x + 1 < 2 ^ 32) (stands_once w c.args.datum c.requires.tree t c.requires.stands stands) c.requires.small in
    let i = c.loop-part.invariant (record { mark = mark; tree = t; pieces = p; stands = stands; holes = holes; read = read; small = small }) in
    let e = ap sizes (holes_past w c.loop-part.part-index c.args.parts.now p.holes holes c.loop-part-test.false) in
    omega arith
