use Rattle.std.proofs.Common.{◌+◌, sym, ap, ◌∙◌, arith}
use Rattle.std.specs.Prelude.{nat_le, max}
use Rattle.scheme_model.specs.Trees.{list, Trees, Tail}
use Rattle.scheme_model.specs.Matching.{behind}
use Rattle.scheme_model.specs.Measures.{trees_depth, tail_depth}
use Rattle.scheme_model.specs.Ident.{Ident as Identifier}
use Rattle.syntax_tree.proofs.Looking.{part_standing, part_there, split_one, behind_past, end_standing}
use Rattle.rules_build.proofs.MeasureLaws.{rest_parts, fit_one, too_deep, fit_end, nothing_deep}
use Rattle.rules_build.proofs.Tails.{end_proper, end_dotted}
use Rattle.rules_build.proofs.measure.behind_fits.Goals as goal

pub look_at-requires : goal.look_at-requires
look_at-requires c = let h = c.requires.3 in (list h.parts c.requires.2 h.place, h.whole)

pub depth-requires : goal.depth-requires
depth-requires c =
    let h = c.requires.3 in
    let q = c.in-List.ensures.look (list h.parts c.requires.2 h.place) h.whole in
    part_standing c.args.work.now c.loop-k.k c.in-List.items.now _ (q.0, q.4) (omega arith)

pub returns-then-depth-left : goal.returns-then-depth-left
returns-then-depth-left c = λ region us tail h.
    let w = c.args.work.now in
    let k = c.loop-k.k in
    let n = c.args.left in
    let q = c.in-List.ensures.look (list h.parts tail h.place) h.whole in
    let s = rest_parts w region c.args.list c.args.from us tail h q.0 q.1 q.2 q.3 in
    let p = part_there w k c.in-List.items.now q.0 (record { number = 0 }) q.4 (omega arith) in
    too_deep n c.depth.result (behind k q.0) (behind (k + 1) q.0) p.part (tail_depth tail) (split_one w k q.0 _ p) (c.depth.ensures p.part p.stands) c.if-depth-left.true ∙ sym (c.loop-k.invariant q.0 tail q.4)
    ∙ sym (ap (λ (x : Trees Identifier). nat_le (max (trees_depth x) (tail_depth tail)) n) s.0)

pub loop-k-preserved : goal.loop-k-preserved
loop-k-preserved c = λ ts tail stands.
    let w = c.args.work.now in
    let k = c.loop-k.k in
    let p = part_there w k c.in-List.items.now ts (record { number = 0 }) stands (omega arith) in
    c.loop-k.invariant ts tail stands ∙ fit_one c.args.left c.depth.result (behind k ts) (behind (k + 1) ts) p.part (tail_depth tail) (split_one w k ts _ p) (c.depth.ensures p.part p.stands) (omega arith)

pub depth-requires-in-Some : goal.depth-requires-in-Some
depth-requires-in-Some c =
    let h = c.requires.3 in
    let q = c.in-List.ensures.look (list h.parts c.requires.2 h.place) h.whole in
    end_standing c.args.work.now c.in-List.end c.in-Some.tail c.in-Some.is (q.1, q.5)

pub returns-in-None : goal.returns-in-None
returns-in-None c = λ region us tail h.
    let w = c.args.work.now in
    let k = c.loop-k.k in
    let n = c.args.left in
    let q = c.in-List.ensures.look (list h.parts tail h.place) h.whole in
    let s = rest_parts w region c.args.list c.args.from us tail h q.0 q.1 q.2 q.3 in
    let gone = behind_past w k c.in-List.items.now q.0 q.4 (omega arith) in
    let e = end_proper w c.in-List.end q.1 c.in-None.is q.5 in
    nothing_deep n ∙ sym (ap (λ (x : Tail Identifier). nat_le (tail_depth x) n) (s.1 ∙ e)) ∙ sym (fit_end n (behind k q.0) tail gone) ∙ sym (c.loop-k.invariant q.0 tail q.4)
    ∙ sym (ap (λ (x : Trees Identifier). nat_le (max (trees_depth x) (tail_depth tail)) n) s.0)

pub returns-in-Some : goal.returns-in-Some
returns-in-Some c = λ region us tail h.
    let w = c.args.work.now in
    let k = c.loop-k.k in
    let n = c.args.left in
    let q = c.in-List.ensures.look (list h.parts tail h.place) h.whole in
    let s = rest_parts w region c.args.list c.args.from us tail h q.0 q.1 q.2 q.3 in
    let gone = behind_past w k c.in-List.items.now q.0 q.4 (omega arith) in
    let e = end_dotted w c.in-List.end q.1 c.in-Some.tail c.in-Some.is q.5 in
    ap (λ x. nat_le x n) (c.depth-in-Some.ensures e.0 e.3) ∙ sym (ap (λ (x : Tail Identifier). nat_le (tail_depth x) n) (s.1 ∙ e.1)) ∙ sym (fit_end n (behind k q.0) tail gone) ∙ sym (c.loop-k.invariant q.0 tail q.4)
    ∙ sym (ap (λ (x : Trees Identifier). nat_le (max (trees_depth x) (tail_depth tail)) n) s.0)

pub returns-in-Name : goal.returns-in-Name
returns-in-Name c = λ region us tail h.
    let q = c.in-Name.ensures.look (list h.parts tail h.place) h.whole in
    let e = q.2 in
    absurd cc

pub returns-in-Atom : goal.returns-in-Atom
returns-in-Atom c = λ region us tail h.
    let q = c.in-Atom.ensures.look (list h.parts tail h.place) h.whole in
    let e = q.2 in
    absurd cc

pub returns-in-Vector : goal.returns-in-Vector
returns-in-Vector c = λ region us tail h.
    let q = c.in-Vector.ensures.look (list h.parts tail h.place) h.whole in
    let e = q.2 in
    absurd cc
