use Rattle.std.proofs.Common.{◌≡◌, ◌+◌, arith, sym, ap, ◌∙◌}
use Rattle.std.specs.Prelude.{None, not}
use Rattle.scheme_model.specs.Trees.{list, Trees, Tail}
use Rattle.scheme_model.specs.Matching.{behind}
use Rattle.scheme_model.specs.Measures.{trees_size, tail_size}
use Rattle.scheme_model.specs.Ident.{Ident as Identifier}
use Rattle.syntax_tree.proofs.Looking.{part_standing, part_there, split_one, behind_past, end_standing}
use Rattle.rules_build.specs.Drafts.{spent}
use Rattle.rules_build.proofs.DraftLaws.{spent_none, spent_nothing, none_is}
use Rattle.rules_build.proofs.MeasureLaws.{rest_parts, take_one}
use Rattle.rules_build.proofs.Tails.{end_proper, end_dotted}
use Rattle.rules_build.proofs.measure.take_behind.Goals as goal

pub look_at-requires : goal.look_at-requires
look_at-requires c = let h = c.requires.3 in (list h.parts c.requires.2 h.place, h.whole)

pub size-requires : goal.size-requires
size-requires c =
    let h = c.requires.3 in
    let q = c.in-List.ensures.look (list h.parts c.requires.2 h.place) h.whole in
    part_standing c.args.work.now c.loop-k.k c.in-List.items.now _ (q.0, q.4) (omega arith)

pub loop-k-preserved : goal.loop-k-preserved
loop-k-preserved c = λ ts tail stands.
    let w = c.args.work.now in
    let k = c.loop-k.k in
    let p = part_there w k c.in-List.items.now ts (record { number = 0 }) stands (omega arith) in
    c.loop-k.invariant ts tail stands ∙ take_one c.loop-k.room c.spend.result c.size.result (behind k ts) (behind (k + 1) ts) p.part (tail_size tail) (split_one w k ts _ p) (c.size.ensures p.part p.stands) c.spend.ensures

pub size-requires-in-Some : goal.size-requires-in-Some
size-requires-in-Some c =
    let h = c.requires.3 in
    let q = c.in-List.ensures.look (list h.parts c.requires.2 h.place) h.whole in
    end_standing c.args.work.now c.in-List.end c.in-Some.tail c.in-Some.is (q.1, q.5)

pub returns-then-is_none : goal.returns-then-is_none
returns-then-is_none c = λ region us tail h.
    let w = c.args.work.now in
    let q = c.in-List.ensures.look (list h.parts tail h.place) h.whole in
    let s = rest_parts w region c.args.list c.args.from us tail h q.0 q.1 q.2 q.3 in
    let none : c.loop-k.room ≡ None = none_is c.loop-k.room (c.is_none.ensures ∙ ap not c.if-is_none.true) in
    spent_none c.loop-k.room (trees_size (behind c.loop-k.k q.0) + tail_size tail) none ∙ sym (c.loop-k.invariant q.0 tail q.4) ∙ sym (ap (λ (x : Trees Identifier). spent c.args.room.now (trees_size x + tail_size tail)) s.0)

pub returns-in-None : goal.returns-in-None
returns-in-None c = λ region us tail h.
    let w = c.args.work.now in
    let k = c.loop-k.k in
    let q = c.in-List.ensures.look (list h.parts tail h.place) h.whole in
    let s = rest_parts w region c.args.list c.args.from us tail h q.0 q.1 q.2 q.3 in
    let a = ap (λ (x : Trees Identifier). trees_size x) (behind_past w k c.in-List.items.now q.0 q.4 (omega arith)) in
    let b = ap (λ (x : Tail Identifier). tail_size x) (s.1 ∙ end_proper w c.in-List.end q.1 c.in-None.is q.5) in
    let z : 0 ≡ trees_size (behind k q.0) + tail_size tail = omega (arith, a, b) in
    spent_nothing c.loop-k.room ∙ ap (spent c.loop-k.room) z ∙ sym (c.loop-k.invariant q.0 tail q.4) ∙ sym (ap (λ (x : Trees Identifier). spent c.args.room.now (trees_size x + tail_size tail)) s.0)

pub returns-in-Some : goal.returns-in-Some
returns-in-Some c = λ region us tail h.
    let w = c.args.work.now in
    let k = c.loop-k.k in
    let q = c.in-List.ensures.look (list h.parts tail h.place) h.whole in
    let s = rest_parts w region c.args.list c.args.from us tail h q.0 q.1 q.2 q.3 in
    let e = end_dotted w c.in-List.end q.1 c.in-Some.tail c.in-Some.is q.5 in
    let a = ap (λ (x : Trees Identifier). trees_size x) (behind_past w k c.in-List.items.now q.0 q.4 (omega arith)) in
    let b = ap (λ (x : Tail Identifier). tail_size x) (s.1 ∙ e.1) in
    let d = c.size-in-Some.ensures e.0 e.3 in
    let z : c.size-in-Some.result ≡ trees_size (behind k q.0) + tail_size tail = omega (arith, a, b, d) in
    c.spend-in-Some.ensures ∙ ap (spent c.loop-k.room) z ∙ sym (c.loop-k.invariant q.0 tail q.4) ∙ sym (ap (λ (x : Trees Identifier). spent c.args.room.now (trees_size x + tail_size tail)) s.0)

pub returns-in-Name : goal.returns-in-Name
returns-in-Name c = λ region us tail h.
    let q = c.in-Name.ensures.look (list h.parts tail h.place) h.whole in
    let e = q.2 in
    absurd cc

pub returns-in-Atom : goal.returns-in-Atom
returns-in-Atom c = λ region us tail h.
    let q = c.in-Atom.ensures.look (list h.parts tail h.place) h.whole in
    let e = q.2 in
    absurd cc

pub returns-in-Vector : goal.returns-in-Vector
returns-in-Vector c = λ region us tail h.
    let q = c.in-Vector.ensures.look (list h.parts tail h.place) h.whole in
    let e = q.2 in
    absurd cc
