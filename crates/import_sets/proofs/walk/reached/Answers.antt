use Rattle.std.proofs.Common.{◌≡◌, false, length, refl, ap, sym, ◌∙◌, arith}
use Rattle.std.proofs.lemmas.List.{length-replicate}
use Rattle.scheme_model.specs.Program.{is_in}
use Rattle.import_sets.specs.Graphs.{Marks, marks, mark_all}
use Rattle.import_sets.proofs.WalkLaws.{safe_first, walk_first, safe_next, walk_next, last_below, work_less, walk_done}
use Rattle.import_sets.proofs.walk.reached.Goals as goal

pub mark_all-requires : goal.mark_all-requires
mark_all-requires c = λ p i.
    let lt = c.requires.within c.args.start p (sym (ap (is_in p) c.row.ensures) ∙ i) in
    let size = ap length c.in_ok-marked.ensures ∙ length-replicate (length c.args.graph.now) false in
    let items = c.in_ok-marked.marked.ok.0 in
    omega arith

pub loop-place-init : goal.loop-place-init
loop-place-init c =
    let g = c.args.graph.now in
    let v : Marks = marks c.mark_all.new.marked.items c.mark_all.new.left.items in
    let same = c.in_ok-mark_all.ensures ∙ (λ j. mark_all (marks (c.in_ok-marked.ensures j) (c.new-left.ensures.items j)) (c.row.ensures j)) in
    record {
      safe = safe_first g c.requires.within c.args.start (length g) v refl same;
      walk = λ ps is. walk_first g ps c.args.start (length g) v c.requires.within is refl same;
    }

pub row-requires-in-Some : goal.row-requires-in-Some
row-requires-in-Some c = last_below c.args.graph.now c.loop-place.marked.items c.loop-place.left.items c.pop.new.self.items c.in-Some.place c.in-Some.ensures.items c.loop-place.invariant.safe

pub mark_all-requires-in-Some : goal.mark_all-requires-in-Some
mark_all-requires-in-Some c = λ p i.
    let lt = c.requires.within c.in-Some.place p (sym (ap (is_in p) c.row-in-Some.ensures) ∙ i) in
    let size = c.loop-place.invariant.safe.size in
    let items = c.loop-place.marked.ok.0 in
    omega arith

pub loop-place-smaller : goal.loop-place-smaller
loop-place-smaller c =
    let v : Marks = marks c.mark_all-in-Some.new.marked.items c.mark_all-in-Some.new.left.items in
    let same = c.in_ok-mark_all-2.ensures ∙ ap (mark_all (marks c.loop-place.marked.items c.pop.new.self.items)) c.row-in-Some.ensures in
    let less = work_less c.args.graph.now c.requires.within c.loop-place.marked.items c.loop-place.left.items c.pop.new.self.items c.in-Some.place v c.in-Some.ensures.items same c.loop-place.invariant.safe in
    let new = c.mark_all-in-Some.new.left.ok.0 in
    let old = c.loop-place.left.ok.0 in
    omega arith

pub loop-place-preserved : goal.loop-place-preserved
loop-place-preserved c =
    let g = c.args.graph.now in
    let v : Marks = marks c.mark_all-in-Some.new.marked.items c.mark_all-in-Some.new.left.items in
    let same = c.in_ok-mark_all-2.ensures ∙ ap (mark_all (marks c.loop-place.marked.items c.pop.new.self.items)) c.row-in-Some.ensures in
    record {
      safe = safe_next g c.requires.within c.loop-place.marked.items c.loop-place.left.items c.pop.new.self.items c.in-Some.place v c.in-Some.ensures.items same c.loop-place.invariant.safe;
      walk = λ ps is.
          walk_next g ps c.args.start c.requires.within is c.loop-place.marked.items c.loop-place.left.items c.pop.new.self.items c.in-Some.place v c.in-Some.ensures.items same c.loop-place.invariant.safe
          (c.loop-place.invariant.walk ps is);
    }

pub returns-clause-reached : goal.returns-clause-reached
returns-clause-reached c = λ ps is n.
    let gone : length c.loop-place.left.items ≡ 0 = let z = c.in_default.ensures.cases.0 in let items = c.loop-place.left.ok.0 in omega arith in
    walk_done ps c.args.start c.loop-place.marked.items c.loop-place.left.items gone (c.loop-place.invariant.walk ps is) n
