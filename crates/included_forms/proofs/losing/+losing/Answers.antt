use Rattle.std.proofs.Common.{◌≡◌, ◌++◌, [], ◌<◌, ◌≤◌, ◌-◌, List, length, take, map, Some, slice_get, refl, sym, ap, ◌∙◌, arith}
use Rattle.std.proofs.lemmas.Bool.Decides.{nat_tests}
use Rattle.std.proofs.lemmas.Option.{slice_get_read}
use Rattle.scheme_model.specs.Included.{Given as ModelGiven, given_at, in_a_row}
use Rattle.included_forms.specs.declared.given.Given.{Given}
use Rattle.included_forms.specs.declared.given.Written.{Written}
use Rattle.included_forms.specs.Planned.{bad_one}
use Rattle.included_forms.specs.Counted.{in_way, listing_of, written_in}
use Rattle.included_forms.proofs.TableLaws.{text_far, text_before, text_behind, written_there}
use Rattle.included_forms.proofs.WritingLaws.{without_bad}
use Rattle.included_forms.proofs.LosingLaws.{loses_nothing, no_strings, loses_one, loses_seen, loses_marked, loses_first, loses_more, loses_end}
use Rattle.included_forms.proofs.losing.+losing.Goals as goal

pub lose-loop-k-init : goal.lose-loop-k-init
lose-loop-k-init t c = record {
  as_many = c.requires;
  loses = λ limit gs h s n fs ls e. loses_first limit gs c.args.below c.args.steps.now (length c.args.steps.now) c.args.visits.now.items c.args.lost.now.items (omega arith) s;
}

pub lose-loop-k-preserved : goal.lose-loop-k-preserved
lose-loop-k-preserved t c = record {
  as_many = c.lose_step.ensures.as_many;
  loses = λ limit gs h s n fs ls e.
      let k = c.loop-k.invariant.loses limit gs h s n fs ls e in
      let there = c.loop-k-test.true in
      let inside = c.loop-k.auto.k in
      loses_more limit gs c.args.below c.args.steps.now (c.loop-k.k - 1) c.loop-k.k c.index-steps-k.result c.args.lost.now.items c.loop-k.visits.items c.lose_step.new.visits.items c.loop-k.lost.items c.lose_step.new.lost.items
      (omega arith) (omega arith) c.index-steps-k.is n fs ls e k (c.in_ok-lose_step.ensures.loses limit gs h k.seen);
}

pub lose-returns-clause-loses : goal.lose-returns-clause-loses
lose-returns-clause-loses t c = λ limit gs h s n fs ls e.
    let done = c.loop-k-test.false in
    loses_end limit gs c.args.below c.args.steps.now c.loop-k.k c.args.lost.now.items c.loop-k.visits.items c.loop-k.lost.items n fs ls (omega arith) e (c.loop-k.invariant.loses limit gs h s n fs ls e)

pub lose_step-returns-in-Form-clause-loses : goal.lose_step-returns-in-Form-clause-loses
lose_step-returns-in-Form-clause-loses t c = λ limit gs h s n fs ls e.
    let l = listing_of (take c.args.below gs) c.args.step in
    loses_nothing gs c.args.visits.now.items c.args.lost.now.items ls s (no_strings l _ n _ fs ls (ap (listing_of (take c.args.below gs)) c.in-Form.is) e)

pub lose_step-returns-then-place-below-clause-loses : goal.lose_step-returns-then-place-below-clause-loses
lose_step-returns-then-place-below-clause-loses t c = λ limit gs h s n fs ls e.
    let before : c.in-Text.place < c.args.below = grind (arith, nat_tests) in
    let same = ap (listing_of (take c.args.below gs)) c.in-Text.is ∙ ap (λ (g : ModelGiven). in_way g c.in-Text.way) (text_before gs c.args.below c.in-Text.place before) in
    c.lose_text.ensures.loses limit gs h s n fs ls (sym same ∙ e)

pub lose_step-returns-else-place-below-clause-loses : goal.lose_step-returns-else-place-below-clause-loses
lose_step-returns-else-place-below-clause-loses t c = λ limit gs h s n fs ls e.
    let behind : c.args.below ≤ c.in-Text.place = grind (arith, nat_tests) in
    let l = listing_of (take c.args.below gs) c.args.step in
    loses_nothing gs c.args.visits.now.items c.args.lost.now.items ls s
    (no_strings l 0 n [] fs ls (ap (listing_of (take c.args.below gs)) c.in-Text.is ∙ text_behind gs c.args.below c.in-Text.place c.in-Text.way behind) e)

pub lose_step-returns-in_ok-push-in-Lost-clause-loses : goal.lose_step-returns-in_ok-push-in-Lost-clause-loses
lose_step-returns-in_ok-push-in-Lost-clause-loses t c = λ limit gs h s n fs ls e.
    loses_one gs c.args.visits.now.items c.args.lost.now.items c.push.new.self.items c.in-Lost.string (listing_of (take c.args.below gs) c.args.step) n fs ls s c.in_ok-push-in-Lost.ensures.items
    (ap (listing_of (take c.args.below gs)) c.in-Lost.is) e

pub lose_text-returns-then-place-parts-clause-loses : goal.lose_text-returns-then-place-parts-clause-loses
lose_text-returns-then-place-parts-clause-loses t c = λ limit gs h s n fs ls e.
    let as_many = h.as_many in
    let far : length c.args.parts.now ≤ c.args.place = grind (arith, nat_tests) in
    let l = in_way (given_at gs c.args.place) c.args.way in
    loses_nothing gs c.args.visits.now.items c.args.lost.now.items ls s (no_strings l 0 n [] fs ls (text_far gs c.args.place c.args.way (omega arith)) e)

pub lose_text-returns-then-has-clause-loses : goal.lose_text-returns-then-has-clause-loses
lose_text-returns-then-has-clause-loses t c = λ limit gs h s n fs ls e.
    let visits = c.args.visits.now.items in
    let as_many : length visits ≡ length c.args.parts.now = c.requires in
    let near : c.args.place < length c.args.parts.now = grind (arith, nat_tests) in
    let low : c.args.place < length visits = omega arith in
    let there : slice_get visits c.args.place ≡ Some c.index.result.now = slice_get_read visits (length visits) c.args.place c.index.result.now refl low c.index.ensures in
    loses_seen gs visits c.args.lost.now.items c.args.place c.index.result.now c.args.way n fs ls s there (sym c.has.ensures ∙ c.if-has.true) e

pub lose_text-returns-clause-loses : goal.lose_text-returns-clause-loses
lose_text-returns-clause-loses t c = λ limit gs h s n fs ls e.
    let parts = c.args.parts.now in
    let part = c.index-parts-place.result in
    let place = c.args.place in
    let visits = c.lose.new.visits.items in
    let as_many : length visits ≡ length parts = c.lose.ensures.as_many in
    let near : place < length parts = grind (arith, nat_tests) in
    let low : place < length visits = omega arith in
    let part_there : slice_get parts place ≡ Some part = slice_get_read parts (length parts) place part refl near c.index-parts-place.is in
    let visit_there : slice_get visits place ≡ Some c.index-visit.result.now = slice_get_read visits (length visits) place c.index-visit.result.now refl low c.index-visit.ensures in
    let w = written_in part c.args.way in
    let steps = c.as_slice.ensures.value ∙ ap (λ (x : Written). x.steps.items) c.written-written.ensures in
    let row = ap (λ (xs : List Given). in_a_row limit (map (listing_of (take place gs)) xs ++ bad_one w.bad)) steps ∙ (written_there limit gs parts place part c.args.way h part_there).listing in
    let lists = without_bad limit (map (listing_of (take place gs)) c.as_slice.result.now) w.bad n fs ls (row ∙ e) in
    loses_marked gs c.args.lost.now.items visits c.lose.new.lost.items place c.index-visit.result.now c.with.result c.args.way n fs ls (c.in_ok-lose.ensures.loses limit gs h s n fs ls lists) e visit_there low c.with.ensures
