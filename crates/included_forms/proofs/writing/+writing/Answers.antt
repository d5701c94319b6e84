use Rattle.std.proofs.Common.{◌≡◌, ◌<◌, ◌≤◌, List, length, take, map, Some, slice_get, refl, sym, ap, ◌∙◌, arith}
use Rattle.std.proofs.lemmas.Bool.Decides.{nat_tests}
use Rattle.std.proofs.lemmas.Option.{slice_get_read}
use Rattle.scheme_model.specs.Included.{Given as ModelGiven, given_at, in_a_row}
use Rattle.included_forms.specs.declared.given.Given.{Given}
use Rattle.included_forms.specs.declared.given.Written.{Written}
use Rattle.included_forms.specs.Counted.{in_way, listing_of, written_in}
use Rattle.included_forms.proofs.TableLaws.{text_far, text_before, text_behind, written_there}
use Rattle.included_forms.proofs.WritingLaws.{none_given, unchanged, without_bad, giving_row, left_first, step_lists, left_end}
use Rattle.included_forms.proofs.writing.+writing.Goals as goal

pub write-loop-step-init : goal.write-loop-step-init
write-loop-step-init t c = λ limit gs h n fs ls e. left_first limit (take c.args.below gs) c.args.steps.now c.args.forms.now.items n fs ls e

pub write-loop-step-preserved : goal.write-loop-step-preserved
write-loop-step-preserved t c = λ limit gs h n fs ls e.
    let s = step_lists limit (take c.args.below gs) c.args.steps.now c.loop-step.step-index c.step-item.result c.args.forms.now.items c.loop-step.forms.items fs (omega arith) c.step-item.is (c.loop-step.invariant limit gs h n fs ls e) in
    s.further c.write_step.new.forms.items (c.in_ok-write_step.ensures limit gs h s.tokens s.forms s.strings s.first)

pub write-returns : goal.write-returns
write-returns t c = λ limit gs h n fs ls e. left_end limit (take c.args.below gs) c.args.steps.now c.loop-step.step-index c.args.forms.now.items c.loop-step.forms.items fs (omega arith) (c.loop-step.invariant limit gs h n fs ls e)

pub write_step-returns-then-place-below : goal.write_step-returns-then-place-below
write_step-returns-then-place-below t c = λ limit gs h n fs ls e.
    let before : c.in-Text.place < c.args.below = grind (arith, nat_tests) in
    c.write_text.ensures limit gs h n fs ls
    (sym (ap (λ (g : ModelGiven). in_way g c.in-Text.way) (text_before gs c.args.below c.in-Text.place before)) ∙ sym (ap (listing_of (take c.args.below gs)) c.in-Text.is) ∙ e)

pub write_step-returns-else-place-below : goal.write_step-returns-else-place-below
write_step-returns-else-place-below t c = λ limit gs h n fs ls e.
    let behind : c.args.below ≤ c.in-Text.place = grind (arith, nat_tests) in
    unchanged c.args.forms.now.items fs
    (none_given (listing_of (take c.args.below gs) c.args.step) n fs ls (ap (listing_of (take c.args.below gs)) c.in-Text.is ∙ text_behind gs c.args.below c.in-Text.place c.in-Text.way behind) e)

pub write_text-returns-then-place-parts : goal.write_text-returns-then-place-parts
write_text-returns-then-place-parts t c = λ limit gs h n fs ls e.
    let as_many = h.as_many in
    let far : length c.args.parts.now ≤ c.args.place = grind (arith, nat_tests) in
    unchanged c.args.forms.now.items fs (none_given (in_way (given_at gs c.args.place) c.args.way) n fs ls (text_far gs c.args.place c.args.way (omega arith)) e)

pub write_text-returns : goal.write_text-returns
write_text-returns t c = λ limit gs h n fs ls e.
    let parts = c.args.parts.now in
    let part = c.index-parts-place.result in
    let place = c.args.place in
    let low : place < length parts = grind (arith, nat_tests) in
    let there : slice_get parts place ≡ Some part = slice_get_read parts (length parts) place part refl low c.index-parts-place.is in
    let w = written_in part c.args.way in
    let is = written_there limit gs parts place part c.args.way h there in
    let row = without_bad limit (map (listing_of (take place gs)) w.steps.items) w.bad n fs ls (is.listing ∙ e) in
    let giving = giving_row limit (take place gs) w.steps.items n fs ls row in
    c.write.ensures limit gs h giving.tokens fs giving.strings
    (ap (λ (xs : List Given). in_a_row limit (map (listing_of (take place gs)) xs)) (c.as_slice.ensures.value ∙ ap (λ (x : Written). x.giving.items) c.written-written.ensures ∙ is.giving) ∙ giving.row)
