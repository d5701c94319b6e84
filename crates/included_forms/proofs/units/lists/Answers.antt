use Rattle.std.proofs.Common.{◌≡◌, List, length, take, map, sym, ap, ◌∙◌}
use Rattle.scheme_model.specs.Included.{Lists, in_a_row}
use Rattle.included_forms.specs.declared.given.Given.{Given}
use Rattle.included_forms.specs.Counted.{lost_of, listing_of}
use Rattle.included_forms.specs.Losses.{lost_in}
use Rattle.included_forms.specs.Steps.{form_of}
use Rattle.included_forms.proofs.ListedLaws.{steps_list, giving_list, fresh_seen, only_strings, only_forms}
use Rattle.included_forms.proofs.units.lists.Goals as goal

pub returns : goal.returns
returns c = λ limit gs l h w is.
    let n = is.0 in
    let fs = is.1 in
    let ls = is.2 in
    let parts = c.args.parts.now in
    let steps = c.args.written.now.steps.items in
    let row = steps_list limit gs (length parts) c.args.written.now l n fs ls h.as_many w is.3 in
    let first = giving_list limit gs (length parts) c.args.written.now l n fs ls c.as_slice.result.now h.as_many w is.3 c.as_slice.ensures.value in
    let second = ap (λ (xs : List Given). in_a_row limit (map (listing_of (take (length parts) gs)) xs)) c.as_slice-2.ensures.value ∙ row in
    let lose = c.in_ok-lose.ensures.loses limit gs h (fresh_seen gs c.in_ok-visits.visits.items parts c.new-found.result.items c.in_ok-visits.ensures) n fs ls second in
    let forms : map form_of c.write.new.forms.items ≡ fs = only_forms c.new-forms.result.items c.write.new.forms.items fs c.new-forms.ensures.items (c.in_ok-write.ensures limit gs h first.0 fs first.1 first.2) in
    let found = only_strings limit (map (listing_of (take (length parts) gs)) steps) n fs ls c.new-found.result.items c.lose.new.lost.items row c.new-found.ensures.items lose.found in
    let strings : map lost_of c.in_ok-lost.lost.items ≡ ls = c.in_ok-lost.ensures ∙ ap lost_in c.as_slice-3.ensures.value ∙ found in
    (n, is.3 ∙ (λ i. Lists n (sym forms i) (sym strings i)))
