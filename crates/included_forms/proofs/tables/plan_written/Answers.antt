use Rattle.std.proofs.Common.{◌≡◌, ◌++◌, map, sym, ap, ◌∙◌, subst}
use Rattle.std.specs.List.{filter}
use Rattle.scheme_model.specs.Included.{in_a_row}
use Rattle.included_forms.specs.Steps.{given_by}
use Rattle.included_forms.specs.Planned.{bad_one, plan_listing}
use Rattle.included_forms.specs.Counted.{Stand, gives, tally_of, listing_of, all_given}
use Rattle.included_forms.specs.Tables.{Placed, givens}
use Rattle.included_forms.proofs.tables.plan_written.Goals as goal

pub returns : goal.returns
returns c = λ o t docs s ms k.
    let n = c.args.document in
    let gs = givens o t ms in
    let bad = c.args.plan.bad in
    let placed : Placed o.usable ms c.as_slice.result.now = subst (Placed o.usable ms) (sym c.as_slice.ensures.value) k.placed in
    let given : map (listing_of gs) c.in_ok-steps.steps.items ≡ map (given_by t n) c.as_slice-2.result.now = c.in_ok-steps.ensures o t ms s docs.meant placed in
    let listing : all_given o.limit gs c.in_ok-steps.steps.items bad ≡ plan_listing t n c.args.plan =
    (λ j. in_a_row (sym s.limit j) ((given ∙ ap (map (given_by t n)) c.as_slice-2.ensures.value) j ++ bad_one bad)) in
    let stands : Stand o.limit gs c.as_slice-3.result.now = subst (Stand o.limit gs) (sym c.as_slice-3.ensures.value) k.parts in
    let stands_here : Stand c.args.documents.now.limit gs c.as_slice-3.result.now = subst (λ limit. Stand limit gs c.as_slice-3.result.now) (sym docs.limit) stands in
    record {
      listing = listing;
      giving = c.in_ok-giving.ensures o.limit gs (subst (Stand o.limit gs) (sym c.as_slice-5.ensures.value) k.parts) ∙ ap (filter (gives gs)) c.as_slice-6.ensures.value;
      count = c.count_steps-count.ensures gs stands_here ∙ (λ j. tally_of (all_given (docs.limit j) gs (c.as_slice-4.ensures.value j) bad)) ∙ ap tally_of listing;
    }
