use Rattle.std.proofs.Common.{◌≡◌, ◌+◌, ◌++◌, ◌∷◌, [], ℕ, List, Some, false, length, slice_get, sym, ap, ◌∙◌, subst}
use Rattle.std.proofs.lemmas.List.{length-append}
use Rattle.included_forms.specs.declared.losing.Visit.{Visit}
use Rattle.included_forms.specs.declared.steps.Way.{Way}
use Rattle.included_forms.specs.Losses.{visited_in}
use Rattle.included_forms.proofs.LosingLaws.{fresh_more}
use Rattle.included_forms.proofs.losing.no_visits.Goals as goal

pub loop-part-preserved : goal.loop-part-preserved
loop-part-preserved c =
    let visits = c.loop-part.visits.items in
    let x = c.not_visited.result in
    let grown : c.push.new.self.items ≡ visits ++ x ∷ [] = c.in_ok-push.ensures.items in
    record {
      as_many = ap (λ (vs : List Visit). length vs) grown ∙ length-append visits (x ∷ []) ∙ ap (λ n. n + 1) c.loop-part.invariant.as_many;
      none = subst (λ (vs : List Visit). (k : ℕ) (v : Visit) (w : Way) → slice_get vs k ≡ Some v → visited_in v w ≡ false) (sym grown) (fresh_more visits x c.loop-part.invariant.none c.not_visited.ensures);
    }
