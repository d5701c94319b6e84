use Rattle.std.proofs.Common.{[], ◌∷◌, sym, ap, ◌∙◌}
use Rattle.syntax_tree.specs.declared.units.Origin.{Origin}
use Rattle.std.specs.Prelude.{List}
use Rattle.import_sets.specs.Given.{both}
use Rattle.import_sets.proofs.OriginLaws.{both-append}
use Rattle.import_sets.proofs.clash.both.Goals as goal

pub loop-origin-preserved : goal.loop-origin-preserved
loop-origin-preserved c =
    let p = c.in-Some.origin in
    c.in_ok-origins-2.ensures ∙ ap (λ (os : List Origin). both os (p ∷ [])) c.loop-origin.invariant ∙ sym (both-append c.in_ok-origins.origins.all c.loop-origin.yielded (p ∷ []))
