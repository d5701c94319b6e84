use Rattle.std.proofs.Common.{◌||◌, not, Bool, sym, ap, ◌∙◌}
use Rattle.scheme_model.specs.ProgramArrows.{is_live_at}
use Rattle.arrow_index.proofs.arrows.is_static.Goals as goal

pub returns-else-leaf : goal.returns-else-leaf
returns-else-leaf c = λ work ls ks ms table sees.
    ap not (c.is_live.ensures work ls ks ms table sees) ∙ ap (λ (b : Bool). b || not (is_live_at ls ks ms c.args.leaf.now.target.occ)) (sym c.if-leaf.false)
