use Rattle.std.proofs.Common.{◌++◌, ◌∙◌}
use Rattle.scheme_model.specs.ProgramArrows.{itself_among}
use Rattle.arrow_index.proofs.BinderLaws.{occurrence_law}
use Rattle.arrow_index.proofs.binders.binders_among.Goals as goal

pub returns : goal.returns
returns c = λ all p places are.
    occurrence_law all p c.args.pairs.now c.args.places.now c.add_itself.new.binders.items c.in_ok-occs_in_order.field-0 c.args.occ are places
    (c.in_ok-add_itself.ensures ∙ (λ j. c.in_ok-binders.ensures j ++ itself_among c.args.places.now c.args.occ)) c.in_ok-occs_in_order.ensures
