use Rattle.std.proofs.Common.{◌++◌, Option, map, ap, ◌∙◌}
use Rattle.scheme_model.specs.declared.Occ.{Occ}
use Rattle.scheme_model.specs.ProgramArrows.{arrow_of}
use Rattle.program_leaves.specs.Pairs.{as_arrow}
use Rattle.arrow_index.proofs.arrows.add_meant.Goals as goal

pub returns : goal.returns
returns c = λ work leaves keywords names table m sees is.
    c.in_ok-add_arrow.ensures ∙ ap (λ (b : Option Occ). map as_arrow c.args.pairs.now.items ++ arrow_of b c.args.place) (c.binder_of-binder.ensures work leaves keywords names table m sees is)
