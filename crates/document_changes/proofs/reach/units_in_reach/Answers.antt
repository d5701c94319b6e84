-- The places are those of the program's units in reach of where the class stands.
use Rattle.std.proofs.Common.{List, map, sym, ap, ◌∙◌, subst}
use Rattle.core_tree.specs.declared.units.Unit.{Unit as CodeUnit}
use Rattle.program_answers.specs.declared.classes.ClassPart.{ClassPart}
use Rattle.program_differences.specs.Reached.{HaveImports}
use Rattle.rename_model.specs.Reach.{in_reach}
use Rattle.document_changes.proofs.reach.units_in_reach.Goals as goal

pub returns : goal.returns
returns c = λ rs have.
    let places = c.in_ok-places.ensures rs (subst (λ (us : List CodeUnit). HaveImports 0 us rs) (sym c.as_slice-2.ensures) have) in
    let stand = c.as_slice-3.ensures.value ∙ c.in_ok-occs.ensures ∙ ap (λ (ps : List ClassPart). map (λ (p : ClassPart). p.occ) ps) c.as_slice.ensures in
    c.in_ok-numbers.ensures ∙ c.as_slice-4.ensures.value ∙ places ∙ ap (in_reach rs) stand
