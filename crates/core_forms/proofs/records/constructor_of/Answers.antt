use Rattle.std.proofs.Common.{[], ap, ◌∙◌, subst, sym, List, Result, Ok}
use Rattle.scheme_model.specs.Trees.{Tree}
use Rattle.scheme_model.specs.ExpansionFaults.{Named, Fault, ◌>>◌}
use Rattle.scheme_model.specs.Shapes.{name_of, constructor_of}
use Rattle.scheme_model.specs.Ident.{Ident as Identifier}
use Rattle.core_forms.specs.declared.shape.NamePart.{NamePart}
use Rattle.core_forms.specs.Parts.{AllMatch, IsName}
use Rattle.core_forms.proofs.records.constructor_of.Goals as goal

abbrev alone : Named Identifier → Result (Named Identifier × List (Named Identifier)) (Fault Identifier)
alone n = Ok (n, [])

pub returns-in_ok-name_of-in-Name : goal.returns-in_ok-name_of-in-Name
returns-in_ok-name_of-in-Name c = λ t stands.
    let w = c.args.work.now in
    let l = c.in-Name.ensures.look t stands in
    let n = c.in_ok-name_of-in-Name.ensures t stands in (
      (n.0, []),
      ap (λ (x : Tree Identifier). constructor_of x) l.2
          ∙ ap (λ (x : Tree Identifier). name_of x >> alone) (sym l.2) ∙ ap (λ (x : Result (Named Identifier) (Fault Identifier)). x >> alone) n.1,
      (n.2, subst (λ (xs : List NamePart). AllMatch (IsName w) xs []) (sym c.new.ensures.items) tt),
    )
