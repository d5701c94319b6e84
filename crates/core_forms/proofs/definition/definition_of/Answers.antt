use Rattle.std.proofs.Common.{ap, ◌∙◌}
use Rattle.scheme_model.specs.Trees.{Tree, Trees, tree}
use Rattle.scheme_model.specs.Shapes.{definition_of, procedure_of}
use Rattle.scheme_model.specs.Ident.{Ident as Identifier, same_ident}
use Rattle.core_forms.specs.Ends.{IsDefinition}
use Rattle.core_forms.proofs.Reading.{ends_same}
use Rattle.core_forms.proofs.definition.definition_of.Goals as goal

pub returns-in-List-clause-read : goal.returns-in-List-clause-read
returns-in-List-clause-read c = λ ts tail stands ends.
    let w = c.args.work.now in
    let l = c.in-Parts.ensures.read ts stands in
    let f = c.in-List.ensures.look l.0 l.3 in
    ends_same w (IsDefinition w) (definition_of same_ident ts tail) (procedure_of same_ident (f.0, f.1) l.1 tail) c.procedure_of.result
    (ap (λ (x : Trees Identifier). definition_of same_ident x tail) l.2 ∙ ap (λ (x : Tree Identifier). definition_of same_ident (tree x l.1) tail) f.3)
    (c.procedure_of.ensures.read f.0 f.1 l.1 tail f.4 f.5 l.4 ends)

pub returns-in-List-clause-named : goal.returns-in-List-clause-named
returns-in-List-clause-named c = λ region named. c.procedure_of.ensures.named region (c.in-Parts.ensures.named region named).1
