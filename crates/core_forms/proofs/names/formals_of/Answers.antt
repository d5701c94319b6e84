use Rattle.std.proofs.Common.{ap, subst}
use Rattle.scheme_model.specs.Trees.{Tree, name}
use Rattle.scheme_model.specs.Shapes.{formals_of}
use Rattle.scheme_model.specs.Ident.{Ident as Identifier}
use Rattle.syntax_tree.specs.Works.{StandsFor}
use Rattle.core_forms.specs.Parts.{IsFormals}
use Rattle.core_forms.proofs.Reading.{ends_same}
use Rattle.core_forms.proofs.names.formals_of.Goals as goal

pub returns-in-Name : goal.returns-in-Name
returns-in-Name c = λ t stands.
    let w = c.args.work.now in
    let l = c.in-Name.ensures.look t stands in
    ends_same w (IsFormals w) (formals_of t) (formals_of (name l.0 l.1)) c.rest_alone.result (ap (λ (x : Tree Identifier). formals_of x) l.2)
    (c.rest_alone.ensures l.0 l.1 (subst (StandsFor w c.args.tree) l.2 stands))
