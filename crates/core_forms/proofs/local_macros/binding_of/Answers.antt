use Rattle.std.proofs.Common.{ap}
use Rattle.scheme_model.specs.Trees.{Tree}
use Rattle.scheme_model.specs.Shapes.{syntax_of}
use Rattle.scheme_model.specs.Ident.{Ident as Identifier}
use Rattle.core_forms.specs.Parts.{IsMacro}
use Rattle.core_forms.specs.Steps.{binding_of}
use Rattle.core_forms.proofs.Reading.{ends_same}
use Rattle.core_forms.proofs.local_macros.binding_of.Goals as goal

pub returns-in-List-clause-read : goal.returns-in-List-clause-read
returns-in-List-clause-read c = λ t stands.
    let w = c.args.work.now in
    let l = c.in-List.ensures.look t stands in
    ends_same w (IsMacro w) (binding_of t) (syntax_of l.0 l.1) c.syntax_of.result (ap (λ (x : Tree Identifier). binding_of x) l.3) (c.syntax_of.ensures.read l.0 l.1 l.4 l.5)

pub returns-in-List-clause-named : goal.returns-in-List-clause-named
returns-in-List-clause-named c = λ region can. c.syntax_of.ensures.named region (c.in-List.ensures.named region can).0
