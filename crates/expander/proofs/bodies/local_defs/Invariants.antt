use Rattle.std.proofs.Common.{List}
use Rattle.scheme_model.specs.Identifiers.{Number}
use Rattle.scheme_model.specs.ExpansionFaults.{Named}
use Rattle.scheme_model.specs.Ident.{Ident as Identifier}
use Rattle.scheme_model.specs.Requirements.{Known}
use Rattle.scheme_model.specs.ScopedExpansion.{Frames}
use Rattle.expander.specs.Bodies.{AreLocalMacros}
use Rattle.expander.proofs.LocalDefs.{DefsSoFar}
use Rattle.expander.proofs.bodies.local_defs.Given as goal
use Rattle.noted_steps.specs.Noting.{Noting}
use Rattle.noted_steps.specs.Standing.{Stands}

abbrev pub invariant-loop-binder : goal.invariant-loop-binder
invariant-loop-binder l =
    (known : Known) (ls : List Frames) (s : Noting) (vs : List Number) (ns : List (Named Identifier)) → Stands l.work l.units ls s → AreLocalMacros l.work s l.binders vs ns →
    DefsSoFar l.work known s vs ns l.binder-index l.defs.items
