-- Forms of which the turns come (R7RS 5.1, 5.3): each may begin there, nothing local is there, and what is imported stands.
use Rattle.std.specs.Prelude.{List}
use Rattle.scheme_model.specs.Requirements.{Known}
use Rattle.scheme_model.specs.ScopedExpansion.{ScopedState}
use Rattle.scheme_model.specs.Questions.{Around}
use Rattle.question_laws.specs.Noted.{IsClosed}
use Rattle.kept_forms.specs.KeptForms.{FormOrKept, LeftOrKept}
use Rattle.forgotten_locals.specs.Outside.{IsOutside}
use Rattle.forgotten_locals.specs.Ways.{Way, AtTurns, AllBegin, CanBegin, RestCanBegin}

-- at a first turn
pub record IsReady (v : Around) (x : FormOrKept) : Type 0 where
  pub begins : CanBegin v x
  pub outside : IsOutside v.state
  pub closed : IsClosed v.state

-- at a second turn
pub record RestIsReady (v : Around) (r : LeftOrKept) : Type 0 where
  pub begins : RestCanBegin v r
  pub outside : IsOutside v.state
  pub closed : IsClosed v.state

-- at each turn of a unit
pub record AllReady (way : Way) (known : Known) (xs : List FormOrKept) (s : ScopedState) : Type 0 where
  pub begins : AllBegin way known xs s
  pub outside : AtTurns (λ v x. IsOutside v.state) (λ v r. IsOutside v.state) way known xs s
  pub closed : AtTurns (λ v x. IsClosed v.state) (λ v r. IsClosed v.state) way known xs s
