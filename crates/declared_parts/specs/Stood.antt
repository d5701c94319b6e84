-- The macros of definitions that stood.
use Rattle.std.specs.Prelude.{◌≡◌, Some}
use Rattle.scheme_model.specs.Ident.{Ident}
use Rattle.scheme_model.specs.Meaning.{Global}
use Rattle.scheme_model.specs.RulesShape.{Rules}
use Rattle.scheme_model.specs.ScopedExpansion.{macro_at}
use Rattle.scheme_model.specs.Questions.{Moment, Around, Stands}
use Rattle.scheme_model.specs.FormsAlike.{again}
use Rattle.forgotten_locals.specs.Outside.{outside}
use Rattle.declared_again.specs.Endings.{Ending, ending_in}

-- a definition that stood as a keyword's is that of a macro there
abbrev pub IsThere : Around → Moment → Ending → Type 0
IsThere w m e = (rules : Rules Ident) → ending_in w e ≡ Stands → e.rules ≡ Some rules → macro_at (outside (again w m)).macros (Global w.state.unit e.name.name) ≡ Some (record { env = e.frames; rules = rules })
