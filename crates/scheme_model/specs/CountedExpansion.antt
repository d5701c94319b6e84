-- Expansion by scopes where a local is told by its count alone, as one of the form at work. It differs from `ScopedExpansion` in
-- nothing else, and comes to the same: see the law `locals_are_counted`.
use Rattle.std.specs.Prelude.{Bool, Option, Result, Ok, Err, if◌then◌else◌}
use Rattle.scheme_model.specs.Identifiers.{Number}
use Rattle.scheme_model.specs.Ident.{Ident}
use Rattle.scheme_model.specs.ExpansionFaults.{Named, Fault, KeywordRedefined, Duplicate}
use Rattle.scheme_model.specs.Meaning.{Meaning, same_meaning, of_form}
use Rattle.scheme_model.specs.Requirements.{Known}
use Rattle.scheme_model.specs.RulesShape.{Rules}
use Rattle.scheme_model.specs.Order.{Note, Pending, Renamed, Ops, is_some}
use Rattle.scheme_model.specs.Substitution.{any, is_refused, unchanged}
use Rattle.scheme_model.specs.ScopedExpansion.{Frames, FramedIdent, ScopedState, means_at, body_around, definition_added, meaning_next, is_defined, scoped}

abbrev pub means_here : ScopedState → Frames → Ident → Meaning
means_here s fs i = of_form s.unit s.form (means_at s fs i)

abbrev pub refused_here : ScopedState → Meaning → Bool → Note FramedIdent → Bool
refused_here s m new note = is_refused new (λ p. same_meaning (means_here s p.frames p.ident) m) (λ p. means_here s p.frames p.ident) note

abbrev pub define_here : Option Number → Named Ident → Option (Rules Ident) → Frames → Pending Ident FramedIdent → ScopedState → Result (Renamed Ident FramedIdent) (Fault Ident) × ScopedState
define_here b n r fs p s =
    if any (refused_here (definition_added b n r fs s) (meaning_next s b n.name) (is_some r)) p.notes then (Err (KeywordRedefined n), s)
    else if is_defined s b n.name then (Err (Duplicate n), s)
    else (Ok (unchanged p), definition_added b n r fs s)

abbrev pub counted : Known → Ops Frames Ident FramedIdent ScopedState
counted known = record (scoped known) {
  means = λ fs s i. means_here s fs i;
  define = λ n r fs p s. define_here (body_around fs) n r fs p s;
}
