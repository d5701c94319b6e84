-- A unit that forgets what is local behind each form's turn, where a definition goes through the notes that speak of its identifier alone
-- (R7RS 5.1, 5.3). No form is kept.
use Rattle.std.specs.Prelude.{ℕ, List, [], map, None}
use Rattle.scheme_model.specs.Ident.{Ident, Written}
use Rattle.scheme_model.specs.Trees.{Tree}
use Rattle.scheme_model.specs.Order.{run}
use Rattle.scheme_model.specs.Expression.{expand}
use Rattle.scheme_model.specs.UnitExpansion.{one_form, form_parts}
use Rattle.scheme_model.specs.Program.{Prepared, forms_at_work}
use Rattle.scheme_model.specs.ScopedProgram.{forms_over}
use Rattle.unit_scopes.specs.Searched.{searched}
use Rattle.kept_forms.specs.KeptForms.{FormOrKept}
use Rattle.forgotten_locals.specs.Outside.{forgotten}
use Rattle.forgotten_locals.specs.Ways.{Way}

abbrev pub searching : ℕ → Way
searching turns = record {
  first = λ v t k. forgotten (run (searched v.known) turns [] (one_form t v.notes) v.state);
  second = λ fs v r k. forgotten (form_parts (searched v.known) (expand (searched v.known) turns) [] fs r v.state);
}

-- nothing is kept of these forms
abbrev pub none_kept : List (ℕ × Tree Ident) → List FormOrKept
none_kept ts = map (λ t. record { form = t.0; tree = t.1; kept = None }) ts

abbrev pub forms_anew : Prepared → List FormOrKept
forms_anew p = none_kept (forms_over (Written p.number) p.number 0 (forms_at_work p))
