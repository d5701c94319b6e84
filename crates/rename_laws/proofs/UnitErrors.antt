-- Each unit of a program has as many import sets as its forms have, so its Errors by diagnostics and by forms are one.
use Rattle.std.proofs.Common.{◌≡◌, ◌↔◌, ℕ, suc, List, [], ◌∷◌, map, length, Bool, true, false, cond, Option, Some, None, refl, sym, subst}
use Rattle.std.specs.Prelude.{◌==◌}
use Rattle.std.proofs.lemmas.Option.{same_Some}
use Rattle.scheme_model.specs.Diagnostics.{Span}
use Rattle.scheme_model.specs.Includes.{Document}
use Rattle.scheme_model.specs.IncludedUnits.{Placed}
use Rattle.scheme_model.specs.Program.{units_of, Prepared, prepare, forms_or_none, UnitResult, Program, result_at, program_of}
use Rattle.rename_model.specs.SameProgram.{set_forms, unit_errors}
use Rattle.rename_conditions.specs.Renames.{errors_of}
use Rattle.program_laws.specs.Turns.{Each}
use Rattle.program_laws.proofs.Results.{results_in_order}
use Rattle.rename_laws.proofs.ErrorLaws.{as_many, unit_errors_one}

abbrev HasSets : Prepared → Type 0
HasSets p = length p.specs ≡ length (set_forms p.number 0 p.forms)

all_prepared : (all : List Placed) (n : ℕ) (us : List Placed) → Each HasSets (prepare all n us)
all_prepared all n [] = tt
all_prepared all n (u ∷ us) = (as_many n 0 (forms_or_none u.source.forms), all_prepared all (suc n) us)

among : (rs : List UnitResult) → Each HasSets (map (λ (r : UnitResult). r.unit) rs) → (n : ℕ) (r : UnitResult) → result_at rs n ≡ Some r → HasSets r.unit
among [] h n r e = none r e
  where
    none : {P : Type 0} (r : UnitResult) → None ≡ Some r → P
    none r e = absurd cc
among (x ∷ rs) h n r e = go (among rs h.1 n r) (x.unit.number == n) e
  where
    go : (result_at rs n ≡ Some r → HasSets r.unit) → (b : Bool) → cond b (Some x) (result_at rs n) ≡ Some r → HasSets r.unit
    go more true k = subst (λ (q : UnitResult). HasSets q.unit) (same_Some x r k) h.0
    go more false k = more k

in_program : (ds : List Document) (n : ℕ) (r : UnitResult) → result_at (program_of ds).units n ≡ Some r → HasSets r.unit
in_program ds = among (program_of ds).units (subst (λ (ps : List Prepared). Each HasSets ps) (sym (results_in_order ds)) (all_prepared (units_of ds) 0 (units_of ds)))

one : (spans : List (List Span)) (p : Program) (o : Option UnitResult) → ((r : UnitResult) → o ≡ Some r → HasSets r.unit) → errors_of spans p o ≡ [] ↔ unit_errors o ≡ []
one spans p None h = (λ e. refl, λ e. refl)
one spans p (Some r) h = unit_errors_one spans p r (h r refl)

pub errors_are_one : (spans : List (List Span)) (ds : List Document) (n : ℕ) → errors_of spans (program_of ds) (result_at (program_of ds).units n) ≡ [] ↔ unit_errors (result_at (program_of ds).units n) ≡ []
errors_are_one spans ds n = one spans (program_of ds) (result_at (program_of ds).units n) (in_program ds n)
