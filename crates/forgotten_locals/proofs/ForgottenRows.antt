-- Small units that forget what is local, computed.
use Rattle.std.proofs.Common.{◌≡◌, ℕ, List, [], ◌∷◌, map, length, false, Option, Some, None, Result, Ok, Err, refl}
use Rattle.std.specs.Prelude.{codes}
use Rattle.scheme_model.specs.Ident.{Ident}
use Rattle.scheme_model.specs.Trees.{Tree}
use Rattle.scheme_model.specs.Requirements.{Known}
use Rattle.scheme_model.specs.Cores.{Parts}
use Rattle.scheme_model.specs.Steps.{Broken}
use Rattle.scheme_model.specs.Order.{Left}
use Rattle.scheme_model.specs.UnitExpansion.{Formed, unit}
use Rattle.scheme_model.specs.Substitution.{definition_count}
use Rattle.scheme_model.specs.ScopedExpansion.{ScopedState}
use Rattle.scheme_model.specs.CountedExpansion.{counted}
use Rattle.scheme_model.specs.FormsAlike.{set_aside, set_aside_asking}
use Rattle.form_laws.proofs.QuestionRows.{empty, word, form}
use Rattle.kept_forms.specs.KeptForms.{KeptForm, FormOrKept, form_of, around_form}
use Rattle.kept_forms.specs.Carried.{kept_aside, kept_parts, kept_form}
use Rattle.forgotten_locals.specs.Outside.{outside}
use Rattle.forgotten_locals.specs.Ways.{forgetting, unit_by}

abbrev nowhere : Known
nowhere n = false

abbrev plain : ℕ → Tree Ident → FormOrKept
plain n t = record { form = n; tree = t; kept = None }

abbrev forgetful : List FormOrKept → Option (List Formed) × ScopedState
forgetful xs = unit_by (forgetting 20) nowhere xs empty

abbrev mindful : List FormOrKept → Option (List Formed) × ScopedState
mindful xs = unit (counted nowhere) 20 [] (map form_of xs) empty

-- how many places of uses, definitions of bodies and macros there are
abbrev kept_in : ScopedState → List ℕ
kept_in s = length s.places ∷ length s.definitions ∷ length s.macros ∷ []

-- (define-syntax m (syntax-rules () ((_ x) x)))
abbrev macro : Tree Ident
macro =
    form (word (codes "define-syntax") ∷ word (codes "m") ∷ form (word (codes "syntax-rules") ∷ form [] ∷ form (form (word (codes "_") ∷ word (codes "x") ∷ []) ∷ word (codes "x") ∷ []) ∷ []) ∷ [])

-- (lambda (y) (define w y) (m w))
abbrev with_body : Tree Ident
with_body = form (word (codes "lambda") ∷ form (word (codes "y") ∷ []) ∷ form (word (codes "define") ∷ word (codes "w") ∷ word (codes "y") ∷ []) ∷ form (word (codes "m") ∷ word (codes "w") ∷ []) ∷ [])

-- (let-syntax ((k (syntax-rules () ((_) z)))) (k))
abbrev with_local : Tree Ident
with_local =
    form (word (codes "let-syntax")
    ∷ form (form (word (codes "k") ∷ form (word (codes "syntax-rules") ∷ form [] ∷ form (form (word (codes "_") ∷ []) ∷ word (codes "z") ∷ []) ∷ []) ∷ []) ∷ [])
    ∷ form (word (codes "k") ∷ []) ∷ [])

-- (m z)
abbrev using : Tree Ident
using = form (word (codes "m") ∷ word (codes "z") ∷ [])

abbrev forms : List FormOrKept
forms = plain 0 macro ∷ plain 1 with_body ∷ plain 2 with_local ∷ plain 3 using ∷ []

-- three uses, one definition in a body, one local macro; the unit's macro stays
mindful_keeps : kept_in (mindful forms).1 ≡ 3 ∷ 1 ∷ 2 ∷ []
mindful_keeps = refl

forgetful_keeps : kept_in (forgetful forms).1 ≡ 0 ∷ 0 ∷ 1 ∷ []
forgetful_keeps = refl

-- the uses that each form has counted, or nothing where it is broken
abbrev uses_told : Option (List Formed) → List (Option ℕ)
uses_told None = []
uses_told (Some rs) = map (λ (r : Formed). told r.result r.counted.uses) rs
  where
    told : Result Parts Broken → ℕ → Option ℕ
    told (Ok ps) n = Some n
    told (Err e) n = None

-- all forms come to something
forgetful_uses : uses_told (forgetful forms).0 ≡ Some 0 ∷ Some 1 ∷ Some 1 ∷ Some 1 ∷ []
forgetful_uses = refl

-- ---- one of them is kept

abbrev left_or : Left Ident → Result (Left Ident) Broken → Left Ident
left_or l (Ok m) = m
left_or l (Err e) = l

abbrev no_left : Left Ident
no_left = record { uses = []; items = [] }

-- the last form, which was worked on behind the macro alone, where nothing local was; its rest, where what is local was forgotten
abbrev kept_use : KeptForm
kept_use =
    let a = set_aside (around_form nowhere 0 [] empty) 20 macro in
    let w = around_form nowhere 3 a.0.notes (outside a.1) in
    let b = set_aside w 20 using in
    kept_form (kept_aside w 20 using) (Some (kept_parts (around_form nowhere 3 [] (outside b.1)) 20 (definition_count w.state.table w.state.unit) (left_or no_left (set_aside_asking w 20 using).0.left)))

abbrev with_kept : List FormOrKept
with_kept = plain 0 macro ∷ plain 1 with_body ∷ plain 2 with_local ∷ record { form = 3; tree = using; kept = Some kept_use } ∷ []

kept_uses : uses_told (forgetful with_kept).0 ≡ Some 0 ∷ Some 1 ∷ Some 1 ∷ Some 1 ∷ []
kept_uses = refl

kept_keeps : kept_in (forgetful with_kept).1 ≡ 0 ∷ 0 ∷ 1 ∷ []
kept_keeps = refl
