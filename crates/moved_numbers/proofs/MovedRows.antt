-- Two units that change places, with the forms of the first in another order, and the way back, computed.
use Rattle.std.proofs.Common.{◌≡◌, ℕ, zero, suc, List, [], ◌∷◌, true, Option, Some, None, refl, sym}
use Rattle.std.specs.Global.{Box}
use Rattle.scheme_model.specs.declared.Occ.{Occ}
use Rattle.syntax_tree.specs.declared.meaning.Meaning.TheVariants as meanings
use Rattle.form_notes.specs.declared.noting.Noting.{Noting}
use Rattle.form_notes.specs.declared.notes.Note.{Note}
use Rattle.form_notes.specs.declared.notes.Question.TheVariants as questions
use Rattle.core_tree.specs.declared.cores.Binder.{Binder}
use Rattle.core_tree.specs.declared.cores.Target.{Target}
use Rattle.core_tree.specs.declared.cores.Core.TheVariants as cores
use Rattle.core_tree.specs.declared.cores.CorePart.TheVariants as parts
use Rattle.core_tree.specs.declared.units.UnitForm.{UnitForm}
use Rattle.renumbering_laws.specs.Renumbering.{Renumbering, place}
use Rattle.moves.specs.Numbers.{moved}
use Rattle.moved_numbers.specs.Leaves.{binder_as, target_as}
use Rattle.moved_numbers.specs.Values.{core_as, part_as, form_as}
use Rattle.moved_numbers.proofs.BackLaws.{form_back}
use Rattle.moved_numbers.proofs.ValueLaws.{box_is, ref_is, set_is, define_is}

-- unit 0 goes to 1, and its forms 0, 1 and 2 to 2, 0 and 1; unit 1 goes to 0
abbrev forms : ℕ → List ℕ
forms zero = 2 ∷ 0 ∷ 1 ∷ []
forms (suc u) = []

abbrev there : Renumbering
there = record { unit = moved (1 ∷ 0 ∷ []); form = λ u f. moved (forms u) f; definition = λ u n. n }

abbrev forms_back : ℕ → List ℕ
forms_back zero = []
forms_back (suc zero) = 1 ∷ 2 ∷ 0 ∷ []
forms_back (suc (suc u)) = []

abbrev back : Renumbering
back = record { unit = moved (1 ∷ 0 ∷ []); form = λ u f. moved (forms_back u) f; definition = λ u n. n }

abbrev at : ℕ → ℕ → Option Occ
at u f = Some (record { unit = u; form = f; token = 5 })

-- numbers behind the end of a table stay, and nothing is at no place
places : (place there (at 0 1) ≡ at 1 0) × (place there (at 0 9) ≡ at 1 9) × (place there (at 1 1) ≡ at 0 1) × (place there (at 7 1) ≡ at 7 1) × (place there None ≡ None)
places = (refl, refl, refl, refl, refl)

places_back : (place back (at 1 0) ≡ at 0 1) × (place back (at 1 9) ≡ at 0 9) × (place back (at 0 1) ≡ at 1 1) × (place back (at 7 1) ≡ at 7 1)
places_back = (refl, refl, refl, refl)

-- the second leads back from the first, whatever the number
units_back : (u : ℕ) → back.unit (there.unit u) ≡ u
units_back zero = refl
units_back (suc zero) = refl
units_back (suc (suc u)) = refl

forms_come_back : (u f : ℕ) → back.form (there.unit u) (there.form u f) ≡ f
forms_come_back zero zero = refl
forms_come_back zero (suc zero) = refl
forms_come_back zero (suc (suc zero)) = refl
forms_come_back zero (suc (suc (suc f))) = refl
forms_come_back (suc zero) f = refl
forms_come_back (suc (suc u)) f = refl

any_form_comes_back : (f : UnitForm) → form_as back (form_as there f) ≡ f
any_form_comes_back = form_back there back (record { unit = units_back; form = forms_come_back })

-- ---- binders and uses

abbrev bound : ℕ → ℕ → Binder
bound u f = record { number = 4; ident = 3; occ = at u f }

abbrev used : ℕ → ℕ → ℕ → Target
used v u f = record { meaning = meanings.Global v 3; ident = 3; occ = at u f }

binders : binder_as there (bound 0 0) ≡ bound 1 2
binders = refl

-- what an identifier of unit 1 means is one of unit 0, wherever it is used; what is local, standard or free stays
uses : (target_as there (used 1 0 0) ≡ used 0 1 2) × (target_as there (record { meaning = meanings.Local 8; ident = 3; occ = None }) ≡ record { meaning = meanings.Local 8; ident = 3; occ = None })
uses = (refl, refl)

-- ---- cores

-- (set! x x) and (define x x)
assignment : (b : Box cores.the_data) → b.value ≡ cores.Ref (used 1 0 2) →
    core_as there (cores.Set (used 1 0 1) b) ≡ cores.Set (used 0 1 0) (record { ptr = b.ptr; alloc = b.alloc; value = cores.Ref (used 0 1 1) })
assignment b is =
    sym (set_is there (cores.Set (used 1 0 1) b) (used 1 0 1) (used 0 1 0) b (record { ptr = b.ptr; alloc = b.alloc; value = cores.Ref (used 0 1 1) }) refl refl (box_is there b (record { ptr = b.ptr; alloc = b.alloc; value = cores.Ref (used 0 1 1) }) refl refl (ref_is there b.value (used 1 0 2) (used 0 1 1) is refl)))

definition : part_as there (parts.Define (bound 0 0) (cores.Ref (used 0 0 2))) ≡ parts.Define (bound 1 2) (cores.Ref (used 1 1 1))
definition = sym (define_is there (parts.Define (bound 0 0) (cores.Ref (used 0 0 2))) (bound 0 0) (bound 1 2) (cores.Ref (used 0 0 2)) (cores.Ref (used 1 1 1)) refl refl (ref_is there (cores.Ref (used 0 0 2)) (used 0 0 2) (used 1 1 1) refl refl))

-- ---- a form with a fault, which met a definition and a keyword and asked what an identifier means

abbrev asked : ℕ → Note
asked v = record { behind = 1; question = questions.Lookup 3 (meanings.Global v 3) true }

abbrev broken : Noting → ℕ → ℕ → ℕ → UnitForm
broken n v u f = record {
  items = [];
  trace = record { definitions = bound u f ∷ []; keywords = used v u f ∷ []; uses = []; notes = record n { notes = asked v ∷ [] } };
  fault = Some (record { code = 12; name = Some 3; occ = at u f; here = at u f; text = None });
}

forth : (n : Noting) → form_as there (broken n 1 0 1) ≡ broken n 0 1 0
forth n = refl

and_back : (n : Noting) → form_as back (broken n 0 1 0) ≡ broken n 1 0 1
and_back n = refl
