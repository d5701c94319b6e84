-- What is kept of the forms of units from one program to the next: each entry stands for what its form came to in some surroundings at
-- its two turns, and may be kept where all that was asked there has its answers. And what becomes of entries under other numbers.
use Rattle.std.specs.Prelude.{◌≡◌, ℕ, List, [], ◌∷◌, map, Option, Some, None, Ok}
use Rattle.scheme_model.specs.Ident.{Ident}
use Rattle.scheme_model.specs.Trees.{Tree}
use Rattle.scheme_model.specs.RulesShape.{option_map}
use Rattle.scheme_model.specs.Program.{enough_turns}
use Rattle.scheme_model.specs.Questions.{Around, SameAnswer}
use Rattle.scheme_model.specs.FormsAlike.{bound_moved, start, questions_of_pass, questions_of_left}
use Rattle.form_laws.specs.Begins.{Each, FormBegins, LeftBegins}
use Rattle.renumbering_laws.specs.Moving.{move_tree}
use Rattle.renumbering_laws.specs.Renumbering.{Renumbering, ident, change, result_as, part_as, left_as}
use Rattle.renumbering_laws.specs.Asked.{new_moment, new_pass}
use Rattle.renumbering_laws.specs.NewSurroundings.{HasOldNumbers, at_old}
use Rattle.kept_forms.specs.KeptForms.{KeptAside, KeptItem, KeptParts, KeptForm, FormOrKept, form_of, kept_moved}
use Rattle.kept_forms.specs.Carried.{kept_aside, kept_parts, no_counts, FormFits}
use Rattle.kept_forms.specs.KeptPrograms.{Keeping}
use Rattle.carried_forms.specs.Worked.{WorkedForm, WorkedUnit}

-- ---- entries

-- of what a form set aside: what it came to in these surroundings, in which it could begin
abbrev pub RestStands : (unit form : ℕ) → Around → Option KeptParts → Type 0
RestStands n f u None = Unit {0}
RestStands n f u (Some c) = (u.state.unit ≡ n) × (u.state.form ≡ f) × LeftBegins u c.left × (c ≡ kept_parts u enough_turns c.before c.left)

-- a form of this unit came to it: it was gone through in w, where it had counted nothing yet, and what it set aside was expanded in u
pub record StandsFor (unit : ℕ) (x : ℕ × Tree Ident) (k : KeptForm) (w u : Around) : Type 0 where
  pub unit_there : w.state.unit ≡ unit
  pub form_there : w.state.form ≡ x.0
  pub new : start w.state ≡ no_counts
  pub begun : FormBegins w x.1
  pub aside : k.aside ≡ kept_aside w enough_turns x.1
  pub rest : RestStands unit x.0 u k.parts
  pub fits : FormFits (Some k)

abbrev pub IsEntry : (unit : ℕ) → ℕ × Tree Ident → Option KeptForm → Type 0
IsEntry n x None = Unit {0}
IsEntry n x (Some k) = (w : Around) × (u : Around) × StandsFor n x k w u

-- what is kept of each unit is an entry
abbrev pub AreEntries : Keeping → Type 0
AreEntries keep = (n : ℕ) → Each (λ (x : FormOrKept). IsEntry n (form_of x) x.kept) (keep n)

-- ---- entries that may stay

abbrev pub RestAnswers : (u v : Around) → Option KeptParts → Type 0
RestAnswers u v None = Unit {0}
RestAnswers u v (Some c) = Each (SameAnswer u v) (questions_of_left u enough_turns (Ok c.left))

-- all that was asked there has its answers where the form's turns come
pub record HasAnswers (x : ℕ × Tree Ident) (k : KeptForm) (w u : Around) (g : WorkedForm) : Type 0 where
  pub pass : Each (SameAnswer w g.around) (questions_of_pass w enough_turns x.1)
  pub rest : RestAnswers u g.later k.parts

abbrev pub Stays : (unit : ℕ) → ℕ × Tree Ident → Option KeptForm → WorkedForm → Type 0
Stays n x None g = Unit {0}
Stays n x (Some k) g = (w : Around) × (u : Around) × StandsFor n x k w u × HasAnswers x k w u g

-- form by form
abbrev pub FormsStay : (unit : ℕ) → List FormOrKept → List WorkedForm → Type 0
FormsStay n [] [] = Unit {0}
FormsStay n [] (g ∷ gs) = ⊥
FormsStay n (x ∷ xs) [] = ⊥
FormsStay n (x ∷ xs) (g ∷ gs) = (form_of x ≡ (g.form, g.tree)) × Stays n (form_of x) x.kept g × FormsStay n xs gs

-- unit by unit, in the order of the work on the program
abbrev pub UnitsStay : Keeping → List WorkedUnit → Type 0
UnitsStay keep [] = Unit {0}
UnitsStay keep (w ∷ ws) = FormsStay w.number (keep w.number) w.forms × UnitsStay keep ws

-- ---- with other numbers of definitions

-- as where the unit has so many before the form
abbrev pub parts_from : ℕ → KeptParts → KeptParts
parts_from to c = record (kept_moved (bound_moved c.before to) c) { before = to }

abbrev pub kept_from : ℕ → KeptForm → KeptForm
kept_from to k = record { aside = k.aside; parts = option_map (parts_from to) k.parts }

-- ---- under other numbers

abbrev pub aside_as : Renumbering → KeptAside → KeptAside
aside_as r k = record { pass = new_pass r k.pass; moment = new_moment r k.moment; before = k.before }

abbrev pub kept_item_as : Renumbering → KeptItem → KeptItem
kept_item_as r i = record { part = result_as r (part_as r) i.part; moment = new_moment r i.moment }

abbrev pub kept_parts_as : Renumbering → KeptParts → KeptParts
kept_parts_as r k = record { left = left_as r (ident r) k.left; before = k.before; begun = new_moment r k.begun; met = new_moment r k.met; items = map (kept_item_as r) k.items }

abbrev pub kept_as : Renumbering → KeptForm → KeptForm
kept_as r k = record { aside = aside_as r k.aside; parts = option_map (kept_parts_as r) k.parts }

-- a form of this unit with what is kept of it
abbrev pub form_or_kept_as : Renumbering → (unit : ℕ) → FormOrKept → FormOrKept
form_or_kept_as r n x = record { form = r.form n x.form; tree = move_tree (change r) x.tree; kept = option_map (kept_as r) x.kept }

-- of a unit the forms have what was kept under its old number, if it has one
abbrev pub keeping_as : (r : Renumbering) → HasOldNumbers r → Keeping → Keeping
keeping_as r b keep n = at_old [] (λ m. map (form_or_kept_as r m) (keep m)) (b.unit_back n)
