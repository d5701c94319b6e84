-- What is noted of an entry, and that it has its answers where the turns of the entry's form come.
use Rattle.std.specs.Prelude.{◌≡◌, ℕ, List, [], ◌∷◌, Option, Some, None, Ok}
use Rattle.scheme_model.specs.Ident.{Ident}
use Rattle.scheme_model.specs.Trees.{Tree}
use Rattle.scheme_model.specs.Program.{enough_turns}
use Rattle.scheme_model.specs.Questions.{Around, SameAnswer}
use Rattle.scheme_model.specs.FormsAlike.{questions_of_pass, questions_of_left}
use Rattle.form_laws.specs.Begins.{Each}
use Rattle.question_laws.specs.Noted.{all_noted, IsClosed}
use Rattle.kept_forms.specs.KeptForms.{KeptParts, KeptForm, FormOrKept, form_of}
use Rattle.kept_forms.specs.KeptPrograms.{Keeping}
use Rattle.carried_forms.specs.Worked.{WorkedForm, WorkedUnit}
use Rattle.carried_laws.specs.Entries.{StandsFor}

-- what is imported stands at both of its turns
pub record IsClosedForm (f : WorkedForm) : Type 0 where
  pub first : IsClosed f.around.state
  pub later : IsClosed f.later.state

abbrev pub AreClosed : WorkedUnit → Type 0
AreClosed w = Each IsClosedForm w.forms

-- what was expanded in u, where what is imported stood, has its answers in v, in a program in both or in neither
abbrev pub RestNoted : (u v : Around) → Option KeptParts → Type 0
RestNoted u v None = Unit {0}
RestNoted u v (Some c) = IsClosed u.state × (v.state.program ≡ u.state.program) × Each (SameAnswer u v) (all_noted u (questions_of_left u enough_turns (Ok c.left)))

-- what is noted of an entry has its answers where the turns of its form come
pub record HasNotedAnswers (t : Tree Ident) (k : KeptForm) (w u : Around) (g : WorkedForm) : Type 0 where
  pub stood : IsClosed w.state
  pub program : g.around.state.program ≡ w.state.program
  pub pass : Each (SameAnswer w g.around) (all_noted w (questions_of_pass w enough_turns t))
  pub rest : RestNoted u g.later k.parts

-- ---- form by form, and unit by unit in the order of the work on the program

abbrev pub IsNoted : (unit : ℕ) → ℕ × Tree Ident → Option KeptForm → WorkedForm → Type 0
IsNoted n x None g = Unit {0}
IsNoted n x (Some k) g = (w : Around) × (u : Around) × StandsFor n x k w u × HasNotedAnswers x.1 k w u g

abbrev pub FormsNoted : (unit : ℕ) → List FormOrKept → List WorkedForm → Type 0
FormsNoted n [] [] = Unit {0}
FormsNoted n [] (g ∷ gs) = ⊥
FormsNoted n (x ∷ xs) [] = ⊥
FormsNoted n (x ∷ xs) (g ∷ gs) = (form_of x ≡ (g.form, g.tree)) × IsNoted n (form_of x) x.kept g × FormsNoted n xs gs

abbrev pub UnitsNoted : Keeping → List WorkedUnit → Type 0
UnitsNoted keep [] = Unit {0}
UnitsNoted keep (w ∷ ws) = FormsNoted w.number (keep w.number) w.forms × UnitsNoted keep ws
