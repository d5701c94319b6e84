-- What was kept of forms before (R7RS 4.3, 5.3), and which of it has its answers where their turns come now.
use Rattle.std.specs.Prelude.{◌≡◌, ◌⊎◌, ℕ, List, Bool, true, Option, Some, None, Ok, Err}
use Rattle.scheme_model.specs.Ident.{Ident}
use Rattle.scheme_model.specs.Trees.{Tree}
use Rattle.scheme_model.specs.Steps.{Broken}
use Rattle.scheme_model.specs.Program.{enough_turns}
use Rattle.scheme_model.specs.Questions.{Around, SameAnswer}
use Rattle.scheme_model.specs.FormsAlike.{set_aside, questions_of_pass, questions_of_left}
use Rattle.form_laws.specs.Begins.{Each}
use Rattle.question_laws.specs.Noted.{all_noted, IsClosed}
use Rattle.kept_forms.specs.KeptForms.{KeptParts, KeptForm, FormOrKept, LeftOrKept, form_of}
use Rattle.carried_forms.specs.Worked.{WorkedForm}
use Rattle.carried_laws.specs.Entries.{StandsFor}

-- what was kept of a form, and what was around it at its turns
pub record Had : Type 0 where
  pub kept : KeptForm
  pub first : Around
  pub later : Around

-- what is imported stood there
abbrev pub RestStood : Around → Option KeptParts → Type 0
RestStood u None = Unit {0}
RestStood u (Some c) = IsClosed u.state

-- it stands for what the form came to there, in a program or in none
pub record HadStands (unit : ℕ) (program : Bool) (x : ℕ × Tree Ident) (h : Had) : Type 0 where
  pub stands : StandsFor unit x h.kept h.first h.later
  pub stood_first : IsClosed h.first.state
  pub stood_later : RestStood h.later h.kept.parts
  pub program_first : h.first.state.program ≡ program
  pub program_later : h.later.state.program ≡ program

-- ---- at a turn

-- what is noted of its first part has its answers
abbrev pub HasFirst : Had → ℕ × Tree Ident → Around → Type 0
HasFirst h x v = Each (SameAnswer h.first v) (all_noted h.first (questions_of_pass h.first enough_turns x.1))

-- and of its second part
abbrev pub RestHas : (u v : Around) → Option KeptParts → Type 0
RestHas u v None = Unit {0}
RestHas u v (Some c) = Each (SameAnswer u v) (all_noted u (questions_of_left u enough_turns (Ok c.left)))

abbrev pub HasLater : Had → Around → Type 0
HasLater h v = RestHas h.later v h.kept.parts

-- ---- which forms are kept, by what forms of these numbers had

-- those alone that have their answers
abbrev pub OnlyFirst : (ℕ → Option Had) → Around → FormOrKept → Type 0
OnlyFirst had v x = (k : KeptForm) → x.kept ≡ Some k → (h : Had) → had x.form ≡ Some h → HasFirst h (form_of x) v

abbrev pub OnlyLater : (ℕ → Option Had) → Around → LeftOrKept → Type 0
OnlyLater had v r = (c : KeptParts) → r.kept ≡ Some c → (h : Had) → had r.form ≡ Some h → HasLater h v

-- all that have them
abbrev pub KeepsFirst : (ℕ → Option Had) → Around → FormOrKept → Type 0
KeepsFirst had v x = (h : Had) → had x.form ≡ Some h → HasFirst h (form_of x) v → x.kept ≡ None → ⊥

-- of the rest, where the form was kept before; nothing is expanded of a broken form
abbrev pub KeepsLater : (ℕ → Option Had) → (kept_first : ℕ → Bool) → Around → LeftOrKept → Type 0
KeepsLater had kept_first v r = kept_first r.form ≡ true → (h : Had) → had r.form ≡ Some h → HasLater h v → r.kept ≡ None → (b : Broken) × (r.left ≡ Err b)

-- a form of which something is kept is one of these
abbrev pub AreKept : (kept_first : ℕ → Bool) → List FormOrKept → Type 0
AreKept kept_first xs = Each (λ (x : FormOrKept). (x.kept ≡ None → ⊥) → kept_first x.form ≡ true) xs

-- ---- what forms of these numbers have behind their turns

-- what it stands for came there, or has its answers there
abbrev pub FirstIs : (ℕ → Option Had) → Around → FormOrKept → Type 0
FirstIs now v x = (h : Had) → now x.form ≡ Some h → (h.first ≡ v) ⊎ HasFirst h (form_of x) v

abbrev pub LaterIs : (ℕ → Option Had) → Around → LeftOrKept → Type 0
LaterIs now v r = (h : Had) → now r.form ≡ Some h → (h.later ≡ v) ⊎ HasLater h v

-- ---- a form as it stands where its turns come

abbrev pub at_turns : WorkedForm → (v u : Around) → WorkedForm
at_turns g v u = record { form = g.form; tree = g.tree; around = v; left = (set_aside v enough_turns g.tree).0.left; later = u }
