-- What is kept of a form stands for what came of it in some surroundings (R7RS 5.1, 5.3).
use Rattle.std.specs.Prelude.{◌≡◌, ℕ, ◌+◌, ◌^◌, ◌≤◌, List, [], ◌∷◌, length, map, reverse, false, Option, Some, None, Result, Ok, Err}
use Rattle.scheme_model.specs.Ident.{Ident}
use Rattle.scheme_model.specs.Trees.{Tree}
use Rattle.scheme_model.specs.Steps.{Broken}
use Rattle.scheme_model.specs.Order.{Counted, Left, Transformer, max_nodes, max_uses}
use Rattle.scheme_model.specs.Program.{enough_turns}
use Rattle.scheme_model.specs.Questions.{Around, Moment}
use Rattle.scheme_model.specs.ScopedExpansion.{Frames}
use Rattle.scheme_model.specs.Substitution.{Table, Defined}
use Rattle.scheme_model.specs.FormsAlike.{bound_moved, left_with, or_fault, questions_of_pass, questions_of_left}
use Rattle.question_laws.specs.Noted.{all_noted, IsClosed}
use Rattle.expansion_laws.specs.Tops.{ItemsBind}
use Rattle.kept_forms.specs.KeptForms.{KeptAside, KeptForm, KeptParts}
use Rattle.kept_turns.specs.Turns.{last_of, result_in}
use Rattle.carried_laws.specs.CarriedEntries.{IsKeptWhole}
use Rattle.carried_laws.specs.Entries as carried
use Rattle.syntax_tree.specs.Names.{Names}
use Rattle.syntax_tree.specs.Works.{StandsFor, LiesIn}
use Rattle.syntax_tree.specs.declared.trees.Work.{Work}
use Rattle.syntax_tree.specs.declared.trees.table.Region.{Region}
use Rattle.core_tree.specs.Names.{AllMatch, IsTarget, IsUse}
use Rattle.core_tree.specs.Traces.{IsFault}
use Rattle.core_tree.specs.Units.{IsResult}
use Rattle.core_tree.specs.declared.traces.FormFault as code_fault
use Rattle.core_tree.specs.declared.units.UnitForm as code_form
use Rattle.form_notes.specs.Noted.{Noted}
use Rattle.form_notes.specs.Standing.{HaveNotes}
use Rattle.form_parts.specs.declared.items.Left as code_left
use Rattle.unit_scopes.specs.State.{IsNumbered, most_locals}
use Rattle.unit_scopes.specs.Units.{HasSpace, LeftFor}
use Rattle.unit_scopes.specs.declared.scope.Budget.{Budget}
use Rattle.note_laws.specs.Told.{bare_noted, told, since_of}
use Rattle.declared_parts.specs.Parts.{IsPart}
use Rattle.form_cache.specs.declared.entries.Declared.{Declared}
use Rattle.form_cache.specs.declared.entries.Entry.{Entry}

abbrev pub Editions : Type 0
Editions = ℕ → Option (Transformer Frames Ident)

-- ---- what the form had counted and met

abbrev pub counted_at : Moment → Counted
counted_at m = record { locals = m.locals; uses = m.uses; nodes = m.nodes; keywords = m.keywords; met = m.met }

pub record CountsAt (b : Budget) (m : Moment) : Type 0 where
  pub uses : b.uses ≡ m.uses
  pub nodes : b.nodes ≡ m.nodes
  pub locals : b.locals ≡ m.locals

pub record DeclaredAt (names : Names) (unit form : ℕ) (d : Declared) (m : Moment) : Type 0 where
  pub counts : CountsAt d.counts m
  pub keywords : AllMatch (IsTarget names unit form) d.keywords (reverse m.keywords)
  pub met : AllMatch (IsUse names unit form) d.uses (reverse m.met)
  pub few_uses : d.counts.uses ≤ max_uses
  pub few_nodes : d.counts.nodes ≤ max_nodes
  pub few_locals : d.counts.locals ≤ most_locals d.counts.nodes

-- ---- its first part

-- what it set aside, or nothing where it broke
abbrev pub IsLeft : Work → Region → (unit form : ℕ) → Option code_left.Left → Result (Left Ident) Broken → Type 0
IsLeft work region unit form None (Ok l) = ⊥
IsLeft work region unit form None (Err b) = Unit {0}
IsLeft work region unit form (Some x) (Ok l) = LeftFor work region unit form x l × ItemsBind false l.items
IsLeft work region unit form (Some x) (Err b) = ⊥

-- what it set aside has space for its locals
abbrev pub HasSpaceLeft : Budget → Option code_left.Left → Type 0
HasSpaceLeft b None = Unit {0}
HasSpaceLeft b (Some x) = HasSpace (2 ^ 43) b

-- it was gone through in w, where its unit had k.before definitions before it; by now they are as many as the entry has
pub record AsideFor (work : Work) (region : Region) (e : Editions) (unit form : ℕ) (t : Tree Ident) (x : Entry) (k : KeptAside) (w : Around) : Type 0 where
  pub tree : StandsFor work x.tree t
  pub lies : LiesIn work region x.tree
  pub left : IsLeft work region unit form x.left (or_fault (left_with (bound_moved k.before x.before)) k.pass.left)
  pub declared : DeclaredAt work.symbols unit form x.declared k.moment
  pub space : HasSpaceLeft x.declared.counts x.left
  pub noted : List Noted
  pub part : IsPart work (since_of w e) x.part k.pass.notes noted
  pub told : map bare_noted noted ≡ map (told w) (all_noted w (questions_of_pass w enough_turns t))

-- ---- its second part

-- it was expanded in u; where nothing was set aside there is none
abbrev pub RestFor : Work → Region → Editions → (unit form : ℕ) → Entry → code_form.UnitForm → Option KeptParts → Around → Type 0
RestFor work region e unit form x f None u = (f.items ≡ []) × (x.left ≡ None) × (x.counts ≡ x.declared.counts)
RestFor work region e unit form x f (Some c) u =
    (ms : List Noted) × (c.before ≡ x.before) × IsLeft work region unit form x.left (Ok c.left) × IsResult work unit form f (result_in c.items) (counted_at (last_of c.met c.items))
    × CountsAt x.counts (last_of c.met c.items) × HaveNotes work.symbols (since_of u e) f.trace.notes.notes ms × (map bare_noted ms ≡ map (told u) (all_noted u (questions_of_left u enough_turns (Ok c.left))))

abbrev pub RestClosed : Around → Option KeptParts → Type 0
RestClosed u None = Unit {0}
RestClosed u (Some c) = IsClosed u.state

-- ---- what its unit has of it

-- its definitions, latest first, with the numbers that the unit gives them
abbrev pub numbered_from : ℕ → Table → List (ℕ × Defined)
numbered_from before [] = []
numbered_from before (d ∷ ds) = (before + length ds, d) ∷ numbered_from before ds

-- the fault of its first part; that of the second is told by what it came to
abbrev pub FaultFor : Names → Option code_fault.FormFault → Result (Left Ident) Broken → Type 0
FaultFor names o (Ok l) = Unit {0}
FaultFor names o (Err b) = (f : code_fault.FormFault) × (o ≡ Some f) × IsFault names f b

-- ---- the whole

-- what is kept of a form of this unit stands for k, which came of it in w and in u, and where e tells editions
pub record IsEntry (work : Work) (region : Region) (e : Editions) (unit : ℕ) (n : ℕ × Tree Ident) (x : Entry) (f : code_form.UnitForm) (k : KeptForm) (w u : Around) : Type 0 where
  pub stands : carried.StandsFor unit n k w u
  pub closed : IsClosed w.state × RestClosed u k.parts
  pub aside : AsideFor work region e unit n.0 n.1 x k.aside w
  pub rest : RestFor work region e unit n.0 x f k.parts u
  pub definitions : AllMatch (IsNumbered work.symbols n.0) (reverse f.trace.definitions) (numbered_from x.before k.aside.moment.table)
  pub fault : FaultFor work.symbols f.fault k.aside.pass.left
  pub whole : IsKeptWhole (Some k)
