-- What a form of a unit sets aside binds definitions of the unit, and so does what that is expanded to.
use Rattle.std.proofs.Common.{◌≡◌, ℕ, List, [], ◌∷◌, Bool, true, false, cond, Option, None, Result, Ok, Err, refl}
use Rattle.scheme_model.specs.Ident.{Ident}
use Rattle.scheme_model.specs.Trees.{Tree}
use Rattle.scheme_model.specs.ExpansionFaults.{Named, Fault, KeywordRedefined, Duplicate}
use Rattle.scheme_model.specs.RulesShape.{Rules}
use Rattle.scheme_model.specs.Requirements.{Known}
use Rattle.scheme_model.specs.Order.{Item, Left, Note, Pending, Renamed}
use Rattle.scheme_model.specs.UnitExpansion.{max_depth, one_form}
use Rattle.scheme_model.specs.Expression.{expand}
use Rattle.scheme_model.specs.Program.{enough_turns}
use Rattle.scheme_model.specs.Substitution.{unchanged}
use Rattle.scheme_model.specs.ScopedExpansion.{Frames, FramedIdent, ScopedState, body_around, definition_added, is_defined}
use Rattle.core_tree.specs.Levels.{PartBinds}
use Rattle.unit_scopes.specs.Searched.{define_searched, searched}
use Rattle.unit_scopes.specs.Stepped.{turned}
use Rattle.expansion_laws.specs.Tops.{OfOk, ItemBinds, ItemsBind}
use Rattle.unit_scopes.specs.Units.{declared, expanded}
use Rattle.expansion_laws.proofs.OtherForms.{is_refused_here}
use Rattle.expansion_laws.proofs.TopRuns.{run_on}
use Rattle.expansion_laws.proofs.TopCores.{expand_on, item_on}

left_by : (s t : ScopedState) (n : Named Ident) (p : Pending Ident FramedIdent) (refused twice : Bool) → OfOk (λ (d : Renamed Ident FramedIdent). d.pending.aside ≡ p.aside) (cond {A = Result (Renamed Ident FramedIdent) (Fault Ident) × ScopedState} refused (Err (KeywordRedefined n), s) (cond twice (Err (Duplicate n), s) (Ok (unchanged p), t))).0
left_by s t n p true twice = tt
left_by s t n p false true = tt
left_by s t n p false false = refl

-- a definition leaves what was set aside
aside_left : (n : Named Ident) (r : Option (Rules Ident)) (fs : Frames) (p : Pending Ident FramedIdent) (s : ScopedState) → OfOk (λ (d : Renamed Ident FramedIdent). d.pending.aside ≡ p.aside) (define_searched (body_around fs) n r fs p s).0
aside_left n r fs p s = left_by s (definition_added (body_around fs) n r fs s) n p (is_refused_here n r fs p s) (is_defined s (body_around fs) n.name)

pub declared_binds : (known : Known) (n : ℕ) (t : Tree Ident) (notes : List (Note FramedIdent)) (s : ScopedState) → OfOk (λ (l : Left Ident). ItemsBind false l.items) (declared known n t notes s).0.left
declared_binds known n t notes s = run_on (searched known) aside_left false [] (λ u. tt) enough_turns (one_form t notes) (turned n s) tt

pub expanded_binds : (known : Known) (n : ℕ) (i : Item Ident) (s : ScopedState) → ItemBinds false i → OfOk (PartBinds false) (expanded known n i s).0
expanded_binds known n i s h =
    item_on (searched known) aside_left (λ fs ts u v. tt) (expand (searched known) enough_turns) (expand_on (searched known) aside_left (λ fs ts u v. tt) enough_turns) false max_depth [] i (turned n s) h
