-- Where what was set aside is expanded only bodies define anything, so the units' definitions are what they were.
use Rattle.std.proofs.Common.{◌≡◌, ℕ, List, [], Bool, true, false, cond, Option, Some, None, Result, Ok, Err, refl, ◌∙◌}
use Rattle.scheme_model.specs.Identifiers.{Number}
use Rattle.scheme_model.specs.Ident.{Ident}
use Rattle.scheme_model.specs.ExpansionFaults.{Named, Fault, KeywordRedefined, Duplicate}
use Rattle.scheme_model.specs.Requirements.{Known}
use Rattle.scheme_model.specs.RulesShape.{Rules}
use Rattle.scheme_model.specs.Order.{Item, WaitingUse, Pending, Renamed}
use Rattle.scheme_model.specs.UnitExpansion.{max_depth}
use Rattle.scheme_model.specs.Program.{enough_turns}
use Rattle.scheme_model.specs.Substitution.{unchanged}
use Rattle.scheme_model.specs.ScopedExpansion.{Frames, FramedIdent, ScopedState, next_number, body_around, definition_added, is_defined}
use Rattle.syntax_tree.proofs.Places.{none_some}
use Rattle.unit_scopes.specs.Searched.{define_searched, searched}
use Rattle.unit_scopes.specs.Stepped.{turned}
use Rattle.unit_scopes.specs.Units.{uses_met, expanded}
use Rattle.expansion_laws.proofs.AlikeSteps.{Likeness, all_met_after}
use Rattle.expansion_laws.proofs.AlikeSides.{item_alike}
use Rattle.expansion_laws.proofs.OtherForms.{any_macro, notes_left, is_refused_here}

abbrev IsBodyPlace : Frames → Type 0
IsBodyPlace fs = (b : Number) × (body_around fs ≡ Some b)

defined_in_body : (s : ScopedState) (o : Option Number) (b : Number) → o ≡ Some b → (n : Named Ident) (r : Option (Rules Ident)) (fs : Frames) (p : Pending Ident FramedIdent) (refused twice : Bool)
    → let q = cond {A = Result (Renamed Ident FramedIdent) (Fault Ident) × ScopedState} refused (Err (KeywordRedefined n), s) (cond twice (Err (Duplicate n), s) (Ok (unchanged p), definition_added o n r fs s)) in q.1.table ≡ s.table
defined_in_body s None b is n r fs p refused twice = none_some b is
defined_in_body s (Some v) b is n r fs p true twice = refl
defined_in_body s (Some v) b is n r fs p false true = refl
defined_in_body s (Some v) b is n r fs p false false = refl

abbrev same_tables : (known : Known) → Likeness (searched known)
same_tables known = record {
  define = λ n r fs p s. define_searched (body_around fs) n r fs p s;
  good = λ s. Unit {0};
  fits = λ s fs. Unit {0};
  noted = λ s l. Unit {0};
  defines = IsBodyPlace;
  later = λ s t. t.table ≡ s.table;
  itself = λ s. refl;
  then_ = λ s t u a b. b ∙ a;
  fits_later = λ s t le fs h. tt;
  noted_later = λ s t le l h. tt;
  placed = λ s fs h i. tt;
  spend = λ s g n. (tt, refl);
  spend_means = λ s n fs i. refl;
  meet = λ s g t. (tt, refl);
  meet_use = λ s g u. (tt, refl);
  begin_use = λ s g fs h. (tt, refl);
  take_local = λ s g. (tt, refl);
  bind = λ s g fs h x ts. ((tt, refl), tt);
  keep = λ s g fs h v r. (tt, refl);
  enter = λ s g fs h ts. ((tt, refl), tt);
  inside = λ s fs ts. (next_number s s.bodies, refl);
  transformer = λ s g m. any_macro _;
  same = λ s g fs defines h n r p ns. refl;
  defined = λ s g fs defines h n r p. (tt, defined_in_body s (body_around fs) defines.0 defines.1 n r fs p (is_refused_here n r fs p s) (is_defined s (body_around fs) n.name));
  left = λ s fs n r p. notes_left s (definition_added (body_around fs) n r fs s) n p (is_refused_here n r fs p s) (is_defined s (body_around fs) n.name);
}

pub expanded_table : (known : Known) (form : ℕ) (i : Item Ident) (s : ScopedState) → (expanded known form i s).1.table ≡ s.table
expanded_table known form i s =
    (item_alike (searched known) (same_tables known) enough_turns max_depth [] i (turned form s) (tt, tt)).after.1

pub met_table : (known : Known) (form : ℕ) (us : List (WaitingUse Ident)) (s : ScopedState) → (uses_met known form us s).table ≡ s.table
met_table known form us s = (all_met_after (searched known) (same_tables known) [] us (turned form s) tt).1
