-- When what a form set aside is expanded, the macros that aren't local stay the same: definitions are made in bodies alone.
use Rattle.std.proofs.Common.{◌≡◌, ℕ, List, [], ◌∷◌, Bool, true, false, cond, Option, Some, None, Result, Ok, Err, refl}
use Rattle.scheme_model.specs.Identifiers.{Number}
use Rattle.scheme_model.specs.Ident.{Ident}
use Rattle.scheme_model.specs.ExpansionFaults.{Named, Fault, KeywordRedefined, Duplicate}
use Rattle.scheme_model.specs.Requirements.{Known}
use Rattle.scheme_model.specs.RulesShape.{Rules}
use Rattle.scheme_model.specs.Order.{Item, Pending, Renamed, WaitingUse}
use Rattle.scheme_model.specs.Substitution.{unchanged}
use Rattle.scheme_model.specs.UnitExpansion.{max_depth}
use Rattle.scheme_model.specs.Program.{enough_turns}
use Rattle.scheme_model.specs.ScopedExpansion.{Frames, FramedIdent, ScopedMacro, ScopedState, body_around, definition_added, is_defined, next_number}
use Rattle.forgotten_locals.specs.Outside.{macros_outside}
use Rattle.unit_scopes.specs.Searched.{define_searched, searched}
use Rattle.unit_scopes.specs.Stepped.{turned}
use Rattle.unit_scopes.specs.Units.{uses_met, expanded}
use Rattle.expansion_laws.proofs.AlikeSteps.{Likeness}
use Rattle.expansion_laws.proofs.AlikeSides.{item_alike}
use Rattle.expansion_laws.proofs.OtherForms.{any_macro, notes_left, is_refused_here}

met_all : (known : Known) (us : List (WaitingUse Ident)) (s : ScopedState) → (uses_met known s.form us s).macros ≡ s.macros
met_all known [] s = refl
met_all known (u ∷ us) s = met_all known us _

pub met_macros : (known : Known) (form : ℕ) (us : List (WaitingUse Ident)) (s : ScopedState) → (uses_met known form us s).macros ≡ s.macros
met_macros known form us s = met_all known us (turned form s)

module _ (ks : List ScopedMacro) where
  added : (s : ScopedState) → macros_outside s.macros ≡ ks → (o : Option Number) (b : Number) → o ≡ Some b → (n : Named Ident) (r : Option (Rules Ident)) (fs : Frames) → macros_outside (definition_added o n r fs s).macros ≡ ks
  added s g None b e n r fs = absurd cc
  added s g (Some c) b e n None fs = g
  added s g (Some c) b e n (Some r) fs = g

  defined : (s t : ScopedState) → macros_outside s.macros ≡ ks → macros_outside t.macros ≡ ks → (n : Named Ident) (p : Pending Ident FramedIdent) (refused twice : Bool) →
      macros_outside (cond {A = Result (Renamed Ident FramedIdent) (Fault Ident) × ScopedState} refused (Err (KeywordRedefined n), s) (cond twice (Err (Duplicate n), s) (Ok (unchanged p), t))).1.macros ≡ ks
  defined s t now then_ n p true twice = now
  defined s t now then_ n p false true = now
  defined s t now then_ n p false false = then_

  abbrev outside_stays : (known : Known) → Likeness (searched known)
  outside_stays known = record {
    define = λ n r fs p s. define_searched (body_around fs) n r fs p s;
    good = λ s. macros_outside s.macros ≡ ks;
    fits = λ s fs. Unit {0};
    noted = λ s l. Unit {0};
    defines = λ fs. (b : Number) × (body_around fs ≡ Some b);
    inside = λ s fs ts. (next_number s s.bodies, refl);
    later = λ s t. Unit {0};
    itself = λ s. tt;
    then_ = λ s t u a b. tt;
    fits_later = λ s t le fs h. tt;
    noted_later = λ s t le l h. tt;
    placed = λ s fs h i. tt;
    spend = λ s g n. (g, tt);
    spend_means = λ s n fs i. refl;
    meet = λ s g t. (g, tt);
    meet_use = λ s g u. (g, tt);
    begin_use = λ s g fs h. (g, tt);
    take_local = λ s g. (g, tt);
    bind = λ s g fs h x ts. ((g, tt), tt);
    keep = λ s g fs h v r. (g, tt);
    enter = λ s g fs h ts. ((g, tt), tt);
    transformer = λ s g m. any_macro _;
    same = λ s g fs defines h n r p ns. refl;
    defined = λ s g fs defines h n r p.
        (defined s (definition_added (body_around fs) n r fs s) g (added s g (body_around fs) defines.0 defines.1 n r fs) n p (is_refused_here n r fs p s) (is_defined s (body_around fs) n.name), tt);
    left = λ s fs n r p. notes_left s (definition_added (body_around fs) n r fs s) n p (is_refused_here n r fs p s) (is_defined s (body_around fs) n.name);
  }

pub item_outside : (known : Known) (form : ℕ) (i : Item Ident) (s : ScopedState) → macros_outside (expanded known form i s).1.macros ≡ macros_outside s.macros
item_outside known form i s =
    (item_alike (searched known) (outside_stays (macros_outside s.macros) known) enough_turns max_depth [] i (turned form s) (refl, tt)).after.0
