-- While an item is expanded its form stays at work, and work may turn to another form at any time between.
use Rattle.std.proofs.Common.{◌≡◌, ℕ, List, [], Bool, true, false, cond, Option, Some, None, Result, Ok, Err, refl, sym, ap}
use Rattle.scheme_model.specs.Identifiers.{Number}
use Rattle.scheme_model.specs.Ident.{Ident}
use Rattle.scheme_model.specs.ExpansionFaults.{Named, Fault, KeywordRedefined, Duplicate}
use Rattle.scheme_model.specs.Requirements.{Known}
use Rattle.scheme_model.specs.RulesShape.{Rules}
use Rattle.scheme_model.specs.Order.{Item, Note, Pending, Renamed, WaitingUse}
use Rattle.scheme_model.specs.Substitution.{unchanged}
use Rattle.scheme_model.specs.UnitExpansion.{max_depth}
use Rattle.scheme_model.specs.Program.{enough_turns}
use Rattle.scheme_model.specs.ScopedExpansion.{Frames, FramedIdent, ScopedState, body_around, definition_added, is_defined}
use Rattle.syntax_tree.specs.declared.trees.Work.{Work}
use Rattle.unit_scopes.specs.Searched.{define_searched, searched}
use Rattle.unit_scopes.specs.Stepped.{turned}
use Rattle.unit_scopes.specs.Units.{UnitStands, uses_met, expanded}
use Rattle.unit_scopes.specs.declared.scope.FormAtWork as code_work
use Rattle.unit_scopes.specs.declared.scope.UnitScope.{UnitScope}
use Rattle.expansion_laws.proofs.AlikeSteps.{Likeness, all_met_after}
use Rattle.expansion_laws.proofs.AlikeSides.{item_alike}
use Rattle.expansion_laws.proofs.OtherForms.{any_macro, notes_left, is_refused_here}

module _ (form : ℕ) where
  form_added : (s : ScopedState) → s.form ≡ form → (b : Option Number) (n : Named Ident) (r : Option (Rules Ident)) (fs : Frames) → (definition_added b n r fs s).form ≡ form
  form_added s work None n r fs = work
  form_added s work (Some b) n r fs = work

  form_defined : (s t : ScopedState) → s.form ≡ form → t.form ≡ form → (n : Named Ident) (p : Pending Ident FramedIdent) (refused twice : Bool) →
      (cond {A = Result (Renamed Ident FramedIdent) (Fault Ident) × ScopedState} refused (Err (KeywordRedefined n), s) (cond twice (Err (Duplicate n), s) (Ok (unchanged p), t))).1.form ≡ form
  form_defined s t work then_ n p true twice = work
  form_defined s t work then_ n p false true = work
  form_defined s t work then_ n p false false = then_

  abbrev at_work : (known : Known) → Likeness (searched known)
  at_work known = record {
    define = λ n r fs p s. define_searched (body_around fs) n r fs p s;
    good = λ s. s.form ≡ form;
    fits = λ s fs. Unit {0};
    noted = λ s l. Unit {0};
    defines = λ fs. Unit {0};
    inside = λ s fs ts. tt;
    later = λ s t. Unit {0};
    itself = λ s. tt;
    then_ = λ s t u a b. tt;
    fits_later = λ s t le fs h. tt;
    noted_later = λ s t le l h. tt;
    placed = λ s fs h i. tt;
    spend = λ s g n. (g, tt);
    spend_means = λ s n fs i. refl;
    meet = λ s g t. (g, tt);
    meet_use = λ s g u. (g, tt);
    begin_use = λ s g fs h. (g, tt);
    take_local = λ s g. (g, tt);
    bind = λ s g fs h x ts. ((g, tt), tt);
    keep = λ s g fs h v r. (g, tt);
    enter = λ s g fs h ts. ((g, tt), tt);
    transformer = λ s g m. any_macro _;
    same = λ s g fs defines h n r p ns. refl;
    defined = λ s g fs defines h n r p.
        (form_defined s (definition_added (body_around fs) n r fs s) g (form_added s g (body_around fs) n r fs) n p (is_refused_here n r fs p s) (is_defined s (body_around fs) n.name), tt);
    left = λ s fs n r p. notes_left s (definition_added (body_around fs) n r fs s) n p (is_refused_here n r fs p s) (is_defined s (body_around fs) n.name);
  }

  pub item_form : (known : Known) (i : Item Ident) (s : ScopedState) → (expanded known form i s).1.form ≡ form
  item_form known i s =
      (item_alike (searched known) (at_work known) enough_turns max_depth [] i (turned form s) (refl, tt)).after.0

  pub met_form : (known : Known) (us : List (WaitingUse Ident)) (s : ScopedState) → (uses_met known form us s).form ≡ form
  met_form known us s = (all_met_after (searched known) (at_work known) [] us (turned form s) refl).0

-- work stays with the form that it is of
pub same_turned : (s : ScopedState) (form : ℕ) → s.form ≡ form → turned form s ≡ s
same_turned s form work = ap (λ (n : ℕ). turned n s) (sym work)

-- between steps it may turn to any form
pub unit_turned : (work : Work) (u : UnitScope) (ls : List Frames) (s : ScopedState) (n : ℕ) (notes : List (Note FramedIdent)) → UnitStands work u ls s notes → UnitStands work u ls (turned n s) notes
unit_turned work u ls s n notes h =
    let e = h.rests in
    let v = e.env in
    let m = e.macros in
    record {
      rests = record {
        unit = e.unit;
        program = e.program;
        env = record {
          count = v.count;
          scopes = v.scopes;
          given = v.given;
          noted = v.noted;
          unnoted = v.unnoted;
          inside = v.inside;
          entered = v.entered;
          defined = v.defined;
          named = v.named;
          given_named = v.given_named;
        };
        macros = record { there = m.there; idents = m.idents; symbols = m.symbols; free = m.free; known_idents = m.known_idents; known_symbols = m.known_symbols };
        root = e.root;
        own = e.own;
        begun = record { frames = e.begun.frames; bodies = e.begun.bodies; macros = e.begun.macros };
        defined = e.defined;
        known = e.known;
        count = e.count;
      };
      notes = h.notes;
    }

-- and what is at work doesn't matter to them
pub unit_apart : (work : Work) (u : UnitScope) (f : code_work.FormAtWork) (ls : List Frames) (s : ScopedState) (notes : List (Note FramedIdent)) → UnitStands work u ls s notes → UnitStands work (record u { form = f }) ls s notes
unit_apart work u f ls s notes h =
    let e = h.rests in
    record {
      rests = record { unit = e.unit; program = e.program; env = e.env; macros = e.macros; root = e.root; own = e.own; begun = e.begun; defined = e.defined; known = e.known; count = e.count };
      notes = h.notes;
    }
