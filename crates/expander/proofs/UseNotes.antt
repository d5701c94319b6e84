-- What a macro use asks, noted: its comparisons, and the use once they were.
use Rattle.std.proofs.Common.{◌≡◌, ℕ, List, [], ◌∷◌, map, Bool, true, false, cond, Result, sym, ap, ◌∙◌, subst}
use Rattle.std.specs.Prelude.{nat_lt}
use Rattle.scheme_model.specs.Ident.{Ident as Identifier}
use Rattle.scheme_model.specs.Trees.{Trees, Tail}
use Rattle.scheme_model.specs.Meaning.{same_meaning}
use Rattle.scheme_model.specs.RulesShape.{role_of, dots_of}
use Rattle.scheme_model.specs.Matching.{compared}
use Rattle.scheme_model.specs.Requirements.{Known}
use Rattle.scheme_model.specs.Cores.{Target}
use Rattle.scheme_model.specs.Steps.{Broken}
use Rattle.scheme_model.specs.Order.{Here, Note, Compared, Instance, Transformer, comparisons, use_of, max_uses}
use Rattle.scheme_model.specs.ScopedExpansion.{Frames, FramedIdent}
use Rattle.syntax_tree.specs.Names.{AreToldApart}
use Rattle.syntax_tree.specs.declared.trees.Work.{Work}
use Rattle.syntax_tree.specs.declared.trees.table.Region.{Region}
use Rattle.core_tree.specs.Names.{AllMatch}
use Rattle.feature_requirements.specs.declared.fault.ExpandFault.{ExpandFault}
use Rattle.unit_scopes.specs.Outcomes as plain
use Rattle.unit_scopes.specs.Searched.{searched}
use Rattle.unit_scopes.specs.Used as plain_use
use Rattle.unit_scopes.specs.Used.{ComparisonFor}
use Rattle.unit_scopes.specs.declared.scope.UnitScope.{UnitScope}
use Rattle.unit_scopes.specs.declared.uses.Comparison.{Comparison}
use Rattle.unit_scopes.specs.declared.uses.Use as code_use
use Rattle.noted_steps.specs.Kept.{CanUse}
use Rattle.noted_steps.specs.Noting.{Noting, state_of, means_here, noting}
use Rattle.noted_steps.specs.Outcomes.{EndsHere}
use Rattle.noted_steps.specs.Standing.{Stands, ComparedFor, with_notes}
use Rattle.noted_steps.specs.Used.{pairs_of, compared_first}
use Rattle.noted_steps.proofs.NoteLaws.{plain_noted, plain_use}
use Rattle.noted_steps.proofs.UseLaws.{use_is, use_ends}

-- notes alone were changed, twice
pub noted_again : (u w v : UnitScope) → w ≡ with_notes u w.form.trace.notes → v ≡ with_notes w v.form.trace.notes → v ≡ with_notes u v.form.trace.notes
noted_again u w v a b = b ∙ ap (λ (x : UnitScope). with_notes x v.form.trace.notes) a

-- a macro can be used as before
pub can_use_noted : (work : Work) (u v : UnitScope) (at : code_use.Use) → v ≡ with_notes u v.form.trace.notes → CanUse work u at → plain_use.CanUse work v at
can_use_noted work u v at same h =
    let p = plain_use work u at h in
    record {
      layout = p.layout;
      state = p.state;
      frames = p.frames;
      stands = plain_noted work u v p.layout p.state same p.stands;
      there = p.there;
      keyword = p.keyword;
      transformer = p.transformer;
      parts = p.parts;
      tail = p.tail;
      used = p.used;
    }

-- ---- comparisons

module _ (work : Work) (ls : List Frames) (literal_scope scope : ℕ) (s : Noting) (gs fs : Frames) where
  abbrev note : Identifier × Identifier → Note FramedIdent
  note q = Compared (record { frames = gs; ident = q.0 }) (record { frames = fs; ident = q.1 }) (same_meaning (means_here s gs q.0) (means_here s fs q.1))

  each_compared : (cs : List Comparison) (qs : List (Identifier × Identifier)) → AllMatch (ComparisonFor work ls literal_scope scope) cs (map note qs) → AllMatch (ComparedFor work s gs fs) cs qs
  each_compared [] [] h = tt
  each_compared [] (q ∷ qs) h = absurd h
  each_compared (c ∷ cs) [] h = absurd h
  each_compared (c ∷ cs) (q ∷ qs) h = (record { literal = h.0.0.1; ident = h.0.1.1; held = h.0.2 }, each_compared cs qs h.1)

  none_compared : (cs : List Comparison) → AllMatch (ComparisonFor work ls literal_scope scope) cs [] → AllMatch (ComparedFor work s gs fs) cs []
  none_compared [] h = tt
  none_compared (c ∷ cs) h = absurd h

  by_budget : (b : Bool) (cs : List Comparison) (qs : List (Identifier × Identifier)) → AllMatch (ComparisonFor work ls literal_scope scope) cs (cond b (map note qs) []) → AllMatch (ComparedFor work s gs fs) cs (cond b qs [])
  by_budget true cs qs h = each_compared cs qs h
  by_budget false cs qs h = none_compared cs h

-- those of a use
pub compared_for : (work : Work) (ls : List Frames) (literal_scope scope : ℕ) (s : Noting) (known : Known) (fs : Frames) (m : Transformer Frames Identifier) (ts : Trees Identifier) (tail : Tail Identifier) (cs : List Comparison) →
    AllMatch (ComparisonFor work ls literal_scope scope) cs (comparisons (noting known) fs m ts tail s) → AllMatch (ComparedFor work s m.env fs) cs (pairs_of (noting known) m ts tail s)
compared_for work ls literal_scope scope s known fs m ts tail cs h =
    by_budget work ls literal_scope scope s m.env fs (nat_lt (s.uses s.form) max_uses) cs (compared (role_of (noting known).names m.rules) (dots_of (noting known).names m.rules) m.rules.rules ts tail) h

-- ---- the use

-- what a use gives without notes it gives with them, once its comparisons were asked
pub use_noted : {X : Type 0} (P : X → Instance Identifier → Type 0) (known : Known) (here : Here) (fs : Frames) (keyword : Target) (m : Transformer Frames Identifier) (ts : Trees Identifier) (tail : Tail Identifier) (s : Noting) (old new : Work) (region : Region) (u v : UnitScope) (ls : List Frames)
    (r : Result X ExpandFault) → Stands old u ls (compared_first (noting known) fs m ts tail s) → AreToldApart new.symbols.idents → v.form.trace ≡ u.form.trace → v.macros ≡ u.macros → plain.EndsHere P old new region u v ls r (use_of (searched known) here fs keyword m ts tail (state_of s)) →
    EndsHere P old new region u v ls r (use_of (noting known) here fs keyword m ts tail s)
use_noted P known here fs keyword m ts tail s old new region u v ls r e apart trace macros h =
    subst (λ (p : Result (Instance Identifier) Broken × Noting). EndsHere P old new region u v ls r p) (sym (use_is known here fs keyword m ts tail s))
    (use_ends known here fs keyword m ts tail (compared_first (noting known) fs m ts tail s) P old new region u v ls r e apart trace macros h)
