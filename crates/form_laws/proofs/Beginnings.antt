-- States in which a form may begin: one in which nothing was made or found yet, and each that is fine between forms.
use Rattle.std.proofs.Common.{◌≡◌, ℕ, List, [], ◌∷◌, true, false, cond, Option, Some, None, refl, sym, ap, ◌∙◌, subst}
use Rattle.std.specs.Prelude.{◌&&◌}
use Rattle.scheme_model.specs.Identifiers.{Number}
use Rattle.scheme_model.specs.Ident.{Ident, Written, Inserted, same_ident}
use Rattle.scheme_model.specs.Trees.{Tree, map_tree}
use Rattle.scheme_model.specs.Meaning.{Meaning, Local, Global, Standard, Free}
use Rattle.scheme_model.specs.RulesShape.{Rules}
use Rattle.scheme_model.specs.Order.{is_some}
use Rattle.scheme_model.specs.Substitution.{Clock, defined_in}
use Rattle.scheme_model.specs.FrameImages.{is_before}
use Rattle.scheme_model.specs.ScopedExpansion.{BodyDefinition, BodyDefinitions, Frames, ScopedMacro, ScopedState, around, find, macro_at}
use Rattle.scheme_model.proofs.Clocks.{apart}
use Rattle.scheme_model.proofs.ScopeLaws.{map_map}
use Rattle.model_laws.proofs.FrameEras.{Era, Before, Below}
use Rattle.model_laws.proofs.FrameAsks.{AllOf, not_next}
use Rattle.model_laws.proofs.EntryLaws.{GivenNoLocal}
use Rattle.model_laws.proofs.FrameRoots.{rules_more, Rooted, RootMacro, MacroStands as StandsInUnit, UnitMacro}
use Rattle.model_laws.proofs.FrameStates.{MacroFine, FineState}
use Rattle.form_laws.specs.Begins.{Each, With, plain_of, TreeWith, RulesWith, IsCounted, IsToCome, IsMade, IsRooted, IsEntry, MacroStands, Begins}

-- ---- forms as they are written

pub written_stands : (s : ScopedState) (u : ℕ) (t : Tree (List ℕ)) → TreeWith (IsRooted s) (map_tree (Written u) t)
written_stands s u t =
    let made : List ℕ → With (IsRooted s) = λ x. (Written u x, tt) in
    (map_tree made t, map_map plain_of made t)

-- ---- a state in which nothing was made yet

pub fresh_begins : (s : ScopedState) → s.table ≡ [] → s.macros ≡ [] → s.places ≡ [] → s.definitions ≡ [] → ((u : ℕ) (x : List ℕ) → IsEntry (s.entry u x)) → Begins s
fresh_begins s table macros places definitions entries = record {
  bodies = λ b e i. ap (λ ds. find ds b i) definitions;
  places = λ k e. ap (λ ps. around ps k) places;
  locals = λ v e. ap (λ ks. macro_at ks (Local v)) macros;
  defined = λ u i d. (let q : false ≡ true = sym (ap (λ t. is_some (defined_in t u i)) table) ∙ d in absurd cc);
  macros = subst (Each (λ (k : ScopedMacro). MacroStands s k.meaning k)) (sym macros) tt;
  entries = entries;
}

-- ---- a state that is fine

given_entry : (o : Option Meaning) → GivenNoLocal o → IsEntry o
given_entry None h = tt
given_entry (Some (Local v)) h = absurd h
given_entry (Some (Global u i)) h = tt
given_entry (Some (Standard x)) h = tt
given_entry (Some (Free x)) h = tt

module _ (w : Era) (s : ScopedState) (f : FineState w s) where
  is_counted : (n : Clock) (k : Number) → Before w n k → IsCounted s n k
  is_counted n k h = ap (λ u. is_before u n k) f.0 ∙ h.0

  to_come : (n : Clock) (k : Number) → IsToCome s n k → is_before w.unit n k ≡ false
  to_come n k e = ap (λ u. is_before u n k) (sym f.0) ∙ e

  no_body : (ds : BodyDefinitions) → AllOf (λ (d : BodyDefinition). Before w s.bodies d.body) ds → (b : Number) → is_before w.unit s.bodies b ≡ false → (i : Ident) → find ds b i ≡ None
  no_body [] h b e i = refl
  no_body (d ∷ ds) h b e i = ap (λ t. cond (t && same_ident d.ident i) (Some (d.binder, ds)) (find ds b i)) (apart w.unit s.bodies d.body b h.0.0 e) ∙ no_body ds h.1 b e i

  no_macro : (ks : List ScopedMacro) → AllOf (MacroFine w s.locals s.uses s.bodies) ks → (v : Number) → is_before w.unit s.locals v ≡ false → macro_at ks (Local v) ≡ None
  no_macro [] h v e = refl
  no_macro (k ∷ ks) h v e = ap (λ t. cond t (Some (record { env = k.frames; rules = k.rules })) (macro_at ks (Local v))) (not_next w s.locals v e k.meaning h.0.meaning) ∙ no_macro ks h.1 v e

  is_made : (i : Ident) → Below w s.uses i → IsMade s i
  is_made (Written u x) h = tt
  is_made (Inserted i k) h = (is_counted s.uses k h.0, is_made i h.1)

  is_rooted : (i : Ident) → Rooted w s.uses s.places i → IsRooted s i
  is_rooted (Written u x) h = tt
  is_rooted (Inserted i k) h = ((is_counted s.uses k h.0.0, h.1.0), is_rooted i (h.0.1, h.1.1))

  root_macro : (fs : Frames) (r : Rules Ident) → RootMacro w s.uses s.places fs r → (fs ≡ []) × RulesWith (IsRooted s) r
  root_macro fs r h = let m = rules_more (Rooted w s.uses s.places) (IsRooted s) is_rooted r h.rooted in (h.outside, (m.over, m.same))

  macro_stands : (m : Meaning) (k : ScopedMacro) → StandsInUnit w s.uses s.places m k.frames k.rules → MacroStands s m k
  macro_stands (Local v) k h = tt
  macro_stands (Global u i) k h = root_macro k.frames k.rules h
  macro_stands (Standard x) k h = root_macro k.frames k.rules h
  macro_stands (Free x) k h = root_macro k.frames k.rules h

  macros_stand : (ks : List ScopedMacro) → AllOf (UnitMacro w s.uses s.places) ks → Each (λ (k : ScopedMacro). MacroStands s k.meaning k) ks
  macros_stand [] h = tt
  macros_stand (k ∷ ks) h = (macro_stands k.meaning k h.0, macros_stand ks h.1)

  pub fine_begins : ((u : ℕ) (x : List ℕ) → GivenNoLocal (s.entry u x)) → ((k : Number) → IsToCome s s.uses k → around s.places k ≡ []) → Begins s
  fine_begins entries places = record {
    bodies = λ b e i. no_body s.definitions f.1.bodies b (to_come s.bodies b e) i;
    places = places;
    locals = λ v e. no_macro s.macros f.1.macros v (to_come s.locals v e);
    defined = λ u i d. is_made i (f.1.outside u i d).0;
    macros = macros_stand s.macros f.1.stands;
    entries = λ u x. given_entry (s.entry u x) (entries u x);
  }
