-- What stands in units, outside all frames: identifiers that uses of units' macros alone inserted, and the macros of units.
use Rattle.std.proofs.Common.{◌≡◌, List, [], refl, sym, ap, ◌∙◌, true}
use Rattle.scheme_model.specs.Ident.{Ident, Written, Inserted}
use Rattle.scheme_model.specs.Meaning.{Meaning, Local, Global, Standard, Free}
use Rattle.scheme_model.specs.RulesShape.{Rules, rules_map}
use Rattle.scheme_model.specs.Substitution.{Clock, is_plain}
use Rattle.scheme_model.specs.ScopedExpansion.{Frames, BodyDefinitions, UsePlace, ScopedMacro, around}
use Rattle.scheme_model.specs.FrameImages.{image_inside, image_outside}
use Rattle.scheme_model.proofs.OpenBodies.{Leq}
use Rattle.model_laws.proofs.IdentKinds.{rules_fused}
use Rattle.model_laws.proofs.FrameTimes.{SamePlaces}
use Rattle.model_laws.proofs.FrameEras.{Era, Below, below_more}
use Rattle.model_laws.proofs.FrameAsks.{AllOf, all_of_more}

-- no frame is around the macros whose uses inserted it
abbrev pub AtRoot : List UsePlace → Ident → Type 0
AtRoot ps (Written u s) = Unit {0}
AtRoot ps (Inserted i k) = (around ps k ≡ []) × AtRoot ps i

pub root_plain : (ps : List UsePlace) (i : Ident) → AtRoot ps i → (es : BodyDefinitions) → is_plain (image_outside ps i es) ≡ true
root_plain ps (Written u s) h es = refl
root_plain ps (Inserted i k) h es = ap (λ (fs : Frames). is_plain (image_inside fs i (image_outside ps i) es)) h.0 ∙ root_plain ps i h.1 es

-- rules over identifiers that hold P
pub record RulesOver (P : Ident → Type 0) (r : Rules Ident) : Type 0 where
  pub over : Rules ((i : Ident) × P i)
  pub same : rules_map (λ (p : (i : Ident) × P i). p.0) over ≡ r

pub rules_more : (P Q : Ident → Type 0) → ((i : Ident) → P i → Q i) → (r : Rules Ident) → RulesOver P r → RulesOver Q r
rules_more P Q h r m = record {
  over = rules_map (λ (p : (i : Ident) × P i). (p.0, h p.0 p.1)) m.over;
  same = rules_fused ((i : Ident) × P i) ((i : Ident) × Q i) Ident (λ p. p.0) (λ p. (p.0, h p.0 p.1)) m.over ∙ m.same;
}

-- what stands in a unit
abbrev pub Rooted : Era → Clock → List UsePlace → Ident → Type 0
Rooted w u ps i = Below w u i × AtRoot ps i

-- a macro of a unit
pub record RootMacro (w : Era) (u : Clock) (ps : List UsePlace) (fs : Frames) (rs : Rules Ident) : Type 0 where
  pub outside : fs ≡ []
  pub rooted : RulesOver (Rooted w u ps) rs

-- a local macro is no meaning in a unit
abbrev pub MacroStands : Era → Clock → List UsePlace → Meaning → Frames → Rules Ident → Type 0
MacroStands w u ps (Local v) fs rs = Unit {0}
MacroStands w u ps (Global z i) fs rs = RootMacro w u ps fs rs
MacroStands w u ps (Standard x) fs rs = RootMacro w u ps fs rs
MacroStands w u ps (Free x) fs rs = RootMacro w u ps fs rs

abbrev pub UnitMacro : Era → Clock → List UsePlace → ScopedMacro → Type 0
UnitMacro w u ps k = MacroStands w u ps k.meaning k.frames k.rules

-- ---- with more uses

module _ (w : Era) (u v : Clock) (ps qs : List UsePlace) (le : Leq u v) (same : SamePlaces w.unit u ps qs) where
  pub root_later : (i : Ident) → Below w u i → AtRoot ps i → AtRoot qs i
  root_later (Written z x) l h = tt
  root_later (Inserted i k) l h = (sym (same k l.0.0) ∙ h.0, root_later i l.1 h.1)

  pub rooted_later : (i : Ident) → Rooted w u ps i → Rooted w v qs i
  rooted_later i h = (below_more w u v le i h.0, root_later i h.0 h.1)

  root_macro_later : (fs : Frames) (rs : Rules Ident) → RootMacro w u ps fs rs → RootMacro w v qs fs rs
  root_macro_later fs rs h = record { outside = h.outside; rooted = rules_more (Rooted w u ps) (Rooted w v qs) rooted_later rs h.rooted }

  macro_later : (m : Meaning) (fs : Frames) (rs : Rules Ident) → MacroStands w u ps m fs rs → MacroStands w v qs m fs rs
  macro_later (Local z) fs rs h = tt
  macro_later (Global z i) fs rs h = root_macro_later fs rs h
  macro_later (Standard x) fs rs h = root_macro_later fs rs h
  macro_later (Free x) fs rs h = root_macro_later fs rs h

  pub stands_then : (ks : List ScopedMacro) → AllOf (UnitMacro w u ps) ks → AllOf (UnitMacro w v qs) ks
  stands_then ks h = all_of_more (UnitMacro w u ps) (UnitMacro w v qs) (λ k q. macro_later k.meaning k.frames k.rules q) ks h
