-- What is outside of a state forgets what is local in it.
use Rattle.std.proofs.Common.{◌≡◌, List, [], ◌∷◌, Bool, true, false, cond, Option, Some, None, refl, sym, ap, ◌∙◌, subst}
use Rattle.std.proofs.lemmas.Option.{same_Some}
use Rattle.scheme_model.specs.Ident.{Ident}
use Rattle.scheme_model.specs.Meaning.{Meaning, Local, Global, Standard, Free, same_meaning}
use Rattle.scheme_model.specs.Order.{Transformer}
use Rattle.scheme_model.specs.ScopedExpansion.{Frames, ScopedMacro, ScopedState, macro_at}
use Rattle.form_laws.specs.Begins.{Each}
use Rattle.form_notes.specs.Noted.{is_local}
use Rattle.forgotten_locals.specs.Outside.{is_outside, macros_outside, outside}
use Rattle.forgotten_locals.proofs.Outsides.{macro_outside, no_local_macro, outside_twice}
use Rattle.unit_scopes.specs.Forgotten.{ForgetsLocals, MacrosAtRoot}
use Rattle.root_laws.specs.AtRoot.{AllAtRoot}

not_local : (m : Meaning) → is_local m ≡ false → is_outside m ≡ true
not_local (Local v) e = let q : true ≡ false = e in absurd cc
not_local (Global u i) e = refl
not_local (Standard x) e = refl
not_local (Free x) e = refl

pub forgets : (s : ScopedState) → ForgetsLocals s (outside s)
forgets s = record {
  unit = refl;
  program = refl;
  table = refl;
  entry = refl;
  macros = λ m apart. macro_outside m (not_local m apart) s.macros;
  locals = λ v. no_local_macro s.macros v;
  places = refl;
  definitions = refl;
}

pub nothing_local : (s : ScopedState) → outside (outside s) ≡ outside s
nothing_local s = outside_twice s

-- ---- macros

abbrev AtRoot : List ScopedMacro → Type 0
AtRoot ks = Each (λ (k : ScopedMacro). k.frames ≡ []) ks

found_root : (ks : List ScopedMacro) (m : Meaning) (t : Transformer Frames Ident) → AtRoot ks → macro_at ks m ≡ Some t → t.env ≡ []
found_root [] m t all e = absurd cc
found_root (k ∷ ks) m t all e = go (same_meaning k.meaning m) (found_root ks m t all.1) e
  where
    go : (b : Bool) → (macro_at ks m ≡ Some t → t.env ≡ []) → cond b (Some (record { env = k.frames; rules = k.rules })) (macro_at ks m) ≡ Some t → t.env ≡ []
    go true more e = ap (λ (x : Transformer Frames Ident). x.env) (sym (same_Some (record { env = k.frames; rules = k.rules }) t e)) ∙ all.0
    go false more e = more e

pub macros_root : (s : ScopedState) → AllAtRoot (outside s) → MacrosAtRoot s
macros_root s all m t apart e = found_root (macros_outside s.macros) m t all (macro_outside m (not_local m apart) s.macros ∙ e)

fewer_root : (ks : List ScopedMacro) → AtRoot ks → AtRoot (macros_outside ks)
fewer_root [] all = tt
fewer_root (k ∷ ks) all = go (is_outside k.meaning) (fewer_root ks all.1)
  where
    go : (b : Bool) → AtRoot (macros_outside ks) → AtRoot (cond b (k ∷ macros_outside ks) (macros_outside ks))
    go true more = (all.0, more)
    go false more = more

pub outside_root : (s : ScopedState) → AllAtRoot s → AllAtRoot (outside s)
outside_root s all = fewer_root s.macros all
