-- What forms leave at the root of their unit (R7RS 5.3): what its forms have defined there, with the macros of it.
use Rattle.std.specs.Prelude.{◌≡◌, [], map}
use Rattle.scheme_model.specs.ScopedExpansion.{ScopedMacro, ScopedState}
use Rattle.scheme_model.specs.FormsAlike.{bare_kept}
use Rattle.form_laws.specs.Begins.{Each}
use Rattle.forgotten_locals.specs.Outside.{macros_outside}

-- the same is defined and imported at the root, but for the times at which bodies were entered
pub record SameAtRoot (s t : ScopedState) : Type 0 where
  pub table : t.table ≡ s.table
  pub entry : t.entry ≡ s.entry
  pub macros : map bare_kept (macros_outside t.macros) ≡ map bare_kept (macros_outside s.macros)

-- macros that aren't local were defined outside all frames
abbrev pub MacrosAtRoot : ScopedState → Type 0
MacrosAtRoot s = Each (λ (k : ScopedMacro). k.frames ≡ []) (macros_outside s.macros)
