-- Macros that stand outside of all frames (R7RS 4.3).
use Rattle.std.specs.Prelude.{◌≡◌, []}
use Rattle.scheme_model.specs.ScopedExpansion.{ScopedMacro, ScopedState}
use Rattle.form_laws.specs.Begins.{Each}

abbrev pub AllAtRoot : ScopedState → Type 0
AllAtRoot s = Each (λ (k : ScopedMacro). k.frames ≡ []) s.macros
