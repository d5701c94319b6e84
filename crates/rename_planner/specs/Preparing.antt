-- What is prepared for a rename (LSP 3.17, textDocument/prepareRename), and where there is nothing to rename.
use Rattle.std.specs.Prelude.{ℕ, List, Option, Some, None, Result, Ok, Err}
use Rattle.ls_base.specs.declared.answers.Answer as told
use Rattle.ls_base.specs.declared.answers.Answer.TheVariants as answers
use Rattle.rename_conditions.specs.Opened.{DocEdits}
use Rattle.rename_conditions.specs.Renames.{Refusal, NotBound, IsStandard, BadName, Unreadable, PrefixLost, PrefixClash, BrokenUnit, TooLong, Differs}
use Rattle.rename_planner.specs.declared.preparing.Prepared.{Prepared}

abbrev pub prepared_told : Option Prepared → told.Answer
prepared_told None = answers.Nothing
prepared_told (Some p) = answers.Prepared p.range p.placeholder

-- no identifier is bound there, or a standard name spells it
abbrev pub IsUnnamed : Result (List DocEdits) Refusal → Type 0
IsUnnamed (Ok es) = ⊥
IsUnnamed (Err NotBound) = Unit {0}
IsUnnamed (Err (IsStandard name)) = Unit {0}
IsUnnamed (Err BadName) = ⊥
IsUnnamed (Err (Unreadable n)) = ⊥
IsUnnamed (Err (PrefixLost prefix)) = ⊥
IsUnnamed (Err (PrefixClash b)) = ⊥
IsUnnamed (Err (BrokenUnit b code)) = ⊥
IsUnnamed (Err (TooLong n)) = ⊥
IsUnnamed (Err (Differs d)) = ⊥
