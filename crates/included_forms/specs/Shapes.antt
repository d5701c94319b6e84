-- The shapes of declarations, as the code has them (R7RS 5.6.1).
use Rattle.std.specs.Prelude.{List, [], ◌∷◌, Bool, true, false, codes, if◌then◌else◌}
use Rattle.scheme_model.specs.Data.{Datum}
use Rattle.scheme_model.specs.Declarations as model
use Rattle.scheme_model.specs.Declarations.{Exports, Imports, Begins, Includes, Undeclared, all_names, is_headed}
use Rattle.scheme_model.specs.Includes.{includes_declarations}
use Rattle.scheme_model.specs.Included.{Homed, Listing, Texts, texts_or, form_alone, bad}
use Rattle.included_forms.specs.declared.declared.Declared as code_declared
use Rattle.included_forms.specs.declared.declared.Declared.TheVariants as kind

abbrev pub is_declared : code_declared.Declared → model.Declared
is_declared kind.Exports = Exports
is_declared kind.Imports = Imports
is_declared kind.Begins = Begins
is_declared kind.Chooses = model.Chooses
is_declared kind.Includes = Includes
is_declared kind.Undeclared = Undeclared

abbrev pub two_symbols : List Datum → Bool
two_symbols [] = false
two_symbols (a ∷ []) = false
two_symbols (a ∷ b ∷ []) = all_names (a ∷ b ∷ [])
two_symbols (a ∷ b ∷ c ∷ ds) = false

-- a declaration that gives itself, if it has its shape
abbrev pub kept : Bool → Homed → Listing
kept true h = bad h
kept false h = form_alone true h

-- a declaration that includes declarations, or that stays as it is
abbrev pub including_or_itself : Texts → Homed → Listing
including_or_itself t h = texts_or t.limit (t.as_declarations h.document) (includes_declarations h.datum) (if is_headed (codes "include-ci") h.datum then form_alone true h else bad h)
