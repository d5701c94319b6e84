-- What the operations make of a state of an expansion that notes, and of frames.
use Rattle.std.specs.Prelude.{ℕ, suc, ◌+◌, List, ◌∷◌}
use Rattle.scheme_model.specs.Ident.{Ident}
use Rattle.scheme_model.specs.Meaning.{Meaning}
use Rattle.scheme_model.specs.Cores.{Target, MacroUse, Binder}
use Rattle.scheme_model.specs.Substitution.{at_form}
use Rattle.scheme_model.specs.Order.{Transformer}
use Rattle.scheme_model.specs.Steps.{Step, done}
use Rattle.scheme_model.specs.ScopedExpansion.{Enter, Frames}
use Rattle.noted_steps.specs.Noting.{Noting, next_number}

abbrev pub spent : ℕ → Noting → Noting
spent n s = record s { nodes = at_form s.form (λ m. m + n) s.nodes }

-- so many locals are taken
abbrev pub taken : ℕ → Noting → Noting
taken n s = record s { locals = at_form s.form (λ m. m + n) s.locals }

abbrev pub met : Target → Noting → Noting
met t s = record s { keywords = at_form s.form (λ ts. t ∷ ts) s.keywords }

abbrev pub met_use : MacroUse → Noting → Noting
met_use u s = record s { met = at_form s.form (λ us. u ∷ us) s.met }

-- the binders beside what was done with them
abbrev pub with_binders : {B : Type 0} → List Binder → B → Step Noting (List Binder × B)
with_binders bs b = done (bs, b)

abbrev pub entered : Noting → Noting
entered s = record s { bodies = at_form s.form suc s.bodies }

abbrev pub entered_frames : Noting → Frames → Frames
entered_frames s fs = Enter (next_number s s.bodies) s.uses ∷ fs

-- a macro is kept as what means this
abbrev pub kept : Meaning → Transformer Frames Ident → Noting → Noting
kept m t s = record s { macros = record { meaning = m; frames = t.env; rules = t.rules } ∷ s.macros }

abbrev pub used : Frames → Noting → Noting
used fs s = record s { uses = at_form s.form suc s.uses; places = record { use_number = next_number s s.uses; frames = fs } ∷ s.places }
