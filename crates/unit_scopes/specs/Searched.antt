-- Expansion by counted scopes where a definition goes through some notes alone: those that have its identifier among their own, or
-- inside one of them. It differs from scheme_model's `CountedExpansion` in nothing else, and comes to the same: see the law
-- `notes_are_searched`.
use Rattle.std.specs.Prelude.{ℕ, List, [], map, take, Bool, ◌||◌, ◌&&◌, Option, Result, Ok, Err, if◌then◌else◌}
use Rattle.scheme_model.specs.Identifiers.{Number}
use Rattle.scheme_model.specs.Ident.{Ident, Written}
use Rattle.scheme_model.specs.Trees.{Tree}
use Rattle.scheme_model.specs.ExpansionFaults.{Named, Fault, KeywordRedefined, Duplicate}
use Rattle.scheme_model.specs.Requirements.{Known}
use Rattle.scheme_model.specs.RulesShape.{Rules}
use Rattle.scheme_model.specs.Order.{Note, LookedUp, Compared, Pending, Renamed, Ops, is_some}
use Rattle.scheme_model.specs.Expression.{expand}
use Rattle.scheme_model.specs.UnitExpansion.{Formed, ◌then◌, LeftOf, passes, finished, unit}
use Rattle.scheme_model.specs.Substitution.{any, unchanged}
use Rattle.scheme_model.specs.ScopedExpansion.{Frames, FramedIdent, ScopedState, body_around, definition_added, meaning_next, is_defined}
use Rattle.scheme_model.specs.CountedExpansion.{refused_here, counted}
use Rattle.scheme_model.specs.Program.{Prepared, forms_at_work, enough_turns}
use Rattle.scheme_model.specs.ScopedProgram.{forms_over}
use Rattle.unit_scopes.specs.Asks.{is_inside}

-- an identifier of the note has x
abbrev pub speaks_of : Ident → Note FramedIdent → Bool
speaks_of x (LookedUp p head keyword) = is_inside x p.ident
speaks_of x (Compared p q held) = is_inside x p.ident || is_inside x q.ident

abbrev pub define_searched : Option Number → Named Ident → Option (Rules Ident) → Frames → Pending Ident FramedIdent → ScopedState → Result (Renamed Ident FramedIdent) (Fault Ident) × ScopedState
define_searched b n r fs p s =
    if any (λ note. speaks_of n.name note && refused_here (definition_added b n r fs s) (meaning_next s b n.name) (is_some r) note) p.notes then (Err (KeywordRedefined n), s)
    else if is_defined s b n.name then (Err (Duplicate n), s)
    else (Ok (unchanged p), definition_added b n r fs s)

abbrev pub searched : Known → Ops Frames Ident FramedIdent ScopedState
searched known = record (counted known) { define = λ n r fs p s. define_searched (body_around fs) n r fs p s }

-- ---- units

-- the forms of a unit that are expanded, with their numbers
abbrev pub forms_of : Prepared → List (ℕ × Tree Ident)
forms_of p = forms_over (Written p.number) p.number 0 (forms_at_work p)

abbrev pub searched_unit_over : Known → Prepared → ScopedState → Option (List Formed) × ScopedState
searched_unit_over known p s = unit (searched known) enough_turns [] (forms_of p) s

-- what is left of each form, unless work ended, and the state then
abbrev pub Passed : Type 0
Passed = Option (List (LeftOf Ident)) × ScopedState

abbrev pub numbers_of : Prepared → List ℕ
numbers_of p = map (λ t. t.0) (forms_of p)

-- all forms are gone through; or so many
abbrev pub all_passed : Ops Frames Ident FramedIdent ScopedState → Prepared → ScopedState → Passed
all_passed ops p s = passes ops enough_turns [] (numbers_of p) (forms_of p) [] s

abbrev pub front_passed : Ops Frames Ident FramedIdent ScopedState → ℕ → Prepared → ScopedState → Passed
front_passed ops n p s = passes ops enough_turns [] (numbers_of p) (take n (forms_of p)) [] s

-- what is left of so many forms is expanded, once all forms were gone through
abbrev pub front_finished : Ops Frames Ident FramedIdent ScopedState → ℕ → Prepared → Passed → Option (List Formed) × ScopedState
front_finished ops n p q = q then λ rs. finished ops (expand ops enough_turns) [] (numbers_of p) (take n rs)
