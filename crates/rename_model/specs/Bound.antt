-- What the laws of comparison ask: that each local stands behind its binder, that units have no Errors, and that two comparisons leave
-- out the same.
use Rattle.std.specs.Prelude.{◌≡◌, ℕ, List, [], ◌∷◌, ◌++◌, Bool, true, false, ◌||◌, Option}
use Rattle.scheme_model.specs.declared.Occ.{Occ}
use Rattle.scheme_model.specs.Identifiers.{Number, same_number}
use Rattle.scheme_model.specs.Program.{Program, result_at}
use Rattle.rename_model.specs.Walks.{Seen, OfNode, OfNumber, OfName, OfDefinition, OfLocal, OfBinders, Point}
use Rattle.rename_model.specs.SameProgram.{left_out, Stretch, unit_errors}

abbrev pub bound_among : List Number → Number → Bool
bound_among [] v = false
bound_among (w ∷ ws) v = same_number w v || bound_among ws v

-- a local is bound by one of these
abbrev pub is_bound : List Number → Seen → Bool
is_bound vs (OfNode k) = true
is_bound vs (OfNumber n) = true
is_bound vs (OfName k s) = true
is_bound vs (OfDefinition u n) = true
is_bound vs (OfLocal v) = bound_among vs v
is_bound vs (OfBinders k ws) = true

abbrev pub binds_in : Seen → List Number
binds_in (OfNode k) = []
binds_in (OfNumber n) = []
binds_in (OfName k s) = []
binds_in (OfDefinition u n) = []
binds_in (OfLocal v) = []
binds_in (OfBinders k vs) = vs

-- each local stands behind its binder, or is bound by one of these
abbrev pub AllBound : List Number → List Point → Type 0
AllBound vs [] = Unit {0}
AllBound vs (p ∷ ps) = (is_bound vs p.seen ≡ true) × AllBound (binds_in p.seen ++ vs) ps

abbrev pub AllStretchesBound : List Stretch → Type 0
AllStretchesBound [] = Unit {0}
AllStretchesBound (s ∷ ss) = AllBound [] s.new × AllStretchesBound ss

abbrev pub HaveNoErrors : Program → List ℕ → Type 0
HaveNoErrors p [] = Unit {0}
HaveNoErrors p (n ∷ ns) = (unit_errors (result_at p.units n) ≡ []) × HaveNoErrors p ns

-- of two points at one place the one is left out where the other is
abbrev pub LeftOutAlike : (live back : Option Occ → Bool) → (os ns : List Point) → Type 0
LeftOutAlike live back [] [] = Unit {0}
LeftOutAlike live back [] (n ∷ ns) = Unit {0}
LeftOutAlike live back (o ∷ os) [] = Unit {0}
LeftOutAlike live back (o ∷ os) (n ∷ ns) = (left_out live o ≡ left_out back n) × LeftOutAlike live back os ns

abbrev pub AllLeftOutAlike : (live back : Option Occ → Bool) → List Stretch → Type 0
AllLeftOutAlike live back [] = Unit {0}
AllLeftOutAlike live back (s ∷ ss) = LeftOutAlike live back s.old s.new × AllLeftOutAlike live back ss
