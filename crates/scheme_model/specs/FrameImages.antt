-- What an identifier has become in the definition that substitutes, by the frames around it: its image.
use Rattle.std.specs.Prelude.{◌≡◌, ℕ, nat_lt, ◌==◌, List, [], ◌∷◌, Bool, true, false, Option, Some, None, if◌then◌else◌}
use Rattle.scheme_model.specs.Identifiers.{Number, Name, Written as WrittenName, Inserted as InsertedName, Inner, Var}
use Rattle.scheme_model.specs.Ident.{Ident, Written, Inserted, same_ident}
use Rattle.scheme_model.specs.Order.{is_some}
use Rattle.scheme_model.specs.Substitution.{Table, Clock, defined_in, is_plain}
use Rattle.scheme_model.specs.ScopedExpansion.{Bind, Enter, Frames, BodyDefinitions, UsePlace, around, find}

-- a number that a unit's forms have counted by then; those of other units are older
abbrev pub is_before : ℕ → Clock → Number → Bool
is_before unit clock k = if k.unit == unit then nat_lt k.count (clock k.form) else true

-- made before a body was entered, when each form of its unit had begun so many macro uses
abbrev pub is_older : Number → Clock → Ident → Bool
is_older b uses (Written u s) = true
is_older b uses (Inserted i k) = is_before b.unit uses k

abbrev pub bound_as : Bool → Number → Name → Name
bound_as true v j = Var v j
bound_as false v j = j

abbrev pub entered_as : Bool → Number → Name → Name
entered_as true b j = Inner b j
entered_as false b j = j

-- what a body defines reads as it did before its definition, under its number
abbrev pub before_definition : Option (Number × BodyDefinitions) → (BodyDefinitions → Name) → BodyDefinitions → Name
before_definition None g ds = g ds
before_definition (Some d) g ds = Var d.0 (g d.1)

-- inside these frames, where `outer` is what it is outside them, after some definitions
abbrev pub image_inside : Frames → Ident → (BodyDefinitions → Name) → BodyDefinitions → Name
image_inside [] i outer ds = outer ds
image_inside (Bind x v ∷ fs) i outer ds = bound_as (same_ident x i) v (image_inside fs i outer ds)
image_inside (Enter b u ∷ fs) i outer ds = before_definition (find ds b i) (λ es. entered_as (is_older b u i) b (image_inside fs i outer es)) ds

-- outside all frames; what a use inserted was inside the frames around the macro
abbrev pub image_outside : List UsePlace → Ident → BodyDefinitions → Name
image_outside ps (Written u s) ds = WrittenName u s
image_outside ps (Inserted i k) ds = InsertedName (image_inside (around ps k) i (λ es. image_outside ps i es) ds) k

abbrev pub frame_image : List UsePlace → BodyDefinitions → Frames → Ident → Name
frame_image ps ds fs i = image_inside fs i (image_outside ps i) ds

-- no frame is around the macros whose uses inserted what units define
abbrev pub DefinesOutside : Table → List UsePlace → Type 0
DefinesOutside table ps = (u : ℕ) (i : Ident) (ds : BodyDefinitions) → is_some (defined_in table u i) ≡ true → is_plain (image_outside ps i ds) ≡ true
