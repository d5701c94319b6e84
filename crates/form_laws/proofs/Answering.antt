-- A form at work in a state, expanded by its own answers and by what its surroundings give at the root alone: what it made and found is
-- what stands before that with which it began.
use Rattle.std.proofs.Common.{◌≡◌, ℕ, zero, suc, ◌+◌, ◌-◌, List, [], ◌∷◌, ◌++◌, map, Bool, Option, Some, None, Result, Ok, Err, if◌then◌else◌, refl, sym, ap, ◌∙◌, arith}
use Rattle.scheme_model.specs.Identifiers.{Number}
use Rattle.scheme_model.specs.Ident.{Ident}
use Rattle.scheme_model.specs.ExpansionFaults.{Named, Fault, KeywordRedefined, Duplicate}
use Rattle.scheme_model.specs.Requirements.{Known}
use Rattle.scheme_model.specs.RulesShape.{Rules}
use Rattle.scheme_model.specs.Order.{Pending, Renamed, Ops, is_some}
use Rattle.scheme_model.specs.Substitution.{any, unchanged}
use Rattle.scheme_model.specs.ScopedExpansion.{Frames, FramedIdent, ScopedState, find, body_around, definition_added, meaning_next, is_defined}
use Rattle.scheme_model.specs.CountedExpansion.{counted}
use Rattle.scheme_model.specs.OwnAnswers.{Own, own_means, own_macro, unit_refused, body_refused}

abbrev pub first_of : {X : Type 0} → ℕ → List X → List X
first_of zero xs = []
first_of (suc n) [] = []
first_of (suc n) (x ∷ xs) = x ∷ first_of n xs

abbrev pub how_many : {X : Type 0} → List X → ℕ
how_many [] = zero
how_many (x ∷ xs) = suc (how_many xs)

-- what stands before those that there were
abbrev pub new_of : {X : Type 0} → List X → List X → List X
new_of old xs = first_of (how_many xs - how_many old) xs

abbrev pub own_since : ScopedState → ScopedState → Own
own_since old s = record { table = new_of old.table s.table; macros = new_of old.macros s.macros; places = new_of old.places s.places; definitions = new_of old.definitions s.definitions }

abbrev pub ended_as : Bool → Bool → Option Number → Named Ident → Option (Rules Ident) → Frames → Pending Ident FramedIdent → ScopedState → Result (Renamed Ident FramedIdent) (Fault Ident) × ScopedState
ended_as refused defined b n r fs p s =
    if refused then (Err (KeywordRedefined n), s)
    else if defined then (Err (Duplicate n), s)
    else (Ok (unchanged p), definition_added b n r fs s)

abbrev pub define_own : ScopedState → Option Number → Named Ident → Option (Rules Ident) → Frames → Pending Ident FramedIdent → ScopedState → Result (Renamed Ident FramedIdent) (Fault Ident) × ScopedState
define_own old None n r fs p s =
    let t = definition_added None n r fs s in
    ended_as (any (unit_refused (own_since old t) t (meaning_next s None n.name) (is_some r)) p.notes) (is_defined s None n.name) None n r fs p s
define_own old (Some b) n r fs p s =
    let t = definition_added (Some b) n r fs s in
    ended_as (any (body_refused (own_since old t) (meaning_next s (Some b) n.name) (is_some r)) p.notes) (is_some (find (own_since old s).definitions b n.name)) (Some b) n r fs p s

abbrev pub answering : ScopedState → Known → Ops Frames Ident FramedIdent ScopedState
answering old known = record (counted known) {
  means = λ fs s i. own_means (own_since old s) s fs i;
  transformer = λ s m. own_macro (own_since old s) s m;
  define = λ n r fs p s. define_own old (body_around fs) n r fs p s;
}

-- ---- what stands before what there was

how_both : {X : Type 0} (xs ys : List X) → how_many (xs ++ ys) ≡ how_many xs + how_many ys
how_both [] ys = omega arith
how_both (x ∷ xs) ys = let e = how_both xs ys in omega (arith, e)

first_front : {X : Type 0} (xs ys : List X) → first_of (how_many xs) (xs ++ ys) ≡ xs
first_front [] ys = refl
first_front (x ∷ xs) ys = ap (λ zs. x ∷ zs) (first_front xs ys)

pub new_front : {X : Type 0} (old xs : List X) → new_of old (xs ++ old) ≡ xs
new_front old xs =
    let e = how_both xs old in let d : how_many (xs ++ old) - how_many old ≡ how_many xs = omega (arith, e) in
    ap (λ n. first_of n (xs ++ old)) d ∙ first_front xs old

first_mapped : {X Y : Type 0} (f : X → Y) (n : ℕ) (xs : List X) → map f (first_of n xs) ≡ first_of n (map f xs)
first_mapped f zero xs = refl
first_mapped f (suc n) [] = refl
first_mapped f (suc n) (x ∷ xs) = ap (λ zs. f x ∷ zs) (first_mapped f n xs)

how_mapped : {X Y : Type 0} (f : X → Y) (xs : List X) → how_many (map f xs) ≡ how_many xs
how_mapped f [] = refl
how_mapped f (x ∷ xs) = ap suc (how_mapped f xs)

pub new_mapped : {X Y : Type 0} (f : X → Y) (old xs zs : List X) → map f zs ≡ map f (xs ++ old) → map f (new_of old zs) ≡ map f xs
new_mapped f old xs zs e =
    let n = sym (how_mapped f zs) ∙ ap how_many e ∙ how_mapped f (xs ++ old) in
    first_mapped f (how_many zs - how_many old) zs
    ∙ (λ j. first_of (n j - how_many old) (e j))
    ∙ sym (first_mapped f (how_many (xs ++ old) - how_many old) (xs ++ old))
    ∙ ap (map f) (new_front old xs)
