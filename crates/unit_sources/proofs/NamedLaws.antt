-- Which unit a library's name means: the code's units and the units agree.
use Rattle.std.proofs.Common.{◌≡◌, ℕ, suc, ◌+◌, Bool, true, false, cond, ◌<◌, List, [], ◌∷◌, ◌++◌, append_assoc, length, drop, get_or, Option, Some, None, refl, sym, ap, ◌∙◌, arith}
use Rattle.std.specs.Prelude.{◌&&◌, not}
use Rattle.std.specs.Option.{option_map}
use Rattle.std.proofs.lemmas.List.{drop_more}
use Rattle.std.specs.Str.{bytes_eq}
use Rattle.scheme_model.specs.Requirements.{LibraryName, LibraryPart, Symbol, Digits, same_part, same_library}
use Rattle.scheme_model.specs.IncludedUnits.{Placed}
use Rattle.scheme_model.specs.Program.{imported_as, is_named, unit_named}
use Rattle.syntax_tree.proofs.InternLaws.{bytes_told, bytes_itself}
use Rattle.syntax_tree.proofs.TestLaws.{and_true}
use Rattle.import_sets.proofs.ReachLaws.{same_test}
use Rattle.unit_sources.specs.declared.units.UnitSource as code
use Rattle.unit_sources.specs.Named.{is_name, place_named, is_other, is_later, later_from}
use Rattle.unit_sources.specs.Sources.{TellsNames, AreUnitsFrom, AreUnits}
use Rattle.unit_sources.specs.Repeated.{is_at, is_repeated_name, repeated_from, repeated_places}

-- ---- names

part_told : (p q : LibraryPart) → same_part p q ≡ true → p ≡ q
part_told (Symbol s) (Symbol t) h = ap Symbol (bytes_told s t h)
part_told (Symbol s) (Digits t) h = absurd cc
part_told (Digits s) (Symbol t) h = absurd cc
part_told (Digits s) (Digits t) h = ap Digits (bytes_told s t h)

part_itself : (p : LibraryPart) → same_part p p ≡ true
part_itself (Symbol s) = bytes_itself s
part_itself (Digits s) = bytes_itself s

pub library_told : (m n : LibraryName) → same_library m n ≡ true → m ≡ n
library_told [] [] h = refl
library_told [] (q ∷ qs) h = absurd cc
library_told (p ∷ ps) [] h = absurd cc
library_told (p ∷ ps) (q ∷ qs) h =
    let both = and_true (same_part p q) (same_library ps qs) h in
    (λ j. part_told p q both.0 j ∷ library_told ps qs both.1 j)

pub library_itself : (n : LibraryName) → same_library n n ≡ true
library_itself [] = refl
library_itself (p ∷ ps) = (λ j. part_itself p j && library_itself ps j)

pub texts_same : (spelled : LibraryName → List ℕ) → TellsNames spelled → (m n : LibraryName) → bytes_eq (spelled m) (spelled n) ≡ same_library m n
texts_same spelled tells m n =
    same_test (bytes_eq (spelled m) (spelled n)) (same_library m n)
    (λ h. ap (same_library m) (sym (tells m n (bytes_told (spelled m) (spelled n) h))) ∙ library_itself m)
    (λ h. ap (λ (l : LibraryName). bytes_eq (spelled m) (spelled l)) (sym (library_told m n h)) ∙ bytes_itself (spelled m))

name_same : (spelled : LibraryName → List ℕ) → TellsNames spelled → (n : LibraryName) (o : Option LibraryName) → is_name (spelled n) (option_map spelled o) ≡ is_named n o
name_same spelled tells n None = refl
name_same spelled tells n (Some m) = texts_same spelled tells m n

-- the first unit with a name
pub place_same : (spelled : LibraryName → List ℕ) → TellsNames spelled → (n : LibraryName) (k : ℕ) (cs : List code.UnitSource) (us : List Placed) → AreUnitsFrom spelled k cs us →
    place_named (spelled n) k cs ≡ unit_named n k us
place_same spelled tells n k [] [] h = refl
place_same spelled tells n k [] (u ∷ us) h = absurd h
place_same spelled tells n k (c ∷ cs) [] h = absurd h
place_same spelled tells n k (c ∷ cs) (u ∷ us) h =
    (λ j. cond (here j) (Some k) (place_same spelled tells n (suc k) cs us h.1 j))
  where
    here : is_name (spelled n) c.name ≡ is_named n (imported_as k u.source)
    here = ap (is_name (spelled n)) h.0.name ∙ name_same spelled tells n (imported_as k u.source)

-- ---- names that stand twice

pub later_find : (f g : List ℕ → Option ℕ) → ((s : List ℕ) → f s ≡ g s) → (n : ℕ) (o : Option (List ℕ)) → is_later f n o ≡ is_later g n o
later_find f g h n None = refl
later_find f g h n (Some t) = ap (λ o. is_other o n) (h t)

-- what the unit at a place adds
pub later_step : (us : List code.UnitSource) (i : ℕ) (u : code.UnitSource) (b : Bool) → i < length us → u ≡ get_or us i u → b ≡ is_later (λ s. place_named s 0 us) i u.name →
    later_from us i (drop i us) ≡ cond b (i ∷ later_from us (i + 1) (drop (i + 1) us)) (later_from us (i + 1) (drop (i + 1) us))
later_step us i u b lt is e =
    ap (later_from us i) (drop_more us i u lt) ∙ (λ j. later_from us i (sym is j ∷ drop (i + 1) us)) ∙ (λ j. cond (sym e j) (i ∷ later_from us (more j) (drop (i + 1) us)) (later_from us (more j) (drop (i + 1) us)))
  where
    more : suc i ≡ i + 1
    more = omega arith

-- the places so far, with what the unit adds
pub later_next : (us : List code.UnitSource) (i : ℕ) (u : code.UnitSource) (b : Bool) (old new : List ℕ) → i < length us → u ≡ get_or us i u → b ≡ is_later (λ s. place_named s 0 us) i u.name →
    new ≡ cond b (old ++ i ∷ []) old → new ++ later_from us (i + 1) (drop (i + 1) us) ≡ old ++ later_from us i (drop i us)
later_next us i u b old new lt is e n =
    ap (λ (l : List ℕ). l ++ later_from us (i + 1) (drop (i + 1) us)) n ∙ go b ∙ ap (λ (l : List ℕ). old ++ l) (sym (later_step us i u b lt is e))
  where
    go : (b : Bool) → cond b (old ++ i ∷ []) old ++ later_from us (i + 1) (drop (i + 1) us) ≡ old ++ cond b (i ∷ later_from us (i + 1) (drop (i + 1) us)) (later_from us (i + 1) (drop (i + 1) us))
    go true = append_assoc old (i ∷ []) (later_from us (i + 1) (drop (i + 1) us))
    go false = refl

other_same : (n : ℕ) (o : Option ℕ) → is_other o n ≡ not (is_at n o)
other_same n None = refl
other_same n (Some m) = refl

later_same : (spelled : LibraryName → List ℕ) → TellsNames spelled → (cs : List code.UnitSource) (us : List Placed) → AreUnits spelled cs us → (place : ℕ) (o : Option LibraryName) →
    is_later (λ s. place_named s 0 cs) place (option_map spelled o) ≡ is_repeated_name us place o
later_same spelled tells cs us h place None = refl
later_same spelled tells cs us h place (Some n) = other_same place (place_named (spelled n) 0 cs) ∙ ap (λ o. not (is_at place o)) (place_same spelled tells n 0 cs us h)

repeated_rest : (spelled : LibraryName → List ℕ) → TellsNames spelled → (cs : List code.UnitSource) (us : List Placed) → AreUnits spelled cs us →
    (place : ℕ) (ds : List code.UnitSource) (vs : List Placed) → AreUnitsFrom spelled place ds vs → later_from cs place ds ≡ repeated_from us place vs
repeated_rest spelled tells cs us h place [] [] k = refl
repeated_rest spelled tells cs us h place [] (v ∷ vs) k = absurd k
repeated_rest spelled tells cs us h place (d ∷ ds) [] k = absurd k
repeated_rest spelled tells cs us h place (d ∷ ds) (v ∷ vs) k =
    (λ j. cond (here j) (place ∷ repeated_rest spelled tells cs us h (suc place) ds vs k.1 j) (repeated_rest spelled tells cs us h (suc place) ds vs k.1 j))
  where
    here : is_later (λ s. place_named s 0 cs) place d.name ≡ is_repeated_name us place (imported_as place v.source)
    here = ap (is_later (λ s. place_named s 0 cs) place) k.0.name ∙ later_same spelled tells cs us h place (imported_as place v.source)

pub repeated_same : (spelled : LibraryName → List ℕ) → TellsNames spelled → (cs : List code.UnitSource) (us : List Placed) → AreUnits spelled cs us → later_from cs 0 cs ≡ repeated_places us
repeated_same spelled tells cs us h = repeated_rest spelled tells cs us h 0 cs us h
