-- Origins of the code, put together, stand for origins put together.
use Rattle.std.proofs.Common.{◌≡◌, Bool, true, false, cond, List, [], ◌∷◌, ◌++◌, Option, Some, None, refl, sym, ◌∙◌}
use Rattle.std.specs.Prelude.{◌&&◌, ◌||◌}
use Rattle.std.specs.Str.{bytes_eq}
use Rattle.scheme_model.specs.declared.Occ.{Occ}
use Rattle.scheme_model.specs.Meaning.{Meaning, Local, Global, Standard, Free}
use Rattle.scheme_model.specs.Entries.{Source, Origin, same_source, same_origin, has_origin, origins_of_both}
use Rattle.syntax_tree.specs.Meant.{IsSource, IsOrigin, AreOrigins}
use Rattle.syntax_tree.specs.declared.units.Origin as code
use Rattle.syntax_tree.proofs.InternLaws.{bytes_itself}
use Rattle.import_sets.specs.Given as given

-- ---- the same source

sources_same : (m : Meaning) (a b : Option Occ) (s t : Source) → IsSource m a s → IsSource m b t → given.same_place a b ≡ same_source s t
sources_same m (Some a) (Some b) s t h k = sym (λ j. same_source (h j) (k j))
sources_same (Local v) (Some a) None s t h k = absurd k
sources_same (Global u i) (Some a) None s t h k = absurd k
sources_same (Standard n) (Some a) None s t h k = sym (λ j. same_source (h j) (k j))
sources_same (Free n) (Some a) None s t h k = absurd k
sources_same (Local v) None b s t h k = absurd h
sources_same (Global u i) None b s t h k = absurd h
sources_same (Standard n) None (Some b) s t h k = sym (λ j. same_source (h j) (k j))
sources_same (Standard n) None None s t h k = sym ((λ j. same_source (h j) (k j)) ∙ bytes_itself n)
sources_same (Free n) None b s t h k = absurd h

origins_same : (m : Meaning) (o p : code.Origin) (x y : Origin) → IsOrigin m o x → IsOrigin m p y → given.same_origin o p ≡ same_origin x y
origins_same m o p x y h k = λ j. sources_same m o.occ p.occ x.source y.source h.0 k.0 j && bytes_eq (h.1 j) (k.1 j)

origin_there : (m : Meaning) (os : List code.Origin) (p : code.Origin) (xs : List Origin) (y : Origin) → AreOrigins m os xs → IsOrigin m p y → given.has_origin os p ≡ has_origin xs y
origin_there m [] p [] y h k = refl
origin_there m [] p (x ∷ xs) y h k = absurd h
origin_there m (o ∷ os) p [] y h k = absurd h
origin_there m (o ∷ os) p (x ∷ xs) y h k = λ j. origins_same m o p x y h.0 k j || origin_there m os p xs y h.1 k j

-- ---- origins put together

origin_behind : (m : Meaning) (os : List code.Origin) (p : code.Origin) (xs : List Origin) (y : Origin) → AreOrigins m os xs → IsOrigin m p y → AreOrigins m (os ++ p ∷ []) (xs ++ y ∷ [])
origin_behind m [] p [] y h k = (k, tt)
origin_behind m [] p (x ∷ xs) y h k = absurd h
origin_behind m (o ∷ os) p [] y h k = absurd h
origin_behind m (o ∷ os) p (x ∷ xs) y h k = (h.0, origin_behind m os p xs y h.1 k)

unless_there : (m : Meaning) (os : List code.Origin) (p : code.Origin) (xs : List Origin) (y : Origin) (b c : Bool) → b ≡ c → AreOrigins m os xs → IsOrigin m p y →
    AreOrigins m (cond b os (os ++ p ∷ [])) (cond c xs (xs ++ y ∷ []))
unless_there m os p xs y true true e h k = h
unless_there m os p xs y true false e h k = absurd cc
unless_there m os p xs y false true e h k = absurd cc
unless_there m os p xs y false false e h k = origin_behind m os p xs y h k

pub both_stand : (m : Meaning) (os ps : List code.Origin) (xs ys : List Origin) → AreOrigins m os xs → AreOrigins m ps ys → AreOrigins m (given.both os ps) (origins_of_both xs ys)
both_stand m os [] xs [] h k = h
both_stand m os [] xs (y ∷ ys) h k = absurd k
both_stand m os (p ∷ ps) xs [] h k = absurd k
both_stand m os (p ∷ ps) xs (y ∷ ys) h k =
    both_stand m (cond (given.has_origin os p) os (os ++ p ∷ [])) ps (cond (has_origin xs y) xs (xs ++ y ∷ [])) ys
    (unless_there m os p xs y (given.has_origin os p) (has_origin xs y) (origin_there m os p xs y h k.0) h k.0) k.1

-- origins are added one after another
pub both-append : (os ps qs : List code.Origin) → given.both os (ps ++ qs) ≡ given.both (given.both os ps) qs
both-append os [] qs = refl
both-append os (p ∷ ps) qs = both-append (cond (given.has_origin os p) os (os ++ p ∷ [])) ps qs
