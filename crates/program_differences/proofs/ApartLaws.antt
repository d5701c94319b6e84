-- What is found first in one stretch after another, and that what agrees with nothing left out agrees whatever is.
use Rattle.std.proofs.Common.{◌≡◌, ℕ, suc, ◌+◌, ◌-◌, ◌<◌, ◌≤◌, List, [], ◌∷◌, ◌++◌, Bool, true, false, Option, Some, None, refl, sym, ap, ◌∙◌, subst, arith, add-one}
use Rattle.std.specs.Prelude.{◌&&◌, ◌||◌}
use Rattle.std.specs.Option.{is_some}
use Rattle.scheme_model.specs.declared.Occ.{Occ}
use Rattle.scheme_model.specs.Program.{UnitResult}
use Rattle.scheme_model.specs.Substitution.{Table}
use Rattle.rename_model.specs.Walks.{Point}
use Rattle.rename_model.specs.SameProgram.{Partners, agree, paired, at_template, Agree, Stretch, stretch, AllAgree, form_points_at, form_stretches}
use Rattle.rename_model.specs.Difference as model
use Rattle.rename_model.specs.Difference.{first_apart, apart_in, first_among}
use Rattle.rename_model.proofs.SameLaws.{none_all, all_none}
use Rattle.syntax_tree.specs.Names.{Names}
use Rattle.alpha_equal.specs.declared.points.Pair.{Pair}
use Rattle.alpha_equal.specs.Points.{ArePair}
use Rattle.program_differences.specs.declared.listed.Apart.{Apart}
use Rattle.program_differences.specs.Apart.{at_form, AreFound, FindsFirst}

-- ---- one stretch after another

abbrev either : {A : Type 0} → Option A → Option A → Option A
either None other = other
either (Some a) other = Some a

append_either : (live : Option Occ → Bool) (xs ys : List Stretch) → first_among live (xs ++ ys) ≡ either (first_among live xs) (first_among live ys)
append_either live [] ys = refl
append_either live (x ∷ xs) ys = ap (apart_in x (first_apart live [] x.old x.new)) (append_either live xs ys) ∙ inside (first_apart live [] x.old x.new)
  where
    inside : (q : Option (Point × Point)) → apart_in x q (either (first_among live xs) (first_among live ys)) ≡ either (apart_in x q (first_among live xs)) (first_among live ys)
    inside None = refl
    inside (Some p) = refl

pub none_found : (names : Names) (q : Option model.Apart) → AreFound names None q → q ≡ None
none_found names None h = refl
none_found names (Some a) h = absurd h

pub found_first : (names : Names) (live : Option Occ → Bool) (xs ys : List Stretch) (c : Apart) → FindsFirst names live xs (Some c) → FindsFirst names live (xs ++ ys) (Some c)
found_first names live xs ys c h = subst (AreFound names (Some c)) (sym (append_either live xs ys)) (go (first_among live xs) h)
  where
    go : (q : Option model.Apart) → AreFound names (Some c) q → AreFound names (Some c) (either q (first_among live ys))
    go None h = absurd h
    go (Some a) h = h

pub none_next : (names : Names) (live : Option Occ → Bool) (xs ys : List Stretch) → FindsFirst names live xs None → first_among live (xs ++ ys) ≡ first_among live ys
none_next names live xs ys h = append_either live xs ys ∙ ap (λ (q : Option model.Apart). either q (first_among live ys)) (none_found names (first_among live xs) h)

pub found_next : (names : Names) (live : Option Occ → Bool) (xs ys : List Stretch) (found : Option Apart) → FindsFirst names live xs None → FindsFirst names live ys found → FindsFirst names live (xs ++ ys) found
found_next names live xs ys found none h = subst (AreFound names found) (sym (none_next names live xs ys none)) h

pub found_here : (names : Names) (live : Option Occ → Bool) (xs ys : List Stretch) (found : Option Apart) → is_some found ≡ true → FindsFirst names live xs found → FindsFirst names live (xs ++ ys) found
found_here names live xs ys None e h = absurd cc
found_here names live xs ys (Some c) e h = found_first names live xs ys c h

pub found_past : (names : Names) (live : Option Occ → Bool) (xs ys : List Stretch) (found : Option Apart) → is_some found ≡ false → FindsFirst names live xs found → first_among live (xs ++ ys) ≡ first_among live ys
found_past names live xs ys None e h = none_next names live xs ys h
found_past names live xs ys (Some c) e h = absurd cc

-- ---- the two points of a stretch

pub pair_found : (names : Names) (live : Option Occ → Bool) (s : Stretch) (pair : Option Pair) → ArePair names s.unit s.form pair (first_apart live [] s.old s.new) → FindsFirst names live (s ∷ []) (at_form s.unit s.form pair)
pair_found names live s pair h = go pair (first_apart live [] s.old s.new) h
  where
    go : (pair : Option Pair) (q : Option (Point × Point)) → ArePair names s.unit s.form pair q → AreFound names (at_form s.unit s.form pair) (apart_in s q None)
    go None None h = tt
    go None (Some q) h = absurd h
    go (Some c) None h = absurd h
    go (Some c) (Some q) h = record { unit = refl; form = refl; old = h.0; new = h.1 }

placed_some : (unit form : ℕ) (pair : Option Pair) → is_some (at_form unit form pair) ≡ is_some pair
placed_some unit form None = refl
placed_some unit form (Some c) = refl

-- what is found in a form of a unit is the first of what follows, or what follows has the first
pub pair_here : (names : Names) (live : Option Occ → Bool) (s : Stretch) (rest : List Stretch) (pair : Option Pair) → is_some pair ≡ true → ArePair names s.unit s.form pair (first_apart live [] s.old s.new) →
    FindsFirst names live (s ∷ rest) (at_form s.unit s.form pair)
pair_here names live s rest pair e h =
    found_here names live (s ∷ []) rest (at_form s.unit s.form pair) (placed_some s.unit s.form pair ∙ e) (pair_found names live s pair h)

pub pair_past : (names : Names) (live : Option Occ → Bool) (s : Stretch) (rest : List Stretch) (pair : Option Pair) → is_some pair ≡ false → ArePair names s.unit s.form pair (first_apart live [] s.old s.new) →
    first_among live (s ∷ rest) ≡ first_among live rest
pair_past names live s rest pair e h =
    found_past names live (s ∷ []) rest (at_form s.unit s.form pair) (placed_some s.unit s.form pair ∙ e) (pair_found names live s pair h)

-- ---- the forms of a unit

-- one form after another
pub next_form : (live : Option Occ → Bool) (t u : Table) (unit : ℕ) (o n : Option UnitResult) (form count : ℕ) → form < count →
    first_among live (form_stretches t u unit o n form (count - form))
    ≡ first_among live (stretch unit form (form_points_at t o form) (form_points_at u n form) ∷ form_stretches t u unit o n (form + 1) (count - (form + 1)))
next_form live t u unit o n form count lt =
    let more : count - form ≡ suc (count - (form + 1)) = omega arith in
    ap (λ (m : ℕ). first_among live (form_stretches t u unit o n form m)) more
    ∙ ap (λ (m : ℕ). first_among live (stretch unit form (form_points_at t o form) (form_points_at u n form) ∷ form_stretches t u unit o n m (count - (form + 1)))) (sym (add-one form))

pub no_form : (live : Option Occ → Bool) (t u : Table) (unit : ℕ) (o n : Option UnitResult) (form count : ℕ) → count ≤ form → first_among live (form_stretches t u unit o n form (count - form)) ≡ None
no_form live t u unit o n form count le =
    let none : count - form ≡ 0 = omega arith in ap (λ (m : ℕ). first_among live (form_stretches t u unit o n form m)) none

-- ---- with nothing left out

abbrev none_live : Option Occ → Bool
none_live o = false

agree_more : (live : Option Occ → Bool) (ps : Partners) (os ns : List Point) → Agree none_live ps os ns → Agree live ps os ns
agree_more live ps [] [] h = tt
agree_more live ps [] (n ∷ ns) h = absurd h
agree_more live ps (o ∷ os) [] h = absurd h
agree_more live ps (o ∷ os) (n ∷ ns) h = (more (at_template o.spot) (live o.occ) (agree ps o.seen n.seen) h.0, agree_more live (paired o.seen n.seen ++ ps) os ns h.1)
  where
    more : (a l b : Bool) → ((a && false) || b) ≡ true → ((a && l) || b) ≡ true
    more true true b h = refl
    more true false b h = h
    more false l b h = h

all_more : (live : Option Occ → Bool) (ss : List Stretch) → AllAgree none_live ss → AllAgree live ss
all_more live [] h = tt
all_more live (s ∷ ss) h = (agree_more live [] s.old s.new h.0, all_more live ss h.1)

pub none_more : (live : Option Occ → Bool) (ss : List Stretch) → first_among (λ o. false) ss ≡ None → first_among live ss ≡ None
none_more live ss h = all_none live ss (all_more live ss (none_all none_live ss h))
