-- Sets of origins by their keys.
use Rattle.std.proofs.Common.{◌≡◌, ℕ, ◌+◌, ◌<◌, Bool, true, false, cond, List, [], ◌∷◌, ◌++◌, take, length, get_or, Option, Some, None, refl, sym, ap, ◌∙◌, arith}
use Rattle.std.specs.Prelude.{◌&&◌, ◌||◌, ◌==◌}
use Rattle.std.specs.Cmp.Lexicographic.{slice_cmp}
use Rattle.std.specs.Option.{option_cmp}
use Rattle.std.specs.Ordering.{nat_cmp, ordering_then, is_eq}
use Rattle.std.specs.declared.cmp.Ordering.{Ordering}
use Rattle.std.specs.declared.cmp.Ordering.TheVariants.{Less, Equal, Greater}
use Rattle.std.proofs.lemmas.Bool.Decides.{nat_tests}
use Rattle.std.proofs.lemmas.List.Folds.{list_any_more, list_any-append}
use Rattle.std.proofs.lemmas.Map.Text.{is_eq-slice_cmp}
use Rattle.scheme_model.specs.declared.Occ.{Occ}
use Rattle.scheme_model.specs.Entries.{same_occ}
use Rattle.syntax_tree.specs.declared.units.Origin.{Origin}
use Rattle.import_sets.specs.Given.{occ_cmp, key_cmp, key_of, same_place, same_origin, has_origin}

both_equal : (a b : Ordering) → is_eq (ordering_then a b) ≡ (is_eq a && is_eq b)
both_equal Less b = refl
both_equal Equal b = refl
both_equal Greater b = refl

numbers_equal : (a b : ℕ) → is_eq (nat_cmp a b) ≡ (a == b)
numbers_equal a b = grind (arith, nat_tests)

occs_equal : (o p : Occ) → is_eq (occ_cmp o p) ≡ same_occ o p
occs_equal o p =
    both_equal (nat_cmp o.unit p.unit) (ordering_then (nat_cmp o.form p.form) (nat_cmp o.token p.token))
    ∙ (λ j. numbers_equal o.unit p.unit j && (both_equal (nat_cmp o.form p.form) (nat_cmp o.token p.token) ∙ (λ i. numbers_equal o.form p.form i && numbers_equal o.token p.token i)) j)

places_equal : (a b : Option Occ) → is_eq (option_cmp occ_cmp a b) ≡ same_place a b
places_equal None None = refl
places_equal None (Some p) = refl
places_equal (Some o) None = refl
places_equal (Some o) (Some p) = occs_equal o p

origins_equal : (p o : Origin) → is_eq (key_cmp (key_of p) (key_of o)) ≡ same_origin p o
origins_equal p o =
    both_equal (option_cmp occ_cmp p.occ o.occ) (slice_cmp nat_cmp p.prefix o.prefix)
    ∙ (λ j. places_equal p.occ o.occ j && is_eq-slice_cmp p.prefix o.prefix j)

or_of : (b x : Bool) → cond b true x ≡ (x || b)
or_of true true = refl
or_of true false = refl
or_of false true = refl
or_of false false = refl

or_false : (b : Bool) → (b || false) ≡ b
or_false true = refl
or_false false = refl

-- a set of origins has one more
added : (p o : Origin) (key : Option Occ × List ℕ) (old new : Bool) → key ≡ key_of p → new ≡ cond (is_eq (key_cmp key (key_of o))) true old → new ≡ (old || same_origin p o)
added p o key old new k n = n ∙ (λ j. cond (is_eq (key_cmp (k j) (key_of o))) true old) ∙ ap (λ (b : Bool). cond b true old) (origins_equal p o) ∙ or_of (same_origin p o) old

pub keys_more : (os : List Origin) (i : ℕ) (p o : Origin) (key : Option Occ × List ℕ) (old new : Bool) → i < length os → p ≡ get_or os i p → key ≡ key_of p → old ≡ has_origin (take i os) o →
    new ≡ cond (is_eq (key_cmp key (key_of o))) true old → new ≡ has_origin (take (i + 1) os) o
keys_more os i p o key old new lt is k h n =
    added p o key old new k n ∙ (λ j. h j || same_origin (is j) o) ∙ sym (list_any_more (λ (x : Origin). same_origin x o) os i p lt)

pub keys_pushed : (os : List Origin) (p o : Origin) (key : Option Occ × List ℕ) (old new : Bool) → key ≡ key_of p → old ≡ has_origin os o →
    new ≡ cond (is_eq (key_cmp key (key_of o))) true old → new ≡ has_origin (os ++ p ∷ []) o
keys_pushed os p o key old new k h n =
    added p o key old new k n ∙ ap (λ (b : Bool). b || same_origin p o) h ∙ ap (λ (b : Bool). has_origin os o || b) (sym (or_false (same_origin p o))) ∙ sym (list_any-append (λ (x : Origin). same_origin x o) os (p ∷ []))
