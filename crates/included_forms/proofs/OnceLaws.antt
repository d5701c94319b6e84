-- Strings, each once.
use Rattle.std.proofs.Common.{◌≡◌, ℕ, ◌+◌, ◌<◌, ◌≤◌, List, ◌∷◌, [], ◌++◌, length, get_or, take, map, reverse, Bool, true, false, cond, not, refl, sym, ap, ◌∙◌, arith}
use Rattle.std.specs.Prelude.{◌&&◌, ◌||◌, ◌==◌, if◌then◌else◌}
use Rattle.std.specs.List.{list_any}
use Rattle.std.specs.Ordering.{nat_cmp, is_eq}
use Rattle.std.specs.Cmp.{tied_then}
use Rattle.std.proofs.lemmas.Bool.Decides.{nat_tests}
use Rattle.std.proofs.lemmas.List.{take_more, take_all, map-append, reverse-append}
use Rattle.scheme_model.specs.Included as model
use Rattle.scheme_model.specs.Included.{with_one}
use Rattle.included_forms.specs.declared.given.LostString.{LostString}
use Rattle.included_forms.specs.declared.once.Spot.{Spot}
use Rattle.included_forms.specs.Counted.{lost_of}
use Rattle.included_forms.specs.Losses.{lost_in, spot_of, spot_cmp, stands_at}
use Rattle.included_forms.proofs.LosingLaws.{lost_push}

-- ---- places

numbers_equal : (a b : ℕ) → is_eq (nat_cmp a b) ≡ (a == b)
numbers_equal a b = grind (arith, nat_tests)

flip : (a b : ℕ) → (a == b) ≡ (b == a)
flip a b = grind (arith, nat_tests)

one_spot : (l : model.LostString) (s : Spot) → is_eq (spot_cmp (spot_of l) s) ≡ stands_at s l
one_spot l s =
    sym (tied_then (nat_cmp l.document s.document) (nat_cmp l.string.place.start s.start))
    ∙ (λ j. (numbers_equal l.document s.document ∙ flip l.document s.document) j && (numbers_equal l.string.place.start s.start ∙ flip l.string.place.start s.start) j)

same_number : (a b : ℕ) → (a == b) ≡ true → a ≡ b
same_number a b h = grind (arith, nat_tests)

first_true : (a b : Bool) → (a && b) ≡ true → a ≡ true
first_true true b h = refl
first_true false b h = absurd cc

second_true : (a b : Bool) → (a && b) ≡ true → b ≡ true
second_true true b h = h
second_true false b h = absurd cc

-- what stands where another does is at the place of the same strings
there_too : (l : model.LostString) (s : Spot) (ks : List model.LostString) → stands_at s l ≡ true → list_any (stands_at (spot_of l)) ks ≡ list_any (stands_at s) ks
there_too l s ks h =
    let document : s.document ≡ l.document = same_number s.document l.document (first_true (s.document == l.document) (s.start == l.string.place.start) h) in
    let start : s.start ≡ l.string.place.start = same_number s.start l.string.place.start (second_true (s.document == l.document) (s.start == l.string.place.start) h) in
    λ j. list_any (stands_at (record { document = sym document j; start = sym start j })) ks

-- one string more
pub one_more : (l : model.LostString) (s : Spot) (ks : List model.LostString) (old new : Bool) → old ≡ list_any (stands_at s) ks → new ≡ cond (is_eq (spot_cmp (spot_of l) s)) true old → new ≡ list_any (stands_at s) (with_one l ks)
one_more l s ks old new h n = n ∙ ap (λ (b : Bool). cond b true old) (one_spot l s) ∙ by (list_any (stands_at (spot_of l)) ks) refl (stands_at s l) refl
  where
    by : (t : Bool) → list_any (stands_at (spot_of l)) ks ≡ t → (b : Bool) → stands_at s l ≡ b → cond b true old ≡ list_any (stands_at s) (if t then ks else l ∷ ks)
    by true e true q = sym (sym (there_too l s ks q) ∙ e)
    by true e false q = h
    by false e true q = sym (ap (λ (b : Bool). b || list_any (stands_at s) ks) q)
    by false e false q = h ∙ sym (ap (λ (b : Bool). b || list_any (stands_at s) ks) q)

-- ---- strings one after another

module _ (found : List LostString) (i : ℕ) (s : LostString) (low : i < length found) (is : s ≡ get_or found i s) where
  pub found_more : lost_in (take (i + 1) found) ≡ with_one (lost_of s) (lost_in (take i found))
  found_more = ap lost_in (take_more found i s low ∙ ap (λ (x : LostString). take i found ++ x ∷ []) (sym is)) ∙ lost_push (take i found) s

  -- it is new
  pub kept_more : (old new : List LostString) → reverse (map lost_of old) ≡ lost_in (take i found) → list_any (stands_at (spot_of (lost_of s))) (lost_in (take i found)) ≡ false → new ≡ old ++ s ∷ [] →
      reverse (map lost_of new) ≡ lost_in (take (i + 1) found)
  kept_more old new h fresh e =
      ap (λ (xs : List LostString). reverse (map lost_of xs)) e ∙ ap reverse (map-append lost_of old (s ∷ [])) ∙ reverse-append (map lost_of old) (lost_of s ∷ [])
      ∙ ap (λ (ls : List model.LostString). lost_of s ∷ ls) h ∙ sym (ap (λ (b : Bool). if b then lost_in (take i found) else lost_of s ∷ lost_in (take i found)) fresh) ∙ sym found_more

  -- another stands there
  pub kept_same : (old : List LostString) → reverse (map lost_of old) ≡ lost_in (take i found) → list_any (stands_at (spot_of (lost_of s))) (lost_in (take i found)) ≡ true → reverse (map lost_of old) ≡ lost_in (take (i + 1) found)
  kept_same old h there = h ∙ sym (ap (λ (b : Bool). if b then lost_in (take i found) else lost_of s ∷ lost_in (take i found)) there) ∙ sym found_more

map_reverse : (xs : List LostString) → map lost_of (reverse xs) ≡ reverse (map lost_of xs)
map_reverse [] = refl
map_reverse (x ∷ xs) =
    ap (map lost_of) (reverse-append (x ∷ []) xs) ∙ map-append lost_of (reverse xs) (x ∷ []) ∙ ap (λ (ls : List model.LostString). ls ++ lost_of x ∷ []) (map_reverse xs)
    ∙ sym (reverse-append (lost_of x ∷ []) (map lost_of xs))

-- all strings, in their order
pub all_kept : (found old new : List LostString) (i : ℕ) → length found ≤ i → reverse (map lost_of old) ≡ lost_in (take i found) → new ≡ reverse old → map lost_of new ≡ lost_in found
all_kept found old new i over h e = ap (map lost_of) e ∙ map_reverse old ∙ h ∙ ap lost_in (take_all i found over)

-- ---- whether a place was new

pub was_new : (added there : Bool) → added ≡ not there → added ≡ true → there ≡ false
was_new added true e h = absurd cc
was_new added false e h = refl

pub was_there : (added there : Bool) → added ≡ not there → added ≡ false → there ≡ true
was_there added true e h = refl
was_there added false e h = absurd cc
