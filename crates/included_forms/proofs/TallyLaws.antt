-- What is left of listings without their forms and strings, one behind the other.
use Rattle.std.proofs.Common.{◌≡◌, ℕ, ◌+◌, List, [], ◌∷◌, ◌++◌, Bool, true, false, Option, Some, None, refl, sym, ap, ◌∙◌, arith}
use Rattle.std.specs.Prelude.{nat_lt, ◌&&◌, if◌then◌else◌}
use Rattle.scheme_model.specs.Included as model
use Rattle.scheme_model.specs.Included.{Homed, FlatForm, LostString, Listing, Lists, BadAfter, TooLong, nothing, joined, capped, followed, bad}
use Rattle.included_forms.specs.declared.steps.Source.{Source}
use Rattle.included_forms.specs.Steps.{homed_of}
use Rattle.included_forms.specs.Counted.{Tally, Counted, BadBehind, TooMany, is_none, tally_of, tally_capped, tally_joined, tally_followed, all_given}
use Rattle.included_forms.proofs.InRows.{bad_alone}

none_both : (fs gs : List FlatForm) → is_none (fs ++ gs) ≡ (is_none fs && is_none gs)
none_both [] gs = refl
none_both (f ∷ fs) gs = refl

joined_tally : (a b : Listing) → tally_of (joined a b) ≡ tally_joined (tally_of a) (tally_of b)
joined_tally TooLong b = refl
joined_tally (BadAfter n h) b = refl
joined_tally (Lists n fs ls) TooLong = refl
joined_tally (Lists n fs ls) (BadAfter m h) = refl
joined_tally (Lists n fs ls) (Lists m gs ks) = ap (Counted (n + m)) (none_both fs gs)

capped_tally : (limit : ℕ) (l : Listing) → tally_of (capped limit l) ≡ tally_capped limit (tally_of l)
capped_tally limit TooLong = refl
capped_tally limit (BadAfter n h) = go (nat_lt limit n)
  where
    go : (b : Bool) → tally_of (if b then TooLong else BadAfter n h) ≡ (if b then TooMany else BadBehind n h)
    go true = refl
    go false = refl
capped_tally limit (Lists n fs ls) = go (nat_lt limit n)
  where
    go : (b : Bool) → tally_of (if b then TooLong else Lists n fs ls) ≡ (if b then TooMany else Counted n (is_none fs))
    go true = refl
    go false = refl

pub followed_tally : (limit : ℕ) (a b : Listing) → tally_of (followed limit a b) ≡ tally_followed limit (tally_of a) (tally_of b)
followed_tally limit a b = capped_tally limit (joined a b) ∙ ap (tally_capped limit) (joined_tally a b)

-- ---- counts that are capped first

over : (limit n m : ℕ) → nat_lt limit n ≡ true → nat_lt limit (n + m) ≡ true
over limit n m e = grind arith

too_many : (limit n : ℕ) (e : Bool) (b : Tally) → nat_lt limit n ≡ true → tally_capped limit (tally_joined (Counted n e) b) ≡ TooMany
too_many limit n e TooMany q = refl
too_many limit n e (BadBehind m h) q = ap (λ x. if x then TooMany else BadBehind (n + m) h) (over limit n m q)
too_many limit n e (Counted m f) q = ap (λ x. if x then TooMany else Counted (n + m) (e && f)) (over limit n m q)

pub counted_first : (limit n : ℕ) (e : Bool) (b : Tally) → tally_followed limit (tally_capped limit (Counted n e)) b ≡ tally_followed limit (Counted n e) b
counted_first limit n e b = go (nat_lt limit n) refl
  where
    go : (x : Bool) → nat_lt limit n ≡ x → tally_followed limit (if x then TooMany else Counted n e) b ≡ tally_followed limit (Counted n e) b
    go true q = sym (too_many limit n e b q)
    go false q = refl

-- ---- the last of a row

pub none_tally : (limit : ℕ) (gs : List model.Given) (s : Option Source) → s ≡ None → Counted 0 true ≡ tally_of (all_given limit gs [] s)
none_tally limit gs s e = ap (λ o. tally_of (all_given limit gs [] o)) (sym e)

pub bad_tally : (limit : ℕ) (gs : List model.Given) (o : Option Source) (s : Source) → o ≡ Some s → BadBehind 0 (homed_of s) ≡ tally_of (all_given limit gs [] o)
bad_tally limit gs o s e = ap tally_of (sym (bad_alone limit (homed_of s))) ∙ ap (λ x. tally_of (all_given limit gs [] x)) (sym e)
