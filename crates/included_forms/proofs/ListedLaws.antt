-- What is written out by what is counted.
use Rattle.std.proofs.Common.{◌≡◌, ℕ, zero, suc, List, [], ◌∷◌, ◌++◌, length, take, map, Bool, refl, sym, ap, ◌∙◌, arith}
use Rattle.scheme_model.specs.Included as model
use Rattle.scheme_model.specs.Included.{Listing, Lists, BadAfter, TooLong, with_lost, in_a_row}
use Rattle.included_forms.specs.declared.steps.FlatForm.{FlatForm}
use Rattle.included_forms.specs.declared.given.Given.{Given}
use Rattle.included_forms.specs.declared.given.LostString.{LostString}
use Rattle.included_forms.specs.declared.given.Part.{Part}
use Rattle.included_forms.specs.declared.given.Written.{Written}
use Rattle.included_forms.specs.declared.losing.Visit.{Visit}
use Rattle.included_forms.specs.Steps.{form_of}
use Rattle.included_forms.specs.Counted.{Counted, BadBehind, TooMany, tally_of, listing_of, IsWritten}
use Rattle.included_forms.specs.Losses.{lost_in, AreFresh, AreSeen}
use Rattle.included_forms.specs.Listed.{IsLists}
use Rattle.included_forms.proofs.WritingLaws.{without_bad, giving_row}
use Rattle.included_forms.proofs.LosingLaws.{row_once}

pub counted_lists : (l : Listing) (n : ℕ) (e : Bool) → Counted n e ≡ tally_of l → IsLists l
counted_lists (Lists m fs ls) n e h = (m, fs, ls, refl)
counted_lists (BadAfter m x) n e h = absurd cc
counted_lists TooLong n e h = absurd cc

pub bad_there : (l : Listing) (n : ℕ) (x : model.Homed) → BadBehind n x ≡ tally_of l → l ≡ BadAfter n x
bad_there (Lists m fs ls) n x h = absurd cc
bad_there (BadAfter m y) n x h = let a : n ≡ m = cc in let b : x ≡ y = cc in λ j. BadAfter (sym a j) (sym b j)
bad_there TooLong n x h = absurd cc

pub long_there : (l : Listing) → TooMany ≡ tally_of l → l ≡ TooLong
long_there (Lists m fs ls) h = absurd cc
long_there (BadAfter m y) h = absurd cc
long_there TooLong h = refl

take_all : (gs : List model.Given) (n : ℕ) → length gs ≡ n → take n gs ≡ gs
take_all [] zero h = refl
take_all [] (suc n) h = refl
take_all (g ∷ gs) zero h = absurd (omega arith)
take_all (g ∷ gs) (suc n) h = ap (λ (xs : List model.Given). g ∷ xs) (take_all gs n (omega arith))

-- the steps of what is written list what it lists
pub steps_list : (limit : ℕ) (gs : List model.Given) (parts : ℕ) (w : Written) (l : Listing) (n : ℕ) (fs : List model.FlatForm) (ls : List model.LostString) → length gs ≡ parts → IsWritten limit gs w l → l ≡ Lists n fs ls →
    in_a_row limit (map (listing_of (take parts gs)) w.steps.items) ≡ Lists n fs ls
steps_list limit gs parts w l n fs ls many h e =
    ap (λ (xs : List model.Given). in_a_row limit (map (listing_of xs) w.steps.items)) (take_all gs parts many) ∙ without_bad limit (map (listing_of gs) w.steps.items) w.bad n fs ls (h.listing ∙ e)

-- and those that give forms list its forms
pub giving_list : (limit : ℕ) (gs : List model.Given) (parts : ℕ) (w : Written) (l : Listing) (n : ℕ) (fs : List model.FlatForm) (ls : List model.LostString) (giving : List Given) → length gs ≡ parts → IsWritten limit gs w l → l ≡ Lists n fs ls →
    giving ≡ w.giving.items → (m : ℕ) × (ks : List model.LostString) × (in_a_row limit (map (listing_of (take parts gs)) giving) ≡ Lists m fs ks)
giving_list limit gs parts w l n fs ls giving many h e is =
    let r = giving_row limit gs w.steps.items n fs ls (without_bad limit (map (listing_of gs) w.steps.items) w.bad n fs ls (h.listing ∙ e)) in (
      r.tokens,
      r.strings,
      ap (λ (xs : List model.Given). in_a_row limit (map (listing_of xs) giving)) (take_all gs parts many) ∙ ap (λ (xs : List Given). in_a_row limit (map (listing_of gs) xs)) (is ∙ h.giving) ∙ r.row,
    )

pub fresh_seen : (gs : List model.Given) (visits : List Visit) (parts : List Part) (found : List LostString) → AreFresh visits parts → AreSeen gs visits found
fresh_seen gs visits parts found h = λ k v w is was n fs ls e. let no_visit = h.none k v w is in absurd cc

-- all that was found, where nothing was before
pub only_strings : (limit : ℕ) (xs : List Listing) (n : ℕ) (fs : List model.FlatForm) (ls : List model.LostString) (old new : List LostString) → in_a_row limit xs ≡ Lists n fs ls → old ≡ [] → lost_in new ≡ with_lost ls (lost_in old) → lost_in new ≡ ls
only_strings limit xs n fs ls old new e none h = h ∙ ap (λ (found : List LostString). with_lost ls (lost_in found)) none ∙ row_once limit xs n fs ls e

pub only_forms : (old new : List FlatForm) (fs : List model.FlatForm) → old ≡ [] → map form_of new ≡ map form_of old ++ fs → map form_of new ≡ fs
only_forms old new fs none e = e ∙ ap (λ (xs : List FlatForm). map form_of xs ++ fs) none
