-- The forms that steps give, one step after another.
use Rattle.std.proofs.Common.{◌≡◌, ℕ, ◌+◌, ◌<◌, ◌≤◌, List, [], ◌∷◌, ◌++◌, append_assoc, append-nil, length, get_or, drop, map, Bool, true, false, Option, Some, None, refl, sym, ap, ◌∙◌, arith}
use Rattle.std.specs.Prelude.{nat_lt, not, if◌then◌else◌}
use Rattle.std.specs.List.{filter}
use Rattle.std.proofs.lemmas.Bool.Decides.{nat_tests}
use Rattle.std.proofs.lemmas.List.{drop_more, at_drop_all, map-append}
use Rattle.scheme_model.specs.Included as model
use Rattle.scheme_model.specs.Included.{Listing, Lists, BadAfter, TooLong, nothing, bad, with_lost, followed, in_a_row, given_at}
use Rattle.included_forms.specs.declared.steps.Source.{Source}
use Rattle.included_forms.specs.declared.steps.FlatForm.{FlatForm}
use Rattle.included_forms.specs.declared.given.Given.{Given}
use Rattle.included_forms.specs.Steps.{homed_of, form_of}
use Rattle.included_forms.specs.Planned.{bad_one}
use Rattle.included_forms.specs.Counted.{is_none, tally_of, counts_none, gives, listing_of}
use Rattle.included_forms.proofs.InRows.{bad_alone}
use Rattle.included_forms.proofs.TableLaws.{Splits, splits}

-- ---- what gives no forms

pub none_given : (l : Listing) (n : ℕ) (fs : List model.FlatForm) (ls : List model.LostString) → l ≡ nothing → l ≡ Lists n fs ls → fs ≡ []
none_given l n fs ls e is = let same : Lists 0 [] [] ≡ Lists n fs ls = sym e ∙ is in cc

pub unchanged : (forms : List FlatForm) (fs : List model.FlatForm) → fs ≡ [] → map form_of forms ≡ map form_of forms ++ fs
unchanged forms fs e = sym (ap (λ (gs : List model.FlatForm). map form_of forms ++ gs) e ∙ append-nil (map form_of forms))

-- ---- a bad declaration behind

no_lists : (limit : ℕ) (xs : List Listing) (s : Source) (n : ℕ) (fs : List model.FlatForm) (ls : List model.LostString) → in_a_row limit (xs ++ bad (homed_of s) ∷ []) ≡ Lists n fs ls → ⊥
no_lists limit [] s n fs ls e = let same : BadAfter 0 (homed_of s) ≡ Lists n fs ls = sym (bad_alone limit (homed_of s)) ∙ e in absurd cc
no_lists limit (x ∷ xs) s n fs ls e =
    let h = splits limit x (xs ++ bad (homed_of s) ∷ []) n fs ls e in no_lists limit xs s h.other_tokens h.other_forms h.other_strings h.others

pub without_bad : (limit : ℕ) (xs : List Listing) (b : Option Source) (n : ℕ) (fs : List model.FlatForm) (ls : List model.LostString) → in_a_row limit (xs ++ bad_one b) ≡ Lists n fs ls → in_a_row limit xs ≡ Lists n fs ls
without_bad limit xs None n fs ls e = ap (in_a_row limit) (sym (append-nil xs)) ∙ e
without_bad limit xs (Some s) n fs ls e = absurd (no_lists limit xs s n fs ls e)

-- ---- the steps that give forms

nothing_counted : (l : Listing) (n : ℕ) (fs : List model.FlatForm) (ls : List model.LostString) → not (counts_none (tally_of l)) ≡ false → l ≡ Lists n fs ls → fs ≡ []
nothing_counted l n fs ls h is = go fs (sym (ap (λ x. not (counts_none (tally_of x))) is) ∙ h)
  where
    go : (gs : List model.FlatForm) → not (is_none gs) ≡ false → gs ≡ []
    go [] q = refl
    go (g ∷ gs) q = absurd cc

-- these list the forms
pub record GivingRow (limit : ℕ) (gs : List model.Given) (ss : List Given) (n : ℕ) (fs : List model.FlatForm) : Type 0 where
  pub tokens : ℕ
  pub strings : List model.LostString
  pub row : in_a_row limit (map (listing_of gs) (filter (gives gs) ss)) ≡ Lists tokens fs strings
  pub few : tokens ≤ n

pub giving_row : (limit : ℕ) (gs : List model.Given) (ss : List Given) (n : ℕ) (fs : List model.FlatForm) (ls : List model.LostString) → in_a_row limit (map (listing_of gs) ss) ≡ Lists n fs ls → GivingRow limit gs ss n fs
giving_row limit gs [] n fs ls e = record { tokens = n; strings = ls; row = e; few = omega arith }
giving_row limit gs (s ∷ ss) n fs ls e = by (gives gs s) refl (giving_row limit gs ss h.other_tokens h.other_forms h.other_strings h.others)
  where
    h : Splits limit (listing_of gs s) (map (listing_of gs) ss) n fs ls
    h = splits limit (listing_of gs s) (map (listing_of gs) ss) n fs ls e

    rest : List Given
    rest = filter (gives gs) ss

    by : (b : Bool) → gives gs s ≡ b → GivingRow limit gs ss h.other_tokens h.other_forms → GivingRow limit gs (s ∷ ss) n fs
    by false q r =
        let none : h.forms ≡ [] = nothing_counted (listing_of gs s) h.tokens h.forms h.strings q h.first in
        let few = r.few in
        let sum = h.sum in
        record {
          tokens = r.tokens;
          strings = r.strings;
          row = ap (λ b. in_a_row limit (map (listing_of gs) (if b then s ∷ rest else rest))) q ∙ r.row ∙ ap (λ xs. Lists r.tokens xs r.strings) (sym (h.all ∙ ap (λ xs. xs ++ h.other_forms) none));
          few = omega arith;
        }
    by true q r =
        let few = r.few in
        let sum = h.sum in
        let low : nat_lt limit (h.tokens + r.tokens) ≡ false = let within = h.within in grind (arith, nat_tests) in
        record {
          tokens = h.tokens + r.tokens;
          strings = with_lost h.strings r.strings;
          row =
              ap (λ b. in_a_row limit (map (listing_of gs) (if b then s ∷ rest else rest))) q ∙ (λ j. followed limit (h.first j) (r.row j))
              ∙ ap (λ b. if b then TooLong else Lists (h.tokens + r.tokens) (h.forms ++ h.other_forms) (with_lost h.strings r.strings)) low
              ∙ ap (λ xs. Lists (h.tokens + r.tokens) xs (with_lost h.strings r.strings)) (sym h.all);
          few = omega arith;
        }

-- ---- steps one after another

-- these are the forms of the steps that are left
pub record LeftToWrite (limit : ℕ) (gs : List model.Given) (ss : List Given) (i : ℕ) (old now : List FlatForm) (fs : List model.FlatForm) : Type 0 where
  pub tokens : ℕ
  pub forms : List model.FlatForm
  pub strings : List model.LostString
  pub rest : in_a_row limit (map (listing_of gs) (drop i ss)) ≡ Lists tokens forms strings
  pub written : map form_of old ++ fs ≡ map form_of now ++ forms

pub left_first : (limit : ℕ) (gs : List model.Given) (ss : List Given) (old : List FlatForm) (n : ℕ) (fs : List model.FlatForm) (ls : List model.LostString) → in_a_row limit (map (listing_of gs) ss) ≡ Lists n fs ls → LeftToWrite limit gs ss 0 old old fs
left_first limit gs ss old n fs ls e = record { tokens = n; forms = fs; strings = ls; rest = e; written = refl }

module _ (limit : ℕ) (gs : List model.Given) (ss : List Given) (i : ℕ) (s : Given) (old now : List FlatForm) (fs : List model.FlatForm) (lt : i < length ss) (is : s ≡ get_or ss i s) (left : LeftToWrite limit gs ss i old now fs) where
  front : map (listing_of gs) (drop i ss) ≡ listing_of gs s ∷ map (listing_of gs) (drop (i + 1) ss)
  front = ap (map (listing_of gs)) (drop_more ss i s lt ∙ ap (λ (x : Given). x ∷ drop (i + 1) ss) (sym is))

  -- the step lists
  pub record StepLists : Type 0 where
    pub tokens : ℕ
    pub forms : List model.FlatForm
    pub strings : List model.LostString
    pub first : listing_of gs s ≡ Lists tokens forms strings
    pub further : (new : List FlatForm) → map form_of new ≡ map form_of now ++ forms → LeftToWrite limit gs ss (i + 1) old new fs

  pub step_lists : StepLists
  step_lists =
      let h = splits limit (listing_of gs s) (map (listing_of gs) (drop (i + 1) ss)) left.tokens left.forms left.strings (ap (in_a_row limit) (sym front) ∙ left.rest) in
      record {
        tokens = h.tokens;
        forms = h.forms;
        strings = h.strings;
        first = h.first;
        further = λ new e. record {
          tokens = h.other_tokens;
          forms = h.other_forms;
          strings = h.other_strings;
          rest = h.others;
          written = left.written ∙ ap (λ (gs : List model.FlatForm). map form_of now ++ gs) h.all ∙ sym (append_assoc (map form_of now) h.forms h.other_forms) ∙ ap (λ (gs : List model.FlatForm). gs ++ h.other_forms) (sym e);
        };
      }

pub left_end : (limit : ℕ) (gs : List model.Given) (ss : List Given) (i : ℕ) (old now : List FlatForm) (fs : List model.FlatForm) → length ss ≤ i → LeftToWrite limit gs ss i old now fs → map form_of now ≡ map form_of old ++ fs
left_end limit gs ss i old now fs h left =
    let none : left.forms ≡ [] = none_given (in_a_row limit (map (listing_of gs) (drop i ss))) left.tokens left.forms left.strings (at_drop_all (λ (xs : List Given). in_a_row limit (map (listing_of gs) xs)) ss i h) left.rest in
    unchanged now left.forms none ∙ sym left.written

-- ---- one form

pub one_form : (old new : List FlatForm) (f : FlatForm) (n m : ℕ) (fs : List model.FlatForm) (ls : List model.LostString) → new ≡ old ++ f ∷ [] → Lists n (form_of f ∷ []) [] ≡ Lists m fs ls → map form_of new ≡ map form_of old ++ fs
one_form old new f n m fs ls e is = let same : form_of f ∷ [] ≡ fs = cc in ap (map form_of) e ∙ map-append form_of old (f ∷ []) ∙ ap (λ (gs : List model.FlatForm). map form_of old ++ gs) same
