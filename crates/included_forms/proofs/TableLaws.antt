-- What the texts of a table give and count.
use Rattle.std.proofs.Common.{◌≡◌, ℕ, zero, suc, ◌+◌, ◌<◌, ◌≤◌, List, [], ◌∷◌, ◌++◌, length, get_or, take, drop, Bool, true, false, Option, Some, slice_get, refl, sym, ap, ◌∙◌, arith}
use Rattle.std.specs.Prelude.{nat_lt, if◌then◌else◌}
use Rattle.std.proofs.lemmas.List.{drop_more}
use Rattle.scheme_model.specs.Included as model
use Rattle.scheme_model.specs.Included.{Listing, Lists, BadAfter, TooLong, nothing, with_lost, followed, in_a_row, Texts, Sources, given_at, lost, given_or_lost, included_data, forms_of, declarations_of}
use Rattle.included_forms.specs.declared.steps.Source.{Source}
use Rattle.included_forms.specs.declared.steps.Way.{Way}
use Rattle.included_forms.specs.declared.steps.Way.TheVariants as way
use Rattle.included_forms.specs.declared.given.Given.{Given}
use Rattle.included_forms.specs.declared.given.Count.{Count}
use Rattle.included_forms.specs.declared.given.Part.{Part}
use Rattle.included_forms.specs.Counted.{Tally, tally_as, tally_of, tally_followed, in_way, listing_of, all_given, IsWritten, Stand, written_in}
use Rattle.included_forms.proofs.TallyLaws.{followed_tally}

-- ---- texts by their places

pub text_far : (gs : List model.Given) (k : ℕ) (w : Way) → length gs ≤ k → in_way (given_at gs k) w ≡ nothing
text_far [] k way.Forms h = refl
text_far [] k way.Declarations h = refl
text_far (g ∷ gs) zero w h = absurd (omega arith)
text_far (g ∷ gs) (suc k) w h = text_far gs k w (omega arith)

pub text_before : (gs : List model.Given) (n k : ℕ) → k < n → given_at (take n gs) k ≡ given_at gs k
text_before [] zero k h = absurd (omega arith)
text_before [] (suc n) k h = refl
text_before (g ∷ gs) zero k h = absurd (omega arith)
text_before (g ∷ gs) (suc n) zero h = refl
text_before (g ∷ gs) (suc n) (suc k) h = text_before gs n k (omega arith)

pub text_behind : (gs : List model.Given) (n k : ℕ) (w : Way) → n ≤ k → in_way (given_at (take n gs) k) w ≡ nothing
text_behind [] zero k way.Forms h = refl
text_behind [] zero k way.Declarations h = refl
text_behind [] (suc n) k way.Forms h = refl
text_behind [] (suc n) k way.Declarations h = refl
text_behind (g ∷ gs) zero k way.Forms h = refl
text_behind (g ∷ gs) zero k way.Declarations h = refl
text_behind (g ∷ gs) (suc n) zero w h = absurd (omega arith)
text_behind (g ∷ gs) (suc n) (suc k) w h = text_behind gs n k w (omega arith)

pub written_there : (limit : ℕ) (gs : List model.Given) (parts : List Part) (k : ℕ) (p : Part) (w : Way) → Stand limit gs parts → slice_get parts k ≡ Some p → IsWritten limit (take k gs) (written_in p w) (in_way (given_at gs k) w)
written_there limit gs parts k p way.Forms h is = (h.each k p is).forms
written_there limit gs parts k p way.Declarations h is = (h.each k p is).declarations

-- ---- one step before others

pub tally_more : (limit : ℕ) (gs : List model.Given) (ss : List Given) (bad : Option Source) (i : ℕ) (s : Given) (here behind new : Count) → i < length ss → s ≡ get_or ss i s →
    ((b : Tally) → tally_followed limit (tally_as here) b ≡ tally_followed limit (tally_of (listing_of gs s)) b) → tally_as behind ≡ tally_of (all_given limit gs (drop (i + 1) ss) bad) → tally_as new ≡ tally_followed limit (tally_as here) (tally_as behind) →
    tally_as new ≡ tally_of (all_given limit gs (drop i ss) bad)
tally_more limit gs ss bad i s here behind new lt is first others e =
    e ∙ first (tally_as behind) ∙ ap (tally_followed limit (tally_of (listing_of gs s))) others ∙ sym (followed_tally limit (listing_of gs s) (all_given limit gs (drop (i + 1) ss) bad))
    ∙ ap (λ (xs : List Given). tally_of (all_given limit gs xs bad)) (sym (drop_more ss i s lt ∙ ap (λ (x : Given). x ∷ drop (i + 1) ss) (sym is)))

-- ---- rows that are lists

-- a row that lists begins with what lists, and others list behind it
pub record Splits (limit : ℕ) (l : Listing) (ls : List Listing) (n : ℕ) (fs : List model.FlatForm) (ks : List model.LostString) : Type 0 where
  pub tokens : ℕ
  pub forms : List model.FlatForm
  pub strings : List model.LostString
  pub first : l ≡ Lists tokens forms strings
  pub other_tokens : ℕ
  pub other_forms : List model.FlatForm
  pub other_strings : List model.LostString
  pub others : in_a_row limit ls ≡ Lists other_tokens other_forms other_strings
  pub all : fs ≡ forms ++ other_forms
  pub lost : ks ≡ with_lost strings other_strings
  pub sum : tokens + other_tokens ≡ n
  pub within : nat_lt limit n ≡ false

pub splits : (limit : ℕ) (l : Listing) (ls : List Listing) (n : ℕ) (fs : List model.FlatForm) (ks : List model.LostString) → in_a_row limit (l ∷ ls) ≡ Lists n fs ks → Splits limit l ls n fs ks
splits limit l ls n fs ks e = go l refl (in_a_row limit ls) refl e
  where
    no_bad : (b : Bool) (m : ℕ) (h : model.Homed) → (if b then TooLong else BadAfter m h) ≡ Lists n fs ks → ⊥
    no_bad true m h q = absurd cc
    no_bad false m h q = absurd cc

    both : (b : Bool) (m k : ℕ) (gs hs : List model.FlatForm) (is js : List model.LostString) → nat_lt limit (m + k) ≡ b → l ≡ Lists m gs is → in_a_row limit ls ≡ Lists k hs js → (if b then TooLong else Lists (m + k) (gs ++ hs) (with_lost is js)) ≡ Lists n fs ks →
        Splits limit l ls n fs ks
    both true m k gs hs is js o p r q = absurd cc
    both false m k gs hs is js o p r q = let sum : m + k ≡ n = cc in record {
      tokens = m;
      forms = gs;
      strings = is;
      first = p;
      other_tokens = k;
      other_forms = hs;
      other_strings = js;
      others = r;
      all = cc;
      lost = cc;
      sum = sum;
      within = ap (nat_lt limit) (sym sum) ∙ o;
    }

    go : (x : Listing) → l ≡ x → (y : Listing) → in_a_row limit ls ≡ y → followed limit x y ≡ Lists n fs ks → Splits limit l ls n fs ks
    go TooLong p y r q = absurd cc
    go (BadAfter m h) p y r q = absurd (no_bad (nat_lt limit m) m h q)
    go (Lists m gs is) p TooLong r q = absurd cc
    go (Lists m gs is) p (BadAfter k h) r q = absurd (no_bad (nat_lt limit (m + k)) (m + k) h q)
    go (Lists m gs is) p (Lists k hs js) r q = both (nat_lt limit (m + k)) m k gs hs is js refl p r q
