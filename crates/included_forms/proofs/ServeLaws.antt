-- Strings give what the data of the texts give that they mean, with all that these include.
use Rattle.std.proofs.Common.{◌≡◌, ℕ, List, Bool, true, false, Option, Some, None, length, refl, sym, ap, ◌∙◌}
use Rattle.std.specs.Prelude.{if◌then◌else◌}
use Rattle.scheme_model.specs.Includes.{StringAt, naming, usable, document_at, is_among}
use Rattle.scheme_model.specs.Included.{Listing, Sources, lost, given, given_at, given_or_lost, included_data, forms_of, declarations_of, all_texts}
use Rattle.nesting_laws.proofs.Depth.{gives_forms, gives_declarations}
use Rattle.included_forms.specs.Tables.{Serve}

-- what is given for one string and what for another, where both agree on the text that the string means
agree : (us : List ℕ) (f g : ℕ → Listing) (meaning : Option ℕ) (other : Listing) → ((m : ℕ) → meaning ≡ Some m → is_among us m ≡ true → f m ≡ g m) → given_or_lost us f meaning other ≡ given_or_lost us g meaning other
agree us f g None other h = refl
agree us f g (Some m) other h = by (is_among us m) (h m refl)
  where
    by : (b : Bool) → (b ≡ true → f m ≡ g m) → (if b then f m else other) ≡ (if b then g m else other)
    by true q = q refl
    by false q = refl

found : (us : List ℕ) (f : ℕ → Listing) (meaning : Option ℕ) (other : Listing) (m : ℕ) → meaning ≡ Some m → is_among us m ≡ true → given_or_lost us f meaning other ≡ f m
found us f meaning other m e h = ap (λ x. given_or_lost us f x other) e ∙ ap (λ b. if b then f m else other) h

module _ (o : Sources) (whole : o.usable ≡ usable (naming o.documents) o.documents) (n : ℕ) (s : StringAt) where
  as_forms : (all_texts o).as_forms n s ≡ given_or_lost o.usable (λ m. forms_of (all_texts o) (included_data o.documents m)) ((document_at o.documents n).meant s.characters) (lost n s)
  as_forms =
      let f = λ (m : ℕ). (given_at (given o (length o.documents)) m).forms in
      agree o.usable f (λ m. forms_of (all_texts o) (included_data o.documents m)) ((document_at o.documents n).meant s.characters) (lost n s)
      (λ m means can. sym (found o.usable f ((document_at o.documents n).meant s.characters) (lost n s) m means can) ∙ gives_forms o whole n m s means can)

  as_declarations : (all_texts o).as_declarations n s ≡ given_or_lost o.usable (λ m. declarations_of (all_texts o) o.known (included_data o.documents m)) ((document_at o.documents n).meant s.characters) (lost n s)
  as_declarations =
      let f = λ (m : ℕ). (given_at (given o (length o.documents)) m).declarations in
      agree o.usable f (λ m. declarations_of (all_texts o) o.known (included_data o.documents m)) ((document_at o.documents n).meant s.characters) (lost n s)
      (λ m means can. sym (found o.usable f ((document_at o.documents n).meant s.characters) (lost n s) m means can) ∙ gives_declarations o whole n m s means can)

pub serve : (o : Sources) → o.usable ≡ usable (naming o.documents) o.documents → Serve o (all_texts o)
serve o whole = record { limit = refl; forms = as_forms o whole; declarations = as_declarations o whole }
