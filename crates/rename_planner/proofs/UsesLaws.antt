-- The macro uses that a rename counts are those of the edited texts, once these are expanded.
use Rattle.std.proofs.Common.{◌≡◌, ℕ, List, Bool, true, false, cond, Option, Some, None, Result, Ok, Err, refl, sym, ap, ◌∙◌, subst}
use Rattle.std.specs.Option.{ok_or}
use Rattle.scheme_model.specs.declared.Occ.{Occ}
use Rattle.scheme_model.specs.Spelling.{is_joined}
use Rattle.rename_model.specs.Difference.{Difference}
use Rattle.text_edits.specs.Members.{prefix_of, stem_of}
use Rattle.rename_conditions.specs.Readers.{Reader}
use Rattle.rename_conditions.specs.Opened.{Opened, edited_in, edits_in, told_edits}
use Rattle.rename_conditions.specs.Renames.{Refusal, NotBound, IsStandard, BadName, Unreadable, PrefixLost, PrefixClash, TooLong, Differs, broken, ◌>>=◌, unless, first_of, joined_at, standard_names, new_symbol, first_unread, is_reserved, clashes, errors_in_reach, first_too_long, difference_by, rename_in}
use Rattle.rename_planner.specs.Planning.{fitting_in, named_in, planned_in}
use Rattle.rename_answers.specs.ToldRenames.{edited_by, is_tried}
use Rattle.rename_planner.proofs.BindLaws.{compared_in, rename_parted}

-- a rename that is refused so isn't tried
abbrev pub IsUntried : {A : Type 0} → Result A Refusal → Type 0
IsUntried (Ok a) = Unit {0}
IsUntried (Err refusal) = is_tried (Err refusal) ≡ false

then_or : {A B : Type 0} (o : Option A) (why : Refusal) (f : A → Result B Refusal) → is_tried (Err why) ≡ false → ((a : A) → IsUntried (f a)) → IsUntried (ok_or o why >>= f)
then_or None why f h k = h
then_or (Some a) why f h k = k a

then_unless : {A B : Type 0} (o : Option A) (why : A → Refusal) (f : Unit {0} → Result B Refusal) → ((a : A) → is_tried (Err (why a)) ≡ false) → IsUntried (f tt) → IsUntried (unless o why >>= f)
then_unless None why f h k = k
then_unless (Some a) why f h k = h a

then_both : {A B : Type 0} (s : Result A Refusal) (f : A → Result B Refusal) → IsUntried s → ((a : A) → IsUntried (f a)) → IsUntried (s >>= f)
then_both (Ok a) f h k = k a
then_both (Err refusal) f h k = h

pub planned_untried : (w : Opened) (at : Option Occ) (symbol : Option (List ℕ)) → IsUntried (planned_in w at symbol)
planned_untried w at symbol = then_both (named_in w at symbol) (fitting_in w)
    (then_or (joined_at w.links at) NotBound _ refl (λ o. then_unless (first_of (standard_names w o)) IsStandard _ (λ s. refl) (then_or (new_symbol symbol) BadName _ refl (λ name.
    then_unless (first_unread 0 w.readings) Unreadable _ (λ n. refl) (then_or (stem_of (prefix_of w.links o) name) (PrefixLost (prefix_of w.links o)) _ refl (λ stem. tt))))))
    (λ c. then_unless (first_of (clashes w c.0)) PrefixClash _ (λ b. refl) (then_unless (first_of (errors_in_reach w c.0)) broken _ (λ d. refl)
    (then_unless (first_too_long 0 (edited_in w c.0 c.1)) TooLong _ (λ n. refl) tt)))

pub untried : (r : Reader) (w : Opened) (at : Option Occ) (new : List ℕ) (refusal : Refusal) → planned_in w at (r.symbol new) ≡ Err refusal → is_tried (rename_in r w at new) ≡ false
untried r w at new refusal h =
    ap is_tried (sym (rename_parted r w at new) ∙ ap (λ s. s >>= compared_in r w) h) ∙ subst IsUntried h (planned_untried w at (r.symbol new))

compared_tried : (r : Reader) (w : Opened) (c : Occ × List ℕ) → is_tried (compared_in r w c) ≡ true
compared_tried r w c = go (difference_by r w c.0 c.1)
  where
    go : (o : Option Difference) → is_tried (unless o Differs >>= λ done. Ok (told_edits (edits_in w c.0 c.1))) ≡ true
    go None = refl
    go (Some d) = refl

pub tried : (r : Reader) (w : Opened) (at : Option Occ) (new : List ℕ) (c : Occ × List ℕ) → planned_in w at (r.symbol new) ≡ Ok c → is_tried (rename_in r w at new) ≡ true
tried r w at new c h = ap is_tried (sym (rename_parted r w at new) ∙ ap (λ s. s >>= compared_in r w) h) ∙ compared_tried r w c

-- ---- the edited texts

abbrev stemmed_texts : Opened → Occ → Option (List ℕ) → List (List ℕ)
stemmed_texts w o None = w.texts
stemmed_texts w o (Some stem) = edited_in w o stem

edited_so : (w : Opened) (o : Occ) (s : List ℕ) → edited_by w (Some o) (Some s) ≡ stemmed_texts w o (stem_of (prefix_of w.links o) s)
edited_so w o s = refl

joined_there : (w : Opened) (at : Option Occ) (o : Occ) → joined_at w.links at ≡ Some o → at ≡ Some o
joined_there w None o h = absurd cc
joined_there w (Some p) o h = go (is_joined w.links p) h
  where
    go : (b : Bool) → cond b (Some p) None ≡ Some o → Some p ≡ Some o
    go true k = k
    go false k = absurd cc

symbol_there : (symbol : Option (List ℕ)) (name : List ℕ) → new_symbol symbol ≡ Some name → symbol ≡ Some name
symbol_there None name h = absurd cc
symbol_there (Some s) name h = go (is_reserved s) h
  where
    go : (b : Bool) → cond b None (Some s) ≡ Some name → Some s ≡ Some name
    go true k = absurd cc
    go false k = k

module _ (w : Opened) (at : Option Occ) (symbol : Option (List ℕ)) where
  abbrev Leads : Result (Occ × List ℕ) Refusal → Type 0
  Leads (Ok c) = edited_by w at symbol ≡ edited_in w c.0 c.1
  Leads (Err refusal) = Unit {0}

  leads_or : {A : Type 0} (o : Option A) (why : Refusal) (f : A → Result (Occ × List ℕ) Refusal) → ((a : A) → o ≡ Some a → Leads (f a)) → Leads (ok_or o why >>= f)
  leads_or None why f k = tt
  leads_or (Some a) why f k = k a refl

  leads_unless : {A : Type 0} (o : Option A) (why : A → Refusal) (f : Unit {0} → Result (Occ × List ℕ) Refusal) → Leads (f tt) → Leads (unless o why >>= f)
  leads_unless None why f k = k
  leads_unless (Some a) why f k = tt

  leads_both : (s : Result (Occ × List ℕ) Refusal) (f : Occ × List ℕ → Result (Occ × List ℕ) Refusal) → Leads s → ((c : Occ × List ℕ) → Leads (Ok c) → Leads (f c)) → Leads (s >>= f)
  leads_both (Ok c) f h k = k c h
  leads_both (Err refusal) f h k = tt

  named_leads : Leads (named_in w at symbol)
  named_leads =
      leads_or (joined_at w.links at) NotBound _ (λ o e. leads_unless (first_of (standard_names w o)) IsStandard _ (leads_or (new_symbol symbol) BadName _ (λ name q.
      leads_unless (first_unread 0 w.readings) Unreadable _ (leads_or (stem_of (prefix_of w.links o) name) (PrefixLost (prefix_of w.links o)) _ (λ stem p.
      (λ j. edited_by w (joined_there w at o e j) (symbol_there symbol name q j)) ∙ ap (stemmed_texts w o) p)))))

  pub planned_leads : Leads (planned_in w at symbol)
  planned_leads = leads_both (named_in w at symbol) (fitting_in w) named_leads (λ c h.
      leads_unless (first_of (clashes w c.0)) PrefixClash _ (leads_unless (first_of (errors_in_reach w c.0)) broken _ (leads_unless (first_too_long 0 (edited_in w c.0 c.1)) TooLong _ h)))

  pub texts_led : (c : Occ × List ℕ) → planned_in w at symbol ≡ Ok c → edited_by w at symbol ≡ edited_in w c.0 c.1
  texts_led c h = subst Leads h planned_leads
