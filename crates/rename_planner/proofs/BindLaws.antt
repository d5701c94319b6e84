-- Conditions one behind another.
use Rattle.std.proofs.Common.{◌≡◌, ℕ, List, map, Option, Some, None, Result, Ok, Err, refl, sym, ap, ◌∙◌, subst}
use Rattle.std.specs.Option.{ok_or}
use Rattle.std.specs.Result.{IsErrAnd}
use Rattle.ls_base.specs.declared.encoding.Encoding.{Encoding}
use Rattle.document_store.specs.Texts.{Document}
use Rattle.scheme_model.specs.declared.Occ.{Occ}
use Rattle.ls_base.specs.declared.answers.DocEdits as told
use Rattle.text_edits.specs.Members.{prefix_of, stem_of}
use Rattle.rename_conditions.specs.Readers.{Reader}
use Rattle.rename_conditions.specs.Opened.{Opened, DocEdits, edits_in, edited_in, told_edits}
use Rattle.rename_conditions.specs.Renames.{Refusal, NotBound, IsStandard, BadName, Unreadable, PrefixLost, PrefixClash, BrokenUnit, TooLong, Differs, ◌>>=◌, unless, first_of, joined_at, standard_names, new_symbol, first_unread, clashes, errors_in_reach, first_too_long, difference_by, broken, rename_in}
use Rattle.rename_planner.specs.Planning.{ComesTo, Holds, fitting_in, named_in, planned_in}
use Rattle.rename_answers.specs.RenameOutcomes.{IsFaultOf, RefusesAs, AnswersAs}
use Rattle.rename_answers.specs.ToldRenames.{document_told}
use Rattle.rename_answers.specs.declared.faults.RenameFault.{RenameFault}
use Rattle.rename_answers.specs.declared.faults.RenameFault.TheVariants as faults

pub memory_comes : {A B : Type 0} (e : Encoding) (ds : List (List ℕ × Document)) (P : A → B → Type 0) (s : Result A Refusal) → ComesTo e ds P s (Err faults.Memory)
memory_comes e ds P (Ok a) = refl
memory_comes e ds P (Err refusal) = tt

-- memory ran out
pub at_memory : {A B : Type 0} (e : Encoding) (ds : List (List ℕ × Document)) (P : A → B → Type 0) (s : Result A Refusal) (fault : RenameFault) → fault ≡ faults.Memory → ComesTo e ds P s (Err fault)
at_memory e ds P s fault h = subst (λ f. ComesTo e ds P s (Err f)) (sym h) (memory_comes e ds P s)

-- a fault that is handed on
pub err_goes : {A B : Type 0} (e : Encoding) (ds : List (List ℕ × Document)) (P : A → B → Type 0) (s : Result A Refusal) (r : Result B RenameFault) (fault : RenameFault) → IsErrAnd r (λ x. x ≡ fault) → ComesTo e ds P s (Err fault) → ComesTo e ds P s r
err_goes e ds P s (Ok b) fault h k = absurd h
err_goes e ds P s (Err x) fault h k = subst (λ f. ComesTo e ds P s (Err f)) (sym h) k

-- a condition fails, and so the rest isn't tested
pub bind_err : {A B C D : Type 0} (e : Encoding) (ds : List (List ℕ × Document)) (P : A → B → Type 0) (Q : C → D → Type 0) (s : Result A Refusal) (f : A → Result C Refusal) (fault : RenameFault) →
    ComesTo e ds P s (Err fault) → ComesTo e ds Q (s >>= f) (Err fault)
bind_err e ds P Q (Ok a) f fault h = at_memory e ds Q (f a) fault h
bind_err e ds P Q (Err refusal) f fault h = h

-- a condition holds, and the rest is tested
pub bind_ok : {A B C D : Type 0} (e : Encoding) (ds : List (List ℕ × Document)) (P : A → B → Type 0) (Q : C → D → Type 0) (s : Result A Refusal) (f : A → Result C Refusal) (b : B) (r : Result D RenameFault) →
    ComesTo e ds P s (Ok b) → ((a : A) → s ≡ Ok a → P a b → ComesTo e ds Q (f a) r) → ComesTo e ds Q (s >>= f) r
bind_ok e ds P Q (Ok a) f b r h k = k a refl h
bind_ok e ds P Q (Err refusal) f b r h k = absurd h

-- what comes out where all hold
pub comes_ok : {A B : Type 0} (e : Encoding) (ds : List (List ℕ × Document)) (P : A → B → Type 0) (s : Result A Refusal) (b : B) → ComesTo e ds P s (Ok b) → (a : A) × (s ≡ Ok a) × P a b
comes_ok e ds P (Ok a) b h = (a, refl, h)
comes_ok e ds P (Err refusal) b h = absurd h

pub bind_assoc : {A B C : Type 0} (s : Result A Refusal) (f : A → Result B Refusal) (g : B → Result C Refusal) → (s >>= f) >>= g ≡ s >>= λ a. f a >>= g
bind_assoc (Ok a) f g = refl
bind_assoc (Err refusal) f g = refl

-- ---- one condition

pub fault_refuses : (e : Encoding) (ds : List (List ℕ × Document)) (refusal : Refusal) (fault : RenameFault) → IsFaultOf e ds refusal fault → RefusesAs e ds refusal fault
fault_refuses e ds refusal faults.Memory h = tt
fault_refuses e ds refusal faults.NotBound h = h
fault_refuses e ds refusal (faults.Standard name) h = h
fault_refuses e ds refusal faults.BadName h = h
fault_refuses e ds refusal (faults.Unreadable uri) h = h
fault_refuses e ds refusal (faults.PrefixLost prefix) h = h
fault_refuses e ds refusal (faults.PrefixClash place) h = h
fault_refuses e ds refusal (faults.BrokenUnit place code) h = h
fault_refuses e ds refusal (faults.Limit uri) h = h
fault_refuses e ds refusal (faults.Differs difference) h = h

module _ {A B : Type 0} (e : Encoding) (ds : List (List ℕ × Document)) where
  -- there is one, as there has to be
  pub has : (P : A → B → Type 0) (o : Option A) (why : Refusal) (a : A) (b : B) → o ≡ Some a → P a b → ComesTo e ds P (ok_or o why) (Ok b)
  has P o why a b q h = subst (λ (x : Option A). ComesTo e ds P (ok_or x why) (Ok b)) (sym q) h

  pub lacks : (P : A → B → Type 0) (o : Option A) (why : Refusal) (fault : RenameFault) → o ≡ None → IsFaultOf e ds why fault → ComesTo e ds P (ok_or o why) (Err fault)
  lacks P o why fault q h = subst (λ (x : Option A). ComesTo e ds P (ok_or x why) (Err fault)) (sym q) (fault_refuses e ds why fault h)

  pub passes : (o : Option A) (why : A → Refusal) (b : B) → o ≡ None → ComesTo e ds Holds (unless o why) (Ok b)
  passes o why b q = subst (λ (x : Option A). ComesTo e ds Holds (unless x why) (Ok b)) (sym q) tt

-- there is one, which refuses it
pub refused : {A : Type 0} (B : Type 0) (e : Encoding) (ds : List (List ℕ × Document)) (o : Option A) (why : A → Refusal) (a : A) (fault : RenameFault) → o ≡ Some a → IsFaultOf e ds (why a) fault → ComesTo {B = B} e ds Holds (unless o why) (Err fault)
refused {A} B e ds o why a fault q h = subst (λ (x : Option A). ComesTo {B = B} e ds Holds (unless x why) (Err fault)) (sym q) (fault_refuses e ds (why a) fault h)

-- ---- the answer

abbrev pub AreEdits : Encoding → List (List ℕ × Document) → List DocEdits → List told.DocEdits → Type 0
AreEdits e ds es edits = edits ≡ map (document_told e ds) es

pub answers : (e : Encoding) (ds : List (List ℕ × Document)) (s : Result (List DocEdits) Refusal) (r : Result (List told.DocEdits) RenameFault) → ComesTo e ds (AreEdits e ds) s r → AnswersAs e ds s r
answers e ds (Ok es) (Ok edits) h = h
answers e ds (Ok es) (Err fault) h = subst (λ (f : RenameFault). AnswersAs e ds (Ok es) (Err f)) (sym h) tt
answers e ds (Err refusal) (Ok edits) h = absurd h
answers e ds (Err refusal) (Err faults.Memory) h = tt
answers e ds (Err refusal) (Err faults.NotBound) h = h
answers e ds (Err refusal) (Err (faults.Standard name)) h = h
answers e ds (Err refusal) (Err faults.BadName) h = h
answers e ds (Err refusal) (Err (faults.Unreadable uri)) h = h
answers e ds (Err refusal) (Err (faults.PrefixLost prefix)) h = h
answers e ds (Err refusal) (Err (faults.PrefixClash place)) h = h
answers e ds (Err refusal) (Err (faults.BrokenUnit place code)) h = h
answers e ds (Err refusal) (Err (faults.Limit uri)) h = h
answers e ds (Err refusal) (Err (faults.Differs difference)) h = h

-- ---- the nine conditions in two parts

-- a rename is what is planned, and then compared
abbrev pub compared_in : Reader → Opened → Occ × List ℕ → Result (List DocEdits) Refusal
compared_in r w c = unless (difference_by r w c.0 c.1) Differs >>= λ done. Ok (told_edits (edits_in w c.0 c.1))

fitting_assoc : (r : Reader) (w : Opened) (c : Occ × List ℕ) →
    fitting_in w c >>= compared_in r w
    ≡ (unless (first_of (clashes w c.0)) PrefixClash >>= λ done. unless (first_of (errors_in_reach w c.0)) broken >>= λ done. unless (first_too_long 0 (edited_in w c.0 c.1)) TooLong >>= λ done. compared_in r w c)
fitting_assoc r w c = go (unless (first_of (clashes w c.0)) PrefixClash) (unless (first_of (errors_in_reach w c.0)) broken) (unless (first_too_long 0 (edited_in w c.0 c.1)) TooLong)
  where
    go : (a b d : Result (Unit {0}) Refusal) → (a >>= λ done. b >>= λ done. d >>= λ done. Ok c) >>= compared_in r w ≡ (a >>= λ done. b >>= λ done. d >>= λ done. compared_in r w c)
    go (Err f) b d = refl
    go (Ok x) (Err f) d = refl
    go (Ok x) (Ok y) (Err f) = refl
    go (Ok x) (Ok y) (Ok z) = refl

pub rename_parted : (r : Reader) (w : Opened) (at : Option Occ) (new : List ℕ) → planned_in w at (r.symbol new) >>= compared_in r w ≡ rename_in r w at new
rename_parted r w at new =
    bind_assoc (named_in w at (r.symbol new)) (fitting_in w) (compared_in r w)
    ∙ go (ok_or (joined_at w.links at) NotBound) (λ o. unless (first_of (standard_names w o)) IsStandard) (ok_or (new_symbol (r.symbol new)) BadName) (unless (first_unread 0 w.readings) Unreadable)
    (λ o name. ok_or (stem_of (prefix_of w.links o) name) (PrefixLost (prefix_of w.links o)))
  where
    go : (a : Result Occ Refusal) (b : Occ → Result (Unit {0}) Refusal) (c : Result (List ℕ) Refusal) (d : Result (Unit {0}) Refusal) (s : Occ → List ℕ → Result (List ℕ) Refusal) →
        (a >>= λ o. b o >>= λ done. c >>= λ name. d >>= λ done. s o name >>= λ stem. Ok (o, stem)) >>= (λ x. fitting_in w x >>= compared_in r w)
        ≡ (a >>= λ o. b o >>= λ done. c >>= λ name. d >>= λ done. s o name >>= λ stem.
        unless (first_of (clashes w o)) PrefixClash >>= λ done. unless (first_of (errors_in_reach w o)) broken >>= λ done. unless (first_too_long 0 (edited_in w o stem)) TooLong >>= λ done. compared_in r w (o, stem))
    go (Err f) b c d s = refl
    go (Ok o) b c d s = by_b (b o)
      where
        by_s : (t : Result (List ℕ) Refusal) → (t >>= λ stem. Ok (o, stem)) >>= (λ x. fitting_in w x >>= compared_in r w)
            ≡ (t >>= λ stem. unless (first_of (clashes w o)) PrefixClash >>= λ done. unless (first_of (errors_in_reach w o)) broken >>= λ done. unless (first_too_long 0 (edited_in w o stem)) TooLong >>= λ done. compared_in r w (o, stem))
        by_s (Err f) = refl
        by_s (Ok stem) = fitting_assoc r w (o, stem)

        by_d : (name : List ℕ) (t : Result (Unit {0}) Refusal) → (t >>= λ done. s o name >>= λ stem. Ok (o, stem)) >>= (λ x. fitting_in w x >>= compared_in r w)
            ≡ (t >>= λ done. s o name >>= λ stem. unless (first_of (clashes w o)) PrefixClash >>= λ done. unless (first_of (errors_in_reach w o)) broken >>= λ done. unless (first_too_long 0 (edited_in w o stem)) TooLong >>= λ done. compared_in r w (o, stem))
        by_d name (Err f) = refl
        by_d name (Ok x) = by_s (s o name)

        by_c : (t : Result (List ℕ) Refusal) → (t >>= λ name. d >>= λ done. s o name >>= λ stem. Ok (o, stem)) >>= (λ x. fitting_in w x >>= compared_in r w)
            ≡ (t >>= λ name. d >>= λ done. s o name >>= λ stem. unless (first_of (clashes w o)) PrefixClash >>= λ done. unless (first_of (errors_in_reach w o)) broken >>= λ done. unless (first_too_long 0 (edited_in w o stem)) TooLong >>= λ done. compared_in r w (o, stem))
        by_c (Err f) = refl
        by_c (Ok name) = by_d name d

        by_b : (t : Result (Unit {0}) Refusal) → (t >>= λ done. c >>= λ name. d >>= λ done. s o name >>= λ stem. Ok (o, stem)) >>= (λ x. fitting_in w x >>= compared_in r w)
            ≡ (t >>= λ done. c >>= λ name. d >>= λ done. s o name >>= λ stem. unless (first_of (clashes w o)) PrefixClash >>= λ done. unless (first_of (errors_in_reach w o)) broken >>= λ done. unless (first_too_long 0 (edited_in w o stem)) TooLong >>= λ done. compared_in r w (o, stem))
        by_b (Err f) = refl
        by_b (Ok x) = by_c c
