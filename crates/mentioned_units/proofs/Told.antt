-- A question that mentions some units alone has the same answer where each of these is the same.
use Rattle.std.proofs.Common.{◌≡◌, ℕ, suc, List, [], ◌∷◌, ◌++◌, map, Bool, true, false, cond, eqb, Option, Some, None, refl, sym, ap, ◌∙◌}
use Rattle.std.specs.Prelude.{◌&&◌, ◌||◌, not}
use Rattle.scheme_model.specs.Ident.{Ident, Written, Inserted, same_ident}
use Rattle.scheme_model.specs.ExpansionFaults.{Named}
use Rattle.scheme_model.specs.Meaning.{Meaning, Local, Global, Standard, Free, same_meaning}
use Rattle.scheme_model.specs.RulesShape.{Rules, option_map}
use Rattle.scheme_model.specs.Order.{Note, LookedUp, Compared, Transformer, is_some}
use Rattle.scheme_model.specs.Substitution.{Table, Defined, defined_in, definition_count, is_variable, any, is_refused, differ}
use Rattle.scheme_model.specs.Scopes.{defined_or, given_or, local_or}
use Rattle.scheme_model.specs.ScopedExpansion.{Frames, FramedIdent, ScopedMacro, ScopedState, means_outside, macro_at, macro_added}
use Rattle.scheme_model.specs.OwnAnswers.{root_means, own_means, own_local}
use Rattle.scheme_model.specs.Questions.{Moment, Around, at_moment, own_at, found, outcome_by, Question, LooksUp, UsesRules, Compares, IsAssigned, Requires, Defines, Means, Expands, Says, Ends, bare_macro, answer, SameAnswer}
use Rattle.scheme_model.specs.FormsAlike.{bare_ident, bare_note}
use Rattle.form_laws.specs.Begins.{Each}
use Rattle.form_laws.proofs.Bare.{some_mapped, own_bare, any_bare}
use Rattle.kept_forms.proofs.Bares.{notes_joined}
use Rattle.mentioned_units.specs.Mentioned.{Mask, IsIn, MeansIn, NoteIn, Mentions}
use Rattle.mentioned_units.specs.Unchanged.{defined_as, macro_of, Unchanged, SameSoFar}

-- ---- behind the form's own definitions and macros

pub defined_behind : (own ys zs : Table) (u : ℕ) (i : Ident) → defined_as zs u i ≡ defined_as ys u i → defined_as (own ++ zs) u i ≡ defined_as (own ++ ys) u i
defined_behind [] ys zs u i e = e
defined_behind (d ∷ own) ys zs u i e = go (eqb d.unit u && same_ident d.ident i) (defined_behind own ys zs u i e)
  where
    keyword : Option Defined → Option Bool
    keyword o = option_map (λ (d : Defined). d.keyword) o

    go : (b : Bool) → defined_as (own ++ zs) u i ≡ defined_as (own ++ ys) u i → keyword (cond b (Some d) (defined_in (own ++ zs) u i)) ≡ keyword (cond b (Some d) (defined_in (own ++ ys) u i))
    go true h = refl
    go false h = h

pub macro_behind : (own ks ls : List ScopedMacro) (m : Meaning) → macro_of ls m ≡ macro_of ks m → macro_of (own ++ ls) m ≡ macro_of (own ++ ks) m
macro_behind [] ks ls m e = e
macro_behind (k ∷ own) ks ls m e = go (same_meaning k.meaning m) (macro_behind own ks ls m e)
  where
    one : Option (Transformer Frames Ident)
    one = Some (record { env = k.frames; rules = k.rules })

    go : (b : Bool) → macro_of (own ++ ls) m ≡ macro_of (own ++ ks) m → option_map bare_macro (cond b one (macro_at (own ++ ls) m)) ≡ option_map bare_macro (cond b one (macro_at (own ++ ks) m))
    go true h = refl
    go false h = h

pub count_behind : (own ys zs : Table) (u : ℕ) → definition_count zs u ≡ definition_count ys u → definition_count (own ++ zs) u ≡ definition_count (own ++ ys) u
count_behind [] ys zs u e = e
count_behind (d ∷ own) ys zs u e = ap (λ n. cond (eqb d.unit u) (suc n) n) (count_behind own ys zs u e)

-- ---- what is read of a definition

abbrev given_as : Bool → ℕ → Ident → Option Meaning → Meaning → Meaning
given_as true u i p m = Global u i
given_as false u i p m = given_or p m

is_given : (d : Option Defined) (u : ℕ) (i : Ident) (p : Option Meaning) (m : Meaning) → given_or (defined_or d u i p) m ≡ given_as (is_some d) u i p m
is_given None u i p m = refl
is_given (Some d) u i p m = refl

there_too : (own ys zs : Table) (u : ℕ) (i : Ident) → defined_as zs u i ≡ defined_as ys u i → is_some (defined_in (own ++ zs) u i) ≡ is_some (defined_in (own ++ ys) u i)
there_too own ys zs u i e =
    let f : Defined → Bool = λ (d : Defined). d.keyword in
    sym (some_mapped f (defined_in (own ++ zs) u i)) ∙ ap is_some (defined_behind own ys zs u i e) ∙ some_mapped f (defined_in (own ++ ys) u i)

abbrev variable_as : Option Bool → Bool
variable_as None = false
variable_as (Some k) = not k

is_variable_as : (o : Option Defined) → is_variable o ≡ variable_as (option_map (λ (d : Defined). d.keyword) o)
is_variable_as None = refl
is_variable_as (Some d) = refl

-- ---- what is meant

module _ (mask : Mask) (s t : ScopedState) (same : Unchanged mask s t) where
  means_same : (own : Table) (i : Ident) → IsIn mask i → means_outside (own ++ t.table) t.entry [] [] i ≡ means_outside (own ++ s.table) s.entry [] [] i
  means_same own (Written u x) h =
      let k = same.units u h.0 in
      let a = there_too own s.table t.table u (Written u x) (k.defined (Written u x)) in let b = k.imports x in
      is_given (defined_in (own ++ t.table) u (Written u x)) u (Written u x) (t.entry u x) (Free x)
      ∙ ((λ j. given_as (a j) u (Written u x) (b j) (Free x)) ∙ sym (is_given (defined_in (own ++ s.table) u (Written u x)) u (Written u x) (s.entry u x) (Free x)))
  means_same own (Inserted i n) h =
      let u = n.unit in let j = Inserted i n in
      let a = there_too own s.table t.table u j ((same.units u h.0).defined j) in let b = means_same own i h.1 in
      is_given (defined_in (own ++ t.table) u j) u j None (means_outside (own ++ t.table) t.entry [] [] i)
      ∙ ((λ z. given_as (a z) u j None (b z)) ∙ sym (is_given (defined_in (own ++ s.table) u j) u j None (means_outside (own ++ s.table) s.entry [] [] i)))

  macro_same : (m : Meaning) → MeansIn mask m → macro_of t.macros m ≡ macro_of s.macros m
  macro_same (Local v) h = absurd h
  macro_same (Global u i) h = (same.units u h).macros i
  macro_same (Standard x) h = same.standard x
  macro_same (Free x) h = same.free x

-- ---- notes

module _ (mask : Mask) (new : Bool) (m : Meaning) (f g : FramedIdent → Meaning) (same : (p : FramedIdent) → IsIn mask p.ident → f p ≡ g p) where
  refused_same : (n : Note FramedIdent) → NoteIn mask n → is_refused new (λ p. same_meaning (f p) m) f n ≡ is_refused new (λ p. same_meaning (g p) m) g n
  refused_same (LookedUp l head keyword) h = ap (λ x. same_meaning x m && (keyword || (head && new))) (same l h)
  refused_same (Compared l k held) h = let a = same l h.0 in let b = same k h.1 in λ j. (same_meaning (a j) m || same_meaning (b j) m) && differ held (same_meaning (a j) (b j))

  any_same : (ns : List (Note FramedIdent)) → Each (NoteIn mask) ns → any (is_refused new (λ p. same_meaning (f p) m) f) ns ≡ any (is_refused new (λ p. same_meaning (g p) m) g) ns
  any_same [] h = refl
  any_same (n ∷ ns) h = let a = refused_same n h.0 in let b = any_same ns h.1 in λ j. a j || b j

each_behind : {X : Type 0} (P : X → Type 0) (xs ys : List X) → Each P xs → Each P ys → Each P (xs ++ ys)
each_behind P [] ys h k = k
each_behind P (x ∷ xs) ys h k = (h.0, each_behind P xs ys h.1 k)

-- ---- answers

module _ (mask : Mask) (w v : Around) (same : SameSoFar mask w v) where
  means_too : (n : Moment) (i : Ident) → IsIn mask i → root_means (at_moment v n) i ≡ root_means (at_moment w n) i
  means_too n i h = means_same mask w.state v.state same.state n.table i h

  macro_too : (n : Moment) (m : Meaning) → MeansIn mask m → macro_of (at_moment v n).macros m ≡ macro_of (at_moment w n).macros m
  macro_too n m h = macro_behind n.macros w.state.macros v.state.macros m (macro_same mask w.state v.state same.state m h)

  keyword_too : (n : Moment) (m : Meaning) → MeansIn mask m → is_some (macro_at (at_moment v n).macros m) ≡ is_some (macro_at (at_moment w n).macros m)
  keyword_too n m h = sym (some_mapped bare_macro (macro_at (at_moment v n).macros m)) ∙ ap is_some (macro_too n m h) ∙ some_mapped bare_macro (macro_at (at_moment w n).macros m)

  -- the form's own unit
  own_defined : mask.units w.state.unit ≡ true → (n : Moment) (i : Ident) → defined_as (n.table ++ v.state.table) v.state.unit i ≡ defined_as (n.table ++ w.state.table) w.state.unit i
  own_defined h n i = ap (λ u. defined_as (n.table ++ v.state.table) u i) same.state.unit ∙ defined_behind n.table w.state.table v.state.table w.state.unit i ((same.state.units w.state.unit h).defined i)

  found_same : (n : Moment) (fs : Frames) (x : Named Ident) (r : Option (Rules Ident)) → found v None x r fs n ≡ found w None x r fs n
  found_same n fs x r = let u = same.state.unit in let f = same.form in λ j. record n {
    table = record { unit = u j; form = f j; ident = x.name; keyword = is_some r; occ = x.occ } ∷ n.table;
    macros = macro_added (Global (u j) x.name) fs r n.macros;
  }

  module _ (n : Moment) (fs : Frames) (x : Named Ident) (r : Option (Rules Ident)) (ns : List (Note FramedIdent)) where
    abbrev refused : Around → Moment → ℕ → List (Note FramedIdent) → Bool
    refused a m u ms = any (is_refused (is_some r) (λ p. same_meaning (own_means (own_at m) (at_moment a m) p.frames p.ident) (Global u x.name)) (λ p. own_means (own_at m) (at_moment a m) p.frames p.ident)) ms

    by_notes : (a : Around) (m : Moment) (u : ℕ) (ms ls : List (Note FramedIdent)) → map bare_note ms ≡ map bare_note ls → refused a m u ms ≡ refused a m u ls
    by_notes a m u ms ls e =
        let f : FramedIdent → Meaning = λ (p : FramedIdent). own_means (own_at m) (at_moment a m) p.frames p.ident in
        let b : (p : FramedIdent) → f p ≡ f (bare_ident p) = λ p. ap (λ l. local_or l (root_means (at_moment a m) p.ident)) (own_bare (own_at m) p.frames p.ident) in
        any_bare (is_some r) (Global u x.name) f f b ms ∙ ap (any (is_refused (is_some r) (λ p. same_meaning (f p) (Global u x.name)) f)) e ∙ sym (any_bare (is_some r) (Global u x.name) f f b ls)

    refused_same_too : Each (NoteIn mask) ns → refused v (found v None x r fs n) v.state.unit (ns ++ v.notes) ≡ refused w (found w None x r fs n) w.state.unit (ns ++ w.notes)
    refused_same_too h =
        let m = found w None x r fs n in let u = w.state.unit in
        let f : FramedIdent → Meaning = λ (p : FramedIdent). own_means (own_at m) (at_moment v m) p.frames p.ident in
        let g : FramedIdent → Meaning = λ (p : FramedIdent). own_means (own_at m) (at_moment w m) p.frames p.ident in
        let a = found_same n fs x r in let b = same.state.unit in
        (λ j. refused v (a j) (b j) (ns ++ v.notes))
        ∙ (by_notes v m u (ns ++ v.notes) (ns ++ w.notes) (notes_joined ns v.notes w.notes same.notes)
        ∙ any_same mask (is_some r) (Global u x.name) f g (λ p q. ap (λ z. local_or (own_local (own_at m) p.frames p.ident) z) (means_too m p.ident q)) (ns ++ w.notes) (each_behind (NoteIn mask) ns w.notes h same.noted))

    ends_same : mask.units w.state.unit ≡ true → Each (NoteIn mask) ns → answer v n (Defines fs x r ns) ≡ answer w n (Defines fs x r ns)
    ends_same h k =
        let f : Defined → Bool = λ (d : Defined). d.keyword in
        let a = refused_same_too k in
        let b = sym (some_mapped f (defined_in (n.table ++ v.state.table) v.state.unit x.name)) ∙ ap is_some (own_defined h n x.name) ∙ some_mapped f (defined_in (n.table ++ w.state.table) w.state.unit x.name) in
        λ j. Ends (outcome_by (a j) (b j))

  pub told_by_units : (q : Moment × Question) → Mentions mask w q → SameAnswer w v q
  told_by_units (n, LooksUp i) h =
      let m = root_means (at_moment w n) i in
      ap (λ z. Means z (is_some (macro_at (at_moment v n).macros z))) (means_too n i h.0) ∙ ap (Means m) (keyword_too n m h.1)
  told_by_units (n, UsesRules m) h = ap Expands (macro_too n m h)
  told_by_units (n, Compares l i) h = let a = means_too n l h.0 in let b = means_too n i h.1 in λ j. Says (same_meaning (a j) (b j))
  told_by_units (n, IsAssigned i) h =
      let a = same.state.program in
      let b = is_variable_as (defined_in (n.table ++ v.state.table) v.state.unit i) ∙ ap variable_as (own_defined h n i) ∙ sym (is_variable_as (defined_in (n.table ++ w.state.table) w.state.unit i)) in
      λ j. Says (a j && b j)
  told_by_units (n, Requires l) h = ap Says (same.known l h)
  told_by_units (n, Defines fs x r ns) h = ends_same n fs x r ns h.0 h.1
