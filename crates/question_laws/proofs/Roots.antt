-- What an identifier means at the root where the form's own definitions stand before those of its surroundings.
use Rattle.std.proofs.Common.{◌≡◌, ℕ, List, [], ◌∷◌, ◌++◌, Bool, true, false, cond, eqb, ltb, Option, Some, None, refl, sym, ap, ◌∙◌}
use Rattle.std.specs.Prelude.{◌&&◌, ◌||◌, not}
use Rattle.std.proofs.lemmas.Bool.{false_from_ne_true, eqb-true, and_parts, not-true, both_ways}
use Rattle.scheme_model.specs.Identifiers.{Number}
use Rattle.scheme_model.specs.Ident.{Ident, Written, Inserted, same_ident}
use Rattle.scheme_model.specs.Meaning.{Meaning, Local, Global, Standard, Free, same_meaning}
use Rattle.scheme_model.specs.Order.{is_some}
use Rattle.scheme_model.specs.Substitution.{Table, Entries, Defined, defined_in}
use Rattle.scheme_model.specs.Scopes.{defined_or, given_or}
use Rattle.scheme_model.specs.ScopedExpansion.{ScopedMacro, ScopedState, means_outside, macro_at}
use Rattle.scheme_model.specs.OwnAnswers.{root_means}
use Rattle.scheme_model.specs.Questions.{Around}
use Rattle.scheme_model.proofs.IdentLaws.{ident_told}
use Rattle.form_laws.specs.Begins.{Begins, SameForm}
use Rattle.question_laws.specs.Noted.{is_to_come, before_uses, is_defined_in, defines_within, answers_alone, IsClosed}

-- ---- what stands in front, and what behind

pub or_neither : (a b : Bool) → (a || b) ≡ false → (a ≡ false) × (b ≡ false)
or_neither true b e = let q : true ≡ false = e in absurd cc
or_neither false b e = (refl, e)

not_some : {X : Type 0} (o : Option X) → is_some o ≡ false → o ≡ None
not_some None e = refl
not_some (Some x) e = let q : true ≡ false = e in absurd cc

pub defined_front : (own ys : Table) (u : ℕ) (i : Ident) → is_defined_in own u i ≡ true → defined_in (own ++ ys) u i ≡ defined_in own u i
defined_front [] ys u i e = let q : false ≡ true = e in absurd cc
defined_front (d ∷ own) ys u i e = go (eqb d.unit u && same_ident d.ident i) e (defined_front own ys u i)
  where
    go : (t : Bool) → is_some (cond t (Some d) (defined_in own u i)) ≡ true → (is_defined_in own u i ≡ true → defined_in (own ++ ys) u i ≡ defined_in own u i)
        → cond t (Some d) (defined_in (own ++ ys) u i) ≡ cond t (Some d) (defined_in own u i)
    go true e h = refl
    go false e h = h e

pub defined_behind : (own ys : Table) (u : ℕ) (i : Ident) → is_defined_in own u i ≡ false → defined_in (own ++ ys) u i ≡ defined_in ys u i
defined_behind [] ys u i e = refl
defined_behind (d ∷ own) ys u i e = go (eqb d.unit u && same_ident d.ident i) e (defined_behind own ys u i)
  where
    go : (t : Bool) → is_some (cond t (Some d) (defined_in own u i)) ≡ false → (is_defined_in own u i ≡ false → defined_in (own ++ ys) u i ≡ defined_in ys u i)
        → cond t (Some d) (defined_in (own ++ ys) u i) ≡ defined_in ys u i
    go true e h = let q : true ≡ false = e in absurd cc
    go false e h = h e

pub macro_front : (ks ls : List ScopedMacro) (m : Meaning) → is_some (macro_at ks m) ≡ true → macro_at (ks ++ ls) m ≡ macro_at ks m
macro_front [] ls m e = let q : false ≡ true = e in absurd cc
macro_front (k ∷ ks) ls m e = go (same_meaning k.meaning m) e (macro_front ks ls m)
  where
    go : (t : Bool) → is_some (cond t (Some (record { env = k.frames; rules = k.rules })) (macro_at ks m)) ≡ true → (is_some (macro_at ks m) ≡ true → macro_at (ks ++ ls) m ≡ macro_at ks m)
        → cond t (Some (record { env = k.frames; rules = k.rules })) (macro_at (ks ++ ls) m) ≡ cond t (Some (record { env = k.frames; rules = k.rules })) (macro_at ks m)
    go true e h = refl
    go false e h = h e

pub macro_behind : (ks ls : List ScopedMacro) (m : Meaning) → is_some (macro_at ks m) ≡ false → macro_at (ks ++ ls) m ≡ macro_at ls m
macro_behind [] ls m e = refl
macro_behind (k ∷ ks) ls m e = go (same_meaning k.meaning m) e (macro_behind ks ls m)
  where
    go : (t : Bool) → is_some (cond t (Some (record { env = k.frames; rules = k.rules })) (macro_at ks m)) ≡ false → (is_some (macro_at ks m) ≡ false → macro_at (ks ++ ls) m ≡ macro_at ls m)
        → cond t (Some (record { env = k.frames; rules = k.rules })) (macro_at (ks ++ ls) m) ≡ macro_at ls m
    go true e h = let q : true ≡ false = e in absurd cc
    go false e h = h e

-- in one or the other
pub macro_either : (ks ls : List ScopedMacro) (m : Meaning) → is_some (macro_at (ks ++ ls) m) ≡ (is_some (macro_at ks m) || is_some (macro_at ls m))
macro_either [] ls m = refl
macro_either (k ∷ ks) ls m = go (same_meaning k.meaning m) (macro_either ks ls m)
  where
    go : (t : Bool) → is_some (macro_at (ks ++ ls) m) ≡ (is_some (macro_at ks m) || is_some (macro_at ls m))
        → is_some (cond t (Some (record { env = k.frames; rules = k.rules })) (macro_at (ks ++ ls) m)) ≡ (is_some (cond t (Some (record { env = k.frames; rules = k.rules })) (macro_at ks m)) || is_some (macro_at ls m))
    go true h = refl
    go false h = h

-- ---- no definition of the form is within

given_defined : (o : Option Defined) → is_some o ≡ true → (u : ℕ) (i : Ident) (p : Option Meaning) (m : Meaning) → given_or (defined_or o u i p) m ≡ Global u i
given_defined None e u i p m = let q : false ≡ true = e in absurd cc
given_defined (Some d) e u i p m = refl

pub outside_same : (own table : Table) (entry : Entries) (i : Ident) → defines_within own i ≡ false → means_outside (own ++ table) entry [] [] i ≡ means_outside table entry [] [] i
outside_same own table entry (Written u x) e = ap (λ d. given_or (defined_or d u (Written u x) (entry u x)) (Free x)) (defined_behind own table u (Written u x) e)
outside_same own table entry (Inserted i k) e =
    let p = or_neither (is_defined_in own k.unit (Inserted i k)) (defines_within own i) e in
    let d = defined_behind own table k.unit (Inserted i k) p.0 in let m = outside_same own table entry i p.1 in
    λ j. given_or (defined_or (d j) k.unit (Inserted i k) None) (m j)

-- ---- uses of the form

-- what is to come in t, as it is in s, inserted nothing that is defined there
abbrev pub NotYet : ScopedState → ScopedState → Type 0
NotYet s t = (k : Number) → is_to_come s k ≡ true → (i : Ident) → is_defined_in t.table k.unit (Inserted i k) ≡ false

pub to_come_itself : (s : ScopedState) → Begins s → NotYet s s
to_come_itself s h k e i =
    let p = and_parts (eqb k.unit s.unit) (eqb k.form s.form && not (ltb k.count (s.uses s.form))) e in
    let q = and_parts (eqb k.form s.form) (not (ltb k.count (s.uses s.form))) p.1 in
    let late = ap (λ b. cond b (ltb k.count (s.uses k.form)) true) p.0 ∙ (ap (λ f. ltb k.count (s.uses f)) (eqb-true k.form s.form q.0) ∙ not-true (ltb k.count (s.uses s.form)) q.1) in
    false_from_ne_true (is_defined_in s.table k.unit (Inserted i k)) (λ d. both_ways (cond (eqb k.unit s.unit) (ltb k.count (s.uses k.form)) true) late (h.defined k.unit (Inserted i k) d).0)

pub to_come_same : (w v : Around) → SameForm w v → (k : Number) → is_to_come v.state k ≡ is_to_come w.state k
to_come_same w v same k =
    let u = same.unit in let f = same.form in let n = ap (λ m. m.uses) same.counts in
    λ j. eqb k.unit (u j) && (eqb k.form (f j) && not (ltb k.count (n j)))

pub to_come_there : (w v : Around) → SameForm w v → Begins v.state → NotYet w.state v.state
to_come_there w v same h k e i = to_come_itself v.state h k (to_come_same w v same k ∙ e) i

module _ (s t : ScopedState) (not_yet : NotYet s t) where
  pub before_same : (i : Ident) → root_means t i ≡ root_means t (before_uses s i)
  before_same (Written u x) = refl
  before_same (Inserted i k) = go (is_to_come s k) refl (before_same i)
    where
      go : (b : Bool) → is_to_come s k ≡ b → root_means t i ≡ root_means t (before_uses s i) → root_means t (Inserted i k) ≡ root_means t (cond b (before_uses s i) (Inserted i k))
      go true e h = ap (λ d. given_or (defined_or d k.unit (Inserted i k) None) (root_means t i)) (not_some (defined_in t.table k.unit (Inserted i k)) (not_yet k e i)) ∙ h
      go false e h = refl

-- ---- the form answers alone

-- the first of its definitions
abbrev pub own_meaning : Table → Ident → Meaning
own_meaning own (Written u x) = Global u (Written u x)
own_meaning own (Inserted i k) = cond (is_defined_in own k.unit (Inserted i k)) (Global k.unit (Inserted i k)) (own_meaning own i)

abbrev pub IsOwn : Table → Meaning → Type 0
IsOwn own (Local v) = ⊥
IsOwn own (Global u i) = is_defined_in own u i ≡ true
IsOwn own (Standard x) = ⊥
IsOwn own (Free x) = ⊥

pub alone_own : (s : ScopedState) (own : Table) (i : Ident) → answers_alone s own i ≡ true → IsOwn own (own_meaning own i)
alone_own s own (Written u x) e = e
alone_own s own (Inserted i k) e = go (is_defined_in own k.unit (Inserted i k)) refl (is_to_come s k) (λ f. alone_own s own i f) e
  where
    go : (b : Bool) → is_defined_in own k.unit (Inserted i k) ≡ b → (c : Bool) → (answers_alone s own i ≡ true → IsOwn own (own_meaning own i)) → (b || (c && answers_alone s own i)) ≡ true
        → IsOwn own (cond b (Global k.unit (Inserted i k)) (own_meaning own i))
    go true d c h e = d
    go false d true h e = h e
    go false d false h e = let q : false ≡ true = e in absurd cc

module _ (s t : ScopedState) (not_yet : NotYet s t) (own : Table) where
  pub alone_means : (i : Ident) → answers_alone s own i ≡ true → means_outside (own ++ t.table) t.entry [] [] i ≡ own_meaning own i
  alone_means (Written u x) e =
      ap (λ d. given_or (defined_or d u (Written u x) (t.entry u x)) (Free x)) (defined_front own t.table u (Written u x) e)
      ∙ given_defined (defined_in own u (Written u x)) e u (Written u x) (t.entry u x) (Free x)
  alone_means (Inserted i k) e = go (is_defined_in own k.unit (Inserted i k)) refl (is_to_come s k) refl (means_outside (own ++ t.table) t.entry [] [] i) (λ f. alone_means i f) e
    where
      go : (b : Bool) → is_defined_in own k.unit (Inserted i k) ≡ b → (c : Bool) → is_to_come s k ≡ c → (inner : Meaning) → (answers_alone s own i ≡ true → inner ≡ own_meaning own i) → (b || (c && answers_alone s own i)) ≡ true
          → given_or (defined_or (defined_in (own ++ t.table) k.unit (Inserted i k)) k.unit (Inserted i k) None) inner ≡ cond b (Global k.unit (Inserted i k)) (own_meaning own i)
      go true d c f inner h e =
          ap (λ o. given_or (defined_or o k.unit (Inserted i k) None) inner) (defined_front own t.table k.unit (Inserted i k) d)
          ∙ given_defined (defined_in own k.unit (Inserted i k)) d k.unit (Inserted i k) None inner
      go false d true f inner h e =
          ap (λ o. given_or (defined_or o k.unit (Inserted i k) None) inner) (defined_behind own t.table k.unit (Inserted i k) d ∙ not_some (defined_in t.table k.unit (Inserted i k)) (not_yet k f i))
          ∙ h e
      go false d false f inner h e = let q : false ≡ true = e in absurd cc

-- ---- what is closed

-- a definition that stands there
abbrev pub StandsThere : Table → Meaning → Type 0
StandsThere table (Local v) = Unit {0}
StandsThere table (Global u i) = is_defined_in table u i ≡ true
StandsThere table (Standard x) = Unit {0}
StandsThere table (Free x) = Unit {0}

module _ (s : ScopedState) (closed : IsClosed s) where
  imported_stands : (u : ℕ) (x : List ℕ) (o : Option Meaning) → s.entry u x ≡ o → StandsThere s.table (given_or o (Free x))
  imported_stands u x None e = tt
  imported_stands u x (Some (Local v)) e = tt
  imported_stands u x (Some (Global v i)) e = closed.imports u x v i e
  imported_stands u x (Some (Standard y)) e = tt
  imported_stands u x (Some (Free y)) e = tt

  pub root_stands : (i : Ident) → StandsThere s.table (root_means s i)
  root_stands (Written u x) = go (defined_in s.table u (Written u x)) refl
    where
      go : (o : Option Defined) → defined_in s.table u (Written u x) ≡ o → StandsThere s.table (given_or (defined_or o u (Written u x) (s.entry u x)) (Free x))
      go None e = imported_stands u x (s.entry u x) refl
      go (Some d) e = ap is_some e
  root_stands (Inserted i k) = go (defined_in s.table k.unit (Inserted i k)) refl (root_stands i)
    where
      go : (o : Option Defined) → defined_in s.table k.unit (Inserted i k) ≡ o → StandsThere s.table (root_means s i) → StandsThere s.table (given_or (defined_or o k.unit (Inserted i k) None) (root_means s i))
      go None e h = h
      go (Some d) e h = ap is_some e

pub same_one : (u v : ℕ) (i j : Ident) → (eqb u v && same_ident i j) ≡ true → (u ≡ v) × (i ≡ j)
same_one u v i j e = let p = and_parts (eqb u v) (same_ident i j) e in (eqb-true u v p.0, ident_told i j p.1)

-- a definition that doesn't stand there is none that does
pub own_apart : (own table : Table) → ((u : ℕ) (i : Ident) → is_defined_in own u i ≡ true → is_defined_in table u i ≡ false) → (m n : Meaning) → IsOwn own m → StandsThere table n → same_meaning m n ≡ false
own_apart own table new (Local v) n a b = absurd a
own_apart own table new (Global u i) (Local v) a b = refl
own_apart own table new (Global u i) (Global v j) a b =
    false_from_ne_true (eqb u v && same_ident i j) (λ e. let p = same_one u v i j e in both_ways (is_defined_in table v j) ((let x = p.0 in let y = p.1 in λ z. is_defined_in table (sym x z) (sym y z)) ∙ new u i a) b)
own_apart own table new (Global u i) (Standard x) a b = refl
own_apart own table new (Global u i) (Free x) a b = refl
own_apart own table new (Standard x) n a b = absurd a
own_apart own table new (Free x) n a b = absurd a

pub own_apart_too : (own table : Table) → ((u : ℕ) (i : Ident) → is_defined_in own u i ≡ true → is_defined_in table u i ≡ false) → (m n : Meaning) → IsOwn own m → StandsThere table n → same_meaning n m ≡ false
own_apart_too own table new (Local v) n a b = absurd a
own_apart_too own table new (Global u i) (Local v) a b = refl
own_apart_too own table new (Global u i) (Global v j) a b =
    false_from_ne_true (eqb v u && same_ident j i) (λ e. let p = same_one v u j i e in both_ways (is_defined_in table v j) ((let x = p.0 in let y = p.1 in λ z. is_defined_in table (x z) (y z)) ∙ new u i a) b)
own_apart_too own table new (Global u i) (Standard x) a b = refl
own_apart_too own table new (Global u i) (Free x) a b = refl
own_apart_too own table new (Standard x) n a b = absurd a
own_apart_too own table new (Free x) n a b = absurd a
