-- What identifiers mean outside of all forms, by the code's scopes, and whether it is what a note tells.
use mathlib.Core.Bool.{beq}
use Rattle.std.proofs.Common.{◌≡◌, ◌↔◌, ◌&&◌, ◌==◌, ℕ, IsTrue, eqb-true, eq-eqb, List, [], Bool, true, false, Option, Some, None, refl, sym, ap, ◌∙◌, subst}
use Rattle.std.specs.BTreeMap.{get}
use Rattle.std.specs.Option as std
use Rattle.std.specs.Ordering.{nat_cmp}
use Rattle.std.proofs.lemmas.Option.{same_Some, slice_get_within}
use Rattle.scheme_model.specs.Identifiers.{Number}
use Rattle.scheme_model.specs.Ident.{Ident, Written, Inserted}
use Rattle.scheme_model.specs.Meaning.{of_form}
use Rattle.scheme_model.specs.Meaning as model
use Rattle.scheme_model.specs.Order.{Transformer, is_some}
use Rattle.scheme_model.specs.OwnAnswers.{root_means}
use Rattle.scheme_model.specs.RulesShape.{option_map}
use Rattle.scheme_model.specs.Questions.{Around, Question, UsesRules, Answer, Means, Expands, Says, Ends, bare_macro}
use Rattle.scheme_model.specs.Scopes.{given_or, defined_or, own_of, means}
use Rattle.scheme_model.specs.Substitution.{Defined, Table, Entries, defined_in, is_variable}
use Rattle.scheme_model.specs.ScopedExpansion.{Frames, UsePlace, BodyDefinitions, ScopedState, around, means_inside, means_outside, macro_at, assigned}
use Rattle.syntax_tree.specs.Names.{Names, AreToldApart}
use Rattle.syntax_tree.specs.Macros.{IsIdent}
use Rattle.syntax_tree.specs.Meant.{IsSymbol, IsMeaning}
use Rattle.syntax_tree.specs.declared.meaning.Meaning.{Meaning}
use Rattle.syntax_tree.specs.declared.meaning.Meaning.TheVariants as code
use Rattle.syntax_tree.specs.declared.trees.Work.{Work}
use Rattle.form_laws.specs.Begins.{IsEntry}
use Rattle.form_notes.specs.Noted.{Since, is_local}
use Rattle.form_notes.specs.declared.notes.Question.TheVariants as questions
use Rattle.unit_scopes.specs.Chains.{chain_in, uses_in, given_in}
use Rattle.unit_scopes.specs.State.{IsMacroIfAny, Rests, is_program}
use Rattle.unit_scopes.specs.Macros.{edition_in}
use Rattle.unit_scopes.specs.Used.{meanings_equal}
use Rattle.unit_scopes.specs.declared.macros.Macro.{Macro}
use Rattle.unit_scopes.specs.declared.macros.Macros.{Macros}
use Rattle.unit_scopes.specs.declared.scope.UnitScope.{UnitScope}
use Rattle.note_answers.specs.Answered.{answer_now, CanAsk, KeepsEdition, variable_by}
use Rattle.unit_scopes.proofs.ChainLaws.{chain_means}

pub true_false : true ≡ false → ⊥
true_false h = cc

-- ---- at the root

outside_root : (table : Table) (entry : Entries) (ps : List UsePlace) (ds : BodyDefinitions) (i : Ident) → ps ≡ [] → means_outside table entry ps ds i ≡ means_outside table entry [] [] i
outside_root table entry ps ds (Written u x) none = refl
outside_root table entry ps ds (Inserted i k) none =
    let rest = outside_root table entry ps ds i none in
    ap (given_or (own_of table entry k.unit (Inserted i k))) (λ j. means_inside ds (around (none j) k) i (rest j))

no_local : (o : Option Defined) (u : ℕ) (i : Ident) (e : Option model.Meaning) (other : model.Meaning) → IsEntry e → is_local other ≡ false → is_local (given_or (defined_or o u i e) other) ≡ false
no_local (Some d) u i e other entry lasts = refl
no_local None u i None other entry lasts = lasts
no_local None u i (Some (model.Local v)) other entry lasts = absurd entry
no_local None u i (Some (model.Global w j)) other entry lasts = refl
no_local None u i (Some (model.Standard x)) other entry lasts = refl
no_local None u i (Some (model.Free x)) other entry lasts = refl

module _ (s : ScopedState) (places : s.places ≡ []) (entries : (n : ℕ) (x : List ℕ) → IsEntry (s.entry n x)) where
  pub root_lasts : (i : Ident) → is_local (root_means s i) ≡ false
  root_lasts (Written u x) = no_local (defined_in s.table u (Written u x)) u (Written u x) (s.entry u x) (model.Free x) (entries u x) refl
  root_lasts (Inserted i k) = no_local (defined_in s.table k.unit (Inserted i k)) k.unit (Inserted i k) None (root_means s i) tt (root_lasts i)

  lasting : (u f : ℕ) (m : model.Meaning) → is_local m ≡ false → of_form u f m ≡ m
  lasting u f (model.Local v) lasts = absurd (true_false lasts)
  lasting u f (model.Global w i) lasts = refl
  lasting u f (model.Standard x) lasts = refl
  lasting u f (model.Free x) lasts = refl

  pub root_meaning : (names : Names) (c : Meaning) (i : Ident) → IsMeaning names s.unit s.form c (of_form s.unit s.form (means (given_in s) (uses_in s) (chain_in s []) i)) → IsMeaning names s.unit s.form c (root_means s i)
  root_meaning names c i h =
      subst (IsMeaning names s.unit s.form c)
      (ap (of_form s.unit s.form) (chain_means s [] i ∙ outside_root s.table s.entry s.places s.definitions i places) ∙ lasting s.unit s.form (root_means s i) (root_lasts i)) h

-- ---- meanings by their numbers

module _ (names : Names) where
  pub any_form : (u f v g : ℕ) (c : Meaning) (m : model.Meaning) → is_local m ≡ false → IsMeaning names u f c m → IsMeaning names v g c m
  any_form u f v g (code.Local n) m lasts h = absurd (true_false (sym (ap is_local h) ∙ lasts))
  any_form u f v g (code.Global w n) (model.Local y) lasts h = h
  any_form u f v g (code.Global w n) (model.Global y i) lasts h = h
  any_form u f v g (code.Global w n) (model.Standard x) lasts h = h
  any_form u f v g (code.Global w n) (model.Free x) lasts h = h
  any_form u f v g (code.Standard n) (model.Local y) lasts h = h
  any_form u f v g (code.Standard n) (model.Global y i) lasts h = h
  any_form u f v g (code.Standard n) (model.Standard x) lasts h = h
  any_form u f v g (code.Standard n) (model.Free x) lasts h = h
  any_form u f v g (code.Free n) (model.Local y) lasts h = h
  any_form u f v g (code.Free n) (model.Global y i) lasts h = h
  any_form u f v g (code.Free n) (model.Standard x) lasts h = h
  any_form u f v g (code.Free n) (model.Free x) lasts h = h

  -- a number stands for one meaning
  pub once : (u f : ℕ) (c : Meaning) (l m : model.Meaning) → IsMeaning names u f c l → IsMeaning names u f c m → l ≡ m
  once u f (code.Local n) l m h k = h ∙ sym k
  once u f (code.Global w n) (model.Global x i) (model.Global y j) h k = let e = same_Some i j (sym h.1 ∙ k.1) in λ t. model.Global ((sym h.0 ∙ k.0) t) (e t)
  once u f (code.Global w n) (model.Global x i) (model.Local v) h k = absurd k
  once u f (code.Global w n) (model.Global x i) (model.Standard y) h k = absurd k
  once u f (code.Global w n) (model.Global x i) (model.Free y) h k = absurd k
  once u f (code.Global w n) (model.Local v) m h k = absurd h
  once u f (code.Global w n) (model.Standard x) m h k = absurd h
  once u f (code.Global w n) (model.Free x) m h k = absurd h
  once u f (code.Standard n) (model.Standard x) (model.Standard y) h k = ap model.Standard (same_Some x y (sym h ∙ k))
  once u f (code.Standard n) (model.Standard x) (model.Local v) h k = absurd k
  once u f (code.Standard n) (model.Standard x) (model.Global w j) h k = absurd k
  once u f (code.Standard n) (model.Standard x) (model.Free y) h k = absurd k
  once u f (code.Standard n) (model.Local v) m h k = absurd h
  once u f (code.Standard n) (model.Global w i) m h k = absurd h
  once u f (code.Standard n) (model.Free x) m h k = absurd h
  once u f (code.Free n) (model.Free x) (model.Free y) h k = ap model.Free (same_Some x y (sym h ∙ k))
  once u f (code.Free n) (model.Free x) (model.Local v) h k = absurd k
  once u f (code.Free n) (model.Free x) (model.Global w j) h k = absurd k
  once u f (code.Free n) (model.Free x) (model.Standard y) h k = absurd k
  once u f (code.Free n) (model.Local v) m h k = absurd h
  once u f (code.Free n) (model.Global w i) m h k = absurd h
  once u f (code.Free n) (model.Standard x) m h k = absurd h

  by_global : (u f : ℕ) (c : Meaning) (w : ℕ) (i : Ident) → IsMeaning names u f c (model.Global w i) → (n : ℕ) × (c ≡ code.Global w n) × IsIdent names n i
  by_global u f (code.Local n) w i h = absurd (no_global h)
    where
      no_global : {v : Number} → model.Global w i ≡ model.Local v → ⊥
      no_global h = cc
  by_global u f (code.Global x n) w i h = (n, (λ t. code.Global (h.0 t) n), h.1)
  by_global u f (code.Standard n) w i h = absurd h
  by_global u f (code.Free n) w i h = absurd h

  by_standard : (u f : ℕ) (c : Meaning) (x : List ℕ) → IsMeaning names u f c (model.Standard x) → (n : ℕ) × (c ≡ code.Standard n) × IsSymbol names n x
  by_standard u f (code.Local n) x h = absurd (no_standard h)
    where
      no_standard : {v : Number} → model.Standard x ≡ model.Local v → ⊥
      no_standard h = cc
  by_standard u f (code.Global w n) x h = absurd h
  by_standard u f (code.Standard n) x h = (n, refl, h)
  by_standard u f (code.Free n) x h = absurd h

  by_free : (u f : ℕ) (c : Meaning) (x : List ℕ) → IsMeaning names u f c (model.Free x) → (n : ℕ) × (c ≡ code.Free n) × IsSymbol names n x
  by_free u f (code.Local n) x h = absurd (no_free h)
    where
      no_free : {v : Number} → model.Free x ≡ model.Local v → ⊥
      no_free h = cc
  by_free u f (code.Global w n) x h = absurd h
  by_free u f (code.Standard n) x h = absurd h
  by_free u f (code.Free n) x h = (n, refl, h)

  module _ (apart : AreToldApart names.idents) (told : AreToldApart names.symbols) where
    -- and it has one number
    number_of : (u f v g : ℕ) (c d : Meaning) (m : model.Meaning) → is_local m ≡ false → IsMeaning names u f c m → IsMeaning names v g d m → c ≡ d
    number_of u f v g c d (model.Local x) lasts h k = absurd (true_false lasts)
    number_of u f v g c d (model.Global w i) lasts h k =
        let a = by_global u f c w i h in
        let b = by_global v g d w i k in
        let e : a.0 ≡ b.0 = apart a.0 b.0 (slice_get_within names.idents a.0 i a.2) (a.2 ∙ sym b.2) in
        a.1 ∙ (ap (code.Global w) e ∙ sym b.1)
    number_of u f v g c d (model.Standard x) lasts h k =
        let a = by_standard u f c x h in
        let b = by_standard v g d x k in
        let e : a.0 ≡ b.0 = told a.0 b.0 (slice_get_within names.symbols a.0 x a.2) (a.2 ∙ sym b.2) in
        a.1 ∙ (ap code.Standard e ∙ sym b.1)
    number_of u f v g c d (model.Free x) lasts h k =
        let a = by_free u f c x h in
        let b = by_free v g d x k in
        let e : a.0 ≡ b.0 = told a.0 b.0 (slice_get_within names.symbols a.0 x a.2) (a.2 ∙ sym b.2) in
        a.1 ∙ (ap code.Free e ∙ sym b.1)

    -- what isn't local is what a note tells where the numbers are the same
    pub meant_same : (u f v g : ℕ) (c d : Meaning) (l m : model.Meaning) → is_local l ≡ false → IsMeaning names u f c l → IsMeaning names v g d m → (c ≡ d) ↔ (l ≡ m)
    meant_same u f v g c d l m lasts h k = (λ e. once v g d l m (any_form u f v g d l lasts (subst (λ (x : Meaning). IsMeaning names u f x l) e h)) k, λ e. number_of u f v g c d l lasts h (subst (IsMeaning names v g d) (sym e) k))

-- ---- answers

abbrev means_of : Answer → model.Meaning
means_of (Means m k) = m
means_of (Expands t) = model.Free []
means_of (Says b) = model.Free []
means_of (Ends o) = model.Free []

abbrev keyword_of : Answer → Bool
keyword_of (Means m k) = k
keyword_of (Expands t) = false
keyword_of (Says b) = b
keyword_of (Ends o) = false

pub means_same : (l m : model.Meaning) (j k : Bool) → (Means l j ≡ Means m k) ↔ ((l ≡ m) × (j ≡ k))
means_same l m j k = (λ e. (ap means_of e, ap keyword_of e), λ h. λ t. Means (h.0 t) (h.1 t))

pub says_same : (j k : Bool) → (Says j ≡ Says k) ↔ (j ≡ k)
says_same j k = (ap keyword_of, ap Says)

abbrev rules_of : Answer → Option (Transformer Frames Ident)
rules_of (Means m k) = None
rules_of (Expands t) = t
rules_of (Says b) = None
rules_of (Ends o) = None

pub expands_same : (x y : Option (Transformer Frames Ident)) → (Expands x ≡ Expands y) ↔ (x ≡ y)
expands_same x y = (ap rules_of, ap Expands)

-- ---- macros

pub macro_there : (work : Work) (ls : List Frames) (o : Option Macro) (p : Option (Transformer Frames Ident)) → IsMacroIfAny work ls o p → is_some o ≡ is_some p
macro_there work ls None None h = refl
macro_there work ls None (Some m) h = absurd h
macro_there work ls (Some k) None h = absurd h
macro_there work ls (Some k) (Some m) h = refl

-- ---- tests

pub beq_same : (a b : Bool) → IsTrue (beq a b) ↔ (a ≡ b)
beq_same true true = (λ h. refl, λ h. refl)
beq_same true false = (λ h. sym h, λ h. sym h)
beq_same false true = (λ h. h, λ h. h)
beq_same false false = (λ h. refl, λ h. refl)

equal_itself : (c : Meaning) → meanings_equal c c ≡ true
equal_itself (code.Local n) = eq-eqb n n refl
equal_itself (code.Global u i) = let a = eq-eqb u u refl in let b = eq-eqb i i refl in λ j. a j && b j
equal_itself (code.Standard x) = eq-eqb x x refl
equal_itself (code.Free x) = eq-eqb x x refl

both : (a b : Bool) → (a && b) ≡ true → (a ≡ true) × (b ≡ true)
both true b h = (refl, h)
both false b h = absurd (true_false (sym h))

equal_once : (c d : Meaning) → meanings_equal c d ≡ true → c ≡ d
equal_once (code.Local n) (code.Local k) h = ap code.Local (eqb-true n k h)
equal_once (code.Local n) (code.Global v j) h = absurd (true_false (sym h))
equal_once (code.Local n) (code.Standard t) h = absurd (true_false (sym h))
equal_once (code.Local n) (code.Free t) h = absurd (true_false (sym h))
equal_once (code.Global u i) (code.Local k) h = absurd (true_false (sym h))
equal_once (code.Global u i) (code.Global v j) h = let a = both (u == v) (i == j) h in λ t. code.Global (eqb-true u v a.0 t) (eqb-true i j a.1 t)
equal_once (code.Global u i) (code.Standard t) h = absurd (true_false (sym h))
equal_once (code.Global u i) (code.Free t) h = absurd (true_false (sym h))
equal_once (code.Standard x) (code.Local k) h = absurd (true_false (sym h))
equal_once (code.Standard x) (code.Global v j) h = absurd (true_false (sym h))
equal_once (code.Standard x) (code.Standard y) h = ap code.Standard (eqb-true x y h)
equal_once (code.Standard x) (code.Free t) h = absurd (true_false (sym h))
equal_once (code.Free x) (code.Local k) h = absurd (true_false (sym h))
equal_once (code.Free x) (code.Global v j) h = absurd (true_false (sym h))
equal_once (code.Free x) (code.Standard t) h = absurd (true_false (sym h))
equal_once (code.Free x) (code.Free y) h = ap code.Free (eqb-true x y h)

pub equal_same : (c d : Meaning) → (meanings_equal c d ≡ true) ↔ (c ≡ d)
equal_same c d = (equal_once c d, λ e. ap (meanings_equal c) (sym e) ∙ equal_itself c)

-- ---- definitions of the unit

variable_is : (o : Option Defined) → variable_by (std.option_map (λ (d : Defined). d.keyword) o) ≡ is_variable o
variable_is None = refl
variable_is (Some d) = refl

pub assigned_is : (work : Work) (u : UnitScope) (ls : List Frames) (s : ScopedState) (ident : ℕ) (i : Ident) (program result : Bool) → Rests work u ls s → IsIdent work.symbols ident i → is_program u.kind ≡ program →
    result ≡ (program && variable_by (get nat_cmp u.defined ident)) → result ≡ assigned s None i
assigned_is work u ls s ident i program result e is kind h =
    h ∙ (λ j. (sym kind ∙ e.program) j && (ap variable_by (e.defined ident i is) ∙ variable_is (defined_in s.table s.unit i)) j)

-- ---- one note

pub means_arm : (P : Type 0) (l m : model.Meaning) (c d : Meaning) (j k : Bool) → P ↔ ((c ≡ d) × (j ≡ k)) → ((c ≡ d) ↔ (l ≡ m)) → P ↔ (Means l j ≡ Means m k)
means_arm P l m c d j k told same = (λ p. let h = told.0 p in (means_same l m j k).1 (same.0 h.0, h.1), λ e. let h = (means_same l m j k).0 e in told.1 (same.1 h.0, h.1))

pub says_arm : (P : Type 0) (a : Answer) (r b : Bool) → a ≡ Says r → P ↔ (r ≡ b) → P ↔ (a ≡ Says b)
says_arm P a r b is same = (λ p. is ∙ ap Says (same.0 p), λ e. same.1 ((says_same r b).0 (sym is ∙ e)))

pub carried : (P : Type 0) (v : Around) (q p : Question) (a b : Answer) → q ≡ p → a ≡ b → P ↔ (answer_now v p ≡ b) → P ↔ (answer_now v q ≡ a)
carried P v q p a b e f h = (λ x. ap (answer_now v) e ∙ (h.0 x ∙ sym f), λ k. h.1 (sym (ap (answer_now v) e) ∙ (k ∙ f)))

same_form : (ms : Macros) (names : Names) (u f : ℕ) (g h : ℕ) (c : Meaning) (m : model.Meaning) → is_local m ≡ false → IsMeaning names u f c m → edition_in ms g c ≡ edition_in ms h c
same_form ms names u f g h (code.Local n) m lasts is = absurd (true_false (sym (ap is_local is) ∙ lasts))
same_form ms names u f g h (code.Global w n) m lasts is = refl
same_form ms names u f g h (code.Standard n) m lasts is = refl
same_form ms names u f g h (code.Free n) m lasts is = refl

-- the edition of a macro tells its rules
pub rules_only : (P : Type 0) (work : Work) (u : UnitScope) (v : Around) (r : Since) (c : Meaning) (m : model.Meaning) (e form : ℕ) → CanAsk work u v r → is_local m ≡ false → IsMeaning work.symbols r.unit r.form c m → P ↔ (edition_in u.macros form c ≡ e)
    → P → answer_now v (UsesRules m) ≡ Expands (r.editions e)
rules_only P work u v r c m e form can lasts is same p = ap Expands (sym (can.editions.tells form c m (any_form work.symbols r.unit r.form v.state.unit form c m lasts is) lasts) ∙ ap r.editions (same.0 p))

pub rules_arm : (P : Type 0) (work : Work) (u : UnitScope) (v : Around) (r : Since) (c : Meaning) (m : model.Meaning) (e form : ℕ) → CanAsk work u v r → is_local m ≡ false → IsMeaning work.symbols r.unit r.form c m → KeepsEdition work u v r (questions.Rules c e) →
    P ↔ (edition_in u.macros form c ≡ e) → P ↔ (answer_now v (UsesRules m) ≡ Expands (r.editions e))
rules_arm P work u v r c m e form can lasts is keeps same =
    let here : IsMeaning work.symbols v.state.unit v.state.form c m = any_form work.symbols r.unit r.form v.state.unit v.state.form c m lasts is in
    let told = can.editions.tells form c m (any_form work.symbols r.unit r.form v.state.unit form c m lasts is) lasts in (
      rules_only P work u v r c m e form can lasts is same,
      λ k. same.1 (same_form u.macros work.symbols r.unit r.form form v.state.form c m lasts is ∙ keeps m here (sym ((expands_same (option_map bare_macro (macro_at v.state.macros m)) (r.editions e)).0 k))),
    )
