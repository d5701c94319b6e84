-- Forms of which those that include a text are refused stand for those of the definition.
use Rattle.std.proofs.Common.{◌≡◌, ℕ, zero, suc, ◌+◌, ◌≤◌, inl, inr, Bool, true, false, cond, List, [], ◌∷◌, ◌++◌, map, take, length, slice_get, slice_set, Some, refl, sym, ap, ◌∙◌, subst, arith}
use Rattle.std.specs.Prelude.{◌&&◌, ◌||◌, codes, reverse}
use Rattle.std.proofs.lemmas.Option.{same_Some}
use Rattle.scheme_model.specs.Declarations.{UnitForm, is_headed}
use Rattle.scheme_model.specs.Program.{is_include, form_trees, refused_form, with_refused}
use Rattle.scheme_model.specs.UnitExpansion.{Formed}
use Rattle.syntax_tree.specs.declared.trees.Work.{Work}
use Rattle.core_tree.specs.Units.{FormsStand, IsBlank, AreDefinitions, definitions_from}
use Rattle.core_tree.specs.declared.cores.Binder.{Binder}
use Rattle.core_tree.specs.declared.units.UnitForm as code
use Rattle.unit_sources.specs.UnitsRead.{form_of, forms_of}
use Rattle.unit_sources.specs.declared.units.UnitForm as source
use Rattle.form_expansion.specs.Ends.{numbers_of}
use Rattle.form_expansion.specs.Forms.{AreFormed}
use Rattle.form_expansion.specs.Refused.{refused_fault, refused_forms, refused_if}

-- ---- one form more

none_before : (k : ℕ) → k + 0 ≡ k
none_before k = omega arith

one_before : (k i : ℕ) → suc k + i ≡ k + suc i
one_before k i = omega arith

refused_from : (unit k i m : ℕ) (ss : List source.UnitForm) (cs : List code.UnitForm) (s : source.UnitForm) (c : code.UnitForm) → m ≡ suc i → slice_get ss i ≡ Some s → slice_get (refused_forms unit k (take i ss) cs) i ≡ Some c →
    slice_set (refused_forms unit k (take i ss) cs) i (refused_if unit (k + i) s c) ≡ refused_forms unit k (take (suc i) ss) cs
refused_from unit k i m [] cs s c next here there = absurd cc
refused_from unit k zero m (t ∷ ss) [] s c next here there = absurd cc
refused_from unit k zero m (t ∷ ss) (d ∷ cs) s c next here there =
    λ j. refused_if unit (none_before k j) (sym (same_Some t s here) j) (sym (same_Some d c there) j) ∷ cs
refused_from unit k (suc i) m (t ∷ ss) [] s c next here there = absurd cc
refused_from unit k (suc i) m (t ∷ ss) (d ∷ cs) s c next here there =
    ap (λ (n : ℕ). refused_if unit k t d ∷ slice_set (refused_forms unit (suc k) (take i ss) cs) i (refused_if unit n s c)) (sym (one_before k i))
    ∙ ap (λ (fs : List code.UnitForm). refused_if unit k t d ∷ fs) (refused_from unit (suc k) i (suc i) ss cs s c refl here there)

pub refused_step : (unit i m : ℕ) (ss : List source.UnitForm) (cs : List code.UnitForm) (s : source.UnitForm) (c : code.UnitForm) → m ≡ suc i → slice_get ss i ≡ Some s → slice_get (refused_forms unit 0 (take i ss) cs) i ≡ Some c →
    slice_set (refused_forms unit 0 (take i ss) cs) i (refused_if unit i s c) ≡ refused_forms unit 0 (take m ss) cs
refused_step unit i m ss cs s c next here there =
    ap (λ (n : ℕ). slice_set (refused_forms unit 0 (take i ss) cs) i (refused_if unit n s c)) (sym (zero_before i)) ∙ refused_from unit 0 i m ss cs s c next here there
    ∙ ap (λ (n : ℕ). refused_forms unit 0 (take n ss) cs) (sym next)
  where
    zero_before : (i : ℕ) → 0 + i ≡ i
    zero_before i = omega arith

-- ---- what stays

pub refused_length : (unit k : ℕ) (ss : List source.UnitForm) (cs : List code.UnitForm) → length (refused_forms unit k ss cs) ≡ length cs
refused_length unit k [] cs = refl
refused_length unit k (s ∷ ss) [] = refl
refused_length unit k (s ∷ ss) (c ∷ cs) = ap suc (refused_length unit (suc k) ss cs)

same_trace : (unit n : ℕ) (s : source.UnitForm) (c : code.UnitForm) → (refused_if unit n s c).trace ≡ c.trace
same_trace unit n s c = go (is_include (form_of s))
  where
    go : (b : Bool) → (cond b (record c { fault = Some (refused_fault unit n) }) c).trace ≡ c.trace
    go true = refl
    go false = refl

pub refused_definitions : (unit k : ℕ) (ss : List source.UnitForm) (cs : List code.UnitForm) → definitions_from k (refused_forms unit k ss cs) ≡ definitions_from k cs
refused_definitions unit k [] cs = refl
refused_definitions unit k (s ∷ ss) [] = refl
refused_definitions unit k (s ∷ ss) (c ∷ cs) =
    λ j. map (λ (b : Binder). (k, b)) (same_trace unit k s c j).definitions ++ refused_definitions unit (suc k) ss cs j

-- ---- one form of the definition

declared_of : (f : UnitForm) → is_include f ≡ true → f.declared ≡ true
declared_of f h = go f.declared refl
  where
    go : (b : Bool) → f.declared ≡ b → f.declared ≡ true
    go true e = e
    go false e =
        let none : is_include f ≡ false = ap (λ (b : Bool). (b && is_headed (codes "include") f.datum) || ((b && is_headed (codes "include-ci") f.datum) || (b && is_headed (codes "include-library-declarations") f.datum))) e in
        absurd cc

with_include : (unit k : ℕ) (f : UnitForm) (fs : List UnitForm) (es : List Formed) → is_include f ≡ true → with_refused unit k (f ∷ fs) es ≡ refused_form unit k ∷ with_refused unit (suc k) fs es
with_include unit k f fs es e = rw e refl

with_declared : (unit k : ℕ) (f : UnitForm) (fs : List UnitForm) (es : List Formed) → is_include f ≡ false → f.declared ≡ true → with_refused unit k (f ∷ fs) es ≡ with_refused unit (suc k) fs es
with_declared unit k f fs es e d = rw (e, d) refl

with_expanded : (unit k : ℕ) (f : UnitForm) (fs : List UnitForm) (g : Formed) (gs : List Formed) → is_include f ≡ false → f.declared ≡ false → with_refused unit k (f ∷ fs) (g ∷ gs) ≡ g ∷ with_refused unit (suc k) fs gs
with_expanded unit k f fs g gs e d = rw (e, d) refl

trees_declared : (unit k : ℕ) (f : UnitForm) (fs : List UnitForm) → f.declared ≡ true → numbers_of (form_trees unit k (f ∷ fs)) ≡ numbers_of (form_trees unit (suc k) fs)
trees_declared unit k f fs d = rw d refl

trees_expanded : (unit k : ℕ) (f : UnitForm) (fs : List UnitForm) → f.declared ≡ false → numbers_of (form_trees unit k (f ∷ fs)) ≡ k ∷ numbers_of (form_trees unit (suc k) fs)
trees_expanded unit k f fs d = rw d refl

-- ---- forms that stand for some

module _ (work : Work) (unit : ℕ) where
  above : (k : ℕ) (cs : List code.UnitForm) (g : Formed) (gs : List Formed) → FormsStand work unit k cs (g ∷ gs) → k ≤ g.form
  above k [] g gs h = absurd h
  above k (c ∷ cs) g gs (inl h) = let lt = h.1 in omega arith
  above k (c ∷ cs) g gs (inr h) = let e = h.0 in omega arith

  -- a blank form stands before others
  behind_blank : (k : ℕ) (c : code.UnitForm) (cs : List code.UnitForm) (gs : List Formed) → IsBlank c → FormsStand work unit (suc k) cs gs → FormsStand work unit k (c ∷ cs) gs
  behind_blank k c cs [] blank h = (blank, h)
  behind_blank k c cs (g ∷ gs) blank h = inl (blank, (let le = above (suc k) cs g gs h in omega arith), h)

  -- a form that is refused stands before others
  behind_refused : (k : ℕ) (c : code.UnitForm) (cs : List code.UnitForm) (gs : List Formed) → FormsStand work unit (suc k) cs gs → FormsStand work unit k (record c { fault = Some (refused_fault unit k) } ∷ cs) (refused_form unit k ∷ gs)
  behind_refused k c cs gs h = inr (refl, (refused_fault unit k, refl, record { code = refl; name = tt; place = refl; here = refl; text = refl }), h)

  -- whatever they stand for
  pub any_refused : (k : ℕ) (ss : List source.UnitForm) (cs : List code.UnitForm) (fs : List Formed) → FormsStand work unit k cs fs → length ss ≡ length cs → (gs : List Formed) × FormsStand work unit k (refused_forms unit k ss cs) gs
  any_refused k [] cs fs h long = (fs, h)
  any_refused k (s ∷ ss) [] fs h long = absurd (omega arith)
  any_refused k (s ∷ ss) (c ∷ cs) [] h long =
      let rest = any_refused (suc k) ss cs [] h.1 (omega arith) in go (is_include (form_of s)) rest.0 rest.1
    where
      go : (b : Bool) (gs : List Formed) → FormsStand work unit (suc k) (refused_forms unit (suc k) ss cs) gs → (es : List Formed) × FormsStand work unit k (cond b (record c { fault = Some (refused_fault unit k) }) c ∷ refused_forms unit (suc k) ss cs) es
      go true gs stand = (refused_form unit k ∷ gs, behind_refused k c (refused_forms unit (suc k) ss cs) gs stand)
      go false gs stand = (gs, behind_blank k c (refused_forms unit (suc k) ss cs) gs h.0 stand)
  any_refused k (s ∷ ss) (c ∷ cs) (f ∷ fs) (inl h) long =
      let rest = any_refused (suc k) ss cs (f ∷ fs) h.2 (omega arith) in go (is_include (form_of s)) rest.0 rest.1
    where
      go : (b : Bool) (gs : List Formed) → FormsStand work unit (suc k) (refused_forms unit (suc k) ss cs) gs → (es : List Formed) × FormsStand work unit k (cond b (record c { fault = Some (refused_fault unit k) }) c ∷ refused_forms unit (suc k) ss cs) es
      go true gs stand = (refused_form unit k ∷ gs, behind_refused k c (refused_forms unit (suc k) ss cs) gs stand)
      go false gs stand = (gs, behind_blank k c (refused_forms unit (suc k) ss cs) gs h.0 stand)
  any_refused k (s ∷ ss) (c ∷ cs) (f ∷ fs) (inr h) long =
      let rest = any_refused (suc k) ss cs fs h.2 (omega arith) in go (is_include (form_of s)) rest.0 rest.1
    where
      go : (b : Bool) (gs : List Formed) → FormsStand work unit (suc k) (refused_forms unit (suc k) ss cs) gs → (es : List Formed) × FormsStand work unit k (cond b (record c { fault = Some (refused_fault unit k) }) c ∷ refused_forms unit (suc k) ss cs) es
      go true gs stand = (refused_form unit k ∷ gs, behind_refused k c (refused_forms unit (suc k) ss cs) gs stand)
      go false gs stand = (f ∷ gs, inr (h.0, h.1, stand))

  -- ---- those that the definition has

  abbrev formed_numbers : List Formed → List ℕ
  formed_numbers fs = map (λ (f : Formed). f.form) fs

  numbers_above : (k : ℕ) (fs : List UnitForm) (n : ℕ) (ns : List ℕ) → numbers_of (form_trees unit k fs) ≡ n ∷ ns → k ≤ n
  numbers_above k [] n ns h = absurd cc
  numbers_above k (f ∷ fs) n ns h = go f.declared refl (λ e. numbers_above (suc k) fs n ns e)
    where
      go : (b : Bool) → f.declared ≡ b → (numbers_of (form_trees unit (suc k) fs) ≡ n ∷ ns → suc k ≤ n) → k ≤ n
      go true e more = let le = more (sym (trees_declared unit k f fs e) ∙ h) in omega arith
      go false e more = let both : k ∷ numbers_of (form_trees unit (suc k) fs) ≡ n ∷ ns = sym (trees_expanded unit k f fs e) ∙ h in let same : k ≡ n = cc in omega arith

  blank_here : (k : ℕ) (c : code.UnitForm) (cs : List code.UnitForm) (fs : List Formed) → FormsStand work unit k (c ∷ cs) fs → ((n : ℕ) (ns : List ℕ) → formed_numbers fs ≡ n ∷ ns → suc k ≤ n) → IsBlank c × FormsStand work unit (suc k) cs fs
  blank_here k c cs [] h later = (h.0, h.1)
  blank_here k c cs (f ∷ fs) (inl h) later = (h.0, h.2)
  blank_here k c cs (f ∷ fs) (inr h) later = let le = later f.form (formed_numbers fs) refl in let here = h.0 in absurd (omega arith)

  pub refused_stand : (k : ℕ) (ss : List source.UnitForm) (cs : List code.UnitForm) (fs : List Formed) → length ss ≡ length cs → FormsStand work unit k cs fs → formed_numbers fs ≡ numbers_of (form_trees unit k (forms_of ss)) →
      FormsStand work unit k (refused_forms unit k ss cs) (with_refused unit k (forms_of ss) fs)
  refused_stand k [] cs fs long h same = h
  refused_stand k (s ∷ ss) [] fs long h same = absurd (omega arith)
  refused_stand k (s ∷ ss) (c ∷ cs) fs long h same = go (is_include f) refl f.declared refl (λ es. refused_stand (suc k) ss cs es (omega arith))
    where
      f : UnitForm
      f = form_of s

      own : (b : Bool) → is_include f ≡ b → cond b (record c { fault = Some (refused_fault unit k) }) c ∷ refused_forms unit (suc k) ss cs ≡ refused_forms unit k (s ∷ ss) (c ∷ cs)
      own b e = ap (λ (d : Bool). cond d (record c { fault = Some (refused_fault unit k) }) c ∷ refused_forms unit (suc k) ss cs) (sym e)

      blank : f.declared ≡ true → IsBlank c × FormsStand work unit (suc k) cs fs
      blank d = blank_here k c cs fs h (λ n ns e. numbers_above (suc k) (forms_of ss) n ns (sym (same ∙ trees_declared unit k f (forms_of ss) d) ∙ e))

      go : (b : Bool) → is_include f ≡ b → (d : Bool) → f.declared ≡ d → ((es : List Formed) → FormsStand work unit (suc k) cs es → formed_numbers es ≡ numbers_of (form_trees unit (suc k) (forms_of ss)) → FormsStand work unit (suc k) (refused_forms unit (suc k) ss cs) (with_refused unit (suc k) (forms_of ss) es)) →
          FormsStand work unit k (refused_forms unit k (s ∷ ss) (c ∷ cs)) (with_refused unit k (f ∷ forms_of ss) fs)
      go true e d at more =
          let declared = declared_of f e in
          subst (λ (xs : List code.UnitForm). FormsStand work unit k xs (with_refused unit k (f ∷ forms_of ss) fs)) (own true e)
          (subst (λ (gs : List Formed). FormsStand work unit k (record c { fault = Some (refused_fault unit k) } ∷ refused_forms unit (suc k) ss cs) gs) (sym (with_include unit k f (forms_of ss) fs e))
          (behind_refused k c (refused_forms unit (suc k) ss cs) (with_refused unit (suc k) (forms_of ss) fs) (more fs (blank declared).1 (same ∙ trees_declared unit k f (forms_of ss) declared))))
      go false e true at more =
          subst (λ (xs : List code.UnitForm). FormsStand work unit k xs (with_refused unit k (f ∷ forms_of ss) fs)) (own false e)
          (subst (λ (gs : List Formed). FormsStand work unit k (c ∷ refused_forms unit (suc k) ss cs) gs) (sym (with_declared unit k f (forms_of ss) fs e at))
          (behind_blank k c (refused_forms unit (suc k) ss cs) (with_refused unit (suc k) (forms_of ss) fs) (blank at).0 (more fs (blank at).1 (same ∙ trees_declared unit k f (forms_of ss) at))))
      go false e false at more =
          subst (λ (xs : List code.UnitForm). FormsStand work unit k xs (with_refused unit k (f ∷ forms_of ss) fs)) (own false e) (expanded fs h same)
        where
          expanded : (es : List Formed) → FormsStand work unit k (c ∷ cs) es → formed_numbers es ≡ numbers_of (form_trees unit k (f ∷ forms_of ss)) → FormsStand work unit k (c ∷ refused_forms unit (suc k) ss cs) (with_refused unit k (f ∷ forms_of ss) es)
          expanded [] j is = let none : [] ≡ k ∷ numbers_of (form_trees unit (suc k) (forms_of ss)) = is ∙ trees_expanded unit k f (forms_of ss) at in absurd cc
          expanded (g ∷ gs) (inl j) is =
              let both : g.form ∷ formed_numbers gs ≡ k ∷ numbers_of (form_trees unit (suc k) (forms_of ss)) = is ∙ trees_expanded unit k f (forms_of ss) at in
              let here : g.form ≡ k = cc in
              let lt = j.1 in absurd (omega arith)
          expanded (g ∷ gs) (inr j) is =
              let both : g.form ∷ formed_numbers gs ≡ k ∷ numbers_of (form_trees unit (suc k) (forms_of ss)) = is ∙ trees_expanded unit k f (forms_of ss) at in
              let rest : formed_numbers gs ≡ numbers_of (form_trees unit (suc k) (forms_of ss)) = cc in
              subst (λ (xs : List Formed). FormsStand work unit k (c ∷ refused_forms unit (suc k) ss cs) xs) (sym (with_expanded unit k f (forms_of ss) g gs e at)) (inr (j.0, j.1, more gs j.2 rest))

pub any_formed : (work : Work) (unit : ℕ) (ss : List source.UnitForm) (cs : List code.UnitForm) → AreFormed work unit cs → length ss ≡ length cs → AreFormed work unit (refused_forms unit 0 ss cs)
any_formed work unit ss cs h long =
    let any = any_refused work unit 0 ss cs h.formed h.stand long in
    record {
      formed = any.0;
      stand = any.1;
      defined = h.defined;
      definitions = subst (λ (bs : List (ℕ × Binder)). AreDefinitions work.symbols (reverse bs) h.defined) (sym (refused_definitions unit 0 ss cs)) h.definitions;
    }
