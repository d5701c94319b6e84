-- A definition that stood as a keyword's is that of a macro, whatever stood behind it.
use Rattle.std.proofs.Common.{◌≡◌, ◌==◌, ℕ, List, [], ◌∷◌, ◌++◌, Bool, true, false, cond, Option, Some, None, refl, sym, ap, ◌∙◌, eq-eqb}
use Rattle.std.specs.Prelude.{◌&&◌, if◌then◌else◌}
use Rattle.scheme_model.specs.Ident.{Ident, same_ident}
use Rattle.scheme_model.specs.Meaning.{Global}
use Rattle.scheme_model.specs.Order.{Transformer, is_some}
use Rattle.scheme_model.specs.RulesShape.{Rules}
use Rattle.scheme_model.specs.Substitution.{Defined, Table, defined_in}
use Rattle.scheme_model.specs.ScopedExpansion.{Frames, ScopedMacro, macro_at, macro_added}
use Rattle.scheme_model.specs.Questions.{Moment, Around, Question, LooksUp, UsesRules, Compares, IsAssigned, Requires, Defines, Outcome, Stands, Redefines, StoodBefore, outcome_by}
use Rattle.scheme_model.specs.FormsAlike.{again}
use Rattle.scheme_model.proofs.IdentLaws.{ident_itself, ident_told}
use Rattle.form_laws.specs.Begins.{Each}
use Rattle.forgotten_locals.specs.Outside.{is_outside, macros_outside, outside}
use Rattle.declared_again.specs.Endings.{Ending, endings, ending_in, table_if, macros_if, table_made, macros_made, Made, MadeAtEach}
use Rattle.declared_parts.specs.Stood.{IsThere}

clash : {P : Type 0} → true ≡ false → P
clash h = absurd cc

-- ---- outcomes

was_new : (a c : Bool) → outcome_by a c ≡ Stands → c ≡ false
was_new true c h = absurd cc
was_new false true h = absurd cc
was_new false false h = refl

some_or : (b : Bool) (d : Defined) (o : Option Defined) → is_some o ≡ true → is_some (cond b (Some d) o) ≡ true
some_or true d o h = refl
some_or false d o h = h

each_on : {X : Type 0} (P Q : X → Type 0) (xs : List X) → ((x : X) → P x → Q x) → Each P xs → Each Q xs
each_on P Q [] f h = tt
each_on P Q (x ∷ xs) f h = (f x h.0, each_on P Q xs f h.1)

front_macros : (b : Bool) (k : ScopedMacro) (xs ys : List ScopedMacro) → (if b then k ∷ (xs ++ ys) else (xs ++ ys)) ≡ (if b then k ∷ xs else xs) ++ ys
front_macros true k xs ys = refl
front_macros false k xs ys = refl

macros_both : (xs ys : List ScopedMacro) → macros_outside (xs ++ ys) ≡ macros_outside xs ++ macros_outside ys
macros_both [] ys = refl
macros_both (k ∷ xs) ys =
    ap (λ (zs : List ScopedMacro). if is_outside k.meaning then k ∷ zs else zs) (macros_both xs ys) ∙ front_macros (is_outside k.meaning) k (macros_outside xs) (macros_outside ys)

module _ (w : Around) where
  abbrev u : ℕ
  u = w.state.unit

  abbrev outer : List ScopedMacro
  outer = macros_outside w.state.macros

  -- ---- at each definition

  abbrev MadeSo : List Ending → Type 0
  MadeSo [] = Unit {0}
  MadeSo (e ∷ es) = Made w e.moment es × MadeSo es

  made_so : (qs : List (Moment × Question)) → MadeAtEach w qs → MadeSo (endings qs)
  made_so [] h = tt
  made_so ((n, LooksUp i) ∷ qs) h = made_so qs h.1
  made_so ((n, UsesRules m) ∷ qs) h = made_so qs h.1
  made_so ((n, Compares l i) ∷ qs) h = made_so qs h.1
  made_so ((n, IsAssigned i) ∷ qs) h = made_so qs h.1
  made_so ((n, Requires l) ∷ qs) h = made_so qs h.1
  made_so ((n, Defines fs x r ns) ∷ qs) h = (h.0, made_so qs h.1)

  -- its identifier wasn't defined
  was_undefined : (e : Ending) (es : List Ending) → Made w e.moment es → ending_in w e ≡ Stands → is_some (defined_in (table_made w es ++ w.state.table) u e.name.name) ≡ false
  was_undefined e es made is = ap (λ (t : Table). is_some (defined_in (t ++ w.state.table) u e.name.name)) (sym made.0) ∙ was_new _ (is_some (defined_in (e.moment.table ++ w.state.table) u e.name.name)) is

  -- ---- what one makes

  abbrev definition : Ending → Defined
  definition e = record { unit = u; form = w.state.form; ident = e.name.name; keyword = is_some e.rules; occ = e.name.occ }

  -- it is defined then
  defined_now : (o : Outcome) (e : Ending) (t : Table) → o ≡ Stands → is_some (defined_in (table_if o w e t ++ w.state.table) u e.name.name) ≡ true
  defined_now Redefines e t h = absurd cc
  defined_now StoodBefore e t h = absurd cc
  defined_now Stands e t h = ap (λ (b : Bool). is_some (cond b (Some (definition e)) (defined_in (t ++ w.state.table) u e.name.name))) (λ j. eq-eqb u u refl j && ident_itself e.name.name j)

  defined_still : (o : Outcome) (f : Ending) (t : Table) (i : Ident) → is_some (defined_in (t ++ w.state.table) u i) ≡ true → is_some (defined_in (table_if o w f t ++ w.state.table) u i) ≡ true
  defined_still Redefines f t i h = h
  defined_still StoodBefore f t i h = h
  defined_still Stands f t i h = some_or (u == u && same_ident f.name.name i) (definition f) (defined_in (t ++ w.state.table) u i) h

  macro_now : (o : Outcome) (e : Ending) (rs : Option (Rules Ident)) (rules : Rules Ident) (ks : List ScopedMacro) → o ≡ Stands → e.rules ≡ Some rules → macro_at (macros_if o w e ks ++ outer) (Global u e.name.name) ≡ Some (record { env = e.frames; rules = rules })
  macro_now Redefines e rs rules ks h is = absurd cc
  macro_now StoodBefore e rs rules ks h is = absurd cc
  macro_now Stands e rs rules ks h is =
      ap (λ (r : Option (Rules Ident)). macro_at (macro_added (Global u e.name.name) e.frames r ks ++ outer) (Global u e.name.name)) is
      ∙ ap (λ (b : Bool). cond b (Some (record { env = e.frames; rules = rules })) (macro_at (ks ++ outer) (Global u e.name.name))) (λ j. eq-eqb u u refl j && ident_itself e.name.name j)

  macro_beside : (rs : Option (Rules Ident)) (f : Ending) (ks : List ScopedMacro) (i : Ident) (t : Transformer Frames Ident) → same_ident f.name.name i ≡ false → macro_at (ks ++ outer) (Global u i) ≡ Some t → macro_at (macro_added (Global u f.name.name) f.frames rs ks ++ outer) (Global u i) ≡ Some t
  macro_beside None f ks i t other h = h
  macro_beside (Some r) f ks i t other h =
      ap (λ (b : Bool). cond b (Some (record { env = f.frames; rules = r })) (macro_at (ks ++ outer) (Global u i))) ((λ j. eq-eqb u u refl j && other j)) ∙ h

  -- ---- all of them

  pub record There (es : List Ending) (e : Ending) : Type 0 where
    pub defined : ending_in w e ≡ Stands → is_some (defined_in (table_made w es ++ w.state.table) u e.name.name) ≡ true
    pub macro : (rules : Rules Ident) → ending_in w e ≡ Stands → e.rules ≡ Some rules → macro_at (macros_made w es ++ outer) (Global u e.name.name) ≡ Some (record { env = e.frames; rules = rules })

  -- another one doesn't take its place
  beside : (o : Outcome) (f : Ending) (es : List Ending) (i : Ident) (t : Transformer Frames Ident) → (o ≡ Stands → is_some (defined_in (table_made w es ++ w.state.table) u f.name.name) ≡ false) → is_some (defined_in (table_made w es ++ w.state.table) u i) ≡ true →
      macro_at (macros_made w es ++ outer) (Global u i) ≡ Some t → macro_at (macros_if o w f (macros_made w es) ++ outer) (Global u i) ≡ Some t
  beside Redefines f es i t new defined h = h
  beside StoodBefore f es i t new defined h = h
  beside Stands f es i t new defined h = macro_beside f.rules f (macros_made w es) i t (other (same_ident f.name.name i) refl) h
    where
      other : (b : Bool) → same_ident f.name.name i ≡ b → b ≡ false
      other false e = refl
      other true e = clash (sym defined ∙ (ap (λ (j : Ident). is_some (defined_in (table_made w es ++ w.state.table) u j)) (sym (ident_told f.name.name i e)) ∙ new refl))

  all_there : (es : List Ending) → MadeSo es → Each (There es) es
  all_there [] h = tt
  all_there (f ∷ es) h = (
    record {
      defined = λ is. defined_now (ending_in w f) f (table_made w es) is;
      macro = λ rules is has. macro_now (ending_in w f) f f.rules rules (macros_made w es) is has;
    },
    each_on (There es) (There (f ∷ es)) es
        (λ e p. record {
          defined = λ is. defined_still (ending_in w f) f (table_made w es) e.name.name (p.defined is);
          macro = λ rules is has. beside (ending_in w f) f es e.name.name (record { env = e.frames; rules = rules }) (was_undefined f es h.0) (p.defined is) (p.macro rules is has);
        })
        (all_there es h.1),
  )

  pub stood_there : (m : Moment) (qs : List (Moment × Question)) → MadeAtEach w qs → Made w m (endings qs) → Each (IsThere w m) (endings qs)
  stood_there m qs each made =
      let es = endings qs in
      let same : (outside (again w m)).macros ≡ macros_made w es ++ outer = macros_both m.macros w.state.macros ∙ ap (λ (ks : List ScopedMacro). ks ++ outer) made.1 in
      each_on (There es) (IsThere w m) es (λ e p rules is has. ap (λ (ks : List ScopedMacro). macro_at ks (Global u e.name.name)) same ∙ p.macro rules is has) (all_there es (made_so qs each))
