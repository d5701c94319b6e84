-- What an environment stands for where the tables of symbols and identifiers have grown; and locals of one form.
use Rattle.std.proofs.Common.{◌≡◌, ℕ, Bool, true, false, cond, [], ◌∷◌, slice_get, Option, Some, None, refl, sym, ap, ◌∙◌, subst}
use Rattle.std.specs.FinMap.{get}
use Rattle.std.specs.Option.{option_map, option_and_then}
use Rattle.std.proofs.lemmas.Option.{slice_get_within}
use Rattle.scheme_model.specs.Identifiers.{Number}
use Rattle.scheme_model.specs.Ident.{Ident as Identifier, Written, Inserted, same_ident}
use Rattle.scheme_model.specs.Meaning as model
use Rattle.scheme_model.specs.Meaning.{of_form}
use Rattle.scheme_model.specs.Scopes.{Chain, Uses, Own, found, given_or, local_or, beyond, means}
use Rattle.scheme_model.proofs.IdentLaws.{ident_told}
use Rattle.syntax_tree.specs.Names.{Names, AreToldApart, KeepsNames}
use Rattle.syntax_tree.specs.Meant.{IsMeaning}
use Rattle.syntax_tree.specs.declared.meaning.Meaning.{Meaning}
use Rattle.syntax_tree.specs.declared.meaning.Meaning.TheVariants as code
use Rattle.syntax_tree.proofs.Places.{none_some}
use Rattle.scope_env.specs.Environment.{Environment}
use Rattle.scope_env.specs.Resolved.{own}
use Rattle.scope_env.specs.Standing.{StandsFor, Gives, EnvFor, IsGiven, IsOfForm, AreLocalsOf, AreOf, AreUsesOf}
use Rattle.scope_env.specs.Moved.{IsNamed, AreNamed, AreGivenNamed}

-- ---- tables that grow

-- an identifier that a chain binds is one of those in it
found_named : (names : Names) (c : Chain) (i : Identifier) (v : Number) → AreNamed names c → found c i ≡ Some v → IsNamed names i
found_named names [] i v named is = none_some v is
found_named names (b ∷ bs) i v named is = by (same_ident b.ident i) refl is (found_named names bs i v named.1)
  where
    by : (t : Bool) → same_ident b.ident i ≡ t → cond t (Some b.binder) (found bs i) ≡ Some v → (found bs i ≡ Some v → IsNamed names i) → IsNamed names i
    by true same at rest = subst (λ (x : Identifier). IsNamed names x) (ident_told b.ident i same) named.0
    by false same at rest = rest at

module _ (old new : Names) (keeps : KeepsNames old new) (apart : AreToldApart new.idents) where
  -- what is said of the identifiers of the old table alone is the same of the new one
  grown : {X : Type 0} (f : Identifier → Option X) → ((i : Identifier) (x : X) → f i ≡ Some x → IsNamed old i) → (n : ℕ) (o p : Option Identifier) → slice_get old.idents n ≡ o → slice_get new.idents n ≡ p → option_and_then f o ≡ option_and_then f p
  grown f named n (Some i) p at_o at_p = ap (option_and_then f) (sym (keeps.idents n i at_o) ∙ at_p)
  grown f named n None None at_o at_p = refl
  grown {X} f named n None (Some j) at_o at_p = by (f j) refl
    where
      by : (x : Option X) → f j ≡ x → None ≡ x
      by None is = refl
      by (Some x) is =
          let m = named j x is in
          let same : n ≡ m.0 = apart n m.0 (slice_get_within new.idents n j at_p) (at_p ∙ sym (keeps.idents m.0 j m.1)) in
          none_some j (sym at_o ∙ ap (λ (k : ℕ). slice_get old.idents k) same ∙ m.1)

  pub chain_grows : (env : Environment) (scope : Option ℕ) (c : Chain) → AreNamed old c → StandsFor old env scope c → StandsFor new env scope c
  chain_grows env scope c named stands = λ n.
      stands n
      ∙ ap (option_map (λ (v : Number). code.Local v.count)) (grown (found c) (λ i v. found_named old c i v named) n (slice_get old.idents n) (slice_get new.idents n) refl refl)

  pub meaning_grows : (unit form : ℕ) (m : Meaning) (d : model.Meaning) → IsMeaning old unit form m d → IsMeaning new unit form m d
  meaning_grows unit form (code.Local n) d h = h
  meaning_grows unit form (code.Global u n) (model.Local v) h = h
  meaning_grows unit form (code.Global u n) (model.Global w i) h = (h.0, keeps.idents n i h.1)
  meaning_grows unit form (code.Global u n) (model.Standard s) h = h
  meaning_grows unit form (code.Global u n) (model.Free s) h = h
  meaning_grows unit form (code.Standard n) (model.Local v) h = h
  meaning_grows unit form (code.Standard n) (model.Global w i) h = h
  meaning_grows unit form (code.Standard n) (model.Standard s) h = keeps.symbols n s h
  meaning_grows unit form (code.Standard n) (model.Free s) h = h
  meaning_grows unit form (code.Free n) (model.Local v) h = h
  meaning_grows unit form (code.Free n) (model.Global w i) h = h
  meaning_grows unit form (code.Free n) (model.Standard s) h = h
  meaning_grows unit form (code.Free n) (model.Free s) h = keeps.symbols n s h

  gives_grows : (o : Option Meaning) (g : Option model.Meaning) → Gives old o g → Gives new o g
  gives_grows None None h = h
  gives_grows None (Some d) h = h
  gives_grows (Some m) None h = h
  gives_grows (Some m) (Some d) h = λ unit form. meaning_grows unit form m d (h unit form)

  pub env_grows : (env : Environment) (given : Own) (uses : Uses) → AreGivenNamed old given → ((k : Number) → AreNamed old (uses k)) → EnvFor old env given uses → EnvFor new env given uses
  env_grows env given uses named used is = record {
    own = λ u n. gives_grows (own env u n) (option_and_then (given u) (slice_get new.idents n))
        (subst (λ (g : Option model.Meaning). Gives old (own env u n) g) (grown (given u) (named u) n (slice_get old.idents n) (slice_get new.idents n) refl refl) (is.own u n));
    uses = λ k. chain_grows env (get env.uses k) (uses k) (used k) (is.uses k);
  }

-- ---- locals of one form

found_of : (unit form : ℕ) (c : Chain) (i : Identifier) → AreOf unit form c → IsOfForm unit form (found c i)
found_of unit form [] i h = tt
found_of unit form (b ∷ bs) i h = by (same_ident b.ident i) (found_of unit form bs i h.1)
  where
    by : (t : Bool) → IsOfForm unit form (found bs i) → IsOfForm unit form (cond t (Some b.binder) (found bs i))
    by true rest = h.0
    by false rest = rest

pub locals_of : (unit form : ℕ) (uses : Uses) (c : Chain) (i : Identifier) → AreOf unit form c → AreUsesOf unit form uses i → AreLocalsOf unit form uses c i
locals_of unit form uses c (Written u s) h used = found_of unit form c (Written u s) h
locals_of unit form uses c (Inserted i k) h used = (found_of unit form c (Inserted i k) h, locals_of unit form uses (uses k) i used.0 used.1)

-- ---- a local told by its count

first_local : (unit form : ℕ) (uses : Uses) (c : Chain) (i : Identifier) → AreLocalsOf unit form uses c i → IsOfForm unit form (found c i)
first_local unit form uses c (Written u s) h = h
first_local unit form uses c (Inserted i k) h = h.0

given_same : (unit form : ℕ) (o : Option model.Meaning) (other : model.Meaning) → IsGiven o → of_form unit form other ≡ other → of_form unit form (given_or o other) ≡ given_or o other
given_same unit form None other h e = e
given_same unit form (Some (model.Local v)) other h e = absurd h
given_same unit form (Some (model.Global u i)) other h e = refl
given_same unit form (Some (model.Standard s)) other h e = refl
given_same unit form (Some (model.Free s)) other h e = refl

local_same : (unit form : ℕ) (o : Option Number) (other : model.Meaning) → IsOfForm unit form o → of_form unit form other ≡ other → of_form unit form (local_or o other) ≡ local_or o other
local_same unit form None other h e = e
local_same unit form (Some v) other h e = λ j. model.Local (record { unit = sym h.0 j; form = sym h.1 j; count = v.count })

module _ (unit form : ℕ) (given : Own) (uses : Uses) (none : (u : ℕ) (j : Identifier) → IsGiven (given u j)) where
  beyond_same : (c : Chain) (i : Identifier) → AreLocalsOf unit form uses c i → of_form unit form (beyond given uses i) ≡ beyond given uses i
  beyond_same c (Written u s) h = given_same unit form (given u (Written u s)) (model.Free s) (none u (Written u s)) refl
  beyond_same c (Inserted i k) h =
      given_same unit form (given k.unit (Inserted i k)) (local_or (found (uses k) i) (beyond given uses i)) (none k.unit (Inserted i k))
      (local_same unit form (found (uses k) i) (beyond given uses i) (first_local unit form uses (uses k) i h.1) (beyond_same (uses k) i h.1))

  pub means_same : (c : Chain) (i : Identifier) → AreLocalsOf unit form uses c i → of_form unit form (means given uses c i) ≡ means given uses c i
  means_same c i h = local_same unit form (found c i) (beyond given uses i) (first_local unit form uses c i h) (beyond_same c i h)
