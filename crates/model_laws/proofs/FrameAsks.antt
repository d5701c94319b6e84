-- A name asks x exactly where, once x is replaced, it means x's number; and nothing means the next local's number before.
use Rattle.std.proofs.Common.{◌≡◌, ℕ, List, [], ◌∷◌, Bool, true, false, cond, Option, Some, None, refl, ap, ◌∙◌}
use Rattle.std.specs.Prelude.{◌&&◌, ◌||◌}
use Rattle.std.proofs.lemmas.Bool.{or_parts}
use Rattle.scheme_model.specs.Identifiers.{Number, same_number, Name, Written as WrittenName, Inserted as InsertedName, Inner, Var, same_name}
use Rattle.scheme_model.specs.Ident.{Ident, Written, Inserted, same_ident, erase}
use Rattle.scheme_model.specs.Meaning.{Meaning, Local, Global, Standard, Free, same_meaning}
use Rattle.scheme_model.specs.Order.{is_some}
use Rattle.scheme_model.specs.Substitution.{Table, Entries, Defined, Clock, defined_in, is_plain, global_or, meaning, deep, asks}
use Rattle.scheme_model.specs.Scopes.{own_of, imported_as, defined_or, given_or}
use Rattle.scheme_model.specs.ScopedExpansion.{Bind, Enter, Frames, BodyDefinition, BodyDefinitions, UsePlace, around, find, defined_as, means_inside, means_outside}
use Rattle.scheme_model.proofs.OpenBodies.{NotYet}
use Rattle.scheme_model.proofs.Clocks.{apart}
use Rattle.model_laws.proofs.FrameEras.{Era, Before}

cond_or : (t u : Bool) (m n : Meaning) → cond t m (cond u m n) ≡ cond (t || u) m n
cond_or true u m n = refl
cond_or false u m n = refl

-- ---- by names

pub deep_unasked : (x : Name) (v : Number) (j : Name) → asks x j ≡ false → deep x v j ≡ j
deep_unasked x v (WrittenName w s) e = ap (λ t. cond t (Var v x) (WrittenName w s)) e
deep_unasked x v (InsertedName j k) e =
    let p = or_parts (same_name (InsertedName j k) x) (asks x j) e in
    ap (λ t. cond t (Var v x) (InsertedName (deep x v j) k)) p.0 ∙ ap (λ (y : Name). InsertedName y k) (deep_unasked x v j p.1)
deep_unasked x v (Var w j) e = ap (λ t. cond t (Var v x) (Var w j)) e
deep_unasked x v (Inner a j) e =
    let p = or_parts (same_name (Inner a j) x) (asks x j) e in
    ap (λ t. cond t (Var v x) (Inner a (deep x v j))) p.0 ∙ ap (Inner a) (deep_unasked x v j p.1)

-- what asks x isn't plain once x is replaced
not_plain : (x : Name) (v : Number) (j : Name) → asks x j ≡ true → is_plain (deep x v j) ≡ false
not_plain x v (WrittenName w s) e = ap (λ t. is_plain (cond t (Var v x) (WrittenName w s))) e
not_plain x v (InsertedName j k) e = go (same_name (InsertedName j k) x) e (not_plain x v j)
  where
    go : (t : Bool) → (t || asks x j) ≡ true → (asks x j ≡ true → is_plain (deep x v j) ≡ false) → is_plain (cond t (Var v x) (InsertedName (deep x v j) k)) ≡ false
    go true e ih = refl
    go false e ih = ih e
not_plain x v (Var w j) e = ap (λ t. is_plain (cond t (Var v x) (Var w j))) e
not_plain x v (Inner a j) e = go (same_name (Inner a j) x)
  where
    go : (t : Bool) → is_plain (cond t (Var v x) (Inner a (deep x v j))) ≡ false
    go true = refl
    go false = refl

module _ (table : Table) (entry : Entries) where
  meaning_cond : (t : Bool) (x : Name) (v : Number) (j : Name) → meaning table entry (cond t (Var v x) j) ≡ cond t (Local v) (meaning table entry j)
  meaning_cond true x v j = refl
  meaning_cond false x v j = refl

  inserted_deep : (x : Name) (v : Number) (j : Name) (k : Number) (t : Bool) → asks x j ≡ t → meaning table entry (deep x v j) ≡ cond t (Local v) (meaning table entry j)
      → meaning table entry (InsertedName (deep x v j) k) ≡ cond t (Local v) (meaning table entry (InsertedName j k))
  inserted_deep x v j k true e h =
      ap (λ t. global_or (t && is_some (defined_in table k.unit (erase (InsertedName (deep x v j) k)))) k.unit (InsertedName (deep x v j) k) (meaning table entry (deep x v j))) (not_plain x v j e) ∙ h
  inserted_deep x v j k false e h = ap (λ (y : Name). meaning table entry (InsertedName y k)) (deep_unasked x v j e)

  pub meaning_deep : (x : Name) (v : Number) (j : Name) → meaning table entry (deep x v j) ≡ cond (asks x j) (Local v) (meaning table entry j)
  meaning_deep x v (WrittenName w s) = meaning_cond (same_name (WrittenName w s) x) x v (WrittenName w s)
  meaning_deep x v (InsertedName j k) =
      meaning_cond (same_name (InsertedName j k) x) x v (InsertedName (deep x v j) k)
      ∙ ap (cond (same_name (InsertedName j k) x) (Local v)) (inserted_deep x v j k (asks x j) refl (meaning_deep x v j))
      ∙ cond_or (same_name (InsertedName j k) x) (asks x j) (Local v) (meaning table entry (InsertedName j k))
  meaning_deep x v (Var w j) = meaning_cond (same_name (Var w j) x) x v (Var w j)
  meaning_deep x v (Inner a j) =
      meaning_cond (same_name (Inner a j) x) x v (Inner a (deep x v j))
      ∙ ap (cond (same_name (Inner a j) x) (Local v)) (meaning_deep x v j)
      ∙ cond_or (same_name (Inner a j) x) (asks x j) (Local v) (meaning table entry (Inner a j))

-- ---- what anything means has been counted

abbrev pub AllOf : {X : Type 0} → (X → Type 0) → List X → Type 0
AllOf P [] = Unit {0}
AllOf P (x ∷ xs) = P x × AllOf P xs

pub all_of_more : {X : Type 0} (P Q : X → Type 0) → ((x : X) → P x → Q x) → (xs : List X) → AllOf P xs → AllOf Q xs
all_of_more P Q h [] e = tt
all_of_more P Q h (x ∷ xs) e = (h x e.0, all_of_more P Q h xs e.1)

module _ (unit : Era) (n : Clock) where
  -- a local that the clock has counted, or none
  abbrev pub MeansCounted : Meaning → Type 0
  MeansCounted (Local v) = Before unit n v
  MeansCounted (Global u i) = Unit {0}
  MeansCounted (Standard s) = Unit {0}
  MeansCounted (Free s) = Unit {0}

  abbrev pub GivenCounted : Option Meaning → Type 0
  GivenCounted None = Unit {0}
  GivenCounted (Some m) = MeansCounted m

  pub not_next : (v : Number) → NotYet unit.unit n v → (m : Meaning) → MeansCounted m → same_meaning m (Local v) ≡ false
  not_next v e (Local w) h = apart unit.unit n w v h.0 e
  not_next v e (Global u i) h = refl
  not_next v e (Standard s) h = refl
  not_next v e (Free s) h = refl

  abbrev pub BindersCounted : Frames → Type 0
  BindersCounted [] = Unit {0}
  BindersCounted (Bind x v ∷ fs) = Before unit n v × BindersCounted fs
  BindersCounted (Enter b u ∷ fs) = BindersCounted fs

  abbrev pub DefinitionsCounted : BodyDefinitions → Type 0
  DefinitionsCounted ds = AllOf (λ (d : BodyDefinition). Before unit n d.binder) ds

  found_counted : (ds : BodyDefinitions) → DefinitionsCounted ds → (b : Number) (i : Ident) (m : Meaning) → MeansCounted m → MeansCounted (defined_as (find ds b i) m)
  found_counted [] h b i m k = k
  found_counted (d ∷ ds) h b i m k = go (same_number d.body b && same_ident d.ident i) (found_counted ds h.1 b i m k)
    where
      go : (t : Bool) → MeansCounted (defined_as (find ds b i) m) → MeansCounted (defined_as (cond t (Some (d.binder, ds)) (find ds b i)) m)
      go true q = h.0
      go false q = q

  pub inside_counted : (ds : BodyDefinitions) → DefinitionsCounted ds → (fs : Frames) → BindersCounted fs → (i : Ident) (m : Meaning) → MeansCounted m → MeansCounted (means_inside ds fs i m)
  inside_counted ds defs [] h i m k = k
  inside_counted ds defs (Bind x v ∷ fs) h i m k = go (same_ident x i) (inside_counted ds defs fs h.1 i m k)
    where
      go : (t : Bool) → MeansCounted (means_inside ds fs i m) → MeansCounted (cond t (Local v) (means_inside ds fs i m))
      go true q = h.0
      go false q = q
  inside_counted ds defs (Enter b u ∷ fs) h i m k = found_counted ds defs b i (means_inside ds fs i m) (inside_counted ds defs fs h i m k)

  given_counted : (o : Option Meaning) (m : Meaning) → GivenCounted o → MeansCounted m → MeansCounted (given_or o m)
  given_counted None m h k = k
  given_counted (Some x) m h k = h

  module _ (table : Table) (entry : Entries) (entries : (u : ℕ) (s : List ℕ) → GivenCounted (entry u s)) where
    imported_counted : (u : ℕ) (i : Ident) → GivenCounted (imported_as entry u i)
    imported_counted u (Written w s) = entries u s
    imported_counted u (Inserted i k) = tt

    own_counted : (u : ℕ) (i : Ident) → GivenCounted (own_of table entry u i)
    own_counted u i = go (defined_in table u i)
      where
        go : (d : Option Defined) → GivenCounted (defined_or d u i (imported_as entry u i))
        go None = imported_counted u i
        go (Some d) = tt

    pub outside_counted : (ps : List UsePlace) → ((k : Number) → BindersCounted (around ps k)) → (ds : BodyDefinitions) → DefinitionsCounted ds → (i : Ident) → MeansCounted (means_outside table entry ps ds i)
    outside_counted ps places ds defs (Written u s) = given_counted (own_of table entry u (Written u s)) (Free s) (own_counted u (Written u s)) tt
    outside_counted ps places ds defs (Inserted i k) =
        given_counted (own_of table entry k.unit (Inserted i k)) (means_inside ds (around ps k) i (means_outside table entry ps ds i)) (own_counted k.unit (Inserted i k))
        (inside_counted ds defs (around ps k) (places k) i (means_outside table entry ps ds i) (outside_counted ps places ds defs i))
