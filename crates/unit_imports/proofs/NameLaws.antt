-- What can be exported of a unit is what the definition finds by name: a definition that is written in it, the latest first, or an
-- import.
use Rattle.std.proofs.Common.{◌≡◌, ℕ, Bool, true, false, cond, List, [], ◌∷◌, ◌++◌, length, append-nil, append_assoc, slice_get, Option, Some, None, refl, sym, ap, ◌∙◌, subst}
use Rattle.std.specs.Prelude.{◌==◌, ◌&&◌}
use Rattle.std.specs.Str.{bytes_eq}
use Rattle.std.proofs.lemmas.List.Concat.{flat_map-append}
use Rattle.scheme_model.specs.declared.Occ.{Occ}
use Rattle.scheme_model.specs.Ident.{Ident as Identifier, Written, Inserted, same_ident}
use Rattle.scheme_model.specs.Meaning.{Global}
use Rattle.scheme_model.specs.Entries.{Entry, entry_at, place_origin}
use Rattle.scheme_model.specs.Substitution.{Defined, Table, defined_in}
use Rattle.scheme_model.specs.Program.{own_entry, names_of_unit}
use Rattle.syntax_tree.specs.Names.{Names}
use Rattle.syntax_tree.specs.Meant.{AreEntries}
use Rattle.syntax_tree.specs.declared.meaning.Meaning.TheVariants as code
use Rattle.syntax_tree.specs.declared.units.Entry as code_entry
use Rattle.syntax_tree.specs.declared.units.Origin.{Origin}
use Rattle.syntax_tree.proofs.InternLaws.{bytes_told}
use Rattle.core_tree.specs.Units.{AreDefinitions, IsDefinition, defined_by}
use Rattle.core_tree.specs.declared.cores.Binder.{Binder}
use Rattle.import_sets.specs.Given as given
use Rattle.import_sets.proofs.EntryLaws.{entries-append}
use Rattle.unit_imports.specs.Defined.{FindsNames, named_as, named_all, symbol_in, symbol_at}
use Rattle.unit_imports.proofs.MeaningLaws.{defined_stands}

-- ---- one definition of the code

pub named_is : (names : Names) (unit : ℕ) (b : Binder) (i : Identifier) (s t : List ℕ) (os : List Origin) → slice_get names.idents b.ident ≡ Some i → Some s ≡ symbol_in unit i → t ≡ s → os ≡ given.place_origin b.occ →
    record { name = t; meaning = code.Global unit b.ident; origins = os } ∷ [] ≡ named_as unit b (symbol_at unit (slice_get names.idents b.ident))
named_is names unit b i s t os at is same e =
    (λ j. record { name = same j; meaning = code.Global unit b.ident; origins = e j } ∷ []) ∙ ap (named_as unit b) (is ∙ ap (symbol_at unit) (sym at))

pub named_not : (names : Names) (unit : ℕ) (b : Binder) (i : Identifier) (old : List code_entry.Entry) → slice_get names.idents b.ident ≡ Some i → None ≡ symbol_in unit i →
    old ≡ old ++ named_as unit b (symbol_at unit (slice_get names.idents b.ident))
named_not names unit b i old at is = sym (append-nil old) ∙ ap (λ (o : Option (List ℕ)). old ++ named_as unit b o) (is ∙ ap (symbol_at unit) (sym at))

pub named_more : (names : Names) (unit : ℕ) (bs : List (ℕ × Binder)) (b : ℕ × Binder) (old new : List code_entry.Entry) → old ≡ named_all names unit bs → new ≡ old ++ named_as unit b.1 (symbol_at unit (slice_get names.idents b.1.ident)) →
    new ≡ named_all names unit (bs ++ b ∷ [])
named_more names unit bs b old new e n =
    n ∙ ap (λ (l : List code_entry.Entry). l ++ named_as unit b.1 (symbol_at unit (slice_get names.idents b.1.ident))) e
    ∙ ap (λ (l : List code_entry.Entry). named_all names unit bs ++ l) (sym (append-nil (named_as unit b.1 (symbol_at unit (slice_get names.idents b.1.ident)))))
    ∙ sym (flat_map-append (λ (b : ℕ × Binder). named_as unit b.1 (symbol_at unit (slice_get names.idents b.1.ident))) bs (b ∷ []))

-- what a definition can be exported as
abbrev own_if : ℕ → Defined → Option (List ℕ) → List Entry
own_if u d None = []
own_if u d (Some s) = record { name = s; meaning = Global u d.ident; origins = place_origin d.occ } ∷ []

abbrev own_all : ℕ → List Defined → List Entry
own_all u [] = []
own_all u (d ∷ ds) = own_if u d (symbol_in u d.ident) ++ own_all u ds

-- ---- they stand for those of the code

one_stands : (names : Names) (u k : ℕ) (b : ℕ × Binder) (d : Defined) → IsDefinition names k b d →
    AreEntries names (named_as u b.1 (symbol_at u (slice_get names.idents b.1.ident))) (own_if u d (symbol_in u d.ident))
one_stands names u k b d h =
    subst (λ (o : Option Identifier). AreEntries names (named_as u b.1 (symbol_at u o)) (own_if u d (symbol_in u d.ident))) (sym h.ident) (go (symbol_in u d.ident))
  where
    go : (o : Option (List ℕ)) → AreEntries names (named_as u b.1 o) (own_if u d o)
    go None = tt
    go (Some s) =
        subst (λ (p : Option Occ). AreEntries names (named_as u b.1 (Some s)) (record { name = s; meaning = Global u d.ident; origins = place_origin p } ∷ [])) h.place
        (defined_stands names u b.1.ident d.ident s b.1.occ h.ident, tt)

all_stand : (names : Names) (u : ℕ) (bs : List (ℕ × Binder)) (ds : List Defined) → AreDefinitions names bs ds → AreEntries names (named_all names u bs) (own_all u ds)
all_stand names u [] [] h = tt
all_stand names u [] (d ∷ ds) h = absurd h
all_stand names u (b ∷ bs) [] h = absurd h
all_stand names u (b ∷ bs) (d ∷ ds) h =
    entries-append names (named_as u b.1 (symbol_at u (slice_get names.idents b.1.ident))) (named_all names u bs) (own_if u d (symbol_in u d.ident)) (own_all u ds)
    (one_stands names u (length ds) b d h.0) (all_stand names u bs ds h.1)

-- ---- and are found so

found_own : (u : ℕ) (d : Defined) (s : List ℕ) (rest : List Entry) (i : Identifier) → d.ident ≡ i →
    entry_at (own_if u d (symbol_in u i) ++ rest) s ≡ cond (same_ident i (Written u s)) (Some (record { name = s; meaning = Global u d.ident; origins = place_origin d.occ })) (entry_at rest s)
found_own u d s rest (Inserted i k) e = refl
found_own u d s rest (Written v t) e = here (v == u) (bytes_eq t s) refl
  where
    here : (a b : Bool) → bytes_eq t s ≡ b →
        entry_at (own_if u d (cond a (Some t) None) ++ rest) s ≡ cond (a && b) (Some (record { name = s; meaning = Global u d.ident; origins = place_origin d.occ })) (entry_at rest s)
    here false b q = refl
    here true false q = rw q refl
    here true true q = rw q (ap (λ (n : List ℕ). Some (record { name = n; meaning = Global u d.ident; origins = place_origin d.occ })) (bytes_told t s q))

found_all : (table : Table) (u : ℕ) (es : List Entry) (s : List ℕ) → entry_at (own_all u (defined_by u table) ++ es) s ≡ own_entry u s (defined_in table u (Written u s)) (entry_at es s)
found_all [] u es s = refl
found_all (d ∷ ds) u es s = go (d.unit == u) refl (same_ident d.ident (Written u s)) refl (found_all ds u es s)
  where
    go : (a : Bool) → (d.unit == u) ≡ a → (b : Bool) → same_ident d.ident (Written u s) ≡ b → entry_at (own_all u (defined_by u ds) ++ es) s ≡ own_entry u s (defined_in ds u (Written u s)) (entry_at es s) →
        entry_at (own_all u (defined_by u (d ∷ ds)) ++ es) s ≡ own_entry u s (defined_in (d ∷ ds) u (Written u s)) (entry_at es s)
    go false p b q rest = rw p rest
    go true p b q rest =
        rw p
        (ap (λ (l : List Entry). entry_at l s) (append_assoc (own_if u d (symbol_in u d.ident)) (own_all u (defined_by u ds)) es) ∙ found_own u d s (own_all u (defined_by u ds) ++ es) d.ident refl
        ∙ turn (same_ident d.ident (Written u s)))
      where
        turn : (b : Bool) → cond b (Some (record { name = s; meaning = Global u d.ident; origins = place_origin d.occ })) (entry_at (own_all u (defined_by u ds) ++ es) s)
            ≡ own_entry u s (cond b (Some d) (defined_in ds u (Written u s))) (entry_at es s)
        turn true = refl
        turn false = rest

pub names_found : (names : Names) (u : ℕ) (bs : List (ℕ × Binder)) (table : Table) → AreDefinitions names bs (defined_by u table) → (js all : List code_entry.Entry) (es : List Entry) → AreEntries names js es →
    all ≡ named_all names u bs ++ js → FindsNames names all (names_of_unit table u es)
names_found names u bs table h js all es k is = record {
  stand = own_all u (defined_by u table) ++ es;
  are =
      subst (λ (xs : List code_entry.Entry). AreEntries names xs (own_all u (defined_by u table) ++ es)) (sym is)
      (entries-append names (named_all names u bs) js (own_all u (defined_by u table)) es (all_stand names u bs (defined_by u table) h) k);
  finds = λ s. sym (found_all table u es s);
}
