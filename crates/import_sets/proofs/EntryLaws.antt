-- What modifiers make of entries of the code stands for what they make of the entries.
use Rattle.std.proofs.Common.{◌≡◌, ℕ, Bool, true, false, cond, List, [], ◌∷◌, ◌++◌, map, Option, Some, None, Result, Ok, Err, refl, sym, ap, ◌∙◌, subst}
use Rattle.std.specs.Prelude.{◌||◌, filter}
use Rattle.std.specs.Str.{bytes_eq}
use Rattle.scheme_model.specs.declared.Occ.{Occ}
use Rattle.scheme_model.specs.ExpansionFaults.{Named}
use Rattle.scheme_model.specs.Meaning.{Meaning}
use Rattle.scheme_model.specs.Entries.{Origin, Entry, entry_at, ImportFault, NotThere, all_there, is_listed, prefixed, place_origin, renamed, under_pairs, or_itself, rename_all}
use Rattle.syntax_tree.specs.Names.{Names}
use Rattle.syntax_tree.specs.Meant.{AreOrigins, IsEntry, AreEntries}
use Rattle.syntax_tree.specs.declared.units.Origin as code_origin
use Rattle.syntax_tree.specs.declared.units.Entry as code
use Rattle.import_sets.specs.declared.set.SetName.{SetName}
use Rattle.import_sets.specs.declared.set.NamePair.{NamePair}
use Rattle.import_sets.specs.Sets.{named, paired}
use Rattle.import_sets.specs.Given as given
use Rattle.import_sets.proofs.MeaningLaws.{bool_same}
use Rattle.syntax_tree.proofs.InternLaws.{bytes_told, bytes_itself}

-- ---- names

abbrev is_there : Option Entry → Bool
is_there None = false
is_there (Some e) = true

either_there : (b : Bool) (e : Entry) (o : Option Entry) → is_there (cond b (Some e) o) ≡ (b || is_there o)
either_there true e o = refl
either_there false e o = refl

name_there : (names : Names) (es : List code.Entry) (ds : List Entry) (s : List ℕ) → AreEntries names es ds → given.has_name es s ≡ is_there (entry_at ds s)
name_there names [] [] s h = refl
name_there names [] (d ∷ ds) s h = absurd h
name_there names (e ∷ es) [] s h = absurd h
name_there names (e ∷ es) (d ∷ ds) s h =
    (λ j. bytes_eq (h.0.name j) s || name_there names es ds s h.1 j) ∙ sym (either_there (bytes_eq d.name s) d (entry_at ds s))

abbrev pub unless_some : {A : Type 0} → Option SetName → A → Result A ImportFault
unless_some None a = Ok a
unless_some (Some n) a = Err (NotThere (named n))

-- the first name that isn't there is the fault
pub all_are_there : (names : Names) (ns : List SetName) (es : List code.Entry) (ds : List Entry) → AreEntries names es ds → all_there (map named ns) ds ≡ unless_some (given.missing ns es) ds
all_are_there names [] es ds h = refl
all_are_there names (n ∷ ns) es ds h =
    go (entry_at ds n.name) refl (given.has_name es n.name) (name_there names es ds n.name h) (all_are_there names ns es ds h)
  where
    go : (o : Option Entry) → entry_at ds n.name ≡ o → (b : Bool) → b ≡ is_there (entry_at ds n.name) → all_there (map named ns) ds ≡ unless_some (given.missing ns es) ds →
        all_there (map named (n ∷ ns)) ds ≡ unless_some (cond b (given.missing ns es) (Some n)) ds
    go None p true q rest = let e : true ≡ false = q ∙ ap is_there p in absurd cc
    go None p false q rest = rw p refl
    go (Some x) p true q rest = rw p rest
    go (Some x) p false q rest = let e : false ≡ true = q ∙ ap is_there p in absurd cc

pub listed_same : (ns : List SetName) (s : List ℕ) → given.is_listed ns s ≡ is_listed (map named ns) s
listed_same [] s = refl
listed_same (n ∷ ns) s = ap (λ b. bytes_eq n.name s || b) (listed_same ns s)

-- ---- some of the entries

keeps : (names : Names) (e : code.Entry) (d : Entry) (es : List code.Entry) (ds : List Entry) (b c : Bool) → b ≡ c → IsEntry names e d → AreEntries names es ds → AreEntries names (cond b (e ∷ es) es) (cond c (d ∷ ds) ds)
keeps names e d es ds true true p h k = (h, k)
keeps names e d es ds true false p h k = absurd cc
keeps names e d es ds false true p h k = absurd cc
keeps names e d es ds false false p h k = k

pub filter_stands : (names : Names) (p q : List ℕ → Bool) → ((s : List ℕ) → p s ≡ q s) → (es : List code.Entry) (ds : List Entry) → AreEntries names es ds →
    AreEntries names (filter (λ e. p e.name) es) (filter (λ d. q d.name) ds)
filter_stands names p q same [] [] h = tt
filter_stands names p q same [] (d ∷ ds) h = absurd h
filter_stands names p q same (e ∷ es) [] h = absurd h
filter_stands names p q same (e ∷ es) (d ∷ ds) h =
    keeps names e d (filter (λ e. p e.name) es) (filter (λ d. q d.name) ds) (p e.name) (q d.name) (same e.name ∙ ap q h.0.name) h.0 (filter_stands names p q same es ds h.1)

-- ---- prefixes

prefixed_origins : (m : Meaning) (t : List ℕ) (os : List code_origin.Origin) (xs : List Origin) → AreOrigins m os xs →
    AreOrigins m (map (given.prefixed_origin t) os) (map (λ o. record { source = o.source; prefix = t ++ o.prefix }) xs)
prefixed_origins m t [] [] h = tt
prefixed_origins m t [] (x ∷ xs) h = absurd h
prefixed_origins m t (o ∷ os) [] h = absurd h
prefixed_origins m t (o ∷ os) (x ∷ xs) h = ((h.0.0, ap (λ (s : List ℕ). t ++ s) h.0.1), prefixed_origins m t os xs h.1)

pub prefixed_stands : (names : Names) (t : List ℕ) (es : List code.Entry) (ds : List Entry) → AreEntries names es ds → AreEntries names (map (given.prefixed t) es) (map (prefixed t) ds)
prefixed_stands names t [] [] h = tt
prefixed_stands names t [] (d ∷ ds) h = absurd h
prefixed_stands names t (e ∷ es) [] h = absurd h
prefixed_stands names t (e ∷ es) (d ∷ ds) h = (
  record {
    name = ap (λ (s : List ℕ). t ++ s) h.0.name;
    meaning = h.0.meaning;
    origins = prefixed_origins d.meaning t e.origins d.origins h.0.origins;
  },
  prefixed_stands names t es ds h.1,
)

-- ---- other names

pub entries-append : (names : Names) (es fs : List code.Entry) (ds cs : List Entry) → AreEntries names es ds → AreEntries names fs cs → AreEntries names (es ++ fs) (ds ++ cs)
entries-append names [] fs [] cs h k = k
entries-append names [] fs (d ∷ ds) cs h k = absurd h
entries-append names (e ∷ es) fs [] cs h k = absurd h
entries-append names (e ∷ es) fs (d ∷ ds) cs h k = (h.0, entries-append names es fs ds cs h.1 k)

place_stands : (m : Meaning) (o : Option Occ) → AreOrigins m (given.place_origin o) (place_origin o)
place_stands m None = tt
place_stands m (Some o) = ((refl, refl), tt)

renamed_stands : (names : Names) (e : code.Entry) (d : Entry) (n : SetName) → IsEntry names e d → IsEntry names (given.renamed e n) (renamed d (named n))
renamed_stands names e d n h = record { name = refl; meaning = h.meaning; origins = place_stands d.meaning n.occ }

renamed_all : (names : Names) (e : code.Entry) (d : Entry) (ns : List SetName) → IsEntry names e d → AreEntries names (map (given.renamed e) ns) (map (λ (n : SetName). renamed d (named n)) ns)
renamed_all names e d [] h = tt
renamed_all names e d (n ∷ ns) h = (renamed_stands names e d n h, renamed_all names e d ns h)

bytes_eq-swap : (s t : List ℕ) → bytes_eq s t ≡ bytes_eq t s
bytes_eq-swap s t =
    bool_same (bytes_eq s t) (bytes_eq t s) (λ h. ap (bytes_eq t) (bytes_told s t h) ∙ bytes_itself t) (λ h. ap (bytes_eq s) (bytes_told t s h) ∙ bytes_itself s)

under_names : (names : Names) (ps : List NamePair) (e : code.Entry) (d : Entry) → IsEntry names e d →
    under_pairs (map paired ps) d ≡ map (λ (n : SetName). renamed d (named n)) (given.given_under ps e.name)
under_names names [] e d h = refl
under_names names (p ∷ ps) e d h =
    go (bytes_eq p.from.name d.name) refl (bytes_eq-swap e.name p.from.name ∙ ap (bytes_eq p.from.name) h.name) (under_names names ps e d h)
  where
    go : (b : Bool) → bytes_eq p.from.name d.name ≡ b → bytes_eq e.name p.from.name ≡ bytes_eq p.from.name d.name →
        under_pairs (map paired ps) d ≡ map (λ (n : SetName). renamed d (named n)) (given.given_under ps e.name) →
        under_pairs (map paired (p ∷ ps)) d ≡ map (λ (n : SetName). renamed d (named n)) (given.given_under (p ∷ ps) e.name)
    go true q r rest = rw (r ∙ q, q) (ap (λ (l : List Entry). renamed d (named p.to) ∷ l) rest)
    go false q r rest = rw (r ∙ q, q) rest

under_stands : (names : Names) (e : code.Entry) (d : Entry) (ns : List SetName) → IsEntry names e d → AreEntries names (given.under e ns) (or_itself d (map (λ (n : SetName). renamed d (named n)) ns))
under_stands names e d [] h = (h, tt)
under_stands names e d (n ∷ ns) h = renamed_all names e d (n ∷ ns) h

pub rename_stands : (names : Names) (ps : List NamePair) (es : List code.Entry) (ds : List Entry) → AreEntries names es ds → AreEntries names (given.rename_all ps es) (rename_all (map paired ps) ds)
rename_stands names ps [] [] h = tt
rename_stands names ps [] (d ∷ ds) h = absurd h
rename_stands names ps (e ∷ es) [] h = absurd h
rename_stands names ps (e ∷ es) (d ∷ ds) h =
    entries-append names (given.under e (given.given_under ps e.name)) (given.rename_all ps es) (or_itself d (under_pairs (map paired ps) d)) (rename_all (map paired ps) ds)
    (subst (λ (l : List Entry). AreEntries names (given.under e (given.given_under ps e.name)) (or_itself d l)) (sym (under_names names ps e d h.0)) (under_stands names e d (given.given_under ps e.name) h.0))
    (rename_stands names ps es ds h.1)

pub froms_named : (ps : List NamePair) → map (λ (p : Named (List ℕ) × Named (List ℕ)). p.0) (map paired ps) ≡ map named (map (λ (p : NamePair). p.from) ps)
froms_named [] = refl
froms_named (p ∷ ps) = ap (λ (l : List (Named (List ℕ))). named p.from ∷ l) (froms_named ps)
