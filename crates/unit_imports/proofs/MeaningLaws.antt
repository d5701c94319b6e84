-- Entries of the code stand for the same while names are added; and what standard names and definitions stand for.
use Rattle.std.proofs.Common.{◌≡◌, ℕ, zero, suc, ◌+◌, ◌<◌, length, take, get_or, arith, List, [], ◌∷◌, ◌++◌, map, slice_get, Option, Some, None, refl, sym, ap, ◌∙◌, subst}
use Rattle.std.proofs.lemmas.List.{map_push, take_more}
use Rattle.scheme_model.specs.declared.Occ.{Occ}
use Rattle.scheme_model.specs.Ident.{Ident as Identifier}
use Rattle.scheme_model.specs.Meaning.{Meaning, Local, Global, Standard, Free}
use Rattle.scheme_model.specs.Entries.{Entry, place_origin}
use Rattle.scheme_model.specs.Program.{standard_entry}
use Rattle.syntax_tree.specs.Names.{Names, KeepsNames}
use Rattle.syntax_tree.specs.Macros.{IsIdent}
use Rattle.syntax_tree.specs.Meant.{IsSymbol, IsMeaning, AreOrigins, IsEntry, AreEntries}
use Rattle.syntax_tree.specs.declared.meaning.Meaning as code_meaning
use Rattle.syntax_tree.specs.declared.meaning.Meaning.TheVariants as code
use Rattle.syntax_tree.specs.declared.units.Entry as code_entry
use Rattle.syntax_tree.specs.declared.units.Origin.{Origin}
use Rattle.import_sets.specs.Given as given
use Rattle.import_sets.proofs.EntryLaws.{entries-append}
use Rattle.unit_imports.specs.Joining.{plain_origin}
use Rattle.unit_imports.specs.EntriesMeant.{HaveMeaning}

-- ---- names are added

pub meaning_kept : (old new : Names) → KeepsNames old new → (unit form : ℕ) (m : code_meaning.Meaning) (n : Meaning) → IsMeaning old unit form m n → IsMeaning new unit form m n
meaning_kept old new k unit form (code.Local v) n h = h
meaning_kept old new k unit form (code.Global u j) (Local v) h = absurd h
meaning_kept old new k unit form (code.Global u j) (Global w i) h = (h.0, k.idents j i h.1)
meaning_kept old new k unit form (code.Global u j) (Standard s) h = absurd h
meaning_kept old new k unit form (code.Global u j) (Free s) h = absurd h
meaning_kept old new k unit form (code.Standard j) (Local v) h = absurd h
meaning_kept old new k unit form (code.Standard j) (Global w i) h = absurd h
meaning_kept old new k unit form (code.Standard j) (Standard s) h = k.symbols j s h
meaning_kept old new k unit form (code.Standard j) (Free s) h = absurd h
meaning_kept old new k unit form (code.Free j) (Local v) h = absurd h
meaning_kept old new k unit form (code.Free j) (Global w i) h = absurd h
meaning_kept old new k unit form (code.Free j) (Standard s) h = absurd h
meaning_kept old new k unit form (code.Free j) (Free s) h = k.symbols j s h

pub entry_kept : (old new : Names) → KeepsNames old new → (e : code_entry.Entry) (d : Entry) → IsEntry old e d → IsEntry new e d
entry_kept old new k e d h = record { name = h.name; meaning = λ unit form. meaning_kept old new k unit form e.meaning d.meaning (h.meaning unit form); origins = h.origins }

pub entries_kept : (old new : Names) → KeepsNames old new → (es : List code_entry.Entry) (ds : List Entry) → AreEntries old es ds → AreEntries new es ds
entries_kept old new k [] [] h = tt
entries_kept old new k [] (d ∷ ds) h = absurd h
entries_kept old new k (e ∷ es) [] h = absurd h
entries_kept old new k (e ∷ es) (d ∷ ds) h = (entry_kept old new k e d h.0, entries_kept old new k es ds h.1)

pub mean_kept : (old new : Names) → KeepsNames old new → (es : List code_entry.Entry) → HaveMeaning old es → HaveMeaning new es
mean_kept old new k es h = (h.0, entries_kept old new k es h.0 h.1)

pub names_itself : (a : Names) → KeepsNames a a
names_itself a = record { symbols = λ n s h. h; idents = λ n i h. h }

pub names_on : (a b c : Names) → KeepsNames a b → KeepsNames b c → KeepsNames a c
names_on a b c h k = record { symbols = λ n s e. k.symbols n s (h.symbols n s e); idents = λ n i e. k.idents n i (h.idents n i e) }

-- ---- entries

pub standard_stands : (names : Names) (n : ℕ) (s : List ℕ) → IsSymbol names n s → IsEntry names (record { name = s; meaning = code.Standard n; origins = plain_origin None }) (standard_entry s)
standard_stands names n s h = record { name = refl; meaning = λ unit form. h; origins = ((refl, refl), tt) }

place_stands : (m : Meaning) (o : Option Occ) → AreOrigins m (given.place_origin o) (place_origin o)
place_stands m None = tt
place_stands m (Some o) = ((refl, refl), tt)

pub defined_stands : (names : Names) (unit n : ℕ) (i : Identifier) (s : List ℕ) (o : Option Occ) → IsIdent names n i →
    IsEntry names (record { name = s; meaning = code.Global unit n; origins = given.place_origin o }) (record { name = s; meaning = Global unit i; origins = place_origin o })
defined_stands names unit n i s o h = record { name = refl; meaning = λ u f. (refl, h); origins = place_stands (Global unit i) o }

pub mean_none : (names : Names) → HaveMeaning names []
mean_none names = ([], tt)

pub mean_both : (names : Names) (es fs : List code_entry.Entry) → HaveMeaning names es → HaveMeaning names fs → HaveMeaning names (es ++ fs)
mean_both names es fs h k = (h.0 ++ k.0, entries-append names es fs h.0 k.0 h.1 k.1)

pub mean_one : (names : Names) (e : code_entry.Entry) (d : Entry) → IsEntry names e d → HaveMeaning names (e ∷ [])
mean_one names e d h = (d ∷ [], (h, tt))

pub standard_is : (names : Names) (n : ℕ) (s t : List ℕ) (os : List Origin) → IsSymbol names n s → t ≡ s → os ≡ plain_origin None → IsEntry names (record { name = t; meaning = code.Standard n; origins = os }) (standard_entry s)
standard_is names n s t os at same plain =
    subst (λ (u : List ℕ). IsEntry names (record { name = u; meaning = code.Standard n; origins = os }) (standard_entry s)) (sym same)
    (subst (λ (xs : List Origin). IsEntry names (record { name = s; meaning = code.Standard n; origins = xs }) (standard_entry s)) (sym plain) (standard_stands names n s at))

-- one standard name more
pub standard_more : (old new : Names) (es more : List code_entry.Entry) (e : code_entry.Entry) (ss : List (List ℕ)) (i : ℕ) (s : List ℕ) → i < length ss → s ≡ get_or ss i s → KeepsNames old new →
    AreEntries old es (map standard_entry (take i ss)) → IsEntry new e (standard_entry s) → more ≡ es ++ e ∷ [] → AreEntries new more (map standard_entry (take (i + 1) ss))
standard_more old new es more e ss i s lt is keeps are one more_is =
    subst (λ (ds : List Entry). AreEntries new more ds) (sym all)
    (subst (λ (xs : List code_entry.Entry). AreEntries new xs (map standard_entry (take i ss) ++ standard_entry s ∷ [])) (sym more_is)
    (entries-append new es (e ∷ []) (map standard_entry (take i ss)) (standard_entry s ∷ []) (entries_kept old new keeps es (map standard_entry (take i ss)) are) (one, tt)))
  where
    all : map standard_entry (take (i + 1) ss) ≡ map standard_entry (take i ss) ++ standard_entry s ∷ []
    all = ap (map standard_entry) (take_more ss i s lt ∙ ap (λ (t : List ℕ). take i ss ++ t ∷ []) (sym is)) ∙ map_push standard_entry (take i ss) s

-- ---- definitions

pub there : {A : Type 0} (xs : List A) (n : ℕ) → n < length xs → (x : A) × (slice_get xs n ≡ Some x)
there [] n lt = absurd (omega arith)
there (x ∷ xs) zero lt = (x, refl)
there (x ∷ xs) (suc n) lt = there xs n (omega arith)

pub defined_means : (names : Names) (unit n : ℕ) (s : List ℕ) (os : List Origin) (o : Option Occ) → n < length names.idents → os ≡ given.place_origin o → HaveMeaning names (record { name = s; meaning = code.Global unit n; origins = os } ∷ [])
defined_means names unit n s os o lt e =
    let at = there names.idents n lt in
    subst (λ (xs : List Origin). HaveMeaning names (record { name = s; meaning = code.Global unit n; origins = xs } ∷ [])) (sym e)
    (mean_one names (record { name = s; meaning = code.Global unit n; origins = given.place_origin o }) (record { name = s; meaning = Global unit at.0; origins = place_origin o }) (defined_stands names unit n at.0 s o at.1))
