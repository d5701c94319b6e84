-- All standard names, gathered library by library.
use Rattle.std.proofs.Common.{◌≡◌, ℕ, zero, suc, ◌<◌, ◌≤◌, Bor, List, [], ◌∷◌, ◌++◌, map, length, slice_get, take, get_or, ◌+◌, add-one, Bool, true, false, Option, Some, None, refl, sym, ap, ◌∙◌, subst, append_assoc, append-nil, cond}
use Rattle.std.specs.Prelude.{◌||◌}
use Rattle.std.specs.Str.{bytes_eq}
use Rattle.std.proofs.Math.Seq.{take-suc}
use Rattle.std.proofs.lemmas.List.{map_more, take_all}
use Rattle.std.proofs.lemmas.Option.{slice_get_within, same_Some}
use Rattle.scheme_model.specs.Meaning.{Meaning, Standard}
use Rattle.scheme_model.specs.Program.{has_name, is_standard, is_standard_in}
use Rattle.scheme_model.specs.StandardLibraries.{StandardLibrary, standard_libraries}
use Rattle.syntax_tree.specs.Names.{Names, KeepsNames}
use Rattle.syntax_tree.specs.Meant.{IsSymbol, IsMeaning, IsGivenMeaning}
use Rattle.syntax_tree.specs.declared.meaning.Meaning as code_meaning
use Rattle.syntax_tree.specs.declared.meaning.Meaning.TheVariants as code
use Rattle.syntax_tree.proofs.InternLaws.{bytes_told, bytes_itself}
use Rattle.syntax_tree.proofs.Places.{none_some}
use Rattle.core_tree.specs.Names.{AllMatch}
use Rattle.base_library.specs.Texts.{name_text, names_of}
use Rattle.unit_scopes.specs.Preluded.{standard_names}
use Rattle.unit_scopes.specs.declared.scope.Imported.{Imported}
use Rattle.unit_scopes.proofs.CoreStandLaws.{every_on}
use Rattle.core_tree.proofs.Matched.{matched_at, matched_back, all_append}
use Rattle.standard_scopes.specs.Begun.{IsStandardName, AddsStandard, AreStandard}

-- ---- names of libraries

abbrev or_none : Option (List (List ℕ)) → List (List ℕ)
or_none None = []
or_none (Some ss) = ss

-- the names of all libraries of these texts
abbrev pub names_in : List (List ℕ) → List (List ℕ)
names_in [] = []
names_in (t ∷ ts) = or_none (names_of t) ++ names_in ts

abbrev all_names : List StandardLibrary → List (List ℕ)
all_names [] = []
all_names (l ∷ ls) = l.names ++ all_names ls

has_more : (xs ys : List (List ℕ)) (s : List ℕ) → has_name (xs ++ ys) s ≡ (has_name xs s || has_name ys s)
has_more [] ys s = refl
has_more (x ∷ xs) ys s = or_more (bytes_eq x s) (has_name xs s) (has_name ys s) (has_name (xs ++ ys) s) (has_more xs ys s)
  where
    or_more : (a b c d : Bool) → d ≡ (b || c) → (a || d) ≡ ((a || b) || c)
    or_more true b c d h = refl
    or_more false b c d h = h

has_all : (ls : List StandardLibrary) (s : List ℕ) → has_name (all_names ls) s ≡ is_standard_in ls s
has_all [] s = refl
has_all (l ∷ ls) s = has_more l.names (all_names ls) s ∙ ap (λ b. has_name l.names s || b) (has_all ls s)

abbrev pub library_texts : List (List ℕ)
library_texts = map (λ (l : StandardLibrary). name_text l.name) standard_libraries

names_are : names_in library_texts ≡ all_names standard_libraries
unfolding standard_libraries
names_are = refl

pub has_standard : (s : List ℕ) → has_name (names_in library_texts) s ≡ is_standard s
has_standard s = ap (λ ss. has_name ss s) names_are ∙ has_all standard_libraries s

pub names_more : (ts : List (List ℕ)) (t : List ℕ) → names_in (ts ++ t ∷ []) ≡ names_in ts ++ or_none (names_of t)
names_more [] t = append-nil (or_none (names_of t))
names_more (u ∷ ts) t = ap (λ ss. or_none (names_of u) ++ ss) (names_more ts t) ∙ sym (append_assoc (or_none (names_of u)) (names_in ts) (or_none (names_of t)))

pub none_named : (ts : List (List ℕ)) (t : List ℕ) → None ≡ names_of t → names_in (ts ++ t ∷ []) ≡ names_in ts
none_named ts t none = names_more ts t ∙ (ap (λ o. names_in ts ++ or_none o) (sym none) ∙ append-nil (names_in ts))

pub some_named : (ts : List (List ℕ)) (t : List ℕ) (ss : List (List ℕ)) → Some ss ≡ names_of t → names_in (ts ++ t ∷ []) ≡ names_in ts ++ ss
some_named ts t ss some = names_more ts t ∙ ap (λ o. names_in ts ++ or_none o) (sym some)

-- ---- imports

at_name : (ss : List (List ℕ)) (n : ℕ) (s : List ℕ) → slice_get ss n ≡ Some s → has_name ss s ≡ true
at_name [] n s at = none_some s at
at_name (t ∷ ss) zero s at = ap (λ b. b || has_name ss s) (ap (λ u. bytes_eq u s) (same_Some t s at) ∙ bytes_itself s)
at_name (t ∷ ss) (suc n) s at = or_true (bytes_eq t s) (has_name ss s) (at_name ss n s at)
  where
    or_true : (a b : Bool) → b ≡ true → (a || b) ≡ true
    or_true true b h = refl
    or_true false b h = h

name_at : (ss : List (List ℕ)) (s : List ℕ) → has_name ss s ≡ true → (n : ℕ) × (slice_get ss n ≡ Some s)
name_at [] s h = absurd cc
name_at (t ∷ ss) s h = here (bytes_eq t s) refl h (name_at ss s)
  where
    here : (b : Bool) → bytes_eq t s ≡ b → (b || has_name ss s) ≡ true → (has_name ss s ≡ true → (n : ℕ) × (slice_get ss n ≡ Some s)) → (n : ℕ) × (slice_get (t ∷ ss) n ≡ Some s)
    here true is h later = (0, ap Some (bytes_told t s is))
    here false is h later = let x = later h in (suc x.0, x.1)

name_on : (old new : Names) → KeepsNames old new → (x : Imported) (s : List ℕ) → IsStandardName old x s → IsStandardName new x s
name_on old new names x s h = record { symbol = names.symbols x.symbol s h.symbol; meaning = h.meaning }

pub names_on : (old new : Names) → KeepsNames old new → (xs : List Imported) (ss : List (List ℕ)) → AllMatch (IsStandardName old) xs ss → AllMatch (IsStandardName new) xs ss
names_on old new names xs ss h = every_on (IsStandardName old) (IsStandardName new) (name_on old new names) xs ss h

pub more_standard : (old new : Names) → KeepsNames old new → (xs ys : List Imported) (ss ts : List (List ℕ)) → AllMatch (IsStandardName old) xs ss → AddsStandard new xs ys ts → AllMatch (IsStandardName new) ys (ss ++ ts)
more_standard old new names xs ys ss ts h a =
    subst (λ (zs : List Imported). AllMatch (IsStandardName new) zs (ss ++ ts)) (sym a.added)
    (all_append (IsStandardName new) xs ss a.more ts (names_on old new names xs ss h) a.are)

-- one name more
pub adds_none : (names : Names) (xs : List Imported) → AddsStandard names xs xs []
adds_none names xs = record { more = []; added = sym (append-nil xs); are = tt }

pub adds_one : (old new : Names) → KeepsNames old new → (xs ys : List Imported) (ss : List (List ℕ)) (n : ℕ) (s : List ℕ) → AddsStandard old xs ys ss → IsSymbol new n s →
    AddsStandard new xs (ys ++ record { symbol = n; meaning = code.Standard n } ∷ []) (ss ++ s ∷ [])
adds_one old new names xs ys ss n s a is = record {
  more = a.more ++ record { symbol = n; meaning = code.Standard n } ∷ [];
  added = ap (λ (zs : List Imported). zs ++ record { symbol = n; meaning = code.Standard n } ∷ []) a.added ∙ append_assoc xs a.more (record { symbol = n; meaning = code.Standard n } ∷ []);
  are = all_append (IsStandardName new) a.more ss (record { symbol = n; meaning = code.Standard n } ∷ []) (s ∷ []) (names_on old new names a.more ss a.are) (record { symbol = is; meaning = refl }, tt);
}

pub are_standard : (names : Names) (xs : List Imported) (ss : List (List ℕ)) → AllMatch (IsStandardName names) xs ss → ((s : List ℕ) → has_name ss s ≡ is_standard s) → AreStandard names xs
are_standard names xs ss all same = record {
  numbered = λ n x at. let m = matched_at (IsStandardName names) xs ss n x all at in slice_get_within names.symbols x.symbol m.0 m.2.symbol;
  imports = record { given = given; only = λ s m e. only s m (is_standard s) refl e };
}
  where
    given : (n : ℕ) (x : Imported) (s : List ℕ) → slice_get xs n ≡ Some x → IsSymbol names x.symbol s → (m : Meaning) × (standard_names s ≡ Some m) × IsGivenMeaning names x.meaning m
    given n x s at is =
        let m = matched_at (IsStandardName names) xs ss n x all at in
        let here : m.0 ≡ s = same_Some m.0 s (sym m.2.symbol ∙ is) in
        let known : is_standard s ≡ true = ap is_standard (sym here) ∙ (sym (same m.0) ∙ at_name ss n m.0 m.1) in
        (Standard s, ap (λ (b : Bool). cond b (Some (Standard s)) None) known, λ unit form. subst (λ (c : code_meaning.Meaning). IsMeaning names unit form c (Standard s)) (sym m.2.meaning) is)

    only : (s : List ℕ) (m : Meaning) (b : Bool) → is_standard s ≡ b → standard_names s ≡ Some m → (n : ℕ) × ((x : Imported) × (slice_get xs n ≡ Some x) × IsSymbol names x.symbol s)
    only s m true is e =
        let n = name_at ss s (same s ∙ is) in
        let x = matched_back (IsStandardName names) xs ss n.0 s all n.1 in
        (n.0, (x.0, x.1, x.2.symbol))
    only s m false is e = none_some m (sym (ap (λ (b : Bool). cond b (Some (Standard s)) None) is) ∙ e)

-- the name at a place
pub adds_at : (old new : Names) → KeepsNames old new → (xs ys zs : List Imported) (ss : List (List ℕ)) (k : ℕ) (d : List ℕ) (n : ℕ) → AddsStandard old xs ys (take k ss) → k < length ss → IsSymbol new n (get_or ss k d) →
    zs ≡ ys ++ record { symbol = n; meaning = code.Standard n } ∷ [] → AddsStandard new xs zs (take (k + 1) ss)
adds_at old new names xs ys zs ss k d n a low is more =
    subst (λ (vs : List Imported). AddsStandard new xs vs (take (k + 1) ss)) (sym more)
    (subst (λ (ts : List (List ℕ)). AddsStandard new xs (ys ++ record { symbol = n; meaning = code.Standard n } ∷ []) ts) (sym (ap (λ (m : ℕ). take m ss) (add-one k) ∙ take-suc ss k d low))
    (adds_one old new names xs ys (take k ss) n (get_or ss k d) a is))

-- ---- the libraries gone through

abbrev pub texts_of : List (Bor (List ℕ)) → List (List ℕ)
texts_of ls = map (λ (s : Bor (List ℕ)). s.now) ls

-- one library more, of which there are names
pub some_more : (old new : Names) → KeepsNames old new → (xs ys : List Imported) (ls : List (Bor (List ℕ))) (k : ℕ) (d : Bor (List ℕ)) (ss : List (List ℕ)) → k < length ls →
    Some ss ≡ names_of (get_or ls k d).now → AllMatch (IsStandardName old) xs (names_in (texts_of (take k ls))) → AddsStandard new xs ys ss →
    AllMatch (IsStandardName new) ys (names_in (texts_of (take (k + 1) ls)))
some_more old new names xs ys ls k d ss low is all adds =
    let next : names_in (texts_of (take (k + 1) ls)) ≡ names_in (texts_of (take k ls)) ++ ss =
    ap names_in (map_more (λ (s : Bor (List ℕ)). s.now) ls k d low) ∙ some_named (texts_of (take k ls)) (get_or ls k d).now ss is in
    subst (λ (ts : List (List ℕ)). AllMatch (IsStandardName new) ys ts) (sym next) (more_standard old new names xs ys (names_in (texts_of (take k ls))) ss all adds)

-- or none
pub none_more : (names : Names) (xs : List Imported) (ls : List (Bor (List ℕ))) (k : ℕ) (d : Bor (List ℕ)) → k < length ls → None ≡ names_of (get_or ls k d).now →
    AllMatch (IsStandardName names) xs (names_in (texts_of (take k ls))) → AllMatch (IsStandardName names) xs (names_in (texts_of (take (k + 1) ls)))
none_more names xs ls k d low is all =
    let next : names_in (texts_of (take (k + 1) ls)) ≡ names_in (texts_of (take k ls)) =
    ap names_in (map_more (λ (s : Bor (List ℕ)). s.now) ls k d low) ∙ none_named (texts_of (take k ls)) (get_or ls k d).now is in
    subst (λ (ts : List (List ℕ)). AllMatch (IsStandardName names) xs ts) (sym next) all

-- all libraries
pub all_gathered : (names : Names) (xs : List Imported) (ls : List (Bor (List ℕ))) (k : ℕ) → length ls ≤ k → texts_of ls ≡ library_texts →
    AllMatch (IsStandardName names) xs (names_in (texts_of (take k ls))) → AreStandard names xs
all_gathered names xs ls k all texts are =
    let whole : names_in (texts_of (take k ls)) ≡ names_in library_texts = ap (λ (rs : List (Bor (List ℕ))). names_in (texts_of rs)) (take_all k ls all) ∙ ap names_in texts in
    are_standard names xs (names_in (texts_of (take k ls))) are (λ s. ap (λ (ts : List (List ℕ)). has_name ts s) whole ∙ has_standard s)
