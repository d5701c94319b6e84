-- Sets of names, and the first name that isn't in one.
use Rattle.std.proofs.Common.{◌≡◌, ℕ, ◌+◌, ◌<◌, Bool, true, false, cond, List, [], ◌∷◌, ◌++◌, append-nil, take, drop, length, get_or, map, Some, refl, sym, ap, ◌∙◌}
use Rattle.std.specs.Prelude.{◌||◌}
use Rattle.std.specs.List.{list_any}
use Rattle.std.specs.Str.{bytes_eq}
use Rattle.std.proofs.lemmas.List.{drop_more}
use Rattle.std.proofs.lemmas.List.Concat.{flat_map-append}
use Rattle.std.proofs.lemmas.List.Folds.{list_any_more}
use Rattle.syntax_tree.specs.declared.units.Entry.{Entry}
use Rattle.import_sets.specs.declared.set.SetName.{SetName}
use Rattle.import_sets.specs.declared.set.NamePair.{NamePair}
use Rattle.import_sets.specs.Given.{has_name, missing, given_under, under, rename_all, Gathered, take_in, take_all}

or_of : (b x : Bool) → cond b true x ≡ (x || b)
or_of true true = refl
or_of true false = refl
or_of false true = refl
or_of false false = refl

-- a set of names has one more
pub names_more : {X : Type 0} (name : X → List ℕ) (xs : List X) (i : ℕ) (x : X) (key s : List ℕ) (old new : Bool) → i < length xs → x ≡ get_or xs i x → key ≡ name x →
    old ≡ list_any (λ y. bytes_eq (name y) s) (take i xs) → new ≡ cond (bytes_eq key s) true old → new ≡ list_any (λ y. bytes_eq (name y) s) (take (i + 1) xs)
names_more {X} name xs i x key s old new lt is k o n =
    let p : X → Bool = λ y. bytes_eq (name y) s in
    n ∙ (λ j. cond (bytes_eq (k j) s) true (o j)) ∙ or_of (p x) (list_any p (take i xs)) ∙ (λ j. list_any p (take i xs) || p (is j)) ∙ sym (list_any_more p xs i x lt)

-- the first name that is left is there, or is missing
pub missing_there : (ns : List SetName) (es : List Entry) (i : ℕ) (n : SetName) → i < length ns → n ≡ get_or ns i n → has_name es n.name ≡ true → missing (drop (i + 1) ns) es ≡ missing (drop i ns) es
missing_there ns es i n lt is there =
    sym (ap (λ (l : List SetName). missing l es) (drop_more ns i n lt) ∙ (λ j. missing (sym is j ∷ drop (i + 1) ns) es) ∙ ap (λ (b : Bool). cond b (missing (drop (i + 1) ns) es) (Some n)) there)

pub missing_here : (ns : List SetName) (es : List Entry) (i : ℕ) (n : SetName) → i < length ns → n ≡ get_or ns i n → has_name es n.name ≡ false → missing (drop i ns) es ≡ Some n
missing_here ns es i n lt is there =
    ap (λ (l : List SetName). missing l es) (drop_more ns i n lt) ∙ (λ j. missing (sym is j ∷ drop (i + 1) ns) es) ∙ ap (λ (b : Bool). cond b (missing (drop (i + 1) ns) es) (Some n)) there

abbrev froms : List NamePair → List SetName
froms ps = map (λ (p : NamePair). p.from) ps

pub pair_there : (ps : List NamePair) (es : List Entry) (i : ℕ) (p : NamePair) → i < length ps → p ≡ get_or ps i p → has_name es p.from.name ≡ true →
    missing (map (λ (p : NamePair). p.from) (drop (i + 1) ps)) es ≡ missing (map (λ (p : NamePair). p.from) (drop i ps)) es
pair_there ps es i p lt is there =
    sym (ap (λ (l : List NamePair). missing (froms l) es) (drop_more ps i p lt) ∙ (λ j. missing (froms (sym is j ∷ drop (i + 1) ps)) es)
    ∙ ap (λ (b : Bool). cond b (missing (froms (drop (i + 1) ps)) es) (Some p.from)) there)

pub pair_here : (ps : List NamePair) (es : List Entry) (i : ℕ) (p : NamePair) → i < length ps → p ≡ get_or ps i p → has_name es p.from.name ≡ false → missing (map (λ (p : NamePair). p.from) (drop i ps)) es ≡ Some p.from
pair_here ps es i p lt is there =
    ap (λ (l : List NamePair). missing (froms l) es) (drop_more ps i p lt) ∙ (λ j. missing (froms (sym is j ∷ drop (i + 1) ps)) es)
    ∙ ap (λ (b : Bool). cond b (missing (froms (drop (i + 1) ps)) es) (Some p.from)) there

-- ---- other names, and entries put together

pub rename_more : (ps : List NamePair) (es : List Entry) (e : Entry) → rename_all ps (es ++ e ∷ []) ≡ rename_all ps es ++ under e (given_under ps e.name)
rename_more ps es e =
    flat_map-append (λ (e : Entry). under e (given_under ps e.name)) es (e ∷ []) ∙ ap (λ (l : List Entry). rename_all ps es ++ l) (append-nil (under e (given_under ps e.name)))

pub take_all_more : (g : Gathered) (es : List Entry) (e : Entry) → take_all g (es ++ e ∷ []) ≡ take_in (take_all g es) e
take_all_more g [] e = refl
take_all_more g (x ∷ es) e = take_all_more (take_in g x) es e
