-- Requirements as they are read.
use Rattle.std.proofs.Common.{◌≡◌, ℕ, ◌+◌, ◌<◌, List, [], ◌∷◌, ◌++◌, length, get_or, take, Bool, true, false, cond, Option, Some, Result, Ok, Err, refl, sym, ap, ◌∙◌, arith}
use Rattle.std.specs.Prelude.{◌&&◌, ◌||◌, not, codes}
use Rattle.std.specs.Str.{bytes_eq}
use Rattle.std.proofs.lemmas.List.{take_more}
use Rattle.std.proofs.lemmas.Option.{same_Some}
use Rattle.scheme_model.specs.declared.Occ.{Occ}
use Rattle.scheme_model.specs.Trees.{Tree, name, atom, list, vector, Trees, no_trees, tree, Tail, proper, dotted}
use Rattle.scheme_model.specs.ExpansionFaults.{Fault, BadForm, ◌>>◌}
use Rattle.scheme_model.specs.Requirements.{Known, holds, all_hold, some_holds, none_holds, is_else, clause_holds}
use Rattle.scheme_model.specs.Program.{has_name}
use Rattle.datum_reader.specs.declared.datum.Datum as code
use Rattle.datum_reader.specs.declared.shape_fault.ShapeFault.{ShapeFault}
use Rattle.datum_reader.specs.declared.shape_fault.ShapeFault.TheVariants as fault
use Rattle.datum_reader.specs.Looks.{trees_at, tree_at, word_of, is_dotted}
use Rattle.known_libraries.specs.PartsRead.{Fails, map_ok}
use Rattle.known_libraries.specs.Chosen.{word_holds, by_connective, library_holds}
use Rattle.known_libraries.specs.declared.requirements.Connective.TheVariants as word

-- ---- known names

has_push : (ts : List (List ℕ)) (t s : List ℕ) → has_name (ts ++ t ∷ []) s ≡ (has_name ts s || bytes_eq t s)
has_push [] t s = flip (bytes_eq t s)
  where
    flip : (b : Bool) → (b || false) ≡ b
    flip true = refl
    flip false = refl
has_push (u ∷ ts) t s = ap (λ b. bytes_eq u s || b) (has_push ts t s) ∙ group (bytes_eq u s) (has_name ts s) (bytes_eq t s)
  where
    group : (a b c : Bool) → (a || (b || c)) ≡ ((a || b) || c)
    group true b c = refl
    group false b c = refl

pub known_more : (known : List (List ℕ)) (i : ℕ) (t key s : List ℕ) (old new : Bool) → i < length known → t ≡ get_or known i t → key ≡ t → old ≡ has_name (take i known) s → new ≡ cond (bytes_eq key s) true old → new ≡ has_name (take (i + 1) known) s
known_more known i t key s old new lt is k o n =
    n ∙ (λ j. cond (bytes_eq (k j) s) true (o j)) ∙ flip (bytes_eq t s) (has_name (take i known) s) ∙ sym (has_push (take i known) t s) ∙ ap (λ (y : List ℕ). has_name (take i known ++ y ∷ []) s) is
    ∙ ap (λ (l : List (List ℕ)). has_name l s) (sym (take_more known i t lt))
  where
    flip : (a b : Bool) → cond a true b ≡ (b || a)
    flip true true = refl
    flip true false = refl
    flip false true = refl
    flip false false = refl

-- ---- requirements that are lists

named_holds : (k : Known) (t : Tree (List ℕ)) (ts : Trees (List ℕ)) (end : Tail (List ℕ)) (o : Option Occ) (s : List ℕ) → word_of t ≡ Some s → is_dotted end ≡ false → holds (λ s. s) k (list (tree t ts) end o) ≡ word_holds k s ts
named_holds k (name i p) ts proper o s h e =
    go (bytes_eq i (codes "and")) (bytes_eq i (codes "or")) (bytes_eq i (codes "not")) (bytes_eq i (codes "library")) ∙ ap (λ (w : List ℕ). word_holds k w ts) (same_Some i s h)
  where
    go : (a b c d : Bool) → cond a (all_hold (λ s. s) k ts) (cond b (some_holds (λ s. s) k ts) (cond c (none_holds (λ s. s) k ts) (cond d (library_holds k ts) (Err BadForm))))
        ≡ by_connective k (cond a word.And (cond b word.Or (cond c word.Not (cond d word.Library word.Unknown)))) ts
    go true b c d = refl
    go false true c d = refl
    go false false true d = refl
    go false false false true = refl
    go false false false false = refl
named_holds k (name i p) ts (dotted u) o s h e = absurd cc
named_holds k (atom a p) ts end o s h e = absurd cc
named_holds k (list us f p) ts end o s h e = absurd cc
named_holds k (vector us p) ts end o s h e = absurd cc

module _ (k : Known) (place : ℕ → Occ) (ds : List code.Datum) (d : code.Datum) (es : List code.Datum) (end : Tail (List ℕ)) (o : Option Occ) (is : ds ≡ d ∷ es) where
  pub some_word : (s : List ℕ) → word_of (tree_at place d) ≡ Some s → is_dotted end ≡ false → holds (λ s. s) k (list (trees_at place ds) end o) ≡ word_holds k s (trees_at place es)
  some_word s h e = ap (λ (xs : List code.Datum). holds (λ s. s) k (list (trees_at place xs) end o)) is ∙ named_holds k (tree_at place d) (trees_at place es) end o s h e

-- ---- several requirements

and_group : (a h : Bool) (r : Result Bool (Fault (List ℕ))) → map_ok (λ (b : Bool). a && b) (r >> λ b. Ok (h && b)) ≡ map_ok (λ (b : Bool). (a && h) && b) r
and_group true h (Ok b) = refl
and_group false h (Ok b) = refl
and_group a h (Err e) = refl

or_group : (a h : Bool) (r : Result Bool (Fault (List ℕ))) → map_ok (λ (b : Bool). a || b) (r >> λ b. Ok (h || b)) ≡ map_ok (λ (b : Bool). (a || h) || b) r
or_group true h (Ok b) = refl
or_group false h (Ok b) = refl
or_group a h (Err e) = refl

module _ (k : Known) (t : Tree (List ℕ)) (ts : Trees (List ℕ)) (whole : Result Bool (Fault (List ℕ))) (a : Bool) where
  pub all_more : (h : Bool) → whole ≡ map_ok (λ (b : Bool). a && b) (all_hold (λ s. s) k (tree t ts)) → holds (λ s. s) k t ≡ Ok h → whole ≡ map_ok (λ (b : Bool). (a && h) && b) (all_hold (λ s. s) k ts)
  all_more h so_far here = so_far ∙ ap (λ r. map_ok (λ (b : Bool). a && b) (r >> λ x. all_hold (λ s. s) k ts >> λ b. Ok (x && b))) here ∙ and_group a h (all_hold (λ s. s) k ts)

  pub all_fails : (e : ShapeFault) → whole ≡ map_ok (λ (b : Bool). a && b) (all_hold (λ s. s) k (tree t ts)) → Fails e (holds (λ s. s) k t) → Fails e whole
  all_fails fault.BadForm so_far here = so_far ∙ ap (λ r. map_ok (λ (b : Bool). a && b) (r >> λ x. all_hold (λ s. s) k ts >> λ b. Ok (x && b))) here
  all_fails fault.Memory so_far here = tt

  pub some_more : (h : Bool) → whole ≡ map_ok (λ (b : Bool). a || b) (some_holds (λ s. s) k (tree t ts)) → holds (λ s. s) k t ≡ Ok h → whole ≡ map_ok (λ (b : Bool). (a || h) || b) (some_holds (λ s. s) k ts)
  some_more h so_far here = so_far ∙ ap (λ r. map_ok (λ (b : Bool). a || b) (r >> λ x. some_holds (λ s. s) k ts >> λ b. Ok (x || b))) here ∙ or_group a h (some_holds (λ s. s) k ts)

  pub some_fails : (e : ShapeFault) → whole ≡ map_ok (λ (b : Bool). a || b) (some_holds (λ s. s) k (tree t ts)) → Fails e (holds (λ s. s) k t) → Fails e whole
  some_fails fault.BadForm so_far here = so_far ∙ ap (λ r. map_ok (λ (b : Bool). a || b) (r >> λ x. some_holds (λ s. s) k ts >> λ b. Ok (x || b))) here
  some_fails fault.Memory so_far here = tt

and_true : (a : Bool) → (a && true) ≡ a
and_true true = refl
and_true false = refl

or_false : (a : Bool) → (a || false) ≡ a
or_false true = refl
or_false false = refl

-- all of a row were read
pub all_end : (a : Bool) (r : Result Bool (Fault (List ℕ))) → r ≡ Ok true → map_ok (λ (b : Bool). a && b) r ≡ Ok a
all_end a r h = ap (map_ok (λ (b : Bool). a && b)) h ∙ ap Ok (and_true a)

pub some_end : (a : Bool) (r : Result Bool (Fault (List ℕ))) → r ≡ Ok false → map_ok (λ (b : Bool). a || b) r ≡ Ok a
some_end a r h = ap (map_ok (λ (b : Bool). a || b)) h ∙ ap Ok (or_false a)

-- ---- one requirement alone

pub none_long : (k : Known) (place : ℕ → Occ) (ds : List code.Datum) (d : code.Datum) (es : List code.Datum) → ds ≡ d ∷ es → 0 < length es → none_holds (λ s. s) k (trees_at place ds) ≡ Err BadForm
none_long k place ds d [] is h = absurd (omega arith)
none_long k place ds d (e ∷ es) is h = ap (λ (xs : List code.Datum). none_holds (λ s. s) k (trees_at place xs)) is

pub none_one : (k : Known) (place : ℕ → Occ) (ds : List code.Datum) (d : code.Datum) (es : List code.Datum) → ds ≡ d ∷ es → es ≡ [] → none_holds (λ s. s) k (trees_at place ds) ≡ (holds (λ s. s) k (tree_at place d) >> λ a. Ok (not a))
none_one k place ds d es is e = ap (λ (xs : List code.Datum). none_holds (λ s. s) k (trees_at place xs)) (is ∙ ap (λ (xs : List code.Datum). d ∷ xs) e)

pub library_long : (k : Known) (place : ℕ → Occ) (ds : List code.Datum) (d : code.Datum) (es : List code.Datum) → ds ≡ d ∷ es → 0 < length es → library_holds k (trees_at place ds) ≡ Err BadForm
library_long k place ds d [] is h = absurd (omega arith)
library_long k place ds d (e ∷ es) is h = ap (λ (xs : List code.Datum). library_holds k (trees_at place xs)) is

-- ---- clauses

pub plain_clause : (k : Known) (t : Tree (List ℕ)) (ts : Trees (List ℕ)) → is_else (λ s. s) t ≡ false → clause_holds (λ s. s) k t ts ≡ holds (λ s. s) k t
plain_clause k t no_trees h = ap (λ (b : Bool). cond b (Ok true) (holds (λ s. s) k t)) h
plain_clause k t (tree u us) h = ap (λ (b : Bool). cond b (Err BadForm) (holds (λ s. s) k t)) h
