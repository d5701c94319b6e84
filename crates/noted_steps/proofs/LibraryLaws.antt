-- The libraries that the requirements of a `cond-expand` ask for, one after another (R7RS 4.2.1).
use Rattle.std.proofs.Common.{◌≡◌, List, [], ◌∷◌, ◌++◌, append_assoc, append-nil, map, length, get_or, Bool, true, false, cond, Option, refl, sym, ap, ◌∙◌, subst, arith}
use Rattle.std.specs.Prelude.{codes}
use Rattle.std.specs.Str.{bytes_eq}
use Rattle.scheme_model.specs.declared.Occ.{Occ}
use Rattle.scheme_model.specs.ExpansionFaults.{◌>>◌}
use Rattle.scheme_model.specs.Ident.{Ident as Identifier, symbol_of}
use Rattle.scheme_model.specs.Matching.{behind}
use Rattle.scheme_model.specs.Order.{Asked, Library}
use Rattle.scheme_model.specs.Requirements.{Known, LibraryName, library_name_of, is_else, libraries_of, libraries_among, name_asked}
use Rattle.scheme_model.specs.ScopedExpansion.{Frames}
use Rattle.scheme_model.specs.Shapes.{one_of}
use Rattle.scheme_model.specs.Trees.{Tree, name, atom, list, vector, Trees, no_trees, tree, proper, dotted}
use Rattle.syntax_tree.specs.Looks.{PartsStand}
use Rattle.syntax_tree.specs.Works.{StandsFor}
use Rattle.syntax_tree.specs.declared.trees.Work.{Work}
use Rattle.syntax_tree.specs.declared.trees.nodes.Tree as number
use Rattle.feature_requirements.specs.Judged.{Knows}
use Rattle.feature_requirements.specs.declared.requirements.Connective.{Connective}
use Rattle.feature_requirements.specs.declared.requirements.Connective.TheVariants as word
use Rattle.unit_scopes.specs.declared.scope.UnitScope.{UnitScope}
use Rattle.noted_steps.specs.Asked.{names_asked, clause_asked, libraries_behind, library_behind, behind_first, word_named}
use Rattle.noted_steps.specs.Noting.{Noting, noting}
use Rattle.noted_steps.specs.Standing.{Stands, with_notes}
use Rattle.noted_steps.proofs.AskedLaws.{asked_on}

-- ---- one list behind another

abbrev libraries : List LibraryName → List (Asked Frames Identifier)
libraries ls = map Library ls

libraries_both : (aa bs : List LibraryName) → libraries aa ++ libraries bs ≡ libraries (aa ++ bs)
libraries_both [] bs = refl
libraries_both (a ∷ aa) bs = ap (λ (qs : List (Asked Frames Identifier)). Library a ∷ qs) (libraries_both aa bs)

module _ (known : Known) (work : Work) (ls : List Frames) (s : Noting) where
  names_on : (u : UnitScope) (aa bs : List LibraryName) → Stands work u ls (names_asked known bs (names_asked known aa s)) → Stands work u ls (names_asked known (aa ++ bs) s)
  names_on u aa bs e =
      subst (λ (qs : List (Asked Frames Identifier)). Stands work u ls ((noting known).ask qs s)) (libraries_both aa bs) (asked_on known s work u ls (libraries aa) (libraries bs) e)

  -- of all these some were asked, and some are left
  pub record NamesSoFar (u : UnitScope) (all left : List LibraryName) : Type 0 where
    pub asked : List LibraryName
    pub stands : Stands work u ls (names_asked known asked s)
    pub rest : all ≡ asked ++ left

  pub names_none : (u : UnitScope) (all left : List LibraryName) → all ≡ left → Stands work u ls s → NamesSoFar u all left
  names_none u all left is e = record { asked = []; stands = e; rest = is }

  pub names_more : (u v : UnitScope) (all left more later : List LibraryName) (h : NamesSoFar u all left) → left ≡ more ++ later → Stands work v ls (names_asked known more (names_asked known h.asked s)) → NamesSoFar v all later
  names_more u v all left more later h is e = record {
    asked = h.asked ++ more;
    stands = names_on v h.asked more e;
    rest = h.rest ∙ (ap (λ (l : List LibraryName). h.asked ++ l) is ∙ sym (append_assoc h.asked more later));
  }

  pub names_all : (u : UnitScope) (all left : List LibraryName) → left ≡ [] → NamesSoFar u all left → Stands work u ls (names_asked known all s)
  names_all u all left none h =
      subst (λ (l : List LibraryName). Stands work u ls (names_asked known l s)) (sym (h.rest ∙ (ap (λ (l : List LibraryName). h.asked ++ l) none ∙ append-nil h.asked))) h.stands

-- ---- by shapes

-- what is behind the first tree of a row
pub behind_one : (ts us : Trees Identifier) (t : Tree Identifier) → ts ≡ tree t us → behind_first ts ≡ us
behind_one ts us t is = ap behind_first is

pub from_one : (ts : Trees Identifier) → behind_first ts ≡ behind 1 ts
from_one no_trees = refl
from_one (tree t ts) = refl

-- a clause that isn't a list, or a dotted or an empty one, asks nothing
pub no_list : (t u : Tree Identifier) → t ≡ u → clause_asked u ≡ [] → clause_asked t ≡ []
no_list t u is none = ap clause_asked is ∙ none

pub clause_dotted : (ts : Trees Identifier) (u : Tree Identifier) (o : Option Occ) → clause_asked (list ts (dotted u) o) ≡ []
clause_dotted no_trees u o = refl
clause_dotted (tree t ts) u o = refl

else_or : (t : Tree Identifier) (b : Bool) → is_else symbol_of t ≡ b → cond b [] (libraries_of symbol_of t) ≡ libraries_of symbol_of t
else_or (name i o) true is = refl
else_or (name i o) false is = refl
else_or (atom a o) true is = absurd cc
else_or (atom a o) false is = refl
else_or (list ts tail o) true is = absurd cc
else_or (list ts tail o) false is = refl
else_or (vector ts o) true is = absurd cc
else_or (vector ts o) false is = refl

-- its first tree is the requirement, and `else` asks nothing
pub clause_first : (t : Tree Identifier) (ts : Trees Identifier) (o : Option Occ) → clause_asked (list (tree t ts) proper o) ≡ libraries_of symbol_of t
clause_first t ts o = else_or t (is_else symbol_of t) refl

-- ---- requirements by their words

abbrev pub by_word : Connective → Trees Identifier → List LibraryName
by_word word.And ts = libraries_behind ts
by_word word.Or ts = libraries_behind ts
by_word word.Not ts = libraries_behind ts
by_word word.Library ts = library_behind ts
by_word word.Unknown ts = []

word_cases : (i : Identifier) (p : Option Occ) (ts : Trees Identifier) (o : Option Occ) (a b c d : Bool) → bytes_eq (symbol_of i) (codes "and") ≡ a → bytes_eq (symbol_of i) (codes "or") ≡ b → bytes_eq (symbol_of i) (codes "not") ≡ c → bytes_eq (symbol_of i) (codes "library") ≡ d →
    cond a (libraries_among symbol_of ts) (cond b (libraries_among symbol_of ts) (cond c (libraries_among symbol_of ts) (cond d (name_asked (one_of ts proper >> library_name_of symbol_of)) [])))
    ≡ by_word (cond a word.And (cond b word.Or (cond c word.Not (cond d word.Library word.Unknown)))) (tree (name i p) ts)
word_cases i p ts o true b c d ha hb hc hd = refl
word_cases i p ts o false true c d ha hb hc hd = refl
word_cases i p ts o false false true d ha hb hc hd = refl
word_cases i p ts o false false false true ha hb hc hd = refl
word_cases i p ts o false false false false ha hb hc hd = refl

pub by_its_word : (ts : Trees Identifier) (o : Option Occ) → libraries_of symbol_of (list ts proper o) ≡ by_word (word_named ts) ts
by_its_word no_trees o = refl
by_its_word (tree (name i p) ts) o =
    word_cases i p ts o (bytes_eq (symbol_of i) (codes "and")) (bytes_eq (symbol_of i) (codes "or")) (bytes_eq (symbol_of i) (codes "not")) (bytes_eq (symbol_of i) (codes "library")) refl refl refl refl
by_its_word (tree (atom a p) ts) o = refl
by_its_word (tree (list us end p) ts) o = refl
by_its_word (tree (vector us p) ts) o = refl

pub dotted_asks : (ts : Trees Identifier) (u : Tree Identifier) (o : Option Occ) → libraries_of symbol_of (list ts (dotted u) o) ≡ []
dotted_asks no_trees u o = refl
dotted_asks (tree (name i p) ts) u o = refl
dotted_asks (tree (atom a p) ts) u o = refl
dotted_asks (tree (list us end p) ts) u o = refl
dotted_asks (tree (vector us p) ts) u o = refl

-- ---- the one name

pub not_named : (work : Work) (ns : List number.Tree) (ts : Trees Identifier) → (length ns ≡ 2 → ⊥) → PartsStand work ns ts → library_behind ts ≡ []
not_named work ns no_trees e h = refl
not_named work [] (tree t ts) e h = absurd h
not_named work (n ∷ []) (tree t no_trees) e h = refl
not_named work (n ∷ []) (tree t (tree u us)) e h = absurd h.1
not_named work (n ∷ m ∷ []) (tree t no_trees) e h = absurd h.1
not_named work (n ∷ m ∷ []) (tree t (tree u us)) e h = absurd (e refl)
not_named work (n ∷ m ∷ k ∷ ns) (tree t no_trees) e h = absurd h.1
not_named work (n ∷ m ∷ k ∷ ns) (tree t (tree u no_trees)) e h = absurd h.1.1
not_named work (n ∷ m ∷ k ∷ ns) (tree t (tree u (tree v vs))) e h = refl

pub one_named : (work : Work) (ns : List number.Tree) (d : number.Tree) (ts : Trees Identifier) → length ns ≡ 2 → PartsStand work ns ts → (t : Tree Identifier) × (library_behind ts ≡ name_asked (library_name_of symbol_of t)) × StandsFor work (get_or ns 1 d) t
one_named work [] d ts e h = absurd (omega (arith, e))
one_named work (n ∷ []) d ts e h = absurd (omega (arith, e))
one_named work (n ∷ m ∷ []) d no_trees e h = absurd h
one_named work (n ∷ m ∷ []) d (tree t no_trees) e h = absurd h.1
one_named work (n ∷ m ∷ []) d (tree t (tree u no_trees)) e h = (u, refl, h.1.0)
one_named work (n ∷ m ∷ []) d (tree t (tree u (tree v vs))) e h = absurd h.1.1
one_named work (n ∷ m ∷ k ∷ ns) d ts e h = absurd (omega (arith, e))

-- the libraries that there are stay where notes alone change
pub knows_on : (u v : UnitScope) (known : Known) → v ≡ with_notes u v.form.trace.notes → Knows u.libraries known → Knows v.libraries known
knows_on u v known same h = subst (λ (x : UnitScope). Knows x.libraries known) (sym same) h
