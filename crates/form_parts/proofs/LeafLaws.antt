-- Leaves that are no identifier are atoms at their places, and identifiers of the table by what the code has of them.
use Rattle.std.proofs.Common.{◌≡◌, ℕ, List, [], ◌∷◌, Option, Some, None, refl, sym, ap, ◌∙◌, subst}
use Rattle.std.specs.Prelude.{slice_get}
use Rattle.std.specs.Option.{option_map}
use Rattle.std.proofs.lemmas.Option.{same_Some}
use Rattle.scheme_model.specs.declared.Occ.{Occ}
use Rattle.scheme_model.specs.Trees.{Atom, Numeral, Quoted, Character, Boolean, Bytes, Tree, atom, list, Trees, no_trees, tree, Tail}
use Rattle.scheme_model.specs.Order.{Here, or_here, read_name, here_at}
use Rattle.scheme_model.specs.Ident.{Ident as Identifier, Written, Inserted}
use Rattle.syntax_tree.specs.Names.{Names}
use Rattle.syntax_tree.specs.Macros.{IsIdent}
use Rattle.syntax_tree.specs.Numbered.{ident_of, number_of}
use Rattle.syntax_tree.specs.Standing.{leaf_tree}
use Rattle.syntax_tree.specs.Works.{StandsFor}
use Rattle.syntax_tree.specs.Looks.{PartsStand}
use Rattle.syntax_tree.specs.declared.trees.Work.{Work}
use Rattle.syntax_tree.specs.declared.trees.nodes.Tree as number
use Rattle.syntax_tree.specs.declared.trees.nodes.Leaf.{Leaf}
use Rattle.syntax_tree.specs.declared.trees.nodes.Leaf.TheVariants as code
use Rattle.syntax_tree.specs.declared.symbols.Ident.TheVariants as idents
use Rattle.syntax_tree.specs.declared.symbols.UseNo.{UseNo}
use Rattle.core_forms.specs.Parts.{IsNameIfAny}
use Rattle.core_forms.proofs.Words.{IsNoName, leaf_name}
use Rattle.form_parts.specs.FormsSeen.{name_in, head_name_of}

-- the atom of a leaf
pub record IsAtom (o : Option Occ) (t : Tree Identifier) : Type 0 where
  pub value : Atom
  pub is : t ≡ atom value o

abbrev text_atom : Option Occ → (List ℕ → Atom) → List ℕ → Tree Identifier
text_atom o f s = atom (f s) o

kept_text : (x : Option (List ℕ)) (f : List ℕ → Atom) (o : Option Occ) (t : Tree Identifier) → option_map (text_atom o f) x ≡ Some t → IsAtom o t
kept_text None f o t h = absurd cc
kept_text (Some s) f o t h = record { value = f s; is = sym (same_Some (text_atom o f s) t h) }

leaf_atom : (names : Names) (leaf : Leaf) (o : Option Occ) (t : Tree Identifier) → IsNoName leaf → leaf_tree names leaf o ≡ Some t → IsAtom o t
leaf_atom names (code.Name n) o t h e = absurd h
leaf_atom names (code.Numeral n) o t h e = kept_text (slice_get names.symbols n) Numeral o t e
leaf_atom names (code.Quoted n) o t h e = kept_text (slice_get names.symbols n) Quoted o t e
leaf_atom names (code.Char n) o t h e = record { value = Character n; is = sym (same_Some (atom (Character n) o) t e) }
leaf_atom names (code.Bool n) o t h e = record { value = Boolean n; is = sym (same_Some (atom (Boolean n) o) t e) }
leaf_atom names (code.Bytes n) o t h e = kept_text (slice_get names.symbols n) Bytes o t e

module _ (names : Names) (leaf d : Leaf) (o : Option Occ) (t : Tree Identifier) (same : leaf ≡ d) (no : IsNoName d) (h : leaf_tree names leaf o ≡ Some t) where
  seen : IsAtom o t
  seen = leaf_atom names leaf o t (subst IsNoName (sym same) no) h

  pub atom_here : (here : Here) → or_here o here ≡ here_at (λ (i : Identifier). i) t here
  atom_here here = ap (λ (x : Tree Identifier). here_at (λ (i : Identifier). i) x here) (sym seen.is)

  pub atom_name : (work : Work) → IsNameIfAny work None (name_in t)
  atom_name work = subst (λ (x : Tree Identifier). IsNameIfAny work None (name_in x)) (sym seen.is) tt

-- the leaf of an identifier
pub name_here : (names : Names) (leaf : Leaf) (n : ℕ) (o : Option Occ) (t : Tree Identifier) (here : Here) (r : Here) → leaf ≡ code.Name n → leaf_tree names leaf o ≡ Some t → ((i : Identifier) → IsIdent names n i → r ≡ read_name i o here) →
    r ≡ here_at (λ (i : Identifier). i) t here
name_here names leaf n o t here r same h f =
    let l = leaf_name names n o t (subst (λ (x : Leaf). leaf_tree names x o ≡ Some t) same h) in
    f l.0 l.2 ∙ ap (λ (x : Tree Identifier). here_at (λ (i : Identifier). i) x here) (sym l.1)

pub name_there : (work : Work) (leaf : Leaf) (n : ℕ) (o : Option Occ) (t : Tree Identifier) → leaf ≡ code.Name n → leaf_tree work.symbols leaf o ≡ Some t → IsNameIfAny work (Some (record { ident = n; occ = o })) (name_in t)
name_there work leaf n o t same h =
    let l = leaf_name work.symbols n o t (subst (λ (x : Leaf). leaf_tree work.symbols x o ≡ Some t) same h) in
    subst (λ (x : Tree Identifier). IsNameIfAny work (Some (record { ident = n; occ = o })) (name_in x)) (sym l.1) (l.2, refl)

pub name_within : (names : Names) (leaf : Leaf) (n : ℕ) (o : Option Occ) (t : Tree Identifier) → leaf ≡ code.Name n → leaf_tree names leaf o ≡ Some t → (i : Identifier) × (slice_get names.idents n ≡ Some i)
name_within names leaf n o t same h = let l = leaf_name names n o t (subst (λ (x : Leaf). leaf_tree names x o ≡ Some t) same h) in (l.0, l.2)

-- an identifier that was written, and one that a use inserted
module _ (names : Names) (at : ℕ) (i : Identifier) (is : IsIdent names at i) (o : Option Occ) (here : Here) where
  pub written_here : (u s : ℕ) → slice_get names.idents at ≡ ident_of names (idents.Written u s) → or_here o here ≡ read_name i o here
  written_here u s h = go (slice_get names.symbols s) (sym h ∙ is) o
    where
      go : (x : Option (List ℕ)) → option_map (Written u) x ≡ Some i → (o : Option Occ) → or_here o here ≡ read_name i o here
      go None e o = absurd cc
      go (Some t) e o = at_place o ∙ ap (λ (j : Identifier). read_name j o here) (same_Some (Written u t) i e)
        where
          at_place : (o : Option Occ) → or_here o here ≡ read_name (Written u t) o here
          at_place None = refl
          at_place (Some p) = refl

  pub inserted_here : (id : ℕ) (k : UseNo) → slice_get names.idents at ≡ ident_of names (idents.Inserted id k) → here ≡ read_name i o here
  inserted_here id k h = go (slice_get names.idents id) (sym h ∙ is)
    where
      go : (x : Option Identifier) → option_map (λ (j : Identifier). Inserted j (number_of k)) x ≡ Some i → here ≡ read_name i o here
      go None e = absurd cc
      go (Some j) e = ap (λ (y : Identifier). read_name y o here) (same_Some (Inserted j (number_of k)) i e)

-- ---- the heads of lists

pub head_none : (ts : Trees Identifier) (tail : Tail Identifier) (o : Option Occ) → ts ≡ no_trees → head_name_of (list ts tail o) ≡ None
head_none ts tail o h = ap (λ (us : Trees Identifier). head_name_of (list us tail o)) h

pub head_first : (ts us : Trees Identifier) (t : Tree Identifier) (tail : Tail Identifier) (o : Option Occ) → ts ≡ tree t us → head_name_of (list ts tail o) ≡ name_in t
head_first ts us t tail o h = ap (λ (vs : Trees Identifier). head_name_of (list vs tail o)) h

-- the first part by its number, and no part
pub first_there : (work : Work) (ns : List number.Tree) (n : number.Tree) (ts : Trees Identifier) → Some n ≡ slice_get ns 0 → PartsStand work ns ts → (t : Tree Identifier) × (us : Trees Identifier) × (ts ≡ tree t us) × StandsFor work n t
first_there work [] n ts e h = absurd cc
first_there work (m ∷ ns) n no_trees e h = absurd h
first_there work (m ∷ ns) n (tree t us) e h = (t, us, refl, subst (λ (x : number.Tree). StandsFor work x t) (sym (same_Some n m e)) h.0)

pub first_gone : (work : Work) (ns : List number.Tree) (ts : Trees Identifier) → None ≡ slice_get ns 0 → PartsStand work ns ts → ts ≡ no_trees
first_gone work [] no_trees e h = refl
first_gone work [] (tree t us) e h = absurd h
first_gone work (m ∷ ns) ts e h = absurd cc
