-- Meanings by what the code has of them, and slots one after another.
use Rattle.std.proofs.Common.{◌≡◌, ℕ, zero, suc, ◌+◌, ◌<◌, List, [], ◌∷◌, ◌++◌, length, drop, Some, refl, sym, ap, ◌∙◌, arith, append_assoc, add-one}
use Rattle.std.specs.Prelude.{slice_get}
use Rattle.scheme_model.specs.Ident.{Ident as Identifier}
use Rattle.scheme_model.specs.Meaning.{Meaning, Local, Global, Standard, Free}
use Rattle.scheme_model.specs.Cores.{RuleLeaf}
use Rattle.scheme_model.specs.Substitution.{Table}
use Rattle.rename_model.specs.Walks.{Node, Point, Slot, LeafOf, leaf_points, filled}
use Rattle.syntax_tree.specs.Names.{Names}
use Rattle.syntax_tree.specs.Macros.{IsIdent}
use Rattle.syntax_tree.specs.Meant.{IsSymbol, IsMeaning}
use Rattle.syntax_tree.specs.declared.meaning.Meaning.TheVariants as code
use Rattle.program_leaves.specs.Adds.{Adds}
use Rattle.program_leaves.proofs.AddLaws.{adds_both}
use Rattle.alpha_equal.specs.declared.points.Point as code_point
use Rattle.alpha_equal.specs.Points.{IsPoint}
use Rattle.alpha_equal.specs.Filled.{FilledTo}

pub within : {A : Type 0} (xs : List A) (n : ℕ) (x : A) → slice_get xs n ≡ Some x → n < length xs
within [] n x e = absurd cc
within (y ∷ ys) zero x e = omega arith
within (y ∷ ys) (suc n) x e = let lt = within ys n x e in omega (arith, lt)

module _ (names : Names) (unit form : ℕ) where
  pub global_is : (u n : ℕ) (m : Meaning) → IsMeaning names unit form (code.Global u n) m → (i : Identifier) × (m ≡ Global u i) × IsIdent names n i
  global_is u n (Local v) h = absurd h
  global_is u n (Global w i) h = (i, ap (λ (x : ℕ). Global x i) (sym h.0), h.1)
  global_is u n (Standard s) h = absurd h
  global_is u n (Free s) h = absurd h

  pub standard_is : (n : ℕ) (m : Meaning) → IsMeaning names unit form (code.Standard n) m → (s : List ℕ) × (m ≡ Standard s) × IsSymbol names n s
  standard_is n (Local v) h = absurd h
  standard_is n (Global w i) h = absurd h
  standard_is n (Standard s) h = (s, refl, h)
  standard_is n (Free s) h = absurd h

  pub free_is : (n : ℕ) (m : Meaning) → IsMeaning names unit form (code.Free n) m → (s : List ℕ) × (m ≡ Free s) × IsSymbol names n s
  free_is n (Local v) h = absurd h
  free_is n (Global w i) h = absurd h
  free_is n (Standard s) h = absurd h
  free_is n (Free s) h = (s, refl, h)

  -- ---- slots

  pub filled_more : (table : Table) (old mid new : List code_point.Point) (ss : List Slot) (ls : List RuleLeaf) (k next after : ℕ) (here : List Point) → FilledTo names table unit form old mid ss ls k next →
      filled table (drop k ss) (drop next ls) ≡ here ++ filled table (drop (suc k) ss) (drop after ls) → Adds (IsPoint names unit form) mid new here → FilledTo names table unit form old new ss ls (k + 1) after
  filled_more table old mid new ss ls k next after here p e h = record {
    so_far = p.so_far ++ here;
    adds = adds_both (IsPoint names unit form) old mid new p.so_far here p.adds h;
    whole = ap (λ (m : ℕ). (p.so_far ++ here) ++ filled table (drop m ss) (drop after ls)) (add-one k)
        ∙ append_assoc p.so_far here (filled table (drop (suc k) ss) (drop after ls)) ∙ ap (λ (q : List Point). p.so_far ++ q) (sym e) ∙ p.whole;
  }

-- no leaf is left
pub no_leaf : (table : Table) (n : Node) (rest : List Slot) (ls : List RuleLeaf) → ls ≡ [] → filled table (LeafOf n ∷ rest) ls ≡ filled table rest ls
no_leaf table n rest [] e = refl
no_leaf table n rest (l ∷ ls) e = absurd cc

-- the next leaf
pub a_leaf : (table : Table) (n : Node) (rest : List Slot) (ls more : List RuleLeaf) (l : RuleLeaf) → ls ≡ l ∷ more → filled table (LeafOf n ∷ rest) ls ≡ leaf_points table n l ++ filled table rest more
a_leaf table n rest ls more l e = ap (λ (x : List RuleLeaf). filled table (LeafOf n ∷ rest) x) e
