-- Equal meanings of the code are those of identifiers that mean the same.
use Rattle.std.proofs.Common.{◌≡◌, ℕ, ◌==◌, ◌&&◌, List, refl, sym, ap, ◌∙◌, eq-eqb}
use Rattle.scheme_model.specs.Identifiers.{same_number}
use Rattle.scheme_model.specs.Ident.{Ident as Identifier}
use Rattle.scheme_model.specs.Meaning.{same_meaning}
use Rattle.scheme_model.specs.Meaning as model
use Rattle.syntax_tree.specs.Names.{Names, AreToldApart}
use Rattle.syntax_tree.specs.Macros.{IsIdent}
use Rattle.syntax_tree.specs.Meant.{IsSymbol, IsMeaning}
use Rattle.syntax_tree.specs.declared.meaning.Meaning.{Meaning}
use Rattle.syntax_tree.specs.declared.meaning.Meaning.TheVariants.{Local, Global, Standard, Free}
use Rattle.syntax_tree.proofs.RoleLaws.{same_by_number}
use Rattle.unit_scopes.specs.Used.{meanings_equal}
use Rattle.unit_scopes.proofs.KeptStands.{same_either, symbol_keys}

module _ (names : Names) (apart : AreToldApart names.idents) (told : AreToldApart names.symbols) (unit form : ℕ) where
  locals : (n k : ℕ) → (n == k) ≡ same_number (record { unit = unit; form = form; count = n }) (record { unit = unit; form = form; count = k })
  locals n k =
      let units = eq-eqb unit unit refl in let forms = eq-eqb form form refl in
      λ j. sym units j && (sym forms j && (n == k))

  symbols : (n k : ℕ) (x y : List ℕ) → IsSymbol names n x → IsSymbol names k y → (n == k) ≡ same_meaning (model.Standard x) (model.Standard y)
  symbols n k x y p q = same_either n k ∙ symbol_keys names apart told unit form form n k x y p q

  by_local : (n : ℕ) (d : Meaning) (m : model.Meaning) → IsMeaning names unit form d m → meanings_equal (Local n) d ≡ same_meaning (model.Local (record { unit = unit; form = form; count = n })) m
  by_local n (Local k) m h = locals n k ∙ ap (same_meaning (model.Local (record { unit = unit; form = form; count = n }))) (sym h)
  by_local n (Global v k) (model.Local w) h = absurd h
  by_local n (Global v k) (model.Global w j) h = refl
  by_local n (Global v k) (model.Standard y) h = absurd h
  by_local n (Global v k) (model.Free y) h = absurd h
  by_local n (Standard k) (model.Local w) h = absurd h
  by_local n (Standard k) (model.Global w j) h = absurd h
  by_local n (Standard k) (model.Standard y) h = refl
  by_local n (Standard k) (model.Free y) h = absurd h
  by_local n (Free k) (model.Local w) h = absurd h
  by_local n (Free k) (model.Global w j) h = absurd h
  by_local n (Free k) (model.Standard y) h = absurd h
  by_local n (Free k) (model.Free y) h = refl

  by_global : (u n : ℕ) (w : ℕ) (i : Identifier) → u ≡ w → IsIdent names n i → (d : Meaning) (m : model.Meaning) → IsMeaning names unit form d m → meanings_equal (Global u n) d ≡ same_meaning (model.Global w i) m
  by_global u n w i same is (Local k) m h = ap (same_meaning (model.Global w i)) (sym h)
  by_global u n w i same is (Global v k) (model.Local y) h = absurd h
  by_global u n w i same is (Global v k) (model.Global y j) h =
      let idents = same_either n k ∙ sym (same_by_number names apart n k i j is h.1) in
      λ t. (same t == h.0 t) && idents t
  by_global u n w i same is (Global v k) (model.Standard x) h = absurd h
  by_global u n w i same is (Global v k) (model.Free x) h = absurd h
  by_global u n w i same is (Standard k) (model.Local y) h = absurd h
  by_global u n w i same is (Standard k) (model.Global y j) h = absurd h
  by_global u n w i same is (Standard k) (model.Standard x) h = refl
  by_global u n w i same is (Standard k) (model.Free x) h = absurd h
  by_global u n w i same is (Free k) (model.Local y) h = absurd h
  by_global u n w i same is (Free k) (model.Global y j) h = absurd h
  by_global u n w i same is (Free k) (model.Standard x) h = absurd h
  by_global u n w i same is (Free k) (model.Free x) h = refl

  by_standard : (n : ℕ) (x : List ℕ) → IsSymbol names n x → (d : Meaning) (m : model.Meaning) → IsMeaning names unit form d m → meanings_equal (Standard n) d ≡ same_meaning (model.Standard x) m
  by_standard n x is (Local k) m h = ap (same_meaning (model.Standard x)) (sym h)
  by_standard n x is (Global v k) (model.Local w) h = absurd h
  by_standard n x is (Global v k) (model.Global w j) h = refl
  by_standard n x is (Global v k) (model.Standard y) h = absurd h
  by_standard n x is (Global v k) (model.Free y) h = absurd h
  by_standard n x is (Standard k) (model.Local w) h = absurd h
  by_standard n x is (Standard k) (model.Global w j) h = absurd h
  by_standard n x is (Standard k) (model.Standard y) h = symbols n k x y is h
  by_standard n x is (Standard k) (model.Free y) h = absurd h
  by_standard n x is (Free k) (model.Local w) h = absurd h
  by_standard n x is (Free k) (model.Global w j) h = absurd h
  by_standard n x is (Free k) (model.Standard y) h = absurd h
  by_standard n x is (Free k) (model.Free y) h = refl

  by_free : (n : ℕ) (x : List ℕ) → IsSymbol names n x → (d : Meaning) (m : model.Meaning) → IsMeaning names unit form d m → meanings_equal (Free n) d ≡ same_meaning (model.Free x) m
  by_free n x is (Local k) m h = ap (same_meaning (model.Free x)) (sym h)
  by_free n x is (Global v k) (model.Local w) h = absurd h
  by_free n x is (Global v k) (model.Global w j) h = refl
  by_free n x is (Global v k) (model.Standard y) h = absurd h
  by_free n x is (Global v k) (model.Free y) h = absurd h
  by_free n x is (Standard k) (model.Local w) h = absurd h
  by_free n x is (Standard k) (model.Global w j) h = absurd h
  by_free n x is (Standard k) (model.Standard y) h = refl
  by_free n x is (Standard k) (model.Free y) h = absurd h
  by_free n x is (Free k) (model.Local w) h = absurd h
  by_free n x is (Free k) (model.Global w j) h = absurd h
  by_free n x is (Free k) (model.Standard y) h = absurd h
  by_free n x is (Free k) (model.Free y) h = symbols n k x y is h

  pub meant_same : (c : Meaning) (l : model.Meaning) → IsMeaning names unit form c l → (d : Meaning) (m : model.Meaning) → IsMeaning names unit form d m → meanings_equal c d ≡ same_meaning l m
  meant_same (Local n) l is d m h = by_local n d m h ∙ ap (λ (x : model.Meaning). same_meaning x m) (sym is)
  meant_same (Global u n) (model.Local w) is d m h = absurd is
  meant_same (Global u n) (model.Global w i) is d m h = by_global u n w i is.0 is.1 d m h
  meant_same (Global u n) (model.Standard x) is d m h = absurd is
  meant_same (Global u n) (model.Free x) is d m h = absurd is
  meant_same (Standard n) (model.Local w) is d m h = absurd is
  meant_same (Standard n) (model.Global w i) is d m h = absurd is
  meant_same (Standard n) (model.Standard x) is d m h = by_standard n x is d m h
  meant_same (Standard n) (model.Free x) is d m h = absurd is
  meant_same (Free n) (model.Local w) is d m h = absurd is
  meant_same (Free n) (model.Global w i) is d m h = absurd is
  meant_same (Free n) (model.Standard x) is d m h = absurd is
  meant_same (Free n) (model.Free x) is d m h = by_free n x is d m h
