-- A form under other numbers, computed: `(define (f x) (let-syntax ((m (syntax-rules () ((_ y) (f y))))) (m x)))` as form 5 of unit 3, and as
-- form 2 of unit 4.
use Rattle.std.proofs.Common.{◌≡◌, ℕ, List, [], ◌∷◌, true, Option, Some, None, refl}
use Rattle.std.specs.Prelude.{codes, if◌then◌else◌, ◌==◌}
use Rattle.scheme_model.specs.declared.Occ.{Occ}
use Rattle.scheme_model.specs.Ident.{Ident, Written, Inserted}
use Rattle.scheme_model.specs.Trees.{Tree, name, list, Trees, no_trees, tree, proper}
use Rattle.scheme_model.specs.Meaning.{Meaning, Standard, Local, Global}
use Rattle.scheme_model.specs.Cores.{Bound, LocalNumber, Definition}
use Rattle.scheme_model.specs.UnitExpansion.{Formed, unit}
use Rattle.scheme_model.specs.ScopedExpansion.{ScopedState}
use Rattle.scheme_model.specs.CountedExpansion.{counted}
use Rattle.scheme_model.specs.Live.{CoreLeaf, Binds, Uses, Assigns, Quotes, Defines, unit_leaves}
use Rattle.renumbering_laws.specs.Renumbering.{Renumbering, number, ident}
use Rattle.renumbering_laws.specs.Pairings.{paired}

-- units 3 and 4 are exchanged, and forms 5 and 2 of unit 3
abbrev r : Renumbering
r = paired ((3, 4) ∷ (4, 3) ∷ []) (λ u. if u == 3 then (5, 2) ∷ (2, 5) ∷ [] else [])

a_number : number r (record { unit = 3; form = 5; count = 7 }) ≡ record { unit = 4; form = 2; count = 7 }
a_number = refl

of_another_unit : number r (record { unit = 4; form = 5; count = 7 }) ≡ record { unit = 3; form = 5; count = 7 }
of_another_unit = refl

an_identifier : ident r (Inserted (Written 3 (codes "f")) (record { unit = 3; form = 5; count = 0 })) ≡ Inserted (Written 4 (codes "f")) (record { unit = 4; form = 2; count = 0 })
an_identifier = refl

module _ (u form : ℕ) where
  abbrev word : ℕ → List ℕ → Tree Ident
  word token s = name (Written u s) (Some (record { unit = u; form = form; token = token }))

  abbrev listed : List (Tree Ident) → Tree Ident
  listed ts = list (go ts) proper None
    where
      go : List (Tree Ident) → Trees Ident
      go [] = no_trees
      go (t ∷ ts) = tree t (go ts)

  abbrev macro : Tree Ident
  macro = listed (word 11 (codes "syntax-rules") ∷ listed [] ∷ listed (listed (word 15 (codes "_") ∷ word 16 (codes "y") ∷ []) ∷ listed (word 19 (codes "f") ∷ word 20 (codes "y") ∷ []) ∷ []) ∷ [])

  abbrev form_tree : Tree Ident
  form_tree =
      listed (word 1 (codes "define") ∷ listed (word 3 (codes "f") ∷ word 4 (codes "x") ∷ [])
      ∷ listed (word 7 (codes "let-syntax") ∷ listed (listed (word 9 (codes "m") ∷ macro ∷ []) ∷ []) ∷ listed (word 26 (codes "m") ∷ word 27 (codes "x") ∷ []) ∷ []) ∷ [])

  abbrev start : ScopedState
  start = record {
    unit = u;
    program = true;
    form = 0;
    locals = λ f. 0;
    uses = λ f. 0;
    nodes = λ f. 0;
    bodies = λ f. 0;
    keywords = λ f. [];
    met = λ f. [];
    table = [];
    entry = λ v s. Some (Standard s);
    macros = [];
    places = [];
    definitions = [];
  }

  abbrev formed : Option (List Formed)
  formed = (unit (counted (λ n. true)) 30 [] ((form, form_tree) ∷ []) start).0

abbrev or_none : Option (List Formed) → List Formed
or_none None = []
or_none (Some fs) = fs

-- each variable that is used, by what it means and where
abbrev uses : List CoreLeaf → List (Meaning × Option Occ)
uses [] = []
uses (Binds b ∷ ls) = uses ls
uses (Uses t ∷ ls) = (t.meaning, t.occ) ∷ uses ls
uses (Assigns t ∷ ls) = uses ls
uses (Quotes o ∷ ls) = uses ls
uses (Defines m ∷ ls) = uses ls

-- the use of m calls f, which the unit defines, of x, which is the form's first local
before : uses (unit_leaves (or_none (formed 3 5)))
    ≡ (Global 3 (Written 3 (codes "f")), Some (record { unit = 3; form = 5; token = 19 })) ∷ (Local (record { unit = 3; form = 5; count = 0 }), Some (record { unit = 3; form = 5; token = 27 })) ∷ []
before = refl

after : uses (unit_leaves (or_none (formed 4 2)))
    ≡ (Global 4 (Written 4 (codes "f")), Some (record { unit = 4; form = 2; token = 19 })) ∷ (Local (record { unit = 4; form = 2; count = 0 }), Some (record { unit = 4; form = 2; token = 27 })) ∷ []
after = refl

-- each binder, by what it binds and where: f, x and the macro m
abbrev binds : List CoreLeaf → List (Bound × Option Occ)
binds [] = []
binds (Binds b ∷ ls) = (b.bound, b.occ) ∷ binds ls
binds (Uses t ∷ ls) = binds ls
binds (Assigns t ∷ ls) = binds ls
binds (Quotes o ∷ ls) = binds ls
binds (Defines m ∷ ls) = binds ls

bound_before : binds (unit_leaves (or_none (formed 3 5)))
    ≡ (Definition 3 0, Some (record { unit = 3; form = 5; token = 3 })) ∷ (LocalNumber (record { unit = 3; form = 5; count = 0 }), Some (record { unit = 3; form = 5; token = 4 }))
    ∷ (LocalNumber (record { unit = 3; form = 5; count = 1 }), Some (record { unit = 3; form = 5; token = 9 })) ∷ []
bound_before = refl

bound_after : binds (unit_leaves (or_none (formed 4 2)))
    ≡ (Definition 4 0, Some (record { unit = 4; form = 2; token = 3 })) ∷ (LocalNumber (record { unit = 4; form = 2; count = 0 }), Some (record { unit = 4; form = 2; token = 4 }))
    ∷ (LocalNumber (record { unit = 4; form = 2; count = 1 }), Some (record { unit = 4; form = 2; token = 9 })) ∷ []
bound_after = refl
