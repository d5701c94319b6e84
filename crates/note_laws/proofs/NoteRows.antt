-- What small forms note, computed: latest first, by the words of what is asked.
use Rattle.std.proofs.Common.{◌≡◌, ℕ, List, [], ◌∷◌, ◌++◌, map, false, None, refl}
use Rattle.std.specs.Prelude.{codes}
use Rattle.scheme_model.specs.Ident.{Ident, symbol_of}
use Rattle.scheme_model.specs.Trees.{Tree}
use Rattle.scheme_model.specs.Order.{run}
use Rattle.scheme_model.specs.UnitExpansion.{one_form}
use Rattle.scheme_model.specs.Questions.{Question, LooksUp, UsesRules, Compares, IsAssigned, Requires, Defines}
use Rattle.scheme_model.specs.FormsAlike.{questions_of_pass}
use Rattle.form_laws.proofs.QuestionRows.{empty, around, word, form}
use Rattle.form_notes.specs.Noted.{Noted}
use Rattle.question_laws.specs.Noted.{all_noted}
use Rattle.noted_steps.specs.Noting.{noting, begun}
use Rattle.note_laws.specs.Told.{bare_noted, told, since_of}

shown : Noted → List ℕ
shown m = go m.question
  where
    go : Question → List ℕ
    go (LooksUp i) = symbol_of i
    go (UsesRules k) = codes "rules"
    go (Compares l i) = codes "same " ++ symbol_of l ++ codes " " ++ symbol_of i
    go (IsAssigned i) = codes "assigned " ++ symbol_of i
    go (Requires l) = codes "library"
    go (Defines fs x r ns) = codes "defines " ++ symbol_of x.name

abbrev notes_of : Tree Ident → List Noted
notes_of t = (run (noting (λ n. false)) 20 [] (one_form t []) (begun 0 (since_of (around empty) (λ n. None)) empty)).1.noted

abbrev as_told : Tree Ident → List Noted
as_told t = map (told (around empty)) (all_noted (around empty) (questions_of_pass (around empty) 20 t))

-- (define x y)
abbrev defines_x : Tree Ident
defines_x = form (word (codes "define") ∷ word (codes "x") ∷ word (codes "y") ∷ [])

define_notes : map shown (notes_of defines_x) ≡ codes "defines x" ∷ codes "assigned x" ∷ codes "define" ∷ []
unfolding shown
define_notes = refl

define_told : map bare_noted (notes_of defines_x) ≡ as_told defines_x
define_told = refl

-- (define-syntax m (syntax-rules () ((_) x)))
abbrev defines_m : Tree Ident
defines_m = form (word (codes "define-syntax") ∷ word (codes "m") ∷ form (word (codes "syntax-rules") ∷ form [] ∷ form (form (word (codes "_") ∷ []) ∷ word (codes "x") ∷ []) ∷ []) ∷ [])

syntax_notes : map shown (notes_of defines_m) ≡ codes "defines m" ∷ codes "syntax-rules" ∷ codes "define-syntax" ∷ []
unfolding shown
syntax_notes = refl

syntax_told : map bare_noted (notes_of defines_m) ≡ as_told defines_m
syntax_told = refl
