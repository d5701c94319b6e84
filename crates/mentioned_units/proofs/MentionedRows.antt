-- What small forms mention, computed.
use Rattle.std.proofs.Common.{◌≡◌, ℕ, List, [], ◌∷◌, ◌++◌, map, eqb, Bool, true, false, Some, None, refl}
use Rattle.std.specs.Prelude.{codes, if◌then◌else◌}
use Rattle.std.specs.Str.{bytes_eq}
use Rattle.scheme_model.specs.Ident.{Ident, Written, Inserted}
use Rattle.scheme_model.specs.Trees.{Tree}
use Rattle.scheme_model.specs.Meaning.{Meaning, Local, Global, Standard, Free}
use Rattle.scheme_model.specs.RulesShape.{Rules}
use Rattle.scheme_model.specs.ScopedExpansion.{ScopedState}
use Rattle.scheme_model.specs.OwnAnswers.{root_means}
use Rattle.scheme_model.specs.Questions.{Around, Moment, at_moment, Question, LooksUp, UsesRules, Compares, IsAssigned, Requires, Defines, Answer, Means, answer}
use Rattle.scheme_model.specs.FormsAlike.{start, questions_of_pass, questions_of_left, set_aside_asking}
use Rattle.form_laws.proofs.QuestionRows.{empty, around, word, form, imported}
use Rattle.question_laws.specs.Noted.{all_noted}
use Rattle.mentioned_units.specs.Mentioned.{units_in}

-- ---- identifiers

-- s of unit 4, inserted by a use of unit 7 and that by one of unit 9
abbrev inserted : Ident
inserted = Inserted (Inserted (Written 4 (codes "s")) (record { unit = 7; form = 0; count = 2 })) (record { unit = 9; form = 1; count = 0 })

three_units : units_in inserted ≡ 9 ∷ 7 ∷ 4 ∷ []
three_units = refl

-- ---- questions

abbrev meant : Meaning → List ℕ
meant (Local v) = []
meant (Global u i) = u ∷ []
meant (Standard x) = []
meant (Free x) = []

-- the units that a question mentions, as they stand
abbrev mentioned : Around → Moment × Question → List ℕ
mentioned w (n, LooksUp i) = units_in i ++ meant (root_means (at_moment w n) i)
mentioned w (n, UsesRules m) = meant m
mentioned w (n, Compares l i) = units_in l ++ units_in i
mentioned w (n, IsAssigned i) = w.state.unit ∷ []
mentioned w (n, Requires l) = []
mentioned w (n, Defines fs x r ns) = w.state.unit ∷ []

-- unit 0, which imports f of unit 3
abbrev importing : ScopedState
importing = record empty { entry = λ u s. if eqb u 0 then (if bytes_eq s (codes "f") then Some (Global 3 (Written 3 (codes "f"))) else imported (codes "define" ∷ []) s) else None }

-- (define (g x) (f x)): the first part mentions its own unit, and what it set aside that of f too
abbrev defining : Tree Ident
defining = form (word (codes "define") ∷ form (word (codes "g") ∷ word (codes "x") ∷ []) ∷ form (word (codes "f") ∷ word (codes "x") ∷ []) ∷ [])

first_mentions : map (mentioned (around importing)) (all_noted (around importing) (questions_of_pass (around importing) 20 defining)) ≡ (0 ∷ []) ∷ (0 ∷ []) ∷ (0 ∷ []) ∷ []
first_mentions = refl

rest_mentions : map (mentioned (around importing)) (all_noted (around importing) (questions_of_left (around importing) 20 (set_aside_asking (around importing) 20 defining).0.left)) ≡ (0 ∷ 3 ∷ []) ∷ (0 ∷ 3 ∷ []) ∷ (0 ∷ 3 ∷ []) ∷ []
rest_mentions = refl

-- ---- why a look-up mentions the unit of what it means

-- where f is a macro of unit 3, nothing of unit 0 is another, and yet the answer is
abbrev rules : Rules Ident
rules = record { ellipsis = None; literals = []; rules = [] }

abbrev with_macro : ScopedState
with_macro = record importing { macros = record { meaning = Global 3 (Written 3 (codes "f")); frames = []; rules = rules } ∷ [] }

abbrev keyword : Answer → Bool
keyword (Means m k) = k
keyword a = false

no_keyword : keyword (answer (around importing) (start importing) (LooksUp (Written 0 (codes "f")))) ≡ false
no_keyword = refl

a_keyword : keyword (answer (around with_macro) (start with_macro) (LooksUp (Written 0 (codes "f")))) ≡ true
a_keyword = refl
