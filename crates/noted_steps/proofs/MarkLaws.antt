-- What the heads within a quasiquotation mark, asked one after another (R7RS 4.2.8).
use Rattle.std.proofs.Common.{◌≡◌, ℕ, zero, suc, List, [], ◌∷◌, ◌++◌, append_assoc, append-nil, map, length, get_or, Option, Some, None, Result, Ok, Err, refl, sym, ap, ◌∙◌, subst, arith}
use Rattle.scheme_model.specs.ExpansionFaults.{Fault}
use Rattle.scheme_model.specs.Ident.{Ident as Identifier}
use Rattle.scheme_model.specs.Order.{Asked, Headed}
use Rattle.scheme_model.specs.Quasiquote.{Mark, Nested, Unquoted, Spliced, level_behind, marks_by, datum_marks}
use Rattle.scheme_model.specs.Requirements.{Known}
use Rattle.scheme_model.specs.ScopedExpansion.{Frames}
use Rattle.scheme_model.specs.Trees.{Tree, Trees, no_trees, tree}
use Rattle.syntax_tree.specs.Looks.{PartsStand}
use Rattle.syntax_tree.specs.Works.{StandsFor}
use Rattle.syntax_tree.specs.declared.trees.Work.{Work}
use Rattle.syntax_tree.specs.declared.trees.nodes.Tree as number
use Rattle.unit_scopes.specs.declared.scope.UnitScope.{UnitScope}
use Rattle.noted_steps.specs.Asked.{IsOperand, behind_by, heads_asked}
use Rattle.noted_steps.specs.Noting.{Noting, noting}
use Rattle.noted_steps.specs.Standing.{Stands}
use Rattle.noted_steps.specs.declared.marks.Behind as code_behind
use Rattle.noted_steps.specs.declared.marks.Behind.TheVariants as behind
use Rattle.noted_steps.proofs.AskedLaws.{asked_on}

-- ---- one list behind another

abbrev headed : Frames → List Identifier → List (Asked Frames Identifier)
headed fs is = map (Headed fs) is

headed_both : (fs : Frames) (aa bs : List Identifier) → headed fs aa ++ headed fs bs ≡ headed fs (aa ++ bs)
headed_both fs [] bs = refl
headed_both fs (a ∷ aa) bs = ap (λ (qs : List (Asked Frames Identifier)). Headed fs a ∷ qs) (headed_both fs aa bs)

module _ (known : Known) (work : Work) (ls : List Frames) (fs : Frames) (s : Noting) where
  heads_on : (u : UnitScope) (aa bs : List Identifier) → Stands work u ls (heads_asked known fs bs (heads_asked known fs aa s)) → Stands work u ls (heads_asked known fs (aa ++ bs) s)
  heads_on u aa bs e =
      subst (λ (qs : List (Asked Frames Identifier)). Stands work u ls ((noting known).ask qs s)) (headed_both fs aa bs) (asked_on known s work u ls (headed fs aa) (headed fs bs) e)

  -- of all these some were asked, and some are left
  pub record HeadsSoFar (u : UnitScope) (all left : List Identifier) : Type 0 where
    pub asked : List Identifier
    pub stands : Stands work u ls (heads_asked known fs asked s)
    pub rest : all ≡ asked ++ left

  pub heads_none : (u : UnitScope) (all : List Identifier) → Stands work u ls s → HeadsSoFar u all all
  heads_none u all e = record { asked = []; stands = e; rest = refl }

  pub heads_more : (u v : UnitScope) (all left more later : List Identifier) (h : HeadsSoFar u all left) → left ≡ more ++ later → Stands work v ls (heads_asked known fs more (heads_asked known fs h.asked s)) → HeadsSoFar v all later
  heads_more u v all left more later h is e = record {
    asked = h.asked ++ more;
    stands = heads_on v h.asked more e;
    rest = h.rest ∙ (ap (λ (l : List Identifier). h.asked ++ l) is ∙ sym (append_assoc h.asked more later));
  }

  pub heads_all : (u : UnitScope) (all left : List Identifier) → left ≡ [] → HeadsSoFar u all left → Stands work u ls (heads_asked known fs all s)
  heads_all u all left none h =
      subst (λ (l : List Identifier). Stands work u ls (heads_asked known fs l s)) (sym (h.rest ∙ (ap (λ (l : List Identifier). h.asked ++ l) none ∙ append-nil h.asked))) h.stands

-- ---- what comes behind the first of a list

abbrev next_of : code_behind.Behind → ℕ
next_of (behind.Level n) = n
next_of behind.Nothing = 0

pub goes_on : (m : Option Mark) (level next : ℕ) (first : List Identifier) (rest : ℕ → List Identifier) → behind_by m level ≡ behind.Level next → marks_by m level first (rest (level_behind m level)) ≡ first ++ rest next
goes_on None level next first rest h = ap (λ (b : code_behind.Behind). first ++ rest (next_of b)) h
goes_on (Some Nested) level next first rest h = ap (λ (b : code_behind.Behind). first ++ rest (next_of b)) h
goes_on (Some Unquoted) zero next first rest h = absurd cc
goes_on (Some Unquoted) (suc level) next first rest h = ap (λ (b : code_behind.Behind). first ++ rest (next_of b)) h
goes_on (Some Spliced) zero next first rest h = absurd cc
goes_on (Some Spliced) (suc level) next first rest h = ap (λ (b : code_behind.Behind). first ++ rest (next_of b)) h

pub ends_there : (m : Option Mark) (level : ℕ) (first rest : List Identifier) → behind_by m level ≡ behind.Nothing → marks_by m level first rest ≡ []
ends_there None level first rest h = absurd cc
ends_there (Some Nested) level first rest h = absurd cc
ends_there (Some Unquoted) zero first rest h = refl
ends_there (Some Unquoted) (suc level) first rest h = absurd cc
ends_there (Some Spliced) zero first rest h = refl
ends_there (Some Spliced) (suc level) first rest h = absurd cc

-- ---- the one tree behind the head

pub no_operand : (work : Work) (mark : Identifier → Option Mark) (r : Result (Tree Identifier) (Fault Identifier)) → IsOperand work None r → datum_marks mark r ≡ []
no_operand work mark (Ok t) h = absurd h
no_operand work mark (Err e) h = refl

pub some_operand : (work : Work) (n : number.Tree) (r : Result (Tree Identifier) (Fault Identifier)) → IsOperand work (Some n) r → (t : Tree Identifier) × (r ≡ Ok t) × StandsFor work n t
some_operand work n (Ok t) h = (t, refl, h)
some_operand work n (Err e) h = absurd h

pub failed_operand : (work : Work) (r : Result (Tree Identifier) (Fault Identifier)) (e : Fault Identifier) → r ≡ Err e → IsOperand work None r
failed_operand work r e is = subst (IsOperand work None) (sym is) tt

pub second_of : (work : Work) (ns : List number.Tree) (d : number.Tree) (head : Tree Identifier) (ts : Trees Identifier) → length ns ≡ 2 → PartsStand work ns (tree head ts) → (x : Tree Identifier) × (ts ≡ tree x no_trees) × StandsFor work (get_or ns 1 d) x
second_of work [] d head ts e h = absurd h
second_of work (n ∷ []) d head ts e h = absurd (omega (arith, e))
second_of work (n ∷ m ∷ []) d head no_trees e h = absurd h.1
second_of work (n ∷ m ∷ []) d head (tree x no_trees) e h = (x, refl, h.1.0)
second_of work (n ∷ m ∷ []) d head (tree x (tree y ys)) e h = absurd h.1.1
second_of work (n ∷ m ∷ k ∷ ns) d head ts e h = absurd (omega (arith, e))
