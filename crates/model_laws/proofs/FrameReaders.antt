-- What both sides read of the parts of a form, whatever the row of the core forms.
use Rattle.std.proofs.Common.{◌≡◌, ℕ, List, Bool, Option, Result, refl, ◌∙◌, subst}
use Rattle.scheme_model.specs.Identifiers.{Number, Name, same_name, strip}
use Rattle.scheme_model.specs.Ident.{Ident, erase, same_ident, symbol_of}
use Rattle.scheme_model.specs.Trees.{Tree, Trees, Tail, map_tree, map_trees, map_tail}
use Rattle.scheme_model.specs.ExpansionFaults.{Named, named_map, Fault}
use Rattle.scheme_model.specs.Requirements.{Known, chosen_of}
use Rattle.scheme_model.specs.Shapes.{Formals, one_of, some_of, proper_of, if_of, lambda_of, case_lambda_of, named_tree_of, syntax_of, definition_of, values_of, record_of, local_macros_of, error_text_of}
use Rattle.scheme_model.specs.RulesShape.{Names, rules_of, option_map}
use Rattle.scheme_model.specs.Order.{Here, given, RulesParts}
use Rattle.scheme_model.specs.Substitution.{Clock}
use Rattle.scheme_model.specs.ScopedExpansion.{Frames, ScopedState}
use Rattle.scheme_model.specs.Renaming.{Renames, formals_map}
use Rattle.model_laws.proofs.FrameEras.{Era, Below, below_more}
use Rattle.scheme_model.proofs.RenamingLaws.{Reads}
use Rattle.scheme_model.proofs.ShapeLaws.{one_of-map, some_of-map, proper_of-map, if_of-map, lambda_of-map, case_lambda_of-map, named_tree_of-map, syntax_of-map, definition_of-map, values_of-map, record_of-map, local_macros_of-map, error_text_of-map}
use Rattle.model_laws.proofs.RequirementLaws.{chosen_of-map}
use Rattle.scheme_model.proofs.RulesLaws.{rules_of-map}
use Rattle.scheme_model.proofs.ScopeLaws.{map_map, map_map_all, map_map_tail}
use Rattle.model_laws.proofs.IdentKinds.{Kind, map_twice, tree_kind, trees_kind, clause_kind, clauses_kind, definition_kind, record_kind, local_macros_kind, rules_kind, formals_fused}
use Rattle.scheme_model.proofs.Clocks.{leq_itself}
use Rattle.model_laws.proofs.FrameStates.{names, view, Old, ident_of, Made, FineState}
use Rattle.model_laws.proofs.FrameLeaves.{TreesAll, TailAll, lift_trees, lift_tail, lifted_trees, lifted_tail}
use Rattle.model_laws.proofs.FrameAgrees.{Agrees, Keeps, Seen, read_both}
use Rattle.model_laws.proofs.FrameUses.{named_in}

-- ---- kinds of what is read

-- what stands behind a keyword, or behind the head of rules
abbrev pub rest_kind : Kind
rest_kind = record { of = λ A. Trees A × Tail A; map = λ A B f p. (map_trees f p.0, map_tail f p.1); fused = λ A B C g f p. (λ j. (map_map_all g f p.0 j, map_map_tail g f p.1 j)) }

abbrev pub named_tree_kind : Kind
named_tree_kind = record { of = λ A. Named A × Tree A; map = λ A B f p. (named_map f p.0, map_tree f p.1); fused = λ A B C g f p. (λ j. (named_map (λ a. g (f a)) p.0, map_map g f p.1 j)) }

abbrev pub formals_tree_kind : Kind
formals_tree_kind = record { of = λ A. Formals A × Tree A; map = λ A B f p. (formals_map f p.0, map_tree f p.1); fused = λ A B C g f p. (λ j. (formals_fused A B C g f p.0 j, map_map g f p.1 j)) }

abbrev pub maybe_trees_kind : Kind
maybe_trees_kind = record { of = λ A. Option (Trees A); map = λ A B f o. option_map (map_trees f) o; fused = λ A B C g f o. map_twice (map_trees g) (map_trees f) (map_trees (λ a. g (f a))) (map_map_all g f) o }

-- a text, whatever the identifiers
abbrev pub text_kind : Kind
text_kind = record { of = λ A. List ℕ; map = λ A B f s. s; fused = λ A B C g f s. refl }

abbrev pub parts_map : {A B : Type 0} → (A → B) → RulesParts A → RulesParts B
parts_map f r = record { head = f r.head; parts = map_trees f r.parts; tail = map_tail f r.tail }

abbrev pub parts_kind : Kind
parts_kind = record { of = RulesParts; map = λ A B f r. parts_map f r; fused = λ A B C g f r. (λ j. record { head = g (f r.head); parts = map_map_all g f r.parts j; tail = map_map_tail g f r.tail j }) }

-- ---- readers

-- a reading that commutes with renamings that tell identifiers apart
pub record Reader (k l : Kind) : Type 1 where
  pub read : (A : Type 0) → Names A → k.of A → Result (l.of A) (Fault A)
  pub natural : (A B : Type 0) (f : A → B) (n : Names A) (m : Names B) → Renames f n m → (x : k.of A) → Reads f (l.map A B f) (read A n x) (read B m (k.map A B f x))

abbrev pub one_reader : Reader rest_kind tree_kind
one_reader = record { read = λ A n p. one_of p.0 p.1; natural = λ A B f n m told p. one_of-map A B f p.0 p.1 }

abbrev pub some_reader : Reader rest_kind trees_kind
some_reader = record { read = λ A n p. some_of p.0 p.1; natural = λ A B f n m told p. some_of-map A B f p.0 p.1 }

abbrev pub proper_reader : Reader rest_kind trees_kind
proper_reader = record { read = λ A n p. proper_of p.0 p.1; natural = λ A B f n m told p. proper_of-map A B f p.0 p.1 }

abbrev pub if_reader : Reader rest_kind trees_kind
if_reader = record { read = λ A n p. if_of p.0 p.1; natural = λ A B f n m told p. if_of-map A B f p.0 p.1 }

abbrev pub text_reader : Reader rest_kind text_kind
text_reader = record { read = λ A n p. error_text_of p.0 p.1; natural = λ A B f n m told p. error_text_of-map A B f p.0 p.1 }

abbrev pub named_tree_reader : Reader rest_kind named_tree_kind
named_tree_reader = record { read = λ A n p. named_tree_of p.0 p.1; natural = λ A B f n m told p. named_tree_of-map A B f p.0 p.1 }

abbrev pub syntax_reader : Reader rest_kind named_tree_kind
syntax_reader = record { read = λ A n p. syntax_of p.0 p.1; natural = λ A B f n m told p. syntax_of-map A B f p.0 p.1 }

abbrev pub lambda_reader : Reader rest_kind clause_kind
lambda_reader = record { read = λ A n p. lambda_of n.same p.0 p.1; natural = λ A B f n m told p. lambda_of-map A B f n.same m.same told.same p.0 p.1 }

abbrev pub case_lambda_reader : Reader rest_kind clauses_kind
case_lambda_reader = record { read = λ A n p. case_lambda_of n.same p.0 p.1; natural = λ A B f n m told p. case_lambda_of-map A B f n.same m.same told.same p.0 p.1 }

abbrev pub definition_reader : Reader rest_kind definition_kind
definition_reader = record { read = λ A n p. definition_of n.same p.0 p.1; natural = λ A B f n m told p. definition_of-map A B f n.same m.same told.same p.0 p.1 }

abbrev pub values_reader : Reader rest_kind formals_tree_kind
values_reader = record { read = λ A n p. values_of n.same p.0 p.1; natural = λ A B f n m told p. values_of-map A B f n.same m.same told.same p.0 p.1 }

abbrev pub record_reader : Reader rest_kind record_kind
record_reader = record { read = λ A n p. record_of n.same p.0 p.1; natural = λ A B f n m told p. record_of-map A B f n.same m.same told.same p.0 p.1 }

abbrev pub local_macros_reader : Reader rest_kind local_macros_kind
local_macros_reader = record { read = λ A n p. local_macros_of n.same p.0 p.1; natural = λ A B f n m told p. local_macros_of-map A B f n.same m.same told.same p.0 p.1 }

abbrev pub chosen_reader : Known → Reader rest_kind maybe_trees_kind
chosen_reader known = record { read = λ A n p. chosen_of n.strip known p.0 p.1; natural = λ A B f n m told p. chosen_of-map A B f n.strip m.strip told.strip known p.0 p.1 }

abbrev pub rules_reader : Reader parts_kind rules_kind
rules_reader = record { read = λ A n r. rules_of n r.parts r.tail; natural = λ A B f n m told r. rules_of-map A B f n m told r.parts r.tail }

-- ---- both sides read

abbrev pub identifiers : Names Ident
identifiers = record { same = same_ident; strip = symbol_of }

abbrev pub model_names : Names Name
model_names = record { same = same_name; strip = strip }

module _ (w : Era) where
  -- what was made by then, over the clock of now
  abbrev weaken : (k : Kind) (u : Clock) (x : k.of Ident) (m : Made k w u x) → k.of (Old w u)
  weaken k u x m = k.map (Old w m.clock) (Old w u) (λ p. (p.0, below_more w m.clock u m.earlier p.0 p.1)) m.made

  weakened : (k : Kind) (u : Clock) (x : k.of Ident) (m : Made k w u x) → k.map (Old w u) Ident (ident_of w u) (weaken k u x m) ≡ x
  weakened k u x m = k.fused (Old w m.clock) (Old w u) Ident (ident_of w u) (λ p. (p.0, below_more w m.clock u m.earlier p.0 p.1)) m.made ∙ m.same

  abbrev told : (u : Clock) → Names (Old w u)
  told u = record { same = λ p q. same_ident p.0 q.0; strip = λ p. symbol_of p.0 }

  old_told : (u : Clock) → Renames (ident_of w u) (told u) identifiers
  old_told u = record { same = λ p q. refl; strip = λ p. refl }

  pub read_law : (k l : Kind) (r : Reader k l) (here : Here) (fs : Frames) (s : ScopedState) → FineState w s → (in_body : Bool) (mine : List Number) (x : k.of Ident) → Made k w s.uses x
      → Agrees (Keeps w s) (Seen w l fs) (given (λ i. i) here (r.read Ident identifiers x) s) (given erase here (r.read Name model_names (k.map Ident Name (names s fs) x)) (view in_body mine s))
  read_law k l r here fs s f i n x m =
      read_both w l here fs s f i n (r.read (Old w s.uses) (told s.uses) (weaken k s.uses x m)) (r.read Ident identifiers x) (r.read Name model_names (k.map Ident Name (names s fs) x))
      (subst (λ (y : k.of Ident). Reads (ident_of w s.uses) (l.map (Old w s.uses) Ident (ident_of w s.uses)) (r.read (Old w s.uses) (told s.uses) (weaken k s.uses x m)) (r.read Ident identifiers y)) (weakened k s.uses x m)
      (r.natural (Old w s.uses) Ident (ident_of w s.uses) (told s.uses) identifiers (old_told s.uses) (weaken k s.uses x m)))
      (r.natural Ident Name (names s fs) identifiers model_names (named_in s fs) x)

  -- what stands behind a head, made by then
  pub made_rest : (u : Clock) (ts : Trees Ident) (tail : Tail Ident) → TreesAll (Below w u) ts → TailAll (Below w u) tail → Made rest_kind w u (ts, tail)
  made_rest u ts tail l e = record { clock = u; earlier = leq_itself u; made = (lift_trees (Below w u) ts l, lift_tail (Below w u) tail e); same = (let a = lifted_trees (Below w u) ts l in let b = lifted_tail (Below w u) tail e in λ j. (a j, b j)) }
