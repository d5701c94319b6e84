-- Leaves of cores stand under other numbers for what they stood for.
use Rattle.std.proofs.Common.{◌≡◌, ℕ, List, [], ◌∷◌, map, Option, Some, None, sym, ap, ◌∙◌, subst}
use Rattle.scheme_model.specs.ExpansionFaults.{Named}
use Rattle.scheme_model.specs.Trees.{list, name, tree}
use Rattle.scheme_model.specs.Ident.{Ident as Identifier}
use Rattle.scheme_model.specs.RulesShape.{Rule, Rules, option_map}
use Rattle.scheme_model.specs.Cores as model
use Rattle.syntax_tree.specs.Macros.{AreIdents, IsEllipsisOf, IsRule, AreRules, RulesFor}
use Rattle.syntax_tree.specs.declared.rules.Rule as code_rule
use Rattle.syntax_tree.specs.declared.rules.Rules as code_rules
use Rattle.syntax_tree.specs.declared.trees.Work.{Work}
use Rattle.core_tree.specs.Names.{AllMatch, IsBound, IsBinder, IsTarget, IsLeaf, IsMacro, IsField}
use Rattle.core_tree.specs.declared.cores.Binder.{Binder}
use Rattle.core_tree.specs.declared.cores.Target.{Target}
use Rattle.core_tree.specs.declared.cores.RuleLeaf.{RuleLeaf}
use Rattle.core_tree.specs.declared.cores.MacroDef.{MacroDef}
use Rattle.core_tree.specs.declared.cores.FieldUse.{FieldUse}
use Rattle.renumbering_laws.specs.Moving.{move_named, move_rule, move_rules}
use Rattle.renumbering_laws.specs.Renumbering as new
use Rattle.renumbering_laws.specs.Renumbering.{Renumbering, place, ident, change}
use Rattle.moves.specs.Works.{WorkMoves}
use Rattle.moves.proofs.EntryLaws.{ident_there, meaning_there}
use Rattle.moves.proofs.StandLaws.{stands_there}
use Rattle.moved_numbers.specs.Leaves.{binder_as, target_as, leaf_as, field_as}
use Rattle.moved_numbers.specs.Standing.{StandsOn}
use Rattle.moved_numbers.proofs.Fronts.{each_there}

-- definitions keep their numbers
abbrev pub KeepsDefinitions : Renumbering → Type 0
KeepsDefinitions r = (u n : ℕ) → r.definition u n ≡ n

pub field_there : (r : Renumbering) (u : FieldUse) (m : model.FieldUse) → IsField u m → IsField (field_as r u) (new.field_use r m)
field_there r u m h = record { field = h.field; place = ap (place r) h.place }

module _ (r : Renumbering) (keeps : KeepsDefinitions r) (old now : Work) (moves : WorkMoves r old now) where
  -- ---- the rules of a macro

  idents_there : (ns : List ℕ) (is : List (Named Identifier)) → AreIdents old.symbols ns is → AreIdents now.symbols ns (map (move_named (change r)) is)
  idents_there [] [] h = tt
  idents_there [] (i ∷ is) h = absurd h
  idents_there (n ∷ ns) [] h = absurd h
  idents_there (n ∷ ns) (i ∷ is) h = (ident_there r old.symbols now.symbols moves.names n i.name h.0, idents_there ns is h.1)

  ellipsis_there : (o : Option ℕ) (p : Option Identifier) → IsEllipsisOf old.symbols o p → IsEllipsisOf now.symbols o (option_map (ident r) p)
  ellipsis_there None None h = tt
  ellipsis_there None (Some i) h = absurd h
  ellipsis_there (Some n) None h = absurd h
  ellipsis_there (Some n) (Some i) h = ident_there r old.symbols now.symbols moves.names n i h

  rule_there : (n : code_rule.Rule) (m : Rule Identifier) → IsRule old n m → IsRule now n (move_rule (change r) m)
  rule_there n m h = record {
    head = ident r h.head;
    head_place = place r h.head_place;
    place = place r h.place;
    pattern = stands_there r old.trees.nodes now.trees.nodes old.symbols now.symbols moves.trees.nodes moves.names (list (tree (name h.head h.head_place) m.parts) m.tail h.place) n.pattern.number h.pattern;
    template = stands_there r old.trees.nodes now.trees.nodes old.symbols now.symbols moves.trees.nodes moves.names m.template n.template.number h.template;
  }

  each_rule_there : (ns : List code_rule.Rule) (ms : List (Rule Identifier)) → AreRules old ns ms → AreRules now ns (map (move_rule (change r)) ms)
  each_rule_there [] [] h = tt
  each_rule_there [] (m ∷ ms) h = absurd h
  each_rule_there (n ∷ ns) [] h = absurd h
  each_rule_there (n ∷ ns) (m ∷ ms) h = (rule_there n m h.0, each_rule_there ns ms h.1)

  pub rules_there : (n : code_rules.Rules) (m : Rules Identifier) → RulesFor old n m → RulesFor now n (move_rules (change r) m)
  rules_there n m h = record {
    ellipsis = ellipsis_there n.ellipsis m.ellipsis h.ellipsis;
    literals = idents_there n.literals m.literals h.literals;
    rules = each_rule_there n.rules m.rules h.rules;
  }

  -- ---- in a form of a unit

  module _ (unit form : ℕ) where
    bound_there : (n : ℕ) (b : model.Bound) → IsBound unit form n b → IsBound (r.unit unit) (r.form unit form) n (new.bound r b)
    bound_there n (model.LocalNumber v) h = ap (new.number r) h
    bound_there n (model.Definition u d) h = (ap r.unit h.0, keeps u d ∙ h.1)

    pub binder_there : (b : Binder) (m : model.Binder) → IsBinder old.symbols unit form b m → IsBinder now.symbols (r.unit unit) (r.form unit form) (binder_as r b) (new.binder r m)
    binder_there b m h = record {
      number = bound_there b.number m.bound h.number;
      ident = ident_there r old.symbols now.symbols moves.names b.ident m.ident h.ident;
      place = ap (place r) h.place;
    }

    pub binders_there : (bs : List Binder) (ms : List model.Binder) → AllMatch (IsBinder old.symbols unit form) bs ms →
        AllMatch (IsBinder now.symbols (r.unit unit) (r.form unit form)) (map (binder_as r) bs) (map (new.binder r) ms)
    binders_there bs ms h =
        each_there (IsBinder old.symbols unit form) (IsBinder now.symbols (r.unit unit) (r.form unit form)) (binder_as r) (new.binder r) binder_there bs ms h

    pub target_there : (t : Target) (m : model.Target) → IsTarget old.symbols unit form t m → IsTarget now.symbols (r.unit unit) (r.form unit form) (target_as r t) (new.target r m)
    target_there t m h = record {
      meaning = meaning_there r old.symbols now.symbols moves.names unit form t.meaning m.meaning h.meaning;
      ident = ident_there r old.symbols now.symbols moves.names t.ident m.ident h.ident;
      place = ap (place r) h.place;
    }

    leaf_there : (l : RuleLeaf) (m : model.RuleLeaf) → IsLeaf old.symbols unit form l m → IsLeaf now.symbols (r.unit unit) (r.form unit form) (leaf_as r l) (new.rule_leaf r m)
    leaf_there l m h = record { target = target_there l.target m.target h.target; literal = h.literal }

    -- a macro whose binder and leaves have changed
    pub macro_there : (d e : MacroDef) (m : model.MacroDef) → e.binder ≡ binder_as r d.binder → e.rules ≡ d.rules → e.leaves.items ≡ map (leaf_as r) d.leaves.items → IsMacro old unit form d m →
        IsMacro now (r.unit unit) (r.form unit form) e (new.macro_of r m)
    macro_there d e m binder rules leaves h = record {
      binder = subst (λ (b : Binder). IsBinder now.symbols (r.unit unit) (r.form unit form) b (new.binder r m.binder)) (sym binder) (binder_there d.binder m.binder h.binder);
      rules = subst (λ (n : code_rules.Rules). RulesFor now n (move_rules (change r) m.rules)) (sym rules) (rules_there d.rules m.rules h.rules);
      leaves = subst (λ (ls : List RuleLeaf). AllMatch (IsLeaf now.symbols (r.unit unit) (r.form unit form)) ls (map (new.rule_leaf r) m.leaves)) (sym leaves)
          (each_there (IsLeaf old.symbols unit form) (IsLeaf now.symbols (r.unit unit) (r.form unit form)) (leaf_as r) (new.rule_leaf r) leaf_there d.leaves.items m.leaves h.leaves);
    }

pub macro_on : (r : Renumbering) (keeps : KeepsDefinitions r) (d e : MacroDef) → e.binder ≡ binder_as r d.binder → e.rules ≡ d.rules → e.leaves.items ≡ map (leaf_as r) d.leaves.items → StandsOn r IsMacro (new.macro_of r) d e
macro_on r keeps d e binder rules leaves old now unit form m moves h = macro_there r keeps old now moves unit form d e m binder rules leaves h
