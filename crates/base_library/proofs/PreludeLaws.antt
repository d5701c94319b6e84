-- The sketches of the prelude are its macros.
use Rattle.std.proofs.Common.{◌≡◌, ℕ, List, [], ◌∷◌, map, Option, Some, None, refl, sym, ap, ◌∙◌, subst}
use Rattle.std.specs.Prelude.{Ok, codes}
use Rattle.std.specs.List.{AllByRecursion}
use Rattle.scheme_model.specs.Trees.{Tree, proper}
use Rattle.scheme_model.specs.ExpansionFaults.{Named, named_map}
use Rattle.scheme_model.specs.RulesShape.{Rule, rules_parts, check_rules, option_map}
use Rattle.scheme_model.specs.Ident.{Ident as Identifier, Written}
use Rattle.scheme_model.specs.Prelude as model
use Rattle.scheme_model.specs.Program.{prelude_unit}
use Rattle.syntax_tree.specs.Names.{Names}
use Rattle.syntax_tree.specs.Macros.{identifiers, AreIdents, IsEllipsisOf, AreRules}
use Rattle.syntax_tree.specs.Works.{StandsFor}
use Rattle.syntax_tree.specs.declared.trees.Work.{Work}
use Rattle.syntax_tree.specs.declared.trees.table.Region.{Region}
use Rattle.syntax_tree.specs.declared.rules.Rule as code_rule
use Rattle.base_library.specs.declared.sketch.Sketch.{Sketch}
use Rattle.base_library.specs.declared.macros.PreludeMacro.{PreludeMacro}
use Rattle.base_library.specs.Sketches.{made}
use Rattle.base_library.specs.Macros.{Each, pattern_of, written, IsMacro, AreMacros, AllChecked, RuleLies, AllLieIn}
use Rattle.base_library.specs.Sketched.{IsNamed, IsPair, IsSketched, pairs, Plain, sketch_plain, read_in, pair_of, macro_plain}

-- ---- the macros of the definitions have the shapes of rules

pub record IsReadable (p : model.PreludeMacro) : Type 0 where
  pub shape : rules_parts p.parts proper ≡ Ok (read_in p)
  pub own : (read_in p).ellipsis ≡ None
  pub checked : check_rules identifiers (written (read_in p)) (written (read_in p)).rules ≡ Ok tt

pub all_readable : AllByRecursion IsReadable model.prelude
unfolding model.prelude
all_readable = (record { shape = refl; own = refl; checked = refl }, (record { shape = refl; own = refl; checked = refl }, (record { shape = refl; own = refl; checked = refl }, (record { shape = refl; own = refl; checked = refl }, (record { shape = refl; own = refl; checked = refl }, (record { shape = refl; own = refl; checked = refl }, (record { shape = refl; own = refl; checked = refl }, (record { shape = refl; own = refl; checked = refl }, (record { shape = refl; own = refl; checked = refl }, (record { shape = refl; own = refl; checked = refl }, (record { shape = refl; own = refl; checked = refl }, (record { shape = refl; own = refl; checked = refl }, (record { shape = refl; own = refl; checked = refl }, (record { shape = refl; own = refl; checked = refl }, (record { shape = refl; own = refl; checked = refl }, (record { shape = refl; own = refl; checked = refl }, (record { shape = refl; own = refl; checked = refl }, (record { shape = refl; own = refl; checked = refl }, (record { shape = refl; own = refl; checked = refl }, (record { shape = refl; own = refl; checked = refl }, (record { shape = refl; own = refl; checked = refl }, tt)))))))))))))))))))))

-- ---- a macro of a sketch

named_idents : (names : Names) (ns : List ℕ) (is : List (Named (List ℕ))) → Each (IsNamed names) ns (map (λ i. i.name) is) → AreIdents names ns (map (named_map (Written prelude_unit)) is)
named_idents names [] [] h = tt
named_idents names [] (i ∷ is) h = absurd h
named_idents names (n ∷ ns) [] h = absurd h
named_idents names (n ∷ ns) (i ∷ is) h = (h.0, named_idents names ns is h.1)

pair_rules : (work : Work) (region : Region) (rs : List code_rule.Rule) (qs : List (Rule Identifier)) → Each (IsPair work region) rs (map pair_of qs) → AreRules work rs qs
pair_rules work region [] [] h = tt
pair_rules work region [] (q ∷ qs) h = absurd h
pair_rules work region (r ∷ rs) [] h = absurd h
pair_rules work region (r ∷ rs) (q ∷ qs) h =
    (record { head = Written prelude_unit (codes "_"); head_place = None; place = None; pattern = h.0.pattern; template = h.0.template }, pair_rules work region rs qs h.1)

pair_patterns : (work : Work) (region : Region) (rs : List code_rule.Rule) (qs : List (Rule Identifier)) → Each (IsPair work region) rs (map pair_of qs) → Each (λ (c : code_rule.Rule) (r : Rule Identifier). StandsFor work c.pattern (pattern_of r)) rs qs
pair_patterns work region [] [] h = tt
pair_patterns work region [] (q ∷ qs) h = absurd h
pair_patterns work region (r ∷ rs) [] h = absurd h
pair_patterns work region (r ∷ rs) (q ∷ qs) h = (h.0.pattern, pair_patterns work region rs qs h.1)

macro_is : (work : Work) (region : Region) (m : PreludeMacro) (s : Sketch) (p : model.PreludeMacro) → IsSketched work region m s → sketch_plain s ≡ macro_plain p → IsReadable p → IsMacro work m p
macro_is work region m s p k e r =
    let pairs_are = subst (λ (l : List (Tree Identifier × Tree Identifier)). Each (IsPair work region) m.rules.rules l) (ap (λ (v : Plain). v.rules) e) k.rules in record {
      name = k.name ∙ ap (λ (v : Plain). Some v.name) e;
      read = read_in p;
      shape = r.shape;
      checked = r.checked;
      rules = record {
        ellipsis = subst (λ (o : Option ℕ). IsEllipsisOf work.symbols o (option_map (Written prelude_unit) (read_in p).ellipsis)) (sym k.ellipsis)
            (subst (λ (x : Option (List ℕ)). IsEllipsisOf work.symbols None (option_map (Written prelude_unit) x)) (sym r.own) tt);
        literals = named_idents work.symbols m.rules.literals (read_in p).literals
            (subst (λ (l : List (List ℕ)). Each (IsNamed work.symbols) m.rules.literals l) (ap (λ (v : Plain). v.literals) e) k.literals);
        rules = pair_rules work region m.rules.rules (written (read_in p)).rules pairs_are;
      };
      patterns = pair_patterns work region m.rules.rules (written (read_in p)).rules pairs_are;
    }

-- ---- all macros

pub macros_are : (work : Work) (region : Region) (ms : List PreludeMacro) (ss : List Sketch) (ps : List model.PreludeMacro) → Each (IsSketched work region) ms ss → map sketch_plain ss ≡ map macro_plain ps → AllByRecursion IsReadable ps →
    AreMacros work ms ps
macros_are work region [] [] [] h e r = tt
macros_are work region [] [] (p ∷ ps) h e r = absurd cc
macros_are work region [] (s ∷ ss) ps h e r = absurd h
macros_are work region (m ∷ ms) [] ps h e r = absurd h
macros_are work region (m ∷ ms) (s ∷ ss) [] h e r = absurd cc
macros_are work region (m ∷ ms) (s ∷ ss) (p ∷ ps) h e r =
    let one : sketch_plain s ≡ macro_plain p = cc in
    let rest : map sketch_plain ss ≡ map macro_plain ps = cc in
    (macro_is work region m s p h.0 one r.0, macros_are work region ms ss ps h.1 rest r.1)

pub macros_checked : (work : Work) (ms : List PreludeMacro) (ps : List model.PreludeMacro) → AreMacros work ms ps → AllChecked work ms
macros_checked work [] [] h = tt
macros_checked work [] (p ∷ ps) h = absurd h
macros_checked work (m ∷ ms) [] h = absurd h
macros_checked work (m ∷ ms) (p ∷ ps) h = ((written h.0.read, h.0.rules, h.0.checked), macros_checked work ms ps h.1)

rules_lie : (work : Work) (region : Region) (rs : List code_rule.Rule) (ps : List (Tree Identifier × Tree Identifier)) → Each (IsPair work region) rs ps → AllByRecursion (RuleLies work region) rs
rules_lie work region [] [] h = tt
rules_lie work region [] (p ∷ ps) h = absurd h
rules_lie work region (r ∷ rs) [] h = absurd h
rules_lie work region (r ∷ rs) (p ∷ ps) h = (h.0.lie, rules_lie work region rs ps h.1)

pub macros_lie : (work : Work) (region : Region) (ms : List PreludeMacro) (ss : List Sketch) → Each (IsSketched work region) ms ss → AllLieIn work region ms
macros_lie work region [] [] h = tt
macros_lie work region [] (s ∷ ss) h = absurd h
macros_lie work region (m ∷ ms) [] h = absurd h
macros_lie work region (m ∷ ms) (s ∷ ss) h = (rules_lie work region m.rules.rules (pairs (made s.steps.now)) h.0.rules, macros_lie work region ms ss h.1)
