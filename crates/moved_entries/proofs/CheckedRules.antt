-- Rules that were checked are so under other numbers: the check sees a list that would be read as them.
use Rattle.std.proofs.Common.{◌≡◌, List, [], ◌∷◌, Option, Some, None, Result, Ok, Err, refl, sym, ap, ◌∙◌, subst}
use Rattle.scheme_model.specs.Trees.{name, list, Trees, no_trees, tree, proper}
use Rattle.scheme_model.specs.ExpansionFaults.{Named, Fault, ◌>>◌}
use Rattle.scheme_model.specs.Ident.{Ident, Written, Inserted}
use Rattle.scheme_model.specs.RulesShape.{Rule, Rules, check_rules, bad, rules_in, rules_behind, rules_parts, rules_of}
use Rattle.scheme_model.specs.Shapes.{names_of}
use Rattle.syntax_tree.specs.Macros.{identifiers}
use Rattle.renumbering_laws.specs.Moving.{move_trees, move_rules}
use Rattle.renumbering_laws.specs.Renumbering.{Renumbering, IsOneToOne, ident, change}
use Rattle.renumbering_laws.proofs.MovedParts.{Moves, move_result}
use Rattle.renumbering_laws.proofs.MovedRules.{rules_of-map}
use Rattle.renumbering_laws.proofs.MovingSteps.{reads_is}
use Rattle.renumbering_laws.proofs.OneToOne.{ident_moved}

-- ---- a list that is read as these rules

abbrev head : Ident
head = Written 0 []

abbrev name_trees : List (Named Ident) → Trees Ident
name_trees [] = no_trees
name_trees (n ∷ ns) = tree (name n.name n.occ) (name_trees ns)

abbrev rule_trees : List (Rule Ident) → Trees Ident
rule_trees [] = no_trees
rule_trees (r ∷ rs) = tree (list (tree (list (tree (name head None) r.parts) r.tail None) (tree r.template no_trees)) proper None) (rule_trees rs)

abbrev behind : Rules Ident → Trees Ident
behind r = tree (list (name_trees r.literals) proper None) (rule_trees r.rules)

abbrev own_first : Option Ident → Trees Ident → Trees Ident
own_first None ts = ts
own_first (Some i) ts = tree (name i None) ts

abbrev trees_of : Rules Ident → Trees Ident
trees_of r = own_first r.ellipsis (behind r)

names_read : (ns : List (Named Ident)) → names_of (name_trees ns) ≡ Ok ns
names_read [] = refl
names_read (n ∷ ns) = ap (λ (q : Result (List (Named Ident)) (Fault Ident)). q >> λ ms. Ok (n ∷ ms)) (names_read ns)

rules_read : (rs : List (Rule Ident)) → rules_in (rule_trees rs) ≡ Ok rs
rules_read [] = refl
rules_read (r ∷ rs) = ap (λ (q : Result (List (Rule Ident)) (Fault Ident)). q >> λ ms. Ok (r ∷ ms)) (rules_read rs)

behind_read : (r : Rules Ident) → rules_behind r.ellipsis (behind r) ≡ Ok r
behind_read r =
    ap (λ (q : Result (List (Named Ident)) (Fault Ident)). bad q >> λ ls. rules_in (rule_trees r.rules) >> λ rs. Ok (record { ellipsis = r.ellipsis; literals = ls; rules = rs })) (names_read r.literals)
    ∙ ap (λ (q : Result (List (Rule Ident)) (Fault Ident)). q >> λ rs. Ok (record { ellipsis = r.ellipsis; literals = r.literals; rules = rs })) (rules_read r.rules)

parts_read : (r : Rules Ident) → rules_parts (trees_of r) proper ≡ Ok r
parts_read r = by r.ellipsis refl
  where
    by : (o : Option Ident) → r.ellipsis ≡ o → rules_parts (own_first o (behind r)) proper ≡ Ok r
    by None e = ap (λ (p : Option Ident). rules_behind p (behind r)) (sym e) ∙ behind_read r
    by (Some i) e = ap (λ (p : Option Ident). rules_behind p (behind r)) (sym e) ∙ behind_read r

-- ---- what is known of rules that are read

then_ok : {X : Type 0} (q : Result X (Fault Ident)) (f : X → Result (Rules Ident) (Fault Ident)) (r : Rules Ident) → (q >> f) ≡ Ok r → (x : X) × (q ≡ Ok x) × (f x ≡ Ok r)
then_ok (Ok x) f r h = (x, refl, h)
then_ok (Err e) f r h = absurd cc

same_ok : (q : Result (Rules Ident) (Fault Ident)) (r s : Rules Ident) → q ≡ Ok r → q ≡ Ok s → r ≡ s
same_ok q r s h k = cc

read_checked : (ts : Trees Ident) (r : Rules Ident) → rules_of identifiers ts proper ≡ Ok r → check_rules identifiers r r.rules ≡ Ok tt
read_checked ts r h =
    let a = then_ok (rules_parts ts proper) (λ (q : Rules Ident). check_rules identifiers q q.rules >> λ done. Ok q) r h in
    let b = then_ok (check_rules identifiers a.0 a.0.rules) (λ done. Ok a.0) r a.2 in
    subst (λ (q : Rules Ident). check_rules identifiers q q.rules ≡ Ok tt) (same_ok (Ok a.0) a.0 r refl b.2) b.1

checked_read : (r : Rules Ident) → check_rules identifiers r r.rules ≡ Ok tt → rules_of identifiers (trees_of r) proper ≡ Ok r
checked_read r h =
    ap (λ (q : Result (Rules Ident) (Fault Ident)). q >> λ s. check_rules identifiers s s.rules >> λ done. Ok s) (parts_read r)
    ∙ ap (λ (q : Result (Unit {0}) (Fault Ident)). q >> λ done. Ok r) h

-- ---- under other numbers

pub told_apart : (r : Renumbering) → IsOneToOne r → Moves (change r) identifiers identifiers
told_apart r one = record { same = ident_moved r one; strip = same_symbol r }
  where
    same_symbol : (r : Renumbering) (i : Ident) → identifiers.strip (ident r i) ≡ identifiers.strip i
    same_symbol r (Written u s) = refl
    same_symbol r (Inserted i k) = same_symbol r i

pub still_checked : (r : Renumbering) → IsOneToOne r → (rules : Rules Ident) → check_rules identifiers rules rules.rules ≡ Ok tt → check_rules identifiers (move_rules (change r) rules) (move_rules (change r) rules).rules ≡ Ok tt
still_checked r one rules h =
    let e = reads_is (rules_of-map Ident Ident (change r) identifiers identifiers (told_apart r one) (trees_of rules) proper) in
    read_checked (move_trees (change r) (trees_of rules)) (move_rules (change r) rules) (e ∙ ap (λ (q : Result (Rules Ident) (Fault Ident)). move_result (change r) (move_rules (change r)) q) (checked_read rules h))
