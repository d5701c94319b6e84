-- The macros of the prelude, added from the last to the first.
use Rattle.std.proofs.Common.{◌≡◌, ◌==◌, ℕ, ◌+◌, ◌<◌, List, [], ◌∷◌, ◌++◌, map, length, take, get_or, slice_get, Bool, true, false, cond, not, Option, Some, None, Result, Ok, Err, refl, sym, ap, ◌∙◌, subst, append_assoc, append-nil, length-append, add-one, eq-eqb, arith}
use Rattle.std.proofs.lemmas.Bool.{ne_eqb}
use Rattle.std.proofs.Math.Seq.{take-suc}
use Rattle.std.specs.Prelude.{◌&&◌}
use Rattle.std.specs.List.{list_any}
use Rattle.std.specs.Str.{bytes_eq}
use Rattle.scheme_model.specs.declared.Occ.{Occ}
use Rattle.scheme_model.specs.ExpansionFaults.{Named, named_map, Fault}
use Rattle.scheme_model.specs.Ident.{Ident, Written}
use Rattle.scheme_model.specs.Prelude as model
use Rattle.scheme_model.specs.Prelude.{prelude}
use Rattle.scheme_model.specs.Program.{prelude_unit}
use Rattle.scheme_model.specs.Order.{Transformer}
use Rattle.scheme_model.specs.RulesShape.{Rule, Rules, rules_parts, check_rules}
use Rattle.scheme_model.specs.Substitution.{defined_in}
use Rattle.scheme_model.specs.ScopedExpansion.{Frames, ScopedState}
use Rattle.scheme_model.specs.ScopedProgram.{prelude_rules}
use Rattle.scheme_model.specs.Trees.{proper}
use Rattle.syntax_tree.specs.Macros.{identifiers, RulesFor}
use Rattle.syntax_tree.specs.Names.{AreToldApart, KeepsNames}
use Rattle.syntax_tree.specs.Works.{StandsFor, KeepsTrees}
use Rattle.syntax_tree.specs.declared.rules.Rule as code_rule
use Rattle.syntax_tree.specs.declared.rules.Rules as code_rules
use Rattle.syntax_tree.specs.declared.trees.Work.{Work}
use Rattle.rules_check.specs.Gathered.{AreUnplaced}
use Rattle.base_library.specs.Macros.{Each, AreMacros, pattern_of, written}
use Rattle.base_library.specs.declared.macros.PreludeMacro.{PreludeMacro}
use Rattle.syntax_tree.specs.Meant.{IsSymbol}
use Rattle.unit_scopes.specs.Editions.{EditionsTell}
use Rattle.unit_scopes.specs.Preluded.{prelude_state, prelude_with, prelude_begun, CanAdd, IsPrelude}
use Rattle.unit_scopes.specs.Units.{UnitStands}
use Rattle.unit_scopes.specs.declared.scope.UnitScope.{UnitScope}
use Rattle.unit_scopes.proofs.GrowthStands.{rules_on}
use Rattle.unit_scopes.proofs.PreludeLaws.{prelude_is, not_named}
use Rattle.standard_scopes.specs.Begun.{rules_by_edition, BeginsWith}

-- ---- what holds of each macro by itself

none_at : Option Occ → Bool
none_at None = true
none_at (Some o) = false

unplaced : List (Named (List ℕ)) → Bool
unplaced [] = true
unplaced (l ∷ ls) = none_at l.occ && unplaced ls

rules_unplaced : Result (Rules (List ℕ)) (Fault (List ℕ)) → Bool
rules_unplaced (Ok r) = unplaced r.literals
rules_unplaced (Err e) = false

-- its literals have no places, and no macro behind it has its name
is_good : model.PreludeMacro → List model.PreludeMacro → Bool
is_good m ms = rules_unplaced (rules_parts m.parts proper) && not (list_any (λ (k : model.PreludeMacro). bytes_eq k.name m.name) ms)

all_good : List model.PreludeMacro → Bool
all_good [] = true
all_good (m ∷ ms) = is_good m ms && all_good ms

prelude_good : all_good prelude ≡ true
unfolding prelude all_good is_good rules_unplaced unplaced none_at
prelude_good = refl

both_first : (a b : Bool) → (a && b) ≡ true → a ≡ true
both_first true b h = refl
both_first false b h = h

both_second : (a b : Bool) → (a && b) ≡ true → b ≡ true
both_second true b h = h
both_second false b h = absurd cc

good_at : (front : List model.PreludeMacro) (m : model.PreludeMacro) (ms : List model.PreludeMacro) → all_good (front ++ m ∷ ms) ≡ true → is_good m ms ≡ true
unfolding all_good
good_at [] m ms h = both_first (is_good m ms) (all_good ms) h
good_at (k ∷ front) m ms h = good_at front m ms (both_second (is_good k (front ++ m ∷ ms)) (all_good (front ++ m ∷ ms)) h)

none_there : (o : Option Occ) → none_at o ≡ true → o ≡ None
unfolding none_at
none_there None h = refl
none_there (Some o) h = absurd cc

are_unplaced : (ls : List (Named (List ℕ))) → unplaced ls ≡ true → AreUnplaced (map (named_map (Written prelude_unit)) ls)
unfolding unplaced
are_unplaced [] h = tt
are_unplaced (l ∷ ls) h = (none_there l.occ (both_first (none_at l.occ) (unplaced ls) h), are_unplaced ls (both_second (none_at l.occ) (unplaced ls) h))

not_true : (b : Bool) → not b ≡ true → b ≡ false
not_true true h = absurd cc
not_true false h = refl

-- ---- macros that are still to be added

pub record HasRules (work : Work) (m : PreludeMacro) (p : model.PreludeMacro) : Type 0 where
  pub name : slice_get work.symbols.symbols m.name ≡ Some p.name
  pub read : Rules (List ℕ)
  pub shape : rules_parts p.parts proper ≡ Ok read
  pub checked : check_rules identifiers (written read) (written read).rules ≡ Ok tt
  pub rules : RulesFor work m.rules (written read)

have_rules : (work : Work) (ms : List PreludeMacro) (ps : List model.PreludeMacro) → AreMacros work ms ps → Each (HasRules work) ms ps
have_rules work [] [] h = h
have_rules work [] (p ∷ ps) h = h
have_rules work (m ∷ ms) [] h = h
have_rules work (m ∷ ms) (p ∷ ps) h = let x = h.0 in (record { name = x.name; read = x.read; shape = x.shape; checked = x.checked; rules = x.rules }, have_rules work ms ps h.1)

module _ (old new : Work) (trees : KeepsTrees old new) (names : KeepsNames old.symbols new.symbols) (apart : AreToldApart new.symbols.idents) (told : AreToldApart new.symbols.symbols) where
  has_on : (m : PreludeMacro) (p : model.PreludeMacro) → HasRules old m p → HasRules new m p
  has_on m p h = record { name = names.symbols m.name p.name h.name; read = h.read; shape = h.shape; checked = h.checked; rules = rules_on old new trees names apart told m.rules (written h.read) h.rules }

  all_on : (ms : List PreludeMacro) (ps : List model.PreludeMacro) → Each (HasRules old) ms ps → Each (HasRules new) ms ps
  all_on [] [] h = h
  all_on [] (p ∷ ps) h = h
  all_on (m ∷ ms) [] h = h
  all_on (m ∷ ms) (p ∷ ps) h = (has_on m p h.0, all_on ms ps h.1)

-- the last of macros, and those in front of it
pub record Last (work : Work) (ms : List PreludeMacro) (m : PreludeMacro) (ps : List model.PreludeMacro) : Type 0 where
  pub front : List model.PreludeMacro
  pub last : model.PreludeMacro
  pub whole : ps ≡ front ++ last ∷ []
  pub fronts : Each (HasRules work) ms front
  pub is : HasRules work m last

last_of : (work : Work) (ms : List PreludeMacro) (m : PreludeMacro) (ps : List model.PreludeMacro) → Each (HasRules work) (ms ++ m ∷ []) ps → Last work ms m ps
last_of work [] m [] h = absurd h
last_of work [] m (p ∷ []) h = record { front = []; last = p; whole = refl; fronts = tt; is = h.0 }
last_of work [] m (p ∷ (q ∷ ps)) h = absurd h.1
last_of work (k ∷ ms) m [] h = absurd h
last_of work (k ∷ ms) m (p ∷ ps) h =
    let x = last_of work ms m ps h.1 in
    record { front = p ∷ x.front; last = x.last; whole = ap (λ (qs : List model.PreludeMacro). p ∷ qs) x.whole; fronts = (h.0, x.fronts); is = x.is }

no_more : (work : Work) (ps : List model.PreludeMacro) → Each (HasRules work) [] ps → ps ≡ []
no_more work [] h = refl
no_more work (p ∷ ps) h = absurd h

-- these are still to be added, and the others were
pub record Adding (begun : Work) (first : UnitScope) (work : Work) (scope : UnitScope) (ms : List PreludeMacro) : Type 0 where
  pub front : List model.PreludeMacro
  pub back : List model.PreludeMacro
  pub whole : prelude ≡ front ++ back
  pub are : Each (HasRules work) ms front
  pub stands : UnitStands work scope ([] ∷ []) (prelude_state back) []
  pub count : scope.macros.editions ≡ first.macros.editions + length back
  pub tells : (e : ℕ → Option (Transformer Frames Ident)) → BeginsWith e → first.macros.editions ≡ 0 → EditionsTell begun.symbols first.macros prelude_begun e → EditionsTell work.symbols scope.macros (prelude_state back) e

pub adding_begins : (work : Work) (scope : UnitScope) (ms : List PreludeMacro) → AreMacros work ms prelude → UnitStands work scope ([] ∷ []) prelude_begun [] → Adding work scope work scope ms
adding_begins work scope ms are stands = record {
  front = prelude;
  back = [];
  whole = sym (append-nil prelude);
  are = have_rules work ms prelude are;
  stands = stands;
  count = omega arith;
  tells = λ e begins none h. h;
}

module _ (begun : Work) (first : UnitScope) (work : Work) (scope : UnitScope) (h : Adding begun first work scope []) where
  all_back : h.back ≡ prelude
  all_back = sym (h.whole ∙ ap (λ (ps : List model.PreludeMacro). ps ++ h.back) (no_more work h.front h.are))

  pub all_added : UnitStands work scope ([] ∷ []) (prelude_state prelude) []
  all_added = subst (λ (ps : List model.PreludeMacro). UnitStands work scope ([] ∷ []) (prelude_state ps) []) all_back h.stands

  pub all_counted : first.macros.editions ≡ 0 → scope.macros.editions ≡ length prelude
  all_counted none = let count = h.count in let same : length h.back ≡ length prelude = ap (λ (ps : List model.PreludeMacro). length ps) all_back in omega (arith, count, none, same)

  pub all_told : (e : ℕ → Option (Transformer Frames Ident)) → BeginsWith e → first.macros.editions ≡ 0 → EditionsTell begun.symbols first.macros prelude_begun e → EditionsTell work.symbols scope.macros (prelude_state prelude) e
  all_told e begins none tells = subst (λ (ps : List model.PreludeMacro). EditionsTell work.symbols scope.macros (prelude_state ps) e) all_back (h.tells e begins none tells)

-- the edition of one of them
edition_at : (front : List model.PreludeMacro) (m : model.PreludeMacro) (back : List model.PreludeMacro) → rules_by_edition (front ++ m ∷ back) (length back + 1) ≡ Some (record { env = []; rules = prelude_rules (rules_parts m.parts proper) })
edition_at [] m back = ap (λ (b : Bool). cond b (Some (record { env = []; rules = prelude_rules (rules_parts m.parts proper) })) (rules_by_edition back (length back + 1))) (eq-eqb (length back + 1) (length back + 1) refl)
edition_at (k ∷ front) m back =
    let longer : length (front ++ m ∷ back) ≡ length front + (length back + 1) = omega (arith, length-append front (m ∷ back)) in
    let other : ((length back + 1) == (length (front ++ m ∷ back) + 1)) ≡ false = ne_eqb (length back + 1) (length (front ++ m ∷ back) + 1) (λ (e : length back + 1 ≡ length (front ++ m ∷ back) + 1). omega (arith, e, longer)) in
    ap (λ (b : Bool). cond b (Some (record { env = []; rules = prelude_rules (rules_parts k.parts proper) })) (rules_by_edition (front ++ m ∷ back) (length back + 1))) other ∙ edition_at front m back

module _ (begun : Work) (first : UnitScope) (work : Work) (scope : UnitScope) (ms : List PreludeMacro) (m : PreludeMacro) (h : Adding begun first work scope (ms ++ m ∷ [])) where
  pub next : Last work ms m h.front
  next = last_of work ms m h.front h.are

  behind : (x : Last work ms m h.front) → prelude ≡ x.front ++ x.last ∷ h.back
  behind x = h.whole ∙ (ap (λ (ps : List model.PreludeMacro). ps ++ h.back) x.whole ∙ append_assoc x.front (x.last ∷ []) h.back)

  good : (x : Last work ms m h.front) → is_good x.last h.back ≡ true
  good x = good_at x.front x.last h.back (ap all_good (sym (behind x)) ∙ prelude_good)

  pub unnamed : (x : Last work ms m h.front) → list_any (λ (k : model.PreludeMacro). bytes_eq k.name x.last.name) h.back ≡ false
  unfolding is_good
  unnamed x = not_true (list_any (λ (k : model.PreludeMacro). bytes_eq k.name x.last.name) h.back)
      (both_second (rules_unplaced (rules_parts x.last.parts proper)) (not (list_any (λ (k : model.PreludeMacro). bytes_eq k.name x.last.name) h.back)) (good x))

  pub literals : (x : Last work ms m h.front) → AreUnplaced (written x.is.read).literals
  unfolding is_good rules_unplaced
  literals x = are_unplaced x.is.read.literals
      (sym (ap rules_unplaced x.is.shape)
      ∙ both_first (rules_unplaced (rules_parts x.last.parts proper)) (not (list_any (λ (k : model.PreludeMacro). bytes_eq k.name x.last.name) h.back)) (good x))

  pub can_add : (x : Last work ms m h.front) → CanAdd work scope m.name
  can_add x = record { state = prelude_state h.back; text = x.last.name; stands = h.stands; is = prelude_is h.back; spelt = x.is.name; undefined = not_named h.back x.last.name (unnamed x) }

  -- it has the next edition
  edition : (x : Last work ms m h.front) (e : ℕ → Option (Transformer Frames Ident)) → BeginsWith e → first.macros.editions ≡ 0 → e (scope.macros.editions + 1) ≡ Some (record { env = []; rules = written x.is.read })
  edition x e begins none =
      let count = h.count in
      let place : scope.macros.editions + 1 ≡ length h.back + 1 = omega (arith, count, none) in
      let whole : length prelude ≡ length x.front + (length h.back + 1) = ap (λ (ps : List model.PreludeMacro). length ps) (behind x) ∙ omega (arith, length-append x.front (x.last ∷ h.back)) in
      ap e place ∙ (begins (length h.back + 1) (omega (arith, whole)) ∙ (ap (λ (ps : List model.PreludeMacro). rules_by_edition ps (length h.back + 1)) (behind x)
      ∙ (edition_at x.front x.last h.back ∙ ap (λ r. Some (record { env = []; rules = prelude_rules r })) x.is.shape)))

  pub one_added : (x : Last work ms m h.front) (new : Work) (after : UnitScope) → KeepsTrees work new → KeepsNames work.symbols new.symbols → AreToldApart new.symbols.idents → AreToldApart new.symbols.symbols →
      UnitStands new after ([] ∷ []) (prelude_with x.last.name (written x.is.read) (prelude_state h.back)) [] → after.macros.editions ≡ scope.macros.editions + 1 →
      ((e : ℕ → Option (Transformer Frames Ident)) → EditionsTell work.symbols scope.macros (prelude_state h.back) e → e (scope.macros.editions + 1) ≡ Some (record { env = []; rules = written x.is.read }) →
      EditionsTell new.symbols after.macros (prelude_with x.last.name (written x.is.read) (prelude_state h.back)) e) → Adding begun first new after ms
  one_added x new after trees names apart told stands next_edition tells = record {
    front = x.front;
    back = x.last ∷ h.back;
    whole = behind x;
    are = all_on work new trees names apart told ms x.front x.fronts;
    stands = subst (λ r. UnitStands new after ([] ∷ []) (prelude_with x.last.name (prelude_rules r) (prelude_state h.back)) []) (sym x.is.shape) stands;
    count = let count = h.count in omega (arith, next_edition, count);
    tells = λ e begins none before.
        subst (λ r. EditionsTell new.symbols after.macros (prelude_with x.last.name (prelude_rules r) (prelude_state h.back)) e) (sym x.is.shape) (tells e (h.tells e begins none before) (edition x e begins none));
  }

  pub can_add_last : CanAdd work scope m.name
  can_add_last = can_add next

  pub last_rules : (r : Rules Ident) × RulesFor work m.rules r
  last_rules = (written next.is.read, next.is.rules)

  -- the last is added by this call
  pub last_added : (new : Work) (after : UnitScope) → KeepsTrees work new → KeepsNames work.symbols new.symbols → AreToldApart new.symbols.idents → AreToldApart new.symbols.symbols →
      ((s : ScopedState) (x : List ℕ) (r : Rules Ident) → UnitStands work scope ([] ∷ []) s [] → IsPrelude s → IsSymbol work.symbols m.name x → defined_in s.table prelude_unit (Written prelude_unit x) ≡ None →
      RulesFor work m.rules r → check_rules identifiers r r.rules ≡ Ok tt → AreUnplaced r.literals → UnitStands new after ([] ∷ []) (prelude_with x r s) []) →
      after.macros.editions ≡ scope.macros.editions + 1 →
      ((s : ScopedState) (x : List ℕ) (r : Rules Ident) (e : ℕ → Option (Transformer Frames Ident)) → UnitStands work scope ([] ∷ []) s [] → IsPrelude s → IsSymbol work.symbols m.name x → defined_in s.table prelude_unit (Written prelude_unit x) ≡ None →
      EditionsTell work.symbols scope.macros s e → e (scope.macros.editions + 1) ≡ Some (record { env = []; rules = r }) → EditionsTell new.symbols after.macros (prelude_with x r s) e) →
      Adding begun first new after ms
  last_added new after trees names apart told added next_edition tells =
      let x = next in
      let none = not_named h.back x.last.name (unnamed x) in
      one_added x new after trees names apart told (added (prelude_state h.back) x.last.name (written x.is.read) h.stands (prelude_is h.back) x.is.name none x.is.rules x.is.checked (literals x)) next_edition
      (λ e before edition. tells (prelude_state h.back) x.last.name (written x.is.read) e h.stands (prelude_is h.back) x.is.name none before edition)

pub adding_same : (begun : Work) (first : UnitScope) (work : Work) (scope : UnitScope) (xs ys : List PreludeMacro) → xs ≡ ys → Adding begun first work scope xs → Adding begun first work scope ys
adding_same begun first work scope xs ys same h = subst (λ (ms : List PreludeMacro). Adding begun first work scope ms) same h

-- no macro has the edition 0
nothing_first : (ms : List model.PreludeMacro) → rules_by_edition ms 0 ≡ None
nothing_first [] = refl
nothing_first (m ∷ ms) =
    ap (λ (b : Bool). cond b (Some (record { env = []; rules = prelude_rules (rules_parts m.parts proper) })) (rules_by_edition ms 0)) (ne_eqb 0 (length ms + 1) (λ (e : 0 ≡ length ms + 1). omega (arith, e))) ∙ nothing_first ms

pub none_told : (e : ℕ → Option (Transformer Frames Ident)) → BeginsWith e → e 0 ≡ None
none_told e begins = begins 0 (omega arith) ∙ nothing_first prelude

-- ---- in a work that has grown

module _ (old new : Work) (trees : KeepsTrees old new) (names : KeepsNames old.symbols new.symbols) (apart : AreToldApart new.symbols.idents) (told : AreToldApart new.symbols.symbols) where
  patterns_on : (cs : List code_rule.Rule) (rs : List (Rule Ident)) → Each (λ c r. StandsFor old c.pattern (pattern_of r)) cs rs → Each (λ c r. StandsFor new c.pattern (pattern_of r)) cs rs
  patterns_on [] [] h = h
  patterns_on [] (r ∷ rs) h = h
  patterns_on (c ∷ cs) [] h = h
  patterns_on (c ∷ cs) (r ∷ rs) h = (trees.trees c.pattern (pattern_of r) h.0, patterns_on cs rs h.1)

  pub macros_on : (ms : List PreludeMacro) (ps : List model.PreludeMacro) → AreMacros old ms ps → AreMacros new ms ps
  macros_on [] [] h = h
  macros_on [] (p ∷ ps) h = h
  macros_on (m ∷ ms) [] h = h
  macros_on (m ∷ ms) (p ∷ ps) h =
      let x = h.0 in (
        record {
          name = names.symbols m.name p.name x.name;
          read = x.read;
          shape = x.shape;
          checked = x.checked;
          rules = rules_on old new trees names apart told m.rules (written x.read) x.rules;
          patterns = patterns_on m.rules.rules (written x.read).rules x.patterns;
        },
        macros_on ms ps h.1,
      )

-- ---- copies

pub more_copied : (xs ys zs : List PreludeMacro) (k : ℕ) (x : PreludeMacro) (rules : code_rules.Rules) → k < length xs → x ≡ get_or xs k x → rules ≡ x.rules → ys ≡ take k xs → zs ≡ ys ++ record x { rules = rules } ∷ [] → zs ≡ take (k + 1) xs
more_copied xs ys zs k x rules low is same before more =
    more ∙ (λ j. before j ++ record x { rules = same j } ∷ []) ∙ ap (λ (y : PreludeMacro). take k xs ++ y ∷ []) is ∙ sym (take-suc xs k x low) ∙ ap (λ (n : ℕ). take n xs) (sym (add-one k))
